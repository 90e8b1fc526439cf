use Rattle.std.proofs.Common.{◌++◌, ◌+ℤ◌, pos, rules, arith, ap, sym, ◌∙◌, FitsSigned}
use mir.Val.{to_z}
use Rattle.std.specs.Int.{w128}
use Rattle.std.proofs.lemmas.Int.{ints, to_z-of_z}
use Rattle.fz_file.proofs.IntegerLemmas.{written_more, due-less}
use Rattle.fz_file.proofs.number.push_past_first.Goals as goal

pub loop-value-preserved : goal.loop-value-preserved
loop-value-preserved c =
    let v = to_z w128 c.loop-value.value-bits in
    let fits : FitsSigned w128 (v +ℤ pos 1) = omega (arith, ints) in
    let same = to_z-of_z w128 (v +ℤ pos 1) fits in
    let step = due-less v c.args.span.hi (search rules) in
    record {
      within = omega (arith, ints, same);
      written = rw same (written_more _ _ _ _ _ (rw same at c.in_ok-push_after.ensures) (ap (λ z. c.loop-value.out.items ++ z) (sym step) ∙ c.loop-value.invariant.written));
    }
