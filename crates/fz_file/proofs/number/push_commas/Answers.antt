use Rattle.std.proofs.Common.{◌<◌, ◌++◌, ℕ, ℤ, pos, List, get_or, length, sym, ap, ◌∙◌, rules, FitsSigned, arith}
use Rattle.std.specs.Int.{w128}
use Rattle.std.proofs.lemmas.Int.{to_z-of_z}
use Rattle.std.proofs.lemmas.List.{at_drop_more}
use Rattle.fz_file.specs.Layout.{commas, numbers}
use Rattle.fz_file.proofs.IntegerLemmas.{written_more}
use Rattle.fz_file.proofs.number.push_commas.Goals as goal

pub loop-value-preserved : goal.loop-value-preserved
loop-value-preserved c =
    let i = c.loop-value.value-index in
    let values = c.args.values.now in
    let lt : i < length values = omega arith in
    let fits : FitsSigned w128 (get_or values i (pos 0)) = search rules in
    let same = to_z-of_z w128 (get_or values i (pos 0)) fits in
    let F : List ℤ → List ℕ = λ zs. commas (numbers zs) in
    written_more _ _ _ _ _ (rw same at c.in_ok-push_after.ensures) (ap (λ z. c.loop-value.out.items ++ z) (sym (at_drop_more F values i (pos 0) lt)) ∙ c.loop-value.invariant)
