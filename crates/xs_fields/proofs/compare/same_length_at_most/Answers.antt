use Rattle.std.proofs.Common.{◌≡◌, ◌<◌, ◌∷◌, nat_le, ap, sym, ◌∙◌, arith, suc, drop, get_or, length, length-drop}
use Rattle.std.specs.Str.Parse.{digits_value, digits_value_after}
use Rattle.xs_fields.proofs.CompareLemmas.{digits_from, digit_there, differs, all_drop}
use Rattle.xs_fields.proofs.compare.same_length_at_most.Goals as goal

pub returns-then-a-i : goal.returns-then-a-i
returns-then-a-i c =
    let a = c.args.a.now in
    let b = c.args.b.now in
    let i = c.loop-i.i in
    let n = c.loop-i.invariant.0 in
    let in_b : i < length b = omega (arith, c.requires.same, c.loop-i-test.true) in
    let same : length (drop (suc i) a) ≡ length (drop (suc i) b) = omega (arith, c.requires.same, length-drop (suc i) a, length-drop (suc i) b) in
    let decided = differs n (get_or a i 0) (get_or b i 0) (drop (suc i) a) (drop (suc i) b) c.if-a-i.true (digit_there i a c.loop-i-test.true c.requires.left) (digit_there i b in_b c.requires.right) same (all_drop (suc i) a c.requires.left) (all_drop (suc i) b c.requires.right) in
    decided
    ∙ ap (λ m. nat_le m (digits_value_after 10 n (get_or b i 0 ∷ drop (suc i) b))) (sym (digits_from n a i c.loop-i-test.true) ∙ c.loop-i.invariant.1)
    ∙ ap (λ m. nat_le (digits_value 10 a) m) (sym (digits_from n b i in_b) ∙ c.loop-i.invariant.2)
