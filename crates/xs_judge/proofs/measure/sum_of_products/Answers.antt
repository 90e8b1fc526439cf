use Rattle.std.proofs.Common.{◌≡◌, ◌<◌, ◌≤◌, ℕ, ◌+◌, ◌*◌, take, length, pos, List, [], ◌∷◌, ◌++◌, ap, sym, ◌∙◌, arith, rules, min, ◌⊎◌}
use Rattle.std.specs.Prelude.{get_or}
use Rattle.std.proofs.lemmas.List.{get_or_read}
use Rattle.xs_model.specs.declared.term.Term.TheVariants.{Int}
use Rattle.xs_model.specs.Bounds.{operand, exactly}
use Rattle.xs_model.specs.Fields.{item_of, Variable}
use Rattle.xs_model.specs.Formed.{IsFormedItem, total}
use Rattle.xs_model.specs.Magnitude.{capped, item_magnitude, product_magnitudes}
use Rattle.xf_num.specs.Span.{magnitude_of}
use Rattle.xs_forms.proofs.FieldLemmas.{total-append}
use Rattle.xs_judge.proofs.FieldWeights.{all-at, each-at}
use Rattle.xs_judge.proofs.Fields.{product-next, product-all}
use Rattle.xs_judge.proofs.measure.sum_of_products.Goals as goal

reached : (n m k l : ℕ) → n ≡ min k l → n ≤ m → (k ≤ m) ⊎ (l ≤ m)
reached n m k l is h = grind (arith)

pub magnitude_of_term-factor-requires : goal.magnitude_of_term-factor-requires
magnitude_of_term-factor-requires c = all-at (IsFormedItem (length c.args.spans.now)) item_of c.args.coeffs.now c.loop-at.at (Int (pos 0)) (omega (arith, c.min-count.ensures, c.loop-at-test.true)) c.requires.0.0

pub loop-at-preserved : goal.loop-at-preserved
loop-at-preserved c =
    let ss = c.args.spans.now in
    let cs = c.args.coeffs.now in
    let vs = c.args.list.now in
    let k = c.loop-at.at in
    let before : List ℕ = product_magnitudes ss (take k cs) (take k vs) in
    let size : ℕ = item_magnitude ss (item_of (get_or cs k (Int (pos 0)))) * item_magnitude ss (Variable (get_or vs k 0)) in
    let within = each-at (λ v. v < length ss) vs k 0 (omega (arith, c.min-count.ensures, c.loop-at-test.true)) c.requires.0.1 in
    let same = get_or_read ss (get_or vs k 0) c.index-spans-list.result within c.index-spans-list.is (exactly (pos 0)) in
    let read : c.index-spans-list.result ≡ operand ss (get_or vs k 0) = search rules in
    let factor : c.magnitude.result ≡ item_magnitude ss (Variable (get_or vs k 0)) = c.magnitude.ensures.value ∙ ap magnitude_of read in
    let both : c.magnitude_of_term-factor.result * c.magnitude.result ≡ size = ap (λ (m : ℕ). m * c.magnitude.result) c.magnitude_of_term-factor.ensures ∙ ap (λ (m : ℕ). item_magnitude ss (item_of (get_or cs k (Int (pos 0)))) * m) factor in
    let known : c.product-next.result ≡ capped size = c.product-next.ensures ∙ ap capped both in
    let next = product-next ss cs vs k (Int (pos 0)) 0 (omega (arith, c.min-count.ensures, c.loop-at-test.true)) (omega (arith, c.min-count.ensures, c.loop-at-test.true)) in
    let sums : total before + size ≡ total (before ++ size ∷ []) = omega (arith, total-append before (size ∷ [])) in
    c.joined-sum.ensures (total before) size c.loop-at.invariant known ∙ ap capped sums ∙ ap (λ (ms : List ℕ). capped (total ms)) (sym next)

pub returns : goal.returns
returns c = c.loop-at.invariant ∙ ap (λ (ms : List ℕ). capped (total ms)) (product-all c.args.spans.now c.args.coeffs.now c.args.list.now c.loop-at.at (reached c.min-count.result c.loop-at.at _ _ c.min-count.ensures c.loop-at-test.false))
