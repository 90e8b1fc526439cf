use Rattle.std.proofs.Common.{◌≡◌, ◌∙◌, ap, List, [], ◌∷◌, ℕ, map, length, ◌+◌, arith, refl}
use Rattle.std.proofs.lemmas.List.{length-map}
use Rattle.xf_num.specs.Span.{Bounds}
use Rattle.xs_model.specs.Fields.{Mark}
use Rattle.xs_model.specs.Formed.{total}
use Rattle.xs_model.specs.Magnitude.{item_magnitude}
use Rattle.xs_judge.specs.Weights.{measured}
use Rattle.xs_judge.proofs.measure.weight_of_states.Goals as goal

no_magnitude : (ss : List Bounds) (qs : List ℕ) → total (map (item_magnitude ss) (map (λ q. Mark) qs)) ≡ 0
no_magnitude ss [] = refl
no_magnitude ss (q ∷ qs) = omega (arith, no_magnitude ss qs)

pub returns : goal.returns
returns c =
    let ss = c.args._spans.now in
    let qs = c.args.list.now in
    let m : 0 ≡ total (map (item_magnitude ss) (map (λ (q : ℕ). Mark) qs)) + 0 = omega (arith, no_magnitude ss qs) in
    let n : length qs ≡ length (map (λ (q : ℕ). Mark) qs) + 0 = omega (arith, length-map qs (λ (q : ℕ). Mark)) in
    c.marks.ensures ∙ ap (λ (k : ℕ). measured k (length qs)) m ∙ ap (λ (k : ℕ). measured (total (map (item_magnitude ss) (map (λ (q : ℕ). Mark) qs)) + 0) k) n
