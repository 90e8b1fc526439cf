use Rattle.std.proofs.Common.{List, Option, ℕ, ◌+◌, [], ◌∷◌, None, get_or, length, length-append, ap, ◌∙◌}
use Rattle.lo_paths.proofs.PlaceLemmas.{padded}
use Rattle.lo_paths.proofs.states.widen.Goals as goal

pub loop-number-preserved : goal.loop-number-preserved
loop-number-preserved c = record {
  same = λ q. ap (λ (ps : List (Option ℕ)). get_or ps q None) c.in_ok-push.ensures.ok ∙ padded c.loop-number.places q ∙ c.loop-number.invariant.same q;
  long = ap (λ (ps : List (Option ℕ)). length ps) c.in_ok-push.ensures.ok ∙ length-append c.loop-number.places (None ∷ []) ∙ ap (λ (n : ℕ). n + 1) c.loop-number.invariant.long;
}
