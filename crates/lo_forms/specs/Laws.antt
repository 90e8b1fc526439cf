-- What is said of the items that `allDifferent` is lowered to.
use Rattle.std.specs.Prelude.{ℕ, ◌+◌, ◌*◌, List, length, map}
use Rattle.xs_model.specs.Comparing.{AreDifferent}
use Rattle.lo_emit.specs.declared.term.Term.{Term}
use Rattle.lo_rules.specs.Formed.{AreIntegerTerms}
use Rattle.lo_rules.specs.Laws.{IsLowered}
use Rattle.lo_rules.specs.Rule.{num, Always, AllBefore}
use Rattle.lo_forms.specs.Different.{low_different}

-- the law: the items of terms, which are integers, mean that their numbers differ
abbrev pub DifferentLowered : Type 0
DifferentLowered = (n : ℕ) (terms : List Term) → AllBefore n terms
    → IsLowered Always (λ a. AreDifferent (map (num a) terms)) (λ booleans. AreIntegerTerms booleans terms) n (low_different n terms) (64 * ((1 + length terms) * (1 + length terms)))
