-- The outcome of units in two lists, one behind the other.
use Rattle.std.proofs.Common.{◌≡◌, List, [], ◌∷◌, ◌++◌, Option, None, Some, Result, ℕ, refl, ap, ◌∙◌}
use Rattle.xf_text.specs.declared.fault.Fault.{Fault}
use Rattle.xf_text.specs.declared.fault.Kind.{Kind}
use Rattle.xs_fields.specs.Conditions.{first_missed}
use Rattle.xs_fields.specs.declared.condition.Condition.{Condition}
use Rattle.xs_var.specs.Units.{UnitOf, fault_or, kind_or, onward, outcome}

onward_past : {K : Type 0} (m : Option Condition) (place : ℕ) (r : Result K Fault) (us : List (UnitOf K)) → fault_or m place (onward r us) ≡ onward (fault_or m place r) us
onward_past None place r us = refl
onward_past (Some k) place r us = refl

judged_past : {K : Type 0} (m : Option Kind) (place : ℕ) (r : Result K Fault) (us : List (UnitOf K)) → kind_or m place (onward r us) ≡ onward (kind_or m place r) us
judged_past None place r us = refl
judged_past (Some k) place r us = refl

pub outcome_join : {K : Type 0} (known : K) (us vs : List (UnitOf K)) → outcome known (us ++ vs) ≡ onward (outcome known us) vs
outcome_join known [] vs = refl
outcome_join known (u ∷ us) vs =
    let missed = first_missed (u.meets known) in
    let more = outcome (u.behind known) us in
    ap (λ r. fault_or missed u.place (kind_or (u.judged known) u.place r)) (outcome_join (u.behind known) us vs)
    ∙ ap (fault_or missed u.place) (judged_past (u.judged known) u.place more vs)
    ∙ onward_past missed u.place (kind_or (u.judged known) u.place more) vs
