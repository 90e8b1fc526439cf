-- Each constraint of an accepted instance has few items.
use Rattle.std.proofs.Common.{◌≡◌, ℕ, ◌+◌, ◌≤◌, List, [], ◌∷◌, map, Contains, arith}
use Rattle.std.specs.Prelude.{sum}
use Rattle.std.specs.List.{AllByRecursion}
use Rattle.std.proofs.lemmas.List.Elements.{All-from_recursion, All-contains}
use Rattle.std.proofs.lemmas.List.Sums.{sum-map, sum_by-cons}
use Rattle.xs_model.specs.Accepted.{IsAccepted, items_of}
use Rattle.xs_model.specs.Sound.{most_items}
use Rattle.xs_model.specs.declared.instance.Constraint.{Constraint}
use Rattle.xs_model.specs.declared.instance.Instance.{Instance}

each_at_most : (m : ℕ) (cs : List Constraint) → sum (map items_of cs) ≤ m → AllByRecursion (λ c. items_of c ≤ m) cs
each_at_most m [] h = tt
each_at_most m (c ∷ cs) h =
    let split : sum (map items_of (c ∷ cs)) ≡ items_of c + sum (map items_of cs) = omega (arith, sum-map items_of cs, sum-map items_of (c ∷ cs), sum_by-cons items_of c cs) in
    (omega (arith, split, h), each_at_most m cs (omega (arith, split, h)))

pub few_of_each : (i : Instance) → IsAccepted i → AllByRecursion (λ c. items_of c ≤ most_items) i.constraints
few_of_each i accepted = each_at_most most_items i.constraints (omega (arith, accepted.items))

pub few_items : (i : Instance) (c : Constraint) → IsAccepted i → Contains i.constraints c → items_of c ≤ most_items
few_items i c accepted is =
    let P : Constraint → Type 0 = λ d. items_of d ≤ most_items in
    All-contains P i.constraints c (All-from_recursion P i.constraints (few_of_each i accepted)) is
