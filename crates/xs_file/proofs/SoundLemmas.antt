-- What is held is an instance that is sound and within the limits.
use Rattle.std.proofs.Common.{◌≡◌, ℕ, ◌+◌, ◌-◌, ◌<◌, ◌≤◌, List, [], ◌∷◌, ◌++◌, length, map, Option, Some, arith}
use Rattle.std.proofs.lemmas.List.{length-append}
use Rattle.std.proofs.lemmas.List.Sums.{sum-map, sum_by-cons, sum_by-append}
use Rattle.std.specs.Prelude.{sum}
use Rattle.std.specs.List.{AllByRecursion}
use Rattle.xf_num.specs.Span.{Bounds}
use Rattle.xs_file.specs.Held.{IsHeld, progress_of}
use Rattle.xs_file.specs.Sections.{instance_of, left_of}
use Rattle.xs_model.specs.declared.instance.Constraint.{Constraint}
use Rattle.xs_model.specs.declared.instance.Objective.{Objective}
use Rattle.xs_model.specs.Accepted.{IsAccepted, IsMeasured, IsMeasuredBody, IsSoundBody, IsSoundConstraint, goal_items, items_of, most_constraints}
use Rattle.xs_model.specs.Spans.{spans_of}
use Rattle.xs_var.specs.VarUnit.{Declared}

pub held_accepted : (d : Declared) (ss : List Bounds) (cs : List Constraint) (o : Option Objective) (counted : ℕ) → IsHeld d ss cs o counted → IsAccepted (instance_of (progress_of d cs o))
held_accepted d ss cs o counted h =
    let s = h.whole.sound in
    record {
      sound = record {
        distinct = s.distinct;
        decls = s.decls;
        few = h.whole.few;
        constraints = h.constraints;
        goal = h.goal;
        satisfied = h.none;
      };
      measured = h.measured;
      measured_goal = h.measured_goal;
      cells = omega (arith, s.cells, s.few_cells);
      items = omega (arith, s.values, h.items, h.few_items);
      constraints = h.few_constraints;
    }

all_append : {X : Type 0} (P : X → Type 0) (xs : List X) (x : X) → AllByRecursion P xs → P x → AllByRecursion P (xs ++ x ∷ [])
all_append P [] x h p = (p, tt)
all_append P (y ∷ xs) x h p = (h.0, all_append P xs x h.1 p)

items_append : (cs : List Constraint) (c : Constraint) → sum (map items_of (cs ++ c ∷ [])) ≡ sum (map items_of cs) + items_of c
items_append cs c = omega (arith, sum-map items_of (cs ++ c ∷ []), sum-map items_of cs, sum_by-append items_of cs (c ∷ []), sum_by-cons items_of c [])

-- one constraint more
pub held_more : (d : Declared) (ss : List Bounds) (cs : List Constraint) (o : Option Objective) (counted : ℕ) (c : Constraint) (items : ℕ) → IsHeld d ss cs o counted → IsSoundConstraint (spans_of d.decls) c → IsMeasured (spans_of d.decls) c
    → items_of c ≤ left_of (progress_of d cs o) → length cs < most_constraints → items ≡ items_of c → IsHeld d ss (cs ++ c ∷ []) o (counted + items)
held_more d ss cs o counted c items h sound measured few room is = record {
  whole = h.whole;
  items = omega (arith, h.items, is, items_append cs c);
  few_items = omega (arith, h.items, h.few_items, is, few);
  spans = h.spans;
  constraints = all_append (IsSoundConstraint (spans_of d.decls)) cs c h.constraints sound;
  measured = all_append (IsMeasured (spans_of d.decls)) cs c h.measured measured;
  few_constraints = omega (arith, room, length-append cs (c ∷ []));
  goal = h.goal;
  measured_goal = h.measured_goal;
  none = h.none;
}
