-- A model that is read is sound and within the counts.
use Rattle.std.proofs.Common.{◌≡◌, ℕ, ◌+◌, ◌-◌, ◌≤◌, ℤ, Bool, true, false, List, length, slice_get, Option, None, Some, Result, Ok, Err, refl, subst, arith}
use Rattle.xf_text.specs.declared.fault.Fault.{Fault}
use Rattle.fz_model.specs.declared.model.Model.{Model}
use Rattle.fz_model.specs.Limits.{most_leaves}
use Rattle.fz_model.specs.Sound.{IsGoal, IsSound, booleans_of}
use Rattle.fz_tokens.specs.Tokens.{tokens_of}
use Rattle.fz_grammar.specs.Levels.{words}
use Rattle.fz_grammar.specs.Items.{IsModel}
use Rattle.fz_grammar.specs.declared.tree.Access.{Access}
use Rattle.fz_grammar.specs.declared.tree.Access.TheVariants as access
use Rattle.fz_grammar.specs.declared.tree.Goal.{Goal as WrittenGoal}
use Rattle.fz_grammar.specs.declared.tree.Goal.TheVariants as written
use Rattle.fz_grammar.specs.declared.tree.Solve.{Solve}
use Rattle.fz_grammar.specs.declared.tree.Reading.{Reading}
use Rattle.fz_values.specs.declared.meaning.Single.TheVariants as single
use Rattle.fz_values.specs.declared.meaning.Meaning.{Meaning}
use Rattle.fz_values.specs.declared.meaning.Found.{Found}
use Rattle.fz_values.specs.declared.meaning.Found.TheVariants.{Here, Past, Other}
use Rattle.fz_values.specs.Integers.{int_of}
use Rattle.fz_values.specs.Names.{look_up}
use Rattle.fz_values.specs.Kinds.{single_of, is_within}
use Rattle.fz_items.specs.declared.condition.Condition.{Condition}
use Rattle.fz_items.specs.declared.progress.Progress.{Progress}
use Rattle.fz_items.specs.Conditions.{first_missed, in_order}
use Rattle.fz_items.specs.Progress.{begun}
use Rattle.fz_items.specs.Items.{IsBound, access_in, is_int_var, var_at, objective, access_meets, solve_meets, goal_of}
use Rattle.fz_items.specs.Outcome.{fault_or, items_outcome, model_of, solve_outcome, ended, outcome}
use Rattle.fz_sound.specs.Laws.{IsCounted}
use Rattle.fz_sound.proofs.SoundValues.{IsValue, AreMeanings, looked_up, named_value, indexed_value}
use Rattle.fz_sound.proofs.SoundItems.{AreMet, all_met, IsHeld, begun_held, items_held}
use Rattle.fz_sound.proofs.NameTokens.{tokens_right}
use Rattle.fz_sound.proofs.NameItems.{items_named}
use Rattle.fz_sound.proofs.Newness.{all_differ}
use Rattle.fz_sound.proofs.NamesHeld.{names_in, IsNamed, begun_named, items_names}
use Rattle.fz_sound.proofs.CountsHeld.{used, IsWithin, begun_within, items_within}

module _ (bs : List Bool) where
  int_var : (f : Found) → IsValue bs (single_of f) → is_int_var f ≡ true → is_within f ≡ true → slice_get bs (var_at f) ≡ Some false
  int_var (Here (single.Int z)) h i w = cc
  int_var (Here (single.Bool t)) h i w = cc
  int_var (Here (single.IntVar v)) h i w = h
  int_var (Here (single.BoolVar v)) h i w = cc
  int_var (Past s) h i w = cc
  int_var Other h i w = cc

  access_value : (names : List (List ℕ × Meaning)) (a : Access) → AreMeanings bs names → IsValue bs (single_of (access_in names a))
  access_value names (access.Name w) h = named_value bs (look_up names w) (looked_up bs names w h)
  access_value names (access.Index w n) h = indexed_value bs (int_of n) (look_up names w) (looked_up bs names w h)

goal_sound : (p : Progress) (s : Solve) (g : WrittenGoal) → IsHeld p → AreMet (access_meets p.names s.notes (objective g)) → IsGoal (booleans_of p.vars) (goal_of p g)
goal_sound p s written.Satisfy h m = tt
goal_sound p s (written.Minimize a) h m = int_var (booleans_of p.vars) (access_in p.names a) (access_value (booleans_of p.vars) p.names a h.names) m.kinds m.shape
goal_sound p s (written.Maximize a) h m = int_var (booleans_of p.vars) (access_in p.names a) (access_value (booleans_of p.vars) p.names a h.names) m.kinds m.shape

abbrev Outcomes : Result Model Fault → Result Model Fault → Type 0
Outcomes a b = a ≡ b

one_model : (n m : Model) → Outcomes (Ok n) (Ok m) → n ≡ m
one_model n m h = cc

end_on : (k : Option Condition) (place : ℕ) (n m : Model) → fault_or k place (Ok n) ≡ Ok m → (k ≡ None) × (n ≡ m)
end_on None place n m e = (refl, one_model n m e)
end_on (Some k) place n m e = cc

sound : (p : Progress) (s : Solve) (place : ℕ) (m : Model) → IsHeld p → IsNamed p → IsWithin p → solve_outcome in_order p s place ≡ Ok m → IsSound m × IsCounted m
sound p s place m h n w e =
    let a = end_on (first_missed in_order (solve_meets p s)) place (model_of p s) m e in
    subst (λ k. IsSound k × IsCounted k) a.1 (
      record {
        names = n.right;
        distinct = all_differ (names_in p.vars p.outputs) n.differ;
        vars = h.vars;
        outputs = h.outputs;
        calls = h.calls;
        goal = goal_sound p s s.goal h (all_met (solve_meets p s) a.0);
      },
      record { variables = w.variables; leaves = less (used p.calls p.outputs) p.room w.leaves },
    )
  where
    less : (a b : ℕ) → a + b ≤ most_leaves → a ≤ most_leaves
    less a b g = omega (arith, g)

ended_sound : (r : Result Progress Fault) (s : Solve) (place : ℕ) (m : Model) → ((p : Progress) → r ≡ Ok p → IsHeld p) → ((p : Progress) → r ≡ Ok p → IsNamed p) → ((p : Progress) → r ≡ Ok p → IsWithin p)
    → ended in_order r s place ≡ Ok m → IsSound m × IsCounted m
ended_sound (Ok p) s place m f g k e = sound p s place m (f p refl) (g p refl) (k p refl) e
ended_sound (Err fault) s place m f g k e = cc

pub outcome_sound : (bound : Option ℤ) (text : List ℕ) (r : Reading) (m : Model) → IsBound bound → IsModel r.syntax (words (tokens_of text)) → outcome in_order bound (length text) r ≡ Ok m → IsSound m × IsCounted m
outcome_sound bound text r m right i e =
    ended_sound (items_outcome in_order bound (length text) begun r.syntax.items r.places) r.syntax.solve (length text - r.last) m
    (λ p h. items_held bound right (length text) begun r.syntax.items r.places p begun_held h)
    (λ p h. items_names bound (length text) begun r.syntax.items r.places p begun_named (items_named r.syntax (words (tokens_of text)) (tokens_right text) i) h)
    (λ p h. items_within bound (length text) begun r.syntax.items r.places p begun_within h) e
