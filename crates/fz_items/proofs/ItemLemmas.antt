-- An item that misses nothing declares a new name; items one after the other.
use Rattle.std.proofs.Common.{◌≡◌, ℕ, zero, suc, ◌≤◌, ℤ, Bool, true, false, ◌&&◌, not, List, [], ◌∷◌, length, drop, min, Option, None, Some, Ok, subst, refl, sym, ◌∙◌, arith}
use Rattle.std.specs.Prelude.{is_some, IfOk, Result}
use Rattle.xf_num.specs.declared.memory.NoMemory.{NoMemory}
use Rattle.fz_grammar.specs.declared.tree.Expr.{Expr}
use Rattle.fz_grammar.specs.declared.tree.Note.{Note}
use Rattle.fz_grammar.specs.declared.tree.Item.{Item}
use Rattle.fz_values.specs.declared.meaning.Meaning.{Meaning}
use Rattle.fz_values.specs.Names.{look_up}
use Rattle.fz_items.specs.declared.condition.Condition.{Condition}
use Rattle.fz_items.specs.declared.condition.Meets.{Meets}
use Rattle.fz_items.specs.declared.progress.Progress.{Progress}
use Rattle.fz_items.specs.Conditions.{first_missed, in_order}
use Rattle.fz_items.specs.Progress.{is_new}
use Rattle.fz_items.specs.Items.{call_meets, call_behind}
use Rattle.fz_items.specs.Outcome.{items_outcome}

left_true : (a b : Bool) → (a && b) ≡ true → a ≡ true
left_true true b h = refl
left_true false b h = cc

naming : (known named kinds magnitude shape counting bounded : Bool)
    → first_missed in_order (record { known = known; naming = named; kinds = kinds; magnitude = magnitude; shape = shape; counting = counting; bounded = bounded }) ≡ None → named ≡ true
naming true true kinds magnitude shape counting bounded h = refl
naming true false kinds magnitude shape counting bounded h = cc
naming false named kinds magnitude shape counting bounded h = cc

not_there : (o : Option Meaning) → not (is_some o) ≡ true → o ≡ None
not_there None h = refl
not_there (Some m) h = cc

pub new_name : (p : Progress) (w : List ℕ) (t : Bool) (m : Meets) → m.naming ≡ (is_new p w && t) → first_missed in_order m ≡ None → look_up p.names w ≡ None
new_name p w t m e h = not_there (look_up p.names w) (left_true (is_new p w) t (sym e ∙ naming m.known m.naming m.kinds m.magnitude m.shape m.counting m.bounded h))

module _ (asked : List Condition) (bound : Option ℤ) (size : ℕ) where
  no_lefts : (p : Progress) (xs : List Item) → items_outcome asked bound size p xs [] ≡ Ok p
  no_lefts p [] = refl
  no_lefts p (x ∷ xs) = refl

  pub done : (p : Progress) (xs : List Item) (ls : List ℕ) (i : ℕ) → min (length xs) (length ls) ≤ i → items_outcome asked bound size p (drop i xs) (drop i ls) ≡ Ok p
  done p [] ls zero h = refl
  done p [] ls (suc i) h = refl
  done p (x ∷ xs) [] zero h = refl
  done p (x ∷ xs) [] (suc i) h = no_lefts p (drop i xs)
  done p (x ∷ xs) (l ∷ ls) zero h = absurd (omega arith)
  done p (x ∷ xs) (l ∷ ls) (suc i) h = done p xs ls i (omega arith)

-- the same of a call whose parts are the same
pub same_missed : (p : Progress) (r : Result (Option Condition) NoMemory) (w v : List ℕ) (xs ys : List Expr) (ns ms : List Note) → w ≡ v → xs ≡ ys → ns ≡ ms
    → IfOk r (λ m. m ≡ first_missed in_order (call_meets p w xs ns)) → IfOk r (λ m. m ≡ first_missed in_order (call_meets p v ys ms))
same_missed p r w v xs ys ns ms e f g h =
    subst (λ t. IfOk r (λ m. m ≡ first_missed in_order (call_meets p t ys ms))) e
    (subst (λ t. IfOk r (λ m. m ≡ first_missed in_order (call_meets p w t ms))) f (subst (λ t. IfOk r (λ m. m ≡ first_missed in_order (call_meets p w xs t))) g h))

pub same_behind : (p q : Progress) (r : Result (Option Condition) NoMemory) (w v : List ℕ) (xs ys : List Expr) (place : ℕ) → w ≡ v → xs ≡ ys
    → IfOk r (λ m. m ≡ None → q ≡ call_behind p w xs place) → IfOk r (λ m. m ≡ None → q ≡ call_behind p v ys place)
same_behind p q r w v xs ys place e f h =
    subst (λ t. IfOk r (λ m. m ≡ None → q ≡ call_behind p t ys place)) e (subst (λ t. IfOk r (λ m. m ≡ None → q ≡ call_behind p w t place)) f h)
