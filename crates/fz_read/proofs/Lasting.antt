-- What is read without a bound is denoted.
use Rattle.std.proofs.Common.{◌≡◌, ℕ, ◌-◌, ℤ, Bool, true, false, List, [], ◌∷◌, length, Option, None, Some, Result, Ok, Err, refl, ap, ◌∙◌}
use Rattle.xf_text.specs.declared.fault.Fault.{Fault}
use Rattle.fz_model.specs.declared.model.Model.{Model}
use Rattle.fz_grammar.specs.declared.tree.Item.{Item}
use Rattle.fz_grammar.specs.declared.tree.Solve.{Solve}
use Rattle.fz_items.specs.declared.condition.Condition.{Condition}
use Rattle.fz_items.specs.declared.condition.Meets.{Meets}
use Rattle.fz_items.specs.declared.progress.Progress.{Progress}
use Rattle.fz_items.specs.Conditions.{first_missed, in_order, lasting}
use Rattle.fz_items.specs.Progress.{begun}
use Rattle.fz_items.specs.Items.{item_meets, item_behind, solve_meets}
use Rattle.fz_items.specs.Outcome.{fault_or, items_outcome, model_of, solve_outcome, ended}
use Rattle.fz_read.specs.Reading.{Denotes, Spells}

lasting_on : (a b c d e f g : Bool) → first_missed in_order (record { known = a; naming = b; kinds = c; magnitude = d; shape = e; counting = f; bounded = g }) ≡ None
    → first_missed lasting (record { known = a; naming = b; kinds = c; magnitude = d; shape = e; counting = f; bounded = g }) ≡ None
lasting_on true true true true true true true h = refl
lasting_on true true true true true true false h = cc
lasting_on true true true true true false g h = cc
lasting_on true true true true false f g h = cc
lasting_on true true true false e f g h = cc
lasting_on true true false d e f g h = cc
lasting_on true false c d e f g h = cc
lasting_on false b c d e f g h = cc

lasting_none : (m : Meets) → first_missed in_order m ≡ None → first_missed lasting m ≡ None
lasting_none m h = lasting_on m.known m.naming m.kinds m.magnitude m.shape m.counting m.bounded h

later : {A : Type 0} (k : Option Condition) (place : ℕ) (r : Result A Fault) (q : A) → fault_or k place r ≡ Ok q → (k ≡ None) × (r ≡ Ok q)
later None place r q e = (refl, e)
later (Some k) place r q e = cc

items_lasting : (bound : Option ℤ) (size : ℕ) (p : Progress) (xs : List Item) (ls : List ℕ) (q : Progress) → items_outcome in_order bound size p xs ls ≡ Ok q → items_outcome lasting bound size p xs ls ≡ Ok q
items_lasting bound size p [] ls q e = e
items_lasting bound size p (x ∷ xs) [] q e = e
items_lasting bound size p (x ∷ xs) (l ∷ ls) q e =
    let a = later (first_missed in_order (item_meets bound p x)) (size - l) (items_outcome in_order bound size (item_behind bound p x (size - l)) xs ls) q e in
    ap (λ k. fault_or k (size - l) (items_outcome lasting bound size (item_behind bound p x (size - l)) xs ls)) (lasting_none (item_meets bound p x) a.0)
    ∙ items_lasting bound size (item_behind bound p x (size - l)) xs ls q a.1

solve_lasting : (p : Progress) (s : Solve) (place : ℕ) (m : Model) → solve_outcome in_order p s place ≡ Ok m → solve_outcome lasting p s place ≡ Ok m
solve_lasting p s place m e =
    let a = later (first_missed in_order (solve_meets p s)) place (Ok (model_of p s)) m e in
    ap (λ k. fault_or k place (Ok (model_of p s))) (lasting_none (solve_meets p s) a.0) ∙ a.1

ended_lasting : (r t : Result Progress Fault) (s : Solve) (place : ℕ) (m : Model) → ((p : Progress) → r ≡ Ok p → t ≡ Ok p) → ended in_order r s place ≡ Ok m → ended lasting t s place ≡ Ok m
ended_lasting (Ok p) t s place m f e = ap (λ x. ended lasting x s place) (f p refl) ∙ solve_lasting p s place m e
ended_lasting (Err fault) t s place m f e = cc

pub denoted : (text : List ℕ) (m : Model) → Spells None text m → Denotes text m
denoted text m h = record {
  reading = h.reading;
  stated = m;
  items = h.items;
  meets =
      ended_lasting (items_outcome in_order None (length text) begun h.reading.syntax.items h.reading.places) (items_outcome lasting None (length text) begun h.reading.syntax.items h.reading.places)
      h.reading.syntax.solve (length text - h.reading.last) m (λ p e. items_lasting None (length text) begun h.reading.syntax.items h.reading.places p e) h.meets;
  alike = record { vars = refl; outputs = refl; calls = refl; goal = refl };
}
