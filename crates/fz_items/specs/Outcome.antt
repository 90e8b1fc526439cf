-- What the items of a text are read as: the model, or the fault of the first item that misses a condition, by its first
-- missed one, at its first byte.
use Rattle.std.specs.Prelude.{◌≡◌, ℕ, ◌-◌, ℤ, List, [], ◌∷◌, Option, None, Some, Result, Ok, Err}
use Rattle.xf_text.specs.declared.fault.Fault.{Fault}
use Rattle.xf_text.specs.declared.fault.Stop.{Stop}
use Rattle.xf_text.specs.declared.fault.Stop.TheVariants.{Refused, Memory}
use Rattle.fz_model.specs.declared.model.Model.{Model}
use Rattle.fz_grammar.specs.declared.tree.Item.{Item}
use Rattle.fz_grammar.specs.declared.tree.Solve.{Solve}
use Rattle.fz_grammar.specs.declared.tree.Reading.{Reading}
use Rattle.fz_items.specs.declared.condition.Condition.{Condition}
use Rattle.fz_items.specs.declared.progress.Progress.{Progress}
use Rattle.fz_items.specs.Conditions.{first_missed, kind_of}
use Rattle.fz_items.specs.Progress.{begun}
use Rattle.fz_items.specs.Items.{item_meets, item_behind, solve_meets, goal_of}

abbrev pub fault_or : {A : Type 0} → Option Condition → ℕ → Result A Fault → Result A Fault
fault_or None place later = later
fault_or (Some k) place later = Err (record { kind = kind_of k; place = place })

-- what is read behind these items of a text of this size, from whose first tokens on it has so many bytes; the
-- conditions that are asked are given
abbrev pub items_outcome : List Condition → Option ℤ → ℕ → Progress → List Item → List ℕ → Result Progress Fault
items_outcome asked bound size p [] ls = Ok p
items_outcome asked bound size p (x ∷ xs) [] = Ok p
items_outcome asked bound size p (x ∷ xs) (l ∷ ls) =
    fault_or (first_missed asked (item_meets bound p x)) (size - l) (items_outcome asked bound size (item_behind bound p x (size - l)) xs ls)

abbrev pub model_of : Progress → Solve → Model
model_of p s = record { vars = p.vars; outputs = p.outputs; calls = p.calls; goal = goal_of p s.goal }

abbrev pub solve_outcome : List Condition → Progress → Solve → ℕ → Result Model Fault
solve_outcome asked p s place = fault_or (first_missed asked (solve_meets p s)) place (Ok (model_of p s))

abbrev pub ended : List Condition → Result Progress Fault → Solve → ℕ → Result Model Fault
ended asked (Err fault) s place = Err fault
ended asked (Ok p) s place = solve_outcome asked p s place

-- what a whole text is read as
abbrev pub outcome : List Condition → Option ℤ → ℕ → Reading → Result Model Fault
outcome asked bound size r = ended asked (items_outcome asked bound size begun r.syntax.items r.places) r.syntax.solve (size - r.last)

-- the result is as told, or memory was wanting
abbrev pub IsRead : {A B : Type 0} → (A → B) → Result A Stop → Result B Fault → Type 0
IsRead view (Ok x) told = told ≡ Ok (view x)
IsRead view (Err (Refused fault)) told = told ≡ Err fault
IsRead view (Err Memory) told = Unit {0}
