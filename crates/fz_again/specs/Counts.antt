-- How large what is written of a model is, and that it is read as the model (MiniZinc Handbook, "FlatZinc").
use Rattle.std.specs.Prelude.{ℕ, ◌+◌, ◌≤◌, ℤ, Option, List, length}
use Rattle.std.specs.List.{sum_by}
use Rattle.fz_model.specs.declared.model.FzVar.{FzVar}
use Rattle.fz_model.specs.declared.model.Model.{Model}
use Rattle.fz_model.specs.declared.model.Output.{Output}
use Rattle.fz_model.specs.Limits.{most_variables, most_leaves}
use Rattle.fz_model.specs.Size.{call_leaves}
use Rattle.fz_model.specs.Sound.{IsSound}
use Rattle.fz_file.specs.Layout.{layout}
use Rattle.fz_items.specs.Items.{type_leaves}
use Rattle.fz_read.specs.Reading.{AreAlike, Spells}
use Rattle.fz_again.specs.Tree.{type_of}

-- the members of a domain that is written as a set
abbrev pub var_members : FzVar → ℕ
var_members v = type_leaves (type_of v.boolean v.domain)

-- the leaves of a text of the model: members of sets and of output arrays, and leaves of calls
abbrev pub leaves_of : Model → ℕ
leaves_of m = sum_by var_members m.vars + (sum_by (λ (o : Output). length o.members) m.outputs + sum_by call_leaves m.calls)

-- a model as large as those that are read
pub record IsWithinCounts (m : Model) : Type 0 where
  pub variables : length m.vars ≤ most_variables
  pub leaves : leaves_of m ≤ most_leaves

-- with the bound the text is read as the model, but for the places of calls
pub record IsReadAs (bound : Option ℤ) (text : List ℕ) (m : Model) : Type 0 where
  pub stated : Model
  pub spells : Spells bound text stated
  pub alike : AreAlike m stated

-- what is written of a sound model within the counts is read as it, with any bound
abbrev pub ReadAgain : Type 0
ReadAgain = (bound : Option ℤ) (m : Model) → IsSound m → IsWithinCounts m → IsReadAs bound (layout m) m
