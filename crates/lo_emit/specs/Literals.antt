-- Literals: each says whether a variable has a value, and is made where it is first needed (MiniZinc Handbook, "FlatZinc":
-- int_eq_reif).
use Rattle.std.specs.Prelude.{ℕ, ◌+◌, ◌==◌, ◌&&◌, if◌then◌else◌, ℤ, Bool, List, [], ◌∷◌, ◌++◌, Option, None, Some}
use Rattle.std.specs.Ordering.{int_eq}
use Rattle.fz_model.specs.declared.builtin.Builtin.TheVariants.{IntEqReif}
use Rattle.lo_base.specs.Item.{Item}
use Rattle.lo_emit.specs.declared.literal.Cell.{Cell}
use Rattle.lo_emit.specs.declared.literal.Literal.{Literal}
use Rattle.lo_emit.specs.declared.term.Term.{Term}
use Rattle.lo_emit.specs.declared.term.Term.TheVariants.{Int, Var}
use Rattle.lo_emit.specs.Emitted.{Out, truth_of_two}
use Rattle.lo_emit.specs.Loops.{Step, in_turn}

abbrev pub is_same : Cell → Cell → Bool
is_same c d = (c.place == d.place) && ((c.variable == d.variable) && int_eq c.value d.value)

-- the literal of a cell, where there is one
abbrev pub find : List Literal → Cell → Option Term
find [] c = None
find (l ∷ ls) c = if is_same l.cell c then Some l.truth else find ls c

-- what is appended, the literals that there are afterwards, and that of the cell
pub record Looked : Type 0 where
  pub items : List Item
  pub table : List Literal
  pub term : Term

abbrev pub equal : ℕ → Cell → Out
equal n c = truth_of_two n IntEqReif (Var c.variable) (Int c.value)

abbrev pub looked : ℕ → List Literal → Cell → Option Term → Looked
looked n table c None = record { items = (equal n c).items; table = table ++ record { cell = c; truth = Var n } ∷ []; term = Var n }
looked n table c (Some t) = record { items = []; table = table; term = t }

abbrev pub literal_of : ℕ → List Literal → Cell → Looked
literal_of n table c = looked n table c (find table c)

-- the literals that there are, and those of the cells so far
pub record Found : Type 0 where
  pub table : List Literal
  pub terms : List Term

abbrev pub literal_step : ℕ → Found → Cell → Step Found
literal_step n s c = record {
  items = (literal_of n s.table c).items;
  state = record { table = (literal_of n s.table c).table; terms = s.terms ++ (literal_of n s.table c).term ∷ [] };
}

abbrev pub literals_of : ℕ → List Literal → List Cell → Step Found
literals_of n table cells = in_turn literal_step n (record { table = table; terms = [] }) cells
