-- What `extension` of tuples is lowered to (XCSP3-core, "Constraint extension"; MiniZinc Handbook, "FlatZinc":
-- int_eq_reif, array_bool_and, bool_clause). A literal says that the variable at a place has a value; it is made where it
-- is first needed, once per place and value. What agrees with every value needs none.
use Rattle.std.specs.Prelude.{ℕ, ◌+◌, ℤ, Bool, true, false, List, [], ◌∷◌, ◌++◌, Option, None, Some}
use Rattle.fz_model.specs.declared.builtin.Builtin.TheVariants.{ArrayBoolAnd}
use Rattle.lo_base.specs.Item.{Item, Posted, made}
use Rattle.lo_emit.specs.declared.literal.Cell.{Cell}
use Rattle.lo_emit.specs.declared.literal.Literal.{Literal}
use Rattle.lo_emit.specs.declared.term.Term.TheVariants.{Var}
use Rattle.lo_emit.specs.Emitted.{truth_of_list, clause}
use Rattle.lo_emit.specs.Literals.{Looked, Found, literals_of}
use Rattle.lo_emit.specs.Loops.{Step, in_turn}

-- the integer of an entry, its place and the variable there
abbrev pub cell_of : ℕ → ℕ → Option ℤ → List Cell
cell_of p x None = []
cell_of p x (Some z) = record { place = p; variable = x; value = z } ∷ []

-- the integers of a tuple, from place p on
abbrev pub cells : ℕ → List ℕ → List (Option ℤ) → List Cell
cells p [] es = []
cells p (x ∷ xs) [] = []
cells p (x ∷ xs) (e ∷ es) = cell_of p x e ++ cells (p + 1) xs es

-- whether all of some literals are true
abbrev pub anded : ℕ → Step Found → Looked
anded n s = record { items = s.items ++ (truth_of_list (n + made s.items) ArrayBoolAnd s.state.terms).items; table = s.state.table; term = Var (n + made s.items) }

-- whether the variables of the cells have the values there
abbrev pub matched : ℕ → List Literal → List Cell → Looked
matched n table cs = anded n (literals_of n table cs)

-- some literal is false
abbrev pub refuted : Step Found → Step (List Literal)
refuted s = record { items = s.items ++ Posted (clause [] s.state.terms) ∷ []; state = s.state.table }

-- some variable of the cells has not the value there
abbrev pub refused : ℕ → List Literal → List Cell → Step (List Literal)
refused n table cs = refuted (literals_of n table cs)

-- supports: whether the variables agree with each tuple, and last that they do with one
abbrev pub support_step : List ℕ → ℕ → Found → List (Option ℤ) → Step Found
support_step xs n s es = record {
  items = (matched n s.table (cells 0 xs es)).items;
  state = record { table = (matched n s.table (cells 0 xs es)).table; terms = s.terms ++ (matched n s.table (cells 0 xs es)).term ∷ [] };
}

abbrev pub supports : ℕ → List Literal → List ℕ → List (List (Option ℤ)) → Step Found
supports n table xs tuples = in_turn (support_step xs) n (record { table = table; terms = [] }) tuples

abbrev pub supported : Step Found → Step (List Literal)
supported s = record { items = s.items ++ Posted (clause s.state.terms []) ∷ []; state = s.state.table }

-- conflicts: the variables agree with no tuple
abbrev pub conflict_step : List ℕ → ℕ → List Literal → List (Option ℤ) → Step (List Literal)
conflict_step xs n table es = refused n table (cells 0 xs es)

abbrev pub conflicts : ℕ → List Literal → List ℕ → List (List (Option ℤ)) → Step (List Literal)
conflicts n table xs tuples = in_turn (conflict_step xs) n table tuples

-- where the literals of the table are there
abbrev pub tabled : ℕ → List Literal → List ℕ → List (List (Option ℤ)) → Bool → Step (List Literal)
tabled n table xs tuples true = supported (supports n table xs tuples)
tabled n table xs tuples false = conflicts n table xs tuples

abbrev pub low_extension : ℕ → List ℕ → List (List (Option ℤ)) → Bool → List Item
low_extension n xs tuples positive = (tabled n [] xs tuples positive).items
