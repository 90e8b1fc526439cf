-- What `noOverlap` is lowered to (XCSP3-core, "Constraint noOverlap"; MiniZinc Handbook, "FlatZinc": int_lin_le_reif,
-- int_eq_reif, bool_clause). Where zeros are ignored, a box with a length 0 is dropped, and one with a length that is a
-- variable is passed over where that is 0.
use Rattle.std.specs.Prelude.{ℕ, ◌+◌, pos, negsuc, Bool, true, false, not, List, [], ◌∷◌, ◌++◌}
use Rattle.fz_model.specs.declared.builtin.Builtin.TheVariants.{IntEqReif}
use Rattle.lo_base.specs.Item.{Item, Posted, made}
use Rattle.lo_emit.specs.declared.term.Term.{Term}
use Rattle.lo_emit.specs.declared.term.Term.TheVariants.{Int, Var}
use Rattle.lo_emit.specs.Conditions.{term_of}
use Rattle.lo_emit.specs.Emitted.{Out, Outs, truth_of_two, truth_of_sum, clause}
use Rattle.lo_emit.specs.Loops.{each, for_pairs, Step, in_turn}
use Rattle.lo_boxes.specs.declared.placed.Placed.{Placed}
use Rattle.lo_boxes.specs.declared.placed.Side.{Side}
use Rattle.xs_laws.specs.Boxes.{TermBox, term_boxes, has_zero}
use Rattle.xs_model.specs.declared.term.Term.{Term as Operand}
use Rattle.xs_model.specs.declared.term.Term.TheVariants as operand

-- the sides of a box, by its origin and its lengths
abbrev pub sides : List ℕ → List Operand → List Side
sides [] ls = []
sides (o ∷ os) [] = []
sides (o ∷ os) (l ∷ ls) = record { origin = Var o; extent = term_of l } ∷ sides os ls

-- for each dimension the side of one box with the origin of the other, and the other way round
abbrev pub gap : Side → Side → List (Side × Term)
gap s t = (s, t.origin) ∷ (t, s.origin) ∷ []

abbrev pub gaps : List Side → List Side → List (Side × Term)
gaps (s ∷ ss) (t ∷ ts) = gap s t ++ gaps ss ts
gaps ss ts = []

-- whether a side ends at an origin or before: the origin and the length of the one are at most the other
abbrev pub ends_before : ℕ → Side × Term → Out
ends_before n g = truth_of_sum n (pos 1 ∷ pos 1 ∷ negsuc 0 ∷ []) (g.0.origin ∷ g.0.extent ∷ g.1 ∷ []) (pos 0)

abbrev pub separations : ℕ → List Side → List Side → Outs
separations n ss ts = each ends_before n (gaps ss ts)

-- one of some truth values, or of these others, is true
abbrev pub some_of : Outs → List Term → List Item
some_of c others = c.items ++ Posted (clause (c.terms ++ others) []) ∷ []

-- two boxes are apart in some dimension, or a length of one is 0
abbrev pub apart : ℕ → Placed → Placed → List Item
apart n p q = some_of (separations n p.sides q.sides) (p.zeros ++ q.zeros)

-- the variables among lengths
abbrev pub variables_in : List Operand → List ℕ
variables_in [] = []
variables_in (operand.Int z ∷ ls) = variables_in ls
variables_in (operand.Var v ∷ ls) = v ∷ variables_in ls

-- whether a variable is 0
abbrev pub is_zero : ℕ → ℕ → Out
is_zero n v = truth_of_two n IntEqReif (Var v) (Int (pos 0))

-- the lengths that have to be asked whether they are 0
abbrev pub asked : Bool → List Operand → List ℕ
asked true ls = variables_in ls
asked false ls = []

abbrev pub zero_truths : Bool → ℕ → List Operand → Outs
zero_truths ignored n ls = each is_zero n (asked ignored ls)

-- a box with these lengths is not dropped
abbrev pub is_kept : Bool → List Operand → Bool
is_kept true ls = not (has_zero ls)
is_kept false ls = true

-- a box is put to those that there are, where it is kept
abbrev pub place : Bool → Bool → ℕ → List Placed → TermBox → Step (List Placed)
place true ignored n all b = record {
  items = (zero_truths ignored n b.lengths).items;
  state = all ++ record { sides = sides b.origin b.lengths; zeros = (zero_truths ignored n b.lengths).terms } ∷ [];
}
place false ignored n all b = record { items = []; state = all }

abbrev pub place_step : Bool → ℕ → List Placed → TermBox → Step (List Placed)
place_step ignored n all b = place (is_kept ignored b.lengths) ignored n all b

abbrev pub placed : Bool → ℕ → List (List ℕ) → List (List Operand) → Step (List Placed)
placed ignored n origins lengths = in_turn (place_step ignored) n [] (term_boxes origins lengths)

-- each two of some boxes are apart
abbrev pub all_apart : ℕ → Step (List Placed) → List Item
all_apart n s = s.items ++ for_pairs apart (n + made s.items) s.state

abbrev pub low_no_overlap : ℕ → List (List ℕ) → List (List Operand) → Bool → List Item
low_no_overlap n origins lengths ignored = all_apart n (placed ignored n origins lengths)
