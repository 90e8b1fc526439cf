-- What `regular` and `mdd` are lowered to (XCSP3-core, "Constraint regular" and "Constraint mdd"; MiniZinc Handbook,
-- "FlatZinc": int_eq_reif, array_bool_and, array_bool_or, bool_clause). The live states of a layer are those that as many
-- transitions as there are layers before lead to, each once, in the order in which they are first a target.
use Rattle.std.specs.Prelude.{ℕ, ◌+◌, if◌then◌else◌, eqb, ℤ, Bool, true, false, List, [], ◌∷◌, ◌++◌, map, Option, None, Some}
use Rattle.std.specs.List.{list_any}
use Rattle.fz_model.specs.declared.builtin.Builtin.TheVariants.{ArrayBoolAnd, ArrayBoolOr}
use Rattle.lo_base.specs.Item.{Item, Posted, made}
use Rattle.lo_emit.specs.declared.literal.Cell.{Cell}
use Rattle.lo_emit.specs.declared.literal.Literal.{Literal}
use Rattle.lo_emit.specs.declared.term.Term.{Term}
use Rattle.lo_emit.specs.declared.term.Term.TheVariants.{Int, Truth, Var}
use Rattle.lo_emit.specs.Emitted.{Out, Outs, standing, truth_of_list, clause}
use Rattle.lo_emit.specs.Literals.{Looked, literal_of}
use Rattle.lo_emit.specs.Loops.{Step, in_turn, each}
use Rattle.lo_paths.specs.declared.path.Arrival.{Arrival}
use Rattle.lo_paths.specs.declared.path.Layer.{Layer}
use Rattle.xs_model.specs.declared.instance.Edge.{Edge}
use Rattle.xs_paths.specs.Layers.{once}

-- what tells whether a state is reached, where it is live
abbrev pub reach : List ℕ → List Term → ℕ → Option Term
reach [] ts q = None
reach (p ∷ ps) [] q = None
reach (p ∷ ps) (t ∷ ts) q = if eqb p q then Some t else reach ps ts q

-- whether both are true; where the first is known to be, that is the second
abbrev pub passed : ℕ → Term → Term → Out
passed n (Truth true) l = standing l
passed n (Truth false) l = truth_of_list n ArrayBoolAnd (Truth false ∷ l ∷ [])
passed n (Int z) l = truth_of_list n ArrayBoolAnd (Int z ∷ l ∷ [])
passed n (Var v) l = truth_of_list n ArrayBoolAnd (Var v ∷ l ∷ [])

-- the literals of the layer's variable that there are, and the targets so far
pub record Gathered : Type 0 where
  pub table : List Literal
  pub arrivals : List Arrival

-- whether the transition is taken from a state that is reached as r says
abbrev pub taken : ℕ → Term → Looked → Looked
taken n r l = record { items = l.items ++ (passed (n + made l.items) r l.term).items; table = l.table; term = (passed (n + made l.items) r l.term).term }

abbrev pub edge_cell : ℕ → Edge → Cell
edge_cell x e = record { place = 0; variable = x; value = e.value }

abbrev pub arrived : ℕ → Gathered → Edge → Looked → Step Gathered
arrived n s e l = record { items = l.items; state = record { table = l.table; arrivals = s.arrivals ++ record { state = e.to; truth = l.term } ∷ [] } }

-- a transition from a live state arrives at its target; any other is left out
abbrev pub arrive : ℕ → ℕ → Gathered → Edge → Option Term → Step Gathered
arrive x n s e None = record { items = []; state = s }
arrive x n s e (Some r) = arrived n s e (taken n r (literal_of n s.table (edge_cell x e)))

abbrev pub arrive_step : ℕ → Layer → ℕ → Gathered → Edge → Step Gathered
arrive_step x layer n s e = arrive x n s e (reach layer.states layer.truths e.from)

-- literals are shared within a layer
abbrev pub gathered : List Edge → ℕ → Layer → ℕ → Step Gathered
gathered edges n layer x = in_turn (arrive_step x layer) n (record { table = []; arrivals = [] }) edges

-- the states that are arrived at, in order of first target, and what tells whether one is arrived at
abbrev pub targets_of : List Arrival → List ℕ
targets_of rs = once (map (λ a. a.state) rs)

-- a list with one more state, where it is not there
abbrev pub with_one : List ℕ → ℕ → List ℕ
with_one qs q = if list_any (eqb q) qs then qs else qs ++ q ∷ []

abbrev pub arriving_one : ℕ → Arrival → List Term
arriving_one q a = if eqb a.state q then a.truth ∷ [] else []

abbrev pub arriving : ℕ → List Arrival → List Term
arriving q [] = []
arriving q (a ∷ rs) = arriving_one q a ++ arriving q rs

abbrev pub reached : List Arrival → ℕ → List ℕ → Outs
reached rs n qs = each (λ m q. truth_of_list m ArrayBoolOr (arriving q rs)) n qs

abbrev pub reached_behind : ℕ → Step Gathered → Step Layer
reached_behind n g = record {
  items = g.items ++ (reached g.state.arrivals (n + made g.items) (targets_of g.state.arrivals)).items;
  state = record { states = targets_of g.state.arrivals; truths = (reached g.state.arrivals (n + made g.items) (targets_of g.state.arrivals)).terms };
}

-- the next layer, by the value of a variable
abbrev pub next_layer : List Edge → ℕ → Layer → ℕ → Step Layer
next_layer edges n layer x = reached_behind n (gathered edges n layer x)

-- what tells of the final states among these whether they are reached
abbrev pub final_one : List ℕ → ℕ → Term → List Term
final_one finals q t = if list_any (eqb q) finals then t ∷ [] else []

abbrev pub final_truths : List ℕ → List ℕ → List Term → List Term
final_truths finals [] ts = []
final_truths finals (q ∷ qs) [] = []
final_truths finals (q ∷ qs) (t ∷ ts) = final_one finals q t ++ final_truths finals qs ts

-- some live final state is reached behind the last layer
abbrev pub low_layers : List Edge → List ℕ → ℕ → Layer → List ℕ → List Item
low_layers edges finals n layer [] = Posted (clause (final_truths finals layer.states layer.truths) []) ∷ []
low_layers edges finals n layer (x ∷ xs) =
    (next_layer edges n layer x).items ++ low_layers edges finals (n + made (next_layer edges n layer x).items) (next_layer edges n layer x).state xs

-- the start alone, which is reached
abbrev pub first_layer : ℕ → Layer
first_layer start = record { states = start ∷ []; truths = Truth true ∷ [] }

abbrev pub low_regular : ℕ → List ℕ → List Edge → ℕ → List ℕ → List Item
low_regular n xs edges start finals = low_layers edges finals n (first_layer start) xs

abbrev pub low_mdd : ℕ → List ℕ → List Edge → ℕ → ℕ → List Item
low_mdd n xs edges root leaf = low_regular n xs edges root (leaf ∷ [])
