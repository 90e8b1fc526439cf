-- What `circuit` is lowered to (XCSP3-core, "Constraint circuit"; MiniZinc Handbook, "FlatZinc": set_in, int_ne,
-- int_ne_reif, array_bool_or, bool_clause, bool2int, int_lin_eq, array_var_int_element, int_eq_reif). The places of the list
-- are counted from 0, and the index of a place is the start and the place. A place is moved where its value is not its own
-- index. Where all values are indices and no two are the same, the moved places form circuits; they are one where the walk
-- from the first of them, from each index to the value there, meets them all.
use Rattle.std.specs.Prelude.{ℕ, ◌+◌, ◌-◌, ℤ, pos, negsuc, ◌+ℤ◌, ◌-ℤ◌, if◌then◌else◌, List, [], ◌∷◌, ◌++◌, length, map, drop, slice_index_or, Option, None, Some, false}
use Rattle.std.specs.List.{range_with_len}
use Rattle.std.specs.Ordering.{int_eq}
use Rattle.fz_model.specs.Calls.{call_of}
use Rattle.fz_model.specs.declared.builtin.Builtin.TheVariants.{IntEqReif, IntNeReif, SetIn, ArrayBoolOr}
use Rattle.fz_model.specs.declared.model.Arg.TheVariants as arg
use Rattle.lo_base.specs.Item.{Item, Posted, made}
use Rattle.lo_emit.specs.declared.compare.Relation.TheVariants.{Eq}
use Rattle.lo_emit.specs.declared.term.Term.{Term}
use Rattle.lo_emit.specs.declared.term.Term.TheVariants.{Int, Truth, Var}
use Rattle.lo_emit.specs.Conditions.{term_of}
use Rattle.lo_emit.specs.Emitted.{Out, Outs, arg_of, standing, after, truth_of_two, truth_of_list, integer_of_truth, integer_of_sum, integer_of_place, clause}
use Rattle.lo_emit.specs.Loops.{each, for_all, paired}
use Rattle.lo_emit.specs.Sums.{sum_call, IsNegatableTerm}
use Rattle.lo_circuits.specs.declared.nodes.Nodes.{Nodes}
use Rattle.lo_forms.specs.Different.{low_different}
use Rattle.xf_num.specs.Span.{Bounds}
use Rattle.xs_model.specs.declared.term.Term.{Term as Operand}

-- for each member of a list in turn a term, made of the one before it
abbrev pub chained : {X : Type 0} → (ℕ → Term → X → Out) → ℕ → Term → List X → Outs
chained f n t [] = record { items = []; terms = [] }
chained f n t (x ∷ xs) = record {
  items = (f n t x).items ++ (chained f (n + made (f n t x).items) (f n t x).term xs).items;
  terms = (f n t x).term ∷ (chained f (n + made (f n t x).items) (f n t x).term xs).terms;
}

-- what comes behind the terms of a loop
abbrev pub behind_all : ℕ → Outs → (ℕ → List Term → List Item) → List Item
behind_all n c f = c.items ++ f (n + made c.items) c.terms

-- the least and the greatest index, and the indices in order
abbrev pub index_range : Nodes → Bounds
index_range c = record { lo = c.start; hi = (c.start +ℤ pos (length c.list)) -ℤ pos 1 }

abbrev pub indices : Nodes → List Term
indices c = map (λ p. Int (c.start +ℤ pos p)) (range_with_len 0 (length c.list))

-- each value is an index
abbrev pub low_inside : Bounds → ℕ → Term → List Item
low_inside w n t = Posted (call_of SetIn (arg_of t ∷ arg.Range w ∷ [])) ∷ []

-- for each place whether it is moved
abbrev pub is_moved_one : ℕ → Term × Term → Out
is_moved_one n p = truth_of_two n IntNeReif p.0 p.1

abbrev pub moves : ℕ → Nodes → Outs
moves n c = each is_moved_one n (paired c.list (indices c))

-- for each place whether it or one before it is moved
abbrev pub or_next : ℕ → Term → Term → Out
or_next n u m = truth_of_list n ArrayBoolOr (u ∷ m ∷ [])

abbrev pub seen : ℕ → List Term → Outs
seen n [] = record { items = []; terms = [] }
seen n (m ∷ ms) = record { items = (chained or_next n m ms).items; terms = m ∷ (chained or_next n m ms).terms }

-- the integers that truth values are
abbrev pub bits : ℕ → List Term → Outs
bits n ts = each integer_of_truth n ts

-- the first index of a moved place: as many indices lie from it on as places are moved or behind a moved one
abbrev pub first_index : ℕ → Nodes → List Term → Out
first_index n c zs = integer_of_sum n (index_range c) (map (λ z. pos 1) zs ++ pos 1 ∷ []) zs (c.start +ℤ pos (length c.list))

-- the place of an index, counted from 1
abbrev pub place_of : ℕ → Nodes → Term → Out
place_of n c i =
    if int_eq c.start (pos 1) then standing i
    else integer_of_sum n (record { lo = pos 1; hi = pos (length c.list) }) (pos 1 ∷ negsuc 0 ∷ []) (i ∷ []) (c.start -ℤ pos 1)

-- the value at an index
abbrev pub value_at : Nodes → ℕ → Term → Out
value_at c n i = after n (place_of n c i) (λ k p. integer_of_place k (index_range c) p c.list)

-- the indices that the walk meets from w on, as many as there are places
abbrev pub walk : ℕ → Nodes → Term → Outs
walk n c w = record {
  items = (chained (λ k i t. value_at c k i) n w (drop 1 c.list)).items;
  terms = w ∷ (chained (λ k i t. value_at c k i) n w (drop 1 c.list)).terms;
}

-- a place, where it is moved, is met by the walk; it comes as whether it is moved and its index
abbrev pub meetings : ℕ → List Term → Term → Outs
meetings n ws i = each (λ k w. truth_of_two k IntEqReif w i) n ws

abbrev pub low_met : List Term → ℕ → Term × Term → List Item
low_met ws n p = behind_all n (meetings n ws p.1) (λ k cs. Posted (clause cs (p.0 ∷ [])) ∷ [])

-- as many places are moved as the size says
abbrev pub low_size : ℕ → List Term → Option Operand → List Item
low_size n ms None = []
low_size n ms (Some t) = behind_all n (bits n ms) (λ k zs. Posted (sum_call Eq (map (λ z. pos 1) zs) zs (term_of t)) ∷ [])

-- every moved place is met, and the size
abbrev pub low_meetings : ℕ → Nodes → List Term → List Term → List Item
low_meetings n c ms ws = for_all (low_met ws) n (paired ms (indices c)) ++ low_size (n + made (for_all (low_met ws) n (paired ms (indices c)))) ms c.size

abbrev pub low_walk : ℕ → Nodes → List Term → Term → List Item
low_walk n c ms w = behind_all n (walk n c w) (λ k ws. low_meetings k c ms ws)

abbrev pub low_first : ℕ → Nodes → List Term → List Term → List Item
low_first n c ms zs = (first_index n c zs).items ++ low_walk (n + made (first_index n c zs).items) c ms (first_index n c zs).term

-- some place is moved
abbrev pub low_some : List Term → List Item
low_some us = Posted (clause (slice_index_or us (length us - 1) (Truth false) ∷ []) []) ∷ []

abbrev pub low_counted : ℕ → Nodes → List Term → List Term → List Item
low_counted n c ms us = behind_all n (bits n us) (λ k zs. low_first k c ms zs)

abbrev pub low_seen : ℕ → Nodes → List Term → List Term → List Item
low_seen n c ms us = low_some us ++ low_counted n c ms us

abbrev pub low_marked : ℕ → Nodes → List Term → List Item
low_marked n c ms = behind_all n (seen n ms) (λ k us. low_seen k c ms us)

abbrev pub low_moves : ℕ → Nodes → List Item
low_moves n c = behind_all n (moves n c) (λ k ms. low_marked k c ms)

-- every value is an index, and no two are the same
abbrev pub low_checks : ℕ → Nodes → List Item
low_checks n c = for_all (low_inside (index_range c)) n c.list ++ low_different (n + made (for_all (low_inside (index_range c)) n c.list)) c.list

abbrev pub low_nodes : ℕ → Nodes → List Item
low_nodes n c = low_checks n c ++ low_moves (n + made (low_checks n c)) c

abbrev pub nodes_of : List ℕ → ℤ → Option Operand → Nodes
nodes_of list start size = record { start = start; list = map Var list; size = size }

-- an empty list has no circuit
abbrev pub low_places : ℕ → Nodes → List Term → List Item
low_places n c [] = Posted (clause [] []) ∷ []
low_places n c (t ∷ ts) = low_nodes n c

abbrev pub low_circuit : ℕ → List ℕ → ℤ → Option Operand → List Item
low_circuit n list start size = low_places n (nodes_of list start size) (map Var list)

-- a size that is an integer can be negated, and one taken from it
abbrev pub IsNegatableSize : Option Operand → Type 0
IsNegatableSize None = Unit {0}
IsNegatableSize (Some t) = IsNegatableTerm (term_of t)
