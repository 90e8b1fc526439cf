-- What `cumulative` is lowered to (XCSP3-core, "Constraint cumulative"; MiniZinc Handbook, "FlatZinc": int_lin_eq, int_lin_le,
-- int_le_reif, int_lt_reif, array_bool_and, bool2int, int_times). The heights of the tasks that run meet the limit where
-- none runs, and at the start of each.
use Rattle.std.specs.Prelude.{ℕ, ◌+◌, ℤ, pos, List, [], ◌∷◌, ◌++◌, map, Option, None, Some}
use Rattle.fz_model.specs.declared.builtin.Builtin.TheVariants.{ArrayBoolAnd, IntLeReif, IntLtReif, IntTimes}
use Rattle.lo_base.specs.Item.{Item, Posted, made}
use Rattle.lo_emit.specs.declared.compare.Relation.TheVariants as relation
use Rattle.lo_emit.specs.declared.term.Term.{Term}
use Rattle.lo_emit.specs.declared.term.Term.TheVariants.{Int, Var}
use Rattle.lo_emit.specs.Compare.{compare_call}
use Rattle.lo_emit.specs.Conditions.{term_of, integer_sum}
use Rattle.lo_emit.specs.Emitted.{Out, Outs, after, standing, integer_of_truth, integer_of_two, truth_of_list, truth_of_two, truth_values}
use Rattle.lo_emit.specs.Loops.{each, for_all}
use Rattle.lo_emit.specs.Sums.{sum_call}
use Rattle.lo_tasks.specs.declared.task.Limit.{Limit}
use Rattle.lo_tasks.specs.declared.task.Task.{Task}
use Rattle.xf_num.specs.Span.{Bounds, add_ends, mul_ends}
use Rattle.xs_model.specs.declared.term.Cond.{Cond}
use Rattle.xs_model.specs.declared.term.Cond.TheVariants.{Lt, Le}
use Rattle.xs_model.specs.declared.term.Term.{Term as Operand}
use Rattle.xs_model.specs.declared.term.Term.TheVariants as operand
use Rattle.xs_model.specs.Magnitude.{term_bounds}

-- the members of two lists side by side
abbrev pub beside : {X Y : Type 0} → List X → List Y → List (X × Y)
beside [] ys = []
beside (x ∷ xs) [] = []
beside (x ∷ xs) (y ∷ ys) = (x, y) ∷ beside xs ys

-- the bounds of a start plus a length
abbrev pub end_bounds : List Bounds → ℕ → Operand → Bounds
end_bounds ss s l = add_ends (term_bounds ss (operand.Var s)) (term_bounds ss l)

-- a new integer, which is a start plus a length
abbrev pub new_end : List Bounds → ℕ → ℕ × Operand → Out
new_end ss n p = integer_sum n (end_bounds ss p.0 p.1) (pos 1 ∷ pos 1 ∷ []) (Var p.0 ∷ term_of p.1 ∷ [])

abbrev pub new_ends : List Bounds → ℕ → List ℕ → List Operand → Outs
new_ends ss n origins lengths = each (new_end ss) n (beside origins lengths)

-- a start plus a length is an end that is given
abbrev pub given_end : ℕ → (ℕ × Operand) × ℕ → List Item
given_end n p = Posted (sum_call relation.Eq (pos 1 ∷ pos 1 ∷ []) (Var p.0.0 ∷ term_of p.0.1 ∷ []) (Var p.1)) ∷ []

abbrev pub given_ends : ℕ → List ℕ → List Operand → List ℕ → List Item
given_ends n origins lengths ends = for_all given_end n (beside (beside origins lengths) ends)

-- the tasks by their starts, ends and heights
abbrev pub tasks_of : List ℕ → List Term → List Operand → List Task
tasks_of [] es hs = []
tasks_of (s ∷ ss) [] hs = []
tasks_of (s ∷ ss) (e ∷ es) [] = []
tasks_of (s ∷ ss) (e ∷ es) (h ∷ hs) = record { start = Var s; end = e; height = h } ∷ tasks_of ss es hs

-- whether a task runs at a time: it has begun, and does not end before or then
abbrev pub truth_of_run : Term → ℕ → Task → Out
truth_of_run t n task =
    after n (truth_of_two n IntLeReif task.start t) (λ k p. after k (truth_of_two k IntLtReif t task.end) (λ j q. truth_of_list j ArrayBoolAnd (p ∷ q ∷ [])))

-- the same as 0 or 1
abbrev pub integer_of_run : Term → ℕ → Task → Out
integer_of_run t n task = after n (truth_of_run t n task) (λ k r. integer_of_truth k r)

-- the product with a height: a literal height is the factor in the sum
abbrev pub product_of : List Bounds → Operand → ℕ → Term → Out
product_of ss (operand.Int h) n z = standing z
product_of ss (operand.Var h) n z = integer_of_two n (mul_ends (term_bounds ss (operand.Var h)) truth_values) IntTimes (Var h) z

abbrev pub factor_of : Operand → ℤ
factor_of (operand.Int h) = h
factor_of (operand.Var h) = pos 1

-- what a task adds to the sum at a time
abbrev pub share_of : List Bounds → Term → ℕ → Task → Out
share_of ss t n task = after n (integer_of_run t n task) (product_of ss task.height)

abbrev pub shares_of : List Bounds → List Task → Term → ℕ → Outs
shares_of ss tasks t n = each (share_of ss t) n tasks

abbrev pub factors_of : List Task → List ℤ
factors_of tasks = map (λ (task : Task). factor_of task.height) tasks

-- the sum at a time meets the limit
abbrev pub low_load : List Bounds → Limit → List Task → ℕ → Term → List Item
low_load ss limit tasks n t =
    (shares_of ss tasks t n).items ++ Posted (sum_call limit.relation (factors_of tasks) (shares_of ss tasks t n).terms limit.bound) ∷ []

-- at the start of each of some tasks
abbrev pub low_loads : List Bounds → Limit → List Task → ℕ → List Task → List Item
low_loads ss limit tasks n starting = for_all (λ k (task : Task). low_load ss limit tasks k task.start) n starting

-- 0 meets the limit
abbrev pub low_idle : Limit → List Item
low_idle limit = Posted (compare_call limit.relation (Int (pos 0)) limit.bound) ∷ []

-- with new ends, and with ends that are given
abbrev pub behind_new : List Bounds → Limit → ℕ → List ℕ → List Operand → Outs → List Item
behind_new ss limit n origins heights ends = ends.items ++ low_loads ss limit (tasks_of origins ends.terms heights) (n + made ends.items) (tasks_of origins ends.terms heights)

abbrev pub behind_given : List Bounds → Limit → ℕ → List ℕ → List Operand → List ℕ → List Item → List Item
behind_given ss limit n origins heights ends stated =
    stated ++ low_loads ss limit (tasks_of origins (map Var ends) heights) (n + made stated) (tasks_of origins (map Var ends) heights)

abbrev pub behind_ends : List Bounds → Limit → ℕ → List ℕ → List Operand → List Operand → Option (List ℕ) → List Item
behind_ends ss limit n origins lengths heights None = behind_new ss limit n origins heights (new_ends ss n origins lengths)
behind_ends ss limit n origins lengths heights (Some ends) = behind_given ss limit n origins heights ends (given_ends n origins lengths ends)

abbrev pub low_tasks : List Bounds → Limit → ℕ → List ℕ → List Operand → List Operand → Option (List ℕ) → List Item
low_tasks ss limit n origins lengths heights ends = low_idle limit ++ behind_ends ss limit n origins lengths heights ends

-- the condition is a limit: less than a term, or at most it
abbrev pub low_cumulative : List Bounds → ℕ → List ℕ → List Operand → List Operand → Option (List ℕ) → Cond → List Item
low_cumulative ss n origins lengths heights ends (Lt u) = low_tasks ss (record { relation = relation.Lt; bound = term_of u }) n origins lengths heights ends
low_cumulative ss n origins lengths heights ends (Le u) = low_tasks ss (record { relation = relation.Le; bound = term_of u }) n origins lengths heights ends
low_cumulative ss n origins lengths heights ends cond = []
