-- What `extension` of the values of one variable is lowered to (XCSP3-core, "Constraint extension"; MiniZinc Handbook,
-- "FlatZinc": set_in, set_in_reif, bool_clause). Ranges that overlap or touch are one.
use Rattle.std.specs.Prelude.{ℕ, ◌+◌, Bool, true, false, List, [], ◌∷◌, ◌++◌}
use Rattle.fz_model.specs.Calls.{call_of}
use Rattle.fz_model.specs.declared.builtin.Builtin.TheVariants.{SetIn}
use Rattle.fz_model.specs.declared.model.Arg.TheVariants as arg
use Rattle.lo_base.specs.Item.{Item, Posted}
use Rattle.lo_emit.specs.declared.term.Term.{Term}
use Rattle.lo_emit.specs.declared.term.Term.TheVariants.{Var}
use Rattle.lo_emit.specs.Conditions.{denied}
use Rattle.lo_emit.specs.Emitted.{Outs, arg_of, truth_of_range, clause}
use Rattle.lo_emit.specs.Loops.{each, for_all}
use Rattle.xf_merged.specs.Merged.{merged}
use Rattle.xf_num.specs.Span.{Bounds}

-- whether a term lies in each range
abbrev pub range_truths : ℕ → Term → List Bounds → Outs
range_truths n x bs = each (λ m b. truth_of_range m x b) n bs

-- one of some truth values is true
abbrev pub some_true : Outs → List Item
some_true c = c.items ++ Posted (clause c.terms []) ∷ []

-- a term lies in some range
abbrev pub in_some : ℕ → Term → List Bounds → List Item
in_some n x [] = Posted (clause [] []) ∷ []
in_some n x (b ∷ []) = Posted (call_of SetIn (arg_of x ∷ arg.Range b ∷ [])) ∷ []
in_some n x (b ∷ (c ∷ bs)) = some_true (range_truths n x (b ∷ (c ∷ bs)))

-- a term lies in no range
abbrev pub in_none : ℕ → Term → List Bounds → List Item
in_none n x bs = for_all (λ m b. denied m (truth_of_range m x b)) n bs

abbrev pub in_ranges : ℕ → Term → List Bounds → Bool → List Item
in_ranges n x bs true = in_some n x bs
in_ranges n x bs false = in_none n x bs

abbrev pub low_unary : ℕ → ℕ → List Bounds → Bool → List Item
low_unary n v spans positive = in_ranges n (Var v) (merged spans) positive
