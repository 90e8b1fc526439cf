-- What states a condition on a term (MiniZinc Handbook, "FlatZinc": int_lt, int_le, int_eq, int_ne).
use Rattle.std.specs.Prelude.{◌≡◌, ◌≢◌, ℤ, ◌≤ℤ◌, ◌<ℤ◌, [], ◌∷◌}
use Rattle.fz_model.specs.Calls.{call_of}
use Rattle.fz_model.specs.declared.builtin.Builtin.TheVariants.{IntLt, IntLe, IntEq, IntNe}
use Rattle.fz_model.specs.declared.model.Call.{Call}
use Rattle.lo_emit.specs.declared.compare.Relation.{Relation}
use Rattle.lo_emit.specs.declared.compare.Relation.TheVariants.{Lt, Le, Ge, Gt, Eq, Ne}
use Rattle.lo_emit.specs.declared.term.Term.{Term}
use Rattle.lo_emit.specs.Emitted.{arg_of}

-- the relation holds of the two
abbrev pub Related : Relation → ℤ → ℤ → Type 0
Related Lt u v = u <ℤ v
Related Le u v = u ≤ℤ v
Related Ge u v = v ≤ℤ u
Related Gt u v = v <ℤ u
Related Eq u v = u ≡ v
Related Ne u v = u ≢ v

-- the term is so related to another
abbrev pub compare_call : Relation → Term → Term → Call
compare_call Lt t u = call_of IntLt (arg_of t ∷ arg_of u ∷ [])
compare_call Le t u = call_of IntLe (arg_of t ∷ arg_of u ∷ [])
compare_call Ge t u = call_of IntLe (arg_of u ∷ arg_of t ∷ [])
compare_call Gt t u = call_of IntLt (arg_of u ∷ arg_of t ∷ [])
compare_call Eq t u = call_of IntEq (arg_of t ∷ arg_of u ∷ [])
compare_call Ne t u = call_of IntNe (arg_of t ∷ arg_of u ∷ [])
