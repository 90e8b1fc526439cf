-- Calls that were read from no file: those that a lowering posts.
use Rattle.std.specs.Prelude.{ℕ, List, [], ◌∷◌}
use Rattle.fz_model.specs.declared.builtin.Builtin.{Builtin}
use Rattle.fz_model.specs.declared.builtin.Builtin.TheVariants.{IntNe}
use Rattle.fz_model.specs.declared.model.Arg.{Arg}
use Rattle.fz_model.specs.declared.model.Arg.TheVariants.{Var}
use Rattle.fz_model.specs.declared.model.Call.{Call}

-- the call of the builtin with these arguments, at the place 0
abbrev pub call_of : Builtin → List Arg → Call
call_of i args = record { builtin = i; args = args; place = 0 }

-- variable x differs from variable y
abbrev pub ne_call : ℕ → ℕ → Call
ne_call x y = call_of IntNe (Var x ∷ Var y ∷ [])
