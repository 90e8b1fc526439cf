-- The size of a model.
use Rattle.std.specs.Prelude.{ℕ, ◌+◌, length, map, sum}
use Rattle.fz_model.specs.declared.model.Arg.{Arg}
use Rattle.fz_model.specs.declared.model.Arg.TheOpen.{Arg-F}
use Rattle.fz_model.specs.declared.model.Arg.TheFolds.{fold-Arg}
use Rattle.fz_model.specs.declared.model.Call.{Call}
use Rattle.fz_model.specs.declared.model.Model.{Model}

-- an argument, with the leaves of each member of a list in its place
abbrev pub leaves_step : Arg-F ℕ → ℕ
leaves_step (Arg-F.Int z) = 1
leaves_step (Arg-F.Bool t) = 1
leaves_step (Arg-F.Var k) = 1
leaves_step (Arg-F.Range s) = 2
leaves_step (Arg-F.Set zs) = length zs
leaves_step (Arg-F.List ns) = sum ns

-- the leaves of an argument: one for each integer, Boolean or variable, also inside lists and sets, and two for a range
abbrev pub leaves_of : Arg → ℕ
leaves_of = fold-Arg ℕ leaves_step

abbrev pub call_leaves : Call → ℕ
call_leaves c = sum (map leaves_of c.args)

-- the number of variables and of the leaves of all calls
abbrev pub size_of : Model → ℕ
size_of m = length m.vars + sum (map call_leaves m.calls)
