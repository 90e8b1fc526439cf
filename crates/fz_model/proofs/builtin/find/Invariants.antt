use Rattle.std.proofs.Common.{◌≡◌, drop}
use Rattle.fz_model.specs.Builtins.{look_up}
use Rattle.fz_model.proofs.builtin.find.Given as goal

abbrev pub invariant-loop-builtin : goal.invariant-loop-builtin
invariant-loop-builtin l = look_up (drop l.builtin-index l.all) l.name ≡ look_up l.all l.name
