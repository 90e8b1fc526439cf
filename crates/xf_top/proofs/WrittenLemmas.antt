-- A text that was written, or a front of it.
use Rattle.std.proofs.Common.{ℕ, List, Option, refl}
use Rattle.std.specs.Prelude.{OnOk, OnErr, IsErrOf, Result, Ok, Err}
use Rattle.lo_base.specs.declared.emit.EmitStop.{EmitStop}
use Rattle.lo_base.specs.declared.emit.EmitStop.TheVariants.{Failed, Memory}
use Rattle.xf_text.specs.Outside.{Appended, AppendedFront, Rose}
use Rattle.xf_top.specs.Texts.{IsWritten}

pub written_so : (text : List ℕ) (write write' : ℕ) (old new : Option (List ℕ)) (r : Result (Unit {0}) EmitStop)
    → OnOk r (Appended old new text) → OnErr r (AppendedFront old new text) → (IsErrOf r Failed → Rose write write') → IsWritten text write write' old new r
written_so text write write' old new (Ok u) ok front cause = ok
written_so text write write' old new (Err Failed) ok front cause = (cause refl, front)
written_so text write write' old new (Err Memory) ok front cause = front
