use Rattle.std.proofs.Common.{◌≡◌, take}
use Rattle.lo_names.specs.Spelling.{spelled}
use Rattle.lo_names.proofs.names.spell.Given as goal

abbrev pub invariant-loop-byte : goal.invariant-loop-byte
invariant-loop-byte l = l.name ≡ spelled (take l.byte-index l.word)
