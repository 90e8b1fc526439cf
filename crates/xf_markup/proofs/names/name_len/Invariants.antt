use Rattle.std.proofs.Common.{◌≡◌, ◌+◌, drop}
use Rattle.xf_markup.specs.Names.{run, is_name}
use Rattle.xf_markup.proofs.names.name_len.Given as goal

abbrev pub invariant-loop-i : goal.invariant-loop-i
invariant-loop-i l = l.i + run is_name (drop l.i l.bytes) ≡ run is_name l.bytes
