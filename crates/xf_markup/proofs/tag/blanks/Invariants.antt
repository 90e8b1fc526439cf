use Rattle.std.proofs.Common.{◌≡◌, ◌+◌, drop}
use Rattle.xf_markup.specs.Names.{run}
use Rattle.xf_markup.specs.Tag.{is_blank}
use Rattle.xf_markup.proofs.tag.blanks.Given as goal

abbrev pub invariant-loop-i : goal.invariant-loop-i
invariant-loop-i l = l.i + run is_blank (drop l.i l.bytes) ≡ run is_blank l.bytes
