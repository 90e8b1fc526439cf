use Rattle.std.proofs.Common.{◌≡◌, drop}
use Rattle.xf_top.specs.Formats.{begins_with_tag}
use Rattle.xf_top.proofs.formats.begins_with_tag.Given as goal

abbrev pub invariant-loop-byte : goal.invariant-loop-byte
invariant-loop-byte l = begins_with_tag l.bytes ≡ begins_with_tag (drop l.byte-index l.bytes)
