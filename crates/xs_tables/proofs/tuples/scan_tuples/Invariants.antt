use Rattle.std.proofs.Common.{◌≡◌, ◌++◌, None, length, map}
use Rattle.xs_fields.proofs.ScanLemmas.{Stands}
use Rattle.xs_tables.specs.Groups.{behind_of, groups_of}
use Rattle.xs_tables.specs.Tuples.{tuple_meets, tuple_of, tuples_of}
use Rattle.xs_tables.proofs.ScanLemmas.{flat}
use Rattle.xs_tables.proofs.tuples.scan_tuples.Given as goal

abbrev pub invariant-loop-group : goal.invariant-loop-group
invariant-loop-group l = record {
  stands : Stands tuple_of tuple_meets l.left (groups_of l.text) l.missed (flat l.tuples) (groups_of l.rest);
  count : l.missed ≡ None → l.count ≡ length (flat l.tuples);
  value : l.missed ≡ None → l.tuples ++ map tuple_of (groups_of l.rest) ≡ tuples_of l.text;
  behind : behind_of l.rest ≡ behind_of l.text;
}

abbrev pub decreases-loop-group : goal.decreases-loop-group
decreases-loop-group l = length l.rest
