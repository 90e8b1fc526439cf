use Rattle.std.proofs.Common.{◌≡◌, ◌++◌, None, length, map}
use Rattle.xs_conditions.specs.Single.{direct_meets}
use Rattle.xs_fields.proofs.ScanLemmas.{Stands}
use Rattle.xs_tables.specs.Groups.{behind_of, groups_of}
use Rattle.xs_tables.proofs.ScanLemmas.{flat}
use Rattle.xs_boxes.specs.Tuples.{origin_of, tuple_meets}
use Rattle.xs_boxes.proofs.origins.scan_origins.Given as goal

abbrev pub invariant-loop-group : goal.invariant-loop-group
invariant-loop-group l = record {
  stands : Stands (origin_of l.names) (tuple_meets (direct_meets l.names)) l.left (groups_of l.text) l.missed (flat l.rows) (groups_of l.rest);
  count : l.missed ≡ None → l.count ≡ length (flat l.rows);
  value : l.missed ≡ None → l.rows ++ map (origin_of l.names) (groups_of l.rest) ≡ map (origin_of l.names) (groups_of l.text);
  behind : behind_of l.rest ≡ behind_of l.text;
}

abbrev pub decreases-loop-group : goal.decreases-loop-group
decreases-loop-group l = length l.rest
