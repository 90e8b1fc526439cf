use Rattle.std.proofs.Common.{◌≡◌, drop}
use Rattle.std.specs.List.{list_any}
use Rattle.xs_laws.specs.Tables.{is_matched}
use Rattle.xs_model.specs.Instance.{values}
use Rattle.xs_tables.proofs.holds.some_matched.Given as goal

abbrev pub invariant-loop-tuple : goal.invariant-loop-tuple
invariant-loop-tuple l = list_any (is_matched (values l.a l.list)) (drop l.tuple-index l.tuples) ≡ list_any (is_matched (values l.a l.list)) l.tuples
