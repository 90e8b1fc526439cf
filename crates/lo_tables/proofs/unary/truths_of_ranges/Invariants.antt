use Rattle.std.proofs.Common.{◌≡◌, ◌+◌, ◌≤◌, ◌++◌, drop}
use Rattle.lo_base.specs.Partway.{Partway}
use Rattle.lo_tables.specs.Unary.{range_truths}
use Rattle.lo_tables.proofs.unary.truths_of_ranges.Given as goal

abbrev pub invariant-loop-range : goal.invariant-loop-range
invariant-loop-range g l =
    let e = g.E.Emit in
    record {
      due : Partway e.grew l.fn.out l.out (range_truths (e.count l.out) l.x (drop l.range-index l.ranges)).items (range_truths (e.count l.fn.out) l.x l.ranges).items;
      terms : l.all ++ (range_truths (e.count l.out) l.x (drop l.range-index l.ranges)).terms ≡ (range_truths (e.count l.fn.out) l.x l.ranges).terms;
      room : e.count l.out ≤ e.count l.fn.out + l.range-index;
    }
