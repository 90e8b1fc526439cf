use Rattle.std.proofs.Common.{◌≡◌, ◌+◌, ◌≤◌, drop}
use Rattle.lo_base.specs.Partway.{Partway}
use Rattle.lo_emit.specs.Loops.{in_turn}
use Rattle.lo_emit.specs.Literals.{literals_of, literal_step}
use Rattle.lo_emit.proofs.literal.literals_of.Given as goal

abbrev pub invariant-loop-cell : goal.invariant-loop-cell
invariant-loop-cell g l =
    let e = g.E.Emit in
    record {
      due : Partway e.grew l.fn.out l.out (in_turn literal_step (e.count l.out) (record { table = l.table; terms = l.all }) (drop l.cell-index l.cells)).items (literals_of (e.count l.fn.out) l.fn.table l.cells).items;
      state : (in_turn literal_step (e.count l.out) (record { table = l.table; terms = l.all }) (drop l.cell-index l.cells)).state ≡ (literals_of (e.count l.fn.out) l.fn.table l.cells).state;
      room : e.count l.out ≤ e.count l.fn.out + l.cell-index;
    }
