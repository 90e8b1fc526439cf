use Rattle.std.proofs.Common.{◌≡◌, ◌+◌, ◌≤◌, ◌++◌, drop, length}
use Rattle.lo_base.specs.Partway.{Partway}
use Rattle.lo_paths.specs.Groups.{any_of}
use Rattle.lo_paths.proofs.path.reached.Given as goal

abbrev pub invariant-loop-ways : goal.invariant-loop-ways
invariant-loop-ways g l =
    let e = g.E.Emit in
    record {
      due : Partway e.grew l.fn.out l.out (any_of (e.count l.out) (drop l.ways-index l.groups)).items (any_of (e.count l.fn.out) l.groups).items;
      terms : l.all ++ (any_of (e.count l.out) (drop l.ways-index l.groups)).terms ≡ (any_of (e.count l.fn.out) l.groups).terms;
      room : e.count l.out ≤ e.count l.fn.out + l.ways-index;
      even : length l.all ≡ l.ways-index;
    }
