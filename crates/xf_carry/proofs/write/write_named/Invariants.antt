use Rattle.std.proofs.Common.{◌≤◌, [], take}
use Rattle.std.specs.List.{flat_map}
use Rattle.fz_file.specs.Layout.{var_line}
use Rattle.xf_text.specs.Outside.{Appended}
use Rattle.xf_carry.proofs.write.write_named.Given as goal

abbrev pub invariant-loop-var : goal.invariant-loop-var
invariant-loop-var g l =
    let w = g.W.Sink in
    record {
      told : Appended (w.holds l.fn.out) (w.holds l.out) (flat_map (var_line []) (take l.var-index l.named));
      faults : w.faults l.fn.out ≤ w.faults l.out;
    }
