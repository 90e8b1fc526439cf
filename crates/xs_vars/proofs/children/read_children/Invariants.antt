use Rattle.std.proofs.Common.{◌≡◌, drop, length, map}
use Rattle.xs_var.specs.Elements.{children_of}
use Rattle.xs_var.specs.Units.{outcome}
use Rattle.xs_vars.specs.Declarations.{child_unit, declared_of, nothing}
use Rattle.xs_vars.specs.Kept.{IsKept}
use Rattle.xs_vars.proofs.children.read_children.Given as goal

abbrev pub invariant-loop-i : goal.invariant-loop-i
invariant-loop-i l = record {
  size : length l.pieces ≡ length l.fn.pieces;
  same : outcome (declared_of l.known) (map child_unit (children_of (drop l.i l.pieces))) ≡ outcome nothing (map child_unit (children_of l.fn.pieces));
  kept : IsKept l.known;
}
