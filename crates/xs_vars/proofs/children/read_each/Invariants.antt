use Rattle.std.proofs.Common.{◌≡◌, drop, map}
use Rattle.xs_var.specs.Elements.{children_of}
use Rattle.xs_var.specs.Units.{outcome}
use Rattle.xs_vars.specs.Declarations.{child_unit, declared_of, nothing}
use Rattle.xs_vars.specs.Kept.{IsKept}
use Rattle.xs_vars.proofs.children.read_each.Given as goal

abbrev pub invariant-loop-piece : goal.invariant-loop-piece
invariant-loop-piece l = record {
  same : outcome (declared_of l.known) (map child_unit (children_of (drop l.piece-index l.pieces))) ≡ outcome nothing (map child_unit (children_of l.pieces));
  kept : IsKept l.known;
}
