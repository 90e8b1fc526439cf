use Rattle.std.proofs.Common.{◌≡◌, drop, map}
use Rattle.xs_var.specs.Elements.{is_one_of}
use Rattle.xs_var.proofs.element.is_one_of.Given as goal

abbrev pub invariant-loop-known : goal.invariant-loop-known
invariant-loop-known l = is_one_of (map (λ known. known.now) (drop l.known-index l.names)) l.name ≡ is_one_of (map (λ known. known.now) l.names) l.name
