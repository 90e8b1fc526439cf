use Rattle.std.proofs.Common.{◌≡◌, ◌++◌, drop, map}
use Rattle.xs_template.specs.Concrete.{part_from}
use Rattle.xs_template.proofs.template.push_parts.Given as goal

abbrev pub invariant-loop-pattern : goal.invariant-loop-pattern
invariant-loop-pattern g l = l.parts ++ map (part_from (g.F.Fill.text l.by)) (drop l.pattern-index l.patterns) ≡ l.initial.parts ++ map (part_from (g.F.Fill.text l.by)) l.patterns
