use Rattle.std.proofs.Common.{◌≡◌, ◌++◌, drop}
use Rattle.xs_template.specs.Concrete.{pairs_of}
use Rattle.xs_template.proofs.concrete.pairs_of.Given as goal

abbrev pub invariant-loop-attr : goal.invariant-loop-attr
invariant-loop-attr l = l.pairs ++ pairs_of (drop l.attr-index l.attrs) ≡ pairs_of l.attrs
