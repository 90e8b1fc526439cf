use Rattle.std.proofs.Common.{◌≡◌, ◌++◌, drop}
use Rattle.xs_model.specs.Spans.{spans_of}
use Rattle.xs_model.proofs.hulls.spans.Given as goal

abbrev pub invariant-loop-decl : goal.invariant-loop-decl
invariant-loop-decl l = l.spans ++ spans_of (drop l.decl-index l.decls) ≡ spans_of l.decls
