use Rattle.std.proofs.Common.{◌≡◌, ◌++◌, drop}
use Rattle.lo_names.specs.Shown.{shown_vars}
use Rattle.lo_names.proofs.vars.named_vars.Given as goal

abbrev pub invariant-loop-decl : goal.invariant-loop-decl
invariant-loop-decl l = l.vars ++ shown_vars (drop l.decl-index l.decls) ≡ shown_vars l.decls
