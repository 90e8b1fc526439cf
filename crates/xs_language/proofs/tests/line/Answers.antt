use Rattle.std.proofs.Common.{ℕ, List, length, ap, sym, subst}
use Rattle.xs_model.specs.Accepted.{IsFormed}
use Rattle.xs_model.specs.Names.{words}
use Rattle.xs_model.specs.declared.decl.Decl.{Decl}
use Rattle.xs_language.proofs.tests.line.Goals as goal

pub write_form-requires-clause-formed : goal.write_form-requires-clause-formed
write_form-requires-clause-formed c = subst (λ (n : ℕ). IsFormed n c.args.c.now) (sym (ap (λ (ds : List Decl). length (words ds)) c.in_ok-decls.ensures)) c.requires.formed
