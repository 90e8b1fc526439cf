use Rattle.std.proofs.Common.{sym, subst}
use Rattle.std.proofs.lemmas.Option.{IfSome_then}
use Rattle.std.specs.List.{AllByRecursion}
use Rattle.xs_model.specs.Outline.{IsNamed, IsSoundOutline}
use Rattle.xs_model.proofs.NamesLemmas.{named, has_name}
use Rattle.xs_model.proofs.names.Names.position.Goals as goal

pub returns-clause-found : goal.returns-clause-found
returns-clause-found c = IfSome_then c.position.result c.position.ensures.found (λ at h. subst (λ os. IsNamed os at c.args.name.now) c.self.view_is (named c.self.inside.table at c.args.name.now h))

pub returns-clause-only : goal.returns-clause-only
returns-clause-only c = λ at h. c.position.ensures.only at (has_name c.self.inside.table at c.args.name.now (subst (λ os. IsNamed os at c.args.name.now) (sym c.self.view_is) h))

pub returns-clause-sound : goal.returns-clause-sound
returns-clause-sound c = subst (AllByRecursion IsSoundOutline) c.self.view_is c.self.invariant.sound
