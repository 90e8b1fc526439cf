use Rattle.std.proofs.Common.{subst, sym, ◌↔◌, ℤ}
use Rattle.xf_num.specs.Domain.{IsMember}
use Rattle.xs_var.proofs.MergedLemmas.{domain_is}
use Rattle.xs_var.proofs.domain.domain_of.Goals as goal

pub returns-in-Ok-clause-value : goal.returns-in-Ok-clause-value
returns-in-Ok-clause-value c = domain_is c.kept.result c.args.pieces.now c.kept.ensures.ascends (subst (λ d. (v : ℤ) → IsMember d v ↔ IsMember c.args.pieces.now v) (sym c.kept.ensures.value) c.in-Ok.ensures.members)

pub returns-in-Ok-clause-members : goal.returns-in-Ok-clause-members
returns-in-Ok-clause-members c = subst (λ d. (v : ℤ) → IsMember d v ↔ IsMember c.args.pieces.now v) (sym c.kept.ensures.value) c.in-Ok.ensures.members
