use Rattle.std.proofs.Common.{subst, sym, ◌↔◌, ℤ}
use Rattle.xf_num.specs.Domain.{IsMember}
use Rattle.xf_merged.proofs.MergedLemmas.{domain_is}
use Rattle.xf_merged.proofs.domain.domain_of.Goals as goal

pub returns-in-Ok : goal.returns-in-Ok
returns-in-Ok c = domain_is c.kept.result c.args.pieces.now c.kept.ensures.ascends (subst (λ d. (v : ℤ) → IsMember d v ↔ IsMember c.args.pieces.now v) (sym c.kept.ensures.value) c.in-Ok.ensures.members)
