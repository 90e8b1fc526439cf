use Rattle.std.proofs.Common.{◌≡◌, ◌≤ℤ◌, subst, sym, rules, FitsSigned}
use Rattle.std.specs.Int.{w128}
use Rattle.std.proofs.lemmas.Int.{to_z-of_z}
use Rattle.xf_num.specs.Domain.{IsMember, IsDomain, least_of}
use Rattle.xf_num.proofs.Members.{least-IsMember, least_bound}
use Rattle.xf_num.proofs.domain.Domain.least.Goals as goal

pub returns-clause-member : goal.returns-clause-member
returns-clause-member c =
    let f : FitsSigned w128 c.lo.result = search rules in
    let d : IsDomain c.args.self.now = search rules in
    let e : c.lo.result ≡ least_of c.args.self.now = search rules in
    simp to_z-of_z (subst (λ z. IsMember c.args.self.now z) (sym e) (least-IsMember c.args.self.now d))

pub returns-clause-bound : goal.returns-clause-bound
returns-clause-bound c =
    let f : FitsSigned w128 c.lo.result = search rules in
    let d : IsDomain c.args.self.now = search rules in
    let e : c.lo.result ≡ least_of c.args.self.now = search rules in
    λ v m. simp to_z-of_z (subst (λ z. z ≤ℤ v) (sym e) (least_bound c.args.self.now d v m))
