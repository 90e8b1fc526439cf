use Rattle.std.proofs.Common.{◌≡◌, ◌≤ℤ◌, ◌∙◌, subst, sym, rules, FitsSigned}
use Rattle.std.specs.Int.{w128}
use Rattle.std.proofs.lemmas.Int.{to_z-of_z}
use Rattle.xf_num.specs.Domain.{IsMember, IsDomain, greatest_of}
use Rattle.xf_num.proofs.Members.{greatest-IsMember, greatest_bound, greatest_is}
use Rattle.xf_num.proofs.domain.Domain.greatest.Goals as goal

pub returns-clause-value : goal.returns-clause-value
returns-clause-value c =
    let f : FitsSigned w128 c.hi.result = search rules in
    let d : IsDomain c.args.self.now = search rules in
    simp to_z-of_z (c.hi.ensures.value ∙ greatest_is c.args.self.now c.index-as_slice-len.result d (search rules))

pub returns-clause-member : goal.returns-clause-member
returns-clause-member c =
    let d : IsDomain c.args.self.now = search rules in
    subst (λ z. IsMember c.args.self.now z) (sym (returns-clause-value c)) (greatest-IsMember c.args.self.now d)

pub returns-clause-bound : goal.returns-clause-bound
returns-clause-bound c =
    let d : IsDomain c.args.self.now = search rules in
    λ v m. subst (λ z. v ≤ℤ z) (sym (returns-clause-value c)) (greatest_bound c.args.self.now d v m)
