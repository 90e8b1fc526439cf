use Rattle.std.proofs.Common.{subst, true}
use Rattle.xs_file.specs.Sections.{IsStep, Progress, taken}
use Rattle.xs_file.proofs.RunLemmas.{step_taken}
use Rattle.xs_file.proofs.lent.LentTake.take.Goals as goal

pub returns : goal.returns
returns c =
    let new = c.take_constraint.new.held in
    let r = c.take_constraint.result in
    step_taken c.args.self.now new c.args.made r (subst (λ (s : Progress). IsStep (taken true s c.args.made) s new r) c.self.view_is c.take_constraint.ensures.taken)
