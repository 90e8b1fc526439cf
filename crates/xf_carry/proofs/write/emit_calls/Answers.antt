use Rattle.std.proofs.Common.{subst}
use Rattle.fz_file.specs.Layout.{goal_line, names_of}
use Rattle.fz_model.specs.declared.model.Goal.{Goal}
use Rattle.fz_model.specs.declared.model.Goal.TheVariants.{Satisfy}
use Rattle.xf_text.specs.Outside.{Appended, AppendedFront}
use Rattle.xf_text.proofs.OutsideLemmas.{appended_then}
use Rattle.lo_base.specs.Partway.{on_err}
use Rattle.xf_carry.specs.Lines.{call_lines}
use Rattle.xf_carry.specs.Lowered.{low_items}
use Rattle.xf_carry.proofs.Fronts.{front_longer, front_then}
use Rattle.xf_carry.proofs.Steps.{calls_began}
use Rattle.xf_carry.proofs.write.emit_calls.Goals as goal

pub returns-in_err-goal-clause-front : goal.returns-in_err-goal-clause-front
returns-in_err-goal-clause-front g c =
    let h = g.W.Sink.holds in
    let e = c.args.emit.now in
    let items = low_items c.args.inst.now in
    on_err _ (front_longer (h e.out) (h c.lower_all.new.out.out) (call_lines e.named 0 items) (goal_line (names_of e.named) Satisfy) (calls_began h g.W.Sink.faults e c.lower_all.new.out items c.in_err-goal.ensures.stopped))

pub returns-in_err-write_goal-clause-front : goal.returns-in_err-write_goal-clause-front
returns-in_err-write_goal-clause-front g c =
    let h = g.W.Sink.holds in
    let e = c.args.emit.now in
    let f = c.lower_all.new.out in
    let items = low_items c.args.inst.now in
    let grew = c.in_ok-goal.ensures.ok in
    let last = subst (λ (z : Goal). AppendedFront (h f.out) (h c.write_goal.new.self.out) (goal_line (names_of f.named) z)) c.in_ok-goal.ensures.goal c.in_err-write_goal.ensures.front in
    on_err _ (front_then (h e.out) (h f.out) (h c.write_goal.new.self.out) (call_lines e.named 0 items) (goal_line (names_of e.named) Satisfy) grew.told last)

pub returns-clause-ok : goal.returns-clause-ok
returns-clause-ok g c =
    let h = g.W.Sink.holds in
    let e = c.args.emit.now in
    let f = c.lower_all.new.out in
    let items = low_items c.args.inst.now in
    let grew = c.in_ok-goal.ensures.ok in
    let last = subst (λ (z : Goal). Appended (h f.out) (h c.write_goal.new.self.out) (goal_line (names_of f.named) z)) c.in_ok-goal.ensures.goal c.in_ok-write_goal.ensures.ok in
    appended_then (h e.out) (h f.out) (h c.write_goal.new.self.out) (call_lines e.named 0 items) (goal_line (names_of e.named) Satisfy) grew.told last
