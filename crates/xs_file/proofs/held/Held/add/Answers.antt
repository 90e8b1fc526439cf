use Rattle.std.proofs.Common.{◌<◌, ◌≤◌, List, ◌+◌, length, subst, sym}
use Rattle.xs_var.specs.VarUnit.{Declared}
use Rattle.xs_file.proofs.SoundLemmas.{held_more}
use Rattle.xs_file.specs.Held.{IsHeld}
use Rattle.xs_file.specs.Sections.{Progress, left_of}
use Rattle.xs_model.specs.declared.instance.Constraint.{Constraint}
use Rattle.xs_model.specs.Accepted.{IsMeasured, IsSoundConstraint, items_of, most_constraints}
use Rattle.xs_model.specs.Spans.{spans_of}
use Rattle.xs_file.proofs.held.Held.add.Goals as goal

pub invariant_of-self-2 : goal.invariant_of-self-2
invariant_of-self-2 c =
    let i = c.self.inside in
    let d : Declared = record { decls = i.decls; cells = i.cells; values = i.values } in
    let is = sym c.self.view_is in
    let more = held_more d i.spans i.constraints i.objective i.items c.args.constraint c.count_items-items.result c.self.invariant
    (subst (λ (p : Progress). IsSoundConstraint (spans_of p.declared.decls) c.args.constraint) is c.requires.sound)
    (subst (λ (p : Progress). IsMeasured (spans_of p.declared.decls) c.args.constraint) is c.requires.measured)
    (subst (λ (p : Progress). items_of c.args.constraint ≤ left_of p) is c.requires.items)
    (subst (λ (p : Progress). length p.constraints < most_constraints) is c.requires.few)
    c.count_items-items.ensures in
    subst (λ (cs : List Constraint). IsHeld d i.spans cs i.objective (i.items + c.count_items-items.result)) (sym c.in_ok-push.ensures.ok) more
