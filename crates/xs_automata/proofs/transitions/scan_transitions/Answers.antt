use Rattle.std.proofs.Common.{◌&&◌, length, refl, ap, sym, ◌∙◌}
use Rattle.xs_automata.specs.Transitions.{step_meets, steps_of}
use Rattle.xs_automata.proofs.ScanLemmas.{read_edges, read_known, read_missed, reading_begins, step_taken}
use Rattle.xs_fields.specs.Conditions.{all_meet, first_missed}
use Rattle.xs_fields.specs.Lists.{count_meets}
use Rattle.xs_tables.specs.Groups.{behind_of, groups_of, is_blank, spelt_meets}
use Rattle.xs_tables.proofs.TableLemmas.{first_none}
use Rattle.xs_automata.proofs.transitions.scan_transitions.Goals as goal

pub loop-group-preserved : goal.loop-group-preserved
loop-group-preserved c = record {
  read =
      step_taken c.args.states.now c.args.text.now c.args.left c.loop-group.missed c.in_ok-missed.missed c.loop-group.edges c.take_step.new.edges c.loop-group.states c.take_step.new.states
      (groups_of c.loop-group.rest.now) (groups_of c.in-Some.more.now) c.in-Some.group.now c.in-Some.ensures.groups
      c.in_ok-missed.ensures.missed c.in_ok-missed.ensures.value c.in_ok-missed.ensures.known c.loop-group.invariant.read;
  behind = sym c.in-Some.ensures.behind ∙ c.loop-group.invariant.behind;
}

pub returns-clause-missed : goal.returns-clause-missed
returns-clause-missed c =
    let text = c.args.text.now in
    let left = c.args.left in
    c.earlier.ensures.joins (λ k. all_meet step_meets (groups_of text) k && count_meets (length (steps_of text)) left k) (spelt_meets (is_blank (behind_of text)))
    (read_missed c.args.states.now text left c.loop-group.missed c.loop-group.edges c.loop-group.states (groups_of c.loop-group.rest.now) c.in_default.ensures.groups c.loop-group.invariant.read)
    (c.judge_behind.ensures ∙ ap (λ b. first_missed (spelt_meets (is_blank b))) (sym c.in_default.ensures.behind ∙ c.loop-group.invariant.behind))

pub returns-clause-value : goal.returns-clause-value
returns-clause-value c = λ e.
    read_edges c.args.states.now c.args.text.now c.args.left c.loop-group.missed c.loop-group.edges c.loop-group.states (groups_of c.loop-group.rest.now) c.in_default.ensures.groups c.loop-group.invariant.read
    (first_none c.loop-group.missed c.judge_behind.result (sym c.earlier.ensures.value ∙ e))

pub returns-clause-known : goal.returns-clause-known
returns-clause-known c = λ e.
    read_known c.args.states.now c.args.text.now c.args.left c.loop-group.missed c.loop-group.edges c.loop-group.states (groups_of c.loop-group.rest.now) c.in_default.ensures.groups c.loop-group.invariant.read
    (first_none c.loop-group.missed c.judge_behind.result (sym c.earlier.ensures.value ∙ e))

pub loop-group-init : goal.loop-group-init
loop-group-init c = record { read = reading_begins c.args.states.now c.args.text.now c.args.left c.new-edges.result c.new-edges.ensures; behind = refl }
