use Rattle.std.proofs.Common.{◌≡◌, None, sym, ◌∙◌}
use Rattle.xs_fields.specs.Conditions.{first_missed}
use Rattle.xs_units.specs.Units.{args_meet}
use Rattle.xs_units.proofs.UnitLemmas.{args_run}
use Rattle.xs_template.specs.Template.{within_words}
use Rattle.xs_expand.proofs.walk.walk_args.Goals as goal

pub returns-clause-run : goal.returns-clause-run
returns-clause-run g c =
    let none : first_missed (args_meet within_words c.args.names.now c.args.node.now c.args.args.now c.args.known.now.words) ≡ None = sym c.in_ok-missed.ensures ∙ c.in-None.is in
    args_run within_words c.args.names.now g.T.Take.taken c.args.known.now c.make_args.new.known c.make_args.result c.args.node.now c.args.args.now c.as_slice-in-None.result.now c.args.asked c.args.template.now c.make_args.ensures.run (c.as_slice-in-None.ensures ∙ c.in_ok-text.ensures) c.requires.asked c.requires.template none
