use Rattle.std.proofs.Common.{ap, ◌∙◌}
use Rattle.xs_template.specs.Concrete.{template_asks, template_open}
use Rattle.xs_template.proofs.TemplateLemmas.{asked_same, open_same}
use Rattle.xs_template.specs.Template.{within_words}
use Rattle.xs_expand.proofs.walk.walk_template.Goals as goal

pub walk_all_args-requires-clause-asked : goal.walk_all_args-requires-clause-asked
walk_all_args-requires-clause-asked g c = c.template_asks-asked.ensures.value ∙ ap template_asks c.in_ok-template.ensures ∙ asked_same within_words c.args.node.now

pub walk_all_args-requires-clause-more : goal.walk_all_args-requires-clause-more
walk_all_args-requires-clause-more g c = c.template_open-more.ensures ∙ ap template_open c.in_ok-template.ensures ∙ open_same within_words c.args.node.now
