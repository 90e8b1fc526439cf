use Rattle.std.proofs.Common.{ap, ◌∙◌}
use Rattle.xs_template.specs.Concrete.{template_asks, template_open}
use Rattle.xs_template.proofs.TemplateLemmas.{asked_same, open_same}
use Rattle.xs_template.specs.Template.{within_words}
use Rattle.xs_expand.proofs.slide.walk_pair.Goals as goal

pub walk_texts-requires-clause-asked : goal.walk_texts-requires-clause-asked
walk_texts-requires-clause-asked g c = c.template_asks-asked.ensures.value ∙ ap template_asks c.in_ok-cut.ensures ∙ asked_same within_words c.args.template.now

pub walk_texts-requires-clause-more : goal.walk_texts-requires-clause-more
walk_texts-requires-clause-more g c = c.template_open-more.ensures ∙ ap template_open c.in_ok-cut.ensures ∙ open_same within_words c.args.template.now
