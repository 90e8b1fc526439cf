use Rattle.std.proofs.Common.{Some, ap, sym, ◌∙◌}
use Rattle.xs_expand.proofs.SlideLemmas.{slide_run, slide_fault, told_room, told_same, told_small, told_spelt}
use Rattle.xs_template.specs.Template.{within_words}
use Rattle.xs_expand.proofs.slide.walk_texts.Goals as goal

pub make_slide-requires-clause-spelt : goal.make_slide-requires-clause-spelt
make_slide-requires-clause-spelt g c =
    told_spelt c.args.names.now c.args.node.now c.args.circular c.args.asked c.args.more c.args.offset.now c.args.text.now c.args.known.now.words (sym c.in_ok-missed.ensures ∙ c.in-None.is)

pub make_slide-requires-clause-small : goal.make_slide-requires-clause-small
make_slide-requires-clause-small g c =
    told_small c.args.names.now c.args.node.now c.args.circular c.args.asked c.args.more c.args.offset.now c.args.text.now c.args.known.now.words (sym c.in_ok-missed.ensures ∙ c.in-None.is)

pub make_slide-requires-clause-room : goal.make_slide-requires-clause-room
make_slide-requires-clause-room g c =
    told_room c.args.names.now c.args.node.now c.args.circular c.args.asked c.args.more c.args.offset.now c.args.text.now c.args.known.now.words (sym c.in_ok-missed.ensures ∙ c.in-None.is)

pub returns-in-Some-clause-run : goal.returns-in-Some-clause-run
returns-in-Some-clause-run g c =
    let same = told_same within_words c.args.names.now c.args.node.now c.args.list.now c.args.template.now c.args.circular c.args.asked c.args.more c.args.offset.now c.args.text.now c.args.known.now.words c.requires.text c.requires.offset c.requires.asked c.requires.more in
    slide_fault within_words c.args.names.now g.T.Take.taken c.args.known.now c.args.node.now c.args.list.now c.args.template.now c.args.circular c.in-Some.missed (sym same ∙ sym c.in_ok-missed.ensures ∙ c.in-Some.is) ∙ ap (λ f. record { known = c.args.known.now; fault = Some f }) (sym c.refused.ensures)

pub returns-in-None-clause-run : goal.returns-in-None-clause-run
returns-in-None-clause-run g c =
    let same = told_same within_words c.args.names.now c.args.node.now c.args.list.now c.args.template.now c.args.circular c.args.asked c.args.more c.args.offset.now c.args.text.now c.args.known.now.words c.requires.text c.requires.offset c.requires.asked c.requires.more in
    slide_run within_words c.args.names.now g.T.Take.taken c.args.known.now c.make_slide.new.known c.make_slide.result c.args.node.now c.args.list.now c.args.template.now c.args.circular c.args.text.now c.args.offset.now c.args.asked c.args.cut.now c.make_slide.ensures.run c.requires.text c.requires.offset c.requires.asked c.requires.cut (sym same ∙ sym c.in_ok-missed.ensures ∙ c.in-None.is)
