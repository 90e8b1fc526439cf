use Rattle.xs_units.specs.Units.{slide_meets, texts_meet}
use Rattle.xs_units.proofs.slides.judge_pair.Goals as goal

pub returns : goal.returns
returns c =
    c.earlier.ensures.joins (slide_meets c.args.node.now) (texts_meet c.args.names.now c.args.circular c.args.asked c.args.more c.args.offset.now c.args.list.now c.args.before) c.in_ok-own.ensures c.in_ok-texts.ensures
