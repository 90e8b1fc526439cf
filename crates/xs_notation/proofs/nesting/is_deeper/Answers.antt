use Rattle.xs_notation.proofs.DepthLemmas.{deep-decided}
use Rattle.xs_notation.proofs.nesting.is_deeper.Goals as goal

pub returns : goal.returns
returns c = deep-decided c.is_too_deep.result c.args.text.now c.is_too_deep.ensures.deep c.is_too_deep.ensures.shallow
