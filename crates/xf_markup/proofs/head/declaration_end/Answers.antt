use Rattle.std.proofs.Common.{codes}
use Rattle.memchr.proofs.lemmas.ValueLemmas.{FindsNeedle-value}
use Rattle.xf_markup.proofs.head.declaration_end.Goals as goal

pub returns-clause-value : goal.returns-clause-value
returns-clause-value c = FindsNeedle-value c.args.bytes.now (codes "?>") c.find.result c.find.ensures
