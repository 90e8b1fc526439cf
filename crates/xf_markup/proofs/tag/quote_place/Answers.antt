use Rattle.memchr.specs.Find.{is_byte2}
use Rattle.memchr.proofs.lemmas.ValueLemmas.{IsFirstByte-value}
use Rattle.xf_markup.proofs.tag.quote_place.Goals as goal

pub returns-clause-value : goal.returns-clause-value
returns-clause-value c = IsFirstByte-value (is_byte2 c.args.quote 60) c.args.bytes.now c.memchr2.result c.memchr2.ensures
