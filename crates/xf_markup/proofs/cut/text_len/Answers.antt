use Rattle.std.proofs.Common.{Some, None, length, ap}
use Rattle.std.specs.Option.{unwrap_or}
use Rattle.memchr.specs.Find.{is_byte2}
use Rattle.memchr.proofs.lemmas.ValueLemmas.{IsFirstByte-value}
use Rattle.xf_markup.proofs.cut.text_len.Goals as goal

pub returns-in-Some-clause-value : goal.returns-in-Some-clause-value
returns-in-Some-clause-value c = ap (λ r. unwrap_or r (length c.args.bytes.now)) (IsFirstByte-value (is_byte2 60 38) c.args.bytes.now (Some c.in-Some.at) c.in-Some.ensures)

pub returns-in-None-clause-value : goal.returns-in-None-clause-value
returns-in-None-clause-value c = ap (λ r. unwrap_or r (length c.args.bytes.now)) (IsFirstByte-value (is_byte2 60 38) c.args.bytes.now None c.in-None.ensures)
