use Rattle.xs_notation.proofs.Written.{parse-spelt}
use Rattle.xs_notation.proofs.Again.{parse-again}
use Rattle.xs_notation.proofs.law.one_notation.Goals as goal

pub returns : goal.returns
returns c = record {
  written = λ ts r e. (parse-spelt ts r e).tokens;
  plain = λ ts r e. (parse-spelt ts r e).plain;
  again = parse-again;
}
