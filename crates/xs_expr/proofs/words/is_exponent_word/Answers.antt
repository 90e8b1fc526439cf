use Rattle.std.proofs.Common.{sym, ◌∙◌}
use Rattle.xs_fields.specs.Integers.{integer_of}
use Rattle.xs_expr.proofs.WordLemmas.{value-of-err}
use Rattle.xs_expr.proofs.words.is_exponent_word.Goals as goal

pub returns-in-Err : goal.returns-in-Err
returns-in-Err c = sym (value-of-err (integer_of c.args.word.now) c.in-Err.field-0 (sym c.read_integer.ensures ∙ c.in-Err.is))
