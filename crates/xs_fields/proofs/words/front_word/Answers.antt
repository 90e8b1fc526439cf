use Rattle.std.proofs.Common.{◌∷◌, take, sym, ap, ◌∙◌}
use Rattle.xs_fields.specs.Words.{words_of}
use Rattle.xs_fields.proofs.PartLemmas.{words_word, words_last}
use Rattle.xs_fields.proofs.words.front_word.Goals as goal

pub returns-in-Some-clause-value : goal.returns-in-Some-clause-value
returns-in-Some-clause-value c =
    words_word c.args.bytes.now c.in-Some.end c.requires.some c.requires.front (sym c.in-Some.ensures)
    ∙ ap (λ ys. take c.in-Some.end c.args.bytes.now ∷ words_of ys) (sym c.from.ensures)

pub returns-in-None-clause-value : goal.returns-in-None-clause-value
returns-in-None-clause-value c = words_last c.args.bytes.now c.requires.some (sym c.in-None.ensures)
