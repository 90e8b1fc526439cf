use Rattle.std.proofs.Common.{◌∷◌, take, sym, ap, ◌∙◌}
use Rattle.xs_fields.specs.Words.{is_byte, parts}
use Rattle.xs_fields.proofs.PartLemmas.{parts_cut, parts_whole}
use Rattle.xs_fields.proofs.words.cut.Goals as goal

pub returns-in-Some-clause-value : goal.returns-in-Some-clause-value
returns-in-Some-clause-value c =
    parts_cut (is_byte c.args.stop) c.args.bytes.now c.in-Some.end (sym c.in-Some.ensures)
    ∙ ap (λ ys. take c.in-Some.end c.args.bytes.now ∷ parts (is_byte c.args.stop) ys) (sym c.from.ensures)

pub returns-in-None-clause-value : goal.returns-in-None-clause-value
returns-in-None-clause-value c = parts_whole (is_byte c.args.stop) c.args.bytes.now (sym c.in-None.ensures)
