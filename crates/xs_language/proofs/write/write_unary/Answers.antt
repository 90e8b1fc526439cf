use Rattle.std.proofs.Common.{◌++◌, ◌∷◌, [], List, ℕ, codes, ap, ◌∙◌, append_assoc}
use Rattle.xs_language.specs.Written.{closing, list_text, opening, ranges_text}
use Rattle.xs_model.specs.Names.{words}
use Rattle.xs_language.proofs.ElementLemmas.{extension_bytes}
use Rattle.xs_language.proofs.ShapeLemmas.{three_behind}
use Rattle.xs_language.proofs.write.write_unary.Goals as goal

pub returns : goal.returns
returns c =
    let list = list_text (words c.args.decls.now) (c.args.variable ∷ []) in
    let table = ranges_text c.args.spans.now in
    let head : List ℕ = codes "<extension> <list>" ++ (list ++ opening c.args.positive) in
    three_behind c.extend_from_slice.new.self.items c.write_ranges.new.out.items c.write_head.new.out.items c.new-out.result.items
    head table c.closing.result.now c.in_ok-extend_from_slice.ensures.items c.in_ok-write_ranges.ensures c.in_ok-write_head.ensures
    ∙ ap (λ xs. xs ++ (head ++ (table ++ c.closing.result.now))) c.new-out.ensures.items
    ∙ ap (λ xs. head ++ (table ++ xs)) c.closing.ensures
    ∙ ap (λ xs. codes "<extension> <list>" ++ xs) (append_assoc list (opening c.args.positive) (table ++ closing c.args.positive)) ∙ extension_bytes c.args.positive list table
