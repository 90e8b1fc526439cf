use Rattle.std.proofs.Common.{◌≡◌, rules, get_or, [], ◌∙◌, sym, ap, subst, length, ◌<◌}
use Rattle.xs_model.specs.Names.{defined, cell_word, row_major}
use Rattle.xs_model.specs.Cells.{IsDefinedPlace}
use Rattle.xs_model.proofs.Places.{length-words_of, words_of-at}
use Rattle.xs_model.proofs.WordLemmas.{array_denotes, one_denotes}
use Rattle.xs_model.proofs.words.word_in.Goals as goal

pub defined_place-place-requires : goal.defined_place-place-requires
defined_place-place-requires c = subst (λ n. c.args.nth < n) (length-words_of _ _ _ _ c.in-Array.is c.requires.sound ∙ ap (λ cells. length (defined cells)) (sym c.as_slice-in-Array.ensures)) c.requires.declared

pub returns-in_ok-push_brackets-in-Array-clause-word : goal.returns-in_ok-push_brackets-in-Array-clause-word
returns-in_ok-push_brackets-in-Array-clause-word c =
    let place = subst (λ cells. IsDefinedPlace cells c.args.nth c.defined_place-place.result) c.as_slice-in-Array.ensures c.defined_place-place.ensures in
    let said = words_of-at _ _ _ _ _ _ c.in-Array.is c.requires.sound place in
    cc (c.in_ok-push_brackets-in-Array.ensures, c.in_ok-word-in-Array.ensures.items)

pub returns-in_ok-push_brackets-in-Array-clause-denotes : goal.returns-in_ok-push_brackets-in-Array-clause-denotes
returns-in_ok-push_brackets-in-Array-clause-denotes c =
    let place = subst (λ cells. IsDefinedPlace cells c.args.nth c.defined_place-place.result) c.as_slice-in-Array.ensures c.defined_place-place.ensures in
    let whole : c.push_brackets.new.word.items ≡ cell_word c.in-Array.name (get_or (row_major c.in-Array.sizes) c.defined_place-place.result []) = cc (c.in_ok-push_brackets-in-Array.ensures, c.in_ok-word-in-Array.ensures.items) in
    array_denotes c.args.decl.now c.in-Array.name c.in-Array.sizes c.in-Array.cells c.args.nth c.defined_place-place.result c.push_brackets.new.word.items c.in-Array.is c.requires.sound place (search rules) whole

pub returns-in_ok-from_slice-in-One-clause-denotes : goal.returns-in_ok-from_slice-in-One-clause-denotes
returns-in_ok-from_slice-in-One-clause-denotes c = one_denotes c.args.decl.now c.in-One.name c.in-One.domain c.args.nth c.in_ok-from_slice-in-One.field-0.items c.in-One.is c.requires.declared (c.in_ok-from_slice-in-One.ensures.items ∙ c.as_slice.ensures)
