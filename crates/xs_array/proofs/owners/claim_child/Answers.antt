use Rattle.std.proofs.Common.{◌≡◌, ◌<◌, ℕ, List, length, subst, sym, ap, ◌∙◌, false}
use Rattle.std.specs.List.{AllByRecursion, flat_map}
use Rattle.xs_fields.specs.Words.{words_of}
use Rattle.xs_array.specs.DomainChild.{is_others, word_places}
use Rattle.xs_array.specs.Owners.{for_text}
use Rattle.xs_array.proofs.OwnerLemmas.{words_below}
use Rattle.xs_array.proofs.owners.claim_child.Goals as goal

pub are_free-free-requires : goal.are_free-free-requires
are_free-free-requires c =
    let sizes = c.args.sizes.now in
    let text = for_text c.args.node.now in
    let other : is_others text ≡ false = ap is_others (sym c.for_text-text.ensures) ∙ sym c.is_others.ensures ∙ c.if-is_others.false in
    let places_is : c.in_ok-places.places ≡ flat_map (word_places sizes) (words_of text) = c.in_ok-places.ensures ∙ ap (λ t. flat_map (word_places sizes) (words_of t)) c.for_text-text.ensures in
    let below : AllByRecursion (λ p. p < length c.args.owners.now) (flat_map (word_places sizes) (words_of text)) =
    subst (λ (n : ℕ). AllByRecursion (λ p. p < n) (flat_map (word_places sizes) (words_of text))) (sym c.requires.count) (words_below sizes (words_of text) c.requires.sizes (c.requires.cells other)) in
    subst (λ (ps : List ℕ). AllByRecursion (λ p. p < length c.args.owners.now) ps) (sym (c.as_slice.ensures ∙ places_is)) below

pub claim-requires-clause-inside : goal.claim-requires-clause-inside
claim-requires-clause-inside c =
    let sizes = c.args.sizes.now in
    let text = for_text c.args.node.now in
    let other : is_others text ≡ false = ap is_others (sym c.for_text-text.ensures) ∙ sym c.is_others.ensures ∙ c.if-is_others.false in
    let places_is : c.in_ok-places.places ≡ flat_map (word_places sizes) (words_of text) = c.in_ok-places.ensures ∙ ap (λ t. flat_map (word_places sizes) (words_of t)) c.for_text-text.ensures in
    let below : AllByRecursion (λ p. p < length c.args.owners.now) (flat_map (word_places sizes) (words_of text)) =
    subst (λ (n : ℕ). AllByRecursion (λ p. p < n) (flat_map (word_places sizes) (words_of text))) (sym c.requires.count) (words_below sizes (words_of text) c.requires.sizes (c.requires.cells other)) in
    subst (λ (ps : List ℕ). AllByRecursion (λ p. p < length c.args.owners.now) ps) (sym (c.as_slice-2.ensures ∙ places_is)) below
