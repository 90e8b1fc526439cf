-- The children of pieces, one of which is replaced by a text.
use Rattle.std.proofs.Common.{◌≡◌, ◌<◌, ◌+◌, ℕ, suc, List, [], ◌∷◌, ◌++◌, length, take, drop, set, slice_get, Some, ap, sym, ◌∙◌}
use Rattle.std.proofs.lemmas.Grind.{flat_map-append}
use Rattle.std.proofs.lemmas.List.{set-get_or, set_split, take_more_set}
use Rattle.std.proofs.lemmas.Option.{get_or_from_slice_get}
use Rattle.xf_markup.specs.declared.tree.Node.{Node}
use Rattle.xf_markup.specs.declared.tree.Piece.{Piece}
use Rattle.xf_markup.specs.declared.tree.Piece.TheVariants.{Words, Inner}
use Rattle.xs_var.specs.Elements.{children_of, piece_nodes}
use Rattle.xs_vars.proofs.ChildLemmas.{children_inner, children_words}

-- no child stands before the piece at a place
pub record IsAhead (ps : List Piece) (at : ℕ) (p : Piece) : Type 0 where
  pub within : at < length ps
  pub here : slice_get ps at ≡ Some p
  pub none : children_of (take at ps) ≡ []

-- with another piece there, the children are its own and those behind it
put : (ps : List Piece) (at : ℕ) (p q : Piece) → IsAhead ps at p → children_of (set ps at q) ≡ children_of (q ∷ drop (suc at) ps)
put ps at p q h =
    ap (λ xs. children_of xs) (set_split ps at q h.within)
    ∙ flat_map-append piece_nodes (take at ps) (q ∷ drop (suc at) ps)
    ∙ ap (λ ns. ns ++ children_of (q ∷ drop (suc at) ps)) h.none

whole : (ps : List Piece) (at : ℕ) (p : Piece) → IsAhead ps at p → children_of ps ≡ children_of (p ∷ drop (suc at) ps)
whole ps at p h = ap (λ xs. children_of xs) (sym (set-get_or ps at p) ∙ ap (λ x. set ps at x) (get_or_from_slice_get ps at p p h.here)) ∙ put ps at p p h

emptied : (ps more : List Piece) (at : ℕ) (p : Piece) (filler : List ℕ) → IsAhead ps at p → more ≡ set ps at (Words filler) → children_of more ≡ children_of (drop (suc at) ps)
emptied ps more at p filler h e = ap (λ xs. children_of xs) e ∙ put ps at p (Words filler) h ∙ children_words filler (drop (suc at) ps)

pub element_out : (ps more : List Piece) (at : ℕ) (p : Piece) (n : Node) (filler : List ℕ) → IsAhead ps at p → p ≡ Inner n → more ≡ set ps at (Words filler) → children_of ps ≡ n ∷ children_of more
element_out ps more at p n filler h is e =
    whole ps at p h
    ∙ ap (λ q. children_of (q ∷ drop (suc at) ps)) is
    ∙ children_inner n (drop (suc at) ps)
    ∙ ap (λ ns. n ∷ ns) (sym (emptied ps more at p filler h e))

pub text_out : (ps more : List Piece) (at : ℕ) (p : Piece) (text filler : List ℕ) → IsAhead ps at p → p ≡ Words text → more ≡ set ps at (Words filler) → children_of more ≡ children_of ps
text_out ps more at p text filler h is e =
    emptied ps more at p filler h e
    ∙ sym (whole ps at p h ∙ ap (λ q. children_of (q ∷ drop (suc at) ps)) is ∙ children_words text (drop (suc at) ps))

pub none_ahead : (ps more : List Piece) (at : ℕ) (p : Piece) (filler : List ℕ) → IsAhead ps at p → more ≡ set ps at (Words filler) → children_of (take (at + 1) more) ≡ []
none_ahead ps more at p filler h e =
    ap (λ xs. children_of (take (at + 1) xs)) e
    ∙ ap (λ xs. children_of xs) (take_more_set ps at (Words filler) h.within)
    ∙ flat_map-append piece_nodes (take at ps) (Words filler ∷ [])
    ∙ ap (λ ns. ns ++ children_of (Words filler ∷ [])) h.none
    ∙ children_words filler []
