-- The outcome of the children among pieces, piece after piece.
use Rattle.std.proofs.Common.{◌≡◌, ◌<◌, ◌+◌, ℕ, List, [], ◌∷◌, ◌++◌, length, map, drop, get_or, set, slice_get, ap, sym, ◌∙◌, arith}
use Rattle.std.specs.Prelude.{Some, Result, Ok, Err}
use Rattle.std.proofs.lemmas.List.{at_drop_more, drop-set-lt}
use Rattle.std.proofs.lemmas.Option.{get_or_from_slice_get}
use Rattle.xf_markup.specs.declared.tree.Node.{Node}
use Rattle.xf_markup.specs.declared.tree.Piece.{Piece, Piece-F, out-Piece, out-roll-Piece}
use Rattle.xf_markup.specs.declared.tree.Piece.TheVariants.{Words, Inner, rolls-Words, rolls-Inner}
use Rattle.xf_text.specs.declared.fault.Fault.{Fault}
use Rattle.xf_text.specs.declared.fault.Stop.{Stop}
use Rattle.xf_text.specs.declared.fault.Stop.TheVariants.{Refused, Memory}
use Rattle.xs_var.specs.Elements.{children_of, node_step, piece_nodes}
use Rattle.xs_var.specs.Taken.{IsRead}
use Rattle.xs_var.specs.Units.{onward, outcome}
use Rattle.xs_var.specs.VarUnit.{Declared}
use Rattle.xs_var.proofs.UnitLemmas.{outcome_join}
use Rattle.xs_vars.specs.Declarations.{child_unit}

-- the outcome of the children among these pieces
abbrev Outcome : Declared → List Piece → Result Declared Fault
Outcome s ps = outcome s (map child_unit (children_of ps))

-- the children of an element, and of a text
inner : (n : Node) → piece_nodes (Inner n) ≡ n ∷ []
inner n = ap (λ p. node_step (out-Piece p)) (sym (rolls-Inner n)) ∙ ap node_step (out-roll-Piece (Piece-F.Inner n))

words : (text : List ℕ) → piece_nodes (Words text) ≡ []
words text = ap (λ p. node_step (out-Piece p)) (sym (rolls-Words text)) ∙ ap node_step (out-roll-Piece (Piece-F.Words text))

pub children_inner : (n : Node) (ps : List Piece) → children_of (Inner n ∷ ps) ≡ n ∷ children_of ps
children_inner n ps = ap (λ ns. ns ++ children_of ps) (inner n)

pub children_words : (text : List ℕ) (ps : List Piece) → children_of (Words text ∷ ps) ≡ children_of ps
children_words text ps = ap (λ ns. ns ++ children_of ps) (words text)

-- with an element in front
at_element : (s : Declared) (n : Node) (ps : List Piece) → Outcome s (Inner n ∷ ps) ≡ onward (outcome s (child_unit n ∷ [])) (map child_unit (children_of ps))
at_element s n ps = ap (λ ns. outcome s (map child_unit ns)) (children_inner n ps) ∙ outcome_join s (child_unit n ∷ []) (map child_unit (children_of ps))

-- the pieces from a place on begin with the piece there
pub record IsLeft (s : Declared) (pieces : List Piece) (at : ℕ) (p : Piece) (total : Result Declared Fault) : Type 0 where
  pub within : at < length pieces
  pub here : p ≡ get_or pieces at p
  pub same : Outcome s (drop at pieces) ≡ total

pub left_at : (s : Declared) (pieces : List Piece) (at : ℕ) (p : Piece) (total : Result Declared Fault) → at < length pieces → slice_get pieces at ≡ Some p → Outcome s (drop at pieces) ≡ total → IsLeft s pieces at p total
left_at s pieces at p total lt is e = record { within = lt; here = sym (get_or_from_slice_get pieces at p p is); same = e }

front : (s : Declared) (pieces : List Piece) (at : ℕ) (p : Piece) (total : Result Declared Fault) → IsLeft s pieces at p total → Outcome s (p ∷ drop (at + 1) pieces) ≡ total
front s pieces at p total h = ap (λ q. Outcome s (q ∷ drop (at + 1) pieces)) h.here ∙ sym (at_drop_more (λ ps. Outcome s ps) pieces at p h.within) ∙ h.same

pub past_text : (s : Declared) (pieces : List Piece) (at : ℕ) (p : Piece) (total : Result Declared Fault) (text : List ℕ) → IsLeft s pieces at p total → p ≡ Words text → Outcome s (drop (at + 1) pieces) ≡ total
past_text s pieces at p total text h e = sym (ap (λ ns. outcome s (map child_unit ns)) (children_words text (drop (at + 1) pieces))) ∙ sym (ap (λ q. Outcome s (q ∷ drop (at + 1) pieces)) e) ∙ front s pieces at p total h

element : (s : Declared) (pieces : List Piece) (at : ℕ) (p : Piece) (total : Result Declared Fault) (n : Node) → IsLeft s pieces at p total → p ≡ Inner n → onward (outcome s (child_unit n ∷ [])) (map child_unit (children_of (drop (at + 1) pieces))) ≡ total
element s pieces at p total n h e = sym (at_element s n (drop (at + 1) pieces)) ∙ sym (ap (λ q. Outcome s (q ∷ drop (at + 1) pieces)) e) ∙ front s pieces at p total h

pub past_element : (s t : Declared) (pieces : List Piece) (at : ℕ) (p : Piece) (total : Result Declared Fault) (n : Node) → IsLeft s pieces at p total → p ≡ Inner n → outcome s (child_unit n ∷ []) ≡ Ok t → Outcome t (drop (at + 1) pieces) ≡ total
past_element s t pieces at p total n h e f = sym (ap (λ r. onward r (map child_unit (children_of (drop (at + 1) pieces)))) f) ∙ element s pieces at p total n h e

-- what stands behind a place is left as it was by what is put there
pub taken : (s : Declared) (pieces more : List Piece) (at : ℕ) (filler : Piece) → more ≡ set pieces at filler → Outcome s (drop (at + 1) more) ≡ Outcome s (drop (at + 1) pieces)
taken s pieces more at filler e = ap (λ ps. Outcome s (drop (at + 1) ps)) e ∙ ap (λ ps. Outcome s ps) (drop-set-lt (at + 1) pieces at filler (omega arith))

pub stopped : {A : Type 0} (meaning : A → Declared) (s : Declared) (pieces : List Piece) (at : ℕ) (p : Piece) (total : Result Declared Fault) (n : Node) (stop : Stop) → IsLeft s pieces at p total → p ≡ Inner n → IsRead meaning (Err stop) (outcome s (child_unit n ∷ [])) → IsRead meaning (Err stop) total
stopped meaning s pieces at p total n Memory h e f = tt
stopped meaning s pieces at p total n (Refused fault) h e f = sym (element s pieces at p total n h e) ∙ ap (λ r. onward r (map child_unit (children_of (drop (at + 1) pieces)))) f
