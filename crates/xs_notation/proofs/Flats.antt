-- The tokens of each kind of expression.
use Rattle.std.proofs.Common.{◌≡◌, ℕ, List, [], ◌∷◌, ◌++◌, append_assoc, codes, map, refl, sym, ap, ◌∙◌, Bool, true, false, ◌&&◌, rules}
use Rattle.std.specs.List.{list_all}
use Rattle.std.proofs.lemmas.List.{append-nil}
use Rattle.xs_model.specs.declared.expr.Op.{Op}
use Rattle.xs_expr.specs.Text.{name_of}
use Rattle.xs_notation.specs.declared.raw.Raw.{Raw, Word, Call, the_lemmas}
use Rattle.xs_notation.specs.Notation.{behind, listed, flat, is_plain, are_plain}

pub flat-Word : (w : List ℕ) → flat (Word w) ≡ w ∷ []
flat-Word w = search (rules, the_lemmas)

pub flat-Call : (op : Op) (rs : List Raw) → flat (Call op rs) ≡ name_of op ∷ codes "(" ∷ (listed (map flat rs) ++ (codes ")" ∷ []))
flat-Call op rs = search (rules, the_lemmas)

pub plain-Word : (w : List ℕ) → are_plain (Word w) ≡ is_plain w
plain-Word w = search (rules, the_lemmas)

pub plain-Call : (op : Op) (rs : List Raw) → are_plain (Call op rs) ≡ list_all (λ p. p) (map are_plain rs)
plain-Call op rs = search (rules, the_lemmas)

-- the tokens of operands, a comma behind each
abbrev pub followed : List (List (List ℕ)) → List (List ℕ)
followed [] = []
followed (t ∷ ts) = t ++ (codes "," ∷ followed ts)

behind-followed : (ts : List (List (List ℕ))) (t : List (List ℕ)) → behind (ts ++ t ∷ []) ≡ codes "," ∷ (followed ts ++ t)
behind-followed [] t = ap (λ xs. codes "," ∷ xs) (append-nil t)
behind-followed (u ∷ ts) t =
    ap (λ xs. codes "," ∷ (u ++ xs)) (behind-followed ts t)
    ∙ ap (λ xs. codes "," ∷ xs) (sym (append_assoc u (codes "," ∷ followed ts) t))

-- operands with one more
pub listed-followed : (ts : List (List (List ℕ))) (t : List (List ℕ)) → listed (ts ++ t ∷ []) ≡ followed ts ++ t
listed-followed [] t = append-nil t
listed-followed (u ∷ ts) t = ap (λ xs. u ++ xs) (behind-followed ts t) ∙ sym (append_assoc u (codes "," ∷ followed ts) t)

pub followed-both : (ts us : List (List (List ℕ))) → followed (ts ++ us) ≡ followed ts ++ followed us
followed-both [] us = refl
followed-both (t ∷ ts) us = ap (λ xs. t ++ (codes "," ∷ xs)) (followed-both ts us) ∙ sym (append_assoc t (codes "," ∷ followed ts) (followed us))

pub all-both : (ps qs : List Bool) → list_all (λ p. p) (ps ++ qs) ≡ (list_all (λ p. p) ps && list_all (λ p. p) qs)
all-both [] qs = refl
all-both (true ∷ ps) qs = all-both ps qs
all-both (false ∷ ps) qs = refl
