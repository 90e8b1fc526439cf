-- One attribute more.
use Rattle.std.proofs.Common.{◌≡◌, ℕ, suc, List, [], ◌∷◌, ◌++◌, Option, Some, None, refl, ap, sym, ◌∙◌, append_assoc}
use Rattle.xf_markup.specs.declared.tree.Attr.{Attr}
use Rattle.xf_markup.specs.Tag.{Tail, with_front, tail_at, tail_of, tail_on, end_at, attr_at, attr_of}

front_join : (out : List Attr) (a : Attr) (t : Option Tail) → with_front (out ++ a ∷ []) t ≡ with_front out (with_front (a ∷ []) t)
front_join out a None = refl
front_join out a (Some t) = ap (λ xs. Some (record { attrs = xs; is_empty = t.is_empty; rest = t.rest })) (append_assoc out (a ∷ []) t.attrs)

pub tail_suc : (m : ℕ) (rest name value after : List ℕ) → end_at rest ≡ None → attr_at rest ≡ Some (name, value, after) → tail_at (suc m) rest ≡ with_front (attr_of name value ∷ []) (tail_at m after)
tail_suc m rest name value after h e = ap (λ t. tail_of t (tail_on (attr_at rest) (tail_at m))) h ∙ ap (λ x. tail_on x (tail_at m)) e

pub tail_more : (out new : List Attr) (m k : ℕ) (rest name value after : List ℕ) → end_at rest ≡ None → attr_at rest ≡ Some (name, value, after) → k ≡ suc m → new ≡ out ++ attr_of name value ∷ []
    → with_front new (tail_at m after) ≡ with_front out (tail_at k rest)
tail_more out new m k rest name value after h e count is =
    ap (λ xs. with_front xs (tail_at m after)) is ∙ front_join out (attr_of name value) (tail_at m after) ∙ ap (with_front out) (sym (tail_suc m rest name value after h e)) ∙ ap (λ n. with_front out (tail_at n rest)) (sym count)
