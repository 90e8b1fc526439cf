-- Texts behind one another, and the terms that are written.
use Rattle.std.proofs.Common.{◌≡◌, ℕ, zero, suc, List, [], ◌∷◌, ◌++◌, map, get_or, ap, ◌∙◌, append_assoc}
use Rattle.std.specs.List.{AllByRecursion}
use Rattle.xs_model.specs.Fields.{item_of}
use Rattle.xs_model.specs.Formed.{IsFormedItem}
use Rattle.xs_model.specs.declared.term.Term.{Term}

-- the term at a place
pub item_at : (n : ℕ) (ts : List Term) (at : ℕ) (other : Term) → AllByRecursion (IsFormedItem n) (map item_of ts) → IsFormedItem n (item_of other) → IsFormedItem n (item_of (get_or ts at other))
item_at n [] at other h o = o
item_at n (t ∷ ts) zero other h o = h.0
item_at n (t ∷ ts) (suc at) other h o = item_at n ts at other h.1 o

-- five texts behind one another
pub five_more : (new terms between vars first old a v b t z : List ℕ) → new ≡ terms ++ z → terms ≡ between ++ t → between ≡ vars ++ b → vars ≡ first ++ v → first ≡ old ++ a → new ≡ old ++ (a ++ (v ++ (b ++ (t ++ z))))
five_more new terms between vars first old a v b t z h5 h4 h3 h2 h1 =
    h5 ∙ ap (λ xs. xs ++ z) (h4 ∙ ap (λ xs. xs ++ t) (h3 ∙ ap (λ xs. xs ++ b) (h2 ∙ ap (λ xs. xs ++ v) h1)))
    ∙ append_assoc (((old ++ a) ++ v) ++ b) t z ∙ append_assoc ((old ++ a) ++ v) b (t ++ z) ∙ append_assoc (old ++ a) v (b ++ (t ++ z)) ∙ append_assoc old a (v ++ (b ++ (t ++ z)))
