-- Texts behind one another, and the terms that are written.
use Rattle.std.proofs.Common.{◌≡◌, ℕ, zero, suc, List, [], ◌∷◌, ◌++◌, map, get_or, ap, ◌∙◌, append_assoc, append-nil, codes, ◌<◌, Option, None, Some, IfSome}
use Rattle.std.specs.List.{AllByRecursion}
use Rattle.xs_model.proofs.FormLemmas.{below_of_items}
use Rattle.xs_model.specs.Accepted.{IsFormed}
use Rattle.xs_model.specs.declared.instance.Constraint.TheVariants.{Cumulative}
use Rattle.xs_model.specs.declared.term.Cond.{Cond}
use Rattle.xs_model.specs.Fields.{item_of}
use Rattle.xs_model.specs.Formed.{IsFormedItem}
use Rattle.xs_model.specs.declared.term.Term.{Term}

-- the term at a place
pub item_at : (n : ℕ) (ts : List Term) (at : ℕ) (other : Term) → AllByRecursion (IsFormedItem n) (map item_of ts) → IsFormedItem n (item_of other) → IsFormedItem n (item_of (get_or ts at other))
item_at n [] at other h o = o
item_at n (t ∷ ts) zero other h o = h.0
item_at n (t ∷ ts) (suc at) other h o = item_at n ts at other h.1 o

-- three texts behind one another
pub three_more : (new second first old a b d : List ℕ) → new ≡ second ++ d → second ≡ first ++ b → first ≡ old ++ a → new ≡ old ++ (a ++ (b ++ d))
three_more new second first old a b d h3 h2 h1 = h3 ∙ ap (λ xs. xs ++ d) (h2 ∙ ap (λ xs. xs ++ b) h1) ∙ append_assoc (old ++ a) b d ∙ append_assoc old a (b ++ d)

-- five texts
pub five_texts : (fifth fourth third second first a b d e f : List ℕ) → fifth ≡ fourth ++ f → fourth ≡ third ++ e → third ≡ second ++ d → second ≡ first ++ b → first ≡ a → fifth ≡ a ++ (b ++ (d ++ (e ++ f)))
five_texts fifth fourth third second first a b d e f h5 h4 h3 h2 h1 =
    h5 ∙ ap (λ xs. xs ++ f) (h4 ∙ ap (λ xs. xs ++ e) (h3 ∙ ap (λ xs. xs ++ d) (h2 ∙ ap (λ xs. xs ++ b) h1)))
    ∙ append_assoc ((a ++ b) ++ d) e f ∙ append_assoc (a ++ b) d (e ++ f) ∙ append_assoc a b (d ++ (e ++ f))

-- a word with a space on either side, and what stands behind it
pub spaced_word : (w t : List ℕ) → ((w ++ codes " ") ++ []) ++ t ≡ w ++ (codes " " ++ t)
spaced_word w t = ap (λ xs. xs ++ t) (append-nil (w ++ codes " ")) ∙ append_assoc w (codes " ") t

-- the variables of origins and ends are declared
module _ (n : ℕ) (vs : List ℕ) (ls hs : List Term) (x : Cond) where
  pub origins_declared : (es : Option (List ℕ)) → IsFormed n (Cumulative vs ls hs es x) → AllByRecursion (λ v. v < n) vs
  origins_declared es formed = below_of_items n vs formed.fields.0

  pub ends_declared : (es : Option (List ℕ)) → IsFormed n (Cumulative vs ls hs es x) → IfSome es (λ ends. AllByRecursion (λ v. v < n) ends)
  ends_declared None formed = tt
  ends_declared (Some ends) formed = below_of_items n ends formed.fields.1.1.1.0
