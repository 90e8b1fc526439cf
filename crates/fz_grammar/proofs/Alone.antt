-- A text has one answer.
use Rattle.std.proofs.Common.{◌≡◌, ◌⊎◌, inl, inr, ℕ, ◌+◌, ◌≤◌, List, [], ◌∷◌, ◌++◌, append_assoc, Result, Ok, Err, refl, ap, sym, ◌∙◌, subst, arith}
use Rattle.std.proofs.lemmas.List.{append-nil}
use Rattle.fz_tokens.specs.Tokens.{Token, Placed}
use Rattle.fz_grammar.specs.Levels.{levels, moved, level, AreLow, words}
use Rattle.fz_grammar.specs.Reading.{left_of}
use Rattle.fz_grammar.specs.Fits.{Fits, Stops, IsMisfit, IsTooDeep}
use Rattle.fz_grammar.specs.Items.{IsModel}
use Rattle.fz_grammar.specs.Answers.{Answers, IsMisfitOr, IsDeepOr}
use Rattle.fz_grammar.specs.declared.halt.Fault.TheVariants as faults
use Rattle.fz_grammar.specs.declared.halt.Halt.{Halt}
use Rattle.fz_grammar.specs.declared.halt.Halt.TheVariants as halts
use Rattle.fz_grammar.specs.declared.tree.Reading.{Reading}
use Rattle.fz_grammar.proofs.Laws.{words-append}

-- the second front is longer
pub record Longer (f r g s : List Placed) : Type 0 where
  pub next : Placed
  pub more : List Placed
  pub front : g ≡ f ++ next ∷ more
  pub rest : r ≡ next ∷ (more ++ s)

-- two fronts of one list
abbrev Fronts : List Placed → List Placed → List Placed → List Placed → Type 0
Fronts f r g s = ((f ≡ g) × (r ≡ s)) ⊎ (Longer f r g s ⊎ Longer g s f r)

more_fronts : (p : Placed) (f r g s : List Placed) → Fronts f r g s → Fronts (p ∷ f) r (p ∷ g) s
more_fronts p f r g s (inl e) = inl (ap (λ l. p ∷ l) e.0, e.1)
more_fronts p f r g s (inr (inl l)) = inr (inl (record { next = l.next; more = l.more; front = ap (λ m. p ∷ m) l.front; rest = l.rest }))
more_fronts p f r g s (inr (inr l)) = inr (inr (record { next = l.next; more = l.more; front = ap (λ m. p ∷ m) l.front; rest = l.rest }))

fronts : (f r g s : List Placed) → f ++ r ≡ g ++ s → Fronts f r g s
fronts [] r [] s e = inl (refl, e)
fronts [] r (q ∷ qs) s e = inr (inl (record { next = q; more = qs; front = refl; rest = e }))
fronts (p ∷ ps) r [] s e = inr (inr (record { next = p; more = ps; front = refl; rest = sym e }))
fronts (p ∷ ps) r (q ∷ qs) s e =
    let head : p ≡ q = cc in
    let tail : ps ++ r ≡ qs ++ s = cc in
    subst (λ x. Fronts (p ∷ ps) r (x ∷ qs) s) head (more_fronts p ps r qs s (fronts ps r qs s tail))

pub low_at : (k : ℕ) (ts us : List Token) (t : Token) → AreLow k (ts ++ t ∷ us) → moved (level k ts) t ≤ levels
low_at k [] us t h = h.0
low_at k (u ∷ ts) us t h = low_at (moved k u) ts us t h.1

same_head : (p q : Placed) (ps qs : List Placed) → p ∷ ps ≡ q ∷ qs → p ≡ q
same_head p q ps qs e = cc

module _ {X : Type 0} (S : X → List Token → Type 0) (tokens : List Placed) where
  -- what fits, fits as far as one token behind a shorter front
  shorter_fits : (f more : List Placed) (next : Placed) (us : List Token) → Fits S (words (f ++ next ∷ more) ++ us) → Fits S (words f ++ next.token ∷ [])
  shorter_fits f more next us h =
      let is : (words (f ++ next ∷ more) ++ us) ++ h.1 ≡ (words f ++ next.token ∷ []) ++ (words more ++ (us ++ h.1)) =
      ap (λ l. (l ++ us) ++ h.1) (words-append f (next ∷ more)) ∙ append_assoc (words f ++ next.token ∷ words more) us h.1 ∙ append_assoc (words f) (next.token ∷ words more) (us ++ h.1)
      ∙ sym (append_assoc (words f) (next.token ∷ []) (words more ++ (us ++ h.1))) in
      (h.0, words more ++ (us ++ h.1), subst (S h.0) is h.2)

  stops_at : (front rest more : List Placed) (next : Placed) → rest ≡ next ∷ more → Stops S (words front) rest → Fits S (words front ++ next.token ∷ []) → ⊥
  stops_at front rest more next e h fit = let stop : Fits S (words front ++ next.token ∷ []) → ⊥ = subst (Stops S (words front)) e h in stop fit

  longer_clash : (f r g s : List Placed) (us : List Token) → Longer f r g s → Stops S (words f) r → Fits S (words g ++ us) → ⊥
  longer_clash f r g s us l stop fit = stops_at f r (l.more ++ s) l.next l.rest stop (shorter_fits f l.more l.next us (subst (λ m. Fits S (words m ++ us)) l.front fit))

  plain_fits : (f : List Placed) → Fits S (words f) → Fits S (words f ++ [])
  plain_fits f h = subst (Fits S) (sym (append-nil (words f))) h

  pub one_misfit : (p q : ℕ) → IsMisfit S tokens p → IsMisfit S tokens q → p ≡ q
  one_misfit p q a b = by_fronts (fronts a.front a.rest b.front b.rest (sym a.is ∙ b.is))
    where
      by_fronts : Fronts a.front a.rest b.front b.rest → p ≡ q
      by_fronts (inl e) = a.place ∙ ap left_of e.1 ∙ sym b.place
      by_fronts (inr (inl l)) = absurd (longer_clash a.front a.rest b.front b.rest [] l a.stops (plain_fits b.front b.fits))
      by_fronts (inr (inr l)) = absurd (longer_clash b.front b.rest a.front a.rest [] l b.stops (plain_fits a.front a.fits))

  pub no_tree_and_misfit : (x : X) (p : ℕ) → S x (words tokens) → IsMisfit S tokens p → ⊥
  no_tree_and_misfit x p h a = by_rest a.rest a.is a.stops
    where
      by_rest : (rest : List Placed) → tokens ≡ a.front ++ rest → Stops S (words a.front) rest → ⊥
      by_rest [] e stop = stop x (subst (λ l. S x (words l)) (e ∙ append-nil a.front) h)
      by_rest (r ∷ rs) e stop = stop (x, words rs, subst (S x) (ap words e ∙ words-append a.front (r ∷ rs) ∙ sym (append_assoc (words a.front) (r.token ∷ []) (words rs))) h)

  -- what is low does not go past a bracket that is too deep
  low_clash : (a : List Placed) (here t : Placed) (more : List Placed) (g : List Placed) → t ≡ here → g ≡ a ++ t ∷ more → AreLow 0 (words g) → moved (level 0 (words a)) here.token ≡ levels + 1 → ⊥
  low_clash a here t more g is e low deep =
      let l : moved (level 0 (words a)) t.token ≤ levels = low_at 0 (words a) (words more) t.token (subst (AreLow 0) (ap words e ∙ words-append a (t ∷ more)) low) in
      let d : moved (level 0 (words a)) t.token ≡ levels + 1 = ap (λ (x : Placed). moved (level 0 (words a)) x.token) is ∙ deep in
      absurd (omega arith)

  pub no_low_and_deep : (p : ℕ) → AreLow 0 (words tokens) → IsTooDeep S tokens p → ⊥
  no_low_and_deep p low a = low_clash a.front a.here a.here a.rest tokens refl a.is low a.deep

  pub no_misfit_and_deep : (p q : ℕ) → IsMisfit S tokens p → IsTooDeep S tokens q → ⊥
  no_misfit_and_deep p q b a = by_fronts (fronts a.front (a.here ∷ a.rest) b.front b.rest (sym a.is ∙ b.is))
    where
      by_fronts : Fronts a.front (a.here ∷ a.rest) b.front b.rest → ⊥
      by_fronts (inl e) = stops_at b.front b.rest a.rest a.here (sym e.1) b.stops (subst (λ f. Fits S (words f ++ a.here.token ∷ [])) e.0 a.fits)
      by_fronts (inr (inl l)) = low_clash a.front a.here l.next l.more b.front (sym (same_head a.here l.next a.rest (l.more ++ b.rest) l.rest)) l.front b.low a.deep
      by_fronts (inr (inr l)) = longer_clash b.front b.rest a.front (a.here ∷ a.rest) (a.here.token ∷ []) l b.stops a.fits

  pub one_deep : (p q : ℕ) → IsTooDeep S tokens p → IsTooDeep S tokens q → p ≡ q
  one_deep p q a b = by_fronts (fronts a.front (a.here ∷ a.rest) b.front (b.here ∷ b.rest) (sym a.is ∙ b.is))
    where
      by_fronts : Fronts a.front (a.here ∷ a.rest) b.front (b.here ∷ b.rest) → p ≡ q
      by_fronts (inl e) = a.place ∙ ap (λ (x : Placed). x.left) (same_head a.here b.here a.rest b.rest e.1) ∙ sym b.place
      by_fronts (inr (inl l)) = absurd (low_clash a.front a.here l.next l.more b.front (sym (same_head a.here l.next a.rest (l.more ++ b.here ∷ b.rest) l.rest)) l.front b.low a.deep)
      by_fronts (inr (inr l)) = absurd (low_clash b.front b.here l.next l.more a.front (sym (same_head b.here l.next b.rest (l.more ++ a.here ∷ a.rest) l.rest)) l.front a.low b.deep)

pub only_misfit : (tokens : List Placed) (r : Result Reading Halt) → Answers r tokens → (left : ℕ) → IsMisfit IsModel tokens left → IsMisfitOr left r
only_misfit tokens (Ok x) h left m = no_tree_and_misfit IsModel tokens x.syntax left h.0 m
only_misfit tokens (Err halts.Memory) h left m = tt
only_misfit tokens (Err (halts.Fault (faults.Misfit at))) h left m = one_misfit IsModel tokens at left h m
only_misfit tokens (Err (halts.Fault (faults.Deep at))) h left m = no_misfit_and_deep IsModel tokens left at m h

pub only_deep : (tokens : List Placed) (r : Result Reading Halt) → Answers r tokens → (left : ℕ) → IsTooDeep IsModel tokens left → IsDeepOr left r
only_deep tokens (Ok x) h left d = no_low_and_deep IsModel tokens left h.1 d
only_deep tokens (Err halts.Memory) h left d = tt
only_deep tokens (Err (halts.Fault (faults.Misfit at))) h left d = no_misfit_and_deep IsModel tokens at left h d
only_deep tokens (Err (halts.Fault (faults.Deep at))) h left d = one_deep IsModel tokens at left h d
