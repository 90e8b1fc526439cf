-- How a text of groups is cut at its first `)`.
use Rattle.std.proofs.Common.{◌≡◌, ℕ, Bool, true, false, List, [], ◌∷◌, refl, ap, sym, ◌∙◌, ◌++◌, map, append_assoc, if◌then◌else◌}
use Rattle.xs_fields.specs.Words.{is_byte, onto_first, parts}
use Rattle.xs_tables.specs.Groups.{front_of, last_of}
use Rattle.xs_fields.proofs.PartLemmas.{parts_front}

-- more parts follow
pub front_more : (test : ℕ → Bool) (g bytes : List ℕ) → front_of (g ∷ parts test bytes) ≡ g ∷ front_of (parts test bytes)
front_more test g bytes = ap (λ ps. front_of (g ∷ ps)) (parts_front test bytes) ∙ sym (ap (λ ps. g ∷ front_of ps) (parts_front test bytes))

pub last_more : (test : ℕ → Bool) (g bytes : List ℕ) → last_of (g ∷ parts test bytes) ≡ last_of (parts test bytes)
last_more test g bytes = ap (λ ps. last_of (g ∷ ps)) (parts_front test bytes) ∙ sym (ap last_of (parts_front test bytes))

pub never : (test : ℕ → Bool) (bytes : List ℕ) → parts test bytes ≡ [] → ⊥
never test bytes h = let front = sym (parts_front test bytes) ∙ h in cc

-- one part is all
pub one_part : (test : ℕ → Bool) (g bytes : List ℕ) → parts test bytes ≡ g ∷ [] → g ≡ bytes
one_part test g [] h = cc
one_part test g (b ∷ bs) h = by (λ p e. one_part test p bs e) (test b) h
  where
    onto : ((p : List ℕ) → parts test bs ≡ p ∷ [] → p ≡ bs) → (ps : List (List ℕ)) → parts test bs ≡ ps → onto_first b ps ≡ g ∷ [] → g ≡ b ∷ bs
    onto rest [] e h = absurd (never test bs e)
    onto rest (p ∷ []) e h = let first : b ∷ p ≡ g = cc in sym first ∙ ap (λ xs. b ∷ xs) (rest p e)
    onto rest (p ∷ q ∷ ps) e h = cc

    by : ((p : List ℕ) → parts test bs ≡ p ∷ [] → p ≡ bs) → (v : Bool) → (if v then [] ∷ parts test bs else onto_first b (parts test bs)) ≡ g ∷ [] → g ≡ b ∷ bs
    by rest true h = let none : parts test bs ≡ [] = cc in absurd (never test bs none)
    by rest false h = onto rest (parts test bs) refl h

-- one group more
pub mapped_more : {A : Type 0} (f : List ℕ → A) (groups more : List (List ℕ)) (g : List ℕ) (done all : List A) (x : A) → groups ≡ g ∷ more → x ≡ f g → done ++ map f groups ≡ all → (done ++ x ∷ []) ++ map f more ≡ all
mapped_more f groups more g done all x cut is so_far =
    append_assoc done (x ∷ []) (map f more) ∙ ap (λ y. done ++ y ∷ map f more) is ∙ sym (ap (λ gs. done ++ map f gs) cut) ∙ so_far
