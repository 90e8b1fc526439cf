-- What may follow a word, a number or an argument, and lists with commas.
use Rattle.std.proofs.Common.{◌≡◌, ◌⊎◌, inl, inr, ⊎_elim, ℕ, false, List, [], ◌∷◌, ◌++◌, map, refl, sym, subst, codes}
use Rattle.std.specs.List.{AllByRecursion}
use Rattle.fz_file.specs.Layout as layout
use Rattle.fz_tokens.specs.Bytes.{is_in_name}
use Rattle.fz_tokens.specs.Tokens.{Token}
use Rattle.fz_grammar.specs.Parts.{key}
use Rattle.fz_grammar.specs.Expressions.{listed, behind}
use Rattle.fz_again.proofs.Cuts.{Cuts, join, nothing, Any, EndsWord, EndsNumber, mark_of}

-- a comma, a bracket that closes, a semicolon, a space or a colon
abbrev pub IsEnd : ℕ → Type 0
IsEnd c = (c ≡ 44) ⊎ ((c ≡ 93) ⊎ ((c ≡ 41) ⊎ ((c ≡ 125) ⊎ ((c ≡ 59) ⊎ ((c ≡ 32) ⊎ (c ≡ 58))))))

abbrev pub Ends : List ℕ → Type 0
Ends [] = ⊥
Ends (c ∷ cs) = IsEnd c

each_end : (P : ℕ → Type 0) → P 44 → P 93 → P 41 → P 125 → P 59 → P 32 → P 58 → (c : ℕ) → IsEnd c → P c
each_end P a b d e f g i c h =
    let at : (k : ℕ) → P k → c ≡ k → P c = λ k p q. subst P (sym q) p in
    ⊎_elim (at 44 a) (⊎_elim (at 93 b) (⊎_elim (at 41 d) (⊎_elim (at 125 e) (⊎_elim (at 59 f) (⊎_elim (at 32 g) (at 58 i)))))) h

pub ends_word : (rest : List ℕ) → Ends rest → EndsWord rest
ends_word [] h = absurd h
ends_word (c ∷ cs) h = each_end (λ k. is_in_name k ≡ false) refl refl refl refl refl refl refl c h

pub ends_number : (rest : List ℕ) → Ends rest → EndsNumber rest
ends_number [] h = absurd h
ends_number (c ∷ cs) h =
    each_end (λ k. EndsNumber (k ∷ cs)) (record { digit = refl; hex = refl; octal = refl; tail = refl }) (record { digit = refl; hex = refl; octal = refl; tail = refl }) (record { digit = refl; hex = refl; octal = refl; tail = refl })
    (record { digit = refl; hex = refl; octal = refl; tail = refl }) (record { digit = refl; hex = refl; octal = refl; tail = refl }) (record { digit = refl; hex = refl; octal = refl; tail = refl }) (record { digit = refl; hex = refl; octal = refl; tail = refl }) c h

pub dots_end : (rest : List ℕ) → EndsNumber (46 ∷ 46 ∷ rest)
dots_end rest = record { digit = refl; hex = refl; octal = refl; tail = refl }

-- the same tokens, where less may follow
pub before : {text : List ℕ} {ts : List Token} {P Q : List ℕ → Type 0} → ((rest : List ℕ) → Q rest → P rest) → Cuts text ts P → Cuts text ts Q
before f c = record { cuts = λ rest q. c.cuts rest (f rest q) }

-- marks
pub comma : Cuts (codes ",") (key (codes ",") ∷ []) Any
comma = mark_of 44 (inr (inr (inr (inr (inr (inr (inr (inl refl))))))))

pub open_round : Cuts (codes "(") (key (codes "(") ∷ []) Any
open_round = mark_of 40 (inl refl)

pub close_round : Cuts (codes ")") (key (codes ")") ∷ []) Any
close_round = mark_of 41 (inr (inl refl))

pub open_square : Cuts (codes "[") (key (codes "[") ∷ []) Any
open_square = mark_of 91 (inr (inr (inl refl)))

pub close_square : Cuts (codes "]") (key (codes "]") ∷ []) Any
close_square = mark_of 93 (inr (inr (inr (inl refl))))

pub open_curly : Cuts (codes "{") (key (codes "{") ∷ []) Any
open_curly = mark_of 123 (inr (inr (inr (inr (inl refl)))))

pub close_curly : Cuts (codes "}") (key (codes "}") ∷ []) Any
close_curly = mark_of 125 (inr (inr (inr (inr (inr (inl refl))))))

pub semicolon : Cuts (codes ";") (key (codes ";") ∷ []) Any
semicolon = mark_of 59 (inr (inr (inr (inr (inr (inr (inl refl)))))))

pub equals : Cuts (codes "=") (key (codes "=") ∷ []) Any
equals = mark_of 61 (inr (inr (inr (inr (inr (inr (inr (inr refl))))))))

-- texts with commas
module _ {X : Type 0} (f : X → List ℕ) (g : X → List Token) where
  abbrev pub AreCut : List X → Type 0
  AreCut xs = AllByRecursion (λ x. Cuts (f x) (g x) Ends) xs

  commas : (xs : List X) → AreCut xs → Cuts (layout.commas (map f xs)) (behind (map g xs)) Ends
  commas [] h = nothing Ends
  commas (x ∷ xs) h =
      join comma (join h.0 (commas xs h.1) (more xs)) (λ rest o. tt)
    where
      more : (ys : List X) (rest : List ℕ) → Ends rest → Ends (layout.commas (map f ys) ++ rest)
      more [] rest o = o
      more (y ∷ ys) rest o = inl refl

  pub separated : (xs : List X) → AreCut xs → Cuts (layout.listed (map f xs)) (listed (map g xs)) Ends
  separated [] h = nothing Ends
  separated (x ∷ xs) h = join h.0 (commas xs h.1) (more xs)
    where
      more : (ys : List X) (rest : List ℕ) → Ends rest → Ends (layout.commas (map f ys) ++ rest)
      more [] rest o = o
      more (y ∷ ys) rest o = inl refl
