-- Each variable of declarations is denoted by its word.
use Rattle.std.proofs.Common.{◌≡◌, ◌≢◌, ℕ, zero, suc, ◌+◌, ◌-◌, ◌<◌, ◌≤◌, ◌^◌, List, [], ◌∷◌, length, take, get_or, is_some, refl, ap, sym, subst, ◌∙◌, arith, Option, None, Some, length-append, inl, inr}
use Rattle.std.specs.Prelude.{◌⊎◌}
use Rattle.std.specs.List.{AllByRecursion, AllPairs}
use Rattle.std.proofs.lemmas.Bool.{cases_lt}
use Rattle.std.proofs.lemmas.List.{get_or_append_left, get_or-append-add, length-map}
use Rattle.xf_num.specs.Span.{Bounds}
use Rattle.xs_model.specs.declared.decl.Decl.{Decl}
use Rattle.xs_model.specs.declared.decl.Decl.TheVariants.{One, Array}
use Rattle.xs_model.specs.Cells.{IsDefinedPlace}
use Rattle.xs_model.specs.Denotes.{Denotes, DenotesIn}
use Rattle.xs_model.specs.Names.{defined, words, words_of}
use Rattle.xs_model.specs.Outline.{IsSoundOutline, names_in, outline_of, outlines_of, variables_in}
use Rattle.xs_model.specs.Sound.{IsSoundDecl, cells_of, name_of, names_of}
use Rattle.xs_model.specs.Table.{IsAddressable}
use Rattle.xs_model.proofs.NamesLemmas.{sound_outline}
use Rattle.xs_model.proofs.Places.{length-words_of, words_of-at}
use Rattle.xs_model.proofs.WordLemmas.{array_denotes, count_is, denotes_at, one_denotes}

-- the cell of a variable of an array
place-of : (cells : List (Option (List Bounds))) (nth : ℕ) → nth < length (defined cells) → (p : ℕ) × ((p < length cells) × IsDefinedPlace cells nth p)
place-of [] nth l = absurd (omega arith)
place-of (None ∷ cells) nth l = let r = place-of cells nth l in (suc r.0, (omega (arith, r.1.0), r.1.1))
place-of (Some d ∷ cells) zero l = (0, (omega arith, (search, refl)))
place-of (Some d ∷ cells) (suc nth) l = let r = place-of cells nth (omega arith) in (suc r.0, (omega (arith, r.1.0), (r.1.1.0, ap suc r.1.1.1)))

-- a variable, as one of a declaration
record IsAt (ds : List Decl) (v : ℕ) : Type 0 where
  at : ℕ
  decl : Decl
  nth : ℕ
  below : at < length ds
  there : decl ≡ get_or ds at decl
  sound : IsSoundDecl decl
  few : cells_of decl < 2 ^ 64
  within : nth < length (words_of decl)
  number : v ≡ variables_in (outlines_of (take at ds)) + nth
  word : get_or (words ds) v [] ≡ get_or (words_of decl) nth []

at-first : (d : Decl) (ds : List Decl) (v : ℕ) → IsSoundDecl d → cells_of d < 2 ^ 64 → v < length (words_of d) → IsAt (d ∷ ds) v
at-first d ds v s f l = record {
  at = 0;
  decl = d;
  nth = v;
  below = omega arith;
  there = refl;
  sound = s;
  few = f;
  within = l;
  number = omega arith;
  word = get_or_append_left (words_of d) (words ds) [] v l;
}

at-later : (d : Decl) (ds : List Decl) (v w : ℕ) → IsSoundDecl d → v ≡ length (words_of d) + w → IsAt ds w → IsAt (d ∷ ds) v
at-later d ds v w s e i = record {
  at = suc i.at;
  decl = i.decl;
  nth = i.nth;
  below = omega (arith, i.below);
  there = i.there;
  sound = i.sound;
  few = i.few;
  within = i.within;
  number = omega (arith, e, i.number, count_is d s);
  word = ap (λ k. get_or (words (d ∷ ds)) k []) e ∙ get_or-append-add (words_of d) (words ds) w [] ∙ i.word;
}

is-at : (ds : List Decl) (v : ℕ) → AllByRecursion IsSoundDecl ds → AllByRecursion (λ d. cells_of d < 2 ^ 64) ds → v < length (words ds) → IsAt ds v
is-at [] v s f l = absurd (omega arith)
is-at (d ∷ ds) v s f l = by (cases_lt v (length (words_of d))) (λ w h. is-at ds w s.1 f.1 h)
  where
    by : (v < length (words_of d)) ⊎ (length (words_of d) ≤ v) → ((w : ℕ) → w < length (words ds) → IsAt ds w) → IsAt (d ∷ ds) v
    by (inl h) later = at-first d ds v s.0 f.0 h
    by (inr h) later =
        let n = length-append (words_of d) (words ds) in
        let w : ℕ = v - length (words_of d) in
        at-later d ds v w s.0 (omega arith) (later w (omega arith))

-- the word of a variable of one declaration
denotes-in : (d : Decl) (nth : ℕ) → IsSoundDecl d → cells_of d < 2 ^ 64 → nth < length (words_of d) → DenotesIn (outline_of d) (get_or (words_of d) nth []) nth
denotes-in (One name domain) zero s f l = one_denotes (One name domain) name domain zero name refl l refl
denotes-in (One name domain) (suc nth) s f l = absurd (omega arith)
denotes-in (Array name sizes cells) nth s f l =
    let d : Decl = Array name sizes cells in
    let n : nth < length (defined cells) = omega (arith, length-words_of d name sizes cells refl s) in
    let p = place-of cells nth n in
    array_denotes d name sizes cells nth p.0 (get_or (words_of d) nth []) refl s p.1.1 (omega (arith, p.1.0, f)) (words_of-at d name sizes cells nth p.0 refl s p.1.1)

pub denotes : (ds : List Decl) (v : ℕ) → AllByRecursion IsSoundDecl ds → AllByRecursion (λ d. cells_of d < 2 ^ 64) ds → v < length (words ds) → Denotes (outlines_of ds) (get_or (words ds) v []) v
denotes ds v s f l =
    let i = is-at ds v s f l in
    let h = denotes_at ds i.at i.nth i.decl (get_or (words_of i.decl) i.nth []) i.below i.there (denotes-in i.decl i.nth i.sound i.few i.within) in
    subst (λ k. Denotes (outlines_of ds) (get_or (words ds) v []) k) (sym i.number) (subst (λ w. Denotes (outlines_of ds) w (variables_in (outlines_of (take i.at ds)) + i.nth)) (sym i.word) h)

pub sound-all : (ds : List Decl) → AllByRecursion IsSoundDecl ds → AllByRecursion IsSoundOutline (outlines_of ds)
sound-all [] s = tt
sound-all (d ∷ ds) s = (sound_outline d s.0, sound-all ds s.1)

few-one : (d : Decl) → cells_of d < 2 ^ 64 → IsAddressable (outline_of d)
few-one (One name domain) h = h
few-one (Array name sizes cells) h = omega (arith, length-map cells is_some, h)

pub few-all : (ds : List Decl) → AllByRecursion (λ d. cells_of d < 2 ^ 64) ds → AllByRecursion IsAddressable (outlines_of ds)
few-all [] f = tt
few-all (d ∷ ds) f = (few-one d f.0, few-all ds f.1)

same-name : (d : Decl) → name_of d ≡ (outline_of d).name
same-name (One name domain) = refl
same-name (Array name sizes cells) = refl

same-names : (ds : List Decl) → names_of ds ≡ names_in (outlines_of ds)
same-names [] = refl
same-names (d ∷ ds) = ap (λ n. n ∷ names_of ds) (same-name d) ∙ ap (λ ns. (outline_of d).name ∷ ns) (same-names ds)

pub distinct-all : (ds : List Decl) → AllPairs (λ a b. a ≢ b) (names_of ds) → AllPairs (λ a b. a ≢ b) (names_in (outlines_of ds))
distinct-all ds h = subst (AllPairs (λ a b. a ≢ b)) (same-names ds) h
