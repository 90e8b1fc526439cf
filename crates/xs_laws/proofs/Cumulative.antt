-- A peak of the load lies at a start.
use Rattle.std.proofs.Common.{◌≡◌, ℕ, suc, ◌<◌, ◌⊎◌, inl, inr, ℤ, pos, ◌+ℤ◌, ◌-ℤ◌, ◌*ℤ◌, ◌≤ℤ◌, ◌<ℤ◌, Bool, true, false, ◌&&◌, List, [], ◌∷◌, length, refl, ap, ap₂, sym, ◌∙◌, subst, arith}
use Rattle.std.specs.Prelude.{int_le, int_lt, if◌then◌else◌}
use Rattle.std.proofs.lemmas.Bool.{true≢false, cases_Bool, and_parts, and_from}
use Rattle.std.proofs.lemmas.Int.{ints, by_lt_z}
use Rattle.xs_model.specs.Counting.{weighted_sum}
use Rattle.xs_model.specs.Schedule.{runs_at, load, AreEnds}
use Rattle.xs_model.specs.Value.{at, truth}
use Rattle.xs_laws.specs.Peaks.{IsUpper, AreNatural, running, HasPeakAtStart, HasPeakByEnds, CumulativeLaw, CumulativeEndsLaw}

pub le_says : (a b : ℤ) → int_le a b ≡ true → a ≤ℤ b
le_says a b h = grind (arith, ints)

pub le_met : (a b : ℤ) → a ≤ℤ b → int_le a b ≡ true
le_met a b h = grind (arith, ints)

pub lt_says : (a b : ℤ) → int_lt a b ≡ true → a <ℤ b
lt_says a b h = grind (arith, ints)

pub lt_met : (a b : ℤ) → a <ℤ b → int_lt a b ≡ true
lt_met a b h = grind (arith, ints)

runs_says : (t s l : ℤ) → runs_at t s l ≡ true → (s ≤ℤ t) × (t <ℤ (s +ℤ l))
runs_says t s l h = let r = and_parts (int_le s t) (int_lt t (s +ℤ l)) h in (le_says s t r.0, lt_says t (s +ℤ l) r.1)

runs_met : (t s l : ℤ) → s ≤ℤ t → t <ℤ (s +ℤ l) → runs_at t s l ≡ true
runs_met t s l from to = and_from (int_le s t) (int_lt t (s +ℤ l)) (le_met s t from) (lt_met t (s +ℤ l) to)

-- every task that runs at t has a start as Q says
abbrev AllRunning : (ℤ → Type 0) → ℤ → List ℤ → List ℤ → List ℤ → Type 0
AllRunning Q t (s ∷ ss) (l ∷ ls) (h ∷ hs) = (runs_at t s l ≡ true → Q s) × AllRunning Q t ss ls hs
AllRunning Q t ss ls hs = Unit {0}

running_more : (Q R : ℤ → Type 0) (t : ℤ) (ss ls hs : List ℤ) → ((s : ℤ) → Q s → R s) → AllRunning Q t ss ls hs → AllRunning R t ss ls hs
running_more Q R t [] ls hs f h = tt
running_more Q R t (s ∷ ss) [] hs f h = tt
running_more Q R t (s ∷ ss) (l ∷ ls) [] f h = tt
running_more Q R t (s ∷ ss) (l ∷ ls) (k ∷ hs) f h = (λ r. f s (h.0 r), running_more Q R t ss ls hs f h.1)

-- none runs at t, or the latest start of those that do is that of one of them
latest : (t : ℤ) (ss ls hs : List ℤ) → AllRunning (λ s. ⊥) t ss ls hs ⊎ ((i : ℕ) × (i < length ss) × (at ss i ≤ℤ t) × AllRunning (λ s. s ≤ℤ at ss i) t ss ls hs)
latest t [] ls hs = inl tt
latest t (s ∷ ss) [] hs = inl tt
latest t (s ∷ ss) (l ∷ ls) [] = inl tt
latest t (s ∷ ss) (l ∷ ls) (h ∷ hs) = elim (cases_Bool (runs_at t s l)) [
  | inl runs ↦
      let from = (runs_says t s l runs).0 in
      elim (latest t ss ls hs) [
        | inl none ↦ inr (0, omega arith, from, (λ r. omega (arith, ints), running_more (λ s. ⊥) (λ u. u ≤ℤ s) t ss ls hs (λ u b. absurd b) none))
        | inr r ↦ by_lt_z s (at ss r.0)
            (λ lt. inr (suc r.0, (let k = r.1 in omega arith), r.2, (λ u. omega (arith, ints), r.3)))
            (λ ge. inr (0, omega arith, from, (λ u. omega (arith, ints), running_more (λ u. u ≤ℤ at ss r.0) (λ u. u ≤ℤ s) t ss ls hs (λ u b. omega (arith, ints)) r.3)))
      ]
  | inr stands ↦ elim (latest t ss ls hs) [
    | inl none ↦ inl (λ r. true≢false (sym r ∙ stands), none)
    | inr r ↦ inr (suc r.0, (let k = r.1 in omega arith), r.2, (λ u. absurd (true≢false (sym u ∙ stands)), r.3))
  ]
]

idle : (t : ℤ) (ss ls hs : List ℤ) → AllRunning (λ s. ⊥) t ss ls hs → load t ss ls hs ≡ pos 0
idle t [] ls hs h = refl
idle t (s ∷ ss) [] hs h = refl
idle t (s ∷ ss) (l ∷ ls) [] h = refl
idle t (s ∷ ss) (l ∷ ls) (k ∷ hs) h = elim (cases_Bool (runs_at t s l)) [
  | inl r ↦ absurd (h.0 r)
  | inr stands ↦ ap₂ (λ (x : ℤ) (y : ℤ). x +ℤ y) (ap (λ (b : Bool). if b then k else pos 0) stands) (idle t ss ls hs h.1)
]

-- the load at a later start of all that run is no less
peak : (t u : ℤ) (ss ls hs : List ℤ) → u ≤ℤ t → AreNatural hs → AllRunning (λ s. s ≤ℤ u) t ss ls hs → load t ss ls hs ≤ℤ load u ss ls hs
peak t u [] ls hs le nat h = omega (arith, ints)
peak t u (s ∷ ss) [] hs le nat h = omega (arith, ints)
peak t u (s ∷ ss) (l ∷ ls) [] le nat h = omega (arith, ints)
peak t u (s ∷ ss) (l ∷ ls) (k ∷ hs) le nat h = both (runs_at t s l) (runs_at u s l) (λ r. let a = runs_says t s l r in runs_met u s l (h.0 r) (omega (arith, ints, a))) (peak t u ss ls hs le nat.1 h.1)
  where
    both : (b c : Bool) → (b ≡ true → c ≡ true) → load t ss ls hs ≤ℤ load u ss ls hs → ((if b then k else pos 0) +ℤ load t ss ls hs) ≤ℤ ((if c then k else pos 0) +ℤ load u ss ls hs)
    both true true f rest = omega (arith, ints)
    both true false f rest = absurd (true≢false (sym (f refl)))
    both false true f rest = let n = nat.0 in omega (arith, ints)
    both false false f rest = omega (arith, ints)

-- up to some time nothing runs
early : (ss ls hs : List ℤ) → (t : ℤ) × ((u : ℤ) → u ≤ℤ t → AllRunning (λ s. ⊥) u ss ls hs)
early [] ls hs = (pos 0, λ u le. tt)
early (s ∷ ss) [] hs = (pos 0, λ u le. tt)
early (s ∷ ss) (l ∷ ls) [] = (pos 0, λ u le. tt)
early (s ∷ ss) (l ∷ ls) (h ∷ hs) =
    let r = early ss ls hs in
    by_lt_z r.0 s
    (λ lt. (r.0, λ u le. (λ runs. let a = (runs_says u s l runs).0 in omega (arith, ints), r.1 u le)))
    (λ ge. (s -ℤ pos 1, λ u le. (λ runs. let a = (runs_says u s l runs).0 in omega (arith, ints), r.1 u (omega (arith, ints)))))

pub has_peak_at_start : (P : ℤ → Type 0) → IsUpper P → HasPeakAtStart P
has_peak_at_start P upper ss ls hs nat = (
  λ h. (let r = early ss ls hs in subst P (idle r.0 ss ls hs (r.1 r.0 (omega (arith, ints)))) (h r.0), λ i lt. h (at ss i)),
  λ h t. elim (latest t ss ls hs) [
    | inl none ↦ subst P (sym (idle t ss ls hs none)) h.0
    | inr r ↦ upper (load t ss ls hs) (load (at ss r.0) ss ls hs) (peak t (at ss r.0) ss ls hs r.2 nat r.3) (h.1 r.0 r.1)
  ],
)

-- the load by ends, as a weighted sum
load_by_ends : (t : ℤ) (ss ls es hs : List ℤ) → AreEnds ss ls es → load t ss ls hs ≡ weighted_sum hs (running t ss es)
load_by_ends t [] [] [] [] h = refl
load_by_ends t [] [] [] (k ∷ hs) h = refl
load_by_ends t (s ∷ ss) (l ∷ ls) (e ∷ es) [] h = refl
load_by_ends t (s ∷ ss) (l ∷ ls) (e ∷ es) (k ∷ hs) h =
    ap₂ (λ (x : ℤ) (y : ℤ). x +ℤ y) (ap (λ (z : ℤ). if (int_le s t && int_lt t z) then k else pos 0) (sym h.0) ∙ times (int_le s t && int_lt t e)) (load_by_ends t ss ls es hs h.1)
  where
    times : (b : Bool) → (if b then k else pos 0) ≡ (k *ℤ truth b)
    times true = omega (arith, ints)
    times false = omega (arith, ints)
load_by_ends t ss ls es hs h = absurd h

pub has_peak_by_ends : (P : ℤ → Type 0) → IsUpper P → HasPeakByEnds P
has_peak_by_ends P upper ss ls es hs nat ends =
    let law = has_peak_at_start P upper ss ls hs nat in (
      λ h. let g = law.0 h in (g.0, λ i lt. subst P (load_by_ends (at ss i) ss ls es hs ends) (g.1 i lt)),
      λ h. law.1 (h.0, λ i lt. subst P (sym (load_by_ends (at ss i) ss ls es hs ends)) (h.1 i lt)),
    )

pub peak_at_start : CumulativeLaw
peak_at_start k = (has_peak_at_start (λ x. x ≤ℤ k) (λ x y a b. omega (arith, ints)), has_peak_at_start (λ x. x <ℤ k) (λ x y a b. omega (arith, ints)))

pub peak_by_ends : CumulativeEndsLaw
peak_by_ends k = (has_peak_by_ends (λ x. x ≤ℤ k) (λ x y a b. omega (arith, ints)), has_peak_by_ends (λ x. x <ℤ k) (λ x y a b. omega (arith, ints)))
