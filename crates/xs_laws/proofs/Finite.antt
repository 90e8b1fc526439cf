-- Functions on the first numbers: one to one, onto, and how many there are.
use Rattle.std.proofs.Common.{◌≡◌, ◌≢◌, ℕ, zero, suc, ◌<◌, ◌≤◌, Bool, true, false, ◌⊎◌, inl, inr, refl, ap, sym, ◌∙◌, arith, eqb}
use Rattle.std.specs.Prelude.{if◌then◌else◌}
use Rattle.std.proofs.lemmas.Bool.{both_ways, cases_Bool, cases_eq, cases_order, eqb-true, eqb-false}
use Rattle.xs_laws.specs.Indices.{count_below}

-- f sends the numbers below m to different numbers
abbrev pub OneToOne : (ℕ → ℕ) → ℕ → Type 0
OneToOne f m = (i j : ℕ) → i < m → j < m → f i ≡ f j → i ≡ j

-- where each number has a different image from all later ones
pub one_to_one : (f : ℕ → ℕ) (m : ℕ) → ((i j : ℕ) → i < j → j < m → f i ≢ f j) → OneToOne f m
one_to_one f m h i j hi hj e =
    elim (cases_order i j) [ inl same ↦ same | inr apart ↦ elim apart [ inl lt ↦ absurd (h i j lt hj e) | inr gt ↦ absurd (h j i gt hi (sym e)) ] ]

-- f, but at i it is v
abbrev pub put : (ℕ → ℕ) → ℕ → ℕ → ℕ → ℕ
put f i v j = if eqb j i then v else f j

pub put_cases : (f : ℕ → ℕ) (i v j : ℕ) → ((j ≡ i) × (put f i v j ≡ v)) ⊎ ((j ≢ i) × (put f i v j ≡ f j))
put_cases f i v j = by (eqb j i) refl
  where
    by : (t : Bool) → eqb j i ≡ t → ((j ≡ i) × ((if t then v else f j) ≡ v)) ⊎ ((j ≢ i) × ((if t then v else f j) ≡ f j))
    by true e = inl (eqb-true j i e, refl)
    by false e = inr (eqb-false j i e, refl)

pub count_yes : (P : ℕ → Bool) (n : ℕ) → P n ≡ true → count_below P (suc n) ≡ suc (count_below P n)
count_yes P n h = rw h refl

pub count_no : (P : ℕ → Bool) (n : ℕ) → P n ≡ false → count_below P (suc n) ≡ count_below P n
count_no P n h = rw h refl

pub count_le : (P : ℕ → Bool) (n : ℕ) → count_below P n ≤ n
count_le P zero = omega arith
count_le P (suc n) =
    elim (cases_Bool (P n)) [
      | inl h ↦ omega (arith, count_yes P n h, count_le P n)
      | inr h ↦ omega (arith, count_no P n h, count_le P n)
    ]

-- f without the place m and without the value n: what was n is now the value at m
abbrev moved_down : (ℕ → ℕ) → ℕ → ℕ → ℕ → ℕ
moved_down f n m i = put (λ j. j) n (f m) (f i)

moved_down_one : (f : ℕ → ℕ) (n m : ℕ) → OneToOne f (suc m) → OneToOne (moved_down f n m) m
moved_down_one f n m one i j hi hj e =
    elim (put_cases (λ j. j) n (f m) (f i)) [
      | inl p ↦ elim (put_cases (λ j. j) n (f m) (f j)) [
        | inl q ↦ one i j (omega arith) (omega arith) (p.0 ∙ sym q.0)
        | inr q ↦ absurd (let k = one m j (omega arith) (omega arith) (sym p.1 ∙ e ∙ q.1) in omega arith)
      ]
      | inr p ↦ elim (put_cases (λ j. j) n (f m) (f j)) [
        | inl q ↦ absurd (let k = one i m (omega arith) (omega arith) (sym p.1 ∙ e ∙ q.1) in omega arith)
        | inr q ↦ one i j (omega arith) (omega arith) (sym p.1 ∙ e ∙ q.1)
      ]
    ]

-- at most one of the values is n, so what is moved down is below n and passes
moved_down_in : (P : ℕ → Bool) (f : ℕ → ℕ) (n m : ℕ) → OneToOne f (suc m) → ((i : ℕ) → i < suc m → (f i < suc n) × (P (f i) ≡ true)) → (i : ℕ) → i < m → (moved_down f n m i < n) × (P (moved_down f n m i) ≡ true)
moved_down_in P f n m one in_it i hi =
    elim (put_cases (λ j. j) n (f m) (f i)) [
      | inl p ↦ elim (cases_eq (f m) n) [
        | inl same ↦ absurd (let k = one i m (omega arith) (omega arith) (p.0 ∙ sym same) in omega arith)
        | inr other ↦ (let k = (in_it m (omega arith)).0 in omega (arith, p.1, other), ap P p.1 ∙ (in_it m (omega arith)).1)
      ]
      | inr p ↦ (let k = (in_it i (omega arith)).0 in omega (arith, p.0, p.1), ap P p.1 ∙ (in_it i (omega arith)).1)
    ]

-- different numbers below n that pass are at most as many as pass
pub count_injects : (P : ℕ → Bool) (n m : ℕ) (f : ℕ → ℕ) → OneToOne f m → ((i : ℕ) → i < m → (f i < n) × (P (f i) ≡ true)) → m ≤ count_below P n
count_injects P n zero f one in_it = omega arith
count_injects P zero (suc m) f one in_it = absurd (let k = (in_it 0 (omega arith)).0 in omega arith)
count_injects P (suc n) (suc m) f one in_it =
    elim (cases_Bool (P n)) [
      | inl h ↦ let k = count_injects P n m (moved_down f n m) (moved_down_one f n m one) (moved_down_in P f n m one in_it) in omega (arith, count_yes P n h, k)
      | inr h ↦ let k = count_injects P n (suc m) f one (λ i hi. elim (cases_eq (f i) n) [
        | inl same ↦ absurd (both_ways (P n) h (ap P (sym same) ∙ (in_it i hi).1))
        | inr other ↦ (let l = (in_it i hi).0 in omega (arith, other), (in_it i hi).1)
      ]) in omega (arith, count_no P n h, k)
    ]

-- the pigeons: different numbers below n are at most n
pub at_most : (n m : ℕ) (f : ℕ → ℕ) → OneToOne f m → ((i : ℕ) → i < m → f i < n) → m ≤ n
at_most n m f one in_it = let k = count_injects (λ j. true) n m f one (λ i hi. (in_it i hi, refl)) in omega (arith, k, count_le (λ j. true) n)

-- onto what passes below n, where f at i is n: f without the place m, whose value is now at i
put_onto : (P : ℕ → Bool) (n m : ℕ) (f : ℕ → ℕ) (i : ℕ) → i < suc m → f i ≡ n → ((p : ℕ) → p < suc n → P p ≡ true → (j : ℕ) × (j < suc m) × (f j ≡ p))
    → (p : ℕ) → p < n → P p ≡ true → (j : ℕ) × (j < m) × (put f i (f m) j ≡ p)
put_onto P n m f i hi at_i onto p hp pass =
    let o = onto p (omega arith) pass in
    let other : o.0 ≢ i = λ e. let k : p ≡ n = sym o.2 ∙ ap f e ∙ at_i in omega arith in
    elim (cases_eq o.0 m) [
      | inl last ↦ elim (put_cases f i (f m) i) [
        | inl q ↦ (i, omega (arith, other, last), q.1 ∙ ap f (sym last) ∙ o.2)
        | inr q ↦ absurd (q.0 refl)
      ]
      | inr before ↦ elim (put_cases f i (f m) o.0) [
        | inl q ↦ absurd (other q.0)
        | inr q ↦ (o.0, (let k = o.1 in omega (arith, before)), q.1 ∙ o.2)
      ]
    ]

-- what pass below n are at most as many as numbers whose values they all are
pub count_onto : (P : ℕ → Bool) (n m : ℕ) (f : ℕ → ℕ) → ((p : ℕ) → p < n → P p ≡ true → (i : ℕ) × (i < m) × (f i ≡ p)) → count_below P n ≤ m
count_onto P zero m f onto = omega arith
count_onto P (suc n) zero f onto =
    elim (cases_Bool (P n)) [
      | inl h ↦ absurd (let k = (onto n (omega arith) h).1 in omega arith)
      | inr h ↦ let k = count_onto P n zero f (λ p hp. onto p (omega arith)) in omega (arith, count_no P n h, k)
    ]
count_onto P (suc n) (suc m) f onto =
    elim (cases_Bool (P n)) [
      | inl h ↦
          let o = onto n (omega arith) h in
          let k = count_onto P n m (put f o.0 (f m)) (put_onto P n m f o.0 o.1 o.2 onto) in omega (arith, count_yes P n h, k)
      | inr h ↦ let k = count_onto P n (suc m) f (λ p hp. onto p (omega arith)) in omega (arith, count_no P n h, k)
    ]

-- the least number below n that passes, or none does
pub least : (P : ℕ → Bool) (n : ℕ) → ((k : ℕ) × (k < n) × (P k ≡ true) × ((j : ℕ) → j < k → P j ≡ false)) ⊎ ((j : ℕ) → j < n → P j ≡ false)
least P zero = inr (λ j hj. absurd (omega arith))
least P (suc n) =
    elim (least P n) [
      | inl r ↦ inl (r.0, (let k = r.1 in omega arith), r.2, r.3)
      | inr none ↦ elim (cases_Bool (P n)) [
        | inl h ↦ inl (n, omega arith, h, none)
        | inr h ↦ inr (λ j hj. elim (cases_eq j n) [ inl e ↦ ap P e ∙ h | inr ne ↦ none j (omega (arith, ne)) ])
      ]
    ]
