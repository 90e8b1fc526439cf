-- Lexicographic order by the first place that differs.
use Rattle.std.proofs.Common.{◌≡◌, ◌≢◌, ◌↔◌, ℕ, zero, suc, ◌<◌, ◌≤◌, ◌⊎◌, inl, inr, ℤ, ◌≤ℤ◌, ◌<ℤ◌, Bool, true, ◌&&◌, List, [], ◌∷◌, length, refl, ap, ap₂, sym, ◌∙◌, arith}
use Rattle.std.specs.Ordering.{int_eq}
use Rattle.std.proofs.lemmas.Bool.{and_parts, cases_lt}
use Rattle.std.proofs.lemmas.Bool.Decides.{Decides-int_eq}
use Rattle.std.proofs.lemmas.Int.{ints}
use Rattle.xs_model.specs.declared.term.Rel.TheVariants.{Lt, Le, Ge, Gt}
use Rattle.xs_model.specs.Comparing.{IsBelow}
use Rattle.xs_model.specs.Value.{at}
use Rattle.xs_laws.specs.Chain.{equal_before, LexTestLaw}
use Rattle.xs_laws.proofs.Lex.{front}

-- the first places are equal and the next ones differ, or all are equal
pub record DiffersAt (xs ys : List ℤ) (k : ℕ) : Type 0 where
  pub many : length xs ≡ length ys
  pub fits : k ≤ length xs
  pub equal : equal_before xs ys k ≡ true
  pub other : k < length xs → at xs k ≢ at ys k

first_same : (x y : ℤ) (xs ys : List ℤ) (k : ℕ) → DiffersAt (x ∷ xs) (y ∷ ys) (suc k) → (x ≡ y) × DiffersAt xs ys k
first_same x y xs ys k d =
    let r = and_parts (int_eq x y) (equal_before xs ys k) (sym (front x y xs ys k) ∙ d.equal) in (
      (Decides-int_eq x y).0 r.0,
      record { many = (let m = d.many in omega arith); fits = (let m = d.fits in omega arith); equal = r.1; other = λ lt. d.other (omega arith) },
    )

below_at : (xs ys : List ℤ) (k : ℕ) → DiffersAt xs ys k → IsBelow xs ys ↔ (at xs k <ℤ at ys k)
below_at [] [] k d = (λ b. absurd b, λ lt. absurd (none k lt))
  where
    none : (k : ℕ) → at [] k <ℤ at [] k → ⊥
    none k lt = omega (arith, ints, lt)
below_at [] (y ∷ ys) k d = absurd (let m = d.many in omega arith)
below_at (x ∷ xs) [] k d = absurd (let m = d.many in omega arith)
below_at (x ∷ xs) (y ∷ ys) zero d = (λ b. elim b [ inl l ↦ l | inr r ↦ absurd (d.other (omega arith) r.0) ], λ lt. inl lt)
below_at (x ∷ xs) (y ∷ ys) (suc k) d =
    let r = first_same x y xs ys k d in
    let rest = below_at xs ys k r.1 in
    (λ b. rest.0 (elim b [ inl l ↦ absurd (less x y r.0 l) | inr s ↦ s.1 ]), λ lt. inr (r.0, rest.1 lt))
  where
    less : (x y : ℤ) → x ≡ y → x <ℤ y → ⊥
    less x y e l = omega (arith, ints, e, l)

same_lists : (xs ys : List ℤ) (k : ℕ) → DiffersAt xs ys k → length xs ≤ k → xs ≡ ys
same_lists [] [] k d le = refl
same_lists [] (y ∷ ys) k d le = absurd (let m = d.many in omega arith)
same_lists (x ∷ xs) [] k d le = absurd (let m = d.many in omega arith)
same_lists (x ∷ xs) (y ∷ ys) zero d le = absurd (omega arith)
same_lists (x ∷ xs) (y ∷ ys) (suc k) d le = let r = first_same x y xs ys k d in ap₂ (λ (z : ℤ) (zs : List ℤ). z ∷ zs) r.0 (same_lists xs ys k r.1 (omega arith))

at_most_at : (xs ys : List ℤ) (k : ℕ) → DiffersAt xs ys k → ((xs ≡ ys) ⊎ IsBelow xs ys) ↔ (at xs k ≤ℤ at ys k)
at_most_at xs ys k d =
    let law = below_at xs ys k d in (
      λ h. elim h [ inl e ↦ same (at xs k) (at ys k) (ap (λ (zs : List ℤ). at zs k) e) | inr b ↦ less (at xs k) (at ys k) (law.0 b) ],
      λ le. elim (cases_lt k (length xs)) [
        | inl lt ↦ inr (law.1 (apart (at xs k) (at ys k) le (d.other lt)))
        | inr past ↦ inl (same_lists xs ys k d past)
      ],
    )
  where
    same : (x y : ℤ) → x ≡ y → x ≤ℤ y
    same x y e = omega (arith, ints, e)

    less : (x y : ℤ) → x <ℤ y → x ≤ℤ y
    less x y l = omega (arith, ints, l)

    apart : (x y : ℤ) → x ≤ℤ y → (x ≢ y) → x <ℤ y
    apart x y le ne = omega (arith, ints, le, ne)

equal_back : (xs ys : List ℤ) (k : ℕ) → equal_before xs ys k ≡ true → equal_before ys xs k ≡ true
equal_back xs ys zero h = refl
equal_back xs ys (suc k) h =
    let r = and_parts (equal_before xs ys k) (int_eq (at xs k) (at ys k)) h in
    ap₂ (λ (a b : Bool). a && b) (equal_back xs ys k r.0) ((Decides-int_eq (at ys k) (at xs k)).1 (sym ((Decides-int_eq (at xs k) (at ys k)).0 r.1)))

turned : (xs ys : List ℤ) (k : ℕ) → DiffersAt xs ys k → DiffersAt ys xs k
turned xs ys k d = record { many = sym d.many; fits = (let m = d.many in let f = d.fits in omega arith); equal = equal_back xs ys k d.equal; other = λ lt e. d.other (let m = d.many in omega arith) (sym e) }

pub lex_is_tested : LexTestLaw
lex_is_tested Lt xs ys k many fits equal other = below_at xs ys k (record { many = many; fits = fits; equal = equal; other = other })
lex_is_tested Le xs ys k many fits equal other = at_most_at xs ys k (record { many = many; fits = fits; equal = equal; other = other })
lex_is_tested Ge xs ys k many fits equal other =
    let law = at_most_at ys xs k (turned xs ys k (record { many = many; fits = fits; equal = equal; other = other })) in
    (λ h. law.0 (elim h [ inl e ↦ inl (sym e) | inr b ↦ inr b ]), λ h. elim (law.1 h) [ inl e ↦ inl (sym e) | inr b ↦ inr b ])
lex_is_tested Gt xs ys k many fits equal other = below_at ys xs k (turned xs ys k (record { many = many; fits = fits; equal = equal; other = other }))
