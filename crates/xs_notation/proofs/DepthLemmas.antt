-- The test of the depth is what it tests.
use Rattle.std.proofs.Common.{◌≡◌, ℕ, ◌<◌, nat_lt, List, [], ◌∷◌, ◌++◌, refl, ap, subst, Bool, true, false, ◌||◌}
use borrow.Author.Tests.{ltb-true, lt-ltb}
use Rattle.xs_expr.specs.Depth.{levels, opened, open_behind, IsDeeper}
use Rattle.xs_notation.specs.Nesting.{is_deeper}

deeper-here : (n : ℕ) (text : List ℕ) → nat_lt levels n ≡ true → IsDeeper n text
deeper-here n text h = record { front = []; rest = text; whole = refl; deep = ltb-true levels n h }

deeper-is : (n : ℕ) (text : List ℕ) → is_deeper n text ≡ true → IsDeeper n text
deeper-is n [] h = deeper-here n [] h
deeper-is n (b ∷ bs) h = by (nat_lt levels n) refl h (deeper-is (opened n b) bs)
  where
    by : (v : Bool) → nat_lt levels n ≡ v → (v || is_deeper (opened n b) bs) ≡ true → (is_deeper (opened n b) bs ≡ true → IsDeeper (opened n b) bs) → IsDeeper n (b ∷ bs)
    by true e g below = deeper-here n (b ∷ bs) e
    by false e g below =
        let d = below g in
        record { front = b ∷ d.front; rest = d.rest; whole = ap (λ xs. b ∷ xs) d.whole; deep = d.deep }

or-right : (a b : Bool) → b ≡ true → (a || b) ≡ true
or-right true b h = refl
or-right false b h = h

here-is : (n : ℕ) (text : List ℕ) → nat_lt levels n ≡ true → is_deeper n text ≡ true
here-is n [] h = h
here-is n (b ∷ bs) h = ap (λ v. v || is_deeper (opened n b) bs) h

front-is : (n : ℕ) (front rest : List ℕ) → levels < open_behind n front → is_deeper n (front ++ rest) ≡ true
front-is n [] rest h = here-is n rest (lt-ltb levels n h)
front-is n (b ∷ bs) rest h = or-right (nat_lt levels n) (is_deeper (opened n b) (bs ++ rest)) (front-is (opened n b) bs rest h)

is-deep : (n : ℕ) (text : List ℕ) → IsDeeper n text → is_deeper n text ≡ true
is-deep n text d = subst (λ ys. is_deeper n ys ≡ true) d.whole (front-is n d.front d.rest d.deep)

-- what says whether a text is too deep is the test
pub deep-decided : (r : Bool) (text : List ℕ) → (r ≡ true → IsDeeper 0 text) → (r ≡ false → IsDeeper 0 text → ⊥) → r ≡ is_deeper 0 text
deep-decided r text deep shallow = by r (is_deeper 0 text) refl refl
  where
    by : (q v : Bool) → r ≡ q → is_deeper 0 text ≡ v → q ≡ v
    by true true e f = refl
    by true false e f = let g = is-deep 0 text (deep e) in cc
    by false true e f = absurd (shallow e (deeper-is 0 text f))
    by false false e f = refl
