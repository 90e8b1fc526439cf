-- Tests of pairs and neighbours, and what they tell.
use Rattle.std.proofs.Common.{◌≡◌, ◌≢◌, ◌↔◌, ℕ, zero, suc, ◌+◌, ◌<◌, ◌≤◌, ◌⊎◌, inl, inr, ℤ, pos, ◌+ℤ◌, ◌≤ℤ◌, ◌<ℤ◌, Bool, true, false, not, ◌&&◌, ◌||◌, List, [], ◌∷◌, length, refl, ap, ap₂, sym, ◌∙◌, subst, arith}
use Rattle.std.specs.Prelude.{int_le, int_lt, if◌then◌else◌}
use Rattle.std.specs.List.{AllByRecursion, AllPairs, list_all}
use Rattle.std.specs.Ordering.{int_eq}
use Rattle.std.proofs.lemmas.Bool.{true≢false, cases_Bool, and_parts, and_from, or_cases, not-true, not_from_false, false_from_ne_true}
use Rattle.std.proofs.lemmas.Bool.Decides.{Decides-int_eq}
use Rattle.std.proofs.lemmas.Int.{ints}
use Rattle.xs_model.specs.declared.term.Rel.{Rel}
use Rattle.xs_model.specs.declared.term.Rel.TheVariants.{Lt, Le, Ge, Gt}
use Rattle.xs_model.specs.Comparing.{AreDifferent, AreDifferentBut, AreDifferentLists, AreEqual, IsOrdered, IsBelow, InLexOrder}
use Rattle.xs_model.specs.Conditions.{Related}
use Rattle.xs_model.specs.Lists.{is_among, Consecutive}
use Rattle.xs_laws.specs.Ascending.{IsSortedCopy}
use Rattle.xs_laws.specs.Neighbours.{Pairwise}
use Rattle.xs_laws.proofs.Ascending.{sorted_different_but}
use Rattle.xs_laws.proofs.Cumulative.{le_says, le_met, lt_says, lt_met}
use Rattle.xs_laws.proofs.Neighbours.{pairs_as, equal_is_neighbours}
use Rattle.xs_laws.proofs.Somes.{all_map, all_says, all_met}
use Rattle.xs_compared.specs.Tests.{passes_next, all_next, all_pairs, is_apart, are_different, is_same, is_other, related, first_of, behind_first, is_spaced, is_lower, in_order, past}

-- two tests of the same
pub same_test : (a b : Bool) → (a ≡ true → b ≡ true) → (b ≡ true → a ≡ true) → a ≡ b
same_test true true to from = refl
same_test true false to from = sym (to refl)
same_test false true to from = from refl
same_test false false to from = refl

not_is : (P : Type 0) (t : Bool) → P ↔ (t ≡ true) → (P → ⊥) ↔ (not t ≡ true)
not_is P t law = (λ h. not_from_false t (false_from_ne_true t (λ e. h (law.1 e))), λ e p. true≢false (sym (law.0 p) ∙ not-true t e))

-- neighbours, of which something may be known
pub next_among : {X : Type 0} (Q : X → Type 0) (R : X → X → Type 0) (test : X → X → Bool) → ((x y : X) → Q x → Q y → R x y ↔ (test x y ≡ true)) → (xs : List X) → AllByRecursion Q xs → Consecutive R xs ↔ (all_next test xs ≡ true)
next_among Q R test is [] q = (λ h. refl, λ h. tt)
next_among Q R test is (x ∷ []) q = (λ h. refl, λ h. tt)
next_among Q R test is (x ∷ y ∷ xs) q =
    let here = is x y q.0 q.1.0 in
    let rest = next_among Q R test is (y ∷ xs) q.1 in (
      λ h. and_from (test x y) (all_next test (y ∷ xs)) (here.0 h.0) (rest.0 h.1),
      λ h. let r = and_parts (test x y) (all_next test (y ∷ xs)) h in (here.1 r.0, rest.1 r.1),
    )

known : {X : Type 0} (xs : List X) → AllByRecursion (λ x. Unit {0}) xs
known [] = tt
known (x ∷ xs) = (tt, known xs)

pub next_is : {X : Type 0} (R : X → X → Type 0) (test : X → X → Bool) → ((x y : X) → R x y ↔ (test x y ≡ true)) → (xs : List X) → Consecutive R xs ↔ (all_next test xs ≡ true)
next_is R test is xs = next_among (λ x. Unit {0}) R test (λ x y p q. is x y) xs (known xs)

-- pairs
pairs_tested : {X : Type 0} (test : X → X → Bool) (xs : List X) → Pairwise (λ x y. test x y ≡ true) xs ↔ (all_pairs test xs ≡ true)
pairs_tested test [] = (λ h. refl, λ h. tt)
pairs_tested test (x ∷ xs) =
    let rest = pairs_tested test xs in (
      λ h. and_from (list_all (test x) xs) (all_pairs test xs) (all_met (test x) xs h.0) (rest.0 h.1),
      λ h. let r = and_parts (list_all (test x) xs) (all_pairs test xs) h in (all_says (test x) xs r.0, rest.1 r.1),
    )

pub pairs_are : {X : Type 0} (R : X → X → Type 0) (test : X → X → Bool) → ((x y : X) → R x y ↔ (test x y ≡ true)) → (xs : List X) → AllPairs R xs ↔ (all_pairs test xs ≡ true)
pairs_are R test is xs =
    let by = pairs_as R (λ x y. test x y ≡ true) xs is in
    let tested = pairs_tested test xs in
    (λ h. tested.0 (by.0 h), λ h. by.1 (tested.1 h))

-- different values
apart_is : (except : List ℤ) (x y : ℤ) → (x ≡ y → is_among except x ≡ true) ↔ (is_apart except x y ≡ true)
apart_is except x y = by (int_eq x y) refl
  where
    by : (t : Bool) → int_eq x y ≡ t → (x ≡ y → is_among except x ≡ true) ↔ ((not t || is_among except x) ≡ true)
    by true e = (λ h. h ((Decides-int_eq x y).0 e), λ h same. h)
    by false e = (λ h. refl, λ h same. absurd (true≢false (sym ((Decides-int_eq x y).1 same) ∙ e)))

pub different_is : (except xs : List ℤ) → AreDifferentBut except xs ↔ (are_different except xs ≡ true)
different_is except xs = pairs_are (λ x y. x ≡ y → is_among except x ≡ true) (is_apart except) (apart_is except) xs

pub sorted_test : (except xs ys : List ℤ) → IsSortedCopy xs ys → all_next (is_apart except) ys ≡ are_different except xs
sorted_test except xs ys copy =
    let law = sorted_different_but except xs ys copy in
    let pairs = different_is except xs in
    let next = next_is (λ x y. x ≡ y → is_among except x ≡ true) (is_apart except) (apart_is except) ys in
    same_test (all_next (is_apart except) ys) (are_different except xs) (λ h. pairs.0 (law.1 (next.1 h))) (λ h. next.0 (law.0 (pairs.1 h)))

no_exceptions : (x y : ℤ) → (x ≢ y) ↔ (is_apart [] x y ≡ true)
no_exceptions x y = by (int_eq x y) refl
  where
    by : (t : Bool) → int_eq x y ≡ t → (x ≢ y) ↔ ((not t || is_among [] x) ≡ true)
    by true e = (λ ne. absurd (ne ((Decides-int_eq x y).0 e)), λ h. absurd (true≢false (sym h)))
    by false e = (λ ne. refl, λ h same. true≢false (sym ((Decides-int_eq x y).1 same) ∙ e))

pub all_different_is : (xs : List ℤ) → AreDifferent xs ↔ (are_different [] xs ≡ true)
all_different_is xs = pairs_are (λ x y. x ≢ y) (is_apart []) no_exceptions xs

-- lists
pub same_is : (xs ys : List ℤ) → (xs ≡ ys) ↔ (is_same xs ys ≡ true)
same_is xs ys = (λ e. subst (λ (zs : List ℤ). is_same xs zs ≡ true) e (itself xs), back xs ys)
  where
    itself : (xs : List ℤ) → is_same xs xs ≡ true
    itself [] = refl
    itself (x ∷ xs) = and_from (int_eq x x) (is_same xs xs) ((Decides-int_eq x x).1 refl) (itself xs)

    back : (xs ys : List ℤ) → is_same xs ys ≡ true → xs ≡ ys
    back [] [] h = refl
    back [] (y ∷ ys) h = absurd (true≢false (sym h))
    back (x ∷ xs) [] h = absurd (true≢false (sym h))
    back (x ∷ xs) (y ∷ ys) h = let r = and_parts (int_eq x y) (is_same xs ys) h in ap₂ (λ (z : ℤ) (zs : List ℤ). z ∷ zs) ((Decides-int_eq x y).0 r.0) (back xs ys r.1)

pub lists_are : (lists : List (List ℤ)) → AreDifferentLists lists ↔ (all_pairs is_other lists ≡ true)
lists_are lists = pairs_are (λ xs ys. xs ≢ ys) is_other (λ xs ys. not_is (xs ≡ ys) (is_same xs ys) (same_is xs ys)) lists

-- neighbours
pub equal_is : (xs : List ℤ) → AreEqual xs ↔ (all_next int_eq xs ≡ true)
equal_is xs =
    let law = equal_is_neighbours xs in
    let next = next_is (λ x y. x ≡ y) int_eq (λ x y. ((Decides-int_eq x y).1, (Decides-int_eq x y).0)) xs in
    (λ h. next.0 (law.0 h), λ h. law.1 (next.1 h))

pub related_is : (rel : Rel) (x y : ℤ) → Related rel x y ↔ (related rel x y ≡ true)
related_is Lt x y = (lt_met x y, lt_says x y)
related_is Le x y = (le_met x y, le_says x y)
related_is Ge x y = (le_met y x, le_says y x)
related_is Gt x y = (lt_met y x, lt_says y x)

pub spaced_is : (rel : Rel) (ls xs : List ℤ) → IsOrdered rel ls xs ↔ (is_spaced rel ls xs ≡ true)
spaced_is rel ls [] = (λ h. refl, λ h. tt)
spaced_is rel ls (x ∷ []) = (λ h. refl, λ h. tt)
spaced_is rel [] (x ∷ y ∷ xs) =
    let here = related_is rel x y in
    let rest = spaced_is rel [] (y ∷ xs) in
    let alone : related rel (x +ℤ pos 0) y ≡ related rel x y = ap (λ (z : ℤ). related rel z y) (zero_more x) in (
      λ h. and_from (related rel (x +ℤ pos 0) y) (is_spaced rel [] (y ∷ xs)) (alone ∙ here.0 h.0) (rest.0 h.1),
      λ h. let r = and_parts (related rel (x +ℤ pos 0) y) (is_spaced rel [] (y ∷ xs)) h in (here.1 (sym alone ∙ r.0), rest.1 r.1),
    )
  where
    zero_more : (x : ℤ) → (x +ℤ pos 0) ≡ x
    zero_more x = omega (arith, ints)
spaced_is rel (l ∷ ls) (x ∷ y ∷ xs) =
    let here = related_is rel (x +ℤ l) y in
    let rest = spaced_is rel ls (y ∷ xs) in (
      λ h. and_from (related rel (x +ℤ l) y) (is_spaced rel ls (y ∷ xs)) (here.0 h.0) (rest.0 h.1),
      λ h. let r = and_parts (related rel (x +ℤ l) y) (is_spaced rel ls (y ∷ xs)) h in (here.1 r.0, rest.1 r.1),
    )

-- lexicographic order
pub lower_is : (xs ys : List ℤ) → IsBelow xs ys ↔ (is_lower xs ys ≡ true)
lower_is [] ys = (λ h. absurd h, λ h. absurd (true≢false (sym h)))
lower_is (x ∷ xs) [] = (λ h. absurd h, λ h. absurd (true≢false (sym h)))
lower_is (x ∷ xs) (y ∷ ys) = by (int_eq x y) refl (lower_is xs ys)
  where
    by : (t : Bool) → int_eq x y ≡ t → IsBelow xs ys ↔ (is_lower xs ys ≡ true) → IsBelow (x ∷ xs) (y ∷ ys) ↔ ((if t then is_lower xs ys else int_lt x y) ≡ true)
    by true e rest = (λ h. elim h [ inl l ↦ absurd (less x y ((Decides-int_eq x y).0 e) l) | inr s ↦ rest.0 s.1 ], λ h. inr ((Decides-int_eq x y).0 e, rest.1 h))
      where
        less : (x y : ℤ) → x ≡ y → x <ℤ y → ⊥
        less x y e l = omega (arith, ints, e, l)
    by false e rest = (λ h. elim h [ inl l ↦ lt_met x y l | inr s ↦ absurd (true≢false (sym ((Decides-int_eq x y).1 s.0) ∙ e)) ], λ h. inl (lt_says x y h))

-- of two lists of one length, the second is not lower where they are the same or the first is
not_lower : (xs ys : List ℤ) → length xs ≡ length ys → ((xs ≡ ys) ⊎ IsBelow xs ys) ↔ (is_lower ys xs ≡ false)
not_lower [] [] many = (λ h. refl, λ h. inl refl)
not_lower [] (y ∷ ys) many = absurd (omega arith)
not_lower (x ∷ xs) [] many = absurd (omega arith)
not_lower (x ∷ xs) (y ∷ ys) many = by (int_eq y x) refl (not_lower xs ys (omega arith))
  where
    tail : (x ∷ xs) ≡ (y ∷ ys) → xs ≡ ys
    tail e = cc

    head : (x ∷ xs) ≡ (y ∷ ys) → x ≡ y
    head e = cc

    irreflexive : (x y : ℤ) → x ≡ y → x <ℤ y → ⊥
    irreflexive x y e l = omega (arith, ints, e, l)

    both : (x y : ℤ) → x <ℤ y → y <ℤ x → ⊥
    both x y l k = omega (arith, ints, l, k)

    other : (x y : ℤ) → (y ≢ x) → (y <ℤ x → ⊥) → x <ℤ y
    other x y ne not_less = grind (arith, ints)

    by : (t : Bool) → int_eq y x ≡ t → ((xs ≡ ys) ⊎ IsBelow xs ys) ↔ (is_lower ys xs ≡ false) → (((x ∷ xs) ≡ (y ∷ ys)) ⊎ IsBelow (x ∷ xs) (y ∷ ys)) ↔ ((if t then is_lower ys xs else int_lt y x) ≡ false)
    by true e rest =
        let same : x ≡ y = sym ((Decides-int_eq y x).0 e) in (
          λ h. rest.0 (elim h [ inl s ↦ inl (tail s) | inr b ↦ elim b [ inl l ↦ absurd (irreflexive x y same l) | inr r ↦ inr r.1 ] ]),
          λ h. elim (rest.1 h) [ inl s ↦ inl (ap₂ (λ (z : ℤ) (zs : List ℤ). z ∷ zs) same s) | inr b ↦ inr (inr (same, b)) ],
        )
    by false e rest =
        let ne : y ≢ x = λ s. true≢false (sym ((Decides-int_eq y x).1 s) ∙ e) in (
          λ h. false_from_ne_true (int_lt y x) (λ l. elim h [ inl s ↦ ne (sym (head s)) | inr b ↦ elim b [ inl k ↦ both x y k (lt_says y x l) | inr r ↦ ne (sym r.0) ] ]),
          λ h. inr (inl (other x y ne (λ l. true≢false (sym (lt_met y x l) ∙ h)))),
        )

pub order_is : (rel : Rel) (xs ys : List ℤ) → length xs ≡ length ys → InLexOrder rel xs ys ↔ (in_order rel xs ys ≡ true)
order_is Lt xs ys many = lower_is xs ys
order_is Le xs ys many = let law = not_lower xs ys many in (λ h. not_from_false (is_lower ys xs) (law.0 h), λ h. law.1 (not-true (is_lower ys xs) h))
order_is Ge xs ys many =
    let law = not_lower ys xs (sym many) in (
      λ h. not_from_false (is_lower xs ys) (law.0 (elim h [ inl e ↦ inl (sym e) | inr b ↦ inr b ])),
      λ h. elim (law.1 (not-true (is_lower xs ys) h)) [ inl e ↦ inl (sym e) | inr b ↦ inr b ],
    )
order_is Gt xs ys many = lower_is ys xs
