-- A call has one value of the variable that it fixes, and which variable the calls of each shape fix.
use Rattle.std.proofs.Common.{◌≡◌, ◌⊎◌, inl, inr, ℕ, ◌<◌, ℤ, pos, negsuc, ◌+ℤ◌, ◌*ℤ◌, ◌≤ℤ◌, Bool as Truth, true, false, not, ◌&&◌, ◌||◌, List, [], ◌∷◌, ◌++◌, length, map, refl, ap, sym, subst, ◌∙◌, true≢false, arith, rules}
use Rattle.std.specs.Prelude.{int_le, int_lt, int_div, int_rem, nat_abs, get_or, ◌-◌}
use Rattle.std.specs.List.{AllByRecursion, list_any, list_all}
use Rattle.std.specs.Ordering.{int_eq}
use Rattle.std.proofs.lemmas.Int.{ints}
use Rattle.fz_model.specs.declared.builtin.Builtin.{Builtin}
use Rattle.fz_model.specs.declared.builtin.Builtin.TheVariants.{IntLinEq, IntLinEqReif, IntLinNeReif, IntLinLeReif, IntEqReif, IntNeReif, IntLeReif, IntLtReif, IntAbs, IntTimes, IntDiv, IntMod, ArrayIntMinimum, ArrayIntMaximum, ArrayIntElement, ArrayVarIntElement, ArrayBoolElement, ArrayVarBoolElement, Bool2Int, BoolEqReif, BoolLeReif, BoolLtReif, BoolNot, BoolXor, BoolClauseReif, ArrayBoolAnd, ArrayBoolOr, ArrayBoolXor, SetInReif}
use Rattle.xf_num.specs.Span.{Bounds}
use Rattle.fz_model.specs.declared.model.Arg.{Arg, out-Arg, out-roll-Arg}
use Rattle.fz_model.specs.declared.model.Arg.TheOpen.{Arg-F, Int, Bool, Var, Range, Set, List as Listed}
use Rattle.fz_model.specs.declared.model.Arg.TheVariants as arg
use Rattle.fz_model.specs.Calls.{call_of}
use Rattle.fz_model.specs.Meaning.{at, truth, number_of, number, members_of, members, numbers, has, Worth, worth, dot, is_one, clause, is_least, is_greatest, row_of_one, row_of_two, row_of_three, row_of_four, HoldsAt, CallHolds}
use Rattle.fz_model.specs.Fixing.{Agree, IsVar, IsItemBefore, AreItemsBefore, IsBeforeOf, IsBefore, IsLast, IsFirst, IsUnit, IsMember, Place, Last, LastOfThree, First, Either, Member, Nowhere, place_of, FixesAt, Fixes, IsBit, FixedByCalls}
use Rattle.fz_model.proofs.Calls.{equal, unequal, members-List}

-- what reads only variables before k is worth the same

item_same : (k : ℕ) (b c : List ℤ) (l : Arg-F Arg) → Agree k b c → IsItemBefore k l → number_of b l ≡ number_of c l
item_same k b c (Int z) agree h = refl
item_same k b c (Bool t) agree h = refl
item_same k b c (Var v) agree h = agree v h
item_same k b c (Range s) agree h = refl
item_same k b c (Set s) agree h = refl
item_same k b c (Listed xs) agree h = absurd h

items_same : (k : ℕ) (b c : List ℤ) (xs : List Arg) → Agree k b c → AreItemsBefore k xs → map (number b) xs ≡ map (number c) xs
items_same k b c [] agree h = refl
items_same k b c (x ∷ xs) agree h = ap (λ z. z ∷ map (number b) xs) (item_same k b c (out-Arg x) agree h.0) ∙ ap (λ zs. number c x ∷ zs) (items_same k b c xs agree h.1)

pub number_same : (k : ℕ) (b c : List ℤ) (l : Arg-F Arg) → Agree k b c → IsBeforeOf k l → number_of b l ≡ number_of c l
number_same k b c (Int z) agree h = refl
number_same k b c (Bool t) agree h = refl
number_same k b c (Var v) agree h = agree v h
number_same k b c (Range s) agree h = refl
number_same k b c (Set s) agree h = refl
number_same k b c (Listed xs) agree h = refl

pub numbers_same : (k : ℕ) (b c : List ℤ) (l : Arg-F Arg) → Agree k b c → IsBeforeOf k l → map (number b) (members_of l) ≡ map (number c) (members_of l)
numbers_same k b c (Int z) agree h = refl
numbers_same k b c (Bool t) agree h = refl
numbers_same k b c (Var v) agree h = refl
numbers_same k b c (Range s) agree h = refl
numbers_same k b c (Set s) agree h = refl
numbers_same k b c (Listed xs) agree h = items_same k b c xs agree h

worth_by : ℤ → List ℤ → (ℤ → Truth) → Worth
worth_by n ns f = record { number = n; numbers = ns; has = f }

pub worth_same : (k : ℕ) (b c : List ℤ) (a : Arg) → Agree k b c → IsBefore k a → worth b a ≡ worth c a
unfolding IsBefore worth_by
worth_same k b c a agree h = ap (λ n. worth_by n (numbers b a) (has a)) (number_same k b c (out-Arg a) agree h) ∙ ap (λ ns. worth_by (number c a) ns (has a)) (numbers_same k b c (out-Arg a) agree h)

var_is : (k : ℕ) (b : List ℤ) (l : Arg-F Arg) → IsVar k l → number_of b l ≡ at b k
var_is k b (Int z) h = absurd h
var_is k b (Bool t) h = absurd h
var_is k b (Var v) h = ap (at b) h
var_is k b (Range s) h = absurd h
var_is k b (Set s) h = absurd h
var_is k b (Listed xs) h = absurd h

by_number : (k : ℕ) (b c : List ℤ) (r : Arg) → IsVar k (out-Arg r) → number b r ≡ number c r → at b k ≡ at c k
by_number k b c r is e = sym (var_is k b (out-Arg r) is) ∙ e ∙ var_is k c (out-Arg r) is

-- rows that determine one of their numbers

false_is : {P : Type 0} → false ≡ true → P
false_is h = absurd (true≢false (sym h))

after : (s t : Truth) → (s && t) ≡ true → t ≡ true
after true t h = h
after false t h = false_is h

before : (s t : Truth) → (s && t) ≡ true → s ≡ true
before true t h = refl
before false t h = false_is h

same_left : (z u v : ℤ) → int_eq z u ≡ true → int_eq z v ≡ true → u ≡ v
same_left z u v h h' = sym (equal z u h) ∙ equal z v h'

same_right : (z u v : ℤ) → int_eq u z ≡ true → int_eq v z ≡ true → u ≡ v
same_right z u v h h' = equal u z h ∙ sym (equal v z h')

other_bit : (x u v : ℤ) → IsBit x → IsBit u → IsBit v → not (int_eq x u) ≡ true → not (int_eq x v) ≡ true → u ≡ v
other_bit x u v bx bu bv h h' =
    let p = unequal x u h in
    let q = unequal x v h' in
    elim bu [
      | inl eu ↦ elim bv [ inl ev ↦ eu ∙ sym ev | inr ev ↦ elim bx [ inl ex ↦ absurd (p (ex ∙ sym eu)) | inr ex ↦ absurd (q (ex ∙ sym ev)) ] ]
      | inr eu ↦ elim bv [ inr ev ↦ eu ∙ sym ev | inl ev ↦ elim bx [ inr ex ↦ absurd (p (ex ∙ sym eu)) | inl ex ↦ absurd (q (ex ∙ sym ev)) ] ]
    ]

AtLast : Place → Type 0
AtLast Last = Unit {0}
AtLast _ = ⊥

last_of_one : (i : Builtin) (r : Worth) → AtLast (place_of i) → row_of_one i r ≡ true → ⊥
unfolding AtLast
last_of_one ArrayBoolXor r p h = absurd p
last_of_one _ r p h = false_is h

-- the values of the arguments of a bool_not are bits
AreBits : Builtin → ℤ → ℤ → ℤ → Type 0
AreBits i x u v = i ≡ BoolNot → IsBit x × IsBit u × IsBit v

last_of_two : (i : Builtin) (x r s : Worth) → AtLast (place_of i) → AreBits i x.number r.number s.number → row_of_two i x r ≡ true → row_of_two i x s ≡ true → r.number ≡ s.number
unfolding AtLast AreBits
last_of_two IntAbs x r s p bits h h' = same_left (pos (nat_abs x.number)) r.number s.number h h'
last_of_two ArrayBoolAnd x r s p bits h h' = same_right (truth (list_all is_one x.numbers)) r.number s.number h h'
last_of_two ArrayBoolOr x r s p bits h h' = same_right (truth (list_any is_one x.numbers)) r.number s.number h h'
last_of_two BoolNot x r s p bits h h' = let z = bits refl in other_bit x.number r.number s.number z.0 z.1 z.2 h h'
last_of_two IntLinEqReif x r s p bits h h' = false_is h
last_of_two IntLinNeReif x r s p bits h h' = false_is h
last_of_two IntLinLeReif x r s p bits h h' = false_is h
last_of_two IntEqReif x r s p bits h h' = false_is h
last_of_two IntNeReif x r s p bits h h' = false_is h
last_of_two IntLeReif x r s p bits h h' = false_is h
last_of_two IntLtReif x r s p bits h h' = false_is h
last_of_two BoolEqReif x r s p bits h h' = false_is h
last_of_two BoolLeReif x r s p bits h h' = false_is h
last_of_two BoolLtReif x r s p bits h h' = false_is h
last_of_two BoolClauseReif x r s p bits h h' = false_is h
last_of_two SetInReif x r s p bits h h' = false_is h
last_of_two IntTimes x r s p bits h h' = false_is h
last_of_two IntDiv x r s p bits h h' = false_is h
last_of_two IntMod x r s p bits h h' = false_is h
last_of_two ArrayIntElement x r s p bits h h' = false_is h
last_of_two ArrayVarIntElement x r s p bits h h' = false_is h
last_of_two ArrayBoolElement x r s p bits h h' = false_is h
last_of_two ArrayVarBoolElement x r s p bits h h' = false_is h
last_of_two _ x r s p bits h h' = absurd p

last_of_three : (i : Builtin) (x y r s : Worth) → AtLast (place_of i) → row_of_three i x y r ≡ true → row_of_three i x y s ≡ true → r.number ≡ s.number
unfolding AtLast
last_of_three IntEqReif x y r s p h h' = same_right (truth (int_eq x.number y.number)) r.number s.number h h'
last_of_three IntNeReif x y r s p h h' = same_right (truth (not (int_eq x.number y.number))) r.number s.number h h'
last_of_three IntLeReif x y r s p h h' = same_right (truth (int_le x.number y.number)) r.number s.number h h'
last_of_three IntLtReif x y r s p h h' = same_right (truth (int_lt x.number y.number)) r.number s.number h h'
last_of_three BoolEqReif x y r s p h h' = same_right (truth (int_eq x.number y.number)) r.number s.number h h'
last_of_three BoolLeReif x y r s p h h' = same_right (truth (int_le x.number y.number)) r.number s.number h h'
last_of_three BoolLtReif x y r s p h h' = same_right (truth (int_lt x.number y.number)) r.number s.number h h'
last_of_three BoolClauseReif x y r s p h h' = same_right (truth (clause x.numbers y.numbers)) r.number s.number h h'
last_of_three SetInReif x y r s p h h' = same_right (truth (y.has x.number)) r.number s.number h h'
last_of_three IntTimes x y r s p h h' = same_left (x.number *ℤ y.number) r.number s.number h h'
last_of_three IntDiv x y r s p h h' = same_left (int_div x.number y.number) r.number s.number (after _ _ h) (after _ _ h')
last_of_three IntMod x y r s p h h' = same_left (int_rem x.number y.number) r.number s.number (after _ _ h) (after _ _ h')
last_of_three ArrayIntElement x y r s p h h' = same_left (get_or y.numbers (nat_abs x.number - 1) (pos 0)) r.number s.number (after _ _ h) (after _ _ h')
last_of_three ArrayVarIntElement x y r s p h h' = same_left (get_or y.numbers (nat_abs x.number - 1) (pos 0)) r.number s.number (after _ _ h) (after _ _ h')
last_of_three ArrayBoolElement x y r s p h h' = same_left (get_or y.numbers (nat_abs x.number - 1) (pos 0)) r.number s.number (after _ _ h) (after _ _ h')
last_of_three ArrayVarBoolElement x y r s p h h' = same_left (get_or y.numbers (nat_abs x.number - 1) (pos 0)) r.number s.number (after _ _ h) (after _ _ h')
last_of_three IntLinEqReif x y r s p h h' = false_is h
last_of_three IntLinNeReif x y r s p h h' = false_is h
last_of_three IntLinLeReif x y r s p h h' = false_is h
last_of_three IntAbs x y r s p h h' = false_is h
last_of_three BoolNot x y r s p h h' = false_is h
last_of_three ArrayBoolAnd x y r s p h h' = false_is h
last_of_three ArrayBoolOr x y r s p h h' = false_is h
last_of_three _ x y r s p h h' = absurd p

last_of_four : (i : Builtin) (x y z r s : Worth) → AtLast (place_of i) → row_of_four i x y z r ≡ true → row_of_four i x y z s ≡ true → r.number ≡ s.number
unfolding AtLast
last_of_four IntLinEqReif x y z r s p h h' = same_right (truth (int_eq (dot x.numbers y.numbers) z.number)) r.number s.number h h'
last_of_four IntLinNeReif x y z r s p h h' = same_right (truth (not (int_eq (dot x.numbers y.numbers) z.number))) r.number s.number h h'
last_of_four IntLinLeReif x y z r s p h h' = same_right (truth (int_le (dot x.numbers y.numbers) z.number)) r.number s.number h h'
last_of_four _ x y z r s p h h' = false_is h

-- the arguments of a bool_not, as NotOfBits has them
Bits : List ℤ → Builtin → List Arg → Type 0
Bits b i args = i ≡ BoolNot → AllByRecursion (λ x. IsBit (number b x)) args

fixed_last : (k : ℕ) (i : Builtin) (args : List Arg) (b c : List ℤ) → AtLast (place_of i) → Agree k b c → IsLast k args → Bits b i args → Bits c i args → HoldsAt b i args → HoldsAt c i args → at b k ≡ at c k
unfolding AtLast AreBits Bits
fixed_last k i [] b c p agree l nb nc h h' = absurd l
fixed_last k i (r ∷ []) b c p agree l nb nc h h' = absurd (last_of_one i (worth b r) p h)
fixed_last k i (x ∷ r ∷ []) b c p agree l nb nc h h' =
    let g = subst (λ (w : Worth). row_of_two i w (worth c r) ≡ true) (sym (worth_same k b c x agree l.0)) h' in
    by_number k b c r l.1 (last_of_two i (worth b x) (worth b r) (worth c r) p (λ e. ((nb e).0, (nb e).1.0, (nc e).1.0)) h g)
fixed_last k i (x ∷ y ∷ r ∷ []) b c p agree l nb nc h h' =
    let g = subst (λ (w : Worth). row_of_three i w (worth c y) (worth c r) ≡ true) (sym (worth_same k b c x agree l.0)) h' in
    let g2 = subst (λ (w : Worth). row_of_three i (worth b x) w (worth c r) ≡ true) (sym (worth_same k b c y agree l.1.0)) g in
    by_number k b c r l.1.1 (last_of_three i (worth b x) (worth b y) (worth b r) (worth c r) p h g2)
fixed_last k i (x ∷ y ∷ z ∷ r ∷ []) b c p agree l nb nc h h' =
    let g = subst (λ (w : Worth). row_of_four i w (worth c y) (worth c z) (worth c r) ≡ true) (sym (worth_same k b c x agree l.0)) h' in
    let g2 = subst (λ (w : Worth). row_of_four i (worth b x) w (worth c z) (worth c r) ≡ true) (sym (worth_same k b c y agree l.1.0)) g in
    let g3 = subst (λ (w : Worth). row_of_four i (worth b x) (worth b y) w (worth c r) ≡ true) (sym (worth_same k b c z agree l.1.1.0)) g2 in
    by_number k b c r l.1.1.1 (last_of_four i (worth b x) (worth b y) (worth b z) (worth b r) (worth c r) p h g3)
fixed_last k i (x ∷ y ∷ z ∷ r ∷ s ∷ more) b c p agree l nb nc h h' = false_is h

-- a bool_xor of three
xor_fixed : (k : ℕ) (args : List Arg) (b c : List ℤ) → Agree k b c → FixesAt k LastOfThree args → HoldsAt b BoolXor args → HoldsAt c BoolXor args → at b k ≡ at c k
xor_fixed k (x ∷ y ∷ r ∷ []) b c agree l h h' =
    let g = subst (λ (w : Worth). row_of_three BoolXor w (worth c y) (worth c r) ≡ true) (sym (worth_same k b c x agree l.0)) h' in
    let g2 = subst (λ (w : Worth). row_of_three BoolXor (worth b x) w (worth c r) ≡ true) (sym (worth_same k b c y agree l.1.0)) g in
    by_number k b c r l.1.1 (same_right (truth (not (int_eq (number b x) (number b y)))) (number b r) (number c r) h g2)
xor_fixed k _ b c agree l h h' = absurd l

-- a least and a greatest member

at_most : (m n : ℤ) → int_le m n ≡ true → m ≤ℤ n
at_most m n h = search rules

le_both : (m n : ℤ) → m ≤ℤ n → n ≤ℤ m → m ≡ n
le_both m n h k = omega (arith, ints)

one_is : (P : ℤ → Type 0) (n x : ℤ) (t rest : Truth) → (t ≡ true → n ≡ x) → P x → (rest ≡ true → P n) → (t || rest) ≡ true → P n
one_is P n x true rest e p more k = subst P (sym (e refl)) p
one_is P n x false rest e p more k = more k

all_above : (m n : ℤ) (xs : List ℤ) → list_all (int_le m) xs ≡ true → list_any (int_eq n) xs ≡ true → int_le m n ≡ true
all_above m n [] h k = false_is k
all_above m n (x ∷ xs) h k =
    one_is (λ z. int_le m z ≡ true) n x (int_eq n x) (list_any (int_eq n) xs) (equal n x) (before _ _ h) (all_above m n xs (after _ _ h)) k

all_below : (m n : ℤ) (xs : List ℤ) → list_all (λ x. int_le x m) xs ≡ true → list_any (int_eq n) xs ≡ true → int_le n m ≡ true
all_below m n [] h k = false_is k
all_below m n (x ∷ xs) h k =
    one_is (λ z. int_le z m ≡ true) n x (int_eq n x) (list_any (int_eq n) xs) (equal n x) (before _ _ h) (all_below m n xs (after _ _ h)) k

least_one : (m n : ℤ) (xs : List ℤ) → is_least m xs ≡ true → is_least n xs ≡ true → m ≡ n
least_one m n xs h h' = le_both m n (at_most m n (all_above m n xs (after _ _ h) (before _ _ h'))) (at_most n m (all_above n m xs (after _ _ h') (before _ _ h)))

greatest_one : (m n : ℤ) (xs : List ℤ) → is_greatest m xs ≡ true → is_greatest n xs ≡ true → m ≡ n
greatest_one m n xs h h' = le_both m n (at_most m n (all_below n m xs (after _ _ h') (before _ _ h))) (at_most n m (all_below m n xs (after _ _ h) (before _ _ h')))

least_fixed : (k : ℕ) (args : List Arg) (b c : List ℤ) → Agree k b c → IsFirst k args → HoldsAt b ArrayIntMinimum args → HoldsAt c ArrayIntMinimum args → at b k ≡ at c k
least_fixed k [] b c agree l h h' = absurd l
least_fixed k (m ∷ xs ∷ []) b c agree l h h' =
    let g = subst (λ (w : Worth). row_of_two ArrayIntMinimum (worth c m) w ≡ true) (sym (worth_same k b c xs agree l.1.0)) h' in
    by_number k b c m l.0 (least_one (number b m) (number c m) (numbers b xs) h g)
least_fixed k (m ∷ []) b c agree l h h' = false_is h
least_fixed k (m ∷ x ∷ y ∷ []) b c agree l h h' = false_is h
least_fixed k (m ∷ x ∷ y ∷ z ∷ []) b c agree l h h' = false_is h
least_fixed k (m ∷ x ∷ y ∷ z ∷ r ∷ more) b c agree l h h' = false_is h

greatest_fixed : (k : ℕ) (args : List Arg) (b c : List ℤ) → Agree k b c → IsFirst k args → HoldsAt b ArrayIntMaximum args → HoldsAt c ArrayIntMaximum args → at b k ≡ at c k
greatest_fixed k [] b c agree l h h' = absurd l
greatest_fixed k (m ∷ xs ∷ []) b c agree l h h' =
    let g = subst (λ (w : Worth). row_of_two ArrayIntMaximum (worth c m) w ≡ true) (sym (worth_same k b c xs agree l.1.0)) h' in
    by_number k b c m l.0 (greatest_one (number b m) (number c m) (numbers b xs) h g)
greatest_fixed k (m ∷ []) b c agree l h h' = false_is h
greatest_fixed k (m ∷ x ∷ y ∷ []) b c agree l h h' = false_is h
greatest_fixed k (m ∷ x ∷ y ∷ z ∷ []) b c agree l h h' = false_is h
greatest_fixed k (m ∷ x ∷ y ∷ z ∷ r ∷ more) b c agree l h h' = false_is h

-- either argument of a bool2int

either_of_two : (k : ℕ) (x y : Arg) (b c : List ℤ) → Agree k b c → IsLast k (x ∷ y ∷ []) ⊎ IsFirst k (x ∷ y ∷ []) → HoldsAt b Bool2Int (x ∷ y ∷ []) → HoldsAt c Bool2Int (x ∷ y ∷ []) → at b k ≡ at c k
either_of_two k x y b c agree (inl l) h h' =
    let g = subst (λ (w : Worth). int_eq w.number (number c y) ≡ true) (sym (worth_same k b c x agree l.0)) h' in
    by_number k b c y l.1 (same_left (number b x) (number b y) (number c y) h g)
either_of_two k x y b c agree (inr l) h h' =
    let g = subst (λ (w : Worth). int_eq (number c x) w.number ≡ true) (sym (worth_same k b c y agree l.1.0)) h' in
    by_number k b c x l.0 (same_right (number b y) (number b x) (number c x) h g)

either_fixed : (k : ℕ) (args : List Arg) (b c : List ℤ) → Agree k b c → IsLast k args ⊎ IsFirst k args → HoldsAt b Bool2Int args → HoldsAt c Bool2Int args → at b k ≡ at c k
either_fixed k [] b c agree l h h' = false_is h
either_fixed k (x ∷ []) b c agree l h h' = false_is h
either_fixed k (x ∷ y ∷ []) b c agree l h h' = either_of_two k x y b c agree l h h'
either_fixed k (x ∷ y ∷ z ∷ []) b c agree l h h' = false_is h
either_fixed k (x ∷ y ∷ z ∷ r ∷ []) b c agree l h h' = false_is h
either_fixed k (x ∷ y ∷ z ∷ r ∷ s ∷ more) b c agree l h h' = false_is h

-- a member of a sum with the coefficient 1 or -1

drop_same : (p d e : ℤ) → (p +ℤ d) ≡ (p +ℤ e) → d ≡ e
drop_same p d e h = omega (arith, ints)

unit_same : (z x y d : ℤ) → (z ≡ pos 1) ⊎ (z ≡ negsuc 0) → ((z *ℤ x) +ℤ d) ≡ ((z *ℤ y) +ℤ d) → x ≡ y
unit_same z x y d (inl e) h = (let g : ((pos 1 *ℤ x) +ℤ d) ≡ ((pos 1 *ℤ y) +ℤ d) = subst (λ (u : ℤ). ((u *ℤ x) +ℤ d) ≡ ((u *ℤ y) +ℤ d)) e h in omega (arith, ints, g))
unit_same z x y d (inr e) h = (let g : ((negsuc 0 *ℤ x) +ℤ d) ≡ ((negsuc 0 *ℤ y) +ℤ d) = subst (λ (u : ℤ). ((u *ℤ x) +ℤ d) ≡ ((u *ℤ y) +ℤ d)) e h in omega (arith, ints, g))

unit_of : (b c : List ℤ) (l : Arg-F Arg) → IsUnit l → (number_of b l ≡ number_of c l) × ((number_of b l ≡ pos 1) ⊎ (number_of b l ≡ negsuc 0))
unit_of b c (Int z) h = (refl, h)
unit_of b c (Bool t) h = absurd h
unit_of b c (Var v) h = absurd h
unit_of b c (Range s) h = absurd h
unit_of b c (Set s) h = absurd h
unit_of b c (Listed xs) h = absurd h

sum_of : List ℤ → List Arg → List Arg → ℤ
sum_of b cs xs = dot (map (number b) cs) (map (number b) xs)

-- the two sums begin with the same product, or with the unit times the variable
first_same : (b c : List ℤ) (q x : Arg) (d e : ℤ) → number b q ≡ number c q → number b x ≡ number c x → ((number b q *ℤ number b x) +ℤ d) ≡ ((number c q *ℤ number c x) +ℤ e) → d ≡ e
first_same b c q x d e eq ex h =
    let g = subst (λ (z : ℤ). ((number b q *ℤ number b x) +ℤ d) ≡ ((z *ℤ number c x) +ℤ e)) (sym eq) h in
    let g2 = subst (λ (z : ℤ). ((number b q *ℤ number b x) +ℤ d) ≡ ((number b q *ℤ z) +ℤ e)) (sym ex) g in
    drop_same (number b q *ℤ number b x) d e g2

rest_same : (b c : List ℤ) (q x : Arg) (d e : ℤ) → number b q ≡ number c q → (number b q ≡ pos 1) ⊎ (number b q ≡ negsuc 0) → d ≡ e → ((number b q *ℤ number b x) +ℤ d) ≡ ((number c q *ℤ number c x) +ℤ e) → number b x ≡ number c x
rest_same b c q x d e eq unit ed h =
    let g = subst (λ (z : ℤ). ((number b q *ℤ number b x) +ℤ d) ≡ ((z *ℤ number c x) +ℤ e)) (sym eq) h in
    let g2 = subst (λ (z : ℤ). ((number b q *ℤ number b x) +ℤ d) ≡ ((number b q *ℤ number c x) +ℤ z)) (sym ed) g in
    unit_same (number b q) (number b x) (number c x) d unit g2

dot_same : (b c ds es : List ℤ) (fs gs : List ℤ) → ds ≡ fs → es ≡ gs → dot ds es ≡ dot fs gs
dot_same b c ds es fs gs e f = ap (λ z. dot z es) e ∙ ap (λ z. dot fs z) f

member_same : (k : ℕ) (cs xs : List Arg) (b c : List ℤ) → Agree k b c → IsMember k cs xs → dot (map (number b) cs) (map (number b) xs) ≡ dot (map (number c) cs) (map (number c) xs) → at b k ≡ at c k
member_same k [] xs b c agree m h = absurd m
member_same k (q ∷ cs) [] b c agree m h = absurd m
member_same k (q ∷ cs) (x ∷ xs) b c agree (inl m) h =
    let u = unit_of b c (out-Arg q) m.0 in
    let same = dot_same b c (map (number b) cs) (map (number b) xs) (map (number c) cs) (map (number c) xs) (items_same k b c cs agree m.2) (items_same k b c xs agree m.3) in
    by_number k b c x m.1 (rest_same b c q x (dot (map (number b) cs) (map (number b) xs)) (dot (map (number c) cs) (map (number c) xs)) u.0 u.1 same h)
member_same k (q ∷ cs) (x ∷ xs) b c agree (inr m) h =
    member_same k cs xs b c agree m.2 (first_same b c q x (dot (map (number b) cs) (map (number b) xs)) (dot (map (number c) cs) (map (number c) xs)) (item_same k b c (out-Arg q) agree m.0) (item_same k b c (out-Arg x) agree m.1) h)

member_fixed : (k : ℕ) (args : List Arg) (b c : List ℤ) → Agree k b c → FixesAt k Member args → HoldsAt b IntLinEq args → HoldsAt c IntLinEq args → at b k ≡ at c k
member_fixed k (cs ∷ xs ∷ z ∷ []) b c agree l h h' =
    let z_same : number c z ≡ number b z = sym (ap (λ (w : Worth). w.number) (worth_same k b c z agree l.1)) in
    let sums : dot (numbers b cs) (numbers b xs) ≡ dot (numbers c cs) (numbers c xs) =
    equal (dot (numbers b cs) (numbers b xs)) (number b z) h ∙ sym (equal (dot (numbers c cs) (numbers c xs)) (number c z) h' ∙ z_same) in
    member_same k (members cs) (members xs) b c agree l.0 sums
member_fixed k _ b c agree l h h' = absurd l

-- which builtins have these places

AtThree : Place → Type 0
AtThree LastOfThree = Unit {0}
AtThree _ = ⊥

is_xor : (i : Builtin) → AtThree (place_of i) → i ≡ BoolXor
unfolding AtThree
is_xor BoolXor p = refl
is_xor _ p = absurd p

AtFirst : Place → Type 0
AtFirst First = Unit {0}
AtFirst _ = ⊥

is_extreme : (i : Builtin) → AtFirst (place_of i) → (i ≡ ArrayIntMinimum) ⊎ (i ≡ ArrayIntMaximum)
unfolding AtFirst
is_extreme ArrayIntMinimum p = inl refl
is_extreme ArrayIntMaximum p = inr refl
is_extreme _ p = absurd p

AtEither : Place → Type 0
AtEither Either = Unit {0}
AtEither _ = ⊥

is_bool2int : (i : Builtin) → AtEither (place_of i) → i ≡ Bool2Int
unfolding AtEither
is_bool2int Bool2Int p = refl
is_bool2int _ p = absurd p

AtMember : Place → Type 0
AtMember Member = Unit {0}
AtMember _ = ⊥

is_lin_eq : (i : Builtin) → AtMember (place_of i) → i ≡ IntLinEq
unfolding AtMember
is_lin_eq IntLinEq p = refl
is_lin_eq _ p = absurd p

at_place : (k : ℕ) (i : Builtin) (p : Place) (args : List Arg) (b c : List ℤ) → place_of i ≡ p → FixesAt k p args → Agree k b c → Bits b i args → Bits c i args → HoldsAt b i args → HoldsAt c i args → at b k ≡ at c k
unfolding AtLast AtThree AtFirst AtEither AtMember Bits
at_place k i Last args b c e f agree nb nc h h' = fixed_last k i args b c (subst AtLast (sym e) tt) agree f nb nc h h'
at_place k i LastOfThree args b c e f agree nb nc h h' =
    let is = is_xor i (subst AtThree (sym e) tt) in
    xor_fixed k args b c agree f (subst (λ (j : Builtin). HoldsAt b j args) is h) (subst (λ (j : Builtin). HoldsAt c j args) is h')
at_place k i First args b c e f agree nb nc h h' =
    elim (is_extreme i (subst AtFirst (sym e) tt)) [
      | inl is ↦ least_fixed k args b c agree f (subst (λ (j : Builtin). HoldsAt b j args) is h) (subst (λ (j : Builtin). HoldsAt c j args) is h')
      | inr is ↦ greatest_fixed k args b c agree f (subst (λ (j : Builtin). HoldsAt b j args) is h) (subst (λ (j : Builtin). HoldsAt c j args) is h')
    ]
at_place k i Either args b c e f agree nb nc h h' =
    let is = is_bool2int i (subst AtEither (sym e) tt) in
    either_fixed k args b c agree f (subst (λ (j : Builtin). HoldsAt b j args) is h) (subst (λ (j : Builtin). HoldsAt c j args) is h')
at_place k i Member args b c e f agree nb nc h h' =
    let is = is_lin_eq i (subst AtMember (sym e) tt) in
    member_fixed k args b c agree f (subst (λ (j : Builtin). HoldsAt b j args) is h) (subst (λ (j : Builtin). HoldsAt c j args) is h')
at_place k i Nowhere args b c e f agree nb nc h h' = absurd f

pub fixed_by_calls : FixedByCalls
unfolding Fixes CallHolds Bits
fixed_by_calls k call b c f agree nb nc h h' = at_place k call.builtin (place_of call.builtin) call.args b c refl f agree nb nc h h'

-- which variable the calls of each shape fix

pub before-Int : (k : ℕ) (z : ℤ) → IsBefore k (arg.Int z)
unfolding IsBefore out-Arg denote.Hole.Carrier.out
before-Int k z = tt

pub before-Bool : (k : ℕ) (t : Truth) → IsBefore k (arg.Bool t)
unfolding IsBefore out-Arg denote.Hole.Carrier.out
before-Bool k t = tt

pub before-Var : (k v : ℕ) → v < k → IsBefore k (arg.Var v)
unfolding IsBefore out-Arg denote.Hole.Carrier.out
before-Var k v h = h

pub before-Set : (k : ℕ) (zs : List ℤ) → IsBefore k (arg.Set zs)
unfolding IsBefore out-Arg denote.Hole.Carrier.out
before-Set k zs = tt

pub before-Range : (k : ℕ) (s : Bounds) → IsBefore k (arg.Range s)
unfolding IsBefore out-Arg denote.Hole.Carrier.out
before-Range k s = tt

pub before-List : (k : ℕ) (xs : List Arg) → AreItemsBefore k xs → IsBefore k (arg.List xs)
unfolding IsBefore
before-List k xs h = subst (IsBeforeOf k) (sym (ap out-Arg (sym (arg.rolls-List xs)) ∙ out-roll-Arg (Listed xs))) h

pub item_before-Int : (k : ℕ) (z : ℤ) → IsItemBefore k (out-Arg (arg.Int z))
unfolding out-Arg denote.Hole.Carrier.out
item_before-Int k z = tt

pub item_before-Bool : (k : ℕ) (t : Truth) → IsItemBefore k (out-Arg (arg.Bool t))
unfolding out-Arg denote.Hole.Carrier.out
item_before-Bool k t = tt

pub item_before-Var : (k v : ℕ) → v < k → IsItemBefore k (out-Arg (arg.Var v))
unfolding out-Arg denote.Hole.Carrier.out
item_before-Var k v h = h

pub is_var : (k : ℕ) → IsVar k (out-Arg (arg.Var k))
unfolding out-Arg denote.Hole.Carrier.out
is_var k = refl

-- the last of two, of three and of four arguments, of a builtin that fixes its last one

pub last_of_two_fixes : (i : Builtin) (k : ℕ) (x : Arg) → place_of i ≡ Last → IsBefore k x → Fixes k (call_of i (x ∷ arg.Var k ∷ []))
unfolding Fixes
last_of_two_fixes i k x e h = subst (λ (p : Place). FixesAt k p (x ∷ arg.Var k ∷ [])) (sym e) (h, is_var k)

pub last_of_three_fixes : (i : Builtin) (k : ℕ) (x y : Arg) → place_of i ≡ Last → IsBefore k x → IsBefore k y → Fixes k (call_of i (x ∷ y ∷ arg.Var k ∷ []))
unfolding Fixes
last_of_three_fixes i k x y e h g = subst (λ (p : Place). FixesAt k p (x ∷ y ∷ arg.Var k ∷ [])) (sym e) (h, (g, is_var k))

pub last_of_four_fixes : (i : Builtin) (k : ℕ) (x y z : Arg) → place_of i ≡ Last → IsBefore k x → IsBefore k y → IsBefore k z → Fixes k (call_of i (x ∷ y ∷ z ∷ arg.Var k ∷ []))
unfolding Fixes
last_of_four_fixes i k x y z e h g f = subst (λ (p : Place). FixesAt k p (x ∷ y ∷ z ∷ arg.Var k ∷ [])) (sym e) (h, (g, (f, is_var k)))

pub int_abs_fixes : (k : ℕ) (x : Arg) → IsBefore k x → Fixes k (call_of IntAbs (x ∷ arg.Var k ∷ []))
int_abs_fixes k x h = last_of_two_fixes IntAbs k x refl h

pub bool_not_fixes : (k : ℕ) (x : Arg) → IsBefore k x → Fixes k (call_of BoolNot (x ∷ arg.Var k ∷ []))
bool_not_fixes k x h = last_of_two_fixes BoolNot k x refl h

pub array_bool_and_fixes : (k : ℕ) (x : Arg) → IsBefore k x → Fixes k (call_of ArrayBoolAnd (x ∷ arg.Var k ∷ []))
array_bool_and_fixes k x h = last_of_two_fixes ArrayBoolAnd k x refl h

pub array_bool_or_fixes : (k : ℕ) (x : Arg) → IsBefore k x → Fixes k (call_of ArrayBoolOr (x ∷ arg.Var k ∷ []))
array_bool_or_fixes k x h = last_of_two_fixes ArrayBoolOr k x refl h

pub int_eq_reif_fixes : (k : ℕ) (x y : Arg) → IsBefore k x → IsBefore k y → Fixes k (call_of IntEqReif (x ∷ y ∷ arg.Var k ∷ []))
int_eq_reif_fixes k x y h g = last_of_three_fixes IntEqReif k x y refl h g

pub int_ne_reif_fixes : (k : ℕ) (x y : Arg) → IsBefore k x → IsBefore k y → Fixes k (call_of IntNeReif (x ∷ y ∷ arg.Var k ∷ []))
int_ne_reif_fixes k x y h g = last_of_three_fixes IntNeReif k x y refl h g

pub int_le_reif_fixes : (k : ℕ) (x y : Arg) → IsBefore k x → IsBefore k y → Fixes k (call_of IntLeReif (x ∷ y ∷ arg.Var k ∷ []))
int_le_reif_fixes k x y h g = last_of_three_fixes IntLeReif k x y refl h g

pub int_lt_reif_fixes : (k : ℕ) (x y : Arg) → IsBefore k x → IsBefore k y → Fixes k (call_of IntLtReif (x ∷ y ∷ arg.Var k ∷ []))
int_lt_reif_fixes k x y h g = last_of_three_fixes IntLtReif k x y refl h g

pub bool_eq_reif_fixes : (k : ℕ) (x y : Arg) → IsBefore k x → IsBefore k y → Fixes k (call_of BoolEqReif (x ∷ y ∷ arg.Var k ∷ []))
bool_eq_reif_fixes k x y h g = last_of_three_fixes BoolEqReif k x y refl h g

pub bool_le_reif_fixes : (k : ℕ) (x y : Arg) → IsBefore k x → IsBefore k y → Fixes k (call_of BoolLeReif (x ∷ y ∷ arg.Var k ∷ []))
bool_le_reif_fixes k x y h g = last_of_three_fixes BoolLeReif k x y refl h g

pub set_in_reif_fixes : (k : ℕ) (x y : Arg) → IsBefore k x → IsBefore k y → Fixes k (call_of SetInReif (x ∷ y ∷ arg.Var k ∷ []))
set_in_reif_fixes k x y h g = last_of_three_fixes SetInReif k x y refl h g

pub int_times_fixes : (k : ℕ) (x y : Arg) → IsBefore k x → IsBefore k y → Fixes k (call_of IntTimes (x ∷ y ∷ arg.Var k ∷ []))
int_times_fixes k x y h g = last_of_three_fixes IntTimes k x y refl h g

pub int_div_fixes : (k : ℕ) (x y : Arg) → IsBefore k x → IsBefore k y → Fixes k (call_of IntDiv (x ∷ y ∷ arg.Var k ∷ []))
int_div_fixes k x y h g = last_of_three_fixes IntDiv k x y refl h g

pub int_mod_fixes : (k : ℕ) (x y : Arg) → IsBefore k x → IsBefore k y → Fixes k (call_of IntMod (x ∷ y ∷ arg.Var k ∷ []))
int_mod_fixes k x y h g = last_of_three_fixes IntMod k x y refl h g

pub array_int_element_fixes : (k : ℕ) (x y : Arg) → IsBefore k x → IsBefore k y → Fixes k (call_of ArrayIntElement (x ∷ y ∷ arg.Var k ∷ []))
array_int_element_fixes k x y h g = last_of_three_fixes ArrayIntElement k x y refl h g

pub array_var_int_element_fixes : (k : ℕ) (x y : Arg) → IsBefore k x → IsBefore k y → Fixes k (call_of ArrayVarIntElement (x ∷ y ∷ arg.Var k ∷ []))
array_var_int_element_fixes k x y h g = last_of_three_fixes ArrayVarIntElement k x y refl h g

pub int_lin_le_reif_fixes : (k : ℕ) (cs xs z : Arg) → IsBefore k cs → IsBefore k xs → IsBefore k z → Fixes k (call_of IntLinLeReif (cs ∷ xs ∷ z ∷ arg.Var k ∷ []))
int_lin_le_reif_fixes k cs xs z h g f = last_of_four_fixes IntLinLeReif k cs xs z refl h g f

pub bool_xor_fixes : (k : ℕ) (x y : Arg) → IsBefore k x → IsBefore k y → Fixes k (call_of BoolXor (x ∷ y ∷ arg.Var k ∷ []))
unfolding Fixes
bool_xor_fixes k x y h g = (h, (g, is_var k))

pub array_int_minimum_fixes : (k : ℕ) (xs : Arg) → IsBefore k xs → Fixes k (call_of ArrayIntMinimum (arg.Var k ∷ xs ∷ []))
unfolding Fixes
array_int_minimum_fixes k xs h = (is_var k, (h, tt))

pub array_int_maximum_fixes : (k : ℕ) (xs : Arg) → IsBefore k xs → Fixes k (call_of ArrayIntMaximum (arg.Var k ∷ xs ∷ []))
unfolding Fixes
array_int_maximum_fixes k xs h = (is_var k, (h, tt))

-- the integer of a Boolean, and the Boolean of an integer

pub bool2int_fixes : (k : ℕ) (x : Arg) → IsBefore k x → Fixes k (call_of Bool2Int (x ∷ arg.Var k ∷ []))
unfolding Fixes
bool2int_fixes k x h = inl (h, is_var k)

pub bool2int_fixes_first : (k : ℕ) (y : Arg) → IsBefore k y → Fixes k (call_of Bool2Int (arg.Var k ∷ y ∷ []))
unfolding Fixes
bool2int_fixes_first k y h = inr (is_var k, (h, tt))

-- the last member of a sum, with the coefficient 1 or -1

is_unit : (z : ℤ) → (z ≡ pos 1) ⊎ (z ≡ negsuc 0) → IsUnit (out-Arg (arg.Int z))
unfolding out-Arg denote.Hole.Carrier.out
is_unit z h = h

member_last : (k : ℕ) (z : ℤ) (cs xs : List Arg) → (z ≡ pos 1) ⊎ (z ≡ negsuc 0) → length cs ≡ length xs → AreItemsBefore k cs → AreItemsBefore k xs → IsMember k (cs ++ arg.Int z ∷ []) (xs ++ arg.Var k ∷ [])
member_last k z [] [] unit e h g = inl (is_unit z unit, is_var k, tt, tt)
member_last k z [] (x ∷ xs) unit e h g = absurd (omega (arith, e))
member_last k z (q ∷ cs) [] unit e h g = absurd (omega (arith, e))
member_last k z (q ∷ cs) (x ∷ xs) unit e h g = inr (h.0, g.0, member_last k z cs xs unit (omega (arith, e)) h.1 g.1)

pub int_lin_eq_fixes : (k : ℕ) (z : ℤ) (cs xs : List Arg) (sum : Arg) → (z ≡ pos 1) ⊎ (z ≡ negsuc 0) → length cs ≡ length xs → AreItemsBefore k cs → AreItemsBefore k xs → IsBefore k sum
    → Fixes k (call_of IntLinEq (arg.List (cs ++ arg.Int z ∷ []) ∷ arg.List (xs ++ arg.Var k ∷ []) ∷ sum ∷ []))
unfolding Fixes
int_lin_eq_fixes k z cs xs sum unit e h g f =
    let m = member_last k z cs xs unit e h g in
    let p = subst (λ (l : List Arg). IsMember k l (xs ++ arg.Var k ∷ [])) (sym (members-List (cs ++ arg.Int z ∷ []))) m in
    (subst (IsMember k (members (arg.List (cs ++ arg.Int z ∷ [])))) (sym (members-List (xs ++ arg.Var k ∷ []))) p, f)
