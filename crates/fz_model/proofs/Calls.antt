-- What the calls that lowerings post say. Each `_says` and `_met` is one direction of it, so that no one else reads the table of rows.
use Rattle.std.proofs.Common.{◌≡◌, ◌≢◌, ℕ, ℤ, pos, ◌*ℤ◌, Bool as Truth, true, false, not, ◌&&◌, List, [], ◌∷◌, map, refl, ap, sym, ◌∙◌, true≢false}
use Rattle.std.specs.Prelude.{nat_abs, int_le, int_lt}
use Rattle.std.specs.List.{list_any, list_all}
use Rattle.std.specs.Ordering.{int_eq}
use Rattle.std.proofs.lemmas.Bool.Decides.{Decides-int_eq}
use Rattle.xf_num.specs.Span.{Bounds}
use Rattle.fz_model.specs.declared.builtin.Builtin.TheVariants.{IntLinEq, IntLinNe, IntLinLe, IntLinLeReif, IntEq, IntNe, IntLe, IntLt, IntEqReif, IntNeReif, IntLeReif, IntLtReif, IntAbs, IntTimes, IntDiv, IntMod, ArrayIntMinimum, ArrayIntMaximum, ArrayIntElement, ArrayVarIntElement, Bool2Int, BoolEq, BoolEqReif, BoolLeReif, BoolNot, BoolXor, BoolClause, ArrayBoolAnd, ArrayBoolOr, SetIn, SetInReif}
use Rattle.fz_model.specs.declared.model.Arg.{Arg, out-Arg, out-roll-Arg}
use Rattle.fz_model.specs.declared.model.Arg.TheOpen.{List as Listed}
use Rattle.fz_model.specs.declared.model.Arg.TheVariants as arg
use Rattle.fz_model.specs.Calls.{call_of, ne_call}
use Rattle.fz_model.specs.Meaning.{at, truth, number, members, members_of, numbers, has, dot, is_one, clause, is_least, is_greatest, is_element, is_quotient, is_remainder, CallHolds}

-- what an argument is worth

pub number-Int : (b : List ℤ) (z : ℤ) → number b (arg.Int z) ≡ z
unfolding out-Arg denote.Hole.Carrier.out
number-Int b z = refl

pub number-Bool : (b : List ℤ) (t : Truth) → number b (arg.Bool t) ≡ truth t
unfolding out-Arg denote.Hole.Carrier.out
number-Bool b t = refl

pub number-Var : (b : List ℤ) (k : ℕ) → number b (arg.Var k) ≡ at b k
unfolding out-Arg denote.Hole.Carrier.out
number-Var b k = refl

pub members-List : (xs : List Arg) → members (arg.List xs) ≡ xs
members-List xs = ap members_of (ap out-Arg (sym (arg.rolls-List xs)) ∙ out-roll-Arg (Listed xs))

pub numbers-List : (b : List ℤ) (xs : List Arg) → numbers b (arg.List xs) ≡ map (number b) xs
numbers-List b xs = ap (map (number b)) (members-List xs)

pub has-Set : (zs : List ℤ) (v : ℤ) → has (arg.Set zs) v ≡ list_any (int_eq v) zs
unfolding out-Arg denote.Hole.Carrier.out
has-Set zs v = refl

pub has-Range : (s : Bounds) (v : ℤ) → has (arg.Range s) v ≡ (int_le s.lo v && int_le v s.hi)
unfolding out-Arg denote.Hole.Carrier.out
has-Range s v = refl

-- tests

clash : (t : Truth) → not t ≡ true → t ≡ true → ⊥
clash true h k = true≢false (sym h)
clash false h k = true≢false (sym k)

refuted : (t : Truth) → (t ≡ true → ⊥) → not t ≡ true
refuted true f = absurd (f refl)
refuted false f = refl

pub equal : (x y : ℤ) → int_eq x y ≡ true → x ≡ y
equal x y = (Decides-int_eq x y).0

pub equal_met : (x y : ℤ) → x ≡ y → int_eq x y ≡ true
equal_met x y = (Decides-int_eq x y).1

pub unequal : (x y : ℤ) → not (int_eq x y) ≡ true → x ≢ y
unequal x y h = λ same. clash (int_eq x y) h (equal_met x y same)

pub unequal_met : (x y : ℤ) → x ≢ y → not (int_eq x y) ≡ true
unequal_met x y h = refuted (int_eq x y) (λ t. h (equal x y t))

-- plain comparisons

pub ne_says : (b : List ℤ) (x y : ℕ) → CallHolds b (ne_call x y) → at b x ≢ at b y
unfolding CallHolds out-Arg denote.Hole.Carrier.out
ne_says b x y h = unequal (at b x) (at b y) h

pub ne_met : (b : List ℤ) (x y : ℕ) → at b x ≢ at b y → CallHolds b (ne_call x y)
unfolding CallHolds out-Arg denote.Hole.Carrier.out
ne_met b x y h = unequal_met (at b x) (at b y) h

pub int_eq_says : (b : List ℤ) (x y : Arg) → CallHolds b (call_of IntEq (x ∷ y ∷ [])) → number b x ≡ number b y
unfolding CallHolds
int_eq_says b x y h = equal (number b x) (number b y) h

pub int_eq_met : (b : List ℤ) (x y : Arg) → number b x ≡ number b y → CallHolds b (call_of IntEq (x ∷ y ∷ []))
unfolding CallHolds
int_eq_met b x y h = equal_met (number b x) (number b y) h

pub int_ne_says : (b : List ℤ) (x y : Arg) → CallHolds b (call_of IntNe (x ∷ y ∷ [])) → number b x ≢ number b y
unfolding CallHolds
int_ne_says b x y h = unequal (number b x) (number b y) h

pub int_ne_met : (b : List ℤ) (x y : Arg) → number b x ≢ number b y → CallHolds b (call_of IntNe (x ∷ y ∷ []))
unfolding CallHolds
int_ne_met b x y h = unequal_met (number b x) (number b y) h

pub int_le_says : (b : List ℤ) (x y : Arg) → CallHolds b (call_of IntLe (x ∷ y ∷ [])) → int_le (number b x) (number b y) ≡ true
unfolding CallHolds
int_le_says b x y h = h

pub int_le_met : (b : List ℤ) (x y : Arg) → int_le (number b x) (number b y) ≡ true → CallHolds b (call_of IntLe (x ∷ y ∷ []))
unfolding CallHolds
int_le_met b x y h = h

pub int_lt_says : (b : List ℤ) (x y : Arg) → CallHolds b (call_of IntLt (x ∷ y ∷ [])) → int_lt (number b x) (number b y) ≡ true
unfolding CallHolds
int_lt_says b x y h = h

pub int_lt_met : (b : List ℤ) (x y : Arg) → int_lt (number b x) (number b y) ≡ true → CallHolds b (call_of IntLt (x ∷ y ∷ []))
unfolding CallHolds
int_lt_met b x y h = h

pub bool_eq_says : (b : List ℤ) (x y : Arg) → CallHolds b (call_of BoolEq (x ∷ y ∷ [])) → number b x ≡ number b y
unfolding CallHolds
bool_eq_says b x y h = equal (number b x) (number b y) h

pub bool_eq_met : (b : List ℤ) (x y : Arg) → number b x ≡ number b y → CallHolds b (call_of BoolEq (x ∷ y ∷ []))
unfolding CallHolds
bool_eq_met b x y h = equal_met (number b x) (number b y) h

pub bool2int_says : (b : List ℤ) (x y : Arg) → CallHolds b (call_of Bool2Int (x ∷ y ∷ [])) → number b x ≡ number b y
unfolding CallHolds
bool2int_says b x y h = equal (number b x) (number b y) h

pub bool2int_met : (b : List ℤ) (x y : Arg) → number b x ≡ number b y → CallHolds b (call_of Bool2Int (x ∷ y ∷ []))
unfolding CallHolds
bool2int_met b x y h = equal_met (number b x) (number b y) h

pub bool_not_says : (b : List ℤ) (x y : Arg) → CallHolds b (call_of BoolNot (x ∷ y ∷ [])) → number b x ≢ number b y
unfolding CallHolds
bool_not_says b x y h = unequal (number b x) (number b y) h

pub bool_not_met : (b : List ℤ) (x y : Arg) → number b x ≢ number b y → CallHolds b (call_of BoolNot (x ∷ y ∷ []))
unfolding CallHolds
bool_not_met b x y h = unequal_met (number b x) (number b y) h

pub set_in_says : (b : List ℤ) (x s : Arg) → CallHolds b (call_of SetIn (x ∷ s ∷ [])) → has s (number b x) ≡ true
unfolding CallHolds
set_in_says b x s h = h

pub set_in_met : (b : List ℤ) (x s : Arg) → has s (number b x) ≡ true → CallHolds b (call_of SetIn (x ∷ s ∷ []))
unfolding CallHolds
set_in_met b x s h = h

-- the truth of a test

pub int_eq_reif_says : (b : List ℤ) (x y r : Arg) → CallHolds b (call_of IntEqReif (x ∷ y ∷ r ∷ [])) → number b r ≡ truth (int_eq (number b x) (number b y))
unfolding CallHolds
int_eq_reif_says b x y r h = equal (number b r) (truth (int_eq (number b x) (number b y))) h

pub int_eq_reif_met : (b : List ℤ) (x y r : Arg) → number b r ≡ truth (int_eq (number b x) (number b y)) → CallHolds b (call_of IntEqReif (x ∷ y ∷ r ∷ []))
unfolding CallHolds
int_eq_reif_met b x y r h = equal_met (number b r) (truth (int_eq (number b x) (number b y))) h

pub int_ne_reif_says : (b : List ℤ) (x y r : Arg) → CallHolds b (call_of IntNeReif (x ∷ y ∷ r ∷ [])) → number b r ≡ truth (not (int_eq (number b x) (number b y)))
unfolding CallHolds
int_ne_reif_says b x y r h = equal (number b r) (truth (not (int_eq (number b x) (number b y)))) h

pub int_ne_reif_met : (b : List ℤ) (x y r : Arg) → number b r ≡ truth (not (int_eq (number b x) (number b y))) → CallHolds b (call_of IntNeReif (x ∷ y ∷ r ∷ []))
unfolding CallHolds
int_ne_reif_met b x y r h = equal_met (number b r) (truth (not (int_eq (number b x) (number b y)))) h

pub int_le_reif_says : (b : List ℤ) (x y r : Arg) → CallHolds b (call_of IntLeReif (x ∷ y ∷ r ∷ [])) → number b r ≡ truth (int_le (number b x) (number b y))
unfolding CallHolds
int_le_reif_says b x y r h = equal (number b r) (truth (int_le (number b x) (number b y))) h

pub int_le_reif_met : (b : List ℤ) (x y r : Arg) → number b r ≡ truth (int_le (number b x) (number b y)) → CallHolds b (call_of IntLeReif (x ∷ y ∷ r ∷ []))
unfolding CallHolds
int_le_reif_met b x y r h = equal_met (number b r) (truth (int_le (number b x) (number b y))) h

pub int_lt_reif_says : (b : List ℤ) (x y r : Arg) → CallHolds b (call_of IntLtReif (x ∷ y ∷ r ∷ [])) → number b r ≡ truth (int_lt (number b x) (number b y))
unfolding CallHolds
int_lt_reif_says b x y r h = equal (number b r) (truth (int_lt (number b x) (number b y))) h

pub int_lt_reif_met : (b : List ℤ) (x y r : Arg) → number b r ≡ truth (int_lt (number b x) (number b y)) → CallHolds b (call_of IntLtReif (x ∷ y ∷ r ∷ []))
unfolding CallHolds
int_lt_reif_met b x y r h = equal_met (number b r) (truth (int_lt (number b x) (number b y))) h

pub bool_eq_reif_says : (b : List ℤ) (x y r : Arg) → CallHolds b (call_of BoolEqReif (x ∷ y ∷ r ∷ [])) → number b r ≡ truth (int_eq (number b x) (number b y))
unfolding CallHolds
bool_eq_reif_says b x y r h = equal (number b r) (truth (int_eq (number b x) (number b y))) h

pub bool_eq_reif_met : (b : List ℤ) (x y r : Arg) → number b r ≡ truth (int_eq (number b x) (number b y)) → CallHolds b (call_of BoolEqReif (x ∷ y ∷ r ∷ []))
unfolding CallHolds
bool_eq_reif_met b x y r h = equal_met (number b r) (truth (int_eq (number b x) (number b y))) h

pub bool_le_reif_says : (b : List ℤ) (x y r : Arg) → CallHolds b (call_of BoolLeReif (x ∷ y ∷ r ∷ [])) → number b r ≡ truth (int_le (number b x) (number b y))
unfolding CallHolds
bool_le_reif_says b x y r h = equal (number b r) (truth (int_le (number b x) (number b y))) h

pub bool_le_reif_met : (b : List ℤ) (x y r : Arg) → number b r ≡ truth (int_le (number b x) (number b y)) → CallHolds b (call_of BoolLeReif (x ∷ y ∷ r ∷ []))
unfolding CallHolds
bool_le_reif_met b x y r h = equal_met (number b r) (truth (int_le (number b x) (number b y))) h

pub bool_xor_says : (b : List ℤ) (x y r : Arg) → CallHolds b (call_of BoolXor (x ∷ y ∷ r ∷ [])) → number b r ≡ truth (not (int_eq (number b x) (number b y)))
unfolding CallHolds
bool_xor_says b x y r h = equal (number b r) (truth (not (int_eq (number b x) (number b y)))) h

pub bool_xor_met : (b : List ℤ) (x y r : Arg) → number b r ≡ truth (not (int_eq (number b x) (number b y))) → CallHolds b (call_of BoolXor (x ∷ y ∷ r ∷ []))
unfolding CallHolds
bool_xor_met b x y r h = equal_met (number b r) (truth (not (int_eq (number b x) (number b y)))) h

pub set_in_reif_says : (b : List ℤ) (x y r : Arg) → CallHolds b (call_of SetInReif (x ∷ y ∷ r ∷ [])) → number b r ≡ truth (has y (number b x))
unfolding CallHolds
set_in_reif_says b x y r h = equal (number b r) (truth (has y (number b x))) h

pub set_in_reif_met : (b : List ℤ) (x y r : Arg) → number b r ≡ truth (has y (number b x)) → CallHolds b (call_of SetInReif (x ∷ y ∷ r ∷ []))
unfolding CallHolds
set_in_reif_met b x y r h = equal_met (number b r) (truth (has y (number b x))) h

pub array_bool_and_says : (b : List ℤ) (xs r : Arg) → CallHolds b (call_of ArrayBoolAnd (xs ∷ r ∷ [])) → number b r ≡ truth (list_all is_one (numbers b xs))
unfolding CallHolds
array_bool_and_says b xs r h = equal (number b r) (truth (list_all is_one (numbers b xs))) h

pub array_bool_and_met : (b : List ℤ) (xs r : Arg) → number b r ≡ truth (list_all is_one (numbers b xs)) → CallHolds b (call_of ArrayBoolAnd (xs ∷ r ∷ []))
unfolding CallHolds
array_bool_and_met b xs r h = equal_met (number b r) (truth (list_all is_one (numbers b xs))) h

pub array_bool_or_says : (b : List ℤ) (xs r : Arg) → CallHolds b (call_of ArrayBoolOr (xs ∷ r ∷ [])) → number b r ≡ truth (list_any is_one (numbers b xs))
unfolding CallHolds
array_bool_or_says b xs r h = equal (number b r) (truth (list_any is_one (numbers b xs))) h

pub array_bool_or_met : (b : List ℤ) (xs r : Arg) → number b r ≡ truth (list_any is_one (numbers b xs)) → CallHolds b (call_of ArrayBoolOr (xs ∷ r ∷ []))
unfolding CallHolds
array_bool_or_met b xs r h = equal_met (number b r) (truth (list_any is_one (numbers b xs))) h

pub int_lin_le_reif_says : (b : List ℤ) (cs xs k r : Arg) → CallHolds b (call_of IntLinLeReif (cs ∷ xs ∷ k ∷ r ∷ [])) → number b r ≡ truth (int_le (dot (numbers b cs) (numbers b xs)) (number b k))
unfolding CallHolds
int_lin_le_reif_says b cs xs k r h = equal (number b r) (truth (int_le (dot (numbers b cs) (numbers b xs)) (number b k))) h

pub int_lin_le_reif_met : (b : List ℤ) (cs xs k r : Arg) → number b r ≡ truth (int_le (dot (numbers b cs) (numbers b xs)) (number b k)) → CallHolds b (call_of IntLinLeReif (cs ∷ xs ∷ k ∷ r ∷ []))
unfolding CallHolds
int_lin_le_reif_met b cs xs k r h = equal_met (number b r) (truth (int_le (dot (numbers b cs) (numbers b xs)) (number b k))) h

pub bool_clause_says : (b : List ℤ) (ps ns : Arg) → CallHolds b (call_of BoolClause (ps ∷ ns ∷ [])) → clause (numbers b ps) (numbers b ns) ≡ true
unfolding CallHolds
bool_clause_says b ps ns h = h

pub bool_clause_met : (b : List ℤ) (ps ns : Arg) → clause (numbers b ps) (numbers b ns) ≡ true → CallHolds b (call_of BoolClause (ps ∷ ns ∷ []))
unfolding CallHolds
bool_clause_met b ps ns h = h

-- sums, products, places

pub int_lin_eq_says : (b : List ℤ) (cs xs k : Arg) → CallHolds b (call_of IntLinEq (cs ∷ xs ∷ k ∷ [])) → dot (numbers b cs) (numbers b xs) ≡ number b k
unfolding CallHolds
int_lin_eq_says b cs xs k h = equal (dot (numbers b cs) (numbers b xs)) (number b k) h

pub int_lin_eq_met : (b : List ℤ) (cs xs k : Arg) → dot (numbers b cs) (numbers b xs) ≡ number b k → CallHolds b (call_of IntLinEq (cs ∷ xs ∷ k ∷ []))
unfolding CallHolds
int_lin_eq_met b cs xs k h = equal_met (dot (numbers b cs) (numbers b xs)) (number b k) h

pub int_lin_ne_says : (b : List ℤ) (cs xs k : Arg) → CallHolds b (call_of IntLinNe (cs ∷ xs ∷ k ∷ [])) → dot (numbers b cs) (numbers b xs) ≢ number b k
unfolding CallHolds
int_lin_ne_says b cs xs k h = unequal (dot (numbers b cs) (numbers b xs)) (number b k) h

pub int_lin_ne_met : (b : List ℤ) (cs xs k : Arg) → dot (numbers b cs) (numbers b xs) ≢ number b k → CallHolds b (call_of IntLinNe (cs ∷ xs ∷ k ∷ []))
unfolding CallHolds
int_lin_ne_met b cs xs k h = unequal_met (dot (numbers b cs) (numbers b xs)) (number b k) h

pub int_lin_le_says : (b : List ℤ) (cs xs k : Arg) → CallHolds b (call_of IntLinLe (cs ∷ xs ∷ k ∷ [])) → int_le (dot (numbers b cs) (numbers b xs)) (number b k) ≡ true
unfolding CallHolds
int_lin_le_says b cs xs k h = h

pub int_lin_le_met : (b : List ℤ) (cs xs k : Arg) → int_le (dot (numbers b cs) (numbers b xs)) (number b k) ≡ true → CallHolds b (call_of IntLinLe (cs ∷ xs ∷ k ∷ []))
unfolding CallHolds
int_lin_le_met b cs xs k h = h

pub int_abs_says : (b : List ℤ) (x y : Arg) → CallHolds b (call_of IntAbs (x ∷ y ∷ [])) → pos (nat_abs (number b x)) ≡ number b y
unfolding CallHolds
int_abs_says b x y h = equal (pos (nat_abs (number b x))) (number b y) h

pub int_abs_met : (b : List ℤ) (x y : Arg) → pos (nat_abs (number b x)) ≡ number b y → CallHolds b (call_of IntAbs (x ∷ y ∷ []))
unfolding CallHolds
int_abs_met b x y h = equal_met (pos (nat_abs (number b x))) (number b y) h

pub int_times_says : (b : List ℤ) (x y z : Arg) → CallHolds b (call_of IntTimes (x ∷ y ∷ z ∷ [])) → number b x *ℤ number b y ≡ number b z
unfolding CallHolds
int_times_says b x y z h = equal (number b x *ℤ number b y) (number b z) h

pub int_times_met : (b : List ℤ) (x y z : Arg) → number b x *ℤ number b y ≡ number b z → CallHolds b (call_of IntTimes (x ∷ y ∷ z ∷ []))
unfolding CallHolds
int_times_met b x y z h = equal_met (number b x *ℤ number b y) (number b z) h

pub int_div_says : (b : List ℤ) (x y z : Arg) → CallHolds b (call_of IntDiv (x ∷ y ∷ z ∷ [])) → is_quotient (number b x) (number b y) (number b z) ≡ true
unfolding CallHolds
int_div_says b x y z h = h

pub int_div_met : (b : List ℤ) (x y z : Arg) → is_quotient (number b x) (number b y) (number b z) ≡ true → CallHolds b (call_of IntDiv (x ∷ y ∷ z ∷ []))
unfolding CallHolds
int_div_met b x y z h = h

pub int_mod_says : (b : List ℤ) (x y z : Arg) → CallHolds b (call_of IntMod (x ∷ y ∷ z ∷ [])) → is_remainder (number b x) (number b y) (number b z) ≡ true
unfolding CallHolds
int_mod_says b x y z h = h

pub int_mod_met : (b : List ℤ) (x y z : Arg) → is_remainder (number b x) (number b y) (number b z) ≡ true → CallHolds b (call_of IntMod (x ∷ y ∷ z ∷ []))
unfolding CallHolds
int_mod_met b x y z h = h

pub array_int_element_says : (b : List ℤ) (i xs c : Arg) → CallHolds b (call_of ArrayIntElement (i ∷ xs ∷ c ∷ [])) → is_element (number b i) (numbers b xs) (number b c) ≡ true
unfolding CallHolds
array_int_element_says b i xs c h = h

pub array_int_element_met : (b : List ℤ) (i xs c : Arg) → is_element (number b i) (numbers b xs) (number b c) ≡ true → CallHolds b (call_of ArrayIntElement (i ∷ xs ∷ c ∷ []))
unfolding CallHolds
array_int_element_met b i xs c h = h

pub array_var_int_element_says : (b : List ℤ) (i xs c : Arg) → CallHolds b (call_of ArrayVarIntElement (i ∷ xs ∷ c ∷ [])) → is_element (number b i) (numbers b xs) (number b c) ≡ true
unfolding CallHolds
array_var_int_element_says b i xs c h = h

pub array_var_int_element_met : (b : List ℤ) (i xs c : Arg) → is_element (number b i) (numbers b xs) (number b c) ≡ true → CallHolds b (call_of ArrayVarIntElement (i ∷ xs ∷ c ∷ []))
unfolding CallHolds
array_var_int_element_met b i xs c h = h

pub array_int_minimum_says : (b : List ℤ) (m xs : Arg) → CallHolds b (call_of ArrayIntMinimum (m ∷ xs ∷ [])) → is_least (number b m) (numbers b xs) ≡ true
unfolding CallHolds
array_int_minimum_says b m xs h = h

pub array_int_minimum_met : (b : List ℤ) (m xs : Arg) → is_least (number b m) (numbers b xs) ≡ true → CallHolds b (call_of ArrayIntMinimum (m ∷ xs ∷ []))
unfolding CallHolds
array_int_minimum_met b m xs h = h

pub array_int_maximum_says : (b : List ℤ) (m xs : Arg) → CallHolds b (call_of ArrayIntMaximum (m ∷ xs ∷ [])) → is_greatest (number b m) (numbers b xs) ≡ true
unfolding CallHolds
array_int_maximum_says b m xs h = h

pub array_int_maximum_met : (b : List ℤ) (m xs : Arg) → is_greatest (number b m) (numbers b xs) ≡ true → CallHolds b (call_of ArrayIntMaximum (m ∷ xs ∷ []))
unfolding CallHolds
array_int_maximum_met b m xs h = h
