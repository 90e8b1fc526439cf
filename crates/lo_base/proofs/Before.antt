-- Calls that speak of variables before a number alone: of a greater number too, in a row, and where a call fixes a variable.
use Rattle.std.proofs.Common.{◌⊎◌, inl, inr, ℕ, ◌+◌, ◌≤◌, List, [], ◌∷◌, ◌++◌, sym, subst, arith}
use Rattle.fz_model.specs.declared.model.Arg.{Arg, out-Arg}
use Rattle.fz_model.specs.declared.model.Arg.TheOpen.{Arg-F, Int, Bool, Var, Range, Set, List as Listed}
use Rattle.fz_model.specs.declared.model.Call.{Call}
use Rattle.fz_model.specs.Meaning.{members_of, members}
use Rattle.fz_model.specs.Fixing.{IsVar, IsUnit, IsItemBefore, AreItemsBefore, IsBeforeOf, IsBefore, AreBefore, IsLast, IsFirst, IsMember, Place, Last, LastOfThree, First, Either, Member, Nowhere, place_of, FixesAt, Fixes}
use Rattle.lo_base.specs.Before.{AreCallsBefore}
use Rattle.lo_base.specs.Item.{Item}
use Rattle.lo_base.specs.Lowered.{calls_of}
use Rattle.lo_base.specs.Held.{calls_of-append}

pub before_append : (k : ℕ) (cs ds : List Call) → AreCallsBefore k cs → AreCallsBefore k ds → AreCallsBefore k (cs ++ ds)
before_append k [] ds h g = g
before_append k (c ∷ cs) ds h g = (h.0, before_append k cs ds h.1 g)

pub joined_before : (k : ℕ) (xs ys : List Item) → AreCallsBefore k (calls_of xs) → AreCallsBefore k (calls_of ys) → AreCallsBefore k (calls_of (xs ++ ys))
joined_before k xs ys h g = subst (AreCallsBefore k) (sym (calls_of-append xs ys)) (before_append k (calls_of xs) (calls_of ys) h g)

-- a greater number

module _ (m n : ℕ) (le : m ≤ n) where
  item_longer : (l : Arg-F Arg) → IsItemBefore m l → IsItemBefore n l
  item_longer (Int z) h = tt
  item_longer (Bool t) h = tt
  item_longer (Var v) h = omega (arith, le, h)
  item_longer (Range s) h = tt
  item_longer (Set s) h = tt
  item_longer (Listed xs) h = absurd h

  items_longer : (xs : List Arg) → AreItemsBefore m xs → AreItemsBefore n xs
  items_longer [] h = tt
  items_longer (x ∷ xs) h = (item_longer (out-Arg x) h.0, items_longer xs h.1)

  layer_longer : (l : Arg-F Arg) → IsBeforeOf m l → IsBeforeOf n l
  layer_longer (Int z) h = tt
  layer_longer (Bool t) h = tt
  layer_longer (Var v) h = omega (arith, le, h)
  layer_longer (Range s) h = tt
  layer_longer (Set s) h = tt
  layer_longer (Listed xs) h = items_longer xs h

  argument_longer : (a : Arg) → IsBefore m a → IsBefore n a
  unfolding IsBefore
  argument_longer a h = layer_longer (out-Arg a) h

  pub arguments_longer : (xs : List Arg) → AreBefore m xs → AreBefore n xs
  arguments_longer [] h = tt
  arguments_longer (x ∷ xs) h = (argument_longer x h.0, arguments_longer xs h.1)

  pub before_longer : (cs : List Call) → AreCallsBefore m cs → AreCallsBefore n cs
  before_longer [] h = tt
  before_longer (c ∷ cs) h = (arguments_longer c.args h.0, before_longer cs h.1)

-- a call that fixes variable k speaks of it and of variables before it

module _ (k : ℕ) where
  item_is : (l : Arg-F Arg) → IsVar k l → IsItemBefore (k + 1) l
  item_is (Int z) h = absurd h
  item_is (Bool t) h = absurd h
  item_is (Var v) h = omega (arith, h)
  item_is (Range s) h = absurd h
  item_is (Set s) h = absurd h
  item_is (Listed xs) h = absurd h

  layer_is : (l : Arg-F Arg) → IsVar k l → IsBeforeOf (k + 1) l
  layer_is (Int z) h = absurd h
  layer_is (Bool t) h = absurd h
  layer_is (Var v) h = omega (arith, h)
  layer_is (Range s) h = absurd h
  layer_is (Set s) h = absurd h
  layer_is (Listed xs) h = absurd h

  argument_is : (a : Arg) → IsVar k (out-Arg a) → IsBefore (k + 1) a
  unfolding IsBefore
  argument_is a h = layer_is (out-Arg a) h

  unit_before : (l : Arg-F Arg) → IsUnit l → IsItemBefore (k + 1) l
  unit_before (Int z) h = tt
  unit_before (Bool t) h = absurd h
  unit_before (Var v) h = absurd h
  unit_before (Range s) h = absurd h
  unit_before (Set s) h = absurd h
  unit_before (Listed xs) h = absurd h

  one_more : k ≤ k + 1
  one_more = omega arith

  last_before : (xs : List Arg) → IsLast k xs → AreBefore (k + 1) xs
  last_before [] h = absurd h
  last_before (r ∷ []) h = (argument_is r h, tt)
  last_before (x ∷ y ∷ xs) h = (argument_longer k (k + 1) one_more x h.0, last_before (y ∷ xs) h.1)

  first_before : (xs : List Arg) → IsFirst k xs → AreBefore (k + 1) xs
  first_before [] h = absurd h
  first_before (r ∷ xs) h = (argument_is r h.0, arguments_longer k (k + 1) one_more xs h.1)

  members_before : (cs xs : List Arg) → IsMember k cs xs → AreItemsBefore (k + 1) cs × AreItemsBefore (k + 1) xs
  members_before [] xs h = absurd h
  members_before (c ∷ cs) [] h = absurd h
  members_before (c ∷ cs) (x ∷ xs) h = elim h [
    | inl p ↦ ((unit_before (out-Arg c) p.0, items_longer k (k + 1) one_more cs p.2), (item_is (out-Arg x) p.1, items_longer k (k + 1) one_more xs p.3))
    | inr p ↦ (let rest = members_before cs xs p.2 in ((item_longer k (k + 1) one_more (out-Arg c) p.0, rest.0), (item_longer k (k + 1) one_more (out-Arg x) p.1, rest.1)))
  ]

  no_member : (cs : List Arg) → IsMember k cs [] → ⊥
  no_member [] h = absurd h
  no_member (c ∷ cs) h = absurd h

  coefficients_before : (l : Arg-F Arg) (xs : List Arg) → IsMember k (members_of l) xs → IsBeforeOf (k + 1) l
  coefficients_before (Int z) xs h = tt
  coefficients_before (Bool t) xs h = tt
  coefficients_before (Var v) xs h = absurd h
  coefficients_before (Range s) xs h = tt
  coefficients_before (Set s) xs h = tt
  coefficients_before (Listed cs) xs h = (members_before cs xs h).0

  terms_before : (l : Arg-F Arg) (cs : List Arg) → IsMember k cs (members_of l) → IsBeforeOf (k + 1) l
  terms_before (Int z) cs h = tt
  terms_before (Bool t) cs h = tt
  terms_before (Var v) cs h = absurd (no_member cs h)
  terms_before (Range s) cs h = tt
  terms_before (Set s) cs h = tt
  terms_before (Listed xs) cs h = (members_before cs xs h).1

  sum_before : (cs xs z : Arg) → IsMember k (members cs) (members xs) → IsBefore k z → AreBefore (k + 1) (cs ∷ xs ∷ z ∷ [])
  unfolding IsBefore
  sum_before cs xs z h g = (coefficients_before (out-Arg cs) (members xs) h, (terms_before (out-Arg xs) (members cs) h, (argument_longer k (k + 1) one_more z g, tt)))

  either_before : (xs : List Arg) → IsLast k xs ⊎ IsFirst k xs → AreBefore (k + 1) xs
  either_before xs h = elim h [ inl l ↦ last_before xs l | inr f ↦ first_before xs f ]

  place_before : (p : Place) (xs : List Arg) → FixesAt k p xs → AreBefore (k + 1) xs
  place_before Last xs h = last_before xs h
  place_before First xs h = first_before xs h
  place_before Either xs h = either_before xs h
  place_before Nowhere xs h = absurd h
  place_before LastOfThree [] h = absurd h
  place_before LastOfThree (x ∷ []) h = absurd h
  place_before LastOfThree (x ∷ y ∷ []) h = absurd h
  place_before LastOfThree (x ∷ y ∷ z ∷ []) h = last_before (x ∷ y ∷ z ∷ []) h
  place_before LastOfThree (x ∷ y ∷ z ∷ w ∷ xs) h = absurd h
  place_before Member [] h = absurd h
  place_before Member (x ∷ []) h = absurd h
  place_before Member (x ∷ y ∷ []) h = absurd h
  place_before Member (x ∷ y ∷ z ∷ []) h = sum_before x y z h.0 h.1
  place_before Member (x ∷ y ∷ z ∷ w ∷ xs) h = absurd h

  pub fixes_before : (call : Call) → Fixes k call → AreBefore (k + 1) call.args
  unfolding Fixes
  fixes_before call h = place_before (place_of call.builtin) call.args h
