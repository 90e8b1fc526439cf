-- What is denoted where nothing is missed: variables are declared, integers are small, and ranges are ordered.
use Rattle.std.proofs.Common.{◌≡◌, ℕ, ℤ, ◌≤◌, ◌<◌, ◌≤ℤ◌, nat_abs, Bool, true, false, ◌&&◌, if◌then◌else◌, List, [], ◌∷◌, ◌++◌, map, Option, None, Some, Ok, Err, refl, ap, sym, subst, ◌∙◌, arith}
use Rattle.std.specs.Prelude.{int_le, nat_eq}
use Rattle.std.specs.List.{AllByRecursion, flat_map}
use Rattle.std.proofs.lemmas.Int.{ints}
use borrow.Author.Tests.{leb-true}
use Rattle.xf_num.specs.Span.{Bounds}
use Rattle.xs_fields.specs.Conditions.{first_missed, judged, meets}
use Rattle.xs_fields.specs.Integers.{integer_of, is_small, magnitudes}
use Rattle.xs_fields.specs.Lists.{has_small_ends, range_of}
use Rattle.xs_fields.specs.Sizes.{value_list}
use Rattle.xs_fields.specs.declared.condition.Condition.TheVariants.{Fitting, Magnitude, Spelling}
use Rattle.xs_fields.proofs.FirstLemmas.{all_met, met_at}
use Rattle.xs_fields.proofs.IntegerLemmas.{and_left, and_right}
use Rattle.xs_model.specs.Fields.{Number, cond_items, item_of}
use Rattle.xs_model.specs.Fitting.{IsCond, IsRange}
use Rattle.xs_model.specs.Formed.{IsFormedItem}
use Rattle.xs_model.specs.Outline.{Outline, variables_in}
use Rattle.xs_model.specs.declared.term.Cond.{Cond}
use Rattle.xs_model.specs.declared.term.Term.{Term}
use Rattle.xs_conditions.specs.Conditions.{among_meets, among_of, member_meets, condition_of, listed, member_of, members_in, membership_of, operand_meets, operand_of, related, relation_of, set_in, spanned, split_in, split_meets, split_of}
use Rattle.xs_conditions.specs.Ranges.{bounds_in, range_between, range_from, range_in, range_meets}
use Rattle.xs_conditions.specs.Single.{both_meet, both_of, one_term_in, one_term_meets, one_term_of, single_by, single_meets, single_meets_by, single_of, two_terms_meet, two_terms_of}
use Rattle.xs_conditions.specs.Spelling.{halves_of, spelt_meets, word_in, word_meets, words_in}
use Rattle.xs_conditions.specs.declared.operator.Relation.{Relation}
use Rattle.xs_conditions.specs.declared.operator.Relation.TheVariants.{Lt, Le, Ge, Gt, Ne, Eq}
use Rattle.xs_conditions.proofs.DirectLemmas.{direct_below}
use Rattle.xs_conditions.proofs.MissedLemmas.{all_true, at_fitting, both, spelt_fitting}

small : (z : ℤ) → is_small z ≡ true → nat_abs z ≤ magnitudes
small z h = leb-true (nat_abs z) magnitudes h

-- terms
pub single_formed : (os : List Outline) (w : List ℕ) → first_missed (single_meets os w) ≡ None → IsFormedItem (variables_in os) (item_of (single_of os w))
single_formed os w h = by (integer_of w) h
  where
    by : (o : Option ℤ) → first_missed (single_meets_by os w o) ≡ None → IsFormedItem (variables_in os) (item_of (single_by os w o))
    by None g = direct_below os w g
    by (Some z) g = small z (met_at (meets is_small (Some z)) g Magnitude)

pub one_term_formed : (os : List Outline) (text : List ℕ) → first_missed (one_term_meets os text) ≡ None → IsFormedItem (variables_in os) (item_of (one_term_of os text))
one_term_formed os text h = by (word_in text) h
  where
    by : (o : Option (List ℕ)) → first_missed (word_meets (single_meets os) o) ≡ None → IsFormedItem (variables_in os) (item_of (one_term_in os o))
    by None g = cc (met_at (spelt_meets false) g Spelling)
    by (Some w) g = single_formed os w g

pub two_terms_formed : (os : List Outline) (text : List ℕ) → first_missed (two_terms_meet os text) ≡ None → IsFormedItem (variables_in os) (item_of (two_terms_of os text).0) × IsFormedItem (variables_in os) (item_of (two_terms_of os text).1)
two_terms_formed os text h = by (words_in text) h
  where
    by : (o : Option (List ℕ × List ℕ)) → first_missed (both_meet os o) ≡ None → IsFormedItem (variables_in os) (item_of (both_of os o).0) × IsFormedItem (variables_in os) (item_of (both_of os o).1)
    by None g = cc (met_at (spelt_meets false) g Spelling)
    by (Some ws) g =
        let met = met_at (both_meet os (Some ws)) g in (
          single_formed os ws.0 (all_met (single_meets os ws.0) (λ k. and_left (single_meets os ws.0 k) (single_meets os ws.1 k) (met k))),
          single_formed os ws.1 (all_met (single_meets os ws.1) (λ k. and_right (single_meets os ws.0 k) (single_meets os ws.1 k) (met k))),
        )

-- ranges
range_ordered : (a b : Option ℤ) (r : Bounds) → range_of a b ≡ Some r → r.lo ≤ℤ r.hi
range_ordered None b r h = cc
range_ordered (Some x) None r h = cc
range_ordered (Some x) (Some y) r h = by (int_le x y) refl h
  where
    by : (v : Bool) → int_le x y ≡ v → (if v then Some (record { lo = x; hi = y }) else None) ≡ Some r → r.lo ≤ℤ r.hi
    by true e g =
        let low : x ≤ℤ y = omega (arith, ints, e) in
        let same : (record { lo = x; hi = y }) ≡ r = cc in
        subst (λ (q : Bounds). q.lo ≤ℤ q.hi) same low
    by false e g = cc

from_ordered : (low behind : List ℕ) (r : Bounds) → range_from low behind ≡ Some r → r.lo ≤ℤ r.hi
from_ordered low [] r h = cc
from_ordered low (b ∷ high) r h = by (nat_eq b 46) h
  where
    by : (v : Bool) → (if v then range_of (integer_of low) (integer_of high) else None) ≡ Some r → r.lo ≤ℤ r.hi
    by true g = range_ordered (integer_of low) (integer_of high) r g
    by false g = cc

between_ordered : (o : Option (List ℕ × List ℕ)) (r : Bounds) → range_between o ≡ Some r → r.lo ≤ℤ r.hi
between_ordered None r h = cc
between_ordered (Some s) r h = from_ordered s.0 s.1 r h

-- a range that misses nothing
pub record IsGoodRange (n : ℕ) (b : Bounds) : Type 0 where
  pub low : IsFormedItem n (Number b.lo)
  pub high : IsFormedItem n (Number b.hi)
  pub ordered : IsRange b

pub range_good : (n : ℕ) (w : List ℕ) (b : Bounds) → range_in w ≡ Some b → has_small_ends b ≡ true → IsGoodRange n b
range_good n w b e ends = record { low = small b.lo (and_left (is_small b.lo) (is_small b.hi) ends); high = small b.hi (and_right (is_small b.lo) (is_small b.hi) ends); ordered = between_ordered (halves_of 46 w) b e }

pub range_formed : (n : ℕ) (w : List ℕ) → first_missed (range_meets w) ≡ None → IsGoodRange n (bounds_in (range_in w))
range_formed n w h = by (range_in w) refl h
  where
    by : (o : Option Bounds) → range_in w ≡ o → first_missed (meets has_small_ends o) ≡ None → IsGoodRange n (bounds_in o)
    by None e g = cc (met_at (meets has_small_ends None) g Spelling)
    by (Some b) e g =
        range_good n w b e (met_at (meets has_small_ends (Some b)) g Magnitude)

-- conditions
pub record IsGoodCond (n : ℕ) (c : Cond) : Type 0 where
  pub items : AllByRecursion (IsFormedItem n) (cond_items c)
  pub cond : IsCond c

related_formed : (n : ℕ) (r : Relation) (t : Term) → IsFormedItem n (item_of t) → IsGoodCond n (related r t)
related_formed n Lt t h = record { items = (h, tt); cond = tt }
related_formed n Le t h = record { items = (h, tt); cond = tt }
related_formed n Ge t h = record { items = (h, tt); cond = tt }
related_formed n Gt t h = record { items = (h, tt); cond = tt }
related_formed n Ne t h = record { items = (h, tt); cond = tt }
related_formed n Eq t h = record { items = (h, tt); cond = tt }

spanned_formed : (n : ℕ) (inside : Bool) (b : Bounds) → IsGoodRange n b → IsGoodCond n (spanned inside b)
spanned_formed n true b h = record { items = (h.low, (h.high, tt)); cond = h.ordered }
spanned_formed n false b h = record { items = (h.low, (h.high, tt)); cond = h.ordered }

abbrev AllFormed : ℕ → List ℤ → Type 0
AllFormed n zs = AllByRecursion (IsFormedItem n) (map Number zs)

listed_formed : (n : ℕ) (inside : Bool) (zs : List ℤ) → AllFormed n zs → IsGoodCond n (listed inside zs)
listed_formed n true zs h = record { items = h; cond = tt }
listed_formed n false zs h = record { items = h; cond = tt }

all_more : (n : ℕ) (xs ys : List ℤ) → AllFormed n xs → AllFormed n ys → AllFormed n (xs ++ ys)
all_more n [] ys h g = g
all_more n (x ∷ xs) ys h g = (h.0, all_more n xs ys h.1 g)

member_formed : (n : ℕ) (o : Option ℤ) → AllFormed n (value_list (judged is_small o))
member_formed n None = tt
member_formed n (Some z) = by (is_small z) refl
  where
    by : (v : Bool) → is_small z ≡ v → AllFormed n (value_list (if v then Ok z else Err Magnitude))
    by true e = (small z e, tt)
    by false e = tt

members_formed : (n : ℕ) (ws : List (List ℕ)) → AllFormed n (flat_map member_of ws)
members_formed n [] = tt
members_formed n (w ∷ ws) = all_more n (member_of w) (flat_map member_of ws) (member_formed n (integer_of w)) (members_formed n ws)

among_formed : (n : ℕ) (inside : Bool) (o : Option (List ℕ)) (operand : List ℕ) → first_missed (among_meets o operand) ≡ None → IsGoodCond n (among_of inside o operand)
among_formed n inside (Some inner) operand h = listed_formed n inside (flat_map member_of (members_in inner)) (members_formed n (members_in inner))
among_formed n inside None operand h = spanned_formed n inside (bounds_in (range_in operand)) (range_formed n operand h)

operand_formed : (os : List Outline) (r : Option Relation) (inside : Option Bool) (operand : List ℕ) → first_missed (operand_meets os r inside operand) ≡ None → IsGoodCond (variables_in os) (operand_of os r inside operand)
operand_formed os (Some r) inside operand h = related_formed (variables_in os) r (single_of os operand) (single_formed os operand h)
operand_formed os None (Some inside) operand h = among_formed (variables_in os) inside (set_in operand) operand h
operand_formed os None None operand h = cc (met_at (spelt_meets false) h Spelling)

split_formed : (os : List Outline) (o : Option (List ℕ × List ℕ)) → first_missed (split_meets os o) ≡ None → IsGoodCond (variables_in os) (split_of os o)
split_formed os None h = cc (met_at (spelt_meets false) h Spelling)
split_formed os (Some s) h = operand_formed os (relation_of s.0) (membership_of s.0) s.1 h

pub cond_formed : (os : List Outline) (text : List ℕ) → first_missed (split_meets os (split_in text)) ≡ None → IsGoodCond (variables_in os) (condition_of os text)
cond_formed os text h = split_formed os (split_in text) h

-- a condition is not asked whether lengths fit
pub single_fits : (os : List Outline) (w : List ℕ) → single_meets os w Fitting ≡ true
single_fits os w = by (integer_of w)
  where
    by : (o : Option ℤ) → single_meets_by os w o Fitting ≡ true
    by (Some z) = refl
    by None = both _ _ (spelt_fitting w) refl

among_fits : (o : Option (List ℕ)) (operand : List ℕ) → among_meets o operand Fitting ≡ true
among_fits (Some inner) operand = all_true member_meets Fitting (members_in inner) (λ p. at_fitting is_small (integer_of p))
among_fits None operand = at_fitting has_small_ends (range_in operand)

operand_fits : (os : List Outline) (r : Option Relation) (inside : Option Bool) (operand : List ℕ) → operand_meets os r inside operand Fitting ≡ true
operand_fits os (Some r) inside operand = single_fits os operand
operand_fits os None (Some inside) operand = among_fits (set_in operand) operand
operand_fits os None None operand = refl

pub split_fits : (os : List Outline) (o : Option (List ℕ × List ℕ)) → split_meets os o Fitting ≡ true
split_fits os None = refl
split_fits os (Some s) = operand_fits os (relation_of s.0) (membership_of s.0) s.1
