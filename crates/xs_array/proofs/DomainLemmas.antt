-- The domain of a text is sound: ascending ranges, no two of which touch, with small ends.
use Rattle.std.proofs.Common.{◌≡◌, ℕ, ◌≤◌, refl, sym, subst, Bool, true, false, if◌then◌else◌, nat_abs, List, [], ◌∷◌, ℤ, pos, ◌+ℤ◌, ◌≤ℤ◌, ◌<ℤ◌, Option, None, Some, Ok, Err, arith, rules}
use Rattle.std.specs.Prelude.{int_le, int_lt}
use Rattle.std.specs.Int.{int_min, int_max}
use Rattle.std.specs.List.{AllByRecursion, flat_map}
use Rattle.std.specs.Option.{option_map}
use Rattle.std.proofs.lemmas.Int.{ints, clamps}
use borrow.Author.Tests.{leb-true}
use Rattle.xf_num.specs.Domain.{Ascends, IsDomain}
use Rattle.xf_num.specs.Span.{Bounds, join_ends}
use Rattle.xs_fields.specs.Conditions.{first_missed, judged}
use Rattle.xs_fields.specs.Integers.{integer_of, is_small}
use Rattle.xs_fields.specs.Lists.{has_small_ends, piece_in, piece_list, piece_of, pieces_in, pieces_meet, pieces_of, point, range_of}
use Rattle.xs_fields.specs.Words.{is_byte, parts, words_of}
use Rattle.xs_fields.specs.declared.condition.Condition.{Condition}
use Rattle.xs_fields.specs.declared.condition.Condition.TheVariants.{Magnitude}
use Rattle.xs_fields.proofs.IntegerLemmas.{and_left, and_right}
use Rattle.xs_model.specs.Sound.{HasSmallEnds, IsSmall, IsSoundDomain, magnitudes}
use Rattle.xs_var.proofs.MergedLemmas.{Ranges}
use Rattle.xs_var.specs.Merged.{domain_of, inserted, merged, with_range}
use Rattle.xs_var.specs.VarDomain.{domain_in, text_domain}
use Rattle.xs_array.proofs.OwnerLemmas.{all_flat, all_given}

-- the first range begins past a and the integer after it
abbrev Begins : ℤ → List Bounds → Type 0
Begins a [] = Unit {0}
Begins a (b ∷ bs) = (a +ℤ pos 1) <ℤ b.lo

valid : (b : Bounds) (bs : List Bounds) → Ascends b bs → b.lo ≤ℤ b.hi
valid b [] h = h
valid b (c ∷ cs) h = h.0

rest : (b : Bounds) (bs : List Bounds) → Ascends b bs → Ranges bs
rest b [] h = tt
rest b (c ∷ cs) h = h.2

begins : (b : Bounds) (bs : List Bounds) → Ascends b bs → Begins b.hi bs
begins b [] h = tt
begins b (c ∷ cs) h = h.1

whole : (b : Bounds) (bs : List Bounds) → b.lo ≤ℤ b.hi → Begins b.hi bs → Ranges bs → Ascends b bs
whole b [] h g r = h
whole b (c ∷ cs) h g r = (h, g, r)

at_test : (P : List Bounds → Type 0) (t : Bool) (x y : List Bounds) → (t ≡ true → P x) → (t ≡ false → P y) → P (if t then x else y)
at_test P true x y f g = f refl
at_test P false x y f g = g refl

-- the three ways in which a range meets the next
ways : (P : List Bounds → Type 0) (b c : Bounds) (cs : List Bounds) → ((b.hi +ℤ pos 1) <ℤ c.lo → P (b ∷ (c ∷ cs))) → ((c.hi +ℤ pos 1) <ℤ b.lo → P (c ∷ inserted b cs)) → (c.lo ≤ℤ (b.hi +ℤ pos 1) → b.lo ≤ℤ (c.hi +ℤ pos 1) → P (inserted (join_ends b c) cs)) → P (inserted b (c ∷ cs))
ways P b c cs f g h =
    at_test P (int_lt (b.hi +ℤ pos 1) c.lo) _ _ (λ e. f (omega (arith, ints, e)))
    (λ e. at_test P (int_lt (c.hi +ℤ pos 1) b.lo) _ _ (λ d. g (omega (arith, ints, d))) (λ d. h (omega (arith, ints, e)) (omega (arith, ints, d))))

further : (a : ℤ) (c : Bounds) (cs : List Bounds) → (a +ℤ pos 1) <ℤ c.lo → Ascends c cs → Begins a cs
further a c [] g h = tt
further a c (d ∷ ds) g h = omega (arith, ints, g, h.0, h.1)

inserted_begins : (a : ℤ) (b : Bounds) (cs : List Bounds) → (a +ℤ pos 1) <ℤ b.lo → Begins a cs → Ranges cs → Begins a (inserted b cs)
inserted_begins a b [] h g k = h
inserted_begins a b (c ∷ cs) h g k =
    ways (Begins a) b c cs (λ e. h) (λ e. g)
    (λ e d. inserted_begins a (join_ends b c) cs (omega (arith, ints, clamps, h, g)) (further a c cs g k) (rest c cs k))

inserted_ranges : (b : Bounds) (cs : List Bounds) → b.lo ≤ℤ b.hi → Ranges cs → Ranges (inserted b cs)
inserted_ranges b [] h k = h
inserted_ranges b (c ∷ cs) h k =
    ways Ranges b c cs
    (λ e. whole b (c ∷ cs) h e k)
    (λ e. whole c (inserted b cs) (valid c cs k) (inserted_begins c.hi b cs e (begins c cs k) (rest c cs k)) (inserted_ranges b cs h (rest c cs k)))
    (λ e d. inserted_ranges (join_ends b c) cs (omega (arith, ints, clamps, h)) (rest c cs k))

-- some range
abbrev IsSome : List Bounds → Type 0
IsSome [] = ⊥
IsSome (b ∷ bs) = Unit {0}

inserted_some : (b : Bounds) (cs : List Bounds) → IsSome (inserted b cs)
inserted_some b [] = tt
inserted_some b (c ∷ cs) = ways IsSome b c cs (λ e. tt) (λ e. tt) (λ e d. inserted_some (join_ends b c) cs)

small_least : (x y : ℤ) → IsSmall x → IsSmall y → IsSmall (int_min x y)
small_least x y h g = by (int_le x y) refl
  where
    by : (v : Bool) → int_le x y ≡ v → nat_abs (int_min x y) ≤ magnitudes
    by true e = search (rules, ints, clamps)
    by false e = search (rules, ints, clamps)

small_greatest : (x y : ℤ) → IsSmall x → IsSmall y → IsSmall (int_max x y)
small_greatest x y h g = by (int_le x y) refl
  where
    by : (v : Bool) → int_le x y ≡ v → nat_abs (int_max x y) ≤ magnitudes
    by true e = search (rules, ints, clamps)
    by false e = search (rules, ints, clamps)

small_join : (b c : Bounds) → HasSmallEnds b → HasSmallEnds c → HasSmallEnds (join_ends b c)
small_join b c h g = (small_least b.lo c.lo h.0 g.0, small_greatest b.hi c.hi h.1 g.1)

inserted_small : (b : Bounds) (cs : List Bounds) → HasSmallEnds b → AllByRecursion HasSmallEnds cs → AllByRecursion HasSmallEnds (inserted b cs)
inserted_small b [] h k = (h, tt)
inserted_small b (c ∷ cs) h k =
    ways (AllByRecursion HasSmallEnds) b c cs (λ e. (h, k)) (λ e. (k.0, inserted_small b cs h k.1)) (λ e d. inserted_small (join_ends b c) cs (small_join b c h k.0) k.1)

-- a range with small ends
abbrev IsPiece : Bounds → Type 0
IsPiece b = (b.lo ≤ℤ b.hi) × HasSmallEnds b

-- what holds of merged ranges
abbrev IsMerged : List Bounds → Type 0
IsMerged ds = Ranges ds × AllByRecursion HasSmallEnds ds

merged_next : (b : Bounds) (ds : List Bounds) → IsPiece b → IsMerged ds → IsMerged (with_range (int_le b.lo b.hi) b ds)
merged_next b ds h k = by (int_le b.lo b.hi)
  where
    by : (v : Bool) → IsMerged (with_range v b ds)
    by true = (inserted_ranges b ds h.0 k.0, inserted_small b ds h.1 k.1)
    by false = k

merged_all : (bs : List Bounds) → AllByRecursion IsPiece bs → IsMerged (merged bs)
merged_all [] h = (tt, tt)
merged_all (b ∷ bs) h = merged_next b (merged bs) h.0 (merged_all bs h.1)

merged_some : (b : Bounds) (bs : List Bounds) → b.lo ≤ℤ b.hi → IsSome (merged (b ∷ bs))
merged_some b bs h =
    let one : int_le b.lo b.hi ≡ true = search (rules, ints) in
    subst (λ (v : Bool). IsSome (with_range v b (merged bs))) (sym one) (inserted_some b (merged bs))

domain_from : (ds : List Bounds) → IsSome ds → Ranges ds → IsDomain ds
domain_from [] h g = h
domain_from (d ∷ ds) h g = g

-- a cell that is undefined, or has a sound domain
abbrev pub IsSoundCell : Option (List Bounds) → Type 0
IsSoundCell None = Unit {0}
IsSoundCell (Some d) = IsSoundDomain d

domain_sound : (bs : List Bounds) → AllByRecursion IsPiece bs → IsSoundCell (domain_of bs)
domain_sound [] h = tt
domain_sound (b ∷ bs) h = let m = merged_all (b ∷ bs) h in (domain_from (merged (b ∷ bs)) (merged_some b bs h.0.0) m.0, m.1)

range_ordered : (a b : Option ℤ) (r : Bounds) → range_of a b ≡ Some r → r.lo ≤ℤ r.hi
range_ordered None b r h = cc
range_ordered (Some x) None r h = cc
range_ordered (Some x) (Some y) r h = by (int_le x y) refl h
  where
    by : (v : Bool) → int_le x y ≡ v → (if v then Some (record { lo = x; hi = y }) else None) ≡ Some r → r.lo ≤ℤ r.hi
    by true e g =
        let low : x ≤ℤ y = omega (arith, ints, e) in
        let same : (record { lo = x; hi = y }) ≡ r = cc in
        subst (λ (q : Bounds). q.lo ≤ℤ q.hi) same low
    by false e g = cc

point_ordered : (o : Option ℤ) (r : Bounds) → option_map point o ≡ Some r → r.lo ≤ℤ r.hi
point_ordered None r h = cc
point_ordered (Some x) r h =
    let same : point x ≡ r = cc in
    let low : x ≤ℤ x = omega (arith, ints) in
    subst (λ (q : Bounds). q.lo ≤ℤ q.hi) same low

piece_ordered : (ps : List (List ℕ)) (r : Bounds) → piece_in ps ≡ Some r → r.lo ≤ℤ r.hi
piece_ordered [] r h = cc
piece_ordered (v ∷ []) r h = point_ordered (integer_of v) r h
piece_ordered (a ∷ [] ∷ []) r h = cc
piece_ordered (a ∷ (x ∷ xs) ∷ []) r h = cc
piece_ordered (a ∷ [] ∷ b ∷ []) r h = range_ordered (integer_of a) (integer_of b) r h
piece_ordered (a ∷ (x ∷ xs) ∷ b ∷ []) r h = cc
piece_ordered (a ∷ [] ∷ b ∷ p ∷ ps) r h = cc
piece_ordered (a ∷ (x ∷ xs) ∷ b ∷ p ∷ ps) r h = cc

small_ends : (b : Bounds) → has_small_ends b ≡ true → HasSmallEnds b
small_ends b h = (leb-true (nat_abs b.lo) magnitudes (and_left (is_small b.lo) (is_small b.hi) h), leb-true (nat_abs b.hi) magnitudes (and_right (is_small b.lo) (is_small b.hi) h))

word_pieces : (w : List ℕ) → AllByRecursion IsPiece (pieces_in w)
word_pieces w = by (piece_of w) refl
  where
    small : (r : Bounds) → piece_of w ≡ Some r → (v : Bool) → has_small_ends r ≡ v → AllByRecursion IsPiece (piece_list (if v then Ok r else Err Magnitude))
    small r e true g = ((piece_ordered (parts (is_byte 46) w) r e, small_ends r g), tt)
    small r e false g = tt

    by : (o : Option Bounds) → piece_of w ≡ o → AllByRecursion IsPiece (piece_list (judged has_small_ends o))
    by None e = tt
    by (Some r) e = small r e (has_small_ends r) refl

text_pieces : (ws : List (List ℕ)) → AllByRecursion IsPiece (flat_map pieces_in ws)
text_pieces ws = all_flat IsPiece pieces_in ws (all_given (λ w. AllByRecursion IsPiece (pieces_in w)) word_pieces ws)

pub text_sound : (text : List ℕ) → IsSoundCell (text_domain text)
text_sound text = by (first_missed (pieces_meet text))
  where
    by : (o : Option Condition) → IsSoundCell (domain_in o (pieces_of text))
    by None = domain_sound (pieces_of text) (text_pieces (words_of text))
    by (Some k) = tt
