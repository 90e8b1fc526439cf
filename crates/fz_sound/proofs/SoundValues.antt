-- What expressions stand for is sound, where all names stand for sound values.
use Rattle.std.proofs.Common.{◌≡◌, ℕ, zero, suc, ◌-◌, ◌≤◌, ℤ, pos, neg_ℤ, Bool, true, false, ◌&&◌, if◌then◌else◌, List, [], ◌∷◌, length, map, slice_get, Option, None, Some, refl, sym, ap, ◌∙◌, subst, arith}
use Rattle.std.specs.Prelude.{IfSome, nat_le, nat_eq, int_le, unsigned_abs}
use Rattle.std.specs.List.{AllByRecursion, list_all}
use Rattle.std.specs.Cmp.Lexicographic.{pointwise}
use Rattle.std.proofs.lemmas.Int.{ints}
use Rattle.std.proofs.lemmas.Bool.Decides.{nat_tests}
use Rattle.fz_model.specs.declared.kind.Asked.{Asked}
use Rattle.fz_model.specs.declared.kind.Asked.TheVariants as asked
use Rattle.fz_model.specs.declared.kind.Kind.{Kind}
use Rattle.fz_model.specs.declared.kind.Kind.TheVariants as kind
use Rattle.fz_model.specs.declared.model.Arg.{Arg, out-Arg, out-roll-Arg}
use Rattle.fz_model.specs.declared.model.Arg.TheOpen.{List as Listed}
use Rattle.fz_model.specs.declared.model.Arg.TheVariants as args
use Rattle.fz_model.specs.Limits.{IsSmall, exactly}
use Rattle.fz_model.specs.Sound.{IsRange, IsSingle, AreSingles, IsOfKind, AreOfKinds}
use Rattle.fz_grammar.specs.declared.tree.Expr.{Expr, out-Expr}
use Rattle.fz_grammar.specs.declared.tree.Expr.TheOpen.{Expr-F}
use Rattle.fz_values.specs.declared.meaning.Single.{Single}
use Rattle.fz_values.specs.declared.meaning.Single.TheVariants as single
use Rattle.fz_values.specs.declared.meaning.Sort.{Sort}
use Rattle.fz_values.specs.declared.meaning.SetOf.{SetOf}
use Rattle.fz_values.specs.declared.meaning.SetOf.TheVariants as sets
use Rattle.fz_values.specs.declared.meaning.Meaning.{Meaning}
use Rattle.fz_values.specs.declared.meaning.Meaning.TheVariants as meaning
use Rattle.fz_values.specs.declared.meaning.Found.{Found}
use Rattle.fz_values.specs.declared.meaning.Found.TheVariants.{Here, Past, Other}
use Rattle.fz_values.specs.Integers.{limit, magnitude, is_minus, is_small, signed, int_of}
use Rattle.fz_values.specs.Names.{look_up}
use Rattle.fz_values.specs.Values.{here_or, named, indexed, one_step, one_in}
use Rattle.fz_values.specs.Kinds.{sort_of, suits, suits_found, is_within, single_of, all_known, all_step, fits, all_fit, members_within_step, reaches, all_reach, members_known, members_step, members_in, set_known, set_in_step, set_in, arg_of, set_arg, arg_in, args_in}

abbrev pub IsValue : List Bool → Single → Type 0
IsValue bs (single.Int z) = IsSmall (exactly z)
IsValue bs (single.Bool t) = Unit {0}
IsValue bs (single.IntVar v) = slice_get bs v ≡ Some false
IsValue bs (single.BoolVar v) = slice_get bs v ≡ Some true

abbrev pub IsSetOf : SetOf → Type 0
IsSetOf (sets.Range s) = IsRange s
IsSetOf (sets.Members zs) = AllByRecursion (λ z. IsSmall (exactly z)) zs

abbrev pub IsMeaning : List Bool → Meaning → Type 0
IsMeaning bs (meaning.One x) = IsValue bs x
IsMeaning bs (meaning.Set s) = IsSetOf s
IsMeaning bs (meaning.Array s xs) = AllByRecursion (IsValue bs) xs

abbrev pub AreMeanings : List Bool → List (List ℕ × Meaning) → Type 0
AreMeanings bs names = AllByRecursion (λ e. IsMeaning bs e.1) names

small_within : (m : ℕ) (minus : Bool) → m ≤ limit → IsSmall (exactly (if minus then neg_ℤ (pos m) else pos m))
small_within m true h = record { from = omega (arith, ints, h); to = omega (arith, ints, h) }
small_within m false h = record { from = omega (arith, ints, h); to = omega (arith, ints, h) }

pub zero_small : IsSmall (exactly (pos 0))
zero_small = record { from = omega (arith, ints); to = omega (arith, ints) }

small_if : (t : Bool) (z : ℤ) → (t ≡ true → IsSmall (exactly z)) → IsSmall (exactly (if t then z else pos 0))
small_if true z f = f refl
small_if false z f = zero_small

within_limit : (m : ℕ) → nat_le m limit ≡ true → m ≤ limit
within_limit m h = grind (arith, nat_tests, h)

pub int_small : (bytes : List ℕ) → IsSmall (exactly (int_of bytes))
unfolding int_of
int_small bytes = small_if (is_small bytes) (signed bytes) (λ h. small_within (magnitude bytes) (is_minus bytes) (within_limit (magnitude bytes) h))

module _ (bs : List Bool) where
  pub single_sound : (a : Asked) (x : Single) → IsValue bs x → suits a (sort_of x) ≡ true → IsSingle bs a (out-Arg (arg_of x))
  unfolding out-Arg denote.Hole.Carrier.out
  single_sound asked.Int (single.Int z) h s = h
  single_sound asked.Int (single.Bool t) h s = cc
  single_sound asked.Int (single.IntVar v) h s = h
  single_sound asked.Int (single.BoolVar v) h s = cc
  single_sound asked.Bool (single.Int z) h s = cc
  single_sound asked.Bool (single.Bool t) h s = tt
  single_sound asked.Bool (single.IntVar v) h s = cc
  single_sound asked.Bool (single.BoolVar v) h s = h
  single_sound asked.IntConstant (single.Int z) h s = h
  single_sound asked.IntConstant (single.Bool t) h s = cc
  single_sound asked.IntConstant (single.IntVar v) h s = cc
  single_sound asked.IntConstant (single.BoolVar v) h s = cc
  single_sound asked.BoolConstant (single.Int z) h s = cc
  single_sound asked.BoolConstant (single.Bool t) h s = tt
  single_sound asked.BoolConstant (single.IntVar v) h s = cc
  single_sound asked.BoolConstant (single.BoolVar v) h s = cc

  either : (t : Bool) (m : Meaning) (o : Option Meaning) → IsMeaning bs m → IfSome o (IsMeaning bs) → IfSome (if t then Some m else o) (IsMeaning bs)
  either true m o h g = h
  either false m o h g = g

  pub looked_up : (names : List (List ℕ × Meaning)) (w : List ℕ) → AreMeanings bs names → IfSome (look_up names w) (IsMeaning bs)
  looked_up [] w h = tt
  looked_up (e ∷ es) w h = either (pointwise nat_eq w e.0) e.1 (look_up es w) h.0 (looked_up es w h.1)

  pub named_value : (o : Option Meaning) → IfSome o (IsMeaning bs) → IsValue bs (single_of (named o))
  named_value None h = zero_small
  named_value (Some (meaning.One x)) h = h
  named_value (Some (meaning.Set s)) h = zero_small
  named_value (Some (meaning.Array s xs)) h = zero_small

  here_value : (s : Sort) (xs : List Single) (k : ℕ) → AllByRecursion (IsValue bs) xs → IsValue bs (single_of (here_or s (slice_get xs k)))
  here_value s [] k h = zero_small
  here_value s (x ∷ xs) zero h = h.0
  here_value s (x ∷ xs) (suc k) h = here_value s xs k h.1

  at_test : (t : Bool) (f : Found) (s : Sort) → IsValue bs (single_of f) → IsValue bs (single_of (if t then f else Past s))
  at_test true f s h = h
  at_test false f s h = zero_small

  pub indexed_value : (i : ℤ) (o : Option Meaning) → IfSome o (IsMeaning bs) → IsValue bs (single_of (indexed i o))
  indexed_value i None h = zero_small
  indexed_value i (Some (meaning.One x)) h = zero_small
  indexed_value i (Some (meaning.Set s)) h = zero_small
  indexed_value i (Some (meaning.Array s xs)) h = at_test (int_le (pos 1) i) (here_or s (slice_get xs (unsigned_abs i - 1))) s (here_value s xs (unsigned_abs i - 1) h)

  module _ (names : List (List ℕ × Meaning)) (h : AreMeanings bs names) where
    step_value : (e : Expr-F Expr) → IsValue bs (single_of (one_step names e))
    step_value (Expr-F.Bool b) = tt
    step_value (Expr-F.Int n) = int_small n
    step_value (Expr-F.Range a b) = zero_small
    step_value (Expr-F.Set ns) = zero_small
    step_value (Expr-F.Name w) = named_value (look_up names w) (looked_up names w h)
    step_value (Expr-F.Index w n) = indexed_value (int_of n) (look_up names w) (looked_up names w h)
    step_value (Expr-F.List xs) = zero_small
    step_value (Expr-F.Decimal d) = zero_small
    step_value (Expr-F.Words t) = zero_small
    step_value (Expr-F.Call w xs) = zero_small

    pub one_value : (x : Expr) → IsValue bs (single_of (one_in names x))
    one_value x = step_value (out-Expr x)

    listed_values : (xs : List Expr) → AllByRecursion (IsValue bs) (map (λ x. single_of (one_in names x)) xs)
    listed_values [] = tt
    listed_values (x ∷ xs) = (one_value x, listed_values xs)

    known_values : (o : Option Meaning) → IfSome o (IsMeaning bs) → AllByRecursion (IsValue bs) (members_known o)
    known_values None g = tt
    known_values (Some (meaning.One x)) g = tt
    known_values (Some (meaning.Set s)) g = tt
    known_values (Some (meaning.Array s xs)) g = g

    member_values : (e : Expr-F Expr) → AllByRecursion (IsValue bs) (members_step names e)
    member_values (Expr-F.Bool b) = tt
    member_values (Expr-F.Int n) = tt
    member_values (Expr-F.Range a b) = tt
    member_values (Expr-F.Set ns) = tt
    member_values (Expr-F.Name w) = known_values (look_up names w) (looked_up names w h)
    member_values (Expr-F.Index w n) = tt
    member_values (Expr-F.List xs) = listed_values xs
    member_values (Expr-F.Decimal d) = tt
    member_values (Expr-F.Words t) = tt
    member_values (Expr-F.Call w xs) = tt

    pub members_sound : (x : Expr) → AllByRecursion (IsValue bs) (members_in names x)
    members_sound x = member_values (out-Expr x)

    found_single : (a : Asked) (f : Found) → IsValue bs (single_of f) → suits_found a f ≡ true → is_within f ≡ true → IsSingle bs a (out-Arg (arg_of (single_of f)))
    found_single a (Here x) g s w = single_sound a x g s
    found_single a (Past s) g t w = cc
    found_single a Other g s w = cc

    left_true : (a b : Bool) → (a && b) ≡ true → a ≡ true
    left_true true b e = refl
    left_true false b e = cc

    right_true : (a b : Bool) → (a && b) ≡ true → b ≡ true
    right_true true b e = e
    right_true false b e = cc

    listed_singles : (a : Asked) (xs : List Expr) → list_all (λ x. suits_found a (one_in names x)) xs ≡ true → list_all (λ x. is_within (one_in names x)) xs ≡ true → AreSingles bs a (map arg_of (map (λ x. single_of (one_in names x)) xs))
    listed_singles a [] s w = tt
    listed_singles a (x ∷ xs) s w = (
      found_single a (one_in names x) (one_value x) (left_true (suits_found a (one_in names x)) _ s) (left_true (is_within (one_in names x)) _ w),
      listed_singles a xs (right_true (suits_found a (one_in names x)) _ s) (right_true (is_within (one_in names x)) _ w),
    )

    value_singles : (a : Asked) (xs : List Single) → AllByRecursion (IsValue bs) xs → list_all (λ x. suits a (sort_of x)) xs ≡ true → AreSingles bs a (map arg_of xs)
    value_singles a [] g s = tt
    value_singles a (x ∷ xs) g s = (single_sound a x g.0 (left_true (suits a (sort_of x)) _ s), value_singles a xs g.1 (right_true (suits a (sort_of x)) _ s))

    known_singles : (a : Asked) (o : Option Meaning) → IfSome o (IsMeaning bs) → all_known a o ≡ true → AreSingles bs a (map arg_of (members_known o))
    known_singles a None g s = cc
    known_singles a (Some (meaning.One x)) g s = cc
    known_singles a (Some (meaning.Set x)) g s = cc
    known_singles a (Some (meaning.Array t xs)) g s = value_singles a xs g s

    many_singles : (a : Asked) (e : Expr-F Expr) → all_step names a e ≡ true → members_within_step names e ≡ true → AreSingles bs a (map arg_of (members_step names e))
    many_singles a (Expr-F.Bool b) s w = cc
    many_singles a (Expr-F.Int n) s w = cc
    many_singles a (Expr-F.Range x y) s w = cc
    many_singles a (Expr-F.Set ns) s w = cc
    many_singles a (Expr-F.Name x) s w = known_singles a (look_up names x) (looked_up names x h) s
    many_singles a (Expr-F.Index x n) s w = cc
    many_singles a (Expr-F.List xs) s w = listed_singles a xs s w
    many_singles a (Expr-F.Decimal d) s w = cc
    many_singles a (Expr-F.Words t) s w = cc
    many_singles a (Expr-F.Call x xs) s w = cc

    small_ints : (ns : List (List ℕ)) → AllByRecursion (λ z. IsSmall (exactly z)) (map int_of ns)
    small_ints [] = tt
    small_ints (n ∷ ns) = (int_small n, small_ints ns)

    range_set : (t : Bool) (a b : ℤ) → int_le a b ≡ t → IsSmall (exactly a) → IsSmall (exactly b) → IsSetOf (if t then sets.Range (record { lo = a; hi = b }) else sets.Members [])
    range_set true a b e f g = record { ordered = omega (arith, ints, e); small = record { from = f.from; to = g.to } }
    range_set false a b e f g = tt

    known_set : (o : Option Meaning) → IfSome o (IsMeaning bs) → IsSetOf (set_known o)
    known_set None g = tt
    known_set (Some (meaning.One x)) g = tt
    known_set (Some (meaning.Set s)) g = g
    known_set (Some (meaning.Array t xs)) g = tt

    set_value : (e : Expr-F Expr) → IsSetOf (set_in_step names e)
    set_value (Expr-F.Bool b) = tt
    set_value (Expr-F.Int n) = tt
    set_value (Expr-F.Range a b) = range_set (int_le (int_of a) (int_of b)) (int_of a) (int_of b) refl (int_small a) (int_small b)
    set_value (Expr-F.Set ns) = small_ints ns
    set_value (Expr-F.Name w) = known_set (look_up names w) (looked_up names w h)
    set_value (Expr-F.Index w n) = tt
    set_value (Expr-F.List xs) = tt
    set_value (Expr-F.Decimal d) = tt
    set_value (Expr-F.Words t) = tt
    set_value (Expr-F.Call w xs) = tt

    pub set_sound : (x : Expr) → IsSetOf (set_in names x)
    set_sound x = set_value (out-Expr x)

    set_of_kind : (s : SetOf) → IsSetOf s → IsOfKind bs kind.Set (out-Arg (set_arg s))
    unfolding out-Arg denote.Hole.Carrier.out
    set_of_kind (sets.Range s) g = g
    set_of_kind (sets.Members zs) g = g

    pub many_sound : (a : Asked) (x : Expr) → fits names (kind.Many a) x ≡ true → reaches names (kind.Many a) x ≡ true → AreSingles bs a (map arg_of (members_in names x))
    many_sound a x s w = many_singles a (out-Expr x) s w

    list_out : (xs : List Arg) → out-Arg (args.List xs) ≡ Listed xs
    list_out xs = ap out-Arg (sym (args.rolls-List xs)) ∙ out-roll-Arg (Listed xs)

    pub arg_sound : (k : Kind) (x : Expr) → fits names k x ≡ true → reaches names k x ≡ true → IsOfKind bs k (out-Arg (arg_in names k x))
    arg_sound (kind.One a) x s w = found_single a (one_in names x) (one_value x) s w
    arg_sound (kind.Many a) x s w = subst (IsOfKind bs (kind.Many a)) (sym (list_out (map arg_of (members_in names x)))) (many_sound a x s w)
    arg_sound kind.Set x s w = set_of_kind (set_in names x) (set_sound x)

    pub args_sound : (ks : List Kind) (xs : List Expr) → all_fit names ks xs ≡ true → all_reach names ks xs ≡ true → AreOfKinds bs ks (args_in names ks xs)
    args_sound [] [] s w = tt
    args_sound [] (x ∷ xs) s w = cc
    args_sound (k ∷ ks) [] s w = cc
    args_sound (k ∷ ks) (x ∷ xs) s w =
        (arg_sound k x (left_true (fits names k x) _ s) (left_true (reaches names k x) _ w), args_sound ks xs (right_true (fits names k x) _ s) (right_true (reaches names k x) _ w))

    pub as_many : (ks : List Kind) (xs : List Expr) → all_fit names ks xs ≡ true → length (args_in names ks xs) ≡ length xs
    as_many [] [] s = refl
    as_many [] (x ∷ xs) s = cc
    as_many (k ∷ ks) [] s = cc
    as_many (k ∷ ks) (x ∷ xs) s = ap suc (as_many ks xs (right_true (fits names k x) _ s))
