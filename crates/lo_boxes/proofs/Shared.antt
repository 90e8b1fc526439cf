-- Lists of truth values, filtered lists and small integers.
use Rattle.std.proofs.Common.{◌≡◌, ℤ, Bool, true, false, ◌||◌, List, [], ◌∷◌, ◌++◌, map, refl, ap, ap₂, arith}
use Rattle.std.specs.List.{AllByRecursion, list_any, filter}
use Rattle.std.proofs.lemmas.Int.{ints}
use Rattle.fz_model.specs.Limits.{IsSmall, exactly}
use Rattle.fz_model.specs.Meaning.{truth, is_one}
use Rattle.lo_rules.proofs.Tests.{one_truth}
use Rattle.xs_model.specs.Sound.{IsSmall as HasSmallMagnitude}

pub or_false : (t : Bool) → (t || false) ≡ t
or_false true = refl
or_false false = refl

-- truth values as numbers
pub any_truths : (ts : List Bool) → list_any is_one (map truth ts) ≡ list_any (λ t. t) ts
any_truths [] = refl
any_truths (t ∷ ts) = ap₂ (λ (s u : Bool). s || u) (one_truth t) (any_truths ts)

pub map_twice : {X Y Z : Type 0} (f : Y → Z) (g : X → Y) (xs : List X) → map (λ x. f (g x)) xs ≡ map f (map g xs)
map_twice f g [] = refl
map_twice {X} {Y} {Z} f g (x ∷ xs) = ap (λ (zs : List Z). f (g x) ∷ zs) (map_twice f g xs)

pub all_left : {X : Type 0} (P : X → Type 0) (xs ys : List X) → AllByRecursion P (xs ++ ys) → AllByRecursion P xs
all_left P [] ys h = tt
all_left P (x ∷ xs) ys h = (h.0, all_left P xs ys h.1)

pub all_right : {X : Type 0} (P : X → Type 0) (xs ys : List X) → AllByRecursion P (xs ++ ys) → AllByRecursion P ys
all_right P [] ys h = h
all_right P (x ∷ xs) ys h = all_right P xs ys h.1

pub all_weaker : {X : Type 0} (P Q : X → Type 0) (xs : List X) → ((x : X) → P x → Q x) → AllByRecursion P xs → AllByRecursion Q xs
all_weaker P Q [] f h = tt
all_weaker P Q (x ∷ xs) f h = (f x h.0, all_weaker P Q xs f h.1)

pub filter_none : {X : Type 0} (xs : List X) → filter (λ x. true) xs ≡ xs
filter_none [] = refl
filter_none {X} (x ∷ xs) = ap (λ (ys : List X). x ∷ ys) (filter_none xs)

pub small_integer : (z : ℤ) → HasSmallMagnitude z → IsSmall (exactly z)
small_integer z h = record { from = omega (arith, ints, h); to = omega (arith, ints, h) }
