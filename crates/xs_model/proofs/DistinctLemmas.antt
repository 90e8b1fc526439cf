-- The values of a list as a set: each value of the list once.
use Rattle.std.proofs.Common.{◌≡◌, ◌≢◌, ℤ, List, [], ◌∷◌, refl, sym, ◌∙◌, ap, Bool, true, false, not, cond, ◌⊎◌, inl, inr, arith}
use Rattle.std.specs.Prelude.{filter, ⊤}
use Rattle.std.specs.List.{AllByRecursion}
use Rattle.std.specs.Ordering.{int_eq}
use Rattle.std.proofs.lemmas.Int.{ints}
use Rattle.std.proofs.lemmas.Grind.{common_steps}
use Rattle.xs_model.specs.Counting.{distinct}
use Rattle.xs_model.specs.Lists.{SomeOf}

-- v is one of them
abbrev Has : List ℤ → ℤ → Type 0
Has xs v = SomeOf (λ x. v ≡ x) xs

-- x is none of them, and so on
abbrev EachOnce : List ℤ → Type 0
EachOnce [] = ⊤
EachOnce (x ∷ xs) = AllByRecursion (λ y. x ≢ y) xs × EachOnce xs

test_equal : (x y : ℤ) → int_eq x y ≡ true → x ≡ y
test_equal x y h = grind (arith, ints, common_steps)

test_differs : (x y : ℤ) → int_eq x y ≡ false → x ≢ y
test_differs x y h = λ e. grind (arith, ints, common_steps)

-- what a filter keeps
kept : (x y : ℤ) (t : Bool) (ys zs : List ℤ) → int_eq x y ≡ t → AllByRecursion (λ z. x ≢ z) zs → AllByRecursion (λ z. x ≢ z) (cond (not t) (y ∷ zs) zs)
kept x y true ys zs e h = h
kept x y false ys zs e h = (test_differs x y e, h)

none_left : (x : ℤ) (ys : List ℤ) → AllByRecursion (λ z. x ≢ z) (filter (λ y. not (int_eq x y)) ys)
none_left x [] = tt
none_left x (y ∷ ys) = kept x y (int_eq x y) ys (filter (λ z. not (int_eq x z)) ys) refl (none_left x ys)

kept_or_not : (P : ℤ → Type 0) (t : Bool) (y : ℤ) (zs : List ℤ) → P y → AllByRecursion P zs → AllByRecursion P (cond t (y ∷ zs) zs)
kept_or_not P true y zs p h = (p, h)
kept_or_not P false y zs p h = h

others_kept : (P : ℤ → Type 0) (p : ℤ → Bool) (ys : List ℤ) → AllByRecursion P ys → AllByRecursion P (filter p ys)
others_kept P p [] h = tt
others_kept P p (y ∷ ys) h = kept_or_not P (p y) y (filter p ys) h.0 (others_kept P p ys h.1)

once_or_not : (t : Bool) (y : ℤ) (zs : List ℤ) → AllByRecursion (λ z. y ≢ z) zs → EachOnce zs → EachOnce (cond t (y ∷ zs) zs)
once_or_not true y zs p h = (p, h)
once_or_not false y zs p h = h

once_kept : (p : ℤ → Bool) (ys : List ℤ) → EachOnce ys → EachOnce (filter p ys)
once_kept p [] h = tt
once_kept p (y ∷ ys) h = once_or_not (p y) y (filter p ys) (others_kept (λ z. y ≢ z) p ys h.0) (once_kept p ys h.1)

-- no value stands twice
pub distinct-once : (xs : List ℤ) → EachOnce (distinct xs)
distinct-once [] = tt
distinct-once (x ∷ xs) = (none_left x (distinct xs), once_kept (λ y. not (int_eq x y)) (distinct xs) (distinct-once xs))

-- the values are those of the list
has_kept : (t : Bool) (y v : ℤ) (zs : List ℤ) → (v ≡ y → t ≡ true) → (v ≡ y) ⊎ Has zs v → Has (cond t (y ∷ zs) zs) v
has_kept true y v zs p h = h
has_kept false y v zs p (inl e) = let r : false ≡ true = p e in cc
has_kept false y v zs p (inr h) = h

one_step : (v y : ℤ) (zs ws : List ℤ) → (Has zs v → Has ws v) → (v ≡ y) ⊎ Has zs v → (v ≡ y) ⊎ Has ws v
one_step v y zs ws f (inl e) = inl e
one_step v y zs ws f (inr h) = inr (f h)

filter_has : (p : ℤ → Bool) (ys : List ℤ) (v : ℤ) → p v ≡ true → Has ys v → Has (filter p ys) v
filter_has p [] v pv h = h
filter_has p (y ∷ ys) v pv h = has_kept (p y) y v (filter p ys) (λ e. ap p (sym e) ∙ pv) (one_step v y ys (filter p ys) (filter_has p ys v pv) h)

has_whole : (t : Bool) (y v : ℤ) (zs : List ℤ) → Has (cond t (y ∷ zs) zs) v → (v ≡ y) ⊎ Has zs v
has_whole true y v zs h = h
has_whole false y v zs h = inr h

has_filter : (p : ℤ → Bool) (ys : List ℤ) (v : ℤ) → Has (filter p ys) v → Has ys v
has_filter p [] v h = h
has_filter p (y ∷ ys) v h = one_step v y (filter p ys) ys (has_filter p ys v) (has_whole (p y) y v (filter p ys) h)

pub distinct-of : (xs : List ℤ) (v : ℤ) → Has (distinct xs) v → Has xs v
distinct-of [] v h = h
distinct-of (x ∷ xs) v h = one_step v x (filter (λ y. not (int_eq x y)) (distinct xs)) xs (λ k. distinct-of xs v (has_filter (λ y. not (int_eq x y)) (distinct xs) v k)) h

first_or_later : (x v : ℤ) (t : Bool) (zs ws : List ℤ) → int_eq x v ≡ t → (not t ≡ true → Has zs v → Has ws v) → Has zs v → (v ≡ x) ⊎ Has ws v
first_or_later x v true zs ws e f h = inl (sym (test_equal x v e))
first_or_later x v false zs ws e f h = inr (f refl h)

of_distinct : (x v : ℤ) (xs : List ℤ) → (Has xs v → Has (distinct xs) v) → (v ≡ x) ⊎ Has xs v → (v ≡ x) ⊎ Has (filter (λ y. not (int_eq x y)) (distinct xs)) v
of_distinct x v xs f (inl e) = inl e
of_distinct x v xs f (inr h) = first_or_later x v (int_eq x v) (distinct xs) (filter (λ y. not (int_eq x y)) (distinct xs)) refl (λ e k. filter_has (λ y. not (int_eq x y)) (distinct xs) v e k) (f h)

pub of-distinct : (xs : List ℤ) (v : ℤ) → Has xs v → Has (distinct xs) v
of-distinct [] v h = h
of-distinct (x ∷ xs) v h = of_distinct x v xs (of-distinct xs v) h
