-- Lists in which each two members are related, and terms beside the members for which they stand.
use Rattle.std.proofs.Common.{◌≡◌, ℕ, suc, ◌+◌, ℤ, pos, Bool, List, [], ◌∷◌, length, map, refl, ap, ap₂, arith}
use Rattle.std.specs.List.{All, AllByRecursion}
use Rattle.std.specs.Prelude.{AllPairs, zero, ◌<◌, slice_index_or}
use Rattle.std.proofs.lemmas.List.Kept.{AllPairs-cons}
use Rattle.lo_base.specs.Item.{made}
use Rattle.lo_emit.specs.declared.term.Term.{Term}
use Rattle.lo_base.specs.Formed.{AreIntegers}
use Rattle.fz_model.specs.Meaning.{at}
use Rattle.fz_model.proofs.Calls.{number-Var}
use Rattle.lo_emit.specs.declared.term.Term.TheVariants.{Var}
use Rattle.lo_rules.specs.Formed.{AreIntegerTerms}
use Rattle.lo_emit.specs.Emitted.{Out}
use Rattle.lo_emit.specs.Loops.{each, paired, Pairwise}
use Rattle.lo_rules.specs.Rule.{num, Before, AllBefore}

first_of_list : List ℤ → ℤ
first_of_list [] = pos 0
first_of_list (z ∷ zs) = z

rest_of_list : List ℤ → List ℤ
rest_of_list [] = []
rest_of_list (z ∷ zs) = zs

pub cons_head : (y z : ℤ) (ys zs : List ℤ) → y ∷ ys ≡ z ∷ zs → y ≡ z
unfolding first_of_list
cons_head y z ys zs h = ap first_of_list h

pub cons_tail : (y z : ℤ) (ys zs : List ℤ) → y ∷ ys ≡ z ∷ zs → ys ≡ zs
unfolding rest_of_list
cons_tail y z ys zs h = ap rest_of_list h

module _ {X : Type 0} (F : X → Type 0) (R S : X → X → Type 0) (turn : (x y : X) → F x → F y → R x y → S x y) where
  all_as : (x : X) (ys : List X) → F x → AllByRecursion F ys → AllByRecursion (R x) ys → AllByRecursion (S x) ys
  all_as x [] f fs h = tt
  all_as x (y ∷ ys) f fs h = (turn x y f fs.0 h.0, all_as x ys f fs.1 h.1)

  -- with another word for the relation, where something is known of each member
  pub pairwise_as : (xs : List X) → AllByRecursion F xs → Pairwise R xs → Pairwise S xs
  pairwise_as [] fs h = tt
  pairwise_as (x ∷ xs) fs h = (all_as x xs fs.0 fs.1 h.0, pairwise_as xs fs.1 h.1)

module _ {X Y : Type 0} (g : X → Y) where
  pub all_mapped : (P : Y → Type 0) (xs : List X) → AllByRecursion (λ x. P (g x)) xs → AllByRecursion P (map g xs)
  all_mapped P [] h = tt
  all_mapped P (x ∷ xs) h = (h.0, all_mapped P xs h.1)

  pub all_unmapped : (P : Y → Type 0) (xs : List X) → AllByRecursion P (map g xs) → AllByRecursion (λ x. P (g x)) xs
  all_unmapped P [] h = tt
  all_unmapped P (x ∷ xs) h = (h.0, all_unmapped P xs h.1)

  pub pairwise_mapped : (R : Y → Y → Type 0) (xs : List X) → Pairwise (λ x y. R (g x) (g y)) xs → Pairwise R (map g xs)
  pairwise_mapped R [] h = tt
  pairwise_mapped R (x ∷ xs) h = (all_mapped (R (g x)) xs h.0, pairwise_mapped R xs h.1)

  pub pairwise_unmapped : (R : Y → Y → Type 0) (xs : List X) → Pairwise R (map g xs) → Pairwise (λ x y. R (g x) (g y)) xs
  pairwise_unmapped R [] h = tt
  pairwise_unmapped R (x ∷ xs) h = (all_unmapped (R (g x)) xs h.0, pairwise_unmapped R xs h.1)

module _ {X : Type 0} where
  pub paired_values : (b : List ℤ) (V : X → ℤ) (ts : List Term) (xs : List X) → map (num b) ts ≡ map V xs → AllByRecursion (λ (p : Term × X). num b p.0 ≡ V p.1) (paired ts xs)
  paired_values b V [] xs h = tt
  paired_values b V (t ∷ ts) [] h = tt
  paired_values b V (t ∷ ts) (x ∷ xs) h = (cons_head (num b t) (V x) (map (num b) ts) (map V xs) h, paired_values b V ts xs (cons_tail (num b t) (V x) (map (num b) ts) (map V xs) h))

  pub paired_before : (n : ℕ) (Q : X → Type 0) (ts : List Term) (xs : List X) → AllBefore n ts → AllByRecursion Q xs → AllByRecursion (λ (p : Term × X). Before n p.0 × Q p.1) (paired ts xs)
  paired_before n Q [] xs h q = tt
  paired_before n Q (t ∷ ts) [] h q = tt
  paired_before n Q (t ∷ ts) (x ∷ xs) h q = ((h.0, q.0), paired_before n Q ts xs h.1 q.1)

  pub paired_members : (ts : List Term) (xs : List X) → length ts ≡ length xs → map (λ (p : Term × X). p.1) (paired ts xs) ≡ xs
  paired_members [] [] h = refl
  paired_members [] (x ∷ xs) h = absurd (omega (arith, h))
  paired_members (t ∷ ts) [] h = absurd (omega (arith, h))
  paired_members (t ∷ ts) (x ∷ xs) h = ap (λ (ys : List X). x ∷ ys) (paired_members ts xs (omega (arith, h)))

  pub each_long : (f : ℕ → X → Out) (n : ℕ) (xs : List X) → length (each f n xs).terms ≡ length xs
  each_long f n [] = refl
  each_long f n (x ∷ xs) = ap suc (each_long f (n + made (f n x).items) xs)

  pub length_paired : (ts : List Term) (xs : List X) → length ts ≡ length xs → length (paired ts xs) ≡ length xs
  length_paired [] [] h = refl
  length_paired [] (x ∷ xs) h = absurd (omega (arith, h))
  length_paired (t ∷ ts) [] h = absurd (omega (arith, h))
  length_paired (t ∷ ts) (x ∷ xs) h = ap suc (length_paired ts xs (omega (arith, h)))

-- each member, and each two, by their places
module _ {X : Type 0} where
  pub all_of_places : (P : X → Type 0) (xs : List X) → All P xs → AllByRecursion P xs
  all_of_places P [] h = tt
  all_of_places P (x ∷ xs) h = (h zero x (omega arith), all_of_places P xs (λ j d lt. h (suc j) d (omega (arith, lt))))

  pub places_of_all : (P : X → Type 0) (xs : List X) → AllByRecursion P xs → All P xs
  places_of_all P [] h j d lt = absurd (omega (arith, lt))
  places_of_all P (x ∷ xs) h zero d lt = h.0
  places_of_all P (x ∷ xs) h (suc j) d lt = places_of_all P xs h.1 j d (omega (arith, lt))

  pub pairwise_of_places : (R : X → X → Type 0) (xs : List X) → AllPairs R xs → Pairwise R xs
  pairwise_of_places R [] h = tt
  pairwise_of_places R (x ∷ xs) h =
      (all_of_places (R x) xs (λ j d lt. h zero (suc j) d (omega arith) (omega (arith, lt))), pairwise_of_places R xs (λ i j d lt within. h (suc i) (suc j) d (omega (arith, lt)) (omega (arith, within))))

  pub places_of_pairwise : (R : X → X → Type 0) (xs : List X) → Pairwise R xs → AllPairs R xs
  places_of_pairwise R [] h = λ i j d lt within. absurd (omega (arith, lt, within))
  places_of_pairwise R (x ∷ xs) h = AllPairs-cons R x xs (places_of_all (R x) xs h.0) (places_of_pairwise R xs h.1)

-- the numbers of variables are their values
pub nums_of_variables : (b : List ℤ) (xs : List ℕ) → map (num b) (map Var xs) ≡ map (at b) xs
nums_of_variables b [] = refl
nums_of_variables b (x ∷ xs) = ap₂ (λ (z : ℤ) (zs : List ℤ). z ∷ zs) (number-Var b x) (nums_of_variables b xs)

pub variables_before : (n : ℕ) (xs : List ℕ) → AllByRecursion (λ x. x < n) xs → AllBefore n (map Var xs)
variables_before n [] h = tt
variables_before n (x ∷ xs) h = (h.0, variables_before n xs h.1)

-- variables below m, which are integers
pub variables_integers : (m : ℕ) (bs : List Bool) (xs : List ℕ) → AreIntegers m bs → AllByRecursion (λ x. x < m) xs → AreIntegerTerms bs (map Var xs)
variables_integers m bs [] h k = tt
variables_integers m bs (x ∷ xs) h k = (h x k.0, variables_integers m bs xs h k.1)
