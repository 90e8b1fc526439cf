-- The laws of a list of items in other words, of two lists in a row, and what follows of truth values.
use Rattle.std.proofs.Common.{◌≡◌, ℕ, zero, suc, ◌+◌, ◌<◌, ◌≤◌, ℤ, Bool, true, false, List, [], ◌∷◌, ◌++◌, length, Option, Some, slice_get, refl, ap, sym, arith}
use Rattle.lo_base.specs.Formed.{AreIntegers, HasBits, Keeps, kinds_of}
use Rattle.lo_base.specs.Item.{Item, made}
use Rattle.lo_base.specs.Lowered.{calls_of}
use Rattle.lo_base.specs.Solved.{Meets}
use Rattle.lo_base.specs.Stepwise.{AreBits}
use Rattle.lo_base.proofs.Before.{joined_before, before_longer}
use Rattle.lo_base.proofs.Formed.{formed_bits, formed_join, keeps_behind}
use Rattle.lo_base.proofs.Solving.{extends_nil, made-append, meets_at}
use Rattle.lo_base.proofs.Steps.{joins, stepwise_nil}
use Rattle.lo_base.proofs.Within.{IsSteady, Lasts, means_within_join}
use Rattle.lo_rules.specs.Laws.{IsLowered}
use Rattle.lo_rules.specs.Rule.{Always}
use Rattle.lo_rules.proofs.MakingLoops.{kinds_behind}
use Rattle.lo_rules.proofs.Rules.{leaves-append}

-- with other words for what is known, stated and of which kinds
pub lowered_as : (W V P Q : List ℤ → Type 0) (K L : List Bool → Type 0) (n : ℕ) (xs : List Item) (w u : ℕ) → ((a : List ℤ) → V a → W a) → ((a : List ℤ) → P a → Q a) → ((a : List ℤ) → Q a → P a)
    → ((bs : List Bool) → L bs → K bs) → w ≤ u → IsLowered W P K n xs w → IsLowered V Q L n xs u
lowered_as W V P Q K L n xs w u known said back kinds le r = record {
  means = record {
    sound = λ a c len room v h. said a (r.means.sound a c len room (known a v) h);
    complete = λ a len v q. r.means.complete a len (known a v) (back a q);
  };
  stepwise = r.stepwise;
  before = r.before;
  size = omega (arith, r.size, le);
  formed = λ bs here l. r.formed bs here (kinds bs l);
}

pub lowered_nil : (W P : List ℤ → Type 0) (K : List Bool → Type 0) (n : ℕ) → ((a : List ℤ) → P a) → IsLowered W P K n [] 0
lowered_nil W P K n is = record {
  means = record { sound = λ a c len room d h. is a; complete = λ a len d p. extends_nil a };
  stepwise = stepwise_nil n;
  before = tt;
  size = omega arith;
  formed = λ bs here kinds. tt;
}

pub lowered_join : (W P Q : List ℤ → Type 0) (K : List Bool → Type 0) (n : ℕ) (xs ys : List Item) (w u : ℕ) → Lasts n W → IsSteady n Q → ((bs cs : List Bool) → Keeps bs cs → K bs → K cs)
    → IsLowered W P K n xs w → IsLowered W Q K (n + made xs) ys u → IsLowered W (λ a. P a × Q a) K n (xs ++ ys) (w + u)
lowered_join W P Q K n xs ys w u lasts steady stays first second = record {
  means = means_within_join W P Q n xs ys lasts steady first.means second.means;
  stepwise = joins n xs ys first.stepwise second.stepwise;
  before =
      let k : ℕ = n + made (xs ++ ys) in
      joined_before k xs ys (before_longer (n + made xs) k (omega (arith, made-append xs ys)) (calls_of xs) first.before)
      (before_longer (n + made xs + made ys) k (omega (arith, made-append xs ys)) (calls_of ys) second.before);
  size = omega (arith, made-append xs ys, leaves-append xs ys, first.size, second.size);
  formed = λ bs here kinds.
      let cs : List Bool = bs ++ kinds_of xs in
      formed_join bs xs ys (first.formed bs here kinds) (second.formed cs (kinds_behind bs n xs here) (stays bs cs (keeps_behind bs (kinds_of xs)) kinds));
}

-- variables that are all integers

abbrev integers : ℕ → List Bool
integers zero = []
integers (suc n) = false ∷ integers n

length-integers : (n : ℕ) → length (integers n) ≡ n
length-integers zero = refl
length-integers (suc n) = ap (λ k. suc k) (length-integers n)

each_integer : (n v : ℕ) → v < n → slice_get (integers n) v ≡ Some false
each_integer zero v lt = absurd (omega (arith, lt))
each_integer (suc n) zero lt = refl
each_integer (suc n) (suc v) lt = each_integer n v (omega (arith, lt))

no_truth : (n v : ℕ) → slice_get (integers n) v ≡ Some true → ⊥
no_truth zero v h = cc
no_truth (suc n) zero h = cc
no_truth (suc n) (suc v) h = no_truth n v h

-- where the items are met, the arguments that have to be truth values are 0 or 1
pub lowered_bits : (W P : List ℤ → Type 0) (m n : ℕ) (xs : List Item) (w : ℕ) → m ≤ n → IsLowered W P (AreIntegers m) n xs w → (b : List ℤ) → Meets n xs b → AreBits xs b
lowered_bits W P m n xs w le r b h =
    let bs : List Bool = integers n in
    let here : length bs ≡ n = length-integers n in
    formed_bits bs xs b (r.formed bs here (λ v lt. each_integer n v (omega (arith, lt, le)))) (λ v e. absurd (no_truth n v e)) (meets_at n (length bs) xs b (sym here) h)
