-- What the calls of `allDifferent` mean.
use Rattle.std.proofs.Common.{◌≡◌, ◌≢◌, ℕ, suc, ◌+◌, ◌*◌, ◌≤◌, ℤ, List, [], ◌∷◌, length, map, refl, arith}
use Rattle.fz_model.specs.Size.{call_leaves}
use Rattle.xs_model.specs.Comparing.{AreDifferent}
use Rattle.lo_base.specs.Item.{Item, made}
use Rattle.lo_base.specs.Lowered.{calls_of}
use Rattle.lo_base.specs.Stepwise.{AreBits}
use Rattle.lo_base.proofs.Solving.{made-append}
use Rattle.lo_base.proofs.Steps.{bits_join}
use Rattle.lo_emit.specs.declared.compare.Relation.TheVariants.{Ne}
use Rattle.lo_emit.specs.declared.term.Term.{Term}
use Rattle.lo_emit.specs.Compare.{compare_call}
use Rattle.lo_emit.specs.Loops.{for_all, Pairwise}
use Rattle.lo_rules.specs.Formed.{IsInteger}
use Rattle.lo_rules.specs.Rule.{leaves, num, Always, Before}
use Rattle.lo_rules.proofs.Integers.{compare_leaves, rule_compare}
use Rattle.lo_rules.proofs.Loops.{rules_for_pairs}
use Rattle.lo_rules.proofs.Making.{integer_more}
use Rattle.lo_rules.proofs.MakingConditions.{formed_relation}
use Rattle.lo_rules.proofs.MakingLoops.{formed_for_pairs}
use Rattle.lo_rules.proofs.Pairs.{pairwise_mapped, pairwise_unmapped, pairwise_of_places, places_of_pairwise}
use Rattle.lo_rules.proofs.Rules.{sum_cons, leaves-append, rule_as, rules_lower, steady_numbers}
use Rattle.lo_rules.proofs.Terms.{before_more}
use Rattle.lo_forms.specs.Different.{differ, low_different}
use Rattle.lo_forms.specs.Laws.{DifferentLowered}

room_for_squares : (k : ℕ) → (k * k) * 2 ≤ 64 * ((1 + k) * (1 + k))
room_for_squares k = grind arith

pub different_lowered : DifferentLowered
different_lowered n ts before =
    let w : ℕ = 64 * ((1 + length ts) * (1 + length ts)) in
    rules_lower Always Always (λ a. AreDifferent (map (num a) ts)) _ n (low_different n ts) w (λ a len x d. tt) (steady_numbers AreDifferent n ts before)
    (λ bs here kinds.
    formed_for_pairs bs (IsInteger bs) differ (λ m cs x y len keeps hx hy. (formed_relation cs Ne x y (integer_more bs cs keeps x hx) (integer_more bs cs keeps y hy), tt)) n bs ts here (λ v t e. e) kinds)
    (rule_as Always Always Always Always Always (λ b. Pairwise (λ x y. num b x ≢ num b y) ts) (λ b. AreDifferent (map (num b) ts)) n (low_different n ts) ((length ts * length ts) * 2) w (λ b d. d) (λ b d g. g)
    (λ b d g p. places_of_pairwise (λ v w. v ≢ w) (map (num b) ts) (pairwise_mapped (num b) (λ v w. v ≢ w) ts p))
    (λ b x d g p. pairwise_unmapped (num b) (λ v w. v ≢ w) ts (pairwise_of_places (λ v w. v ≢ w) (map (num b) ts) p)) (room_for_squares (length ts))
    (rules_for_pairs Always Always (Before n) n 2 differ (λ b x y. num b x ≢ num b y) (λ m x y le hx hy. rule_compare Always Always m Ne x y (before_more n m x le hx) (before_more n m y le hy)) n ts (omega arith) before))

-- how much the calls are, and of which kind, wherever the terms stand

from_makes : (n : ℕ) (t : Term) (ys : List Term) → made (for_all (λ m y. differ m t y) n ys) ≡ 0
from_makes n t [] = refl
from_makes n t (y ∷ ys) = let rest = from_makes (n + made (differ n t y)) t ys in omega (arith, rest)

makes_none : (n : ℕ) (ts : List Term) → made (low_different n ts) ≡ 0
makes_none n [] = refl
makes_none n (t ∷ ts) =
    let first : List Item = for_all (λ m y. differ m t y) n ts in
    omega (arith, made-append first (low_different (n + made first) ts), from_makes n t ts, makes_none (n + made first) ts)

from_leaves : (n : ℕ) (t : Term) (ys : List Term) → leaves (for_all (λ m y. differ m t y) n ys) ≡ 2 * length ys
from_leaves n t [] = refl
from_leaves n t (y ∷ ys) =
    let rest : List Item = for_all (λ m y. differ m t y) (n + made (differ n t y)) ys in
    omega (arith, from_leaves (n + made (differ n t y)) t ys, compare_leaves Ne t y, sum_cons (call_leaves (compare_call Ne t y)) (map call_leaves (calls_of rest)))

square_more : (k m : ℕ) → m ≤ 2 * (k * k) → 2 * k + m ≤ 2 * (suc k * suc k)
square_more k m h = grind arith

all_leaves : (n : ℕ) (ts : List Term) → leaves (low_different n ts) ≤ 2 * (length ts * length ts)
all_leaves n [] = omega arith
all_leaves n (t ∷ ts) =
    let first : List Item = for_all (λ m y. differ m t y) n ts in
    let rest : List Item = low_different (n + made first) ts in
    let both = square_more (length ts) (leaves rest) (all_leaves (n + made first) ts) in
    omega (arith, both, leaves-append first rest, from_leaves n t ts)

room_for_both : (k m c : ℕ) → m ≡ 0 → c ≤ 2 * (k * k) → m + c ≤ 64 * ((1 + k) * (1 + k))
room_for_both k m c e h = grind arith

pub different_size : (n : ℕ) (ts : List Term) → made (low_different n ts) + leaves (low_different n ts) ≤ 64 * ((1 + length ts) * (1 + length ts))
different_size n ts = room_for_both (length ts) _ _ (makes_none n ts) (all_leaves n ts)

from_bits : (n : ℕ) (t : Term) (ys : List Term) (b : List ℤ) → AreBits (for_all (λ m y. differ m t y) n ys) b
from_bits n t [] b = tt
from_bits n t (y ∷ ys) b = ((λ e. absurd (cc e)), from_bits (n + made (differ n t y)) t ys b)

pub different_bits : (n : ℕ) (ts : List Term) (b : List ℤ) → AreBits (low_different n ts) b
different_bits n [] b = tt
different_bits n (t ∷ ts) b =
    let first : List Item = for_all (λ m y. differ m t y) n ts in
    bits_join first (low_different (n + made first) ts) b (from_bits n t ts b) (different_bits (n + made first) ts b)
