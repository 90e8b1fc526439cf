-- What the operators that give numbers are lowered to yields their values.
use Rattle.std.proofs.Common.{◌≡◌, ◌≢◌, ◌⊎◌, inl, inr, ℕ, ◌+◌, ◌*◌, ◌≤◌, ℤ, pos, negsuc, ◌-ℤ◌, ◌*ℤ◌, ◌≤ℤ◌, List, [], ◌∷◌, ◌++◌, length, map, refl, ap, sym, ◌∙◌, subst, arith, Result, Ok, Err}
use Rattle.std.specs.Prelude.{nat_abs}
use Rattle.std.proofs.lemmas.Int.{ints}
use Rattle.xf_num.specs.Span.{Bounds, IsWithin, sub_ends, mul_ends}
use Rattle.xf_num.proofs.Hulls.{mul-IsHull}
use Rattle.xf_text.specs.declared.fault.Kind.{Kind}
use Rattle.fz_model.specs.declared.builtin.Builtin.TheVariants.{IntAbs, IntTimes}
use Rattle.fz_model.specs.Fixing.{IsBit}
use Rattle.fz_model.specs.Meaning.{dot}
use Rattle.xs_model.specs.Bounds.{limited, folded_from}
use Rattle.xs_model.specs.Value.{at, absolute, chosen, sum_of, product_from}
use Rattle.xs_expr.proofs.Within.{IsHeld, AreHeld, limited-held, limited-is, ordered}
use Rattle.lo_base.specs.Item.{made}
use Rattle.lo_emit.specs.declared.term.Term.{Term}
use Rattle.lo_emit.specs.declared.term.Term.TheVariants.{Var}
use Rattle.lo_emit.specs.Emitted.{Out, integer_of_one, integer_of_two, integer_of_sum, integer_of_place, integer_of_truth, after}
use Rattle.lo_rules.specs.Rule.{num, Before, AllBefore, Always, Yields}
use Rattle.lo_rules.proofs.Rules.{rule_as}
use Rattle.lo_rules.proofs.Chains.{yields_behind}
use Rattle.lo_rules.proofs.Integers.{IsPlace, member_at, rule_place, rule_solved, yields_absolute, yields_product}
use Rattle.lo_rules.proofs.Linear.{mapped_long, yields_integer}
use Rattle.lo_rules.proofs.Terms.{before_more, all_before_more, yields_as, yields_standing}
use Rattle.lo_rules.proofs.Tests.{dot_ones}
use Rattle.lo_terms.specs.declared.term.Operand.{Operand}
use Rattle.lo_terms.specs.Emitted.{kept}
use Rattle.lo_terms.specs.Rules.{terms_of, minus_one, sum_coefficients, difference, distance, product, choice}
use Rattle.lo_terms_laws.proofs.Operands.{spans_of, nums, kept_is}

-- an integer with which a sum is a constant, and whose value is known to lie in the range
yields_solved : (W D : List ℤ → Type 0) (n : ℕ) (w : Bounds) (cs : List ℤ) (unit : ℤ) (ts : List Term) (c : ℤ) (f : List ℤ → ℤ) → (unit ≡ pos 1) ⊎ (unit ≡ negsuc 0) → length cs ≡ length ts → AllBefore n ts
    → ((vs : List ℤ) (z : ℤ) → length vs ≡ length cs → dot (cs ++ unit ∷ []) (vs ++ z ∷ []) ≡ c → z ≡ f vs) → ((vs : List ℤ) → length vs ≡ length cs → dot (cs ++ unit ∷ []) (vs ++ f vs ∷ []) ≡ c)
    → ((b : List ℤ) → D b → IsWithin w (f (map (num b) ts))) → Yields W D n (integer_of_sum n w (cs ++ unit ∷ []) ts c) (4 + length cs + length ts) (λ b. f (map (num b) ts))
yields_solved W D n w cs unit ts c f is same h only solved inside =
    let G : List ℤ → Type 0 = λ b. num b (Var n) ≡ f (map (num b) ts) in
    let size : ℕ = 4 + length cs + length ts in
    record {
      rule =
          rule_as W D D G G (λ b. Always b × (w.lo ≤ℤ f (map (num b) ts)) × (f (map (num b) ts) ≤ℤ w.hi)) Always n (integer_of_sum n w (cs ++ unit ∷ []) ts c).items size size (λ b d. d) (λ b d g. g) (λ b d g p. tt)
          (λ b x d g p. (tt, (inside b d).from, (inside b d).to)) (omega arith) (rule_solved W D n w cs unit ts c f is same h only solved);
      before = omega arith;
    }

left_over : (c : ℤ) (vs : List ℤ) (z : ℤ) → length vs ≡ 1 → dot (pos 1 ∷ pos 1 ∷ []) (vs ++ z ∷ []) ≡ c → z ≡ c -ℤ at vs 0
left_over c [] z l h = absurd (omega (arith, l))
left_over c (x ∷ []) z l h = omega (arith, ints, h)
left_over c (x ∷ y ∷ vs) z l h = absurd (omega (arith, l))

left_over_met : (c : ℤ) (vs : List ℤ) → length vs ≡ 1 → dot (pos 1 ∷ pos 1 ∷ []) (vs ++ (c -ℤ at vs 0) ∷ []) ≡ c
left_over_met c [] l = absurd (omega (arith, l))
left_over_met c (x ∷ []) l = omega (arith, ints)
left_over_met c (x ∷ y ∷ vs) l = absurd (omega (arith, l))

-- a constant less a number
pub yields_left : (W D : List ℤ → Type 0) (n : ℕ) (w : Bounds) (x : Term) (c : ℤ) → Before n x → ((b : List ℤ) → D b → IsWithin w (c -ℤ num b x)) → Yields W D n (integer_of_sum n w (pos 1 ∷ pos 1 ∷ []) (x ∷ []) c) 6 (λ b. c -ℤ num b x)
yields_left W D n w x c h inside = yields_solved W D n w (pos 1 ∷ []) (pos 1) (x ∷ []) c (λ vs. c -ℤ at vs 0) (inl refl) refl (h, tt) (left_over c) (left_over_met c) inside

subtracted : (vs : List ℤ) (z : ℤ) → length vs ≡ 2 → dot (pos 1 ∷ minus_one ∷ minus_one ∷ []) (vs ++ z ∷ []) ≡ pos 0 → z ≡ at vs 0 -ℤ at vs 1
subtracted [] z l h = absurd (omega (arith, l))
subtracted (x ∷ []) z l h = absurd (omega (arith, l))
subtracted (x ∷ y ∷ []) z l h = omega (arith, ints, h)
subtracted (x ∷ y ∷ u ∷ vs) z l h = absurd (omega (arith, l))

subtracted_met : (vs : List ℤ) → length vs ≡ 2 → dot (pos 1 ∷ minus_one ∷ minus_one ∷ []) (vs ++ (at vs 0 -ℤ at vs 1) ∷ []) ≡ pos 0
subtracted_met [] l = absurd (omega (arith, l))
subtracted_met (x ∷ []) l = absurd (omega (arith, l))
subtracted_met (x ∷ y ∷ []) l = omega (arith, ints)
subtracted_met (x ∷ y ∷ u ∷ vs) l = absurd (omega (arith, l))

pub yields_difference : (W D : List ℤ → Type 0) (n : ℕ) (w : Bounds) (x y : Term) → Before n x → Before n y → ((b : List ℤ) → D b → IsWithin w (num b x -ℤ num b y)) → Yields W D n (difference n w x y) 8 (λ b. num b x -ℤ num b y)
yields_difference W D n w x y hx hy inside =
    yields_solved W D n w (pos 1 ∷ minus_one ∷ []) minus_one (x ∷ y ∷ []) (pos 0) (λ vs. at vs 0 -ℤ at vs 1) (inr refl) refl (hx, (hy, tt)) subtracted subtracted_met inside

pub yields_total : (W D : List ℤ → Type 0) (n : ℕ) (w : Bounds) (os : List Operand) → AllBefore n (terms_of os) → ((b : List ℤ) → D b → IsWithin w (sum_of (nums b os)))
    → Yields W D n (integer_of_sum n w (sum_coefficients os) (terms_of os) (pos 0)) (4 + 2 * length os) (λ b. sum_of (nums b os))
yields_total W D n w os h inside =
    let cs : List ℤ = map (λ (o : Operand). pos 1) os in
    let ts : List Term = terms_of os in
    let ones : length cs ≡ length os = mapped_long (λ (o : Operand). pos 1) os in
    let many : length ts ≡ length os = mapped_long (λ (o : Operand). o.term) os in
    let c : Out = integer_of_sum n w (sum_coefficients os) ts (pos 0) in
    yields_as W D D n c (4 + length cs + length ts) (4 + 2 * length os) (λ b. sum_of (nums b os)) (λ b. sum_of (nums b os)) (λ b d. d) (λ b d. refl) (omega (arith, ones, many))
    (yields_solved W D n w cs minus_one ts (pos 0) sum_of (inr refl) (ones ∙ sym many) h (λ vs z l e. let same = dot_ones os vs z (sym (l ∙ ones)) in omega (arith, ints, e, same))
    (λ vs l. let same = dot_ones os vs (sum_of vs) (sym (l ∙ ones)) in omega (arith, ints, same)) inside)

pub yields_distance : (W D : List ℤ → Type 0) (n : ℕ) (w : Bounds) (x y : Operand) → Before n x.term → Before n y.term → ((b : List ℤ) → D b → IsWithin (kept (sub_ends x.span y.span)) (num b x.term -ℤ num b y.term))
    → ((b : List ℤ) → D b → IsWithin w (absolute (num b x.term -ℤ num b y.term))) → Yields W D n (distance n w x y) 11 (λ b. absolute (num b x.term -ℤ num b y.term))
yields_distance W D n w x y hx hy near within =
    let d : Out = difference n (kept (sub_ends x.span y.span)) x.term y.term in
    let k : ℕ = n + made d.items in
    let u : List ℤ → ℤ = λ b. num b x.term -ℤ num b y.term in
    let E : List ℤ → Type 0 = λ b. D b × (num b d.term ≡ u b) in
    let first = yields_difference W D n (kept (sub_ends x.span y.span)) x.term y.term hx hy near in
    yields_behind W D n u (λ b. absolute (u b)) d (λ j t. integer_of_one j w IntAbs t) 8 3 first
    (yields_as W E E k (integer_of_one k w IntAbs d.term) 3 3 (λ b. pos (nat_abs (num b d.term))) (λ b. absolute (u b)) (λ b e. e) (λ b e. ap absolute e.1) (omega arith)
    (yields_absolute W E k w d.term first.before (λ b z e. subst (λ (v : ℤ). IsWithin w (absolute v)) (sym e.1) (within b e.0))))

-- one of two, at the place 1 or 2
picked : (g u v : ℤ) → IsBit g → IsPlace (u ∷ v ∷ []) (pos 2 -ℤ g) × (member_at (u ∷ v ∷ []) (pos 2 -ℤ g) ≡ chosen g u v)
picked g u v h =
    let P : ℤ → Type 0 = λ z. IsPlace (u ∷ v ∷ []) (pos 2 -ℤ z) × (member_at (u ∷ v ∷ []) (pos 2 -ℤ z) ≡ chosen z u v) in
    elim h [ inl e ↦ subst P (sym e) ((omega (arith, ints), omega (arith, ints)), refl) | inr e ↦ subst P (sym e) ((omega (arith, ints), omega (arith, ints)), refl) ]

place_within : (g : ℤ) → IsBit g → IsWithin (record { lo = pos 1; hi = pos 2 }) (pos 2 -ℤ g)
place_within g h = elim h [ inl e ↦ record { from = omega (arith, ints, e); to = omega (arith, ints, e) } | inr e ↦ record { from = omega (arith, ints, e); to = omega (arith, ints, e) } ]

pub yields_choice : (W D : List ℤ → Type 0) (n : ℕ) (w : Bounds) (g x y : Term) → Before n g → Before n x → Before n y → ((b : List ℤ) → D b → IsBit (num b g)) → ((b : List ℤ) → D b → IsWithin w (chosen (num b g) (num b x) (num b y)))
    → Yields W D n (choice n w g x y) 14 (λ b. chosen (num b g) (num b x) (num b y))
yields_choice W D n w g x y hg hx hy bit within =
    let one : Out = integer_of_truth n g in
    let first = yields_integer W D n g hg bit in
    let k : ℕ = n + made one.items in
    let places : Bounds = record { lo = pos 1; hi = pos 2 } in
    let u : List ℤ → ℤ = λ b. pos 2 -ℤ num b g in
    let E : List ℤ → Type 0 = λ b. D b × (num b one.term ≡ num b g) in
    let left : Out = integer_of_sum k places (pos 1 ∷ pos 1 ∷ []) (one.term ∷ []) (pos 2) in
    let second : Yields W E k left 6 u =
    yields_as W E E k left 6 6 (λ b. pos 2 -ℤ num b one.term) u (λ b e. e) (λ b e. ap (λ (z : ℤ). pos 2 -ℤ z) e.1) (omega arith)
    (yields_left W E k places one.term (pos 2) first.before (λ b e. subst (λ (z : ℤ). IsWithin places (pos 2 -ℤ z)) (sym e.1) (place_within (num b g) (bit b e.0)))) in
    let place : Out = after n one (λ i z. integer_of_sum i places (pos 1 ∷ pos 1 ∷ []) (z ∷ []) (pos 2)) in
    let both : Yields W D n place 9 u = yields_behind W D n (λ b. num b g) u one (λ i z. integer_of_sum i places (pos 1 ∷ pos 1 ∷ []) (z ∷ []) (pos 2)) 3 6 first second in
    let j : ℕ = n + made place.items in
    let F : List ℤ → Type 0 = λ b. D b × (num b place.term ≡ u b) in
    let v : List ℤ → ℤ = λ b. chosen (num b g) (num b x) (num b y) in
    let ms : List ℤ → List ℤ = λ b. num b x ∷ num b y ∷ [] in
    let is : (b : List ℤ) → F b → member_at (ms b) (num b place.term) ≡ v b = λ b f. ap (member_at (ms b)) f.1 ∙ (picked (num b g) (num b x) (num b y) (bit b f.0)).1 in
    yields_behind W D n u v place (λ i p. integer_of_place i w p (x ∷ y ∷ [])) 9 5 both (record {
      rule =
          rule_as W F F (λ b. num b (Var j) ≡ member_at (ms b) (num b place.term)) (λ b. num b (Var j) ≡ v b)
          (λ b. IsPlace (ms b) (num b place.term) × (w.lo ≤ℤ member_at (ms b) (num b place.term)) × (member_at (ms b) (num b place.term) ≤ℤ w.hi)) Always j (integer_of_place j w place.term (x ∷ y ∷ [])).items 5 5 (λ b f. f)
          (λ b f e. e ∙ is b f) (λ b f e p. tt)
          (λ b z f e p. (
            subst (IsPlace (ms b)) (sym f.1) (picked (num b g) (num b x) (num b y) (bit b f.0)).0,
            subst (λ (m : ℤ). w.lo ≤ℤ m) (sym (is b f)) (within b f.0).from,
            subst (λ (m : ℤ). m ≤ℤ w.hi) (sym (is b f)) (within b f.0).to,
          )) (omega arith) (rule_place W F j w place.term (x ∷ y ∷ []) both.before (before_more n j x (omega arith) hx, (before_more n j y (omega arith) hy, tt)));
      before = omega arith;
    })

-- one step of bounds that are taken together
folded_step : (f : Bounds → Bounds → Bounds) (c d b : Bounds) (bs : List Bounds) → folded_from f (Ok c) (d ∷ bs) ≡ Ok b → (e : Bounds) × (limited (f c d) ≡ Ok e) × (folded_from f (Ok e) bs ≡ Ok b)
folded_step f c d b bs h = by (limited (f c d)) refl h
  where
    fault : (k : Kind) (cs : List Bounds) → folded_from f (Err k) cs ≡ Ok b → ⊥
    fault k [] h = cc
    fault k (c ∷ cs) h = fault k cs h

    by : (r : Result Bounds Kind) → limited (f c d) ≡ r → folded_from f r bs ≡ Ok b → (e : Bounds) × (limited (f c d) ≡ Ok e) × (folded_from f (Ok e) bs ≡ Ok b)
    by (Ok e) is g = (e, is, g)
    by (Err k) is g = absurd (fault k bs g)

pub yields_factors : (W D : List ℤ → Type 0) (n : ℕ) (so_far : Operand) (os : List Operand) (bound : Bounds) → Before n so_far.term → AllBefore n (terms_of os) → ((b : List ℤ) → D b → IsHeld so_far.span (num b so_far.term))
    → ((b : List ℤ) → D b → AreHeld (spans_of os) (nums b os)) → folded_from mul_ends (Ok so_far.span) (spans_of os) ≡ Ok bound → Yields W D n (product n so_far os) (4 * length os) (λ b. product_from (num b so_far.term) (nums b os))
yields_factors W D n so_far [] bound h hs held many is = yields_standing W D n so_far.term (λ b. num b so_far.term) h (λ b d. refl)
yields_factors W D n so_far (o ∷ os) bound h hs held many is =
    let step = folded_step mul_ends so_far.span o.span bound (spans_of os) is in
    let e : Bounds = step.0 in
    let w : Bounds = kept (mul_ends so_far.span o.span) in
    let same : e ≡ w = sym (kept_is (mul_ends so_far.span o.span) e step.1 ∙ (limited-is (mul_ends so_far.span o.span) e step.1).0) in
    let c : Out = integer_of_two n w IntTimes so_far.term o.term in
    let u : List ℤ → ℤ = λ b. num b so_far.term *ℤ num b o.term in
    let here : (b : List ℤ) → D b → IsHeld w (u b) =
    λ b d.
    let x = held b d in
    let y = (many b d).0 in
    let inside : IsWithin (mul_ends so_far.span o.span) (u b) =
    (mul-IsHull so_far.span o.span (ordered so_far.span (num b so_far.term) x.within) (ordered o.span (num b o.term) y.within)).holds (num b so_far.term) (num b o.term) x.within y.within in
    subst (λ (z : Bounds). IsHeld z (u b)) same (limited-held (mul_ends so_far.span o.span) e (u b) inside step.1) in
    let first = yields_product W D n w so_far.term o.term h hs.0 (λ b x d. (here b d).within) in
    let k : ℕ = n + made c.items in
    let E : List ℤ → Type 0 = λ b. D b × (num b c.term ≡ u b) in
    let v : List ℤ → ℤ = λ b. product_from (u b) (nums b os) in
    let r : Operand = record { term = c.term; span = w } in
    let rest = yields_factors W E k r os bound first.before (all_before_more n k (terms_of os) (omega arith) hs.1) (λ b f. subst (IsHeld w) (sym f.1) (here b f.0)) (λ b f. (many b f.0).1)
    (subst (λ (d : Bounds). folded_from mul_ends (Ok d) (spans_of os) ≡ Ok bound) same step.2) in
    yields_as W D D n (product n so_far (o ∷ os)) (4 + 4 * length os) (4 * length (o ∷ os)) v v (λ b d. d) (λ b d. refl) (omega arith)
    (yields_behind W D n u v c (λ i t. product i (record { term = t; span = w }) os) 4 (4 * length os) first
    (yields_as W E E k (product k r os) (4 * length os) (4 * length os) (λ b. product_from (num b c.term) (nums b os)) v (λ b f. f) (λ b f. ap (λ (z : ℤ). product_from z (nums b os)) f.1) (omega arith) rest))
