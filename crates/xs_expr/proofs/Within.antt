-- A node's value lies within its bounds, and what leads to it fits.
use Rattle.std.proofs.Common.{◌≡◌, ℕ, zero, suc, ◌==◌, ℤ, pos, neg_ℤ, ◌≤ℤ◌, ◌+ℤ◌, ◌-ℤ◌, ◌*ℤ◌, refl, sym, ◌∙◌, ap, subst, Bool, true, false, ◌&&◌, if◌then◌else◌, List, [], ◌∷◌, arith, Result, Ok, Err, FitsSigned}
use Rattle.std.specs.Prelude.{int_le, int_lt, int_div, int_rem}
use Rattle.std.specs.Int.{w128, int_min, int_max}
use Rattle.std.specs.List.{list_all}
use Rattle.std.proofs.lemmas.Int.{ints}
use Rattle.std.proofs.lemmas.Bool.Decides.{nat_tests}
use Rattle.std.proofs.Math.IntN.{+ℤ_idl}
use Rattle.xf_num.specs.Span.{Bounds, IsWithin, add_ends, sub_ends, mul_ends, min_ends, max_ends, neg_ends, abs_ends, pow_ends, div_ends, rem_ends, join_ends, int_abs, int_pow}
use Rattle.xf_num.proofs.Hulls.{add-IsHull, mul-IsHull}
use Rattle.xf_num.proofs.Images.{sub-IsHull, min-IsHull, max-IsHull, neg-IsImageHull, abs-IsImageHull, pow-IsImageHull, div-IsHull, rem-HoldsResults, join-IsJoin}
use Rattle.xf_text.specs.declared.fault.Kind.{Kind}
use Rattle.xf_text.specs.declared.fault.Kind.TheVariants.{Range, Logic, Division}
use Rattle.xs_model.specs.declared.expr.Op.{Op}
use Rattle.xs_model.specs.declared.expr.Op.TheVariants.{Neg, Abs, Sqr, Add, Mul, Sub, Dist, Div, Mod, Pow, Min, Max, Lt, Le, Gt, Ge, Ne, Eq, Set, In, NotIn, Not, And, Or, Xor, Iff, Imp, If}
use Rattle.xs_model.specs.Sound.{magnitudes}
use Rattle.xs_model.specs.Value.{at, apply, truth, is_true, power, exponent_of, chosen}
use Rattle.xs_expr.specs.declared.worth.Values.{Values}
use Rattle.xs_model.specs.Bounds.{limited, is_small, is_within_limit, exactly, truths, is_truth, is_divisible, operand, folded, folded_from, logic, node_bounds}
use Rattle.xs_model.specs.Shape.{IsExponent}
use Rattle.xs_expr.specs.Worths.{no_values, with_value, with_values, all_values, stepped, StepFits, StepsFit, FitsNode}
use Rattle.xs_expr.proofs.Powers.{power-is}
use Rattle.xs_expr.proofs.Totals.{all-first, all-second, all-node}

-- an integer of at most the greatest magnitude
pub record IsSmall (x : ℤ) : Type 0 where
  pub from : neg_ℤ (pos magnitudes) ≤ℤ x
  pub to : x ≤ℤ pos magnitudes

pub small_fits : (x : ℤ) → IsSmall x → FitsSigned w128 x
small_fits x h = omega (arith, ints, h.from, h.to)

one-times : (x : ℤ) → pos 1 *ℤ x ≡ x
one-times x = omega (arith, ints)

both_true : (s t : Bool) → (s && t) ≡ true → (s ≡ true) × (t ≡ true)
both_true true true h = (refl, refl)
both_true true false h = cc
both_true false t h = cc

pub picked : (t : Bool) (e b : Bounds) (k : Kind) → if◌then◌else◌ {A = Result Bounds Kind} t (Ok e) (Err k) ≡ Ok b → (e ≡ b) × (t ≡ true)
picked true e b k h = (cc, refl)
picked false e b k h = cc

pub guarded : (t : Bool) (r : Result Bounds Kind) (b : Bounds) (k : Kind) → if◌then◌else◌ {A = Result Bounds Kind} t r (Err k) ≡ Ok b → (r ≡ Ok b) × (t ≡ true)
guarded true r b k h = (h, refl)
guarded false r b k h = cc

-- bounds within the limit
pub record AreSmall (e : Bounds) : Type 0 where
  pub lo : IsSmall e.lo
  pub hi : IsSmall e.hi

small-is : (z : ℤ) → is_small z ≡ true → IsSmall z
small-is z h =
    let ends = both_true (int_le (neg_ℤ (pos magnitudes)) z) (int_le z (pos magnitudes)) h in
    record { from = omega (arith, ints, ends.0); to = omega (arith, ints, ends.1) }

pub limited-is : (e b : Bounds) → limited e ≡ Ok b → (e ≡ b) × AreSmall e
limited-is e b h =
    let p = picked (is_within_limit e) e b Range h in
    let ends = both_true (is_small e.lo) (is_small e.hi) p.1 in
    (p.0, record { lo = small-is e.lo ends.0; hi = small-is e.hi ends.1 })

within_small : (e : Bounds) (x : ℤ) → AreSmall e → IsWithin e x → IsSmall x
within_small e x s w = record { from = omega (arith, ints, s.lo.from, w.from); to = omega (arith, ints, s.hi.to, w.to) }

-- a value within bounds, of at most the greatest magnitude
pub record IsHeld (b : Bounds) (x : ℤ) : Type 0 where
  pub within : IsWithin b x
  pub small : IsSmall x

pub limited-held : (e b : Bounds) (x : ℤ) → IsWithin e x → limited e ≡ Ok b → IsHeld b x
limited-held e b x w h =
    let is = limited-is e b h in
    record { within = subst (λ (d : Bounds). IsWithin d x) is.0 w; small = within_small e x is.1 w }

abbrev pub no_fault : Bounds → Result Bounds Kind
no_fault b = Ok b

held-ok : (e b : Bounds) (x : ℤ) → IsHeld e x → no_fault e ≡ Ok b → IsHeld b x
held-ok e b x h is = let same : e ≡ b = cc in subst (λ (d : Bounds). IsHeld d x) same h

pub ordered : (b : Bounds) (x : ℤ) → IsWithin b x → b.lo ≤ℤ b.hi
ordered b x w = omega (arith, ints, w.from, w.to)

-- a truth value
truth-held : (t : Bool) → IsHeld truths (truth t)
truth-held true = record { within = record { from = omega (arith, ints); to = omega (arith, ints) }; small = record { from = omega (arith, ints); to = omega (arith, ints) } }
truth-held false = record { within = record { from = omega (arith, ints); to = omega (arith, ints) }; small = record { from = omega (arith, ints); to = omega (arith, ints) } }

zero-held : IsHeld (exactly (pos 0)) (pos 0)
zero-held = record { within = record { from = omega (arith, ints); to = omega (arith, ints) }; small = record { from = omega (arith, ints); to = omega (arith, ints) } }

-- the operands' values within their bounds
abbrev pub AreHeld : List Bounds → List ℤ → Type 0
AreHeld [] [] = Unit {0}
AreHeld (b ∷ bs) (x ∷ xs) = IsHeld b x × AreHeld bs xs
AreHeld [] (x ∷ xs) = ⊥
AreHeld (b ∷ bs) [] = ⊥

pub operand-held : (bs : List Bounds) (xs : List ℤ) (k : ℕ) → AreHeld bs xs → IsHeld (operand bs k) (at xs k)
operand-held [] [] k h = zero-held
operand-held [] (x ∷ xs) k h = absurd h
operand-held (b ∷ bs) [] k h = absurd h
operand-held (b ∷ bs) (x ∷ xs) zero h = h.0
operand-held (b ∷ bs) (x ∷ xs) (suc k) h = operand-held bs xs k h.1

-- where nothing is added or multiplied, each step fits
free : (op : Op) → ((s : Values) (x : ℤ) → StepFits op s x) → (k : ℕ) (s : Values) (xs : List ℤ) → StepsFit op k s xs
free op f k s [] = tt
free op f k s (x ∷ xs) = (f s x, free op f (suc k) (with_value op k s x) xs)

-- a fault stays
folded-fault : (f : Bounds → Bounds → Bounds) (k : Kind) (bs : List Bounds) (b : Bounds) → folded_from f (Err k) bs ≡ Ok b → ⊥
folded-fault f k [] b h = cc
folded-fault f k (c ∷ bs) b h = folded-fault f k bs b h

-- operands taken together, from the left
module _ (op : Op) (f : Bounds → Bounds → Bounds)
    (holds : (k : ℕ) (s : Values) (x : ℤ) (c d : Bounds) → IsWithin c s.total → IsWithin d x → IsWithin (f c d) (stepped op (suc k) s x))
    (fits : (k : ℕ) (s : Values) (x : ℤ) → IsSmall (stepped op (suc k) s x) → StepFits op s x) where
  record Together (b : Bounds) (k : ℕ) (s : Values) (xs : List ℤ) : Type 0 where
    total : IsHeld b (with_values op (suc k) s xs).total
    steps : StepsFit op (suc k) s xs

  one : (k : ℕ) (s : Values) (c d b : Bounds) (x : ℤ) (bs : List Bounds) (xs : List ℤ) → IsHeld c s.total → IsHeld d x
      → ((e : Bounds) → IsHeld e (stepped op (suc k) s x) → folded_from f (Ok e) bs ≡ Ok b → Together b (suc k) (with_value op (suc k) s x) xs)
      → (r : Result Bounds Kind) → limited (f c d) ≡ r → folded_from f r bs ≡ Ok b → Together b k s (x ∷ xs)
  one k s c d b x bs xs hc hd rest (Err fault) is g = absurd (folded-fault f fault bs b g)
  one k s c d b x bs xs hc hd rest (Ok e) is g =
      let held = limited-held (f c d) e (stepped op (suc k) s x) (holds k s x c d hc.within hd.within) is in
      let more = rest e held g in
      record { total = more.total; steps = (fits k s x held.small, more.steps) }

  together : (bs : List Bounds) (xs : List ℤ) (k : ℕ) (s : Values) (c b : Bounds) → IsHeld c s.total → AreHeld bs xs → folded_from f (Ok c) bs ≡ Ok b → Together b k s xs
  together [] [] k s c b hc w h = record { total = held-ok c b s.total hc h; steps = tt }
  together [] (x ∷ xs) k s c b hc w h = absurd w
  together (d ∷ bs) [] k s c b hc w h = absurd w
  together (d ∷ bs) (x ∷ xs) k s c b hc w h =
      one k s c d b x bs xs hc w.0 (λ e he g. together bs xs (suc k) (with_value op (suc k) s x) e b he w.1 g) (limited (f c d)) refl h

record Folded (op : Op) (b : Bounds) (xs : List ℤ) : Type 0 where
  total : IsHeld b (all_values op xs).total
  steps : StepsFit op 0 (no_values op) xs

past : (k : ℕ) → (suc k == 0) ≡ false
past k = grind (arith, nat_tests)

add-holds : (k : ℕ) (s : Values) (x : ℤ) (c d : Bounds) → IsWithin c s.total → IsWithin d x → IsWithin (add_ends c d) (stepped Add (suc k) s x)
add-holds k s x c d wc wd = (add-IsHull c d (ordered c s.total wc) (ordered d x wd)).holds s.total x wc wd

mul-holds : (k : ℕ) (s : Values) (x : ℤ) (c d : Bounds) → IsWithin c s.total → IsWithin d x → IsWithin (mul_ends c d) (stepped Mul (suc k) s x)
mul-holds k s x c d wc wd = (mul-IsHull c d (ordered c s.total wc) (ordered d x wd)).holds s.total x wc wd

min-holds : (k : ℕ) (s : Values) (x : ℤ) (c d : Bounds) → IsWithin c s.total → IsWithin d x → IsWithin (min_ends c d) (stepped Min (suc k) s x)
min-holds k s x c d wc wd =
    subst (λ (t : Bool). IsWithin (min_ends c d) (if◌then◌else◌ {A = ℤ} t x (int_min s.total x))) (sym (past k)) ((min-IsHull c d (ordered c s.total wc) (ordered d x wd)).holds s.total x wc wd)

max-holds : (k : ℕ) (s : Values) (x : ℤ) (c d : Bounds) → IsWithin c s.total → IsWithin d x → IsWithin (max_ends c d) (stepped Max (suc k) s x)
max-holds k s x c d wc wd =
    subst (λ (t : Bool). IsWithin (max_ends c d) (if◌then◌else◌ {A = ℤ} t x (int_max s.total x))) (sym (past k)) ((max-IsHull c d (ordered c s.total wc) (ordered d x wd)).holds s.total x wc wd)

add-folded : (bs : List Bounds) (xs : List ℤ) (b : Bounds) → AreHeld bs xs → folded add_ends bs ≡ Ok b → Folded Add b xs
add-folded [] [] b w h = record { total = held-ok (exactly (pos 0)) b (pos 0) zero-held h; steps = tt }
add-folded [] (x ∷ xs) b w h = absurd w
add-folded (c ∷ bs) [] b w h = absurd w
add-folded (c ∷ bs) (x ∷ xs) b w h =
    let start : IsHeld c (pos 0 +ℤ x) = subst (IsHeld c) (sym (+ℤ_idl x)) w.0 in
    let all = together Add add_ends add-holds (λ k s y small. small_fits _ small) bs xs 0 (with_value Add 0 (no_values Add) x) c b start w.1 h in
    record { total = all.total; steps = (small_fits _ start.small, all.steps) }

mul-folded : (bs : List Bounds) (xs : List ℤ) (b : Bounds) → AreHeld bs xs → folded mul_ends bs ≡ Ok b → (xs ≡ [] → ⊥) → Folded Mul b xs
mul-folded [] [] b w h some = absurd (some refl)
mul-folded [] (x ∷ xs) b w h some = absurd w
mul-folded (c ∷ bs) [] b w h some = absurd w
mul-folded (c ∷ bs) (x ∷ xs) b w h some =
    let same = one-times x in
    let start : IsHeld c (pos 1 *ℤ x) = subst (IsHeld c) (sym same) w.0 in
    let all = together Mul mul_ends mul-holds (λ k s y small. small_fits _ small) bs xs 0 (with_value Mul 0 (no_values Mul) x) c b start w.1 h in
    record { total = all.total; steps = (small_fits _ start.small, all.steps) }

min-folded : (bs : List Bounds) (xs : List ℤ) (b : Bounds) → AreHeld bs xs → folded min_ends bs ≡ Ok b → Folded Min b xs
min-folded [] [] b w h = record { total = held-ok (exactly (pos 0)) b (pos 0) zero-held h; steps = tt }
min-folded [] (x ∷ xs) b w h = absurd w
min-folded (c ∷ bs) [] b w h = absurd w
min-folded (c ∷ bs) (x ∷ xs) b w h =
    let all = together Min min_ends min-holds (λ k s y small. tt) bs xs 0 (with_value Min 0 (no_values Min) x) c b w.0 w.1 h in
    record { total = all.total; steps = (tt, all.steps) }

max-folded : (bs : List Bounds) (xs : List ℤ) (b : Bounds) → AreHeld bs xs → folded max_ends bs ≡ Ok b → Folded Max b xs
max-folded [] [] b w h = record { total = held-ok (exactly (pos 0)) b (pos 0) zero-held h; steps = tt }
max-folded [] (x ∷ xs) b w h = absurd w
max-folded (c ∷ bs) [] b w h = absurd w
max-folded (c ∷ bs) (x ∷ xs) b w h =
    let all = together Max max_ends max-holds (λ k s y small. tt) bs xs 0 (with_value Max 0 (no_values Max) x) c b w.0 w.1 h in
    record { total = all.total; steps = (tt, all.steps) }

-- operands of which each is a truth value
truths-at : (bs : List Bounds) (k : ℕ) → list_all is_truth bs ≡ true → is_truth (operand bs k) ≡ true
truths-at [] k h = refl
truths-at (b ∷ bs) zero h = (both_true (is_truth b) (list_all is_truth bs) h).0
truths-at (b ∷ bs) (suc k) h = truths-at bs k (both_true (is_truth b) (list_all is_truth bs) h).1

truth-within : (b : Bounds) → is_truth b ≡ true → (pos 0 ≤ℤ b.lo) × (b.hi ≤ℤ pos 1)
truth-within b h = let ends = both_true (int_le (pos 0) b.lo) (int_le b.hi (pos 1)) h in (omega (arith, ints, ends.0), omega (arith, ints, ends.1))

divisible-is : (s t : Bounds) → is_divisible s t ≡ true → (pos 0 ≤ℤ s.lo) × (pos 1 ≤ℤ t.lo)
divisible-is s t h = let ends = both_true (int_le (pos 0) s.lo) (int_le (pos 1) t.lo) h in (omega (arith, ints, ends.0), omega (arith, ints, ends.1))

chosen-within : (t : Bool) (e : Bounds) (x y : ℤ) → IsWithin e x → IsWithin e y → IsWithin e (if t then x else y)
chosen-within true e x y wx wy = wx
chosen-within false e x y wx wy = wy

-- what is claimed of a node
pub record NodeHeld (op : Op) (b : Bounds) (xs members : List ℤ) : Type 0 where
  pub value : IsHeld b (apply op xs members)
  pub fits : FitsNode op xs

-- a literal exponent
pub record HasExponent (bs : List Bounds) (xs : List ℤ) : Type 0 where
  pub exponent : IsExponent (at xs 1)
  pub same : (operand bs 1).lo ≡ at xs 1

module _ (bs : List Bounds) (xs members : List ℤ) (h : AreHeld bs xs) (b : Bounds) where
  w0 : IsWithin (operand bs 0) (at xs 0)
  w0 = (operand-held bs xs 0 h).within

  w1 : IsWithin (operand bs 1) (at xs 1)
  w1 = (operand-held bs xs 1 h).within

  w2 : IsWithin (operand bs 2) (at xs 2)
  w2 = (operand-held bs xs 2 h).within

  o0 : (operand bs 0).lo ≤ℤ (operand bs 0).hi
  o0 = ordered (operand bs 0) (at xs 0) w0

  o1 : (operand bs 1).lo ≤ℤ (operand bs 1).hi
  o1 = ordered (operand bs 1) (at xs 1) w1

  o2 : (operand bs 2).lo ≤ℤ (operand bs 2).hi
  o2 = ordered (operand bs 2) (at xs 2) w2

  difference : IsWithin (sub_ends (operand bs 0) (operand bs 1)) (at xs 0 -ℤ at xs 1)
  difference = (sub-IsHull (operand bs 0) (operand bs 1) o0 o1).holds (at xs 0) (at xs 1) w0 w1

  logic-held : (t : Bool) → logic bs ≡ Ok b → IsHeld b (truth t)
  logic-held t is = held-ok truths b (truth t) (truth-held t) (guarded (list_all is_truth bs) (Ok truths) b Logic is).0

  pub node-held : (op : Op) → node_bounds op bs ≡ Ok b → (op ≡ Mul → (xs ≡ [] → ⊥)) → (op ≡ Pow → HasExponent bs xs) → NodeHeld op b xs members
  node-held Neg is m p =
      let v = limited-held (neg_ends (operand bs 0)) b (neg_ℤ (at xs 0)) ((neg-IsImageHull (operand bs 0) o0).holds (at xs 0) w0) is in
      record { value = v; fits = (free Neg (λ s x. tt) 0 (no_values Neg) xs, rw (all-first Neg xs) (small_fits _ v.small)) }
  node-held Abs is m p =
      let v = limited-held (abs_ends (operand bs 0)) b (int_abs (at xs 0)) ((abs-IsImageHull (operand bs 0) o0).holds (at xs 0) w0) is in
      let small = (operand-held bs xs 0 h).small in
      let negated : FitsSigned w128 (neg_ℤ (at xs 0)) = omega (arith, ints, small.from, small.to) in
      record { value = v; fits = (free Abs (λ s x. tt) 0 (no_values Abs) xs, rw (all-first Abs xs) negated) }
  node-held Sqr is m p =
      let square : int_pow (at xs 0) 2 ≡ at xs 0 *ℤ at xs 0 = ap (λ (y : ℤ). y *ℤ at xs 0) (one-times (at xs 0)) in
      let held = limited-held (pow_ends (operand bs 0) 2) b (int_pow (at xs 0) 2) ((pow-IsImageHull (operand bs 0) 2 o0).holds (at xs 0) w0) is in
      let v = subst (IsHeld b) square held in
      record { value = v; fits = (free Sqr (λ s x. tt) 0 (no_values Sqr) xs, rw (all-first Sqr xs) (small_fits _ v.small)) }
  node-held Add is m p =
      let all = add-folded bs xs b h is in
      record { value = subst (IsHeld b) (all-node xs members Add (λ e. cc) (λ e. cc) (λ e. cc)) all.total; fits = (all.steps, tt) }
  node-held Mul is m p =
      let all = mul-folded bs xs b h is (m refl) in
      record { value = subst (IsHeld b) (all-node xs members Mul (λ e. cc) (λ e. cc) (λ e. cc)) all.total; fits = (all.steps, tt) }
  node-held Min is m p =
      let all = min-folded bs xs b h is in
      record { value = subst (IsHeld b) (all-node xs members Min (λ e. cc) (λ e. cc) (λ e. cc)) all.total; fits = (all.steps, tt) }
  node-held Max is m p =
      let all = max-folded bs xs b h is in
      record { value = subst (IsHeld b) (all-node xs members Max (λ e. cc) (λ e. cc) (λ e. cc)) all.total; fits = (all.steps, tt) }
  node-held Sub is m p =
      let v = limited-held (sub_ends (operand bs 0) (operand bs 1)) b (at xs 0 -ℤ at xs 1) difference is in
      record { value = v; fits = (free Sub (λ s x. tt) 0 (no_values Sub) xs, rw (all-first Sub xs, all-second Sub xs) (small_fits _ v.small)) }
  node-held Dist is m p =
      let d = sub_ends (operand bs 0) (operand bs 1) in
      let od = ordered d (at xs 0 -ℤ at xs 1) difference in
      let v = limited-held (abs_ends d) b (int_abs (at xs 0 -ℤ at xs 1)) ((abs-IsImageHull d od).holds (at xs 0 -ℤ at xs 1) difference) is in
      let fits : FitsSigned w128 (at xs 0 -ℤ at xs 1) = omega (arith, ints, v.small.to) in
      let negated : FitsSigned w128 (neg_ℤ (at xs 0 -ℤ at xs 1)) = omega (arith, ints, v.small.to) in
      record { value = v; fits = (free Dist (λ s x. tt) 0 (no_values Dist) xs, rw (all-first Dist xs, all-second Dist xs) (fits, negated)) }
  node-held Div is m p =
      let g = guarded (is_divisible (operand bs 0) (operand bs 1)) (limited (div_ends (operand bs 0) (operand bs 1))) b Division is in
      let d = divisible-is (operand bs 0) (operand bs 1) g.1 in
      let v = limited-held (div_ends (operand bs 0) (operand bs 1)) b (int_div (at xs 0) (at xs 1)) ((div-IsHull (operand bs 0) (operand bs 1) o0 o1 d.0 d.1).holds (at xs 0) (at xs 1) w0 w1) g.0 in
      let dividend : pos 0 ≤ℤ at xs 0 = omega (arith, ints, d.0, w0.from) in
      let divisor : pos 1 ≤ℤ at xs 1 = omega (arith, ints, d.1, w1.from) in
      record { value = v; fits = (free Div (λ s x. tt) 0 (no_values Div) xs, rw (all-first Div xs, all-second Div xs) (dividend, divisor)) }
  node-held Mod is m p =
      let g = guarded (is_divisible (operand bs 0) (operand bs 1)) (limited (rem_ends (operand bs 0) (operand bs 1))) b Division is in
      let d = divisible-is (operand bs 0) (operand bs 1) g.1 in
      let v = limited-held (rem_ends (operand bs 0) (operand bs 1)) b (int_rem (at xs 0) (at xs 1)) (rem-HoldsResults (operand bs 0) (operand bs 1) d.0 d.1 (at xs 0) (at xs 1) w0 w1) g.0 in
      let dividend : pos 0 ≤ℤ at xs 0 = omega (arith, ints, d.0, w0.from) in
      let divisor : pos 1 ≤ℤ at xs 1 = omega (arith, ints, d.1, w1.from) in
      record { value = v; fits = (free Mod (λ s x. tt) 0 (no_values Mod) xs, rw (all-first Mod xs, all-second Mod xs) (dividend, divisor)) }
  node-held Pow is m p =
      let q = p refl in
      let k = exponent_of (operand bs 1).lo in
      let same : int_pow (at xs 0) k ≡ power (at xs 0) (exponent_of (at xs 1)) = sym (power-is (at xs 0) k) ∙ ap (λ (z : ℤ). power (at xs 0) (exponent_of z)) q.same in
      let held = limited-held (pow_ends (operand bs 0) k) b (int_pow (at xs 0) k) ((pow-IsImageHull (operand bs 0) k o0).holds (at xs 0) w0) is in
      let v = subst (IsHeld b) same held in
      record { value = v; fits = (free Pow (λ s x. tt) 0 (no_values Pow) xs, rw (all-first Pow xs, all-second Pow xs) (q.exponent, small_fits _ v.small)) }
  node-held Lt is m p = record { value = held-ok truths b _ (truth-held (int_lt (at xs 0) (at xs 1))) is; fits = (free Lt (λ s x. tt) 0 (no_values Lt) xs, tt) }
  node-held Le is m p = record { value = held-ok truths b _ (truth-held (int_le (at xs 0) (at xs 1))) is; fits = (free Le (λ s x. tt) 0 (no_values Le) xs, tt) }
  node-held Gt is m p = record { value = held-ok truths b _ (truth-held (int_lt (at xs 1) (at xs 0))) is; fits = (free Gt (λ s x. tt) 0 (no_values Gt) xs, tt) }
  node-held Ge is m p = record { value = held-ok truths b _ (truth-held (int_le (at xs 1) (at xs 0))) is; fits = (free Ge (λ s x. tt) 0 (no_values Ge) xs, tt) }
  node-held Ne is m p = record { value = held-ok truths b _ (truth-held _) is; fits = (free Ne (λ s x. tt) 0 (no_values Ne) xs, tt) }
  node-held Eq is m p = record { value = held-ok truths b _ (truth-held _) is; fits = (free Eq (λ s x. tt) 0 (no_values Eq) xs, tt) }
  node-held In is m p = record { value = held-ok truths b _ (truth-held _) is; fits = (free In (λ s x. tt) 0 (no_values In) xs, tt) }
  node-held NotIn is m p = record { value = held-ok truths b _ (truth-held _) is; fits = (free NotIn (λ s x. tt) 0 (no_values NotIn) xs, tt) }
  node-held Set is m p = record { value = held-ok (exactly (pos 0)) b (pos 0) zero-held is; fits = (free Set (λ s x. tt) 0 (no_values Set) xs, tt) }
  node-held Not is m p =
      let g = guarded (list_all is_truth bs) (Ok truths) b Logic is in
      let t = truth-within (operand bs 0) (truths-at bs 0 g.1) in
      let w : IsWithin truths (pos 1 -ℤ at xs 0) = record { from = omega (arith, ints, t.0, t.1, w0.from, w0.to); to = omega (arith, ints, t.0, t.1, w0.from, w0.to) } in
      let small : IsSmall (pos 1 -ℤ at xs 0) = record { from = omega (arith, ints, w.from, w.to); to = omega (arith, ints, w.from, w.to) } in
      record { value = held-ok truths b (pos 1 -ℤ at xs 0) (record { within = w; small = small }) g.0; fits = (free Not (λ s x. tt) 0 (no_values Not) xs, rw (all-first Not xs) (small_fits _ small)) }
  node-held And is m p = record { value = logic-held _ is; fits = (free And (λ s x. tt) 0 (no_values And) xs, tt) }
  node-held Or is m p = record { value = logic-held _ is; fits = (free Or (λ s x. tt) 0 (no_values Or) xs, tt) }
  node-held Xor is m p = record { value = logic-held _ is; fits = (free Xor (λ s x. tt) 0 (no_values Xor) xs, tt) }
  node-held Iff is m p = record { value = logic-held _ is; fits = (free Iff (λ s x. tt) 0 (no_values Iff) xs, tt) }
  node-held Imp is m p = record { value = logic-held _ is; fits = (free Imp (λ s x. tt) 0 (no_values Imp) xs, tt) }
  node-held If is m p =
      let g = guarded (is_truth (operand bs 0)) (limited (join_ends (operand bs 1) (operand bs 2))) b Logic is in
      let j = join-IsJoin (operand bs 1) (operand bs 2) o1 o2 in
      let w = chosen-within (is_true (at xs 0)) (join_ends (operand bs 1) (operand bs 2)) (at xs 1) (at xs 2) (j.left (at xs 1) w1) (j.right (at xs 2) w2) in
      record { value = limited-held (join_ends (operand bs 1) (operand bs 2)) b (chosen (at xs 0) (at xs 1) (at xs 2)) w g.0; fits = (free If (λ s x. tt) 0 (no_values If) xs, tt) }
