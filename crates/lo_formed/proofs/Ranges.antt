-- Bounds of expressions without fault are ranges of small integers that are not empty.
use Rattle.std.proofs.Common.{◌≡◌, ℕ, ℤ, pos, ◌≤ℤ◌, refl, subst, List, [], ◌∷◌, arith, Result, Ok, Err, if◌then◌else◌}
use Rattle.std.specs.List.{AllByRecursion, list_all}
use Rattle.std.proofs.lemmas.Int.{ints}
use Rattle.xf_num.specs.Span.{Bounds, IsWithin, add_ends, sub_ends, mul_ends, min_ends, max_ends, neg_ends, abs_ends, pow_ends, div_ends, rem_ends, join_ends}
use Rattle.xf_num.proofs.Hulls.{mul-IsHull}
use Rattle.xf_num.proofs.Images.{sub-IsHull, pow-IsImageHull}
use Rattle.xf_text.specs.declared.fault.Kind.{Kind}
use Rattle.xf_text.specs.declared.fault.Kind.TheVariants.{Logic, Division}
use Rattle.fz_model.specs.Limits.{IsSmall}
use Rattle.fz_model.specs.Sound.{IsRange}
use Rattle.xs_model.specs.declared.expr.Op.{Op}
use Rattle.xs_model.specs.declared.expr.Op.TheVariants.{Neg, Abs, Sqr, Add, Mul, Sub, Dist, Div, Mod, Pow, Min, Max, Lt, Le, Gt, Ge, Ne, Eq, Set, In, NotIn, Not, And, Or, Xor, Iff, Imp, If}
use Rattle.xs_model.specs.declared.expr.Expr.{Expr}
use Rattle.xs_model.specs.Bounds.{bounds, limited, exactly, truths, is_truth, is_divisible, operand, folded, folded_from, logic, node_bounds, HasSpans}
use Rattle.xs_model.specs.Shape.{IsShaped}
use Rattle.xs_model.specs.Value.{exponent_of}
use Rattle.xs_expr.proofs.Bounded.{bounds-narrow}
use Rattle.xs_expr.proofs.Narrow.{AreInside}
use Rattle.xs_expr.proofs.Within.{AreSmall, no_fault, guarded, limited-is}
use Rattle.lo_terms.specs.Emitted.{ends, kept}
use Rattle.lo_formed.specs.Laws.{AreOrdered}

-- the order of the ends

self_inside : (ss : List Bounds) → AreOrdered ss → AreInside ss ss
self_inside [] h = tt
self_inside (s ∷ ss) h = (record { from = omega (arith, ints); order = h.0; to = omega (arith, ints) }, self_inside ss h.1)

one_result : (c b : Bounds) (r : Result Bounds Kind) → r ≡ Ok c → r ≡ Ok b → c ≡ b
one_result c b r g h = cc

pub bounds_ordered : (ss : List Bounds) (e : Expr) (b : Bounds) → AreOrdered ss → IsShaped e → HasSpans ss e → bounds ss e ≡ Ok b → b.lo ≤ℤ b.hi
bounds_ordered ss e b o d s is =
    let i = bounds-narrow ss ss (self_inside ss o) e d s b is in
    subst (λ (c : Bounds). c.lo ≤ℤ c.hi) (one_result i.bounds b (bounds ss e) i.is is) i.inside.order

low_end : (s : Bounds) → s.lo ≤ℤ s.hi → IsWithin s s.lo
low_end s o = record { from = omega (arith, ints); to = o }

holder : (r : Bounds) (x : ℤ) → IsWithin r x → r.lo ≤ℤ r.hi
holder r x w = omega (arith, ints, w.from, w.to)

pub product_ordered : (s t : Bounds) → s.lo ≤ℤ s.hi → t.lo ≤ℤ t.hi → (mul_ends s t).lo ≤ℤ (mul_ends s t).hi
product_ordered s t o p = holder (mul_ends s t) _ ((mul-IsHull s t o p).holds s.lo t.lo (low_end s o) (low_end t p))

pub difference_ordered : (s t : Bounds) → s.lo ≤ℤ s.hi → t.lo ≤ℤ t.hi → (sub_ends s t).lo ≤ℤ (sub_ends s t).hi
difference_ordered s t o p = holder (sub_ends s t) _ ((sub-IsHull s t o p).holds s.lo t.lo (low_end s o) (low_end t p))

pub power_ordered : (s : Bounds) (k : ℕ) → s.lo ≤ℤ s.hi → (pow_ends s k).lo ≤ℤ (pow_ends s k).hi
power_ordered s k o = holder (pow_ends s k) _ ((pow-IsImageHull s k o).holds s.lo (low_end s o))

-- small ends

pub small_of : (b : Bounds) → AreSmall b → IsSmall b
small_of b s = record { from = omega (arith, ints, s.lo.from); to = omega (arith, ints, s.hi.to) }

pub limited_small : (e b : Bounds) → limited e ≡ Ok b → IsSmall b
limited_small e b h = let r = limited-is e b h in subst IsSmall r.0 (small_of e r.1)

pub written_small : (e b : Bounds) → limited e ≡ Ok b → IsSmall e
written_small e b h = small_of e (limited-is e b h).1

zero_small : IsSmall (exactly (pos 0))
zero_small = record { from = omega (arith, ints); to = omega (arith, ints) }

truths_small : IsSmall truths
truths_small = record { from = omega (arith, ints); to = omega (arith, ints) }

given : (e b : Bounds) → IsSmall e → no_fault e ≡ Ok b → IsSmall b
given e b s h = let same : e ≡ b = cc in subst IsSmall same s

module _ (f : Bounds → Bounds → Bounds) where
  no_more : (k : Kind) (bs : List Bounds) (b : Bounds) → folded_from f (Err k) bs ≡ Ok b → ⊥
  no_more k [] b h = cc
  no_more k (c ∷ bs) b h = no_more k bs b h

  folded_by : (a c : Bounds) (bs : List Bounds) (b : Bounds) → ((d : Bounds) → IsSmall d → folded_from f (Ok d) bs ≡ Ok b → IsSmall b) → (r : Result Bounds Kind) → limited (f a c) ≡ r → folded_from f r bs ≡ Ok b → IsSmall b
  folded_by a c bs b rest (Err k) is g = absurd (no_more k bs b g)
  folded_by a c bs b rest (Ok d) is g = rest d (limited_small (f a c) d is) g

  folded_step : (a : Bounds) (bs : List Bounds) (b : Bounds) → IsSmall a → folded_from f (Ok a) bs ≡ Ok b → IsSmall b
  folded_step a [] b s h = given a b s h
  folded_step a (c ∷ bs) b s h = folded_by a c bs b (λ d t g. folded_step d bs b t g) (limited (f a c)) refl h

  folded_small : (bs : List Bounds) (b : Bounds) → AllByRecursion IsSmall bs → folded f bs ≡ Ok b → IsSmall b
  folded_small [] b s h = given (exactly (pos 0)) b zero_small h
  folded_small (c ∷ bs) b s h = folded_step c bs b s.0 h

logic_small : (bs : List Bounds) (b : Bounds) → logic bs ≡ Ok b → IsSmall b
logic_small bs b h = given truths b truths_small (guarded (list_all is_truth bs) (Ok truths) b Logic h).0

divided_small : (e b : Bounds) (bs : List Bounds) → if◌then◌else◌ {A = Result Bounds Kind} (is_divisible (operand bs 0) (operand bs 1)) (limited e) (Err Division) ≡ Ok b → IsSmall b
divided_small e b bs h = limited_small e b (guarded (is_divisible (operand bs 0) (operand bs 1)) (limited e) b Division h).0

chosen_small : (bs : List Bounds) (b : Bounds) → node_bounds If bs ≡ Ok b → IsSmall b
chosen_small bs b h = limited_small (join_ends (operand bs 1) (operand bs 2)) b (guarded (is_truth (operand bs 0)) (limited (join_ends (operand bs 1) (operand bs 2))) b Logic h).0

-- a node's bounds are small where those of its operands are
pub node_small : (op : Op) (bs : List Bounds) (b : Bounds) → AllByRecursion IsSmall bs → node_bounds op bs ≡ Ok b → IsSmall b
node_small Neg bs b s h = limited_small (neg_ends (operand bs 0)) b h
node_small Abs bs b s h = limited_small (abs_ends (operand bs 0)) b h
node_small Sqr bs b s h = limited_small (pow_ends (operand bs 0) 2) b h
node_small Add bs b s h = folded_small add_ends bs b s h
node_small Mul bs b s h = folded_small mul_ends bs b s h
node_small Sub bs b s h = limited_small (sub_ends (operand bs 0) (operand bs 1)) b h
node_small Dist bs b s h = limited_small (abs_ends (sub_ends (operand bs 0) (operand bs 1))) b h
node_small Div bs b s h = divided_small (div_ends (operand bs 0) (operand bs 1)) b bs h
node_small Mod bs b s h = divided_small (rem_ends (operand bs 0) (operand bs 1)) b bs h
node_small Pow bs b s h = limited_small (pow_ends (operand bs 0) (exponent_of (operand bs 1).lo)) b h
node_small Min bs b s h = folded_small min_ends bs b s h
node_small Max bs b s h = folded_small max_ends bs b s h
node_small Lt bs b s h = given truths b truths_small h
node_small Le bs b s h = given truths b truths_small h
node_small Gt bs b s h = given truths b truths_small h
node_small Ge bs b s h = given truths b truths_small h
node_small Ne bs b s h = given truths b truths_small h
node_small Eq bs b s h = given truths b truths_small h
node_small Set bs b s h = given (exactly (pos 0)) b zero_small h
node_small In bs b s h = given truths b truths_small h
node_small NotIn bs b s h = given truths b truths_small h
node_small Not bs b s h = logic_small bs b h
node_small And bs b s h = logic_small bs b h
node_small Or bs b s h = logic_small bs b h
node_small Xor bs b s h = logic_small bs b h
node_small Iff bs b s h = logic_small bs b h
node_small Imp bs b s h = logic_small bs b h
node_small If bs b s h = chosen_small bs b h

-- bounds that are kept

zero_range : IsRange (exactly (pos 0))
zero_range = record { ordered = omega (arith, ints); small = zero_small }

pub kept_range : (w : Bounds) → w.lo ≤ℤ w.hi → IsRange (kept w)
kept_range w o = by (limited w) refl
  where
    by : (r : Result Bounds Kind) → limited w ≡ r → IsRange (ends r)
    by (Ok b) is = let l = limited-is w b is in subst IsRange l.0 (record { ordered = o; small = small_of w l.1 })
    by (Err k) is = zero_range
