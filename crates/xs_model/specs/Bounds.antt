-- The bounds of an expression, and the first node that is at fault (XCSP3-core, the operators of expressions).
--
-- The nodes are judged one after the other, the operands before their node, the first operand first. A node is at
-- fault where a truth value is asked of an operand that may be other than 0 and 1, where a dividend may be negative
-- or a divisor less than 1, and where its own bounds pass the greatest magnitude of an integer.
use Rattle.std.specs.Prelude.{ℕ, ◌<◌, ℤ, pos, neg_ℤ, int_le, List, [], ◌∷◌, length, slice_index_or, map, Bool, ◌&&◌, if◌then◌else◌, Result, Ok, Err, ⊤}
use Rattle.std.specs.List.{list_all}
use Rattle.xf_num.specs.Span.{Bounds, add_ends, sub_ends, mul_ends, min_ends, max_ends, neg_ends, abs_ends, pow_ends, div_ends, rem_ends, join_ends}
use Rattle.xf_text.specs.declared.fault.Kind.{Kind}
use Rattle.xf_text.specs.declared.fault.Kind.TheVariants.{Logic, Division, Range}
use Rattle.xs_model.specs.declared.expr.Op.{Op}
use Rattle.xs_model.specs.declared.expr.Op.TheVariants.{Neg, Abs, Sqr, Add, Mul, Sub, Dist, Div, Mod, Pow, Min, Max, Lt, Le, Gt, Ge, Ne, Eq, Set, In, NotIn, Not, And, Or, Xor, Iff, Imp, If}
use Rattle.xs_model.specs.declared.expr.Expr.{Expr, fold-Expr, every-Expr}
use Rattle.xs_model.specs.declared.expr.Expr.TheOpen.{Expr-F}
use Rattle.xs_model.specs.Sound.{magnitudes}
use Rattle.xs_model.specs.Value.{exponent_of}

-- an integer of at most the greatest magnitude
abbrev pub is_small : ℤ → Bool
is_small z = int_le (neg_ℤ (pos magnitudes)) z && int_le z (pos magnitudes)

-- bounds of at most that magnitude
abbrev pub is_within_limit : Bounds → Bool
is_within_limit b = is_small b.lo && is_small b.hi

-- a node's own bounds, where they are within the limit
abbrev pub limited : Bounds → Result Bounds Kind
limited b = if is_within_limit b then Ok b else Err Range

-- the next step, where there is no fault so far
abbrev pub and_then : {X : Type 0} → Result X Kind → (X → Result Bounds Kind) → Result Bounds Kind
and_then (Ok x) f = f x
and_then (Err k) f = Err k

abbrev pub prepended : {X : Type 0} → X → Result (List X) Kind → Result (List X) Kind
prepended x (Ok xs) = Ok (x ∷ xs)
prepended x (Err k) = Err k

-- the values, or the first fault
abbrev pub all_ok : {X : Type 0} → List (Result X Kind) → Result (List X) Kind
all_ok [] = Ok []
all_ok (Err k ∷ rs) = Err k
all_ok (Ok x ∷ rs) = prepended x (all_ok rs)

abbrev pub exactly : ℤ → Bounds
exactly z = record { lo = z; hi = z }

-- the bounds of a truth value
abbrev pub truths : Bounds
truths = record { lo = pos 0; hi = pos 1 }

-- each integer between the ends is 0 or 1
abbrev pub is_truth : Bounds → Bool
is_truth b = int_le (pos 0) b.lo && int_le b.hi (pos 1)

-- the first is never negative, and the second at least 1
abbrev pub is_divisible : Bounds → Bounds → Bool
is_divisible s t = int_le (pos 0) s.lo && int_le (pos 1) t.lo

-- the bounds of operand k
abbrev pub operand : List Bounds → ℕ → Bounds
operand bs k = slice_index_or bs k (exactly (pos 0))

-- the operands taken together from the left, each step within the limit
abbrev pub folded_from : (Bounds → Bounds → Bounds) → Result Bounds Kind → List Bounds → Result Bounds Kind
folded_from f acc [] = acc
folded_from f acc (b ∷ bs) = folded_from f (and_then acc (λ a. limited (f a b))) bs

abbrev pub folded : (Bounds → Bounds → Bounds) → List Bounds → Result Bounds Kind
folded f [] = Ok (exactly (pos 0))
folded f (b ∷ bs) = folded_from f (Ok b) bs

-- a node over truth values
abbrev pub logic : List Bounds → Result Bounds Kind
logic bs = if list_all is_truth bs then Ok truths else Err Logic

-- a node's bounds from those of its operands
abbrev pub node_bounds : Op → List Bounds → Result Bounds Kind
node_bounds Neg bs = limited (neg_ends (operand bs 0))
node_bounds Abs bs = limited (abs_ends (operand bs 0))
node_bounds Sqr bs = limited (pow_ends (operand bs 0) 2)
node_bounds Add bs = folded add_ends bs
node_bounds Mul bs = folded mul_ends bs
node_bounds Sub bs = limited (sub_ends (operand bs 0) (operand bs 1))
node_bounds Dist bs = limited (abs_ends (sub_ends (operand bs 0) (operand bs 1)))
node_bounds Div bs = if is_divisible (operand bs 0) (operand bs 1) then limited (div_ends (operand bs 0) (operand bs 1)) else Err Division
node_bounds Mod bs = if is_divisible (operand bs 0) (operand bs 1) then limited (rem_ends (operand bs 0) (operand bs 1)) else Err Division
node_bounds Pow bs = limited (pow_ends (operand bs 0) (exponent_of (operand bs 1).lo))
node_bounds Min bs = folded min_ends bs
node_bounds Max bs = folded max_ends bs
node_bounds Lt bs = Ok truths
node_bounds Le bs = Ok truths
node_bounds Gt bs = Ok truths
node_bounds Ge bs = Ok truths
node_bounds Ne bs = Ok truths
node_bounds Eq bs = Ok truths
node_bounds Set bs = Ok (exactly (pos 0))
node_bounds In bs = Ok truths
node_bounds NotIn bs = Ok truths
node_bounds Not bs = logic bs
node_bounds And bs = logic bs
node_bounds Or bs = logic bs
node_bounds Xor bs = logic bs
node_bounds Iff bs = logic bs
node_bounds Imp bs = logic bs
node_bounds If bs = if is_truth (operand bs 0) then limited (join_ends (operand bs 1) (operand bs 2)) else Err Logic

abbrev pub bounds_step : List Bounds → Expr-F (Result Bounds Kind) → Result Bounds Kind
bounds_step ss (Expr-F.Int z) = limited (exactly z)
bounds_step ss (Expr-F.Var v) = limited (operand ss v)
bounds_step ss (Expr-F.Node op rs) = and_then (all_ok rs) (node_bounds op)

-- the bounds of an expression where those of the variables are given
abbrev pub bounds : List Bounds → Expr → Result Bounds Kind
bounds ss = fold-Expr (Result Bounds Kind) (bounds_step ss)

-- the bounds of values
abbrev pub points : List ℤ → List Bounds
points a = map exactly a

-- the variables of an expression are among the first n
abbrev pub HasVariable : ℕ → Expr-F Expr → Type 0
HasVariable n (Expr-F.Int z) = ⊤
HasVariable n (Expr-F.Var v) = v < n
HasVariable n (Expr-F.Node op es) = ⊤

abbrev pub HasVariables : ℕ → Expr → Type 0
HasVariables n = every-Expr (HasVariable n)

-- each variable has bounds
abbrev pub HasSpan : List Bounds → Expr-F Expr → Type 0
HasSpan ss = HasVariable (length ss)

abbrev pub HasSpans : List Bounds → Expr → Type 0
HasSpans ss = HasVariables (length ss)
