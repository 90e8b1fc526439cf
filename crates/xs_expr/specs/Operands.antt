-- What a node asks of its operands' bounds, gathered from the left.
use Rattle.std.specs.Prelude.{ℕ, suc, ◌==◌, pos, List, [], ◌∷◌, true, ◌&&◌, if◌then◌else◌, Result, Ok, Err}
use Rattle.xf_num.specs.Span.{Bounds, add_ends, sub_ends, mul_ends, min_ends, max_ends, neg_ends, abs_ends, pow_ends, div_ends, rem_ends, join_ends}
use Rattle.xf_text.specs.declared.fault.Kind.{Kind}
use Rattle.xf_text.specs.declared.fault.Kind.TheVariants.{Logic, Division}
use Rattle.xs_model.specs.declared.expr.Op.{Op}
use Rattle.xs_model.specs.declared.expr.Op.TheVariants.{Neg, Abs, Sqr, Add, Mul, Sub, Dist, Div, Mod, Pow, Min, Max, Lt, Le, Gt, Ge, Ne, Eq, Set, In, NotIn, Not, And, Or, Xor, Iff, Imp, If}
use Rattle.xs_model.specs.Value.{exponent_of}
use Rattle.xs_expr.specs.declared.limits.Operands.{Operands}
use Rattle.xs_model.specs.Bounds.{limited, and_then, exactly, truths, is_truth, is_divisible}

-- the bounds of two operands taken together, for an operator that takes any number of them
abbrev pub joined : Op → Bounds → Bounds → Result Bounds Kind
joined Add a b = limited (add_ends a b)
joined Mul a b = limited (mul_ends a b)
joined Min a b = limited (min_ends a b)
joined Max a b = limited (max_ends a b)
joined op a b = Ok a

-- all operands taken together, with the next one
abbrev pub extended : Op → ℕ → Operands → Bounds → Result Bounds Kind
extended op k s b = if k == 0 then Ok b else and_then s.together (λ a. joined op a b)

-- with one operand more
abbrev pub pushed : Op → ℕ → Operands → Bounds → Operands
pushed op k s b = record {
  first = if k == 0 then b else s.first;
  second = if k == 1 then b else s.second;
  third = if k == 2 then b else s.third;
  together = extended op k s b;
  are_truths = s.are_truths && is_truth b;
}

abbrev pub none : Operands
none = record { first = exactly (pos 0); second = exactly (pos 0); third = exactly (pos 0); together = Ok (exactly (pos 0)); are_truths = true }

-- with all of these, from place k on
abbrev pub gathered : Op → ℕ → Operands → List Bounds → Operands
gathered op k s [] = s
gathered op k s (b ∷ bs) = gathered op (suc k) (pushed op k s b) bs

-- the same of bounds of which one may be a fault
abbrev pub gathered_of : Op → ℕ → Operands → Result (List Bounds) Kind → Result Operands Kind
gathered_of op k s (Ok bs) = Ok (gathered op k s bs)
gathered_of op k s (Err kind) = Err kind

abbrev pub logic_of : Operands → Result Bounds Kind
logic_of s = if s.are_truths then Ok truths else Err Logic

-- a node's bounds
abbrev pub node_of : Op → Operands → Result Bounds Kind
node_of Neg s = limited (neg_ends s.first)
node_of Abs s = limited (abs_ends s.first)
node_of Sqr s = limited (pow_ends s.first 2)
node_of Add s = s.together
node_of Mul s = s.together
node_of Sub s = limited (sub_ends s.first s.second)
node_of Dist s = limited (abs_ends (sub_ends s.first s.second))
node_of Div s = if is_divisible s.first s.second then limited (div_ends s.first s.second) else Err Division
node_of Mod s = if is_divisible s.first s.second then limited (rem_ends s.first s.second) else Err Division
node_of Pow s = limited (pow_ends s.first (exponent_of s.second.lo))
node_of Min s = s.together
node_of Max s = s.together
node_of Lt s = Ok truths
node_of Le s = Ok truths
node_of Gt s = Ok truths
node_of Ge s = Ok truths
node_of Ne s = Ok truths
node_of Eq s = Ok truths
node_of Set s = Ok (exactly (pos 0))
node_of In s = Ok truths
node_of NotIn s = Ok truths
node_of Not s = logic_of s
node_of And s = logic_of s
node_of Or s = logic_of s
node_of Xor s = logic_of s
node_of Iff s = logic_of s
node_of Imp s = logic_of s
node_of If s = if is_truth s.first then limited (join_ends s.second s.third) else Err Logic
