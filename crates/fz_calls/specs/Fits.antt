-- When the sums and products of a call stay small, wherever its variables lie.
use Rattle.std.specs.Prelude.{ℤ, pos, ◌+ℤ◌, ◌*ℤ◌, FitsSigned, List, [], ◌∷◌, map, get_or}
use Rattle.std.specs.Int.{w128}
use Rattle.xf_num.specs.Span.{Bounds, add_ends, mul_ends}
use Rattle.fz_model.specs.declared.builtin.Builtin.{Builtin}
use Rattle.fz_model.specs.declared.builtin.Builtin.TheVariants.{IntLinEq, IntLinNe, IntLinLe, IntLinEqReif, IntLinNeReif, IntLinLeReif, IntPlus, IntTimes, BoolLinEq, BoolLinLe}
use Rattle.fz_model.specs.declared.model.Arg.{Arg, out-Arg}
use Rattle.fz_model.specs.declared.model.Arg.TheOpen.{Arg-F, Int, Bool, Var, Range, Set, List as Listed}
use Rattle.fz_model.specs.declared.model.Call.{Call}
use Rattle.fz_model.specs.Limits.{IsSmall, exactly}
use Rattle.fz_model.specs.Meaning.{truth, members}

-- the ends between which an argument lies, where each variable lies within its span
abbrev pub ends_of_arg : List Bounds → Arg-F Arg → Bounds
ends_of_arg s (Int k) = exactly k
ends_of_arg s (Bool t) = exactly (truth t)
ends_of_arg s (Var v) = get_or s v (exactly (pos 0))
ends_of_arg s (Range r) = exactly (pos 0)
ends_of_arg s (Set r) = exactly (pos 0)
ends_of_arg s (Listed xs) = exactly (pos 0)

abbrev pub ends : List Bounds → Arg → Bounds
ends s a = ends_of_arg s (out-Arg a)

-- each product, and each sum of a front of the products, place by place
abbrev pub SumsFit : Bounds → List Bounds → List Bounds → Type 0
SumsFit sum [] xs = Unit {0}
SumsFit sum (c ∷ cs) [] = Unit {0}
SumsFit sum (c ∷ cs) (x ∷ xs) = IsSmall (mul_ends c x) × IsSmall (add_ends sum (mul_ends c x)) × SumsFit (add_ends sum (mul_ends c x)) cs xs

-- each product, and the sum and each sum of it and a front of the products, is an i128
abbrev pub ValuesFit : ℤ → List ℤ → List ℤ → Type 0
ValuesFit sum [] xs = Unit {0}
ValuesFit sum (c ∷ cs) [] = Unit {0}
ValuesFit sum (c ∷ cs) (x ∷ xs) = FitsSigned w128 (c *ℤ x) × FitsSigned w128 (sum +ℤ (c *ℤ x)) × ValuesFit (sum +ℤ (c *ℤ x)) cs xs

-- the products of the members of two lists
abbrev pub ListsFit : List Bounds → Arg → Arg → Type 0
ListsFit s cs xs = SumsFit (exactly (pos 0)) (map (ends s) (members cs)) (map (ends s) (members xs))

-- what a builtin computes of its arguments
pub data Work : Type 0 where
  Products : Work
  Sum : Work
  Product : Work
  Nothing : Work

abbrev pub work_of : Builtin → Work
work_of IntLinEq = Products
work_of IntLinNe = Products
work_of IntLinLe = Products
work_of IntLinEqReif = Products
work_of IntLinNeReif = Products
work_of IntLinLeReif = Products
work_of BoolLinEq = Products
work_of BoolLinLe = Products
work_of IntPlus = Sum
work_of IntTimes = Product
work_of _ = Nothing

abbrev pub WorkFits : List Bounds → Work → List Arg → Type 0
WorkFits s Products (cs ∷ xs ∷ rest) = ListsFit s cs xs
WorkFits s Sum (x ∷ y ∷ rest) = IsSmall (add_ends (ends s x) (ends s y))
WorkFits s Product (x ∷ y ∷ rest) = IsSmall (mul_ends (ends s x) (ends s y))
WorkFits s _ _ = Unit {0}

-- each product and each partial sum of the call has magnitude at most 2^126 - 1, wherever the variables lie within the spans
abbrev pub CallFits : List Bounds → Call → Type 0
CallFits s call = WorkFits s (work_of call.builtin) call.args

-- the same at one value of each variable
abbrev pub FitsValues : List ℤ → Call → Type 0
FitsValues b call = CallFits (map exactly b) call
