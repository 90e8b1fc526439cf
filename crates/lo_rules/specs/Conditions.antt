-- What is asked of a condition, and the test whether it is met (XCSP3-core, "Semantics of conditions").
use Rattle.std.specs.Prelude.{◌≡◌, ℕ, ℤ, pos, ◌+ℤ◌, ◌-ℤ◌, int_le, int_lt, Bool, not, ◌&&◌, List, length}
use Rattle.std.specs.List.{AllByRecursion}
use Rattle.std.specs.Ordering.{int_eq}
use Rattle.fz_model.specs.Limits.{IsSmall, exactly}
use Rattle.fz_model.specs.Sound.{IsRange}
use Rattle.lo_emit.specs.Compare.{Related}
use Rattle.lo_emit.specs.Conditions.{term_of}
use Rattle.lo_emit.specs.declared.compare.Relation.{Relation}
use Rattle.lo_emit.specs.declared.compare.Relation.TheVariants as relation
use Rattle.lo_emit.specs.declared.term.Term.{Term}
use Rattle.lo_emit.specs.declared.term.Term.TheVariants.{Int, Truth, Var}
use Rattle.lo_rules.specs.Formed.{IsInteger}
use Rattle.lo_rules.specs.Rule.{Before}
use Rattle.xf_num.specs.Span.{Bounds}
use Rattle.xs_model.specs.declared.term.Cond.{Cond}
use Rattle.xs_model.specs.declared.term.Cond.TheVariants.{Lt, Le, Ge, Gt, Ne, Eq, InSpan, OutSpan, InSet, OutSet}
use Rattle.xs_model.specs.Conditions.{value_of}
use Rattle.xs_model.specs.Lists.{is_among}

-- P holds of the term that a condition compares with, if any
abbrev pub OfOperand : (Term → Type 0) → Cond → Type 0
OfOperand P (Lt u) = P (term_of u)
OfOperand P (Le u) = P (term_of u)
OfOperand P (Ge u) = P (term_of u)
OfOperand P (Gt u) = P (term_of u)
OfOperand P (Ne u) = P (term_of u)
OfOperand P (Eq u) = P (term_of u)
OfOperand P cond = Unit {0}

-- the condition speaks of no variable from n on
abbrev pub IsCondBefore : ℕ → Cond → Type 0
IsCondBefore n = OfOperand (Before n)

-- how many members the set of a condition has
abbrev pub set_length : Cond → ℕ
set_length (InSet zs) = length zs
set_length (OutSet zs) = length zs
set_length cond = 0

abbrev pub is_between : Bounds → ℤ → Bool
is_between w x = int_le w.lo x && int_le x w.hi

abbrev pub is_related : Relation → ℤ → ℤ → Bool
is_related relation.Lt x y = int_lt x y
is_related relation.Le x y = int_le x y
is_related relation.Ge x y = int_le y x
is_related relation.Gt x y = int_lt y x
is_related relation.Eq x y = int_eq x y
is_related relation.Ne x y = not (int_eq x y)

-- whether x meets the condition where the variables have the values b
abbrev pub is_met : List ℤ → Cond → ℤ → Bool
is_met b (Lt u) x = is_related relation.Lt x (value_of b u)
is_met b (Le u) x = is_related relation.Le x (value_of b u)
is_met b (Ge u) x = is_related relation.Ge x (value_of b u)
is_met b (Gt u) x = is_related relation.Gt x (value_of b u)
is_met b (Ne u) x = is_related relation.Ne x (value_of b u)
is_met b (Eq u) x = is_related relation.Eq x (value_of b u)
is_met b (InSpan w) x = is_between w x
is_met b (OutSpan w) x = not (is_between w x)
is_met b (InSet zs) x = is_among zs x
is_met b (OutSet zs) x = not (is_among zs x)

-- behind variables of these kinds: the operand is an integer, a range has members, and the integers are small
abbrev pub IsCondFormed : List Bool → Cond → Type 0
IsCondFormed booleans (InSpan w) = IsRange w
IsCondFormed booleans (OutSpan w) = IsRange w
IsCondFormed booleans (InSet zs) = AllByRecursion (λ z. IsSmall (exactly z)) zs
IsCondFormed booleans (OutSet zs) = AllByRecursion (λ z. IsSmall (exactly z)) zs
IsCondFormed booleans cond = OfOperand (IsInteger booleans) cond

-- an integer from which one can be taken, and to which one can be added
abbrev pub HasNeighbours : Term → Type 0
HasNeighbours (Int k) = IsSmall (record { lo = k -ℤ pos 1; hi = k +ℤ pos 1 })
HasNeighbours (Truth t) = Unit {0}
HasNeighbours (Var v) = Unit {0}
