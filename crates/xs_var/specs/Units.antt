-- The fault of units: that of the first unit, in document order, that misses a condition, by its first missed one. Where
-- a unit misses none, it is judged by what it denotes.
use Rattle.std.specs.Prelude.{ℕ, Bool, List, [], ◌∷◌, Option, None, Some, Result, Ok, Err}
use Rattle.xf_text.specs.declared.fault.Fault.{Fault}
use Rattle.xf_text.specs.declared.fault.Kind.{Kind}
use Rattle.xs_fields.specs.Conditions.{first_missed, kind_of}
use Rattle.xs_fields.specs.declared.condition.Condition.{Condition}

-- a unit: its place; by what is known before it, which conditions it meets, and of which kind of fault it is where it
-- meets all; and what is known behind it
pub record UnitOf (K : Type 0) : Type 0 where
  pub place : ℕ
  pub meets : K → Condition → Bool
  pub judged : K → Option Kind
  pub behind : K → K

-- no unit of this kind is at fault where it meets all conditions
abbrev pub unjudged : {K : Type 0} → K → Option Kind
unjudged known = None

-- the fault of a missed condition, else what comes behind
abbrev pub fault_or : {K : Type 0} → Option Condition → ℕ → Result K Fault → Result K Fault
fault_or None place more = more
fault_or (Some k) place more = Err (record { kind = kind_of k; place = place })

-- a fault of this kind, else what comes behind
abbrev pub kind_or : {K : Type 0} → Option Kind → ℕ → Result K Fault → Result K Fault
kind_or None place more = more
kind_or (Some k) place more = Err (record { kind = k; place = place })

-- what is known behind all units, or the fault of the first that is at fault
abbrev pub outcome : {K : Type 0} → K → List (UnitOf K) → Result K Fault
outcome known [] = Ok known
outcome known (u ∷ us) = fault_or (first_missed (u.meets known)) u.place (kind_or (u.judged known) u.place (outcome (u.behind known) us))

-- what further units make of an outcome
abbrev pub onward : {K : Type 0} → Result K Fault → List (UnitOf K) → Result K Fault
onward (Ok known) us = outcome known us
onward (Err fault) us = Err fault
