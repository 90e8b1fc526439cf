-- Constraints that are judged while they are made, and constraints that are made first and judged then.
use Rattle.std.specs.Prelude.{◌≡◌, ℕ, List, Option, Result}
use Rattle.xf_markup.specs.declared.tree.Node.{Node}
use Rattle.xf_text.specs.declared.fault.Fault.{Fault}
use Rattle.xf_text.specs.declared.fault.Kind.{Kind}
use Rattle.xs_units.specs.Units.{Ran, expansion_of, proceed, run, section_units, take_all}
use Rattle.xs_model.specs.declared.concrete.Concrete.{Concrete}
use Rattle.xs_units.specs.declared.known.Expansion.{Expansion}
use Rattle.xs_units.specs.declared.known.Known.{Known}
use Rattle.xs_model.specs.Outline.{Outline}

-- the fault of expansion comes behind all constraints that were made
abbrev pub at_last : {K : Type 0} → Option Fault → Known K → Ran K
at_last fault known = record { known = known; fault = fault }

abbrev pub fed : {K : Type 0} → (K → Concrete → Result K Kind) → Expansion → Known K → Ran K
fed taken e known = proceed (take_all taken e.made known) (at_last e.fault)

abbrev pub begun : {K : Type 0} → K → Known K
begun state = record { words = 0; state = state }

-- both end with the same state and the same fault
pub record AreAlike {K : Type 0} (a b : Ran K) : Type 0 where
  pub state : a.known.state ≡ b.known.state
  pub fault : a.fault ≡ b.fault

-- a constraint at fault before a unit that can not be expanded is the fault, and any other is not
abbrev pub IsOneOrder : (told : ℕ → ℕ) (os : List Outline) → {K : Type 0} → (K → Concrete → Result K Kind) → Type 0
IsOneOrder told os {K} taken = (n : Node) (state : K) → AreAlike (run taken (section_units told os n) (begun state)) (fed taken (expansion_of told os n) (begun state))
