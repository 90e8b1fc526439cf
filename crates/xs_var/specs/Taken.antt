-- What the reading of a unit that declares is asked: the declaration and the counts with it, or what is missed first.
use Rattle.std.specs.Prelude.{◌≡◌, ◌+◌, ◌≤◌, false, [], ◌∷◌, ◌++◌, map, sum, None, Some, Result, Ok, Err}
use Rattle.xf_text.specs.declared.fault.Fault.{Fault}
use Rattle.xf_text.specs.declared.fault.Stop.{Stop}
use Rattle.xf_text.specs.declared.fault.Stop.TheVariants.{Refused, Memory}
use Rattle.xs_fields.specs.Conditions.{first_missed}
use Rattle.xs_fields.specs.declared.condition.Condition.{Condition}
use Rattle.xs_model.specs.Names.{domains_of}
use Rattle.xs_model.specs.Sound.{IsSoundDecl, cells_of, most_cells, most_items, name_of, names_of, values_of}
use Rattle.xs_var.specs.declared.counted.Counted.{Counted}
use Rattle.xs_var.specs.Elements.{is_one_of}
use Rattle.xs_var.specs.Units.{UnitOf}
use Rattle.xs_var.specs.VarUnit.{Declared}

-- with one declaration more, and the counts with it
abbrev pub with_decl : Declared → Counted → Declared
with_decl s c = record { decls = s.decls ++ c.decl ∷ []; cells = c.cells; values = c.values }

-- a unit that misses nothing and declares this, or the first condition that it misses
abbrev pub IsTaken : Declared → UnitOf Declared → Result Counted Condition → Type 0
IsTaken s u (Ok c) = (first_missed (u.meets s) ≡ None) × (u.behind s ≡ with_decl s c)
IsTaken s u (Err k) = first_missed (u.meets s) ≡ Some k

-- a new and sound declaration, and counts that are within the limits with it
pub record IsSoundTaken (s : Declared) (c : Counted) : Type 0 where
  pub decl : IsSoundDecl c.decl
  pub new : is_one_of (names_of s.decls) (name_of c.decl) ≡ false
  pub cells : c.cells ≡ s.cells + cells_of c.decl
  pub values : c.values ≡ s.values + sum (map values_of (domains_of c.decl))
  pub few_cells : c.cells ≤ most_cells
  pub few_values : c.values ≤ most_items

-- the result is as told, by what it stands for, or memory was wanting
abbrev pub IsRead : {A B : Type 0} → (A → B) → Result A Stop → Result B Fault → Type 0
IsRead meaning (Ok x) told = told ≡ Ok (meaning x)
IsRead meaning (Err (Refused fault)) told = told ≡ Err fault
IsRead meaning (Err Memory) told = Unit {0}
