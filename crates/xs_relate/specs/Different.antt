-- An `allDifferent` over one list (XCSP3-core, "Constraint allDifferent"): its conditions, and its list.
use Rattle.std.specs.Prelude.{[], ℕ, Bool, ◌&&◌, List, codes}
use Rattle.xs_fields.specs.Cells.{vars_meet, vars_of}
use Rattle.xs_fields.specs.declared.condition.Condition.{Condition}
use Rattle.xs_model.specs.Outline.{Outline}
use Rattle.xs_model.specs.declared.concrete.Concrete.{Concrete}
use Rattle.xs_model.specs.declared.instance.Constraint.{Constraint}
use Rattle.xs_model.specs.declared.instance.Constraint.TheVariants.{AllDifferent}
use Rattle.xs_parts.specs.Nesting.{are_words_shallow}
use Rattle.xs_parts.specs.Parts.{one_text, text_of_one}
use Rattle.xs_relate.specs.Unit.{form_text, unit_meets}

-- what an `allDifferent` meets, where so many items may still come. How deep its members are nested is asked of its one list
-- alone, whatever text stands beside it
abbrev pub different_meets : List Outline → ℕ → Concrete → Condition → Bool
different_meets os left c k =
    unit_meets (are_words_shallow (text_of_one (codes "list") c.parts)) (one_text (codes "list") c.parts) k && vars_meet os (form_text (codes "list") c) left k

-- the constraint: the values of the list differ pairwise
abbrev pub different_of : List Outline → Concrete → Constraint
different_of os c = AllDifferent (vars_of os (form_text (codes "list") c)) []
