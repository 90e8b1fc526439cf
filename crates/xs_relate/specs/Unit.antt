-- A constraint of one text, which is its own or that of one child (XCSP3-core: a simplified form drops the child): what it
-- meets by itself.
use Rattle.std.specs.Prelude.{ℕ, Bool, ◌&&◌, List, is_some, Option}
use Rattle.xs_fields.specs.declared.condition.Condition.{Condition}
use Rattle.xs_model.specs.declared.concrete.Concrete.{Concrete}
use Rattle.xs_parts.specs.Nesting.{nesting_meets}
use Rattle.xs_parts.specs.Parts.{one_text}
use Rattle.xs_var.specs.Elements.{text_or_none}
use Rattle.xs_var.specs.Variable.{spelling_meets}

-- the one text
abbrev pub form_text : List ℕ → Concrete → List ℕ
form_text child c = text_or_none (one_text child c.parts)

-- what a constraint meets by itself, where it is told whether its texts are shallow, and its one text
abbrev pub unit_meets : Bool → Option (List ℕ) → Condition → Bool
unit_meets shallow text k = nesting_meets shallow k && spelling_meets (is_some text) k
