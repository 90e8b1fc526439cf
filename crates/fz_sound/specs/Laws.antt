-- What holds of each model that is read.
use Rattle.std.specs.Prelude.{◌≡◌, ◌≤◌, ℕ, ◌+◌, ℤ, List, length, map, sum, Option, Ok}
use Rattle.fz_model.specs.declared.model.Model.{Model}
use Rattle.fz_model.specs.declared.model.Output.{Output}
use Rattle.fz_model.specs.Limits.{most_variables, most_leaves}
use Rattle.fz_model.specs.Size.{call_leaves}
use Rattle.fz_model.specs.Sound.{IsSound}
use Rattle.fz_tokens.specs.Tokens.{tokens_of}
use Rattle.fz_grammar.specs.Levels.{words}
use Rattle.fz_grammar.specs.Items.{IsModel}
use Rattle.fz_grammar.specs.declared.tree.Reading.{Reading}
use Rattle.fz_items.specs.Conditions.{in_order}
use Rattle.fz_items.specs.Items.{IsBound}
use Rattle.fz_items.specs.Outcome.{outcome}

-- the model has no more variables than may be read, nor more leaves of calls and members of shown arrays
pub record IsCounted (m : Model) : Type 0 where
  pub variables : length m.vars ≤ most_variables
  pub leaves : sum (map call_leaves m.calls) + sum (map (λ (o : Output). length o.members) m.outputs) ≤ most_leaves

-- the items of a text that miss no condition state a model that is sound and within the counts
abbrev pub SoundLaw : Type 0
SoundLaw =
    (bound : Option ℤ) (text : List ℕ) (r : Reading) (m : Model) → IsBound bound → IsModel r.syntax (words (tokens_of text)) → outcome in_order bound (length text) r ≡ Ok m
    → IsSound m × IsCounted m
