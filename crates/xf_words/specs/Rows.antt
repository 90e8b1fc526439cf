-- The rows of words as a relation: words are a row where each stands for its slot.
use Rattle.std.specs.Prelude.{◌≡◌, ◌↔◌, ℕ, List, Option, Some, None, true, IsSome}
use Rattle.xf_words.specs.declared.call.Call.{Call}
use Rattle.xf_words.specs.declared.call.Numbers.{Numbers}
use Rattle.xf_words.specs.declared.rows.Row.{Row}
use Rattle.xf_words.specs.Words.{call_of, command_of, fit, has_one_dash, no_numbers, slots_of}

-- the words are this row, and say these numbers
abbrev pub IsRow : Row → List (List ℕ) → Numbers → Type 0
IsRow r ws n = fit (slots_of r) ws no_numbers ≡ Some n

-- words have a call exactly where at most one of them is `-` and they are a row; it is that of such a row
pub record RowsAlone : Type 0 where
  pub some : (ws : List (List ℕ)) → has_one_dash ws ≡ true → (r : Row) (n : Numbers) → IsRow r ws n → IsSome (call_of ws)
  pub call : (ws : List (List ℕ)) (c : Call) → call_of ws ≡ Some c → (has_one_dash ws ≡ true) × ((r : Row) × (c.command ≡ command_of r) × IsRow r ws c.numbers)
