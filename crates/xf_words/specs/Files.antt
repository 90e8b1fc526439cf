-- The words of the files that a call reads, and which of them may be asked for.
use Rattle.std.specs.Prelude.{◌≡◌, true, ℕ, ◌<◌, Bool, List, [], Option, Some, None}
use Rattle.xf_words.specs.declared.call.Call.{Call}
use Rattle.xf_words.specs.declared.call.Which.{Which}
use Rattle.xf_words.specs.declared.call.Which.TheVariants.{File, Solution}
use Rattle.xf_words.specs.Words.{call_of, file_of, files_of, solution_of}

-- one of two words
abbrev pub pick : Which → List ℕ → List ℕ → List ℕ
pick File file solution = file
pick Solution file solution = solution

-- the words of a call's files; empty without a call
abbrev pub file_by : Option Call → List (List ℕ) → List ℕ
file_by None ws = []
file_by (Some c) ws = file_of c ws

abbrev pub solution_by : Option Call → List (List ℕ) → List ℕ
solution_by None ws = []
solution_by (Some c) ws = solution_of c ws

abbrev pub word_by : Option Call → Which → List (List ℕ) → List ℕ
word_by o which ws = pick which (file_by o ws) (solution_by o ws)

-- of the words themselves
abbrev pub word_of : Which → List (List ℕ) → List ℕ
word_of which ws = word_by (call_of ws) which ws

-- the files that a command reads may be asked for
pub record MayAsk (may_ask : List ℕ → Bool) (n : ℕ) (file solution : List ℕ) : Type 0 where
  pub first : 0 < n → may_ask file ≡ true
  pub second : 1 < n → may_ask solution ≡ true

-- the files of a call may be asked for
abbrev pub MayAskFor : (List ℕ → Bool) → Option Call → List (List ℕ) → Type 0
MayAskFor may_ask None ws = Unit {0}
MayAskFor may_ask (Some c) ws = MayAsk may_ask (files_of c.command) (file_of c ws) (solution_of c ws)
