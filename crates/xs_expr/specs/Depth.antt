-- How deep the parentheses of a text are. The limit is the program's own.
use Rattle.std.specs.Prelude.{◌≡◌, ℕ, ◌+◌, ◌-◌, ◌<◌, ◌==◌, List, [], ◌∷◌, ◌++◌, if◌then◌else◌}

-- so many parentheses may be open at once
abbrev pub levels : ℕ
levels = 200

-- so many are open behind one byte more, of those open before it: `(` opens one, and `)` closes one where one is open
abbrev pub opened : ℕ → ℕ → ℕ
opened n byte = if byte == 40 then n + 1 else if byte == 41 then n - 1 else n

-- so many are open behind these bytes
abbrev pub open_behind : ℕ → List ℕ → ℕ
open_behind n [] = n
open_behind n (b ∷ bs) = open_behind (opened n b) bs

-- where n are open before a text, more than the limit are open at once somewhere in it
pub record IsDeeper (n : ℕ) (text : List ℕ) : Type 0 where
  pub front : List ℕ
  pub rest : List ℕ
  pub whole : front ++ rest ≡ text
  pub deep : levels < open_behind n front

-- more than the limit are open at once somewhere in a text
abbrev pub IsTooDeep : List ℕ → Type 0
IsTooDeep text = IsDeeper 0 text
