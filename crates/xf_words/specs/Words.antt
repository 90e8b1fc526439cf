-- The words of the program (its own): the rows of words that are a command, and the numbers and files among them.
use Rattle.std.specs.Prelude.{ℕ, ◌-◌, ◌^◌, nat_le, Bool, not, ◌&&◌, ◌||◌, List, [], ◌∷◌, codes, Option, Some, None, if◌then◌else◌, bytes_eq, nat_eq, slice_index_or, count_by, option_map, ◌+◌}
use Rattle.std.specs.Char.{is_ascii_digit}
use Rattle.std.specs.List.{starts_with, list_all}
use Rattle.std.specs.Str.Parse.{digits_value}
use Rattle.xf_words.specs.declared.call.Call.{Call}
use Rattle.xf_words.specs.declared.call.Command.{Command}
use Rattle.xf_words.specs.declared.call.Command.TheVariants.{ToFzn, Show}
use Rattle.xf_words.specs.declared.call.Numbers.{Numbers}
use Rattle.xf_words.specs.declared.rows.Name.{Name}
use Rattle.xf_words.specs.declared.rows.Name.TheVariants as name
use Rattle.xf_words.specs.declared.rows.Row.{Row}
use Rattle.xf_words.specs.declared.rows.Row.TheVariants as row
use Rattle.xf_words.specs.declared.rows.Slot.{Slot}
use Rattle.xf_words.specs.declared.rows.Slot.TheVariants.{Word, File, Solution, Bound, Size, Number}

-- how each name is spelt
abbrev pub spelling : Name → List ℕ
spelling name.ToFzn = codes "to-fzn"
spelling name.Show = codes "show"

-- the table: the words of each row
abbrev pub slots_of : Row → List Slot
slots_of row.ToFzn = Word name.ToFzn ∷ File ∷ []
slots_of row.Show = Word name.Show ∷ File ∷ []

-- the command of each row
abbrev pub command_of : Row → Command
command_of row.ToFzn = ToFzn
command_of row.Show = Show

-- all rows
abbrev pub rows : List Row
rows = row.ToFzn ∷ row.Show ∷ []

-- a word that names a file: `-`, or a word that is not empty and does not begin with `-`
abbrev pub names_file : List ℕ → Bool
names_file w = bytes_eq w (codes "-") || (not (bytes_eq w []) && not (starts_with nat_eq w (codes "-")))

-- a word of digits
abbrev pub is_numeral : List ℕ → Bool
is_numeral w = not (bytes_eq w []) && list_all is_ascii_digit w

-- the value of a word of digits, where it is one of these
abbrev pub number_in : ℕ → ℕ → List ℕ → Option ℕ
number_in least most w = if is_numeral w && (nat_le least (digits_value 10 w) && nat_le (digits_value 10 w) most) then Some (digits_value 10 w) else None

-- the numbers where no word is one
abbrev pub no_numbers : Numbers
no_numbers = record { bound = None; size = 0; number = 0 }

-- the numbers with that of a word, where the word stands for the slot
abbrev pub put : Slot → List ℕ → Numbers → Option Numbers
put (Word spelt) w n = if bytes_eq w (spelling spelt) then Some n else None
put File w n = if names_file w then Some n else None
put Solution w n = if names_file w then Some n else None
put Bound w n = option_map (λ value. record { bound = Some value; size = n.size; number = n.number }) (number_in 0 (2 ^ 63 - 1) w)
put (Size most) w n = option_map (λ value. record { bound = n.bound; size = value; number = n.number }) (number_in 1 most w)
put Number w n = option_map (λ value. record { bound = n.bound; size = n.size; number = value }) (number_in 0 (2 ^ 64 - 1) w)

abbrev pub and_then : Option Numbers → (Numbers → Option Numbers) → Option Numbers
and_then None f = None
and_then (Some n) f = f n

-- the numbers of the words, where each stands for its slot
abbrev pub fit : List Slot → List (List ℕ) → Numbers → Option Numbers
fit [] [] n = Some n
fit [] (w ∷ ws) n = None
fit (s ∷ ss) [] n = None
fit (s ∷ ss) (w ∷ ws) n = and_then (put s w n) (fit ss ws)

-- the call of the words by this row
abbrev pub call_by : Row → List (List ℕ) → Option Call
call_by r ws = option_map (λ n. record { command = command_of r; numbers = n }) (fit (slots_of r) ws no_numbers)

abbrev pub or_else : Option Call → Option Call → Option Call
or_else None o = o
or_else (Some c) o = Some c

-- by the first of these rows that has one
abbrev pub first_call : List Row → List (List ℕ) → Option Call
first_call [] ws = None
first_call (r ∷ rs) ws = or_else (call_by r ws) (first_call rs ws)

-- at most one of the words is `-`
abbrev pub has_one_dash : List (List ℕ) → Bool
has_one_dash ws = nat_le (count_by (λ w. bytes_eq w (codes "-")) ws) 1

-- the call of the words, where they are a row of the table
abbrev pub call_of : List (List ℕ) → Option Call
call_of ws = if has_one_dash ws then first_call rows ws else None

-- how many words name a command, before those of its files
abbrev pub names_of : Command → ℕ
names_of ToFzn = 1
names_of Show = 1

abbrev pub file_of : Call → List (List ℕ) → List ℕ
file_of c ws = slice_index_or ws (names_of c.command) []

abbrev pub solution_of : Call → List (List ℕ) → List ℕ
solution_of c ws = slice_index_or ws (names_of c.command + 1) []

-- how many files a command reads
abbrev pub files_of : Command → ℕ
files_of ToFzn = 1
files_of Show = 1
