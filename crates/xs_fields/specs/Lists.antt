-- Lists of integers (XCSP3-core: integers and the compact form `vxk`), domain texts (integers and ranges `a..b`) and
-- the sizes of an array (`[n][m]`).
use Rattle.std.specs.Prelude.{ℕ, Bool, true, ◌&&◌, nat_le, ℤ, pos, int_le, nat_abs, List, [], ◌∷◌, length, Option, None, Some, if◌then◌else◌, replicate, Result, Ok, Err}
use Rattle.std.specs.List.{flat_map}
use Rattle.std.specs.Option.{option_map}
use Rattle.xf_num.specs.Span.{Bounds}
use Rattle.xs_fields.specs.Conditions.{all_meet, judged, meets}
use Rattle.xs_fields.specs.Integers.{integer_of, is_small}
use Rattle.xs_fields.specs.Words.{is_byte, parts, words_of}
use Rattle.xs_fields.specs.declared.condition.Condition.{Condition}
use Rattle.xs_fields.specs.declared.condition.Condition.TheVariants.{Counting}
use Rattle.xs_fields.specs.declared.runs.Run.{Run}

-- copies of an integer
abbrev pub once : Option ℤ → Option Run
once None = None
once (Some v) = Some (record { value = v; times = pos 1 })

abbrev pub copies : Option ℤ → Option ℤ → Option Run
copies None k = None
copies (Some v) None = None
copies (Some v) (Some k) = if int_le (pos 1) k then Some (record { value = v; times = k }) else None

abbrev pub run_in : List (List ℕ) → Option Run
run_in [] = None
run_in (v ∷ []) = once (integer_of v)
run_in (v ∷ k ∷ []) = copies (integer_of v) (integer_of k)
run_in (v ∷ k ∷ p ∷ ps) = None

-- a word of a list of integers: an integer `v`, or `vxk` for at least one copy
abbrev pub run_of : List ℕ → Option Run
run_of word = run_in (parts (is_byte 120) word)

abbrev pub is_small_run : Run → Bool
is_small_run r = is_small r.value && is_small r.times

-- the members that a word stands for
abbrev pub members_in : Result Run Condition → List ℤ
members_in (Ok r) = replicate (nat_abs r.times) r.value
members_in (Err k) = []

abbrev pub members_of : List ℕ → List ℤ
members_of word = members_in (judged is_small_run (run_of word))

-- the list that a text denotes
abbrev pub ints_of : List ℕ → List ℤ
ints_of text = flat_map members_of (words_of text)

-- what each word of a list of integers meets
abbrev pub run_meets : List ℕ → Condition → Bool
run_meets word = meets is_small_run (run_of word)

abbrev pub int_words_meet : List ℕ → Condition → Bool
int_words_meet text = all_meet run_meets (words_of text)

-- at most so many members
abbrev pub count_meets : ℕ → ℕ → Condition → Bool
count_meets count left Counting = nat_le count left
count_meets count left k = true

-- what a list of integers meets
abbrev pub ints_meet : List ℕ → ℕ → Condition → Bool
ints_meet text left k = int_words_meet text k && count_meets (length (ints_of text)) left k

-- a range
abbrev pub range_of : Option ℤ → Option ℤ → Option Bounds
range_of None b = None
range_of (Some a) None = None
range_of (Some a) (Some b) = if int_le a b then Some (record { lo = a; hi = b }) else None

abbrev pub point : ℤ → Bounds
point v = record { lo = v; hi = v }

abbrev pub piece_in : List (List ℕ) → Option Bounds
piece_in [] = None
piece_in (v ∷ []) = option_map point (integer_of v)
piece_in (a ∷ b ∷ []) = None
piece_in (a ∷ [] ∷ b ∷ []) = range_of (integer_of a) (integer_of b)
piece_in (a ∷ (x ∷ xs) ∷ b ∷ []) = None
piece_in (a ∷ m ∷ b ∷ p ∷ ps) = None

-- a word of a domain text: an integer, or a range `a..b` with a at most b
abbrev pub piece_of : List ℕ → Option Bounds
piece_of word = piece_in (parts (is_byte 46) word)

abbrev pub has_small_ends : Bounds → Bool
has_small_ends b = is_small b.lo && is_small b.hi

abbrev pub piece_list : Result Bounds Condition → List Bounds
piece_list (Ok b) = b ∷ []
piece_list (Err k) = []

-- the range that a word stands for
abbrev pub pieces_in : List ℕ → List Bounds
pieces_in word = piece_list (judged has_small_ends (piece_of word))

-- the ranges that a text denotes, as written
abbrev pub pieces_of : List ℕ → List Bounds
pieces_of text = flat_map pieces_in (words_of text)

abbrev pub piece_meets : List ℕ → Condition → Bool
piece_meets word = meets has_small_ends (piece_of word)

-- what a domain text meets
abbrev pub pieces_meet : List ℕ → Condition → Bool
pieces_meet text = all_meet piece_meets (words_of text)
