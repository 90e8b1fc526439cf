-- Which tokens fit, the tree of a text (XML 1.0, sections 2.1 "Well-formed documents" and 3.1), and the place of a
-- fault.
use Rattle.std.specs.Prelude.{◌≡◌, ◌⊎◌, ℕ, ◌+◌, ◌-◌, ◌≤◌, ◌<◌, max, ◌==◌, Bool, true, false, ◌||◌, not, List, [], ◌∷◌, ◌++◌, length, drop, Option, None, Some, if◌then◌else◌, Result, Ok, Err}
use Rattle.std.specs.List.{list_all}
use Rattle.std.specs.Str.{bytes_eq}
use Rattle.xf_markup.specs.declared.tree.Node.{Node}
use Rattle.xf_markup.specs.declared.cut.Cut.{Cut}
use Rattle.xf_text.specs.declared.fault.Kind.{Kind}
use Rattle.xf_text.specs.declared.fault.Kind.TheVariants.{Syntax, Depth}
use Rattle.xf_text.specs.declared.fault.Fault.{Fault}
use Rattle.xf_text.specs.declared.fault.Stop.{Stop}
use Rattle.xf_text.specs.declared.fault.Stop.TheVariants.{Memory, Refused}
use Rattle.xf_markup.specs.Depth.{depth}
use Rattle.xf_markup.specs.Head.{head_at}
use Rattle.xf_markup.specs.Tag.{are_distinct}
use Rattle.xf_markup.specs.Tokens.{Token, Opens, Closes, Remark, Says, cut_at, token, size}
use Rattle.xf_markup.specs.Marks.{flat, said, nothing, shown}

abbrev pub levels : ℕ
levels = 200

-- the names of the open elements, innermost first; whether an element was opened; how many were open at most
pub record State : Type 0 where
  pub open_names : List (List ℕ)
  pub begun : Bool
  pub deepest : ℕ

abbrev pub start : State
start = record { open_names = []; begun = false; deepest = 0 }

abbrev pub opened : List ℕ → Bool → State → State
opened name is_empty s = record { open_names = if is_empty then s.open_names else name ∷ s.open_names; begun = true; deepest = max s.deepest (length s.open_names + 1) }

abbrev pub is_space : ℕ → Bool
is_space b = b == 32 || b == 9 || b == 10 || b == 13

-- outside the element a token fits where it is the first element, a comment or whitespace
abbrev pub fits_outside : State → Token → Option State
fits_outside s (Opens place name attrs is_empty) = if s.begun || not (are_distinct attrs) then None else Some (opened name is_empty s)
fits_outside s (Closes name) = None
fits_outside s Remark = Some s
fits_outside s (Says words) = if list_all is_space words then Some s else None

-- within an element a token fits but for an end tag of another name
abbrev pub fits_within : List ℕ → List (List ℕ) → State → Token → Option State
fits_within inner outer s (Opens place name attrs is_empty) = if not (are_distinct attrs) then None else Some (opened name is_empty s)
fits_within inner outer s (Closes name) = if bytes_eq name inner then Some (record { open_names = outer; begun = s.begun; deepest = s.deepest }) else None
fits_within inner outer s Remark = Some s
fits_within inner outer s (Says words) = Some s

abbrev pub fits_at : List (List ℕ) → State → Token → Option State
fits_at [] s t = fits_outside s t
fits_at (inner ∷ outer) s t = fits_within inner outer s t

abbrev pub fits : State → Token → Option State
fits s t = fits_at s.open_names s t

-- a token, with the state and the bytes behind it
pub record Next : Type 0 where
  pub token : Token
  pub state : State
  pub rest : List ℕ

abbrev pub fitting : Token → List ℕ → Option State → Option Next
fitting t rest None = None
fitting t rest (Some s) = Some (record { token = t; state = s; rest = rest })

abbrev pub next_cut : State → ℕ → List ℕ → Option Cut → Option Next
next_cut s place bytes None = None
next_cut s place bytes (Some c) = fitting (token place bytes c) (drop (size c) bytes) (fits s (token place bytes c))

-- the token that is cut from all the bytes that are left, where it fits; total is the length of the file
abbrev pub next : ℕ → State → List ℕ → Option Next
next total s bytes = next_cut s (total - length bytes) bytes (cut_at bytes)

-- the bytes begin with these tokens, each of which fits after those before it
abbrev pub Reads : ℕ → State → List ℕ → List Token → State → List ℕ → Type 0
Reads total s bytes [] end rest = (s ≡ end) × (bytes ≡ rest)
Reads total s bytes (t ∷ ts) end rest = (mid : State) × (more : List ℕ) × (next total s bytes ≡ Some (record { token = t; state = mid; rest = more })) × Reads total mid more ts end rest

-- behind the byte order mark and the declaration the text begins with these tokens, after which end and rest are left
abbrev pub Begins : List ℕ → List Token → State → List ℕ → Type 0
Begins text tokens end rest = Reads (length text) start (drop (head_at text) text) tokens end rest

-- and no more than 200 elements are open at any of them
pub record Read (text : List ℕ) (tokens : List Token) (end : State) (rest : List ℕ) : Type 0 where
  pub reads : Begins text tokens end rest
  pub shallow : end.deepest ≤ levels

-- the tokens are all of the text, and the first element is closed
abbrev pub IsWhole : State → List ℕ → Type 0
IsWhole end rest = (rest ≡ []) × (end.open_names ≡ []) × (end.begun ≡ true)

-- the tree of a text: its marks are those of the text's tokens, behind what stands before the element
pub record Tree (n : Node) (text : List ℕ) : Type 0 where
  pub tokens : List Token
  pub end : State
  pub rest : List ℕ
  pub before : List ℕ
  pub reads : Begins text tokens end rest
  pub whole : IsWhole end rest
  pub marks : (shown nothing tokens).marks ≡ said before ++ flat n

-- the bytes before place are tokens that fit, and no token that fits stands there, nor is the text whole there
pub record IsUnread (place : ℕ) (text : List ℕ) : Type 0 where
  pub tokens : List Token
  pub end : State
  pub rest : List ℕ
  pub read : Read text tokens end rest
  pub at : place + length rest ≡ length text
  pub stuck : next (length text) end rest ≡ None
  pub unclosed : IsWhole end rest → ⊥

-- the tokens before place fit and open no more than 200 levels, and that at place fits and opens one more
pub record IsTooDeep (place : ℕ) (text : List ℕ) : Type 0 where
  pub tokens : List Token
  pub end : State
  pub rest : List ℕ
  pub read : Read text tokens end rest
  pub at : place + length rest ≡ length text
  pub beyond : Next
  pub is_next : next (length text) end rest ≡ Some beyond
  pub deep : levels < beyond.state.deepest

-- the answer is this tree, this fault, or want of memory
abbrev pub IsTree : Node → Result Node Stop → Type 0
IsTree n (Ok m) = m ≡ n
IsTree n (Err Memory) = Unit {0}
IsTree n (Err (Refused f)) = ⊥

abbrev pub IsFaultOf : Kind → ℕ → Result Node Stop → Type 0
IsFaultOf k place (Ok m) = ⊥
IsFaultOf k place (Err Memory) = Unit {0}
IsFaultOf k place (Err (Refused f)) = f ≡ record { kind = k; place = place }

-- the tree of a text, where it has no more than 200 levels
abbrev pub ShallowTree : Node → List ℕ → Type 0
ShallowTree n text = Tree n text × (depth n ≤ levels)

-- the fault of a text
abbrev pub IsFault : Fault → List ℕ → Type 0
IsFault f text = ((f.kind ≡ Syntax) × IsUnread f.place text) ⊎ ((f.kind ≡ Depth) × IsTooDeep f.place text)

-- what reading a text may answer
abbrev pub Answers : Result Node Stop → List ℕ → Type 0
Answers (Ok n) text = ShallowTree n text
Answers (Err Memory) text = Unit {0}
Answers (Err (Refused f)) text = IsFault f text
