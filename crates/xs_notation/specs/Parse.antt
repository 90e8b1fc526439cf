-- How an expression is read from its tokens, one token after the other.
use Rattle.std.specs.Prelude.{ℕ, List, [], ◌∷◌, ◌++◌, codes, Option, None, Some, if◌then◌else◌}
use Rattle.std.specs.Str.{bytes_eq}
use Rattle.xs_expr.specs.Operators.{by_name}
use Rattle.xs_model.specs.declared.expr.Op.{Op}
use Rattle.xs_notation.specs.declared.growing.Frame.{Frame}
use Rattle.xs_notation.specs.declared.growing.Growing.{Growing}
use Rattle.xs_notation.specs.declared.raw.Raw.{Raw, Word, Call, out-Raw}
use Rattle.xs_notation.specs.declared.raw.Raw.TheOpen.{Raw-F}

-- the open calls, and the operand behind which a mark is awaited
abbrev pub state : List Frame → Option Raw → Growing
state frames current = record { frames = frames; current = current }

abbrev pub frame : Op → List Raw → Frame
frame op before = record { op = op; before = before }

-- nothing is read yet
abbrev pub begin : Growing
begin = state [] None

-- `(`: the word before it opens a call, where it is the name of an operator
abbrev pub opened_on : List Frame → Option Op → Option Growing
opened_on fs None = None
opened_on fs (Some op) = Some (state (frame op [] ∷ fs) None)

abbrev pub opened_behind : List Frame → Raw-F Raw → Option Growing
opened_behind fs (Raw-F.Word w) = opened_on fs (by_name w)
opened_behind fs (Raw-F.Call op rs) = None

abbrev pub opened : List Frame → Option Raw → Option Growing
opened fs None = None
opened fs (Some r) = opened_behind fs (out-Raw r)

-- `,`: an operand ends that is not the last
abbrev pub parted : List Frame → Option Raw → Option Growing
parted [] current = None
parted (f ∷ fs) None = None
parted (f ∷ fs) (Some r) = Some (state (frame f.op (f.before ++ r ∷ []) ∷ fs) None)

-- `)`: the last operand ends, where there is one, and the call; no comma stands before it
abbrev pub closed_empty : List Frame → Op → List Raw → Option Growing
closed_empty fs op [] = Some (state fs (Some (Call op [])))
closed_empty fs op (r ∷ rs) = None

abbrev pub closed : List Frame → Option Raw → Option Growing
closed [] current = None
closed (f ∷ fs) None = closed_empty fs f.op f.before
closed (f ∷ fs) (Some r) = Some (state fs (Some (Call f.op (f.before ++ r ∷ []))))

-- a word is an operand, where one is awaited
abbrev pub placed : List ℕ → List Frame → Option Raw → Option Growing
placed w fs None = Some (state fs (Some (Word w)))
placed w fs (Some r) = None

-- the empty word is none
abbrev pub worded : List ℕ → List Frame → Option Raw → Option Growing
worded [] fs current = None
worded (b ∷ bs) fs current = placed (b ∷ bs) fs current

-- with one token more; none where it does not fit
abbrev pub step : List ℕ → Growing → Option Growing
step t s =
    if bytes_eq t (codes "(") then opened s.frames s.current
    else if bytes_eq t (codes ")") then closed s.frames s.current
    else if bytes_eq t (codes ",") then parted s.frames s.current
    else worded t s.frames s.current

abbrev pub step_on : List ℕ → Option Growing → Option Growing
step_on t None = None
step_on t (Some s) = step t s

-- with these tokens
abbrev pub run : Option Growing → List (List ℕ) → Option Growing
run s [] = s
run s (t ∷ ts) = run (step_on t s) ts

-- what was read, where no call is open
abbrev pub finished : List Frame → Option Raw → Option Raw
finished [] current = current
finished (f ∷ fs) current = None

abbrev pub finished_on : Option Growing → Option Raw
finished_on None = None
finished_on (Some s) = finished s.frames s.current

-- the expression that the tokens spell
abbrev pub parse : List (List ℕ) → Option Raw
parse ts = finished_on (run (Some begin) ts)
