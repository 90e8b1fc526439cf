-- What a tree that is being read has come to.
use Rattle.std.specs.Prelude.{◌≡◌, ◌⊎◌, ℕ, ◌≤◌, ◌<◌, Bool, true, false, List, [], ◌∷◌, ◌++◌, map, Option, None, Some, Result, Ok, Err, drop, ⊤}
use Rattle.std.specs.Str.{bytes_eq}
use Rattle.xf_markup.specs.declared.tree.Node.{Node}
use Rattle.xf_markup.specs.declared.tree.Piece.{Piece}
use Rattle.xf_markup.specs.declared.growing.Frame.{Frame}
use Rattle.xf_markup.specs.declared.growing.Growing.{Growing}
use Rattle.xf_text.specs.declared.fault.Kind.TheVariants.{Syntax, Depth}
use Rattle.xf_text.specs.declared.fault.Stop.{Stop}
use Rattle.xf_text.specs.declared.fault.Stop.TheVariants.{Memory, Refused}
use Rattle.xf_markup.specs.Tokens.{Token}
use Rattle.xf_markup.specs.Marks.{Mark, Opened, flat, flat_pieces, said, Shown, nothing, shown, add}
use Rattle.xf_markup.specs.Reading.{State, levels, fits, Read}

-- the marks from the first open element on
abbrev pub open_marks : List Frame → List Piece → List Mark
open_marks [] pieces = []
open_marks (f ∷ fs) pieces = open_marks fs f.before ++ Opened f.place f.name f.attrs ∷ flat_pieces pieces

abbrev pub root_marks : Option Node → List Mark
root_marks None = []
root_marks (Some n) = flat n

abbrev pub marks_of : Growing → List Mark
marks_of g = said g.lead ++ (root_marks g.root ++ open_marks g.outer g.pieces)

abbrev pub shown_of : Growing → Shown
shown_of g = record { marks = marks_of g; words = g.words }

-- the same where the frame is the innermost open element
abbrev pub within : Frame → Growing → Shown
within f g = record { marks = said g.lead ++ open_marks (f ∷ g.outer) g.pieces; words = g.words }

abbrev pub names_of : Growing → List (List ℕ)
names_of g = map (λ f. f.name) g.outer

abbrev pub begun_of : Option Node → List Frame → Bool
begun_of (Some n) fs = true
begun_of None [] = false
begun_of None (f ∷ fs) = true

-- an element may be opened
abbrev pub is_free : Option Node → List Frame → Bool
is_free root (f ∷ fs) = true
is_free None [] = true
is_free (Some n) [] = false

-- the innermost open element has the name
abbrev pub is_innermost : List ℕ → List Frame → Bool
is_innermost name [] = false
is_innermost name (f ∷ fs) = bytes_eq name f.name

-- the answer at the end of a text
abbrev pub finished : ℕ → Option Node → Result Node Stop
finished place (Some n) = Ok n
finished place None = Err (Refused (record { kind = Syntax; place = place }))

-- nothing stands in lead before the element, and there is no whole element while one is open
abbrev pub IsSound : Growing → List Frame → Type 0
IsSound g [] = g.root ≡ None → g.lead ≡ []
IsSound g (f ∷ fs) = g.root ≡ None

-- what is read so far stands for the state
pub record Matches (g : Growing) (s : State) : Type 0 where
  pub names : s.open_names ≡ names_of g
  pub begun : s.begun ≡ begun_of g.root g.outer
  pub sound : IsSound g g.outer

-- the token fits, and what is read so far went on by it
pub record Went (old new : Growing) (s : State) (t : Token) : Type 0 where
  pub next : State
  pub fit : fits s t ≡ Some next
  pub shallow : next.deepest ≤ levels
  pub matches : Matches new next
  pub shown : shown_of new ≡ add (shown_of old) t

pub record WentTooDeep (s : State) (t : Token) : Type 0 where
  pub next : State
  pub fit : fits s t ≡ Some next
  pub deep : levels < next.deepest

-- what taking the token at place answers
abbrev pub Takes : {X : Type 0} → Growing → Growing → State → ℕ → Token → Result X Stop → Type 0
Takes old new s place t (Ok _) = Went old new s t
Takes old new s place t (Err Memory) = ⊤
Takes old new s place t (Err (Refused f)) = (f.place ≡ place) × (((f.kind ≡ Syntax) × (fits s t ≡ None)) ⊎ ((f.kind ≡ Depth) × WentTooDeep s t))

-- a state that g stands for, with no more than 200 levels so far
pub record Stands (g : Growing) (s : State) : Type 0 where
  pub matches : Matches g s
  pub shallow : s.deepest ≤ levels

-- the first bytes of the text are tokens that fit, and g is what they come to
pub record SoFar (text : List ℕ) (at : ℕ) (g : Growing) : Type 0 where
  pub tokens : List Token
  pub end : State
  pub read : Read text tokens end (drop at text)
  pub matches : Matches g end
  pub shown : shown nothing tokens ≡ shown_of g
