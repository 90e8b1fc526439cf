-- What each form asks of the lengths and the values of its fields (XCSP3-core, the syntax of its form).
use Rattle.std.specs.Prelude.{◌≡◌, ℕ, ◌+◌, ◌<◌, ◌≤◌, ◌≤ℤ◌, List, [], ◌∷◌, ◌++◌, length, Option, None, Some, ⊤, ◌⊎◌}
use Rattle.std.specs.List.{AllByRecursion, flat_map}
use Rattle.xf_num.specs.Span.{Bounds}
use Rattle.xs_model.specs.declared.instance.Constraint.{Constraint}
use Rattle.xs_model.specs.declared.instance.Constraint.TheVariants.{Intension, Extension, Unary, Regular, Mdd, AllDifferent, DifferentLists, DifferentMatrix, AllEqual, Ordered, Lex, LexMatrix, Sum, Count, NValues, Cardinality, Minimum, Maximum, Element, ElementMatrix, Channel, ChannelTwo, ChannelValue, NoOverlap, Cumulative, Circuit, Instantiation}
use Rattle.xs_model.specs.declared.instance.Edge.{Edge}
use Rattle.xs_model.specs.declared.instance.Body.{Body}
use Rattle.xs_model.specs.declared.instance.Body.TheVariants as body
use Rattle.xs_model.specs.declared.term.Cond.{Cond}
use Rattle.xs_model.specs.declared.term.Cond.TheVariants.{Lt, Le, InSpan, OutSpan}
use Rattle.xs_model.specs.declared.term.Occurrence.{Occurrence}
use Rattle.xs_model.specs.declared.term.Occurrence.TheVariants as occurrence
use Rattle.xs_model.specs.Comparing.{AreDifferent}
use Rattle.xs_model.specs.Lists.{SomeOf, width}

abbrev pub IsNotEmpty : {X : Type 0} → List X → Type 0
IsNotEmpty xs = 0 < length xs

-- each list is so long
abbrev pub HaveLength : {X : Type 0} → ℕ → List (List X) → Type 0
HaveLength n lists = AllByRecursion (λ xs. length xs ≡ n) lists

-- two or more lists of one length
pub record AreEvenLists {X : Type 0} (lists : List (List X)) : Type 0 where
  pub two : 2 ≤ length lists
  pub even : HaveLength (width lists) lists

-- rows of one length, each with at least one member
pub record IsMatrix {X : Type 0} (rows : List (List X)) : Type 0 where
  pub even : HaveLength (width rows) rows
  pub filled : AllByRecursion IsNotEmpty rows

abbrev pub IsRange : Bounds → Type 0
IsRange b = b.lo ≤ℤ b.hi

abbrev pub IsCond : Cond → Type 0
IsCond (InSpan b) = IsRange b
IsCond (OutSpan b) = IsRange b
IsCond cond = ⊤

-- a condition that a load may be asked to meet
abbrev pub IsLimit : Cond → Type 0
IsLimit (Lt t) = ⊤
IsLimit (Le t) = ⊤
IsLimit cond = ⊥

abbrev pub IsOccurrence : Occurrence → Type 0
IsOccurrence (occurrence.Term t) = ⊤
IsOccurrence (occurrence.Span b) = IsRange b

-- the states in the order in which they are mentioned
abbrev pub ends_of : List Edge → List ℕ
ends_of edges = flat_map (λ e. e.from ∷ e.to ∷ []) edges

-- states are numbered from n on in the order of their first mention
abbrev pub AreNumberedFrom : ℕ → List ℕ → Type 0
AreNumberedFrom n [] = ⊤
AreNumberedFrom n (q ∷ qs) = ((q < n) × AreNumberedFrom n qs) ⊎ ((q ≡ n) × AreNumberedFrom (n + 1) qs)

abbrev pub IsSource : List Edge → ℕ → Type 0
IsSource edges q = SomeOf (λ e. e.from ≡ q) edges

abbrev pub IsTarget : List Edge → ℕ → Type 0
IsTarget edges q = SomeOf (λ e. e.to ≡ q) edges

-- q is the one state that is as P says
pub record IsOnly (edges : List Edge) (P : ℕ → Type 0) (q : ℕ) : Type 0 where
  pub state : SomeOf (λ p. p ≡ q) (ends_of edges)
  pub is : P q
  pub only : AllByRecursion (λ p. P p → p ≡ q) (ends_of edges)

-- ends, where they are given, are as many as tasks
abbrev pub AreAsMany : {X : Type 0} → ℕ → Option (List X) → Type 0
AreAsMany n None = ⊤
AreAsMany n (Some xs) = length xs ≡ n

-- boxes of one number of dimensions
pub record AreBoxes {X Y : Type 0} (origins : List (List X)) (lengths : List (List Y)) : Type 0 where
  pub of_origins : IsMatrix origins
  pub of_lengths : IsMatrix lengths
  pub as_many : length lengths ≡ length origins
  pub as_wide : width lengths ≡ width origins

-- what a form asks beside its fields
abbrev pub IsFitting : Constraint → Type 0
IsFitting (Intension e) = ⊤
IsFitting (Extension list tuples positive) = IsNotEmpty list × HaveLength (length list) tuples × (length list ≡ 1 → IsNotEmpty tuples)
IsFitting (Unary v spans positive) = AllByRecursion IsRange spans
IsFitting (Regular list edges start finals) = IsNotEmpty list × AreNumberedFrom 0 (ends_of edges ++ start ∷ finals)
IsFitting (Mdd list edges root leaf) = AreNumberedFrom 0 (ends_of edges) × IsOnly edges (λ q. ¬ (IsTarget edges q)) root × IsOnly edges (λ q. ¬ (IsSource edges q)) leaf
IsFitting (AllDifferent list except) = ⊤
IsFitting (DifferentLists lists) = AreEvenLists lists
IsFitting (DifferentMatrix rows) = IsMatrix rows
IsFitting (AllEqual list) = ⊤
IsFitting (Ordered list lengths rel) = (lengths ≡ []) ⊎ (length lengths + 1 ≡ length list)
IsFitting (Lex lists rel) = AreEvenLists lists
IsFitting (LexMatrix rows rel) = IsMatrix rows
IsFitting (Sum list coeffs cond) = (length coeffs ≡ length list) × IsCond cond
IsFitting (Count list vs cond) = IsNotEmpty vs × IsCond cond
IsFitting (NValues list except cond) = IsCond cond
IsFitting (Cardinality list vs occurs closed) = (length occurs ≡ length vs) × AreDifferent vs × AllByRecursion IsOccurrence occurs
IsFitting (Minimum list cond) = IsNotEmpty list × IsCond cond
IsFitting (Maximum list cond) = IsNotEmpty list × IsCond cond
IsFitting (Element list start index cond) = IsCond cond
IsFitting (ElementMatrix rows row_start col_start row col cond) = IsNotEmpty rows × IsMatrix rows × IsCond cond
IsFitting (Channel list start) = ⊤
IsFitting (ChannelTwo first s second t) = length first ≤ length second
IsFitting (ChannelValue list start v) = ⊤
IsFitting (NoOverlap origins lengths zero_ignored) = AreBoxes origins lengths
IsFitting (Cumulative origins lengths heights ends cond) = (length lengths ≡ length origins) × (length heights ≡ length origins) × AreAsMany (length origins) ends × IsLimit cond
IsFitting (Circuit list start size) = ⊤
IsFitting (Instantiation list vs) = length vs ≡ length list

abbrev pub IsFittingBody : Body → Type 0
IsFittingBody (body.Value e) = ⊤
IsFittingBody (body.Sum list coeffs) = length coeffs ≡ length list
IsFittingBody (body.Least list) = IsNotEmpty list
IsFittingBody (body.Greatest list) = IsNotEmpty list
IsFittingBody (body.Distinct list) = ⊤
