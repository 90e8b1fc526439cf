-- Which problem an instance is: its variables, its solutions and its objective.
use Rattle.std.specs.Prelude.{◌≡◌, ℕ, ℤ, pos, List, [], ◌∷◌, map, Option, None, Some, ⊤}
use Rattle.std.specs.List.{AllByRecursion}
use Rattle.xf_num.specs.Domain.{IsMember}
use Rattle.xf_num.specs.Span.{Bounds, IsWithin}
use Rattle.xf_problem.specs.Problem.{Problem, Goal, Direction as Sense, Minimize as to_least, Maximize as to_greatest}
use Rattle.xs_model.specs.declared.instance.Constraint.{Constraint}
use Rattle.xs_model.specs.declared.instance.Constraint.TheVariants.{Intension, Extension, Unary, Regular, Mdd, AllDifferent, DifferentLists, DifferentMatrix, AllEqual, Ordered, Lex, LexMatrix, Sum, Count, NValues, Cardinality, Minimum, Maximum, Element, ElementMatrix, Channel, ChannelTwo, ChannelValue, NoOverlap, Cumulative, Circuit, Instantiation}
use Rattle.xs_model.specs.declared.instance.Direction.{Direction}
use Rattle.xs_model.specs.declared.instance.Direction.TheVariants.{Minimize, Maximize}
use Rattle.xs_model.specs.declared.instance.Body.{Body}
use Rattle.xs_model.specs.declared.instance.Body.TheVariants as body
use Rattle.xs_model.specs.declared.instance.Objective.{Objective}
use Rattle.xs_model.specs.declared.instance.Instance.{Instance}
use Rattle.xs_model.specs.declared.term.Term.{Term}
use Rattle.xs_model.specs.declared.term.Cond.{Cond}
use Rattle.xs_model.specs.declared.term.Occurrence.{Occurrence}
use Rattle.xs_model.specs.declared.term.Occurrence.TheVariants as occurrence
use Rattle.xs_model.specs.Comparing.{AreDifferentBut, AreDifferentLists, AreDifferentLines, AreEqual, IsOrdered, IsLexOrdered, IsLexMatrix}
use Rattle.xs_model.specs.Conditions.{value_of, Meets}
use Rattle.xs_model.specs.Counting.{weighted_sum, places_among, distinct_count, IsCardinality, HasMemberAt, HasCellAt, IsChannel, IsChannelOfTwo, IsChannelOfValue}
use Rattle.xs_model.specs.Language.{IsInTable, IsInSpans, IsAccepting, Spells}
use Rattle.xs_model.specs.Lists.{SomeOf}
use Rattle.xs_model.specs.Names.{words, domains}
use Rattle.xs_model.specs.Schedule.{IsNoOverlap, IsCumulative, AreEnds, IsCircuit}
use Rattle.xs_model.specs.Value.{at, val, least_of, greatest_of}

-- one value per variable, each a member of the variable's domain
abbrev pub AreMembers : List (List Bounds) → List ℤ → Type 0
AreMembers [] [] = Unit {0}
AreMembers (d ∷ ds) (x ∷ xs) = IsMember d x × AreMembers ds xs
AreMembers [] (x ∷ xs) = ⊥
AreMembers (d ∷ ds) [] = ⊥

-- the values of variables, of terms, and of rows of these, under an assignment
abbrev pub values : List ℤ → List ℕ → List ℤ
values a vs = map (at a) vs

abbrev pub term_values : List ℤ → List Term → List ℤ
term_values a ts = map (value_of a) ts

abbrev pub rows_of : List ℤ → List (List ℕ) → List (List ℤ)
rows_of a rows = map (values a) rows

abbrev pub term_rows : List ℤ → List (List Term) → List (List ℤ)
term_rows a rows = map (term_values a) rows

-- a value that occurs n times occurs as often as is said
abbrev pub OccursAs : List ℤ → Occurrence → ℕ → Type 0
OccursAs a (occurrence.Term t) n = pos n ≡ value_of a t
OccursAs a (occurrence.Span b) n = IsWithin b (pos n)

-- a member of the list meets the condition: that of the index, or with no index some member
abbrev pub HasMember : List ℤ → Option Term → ℤ → Cond → List ℤ → Type 0
HasMember a None start cond xs = SomeOf (Meets a cond) xs
HasMember a (Some i) start cond xs = HasMemberAt (Meets a cond) start (value_of a i) xs

-- where ends are given, each is its start plus its length
abbrev pub EndsAgree : List ℤ → List ℕ → List Term → Option (List ℕ) → Type 0
EndsAgree a origins lengths None = ⊤
EndsAgree a origins lengths (Some ends) = AreEnds (values a origins) (term_values a lengths) (values a ends)

-- a number of nodes is as the size says, where one is given
abbrev pub IsSizeOf : List ℤ → Option Term → ℕ → Type 0
IsSizeOf a None n = ⊤
IsSizeOf a (Some t) n = pos n ≡ value_of a t

-- when a constraint holds under an assignment (XCSP3-core, the semantics of its form)
abbrev pub Holds : Constraint → List ℤ → Type 0
Holds (Intension e) a = val a e ≡ pos 1
Holds (Extension list tuples positive) a = IsInTable positive tuples (values a list)
Holds (Unary v spans positive) a = IsInSpans positive spans (at a v)
Holds (Regular list edges start finals) a = IsAccepting edges start finals (values a list)
Holds (Mdd list edges root leaf) a = Spells edges root (values a list) leaf
Holds (AllDifferent list except) a = AreDifferentBut except (values a list)
Holds (DifferentLists lists) a = AreDifferentLists (rows_of a lists)
Holds (DifferentMatrix rows) a = AreDifferentLines (rows_of a rows)
Holds (AllEqual list) a = AreEqual (values a list)
Holds (Ordered list lengths rel) a = IsOrdered rel (term_values a lengths) (values a list)
Holds (Lex lists rel) a = IsLexOrdered rel (rows_of a lists)
Holds (LexMatrix rows rel) a = IsLexMatrix rel (rows_of a rows)
Holds (Sum list coeffs cond) a = Meets a cond (weighted_sum (term_values a coeffs) (values a list))
Holds (Count list vs cond) a = Meets a cond (pos (places_among (term_values a vs) (values a list)))
Holds (NValues list except cond) a = Meets a cond (pos (distinct_count except (values a list)))
Holds (Cardinality list vs occurs closed) a = IsCardinality (OccursAs a) closed vs occurs (values a list)
Holds (Minimum list cond) a = Meets a cond (least_of (values a list))
Holds (Maximum list cond) a = Meets a cond (greatest_of (values a list))
Holds (Element list start index cond) a = HasMember a index start cond (term_values a list)
Holds (ElementMatrix rows row_start col_start row col cond) a = HasCellAt (Meets a cond) row_start col_start (value_of a row) (value_of a col) (term_rows a rows)
Holds (Channel list start) a = IsChannel start (values a list)
Holds (ChannelTwo first s second t) a = IsChannelOfTwo s (values a first) t (values a second)
Holds (ChannelValue list start v) a = IsChannelOfValue start (value_of a v) (values a list)
Holds (NoOverlap origins lengths zero_ignored) a = IsNoOverlap zero_ignored (rows_of a origins) (term_rows a lengths)
Holds (Cumulative origins lengths heights ends cond) a =
    IsCumulative (Meets a cond) (values a origins) (term_values a lengths) (term_values a heights) × EndsAgree a origins lengths ends
Holds (Circuit list start size) a = (n : ℕ) × (IsCircuit start (values a list) n × IsSizeOf a size n)
Holds (Instantiation list vs) a = values a list ≡ vs

pub record Solves (i : Instance) (a : List ℤ) : Type 0 where
  pub members : AreMembers (domains i.decls) a
  pub hold : AllByRecursion (λ c. Holds c a) i.constraints

-- the value of what is to be least or greatest
abbrev pub body_value : Body → List ℤ → ℤ
body_value (body.Value e) a = val a e
body_value (body.Sum list coeffs) a = weighted_sum (term_values a coeffs) (values a list)
body_value (body.Least list) a = least_of (values a list)
body_value (body.Greatest list) a = greatest_of (values a list)
body_value (body.Distinct list) a = pos (distinct_count [] (values a list))

abbrev pub sense_of : Direction → Sense
sense_of Minimize = to_least
sense_of Maximize = to_greatest

abbrev pub goal_of : Option Objective → Option Goal
goal_of None = None
goal_of (Some o) = Some (record { direction = sense_of o.direction; value = body_value o.body })

abbrev pub problem_of : Instance → Problem
problem_of i = record { names = words i.decls; IsSolution = Solves i; goal = goal_of i.objective }
