-- The numbers of the kinds of fault.
use Rattle.std.specs.Prelude.{ℕ}
use Rattle.xf_text.specs.declared.fault.Kind.{Kind}
use Rattle.xf_text.specs.declared.fault.Kind.TheVariants.{Long, Syntax, Unknown, Shape, Name, Many, Depth, Logic, Division, Range, Unbounded, Kinds, Missing, Repeat, NoAnswer}

-- the number after the F
abbrev pub number_of : Kind → ℕ
number_of Long = 1
number_of Syntax = 2
number_of Unknown = 3
number_of Shape = 4
number_of Name = 5
number_of Many = 6
number_of Depth = 7
number_of Logic = 8
number_of Division = 9
number_of Range = 10
number_of Unbounded = 11
number_of Kinds = 12
number_of Missing = 13
number_of Repeat = 14
number_of NoAnswer = 15
