-- What a word misses apart from how many members it stands for, and whether these have room.
use Rattle.std.specs.Prelude.{Bool, true, false, Option, None, Some}
use Rattle.xs_fields.specs.declared.condition.Condition.{Condition}
use Rattle.xs_fields.specs.declared.condition.Condition.TheVariants.{Known, Nesting, Spelling, Magnitude, Naming, Counting, Fitting}

abbrev pub uncounted : Option Condition → Option Condition
uncounted None = None
uncounted (Some Known) = Some Known
uncounted (Some Nesting) = Some Nesting
uncounted (Some Spelling) = Some Spelling
uncounted (Some Magnitude) = Some Magnitude
uncounted (Some Naming) = Some Naming
uncounted (Some Counting) = None
uncounted (Some Fitting) = Some Fitting

abbrev pub has_room : Option Condition → Bool
has_room None = true
has_room (Some Known) = true
has_room (Some Nesting) = true
has_room (Some Spelling) = true
has_room (Some Magnitude) = true
has_room (Some Naming) = true
has_room (Some Counting) = false
has_room (Some Fitting) = true
