-- What each command reads and what is due: one row a command.
use Rattle.std.specs.Prelude.{ℕ, List, Option}
use Rattle.fz_file.specs.Layout.{layout}
use Rattle.xf_carry.specs.Lowered.{low}
use Rattle.xf_course.specs.Course.{Course, Owes, ends_with, reading}
use Rattle.xf_course.specs.declared.course.Standing.TheVariants.{Met}
use Rattle.xf_text.specs.declared.outside.Stored.{Stored}
use Rattle.xf_words.specs.declared.call.Command.{Command}
use Rattle.xf_words.specs.declared.call.Command.TheVariants.{ToFzn, Show}
use Rattle.xf_words.specs.declared.call.Numbers.{Numbers}
use Rattle.xf_words.specs.declared.call.Which.TheVariants.{File}
use Rattle.xf_top.specs.Formats.{IsEither, IsNeither}
use Rattle.xf_top.specs.Texts.{summary}
use Rattle.xs_file.specs.Reading.{IsFaulty, Spells}

-- the format of FILE, and what is due with it: for `to-fzn` the lines of the instance's model, for `show` a
-- summary
abbrev pub course_of : Option (List Stored) → List ℕ → List ℕ → Command → Numbers → Course
course_of files file solution ToFzn n = reading files File file Spells IsFaulty (λ i. ends_with (Owes Met (layout (low i))))
course_of files file solution Show n = reading files File file IsEither IsNeither (λ e. ends_with (Owes Met (summary e)))
