-- The texts that are due, and how they are decided and written.
use Rattle.std.specs.Prelude.{ℕ, List, Option, Result, Ok, Err}
use Rattle.fz_file.specs.Layout.{layout}
use Rattle.lo_base.specs.declared.emit.EmitStop.{EmitStop}
use Rattle.lo_base.specs.declared.emit.EmitStop.TheVariants.{Failed, Memory}
use Rattle.xf_carry.specs.Lowered.{low}
use Rattle.xf_course.specs.Course.{Course, IsHalted, Outcome, Owes}
use Rattle.xf_course.specs.declared.course.Halt.{Halt}
use Rattle.xf_text.specs.Outside.{Appended, AppendedFront, Rose}
use Rattle.xf_top.specs.declared.due.Decided.{Decided}
use Rattle.xf_top.specs.declared.due.Due.{Due}
use Rattle.xf_top.specs.declared.due.Due.TheVariants.{Text, Lowered}
use Rattle.xf_show.specs.Summary.{instance_summary, model_summary}
use Rattle.xf_top.specs.declared.formats.Either.{Either}
use Rattle.xf_top.specs.declared.formats.Either.TheVariants.{Markup, Flat}
use Rattle.xs_model.specs.Accepted.{IsAccepted}

-- the summary of a file
abbrev pub summary : Either → List ℕ
summary (Markup i) = instance_summary i
summary (Flat m) = model_summary m

-- the text of what it is made of
abbrev pub text_of : Due → List ℕ
text_of (Text bytes) = bytes
text_of (Lowered i) = layout (low i)

-- what it is made of may be written
abbrev pub IsWritable : Due → Type 0
IsWritable (Text bytes) = Unit {0}
IsWritable (Lowered i) = IsAccepted i

-- what a command was decided to come to: a text that is due, as it is promised, and may be written; or why nothing is
abbrev pub IsDecided : Course → (Outcome → Type 0) → ℕ → ℕ → Result Decided Halt → Type 0
IsDecided c promise read read' (Ok d) = c.comes (Owes d.standing (text_of d.due)) × promise (Owes d.standing (text_of d.due)) × IsWritable d.due
IsDecided c promise read read' (Err halt) = IsHalted c promise read read' halt

-- a text was written; or a prefix of it, and then a call failed or memory was wanting
abbrev pub IsWritten : List ℕ → ℕ → ℕ → Option (List ℕ) → Option (List ℕ) → Result (Unit {0}) EmitStop → Type 0
IsWritten text write write' old new (Ok u) = Appended old new text
IsWritten text write write' old new (Err Failed) = Rose write write' × AppendedFront old new text
IsWritten text write write' old new (Err Memory) = AppendedFront old new text
