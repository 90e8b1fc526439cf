-- The course of the words, and what is promised of it.
use Rattle.std.specs.Prelude.{ℕ, List, Option, Some, None}
use Rattle.xf_course.specs.Course.{Course, Outcome, nothing}
use Rattle.xf_text.specs.declared.outside.Stored.{Stored}
use Rattle.xf_words.specs.declared.call.Call.{Call}
use Rattle.xf_words.specs.Words.{call_of, file_of, solution_of}
use Rattle.xf_top.specs.Commands.{course_of}
use Rattle.xf_top.specs.Promises.{promise_of}

-- the course of a call; without one nothing comes
abbrev pub course_by : Option (List Stored) → Option Call → List (List ℕ) → Course
course_by files None ws = nothing
course_by files (Some c) ws = course_of files (file_of c ws) (solution_of c ws) c.command c.numbers

abbrev pub course : Option (List Stored) → List (List ℕ) → Course
course files ws = course_by files (call_of ws) ws

-- what is promised of a call; without one nothing is due
abbrev pub promise_by : Option (List Stored) → Option Call → List (List ℕ) → Outcome → Type 0
promise_by files None ws = λ o. ⊥
promise_by files (Some c) ws = promise_of files (file_of c ws) (solution_of c ws) c.command c.numbers

abbrev pub promise : Option (List Stored) → List (List ℕ) → Outcome → Type 0
promise files ws = promise_by files (call_of ws) ws
