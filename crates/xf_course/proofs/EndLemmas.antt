-- What the end of a run says of it, whatever the course.
use Rattle.std.proofs.Common.{◌≡◌, ◌⊎◌, ℕ, Option, List, refl, ap, subst, ◌∙◌, inl, inr}
use Rattle.std.specs.Prelude.{OnOk, OnErr, Result, Ok, Err}
use Rattle.xf_text.specs.declared.fault.Fault.{Fault}
use Rattle.xf_text.specs.declared.outside.Failed.{Failed}
use Rattle.xf_text.specs.Outside.{Appended, Rose}
use Rattle.xf_course.specs.declared.answers.Answer.{Answer}
use Rattle.xf_course.specs.declared.answers.Answer.TheVariants.{Wrote, Halted, NotWritten, NoMemory, NoCommand}
use Rattle.xf_course.specs.declared.course.Halt.TheVariants.{Refused, NotRead, Denied, Memory}
use Rattle.xf_course.specs.declared.course.Standing.{Standing}
use Rattle.xf_course.specs.declared.course.Standing.TheVariants.{Met, Unmet, Limited}
use Rattle.xf_words.specs.declared.call.Which.{Which}
use Rattle.xf_course.specs.Answers.{line_of, read_fault_line, refusal_line, status_of, Says}
use Rattle.xf_words.specs.Files.{pick}
use Rattle.xf_course.specs.Course.{Course, Outcome, Refuses, Denies, Owes}
use Rattle.xf_course.specs.Ends.{Completes, Ends, IsBegun, IsDone, IsSingle, IsUnmet, due_status}

-- what was told, or why not
pub says_of : (e e' : ℕ) (said said' : Option (List ℕ)) (line : List ℕ) (r : Result (Unit {0}) Failed) → OnOk r (Appended said said' line) → OnErr r (Rose e e') → Says e e' said said' line
says_of e e' said said' line (Ok u) h k = inr h
says_of e e' said said' line (Err f) h k = inl k

-- status 6 is that of words that are no command
pub six_of : (a : Answer) → status_of a ≡ 6 → a ≡ NoCommand
six_of (Wrote Met) six = cc
six_of (Wrote Unmet) six = cc
six_of (Wrote Limited) six = cc
six_of (Halted (Refused which fault)) six = cc
six_of (Halted (NotRead which)) six = cc
six_of (Halted (Denied line)) six = cc
six_of (Halted Memory) six = cc
six_of NotWritten six = cc
six_of NoMemory six = cc
six_of NoCommand six = refl

module _ (k : Course) (promise : Outcome → Type 0) (read read' write write' e e' : ℕ) (old new said said' : Option (List ℕ)) (file solution : List ℕ) where
  pub refused_of : (a : Answer) → Ends k promise read read' write write' old new a → Says e e' said said' (line_of a file solution) → status_of a ≡ 2
      → (which : Which) × (fault : Fault) × k.comes (Refuses which fault) × Says e e' said said' (refusal_line fault (pick which file solution))
  refused_of (Halted (Refused which fault)) ends says two = (which, fault, ends.0, says)
  refused_of (Halted (NotRead which)) ends says two = cc
  refused_of (Halted (Denied line)) ends says two = cc
  refused_of (Halted Memory) ends says two = cc
  refused_of (Wrote Met) ends says two = cc
  refused_of (Wrote Unmet) ends says two = cc
  refused_of (Wrote Limited) ends says two = cc
  refused_of NotWritten ends says two = cc
  refused_of NoMemory ends says two = cc
  refused_of NoCommand ends says two = cc

  pub unmet_of : (a : Answer) → Ends k promise read read' write write' old new a → Says e e' said said' (line_of a file solution) → status_of a ≡ 1 → IsUnmet k promise e e' said said' old new
  unmet_of (Halted (Denied line)) ends says one = inl (line, ends.0.0, ends.0.1, says, ends.1)
  unmet_of (Wrote Unmet) ends says one = inr (ends, says)
  unmet_of (Wrote Limited) ends says one = cc
  unmet_of (Wrote Met) ends says one = cc
  unmet_of (Halted (Refused which fault)) ends says one = cc
  unmet_of (Halted (NotRead which)) ends says one = cc
  unmet_of (Halted Memory) ends says one = cc
  unmet_of NotWritten ends says one = cc
  unmet_of NoMemory ends says one = cc
  unmet_of NoCommand ends says one = cc

  pub not_read_of : (a : Answer) → Ends k promise read read' write write' old new a → Says e e' said said' (line_of a file solution) → status_of a ≡ 3
      → Rose read read' × ((which : Which) × k.reads which × Says e e' said said' (read_fault_line (pick which file solution)))
  not_read_of (Halted (NotRead which)) ends says three = (ends.0.0, (which, ends.0.1, says))
  not_read_of (Halted (Refused which fault)) ends says three = cc
  not_read_of (Halted (Denied line)) ends says three = cc
  not_read_of (Halted Memory) ends says three = cc
  not_read_of (Wrote Met) ends says three = cc
  not_read_of (Wrote Unmet) ends says three = cc
  not_read_of (Wrote Limited) ends says three = cc
  not_read_of NotWritten ends says three = cc
  not_read_of NoMemory ends says three = cc
  not_read_of NoCommand ends says three = cc

  pub front_of : (a : Answer) → Ends k promise read read' write write' old new a → status_of a ≡ 4 → IsBegun k old new
  front_of NotWritten ends four = ends.1
  front_of (Halted (Refused which fault)) ends four = cc
  front_of (Halted (NotRead which)) ends four = cc
  front_of (Halted (Denied line)) ends four = cc
  front_of (Halted Memory) ends four = cc
  front_of (Wrote Met) ends four = cc
  front_of (Wrote Unmet) ends four = cc
  front_of (Wrote Limited) ends four = cc
  front_of NoMemory ends four = cc
  front_of NoCommand ends four = cc

  pub done_of : (a : Answer) → Ends k promise read read' write write' old new a → status_of a ≡ 0 → IsDone k promise Met old new
  done_of (Wrote Met) ends zero = ends
  done_of (Wrote Unmet) ends zero = cc
  done_of (Wrote Limited) ends zero = cc
  done_of (Halted (Refused which fault)) ends zero = cc
  done_of (Halted (NotRead which)) ends zero = cc
  done_of (Halted (Denied line)) ends zero = cc
  done_of (Halted Memory) ends zero = cc
  done_of NotWritten ends zero = cc
  done_of NoMemory ends zero = cc
  done_of NoCommand ends zero = cc

  pub limited_of : (a : Answer) → Ends k promise read read' write write' old new a → status_of a ≡ 7 → IsDone k promise Limited old new
  limited_of (Wrote Limited) ends seven = ends
  limited_of (Wrote Met) ends seven = cc
  limited_of (Wrote Unmet) ends seven = cc
  limited_of (Halted (Refused which fault)) ends seven = cc
  limited_of (Halted (NotRead which)) ends seven = cc
  limited_of (Halted (Denied line)) ends seven = cc
  limited_of (Halted Memory) ends seven = cc
  limited_of NotWritten ends seven = cc
  limited_of NoMemory ends seven = cc
  limited_of NoCommand ends seven = cc

  pub memory_of : (a : Answer) → Ends k promise read read' write write' old new a → status_of a ≡ 5 → (new ≡ old) ⊎ IsBegun k old new
  memory_of (Wrote Met) ends five = cc
  memory_of (Wrote Unmet) ends five = cc
  memory_of (Wrote Limited) ends five = cc
  memory_of (Halted (Refused which fault)) ends five = cc
  memory_of (Halted (NotRead which)) ends five = cc
  memory_of (Halted (Denied line)) ends five = cc
  memory_of (Halted Memory) ends five = inl ends.1
  memory_of NotWritten ends five = cc
  memory_of NoMemory ends five = inr ends
  memory_of NoCommand ends five = cc

  pub write_fault_of : (a : Answer) → Ends k promise read read' write write' old new a → status_of a ≡ 4 → Rose write write'
  write_fault_of (Wrote Met) ends four = cc
  write_fault_of (Wrote Unmet) ends four = cc
  write_fault_of (Wrote Limited) ends four = cc
  write_fault_of (Halted (Refused which fault)) ends four = cc
  write_fault_of (Halted (NotRead which)) ends four = cc
  write_fault_of (Halted (Denied line)) ends four = cc
  write_fault_of (Halted Memory) ends four = cc
  write_fault_of NotWritten ends four = ends.0
  write_fault_of NoMemory ends four = cc
  write_fault_of NoCommand ends four = cc

  pub refused_quiet : (a : Answer) → Ends k promise read read' write write' old new a → status_of a ≡ 2 → new ≡ old
  refused_quiet (Wrote Met) ends two = cc
  refused_quiet (Wrote Unmet) ends two = cc
  refused_quiet (Wrote Limited) ends two = cc
  refused_quiet (Halted (Refused which fault)) ends two = ends.1
  refused_quiet (Halted (NotRead which)) ends two = cc
  refused_quiet (Halted (Denied line)) ends two = cc
  refused_quiet (Halted Memory) ends two = cc
  refused_quiet NotWritten ends two = cc
  refused_quiet NoMemory ends two = cc
  refused_quiet NoCommand ends two = cc

  pub not_read_quiet : (a : Answer) → Ends k promise read read' write write' old new a → status_of a ≡ 3 → new ≡ old
  not_read_quiet (Wrote Met) ends three = cc
  not_read_quiet (Wrote Unmet) ends three = cc
  not_read_quiet (Wrote Limited) ends three = cc
  not_read_quiet (Halted (Refused which fault)) ends three = cc
  not_read_quiet (Halted (NotRead which)) ends three = ends.1
  not_read_quiet (Halted (Denied line)) ends three = cc
  not_read_quiet (Halted Memory) ends three = cc
  not_read_quiet NotWritten ends three = cc
  not_read_quiet NoMemory ends three = cc
  not_read_quiet NoCommand ends three = cc

  pub no_command_quiet : (a : Answer) → Ends k promise read read' write write' old new a → status_of a ≡ 6 → new ≡ old
  no_command_quiet (Wrote Met) ends six = cc
  no_command_quiet (Wrote Unmet) ends six = cc
  no_command_quiet (Wrote Limited) ends six = cc
  no_command_quiet (Halted (Refused which fault)) ends six = cc
  no_command_quiet (Halted (NotRead which)) ends six = cc
  no_command_quiet (Halted (Denied line)) ends six = cc
  no_command_quiet (Halted Memory) ends six = cc
  no_command_quiet NotWritten ends six = cc
  no_command_quiet NoMemory ends six = cc
  no_command_quiet NoCommand ends six = ends

  pub quiet_of : (a : Answer) → Ends k promise read read' write write' old new a → ((status_of a ≡ 2) ⊎ ((status_of a ≡ 3) ⊎ (status_of a ≡ 6))) → new ≡ old
  quiet_of a ends (inl two) = refused_quiet a ends two
  quiet_of a ends (inr (inl three)) = not_read_quiet a ends three
  quiet_of a ends (inr (inr six)) = no_command_quiet a ends six

  -- the one outcome gives its status
  module _ (single : IsSingle k.comes) where
    same : (o p : Outcome) (n : ℕ) → k.comes o → k.comes p → n ≡ due_status p → ((n ≡ due_status o) ⊎ (n ≡ 5))
    same o p n h g is = inl (is ∙ ap due_status (single p o g h))

    -- where an outcome has a text, what was written is one
    failed_write : (o p : Outcome) (standing : Standing) (text : List ℕ) → k.comes o → k.comes (Owes standing text) → Rose write write' → Completes 4 read read' write write' o
    failed_write o p standing text h g rose =
        subst (λ (q : Outcome). Completes 4 read read' write write' q) (single (Owes standing text) o g h) (inr (inr rose))

    failed_read : (o : Outcome) → Rose read read' → Completes 3 read read' write write' o
    failed_read (Refuses which fault) rose = inr rose
    failed_read (Denies line) rose = inr rose
    failed_read (Owes standing text) rose = inr (inl rose)

    pub complete_of : (a : Answer) → Ends k promise read read' write write' old new a → (a ≡ NoCommand → (p : Outcome) → k.comes p → ⊥) → (o : Outcome) → k.comes o → Completes (status_of a) read read' write write' o
    complete_of (Wrote standing) ends none o h = inl (same o (Owes standing ends.0) (status_of (Wrote standing)) h ends.1 refl)
    complete_of (Halted (Refused which fault)) ends none o h = inl (same o (Refuses which fault) 2 h ends.0 refl)
    complete_of (Halted (Denied line)) ends none o h = inl (same o (Denies line) 1 h ends.0.0 refl)
    complete_of (Halted (NotRead which)) ends none o h = failed_read o ends.0.0
    complete_of (Halted Memory) ends none o h = inl (inr refl)
    complete_of NotWritten ends none o h = failed_write o o ends.1.0 ends.1.1 h ends.1.2 ends.0
    complete_of NoMemory ends none o h = inl (inr refl)
    complete_of NoCommand ends none o h = absurd (none refl o h)
