-- How a run ends, for each of its answers, over the course of its words and what is promised of each outcome.
use Rattle.std.specs.Prelude.{◌≡◌, ◌⊎◌, ℕ, List, [], Option}
use Rattle.xf_text.specs.Outside.{Rose, Appended, AppendedFront}
use Rattle.xf_course.specs.declared.answers.Answer.{Answer}
use Rattle.xf_course.specs.declared.answers.Answer.TheVariants.{Wrote, Halted, NotWritten, NoMemory, NoCommand}
use Rattle.xf_course.specs.declared.course.Standing.{Standing}
use Rattle.xf_course.specs.declared.course.Standing.TheVariants.{Unmet}
use Rattle.xf_course.specs.Answers.{standing_status, Says}
use Rattle.xf_course.specs.Course.{Course, IsHalted, Outcome, Refuses, Denies, Owes}

-- the answer to the writing of a text: it was written; or a prefix of it, and then a call failed or memory was wanting
abbrev pub IsWrittenAs : Standing → List ℕ → ℕ → ℕ → Option (List ℕ) → Option (List ℕ) → Answer → Type 0
IsWrittenAs standing text write write' old new (Wrote s) = (s ≡ standing) × Appended old new text
IsWrittenAs standing text write write' old new NotWritten = Rose write write' × AppendedFront old new text
IsWrittenAs standing text write write' old new NoMemory = AppendedFront old new text
IsWrittenAs standing text write write' old new (Halted halt) = ⊥
IsWrittenAs standing text write write' old new NoCommand = ⊥

-- a prefix of a text that is due was written
abbrev pub IsBegun : Course → Option (List ℕ) → Option (List ℕ) → Type 0
IsBegun c old new = (standing : Standing) × (text : List ℕ) × c.comes (Owes standing text) × AppendedFront old new text

-- the text that is due so was written, and is as promised
abbrev pub IsDone : Course → (Outcome → Type 0) → Standing → Option (List ℕ) → Option (List ℕ) → Type 0
IsDone c promise standing old new = (text : List ℕ) × c.comes (Owes standing text) × promise (Owes standing text) × Appended old new text

-- the verdict is not yes: its line was said and nothing written, or the due text was written and nothing said
abbrev pub IsUnmet : Course → (Outcome → Type 0) → ℕ → ℕ → Option (List ℕ) → Option (List ℕ) → Option (List ℕ) → Option (List ℕ) → Type 0
IsUnmet c promise faults faults' said said' old new =
    ((line : List ℕ) × c.comes (Denies line) × promise (Denies line) × Says faults faults' said said' line × (new ≡ old)) ⊎ (IsDone c promise Unmet old new × Says faults faults' said said' [])

-- the text that is due was written, or a prefix of it and then a call failed or memory was wanting; or nothing was
-- written, since nothing is due
abbrev pub Ends : Course → (Outcome → Type 0) → ℕ → ℕ → ℕ → ℕ → Option (List ℕ) → Option (List ℕ) → Answer → Type 0
Ends c promise read read' write write' old new (Wrote standing) = IsDone c promise standing old new
Ends c promise read read' write write' old new (Halted halt) = IsHalted c promise read read' halt × (new ≡ old)
Ends c promise read read' write write' old new NotWritten = Rose write write' × IsBegun c old new
Ends c promise read read' write write' old new NoMemory = IsBegun c old new
Ends c promise read read' write write' old new NoCommand = new ≡ old

-- it comes to one outcome at most
abbrev pub IsSingle : (Outcome → Type 0) → Type 0
IsSingle comes = (o p : Outcome) → comes o → comes p → o ≡ p

-- the status of an outcome
abbrev pub due_status : Outcome → ℕ
due_status (Refuses which fault) = 2
due_status (Denies line) = 1
due_status (Owes standing text) = standing_status standing

-- a call that could fail did: on the files always, on what takes the text only where there is one
abbrev pub IsFailed : ℕ → ℕ → ℕ → ℕ → Outcome → Type 0
IsFailed read read' write write' (Refuses which fault) = Rose read read'
IsFailed read read' write write' (Denies line) = Rose read read'
IsFailed read read' write write' (Owes standing text) = Rose read read' ⊎ Rose write write'

-- an outcome gives its status, unless memory was wanting or a call failed that could
abbrev pub Completes : ℕ → ℕ → ℕ → ℕ → ℕ → Outcome → Type 0
Completes status read read' write write' o = ((status ≡ due_status o) ⊎ (status ≡ 5)) ⊎ IsFailed read read' write write' o
