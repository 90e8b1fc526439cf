-- The answers of a run: the status of each, and the line that it writes.
use Rattle.std.specs.Prelude.{◌⊎◌, ℕ, List, [], ◌++◌, codes, Option}
use Rattle.std.specs.Fmt.{decimal}
use Rattle.xf_text.specs.Fault.{number_of}
use Rattle.xf_text.specs.Outside.{Rose, Appended}
use Rattle.xf_text.specs.declared.fault.Fault.{Fault}
use Rattle.xf_course.specs.declared.answers.Answer.{Answer}
use Rattle.xf_course.specs.declared.answers.Answer.TheVariants.{Wrote, Halted, NotWritten, NoMemory, NoCommand}
use Rattle.xf_course.specs.declared.course.Halt.{Halt}
use Rattle.xf_course.specs.declared.course.Halt.TheVariants.{Refused, NotRead, Denied, Memory}
use Rattle.xf_course.specs.declared.course.Standing.{Standing}
use Rattle.xf_course.specs.declared.course.Standing.TheVariants.{Met, Unmet, Limited}
use Rattle.xf_words.specs.Files.{pick}

abbrev pub standing_status : Standing → ℕ
standing_status Met = 0
standing_status Unmet = 1
standing_status Limited = 7

abbrev pub halt_status : Halt → ℕ
halt_status (Denied line) = 1
halt_status (Refused which fault) = 2
halt_status (NotRead which) = 3
halt_status Memory = 5

abbrev pub status_of : Answer → ℕ
status_of (Wrote standing) = standing_status standing
status_of (Halted halt) = halt_status halt
status_of NotWritten = 4
status_of NoMemory = 5
status_of NoCommand = 6

abbrev pub refusal_line : Fault → List ℕ → List ℕ
refusal_line fault word = codes "refused F" ++ (decimal (number_of fault.kind) ++ (codes " at " ++ (decimal fault.place ++ (codes " in " ++ (word ++ codes "\n")))))

abbrev pub read_fault_line : List ℕ → List ℕ
read_fault_line word = codes "read fault in " ++ (word ++ codes "\n")

abbrev pub halt_line : Halt → List ℕ → List ℕ → List ℕ
halt_line (Denied line) file solution = line
halt_line (Refused which fault) file solution = refusal_line fault (pick which file solution)
halt_line (NotRead which) file solution = read_fault_line (pick which file solution)
halt_line Memory file solution = codes "want of memory\n"

-- the line of an answer to these words of files
abbrev pub line_of : Answer → List ℕ → List ℕ → List ℕ
line_of (Wrote standing) file solution = []
line_of (Halted halt) file solution = halt_line halt file solution
line_of NotWritten file solution = codes "write fault\n"
line_of NoMemory file solution = codes "want of memory\n"
line_of NoCommand file solution = codes "words refused\n"

-- where no call failed, exactly this line was appended
abbrev pub Says : ℕ → ℕ → Option (List ℕ) → Option (List ℕ) → List ℕ → Type 0
Says faults faults' old new line = Rose faults faults' ⊎ Appended old new line
