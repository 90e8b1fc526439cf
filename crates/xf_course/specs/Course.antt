-- The course of a command: what it comes to with the files, and which of them it comes to read.
use Rattle.std.specs.Prelude.{◌≡◌, ◌⊎◌, ℕ, List, Option}
use Rattle.xf_text.specs.Outside.{Rose}
use Rattle.xf_text.specs.declared.fault.Fault.{Fault}
use Rattle.xf_text.specs.declared.outside.Stored.{Stored}
use Rattle.xf_words.specs.declared.call.Which.{Which}
use Rattle.xf_course.specs.declared.course.Halt.{Halt}
use Rattle.xf_course.specs.declared.course.Halt.TheVariants.{Refused, NotRead, Denied, Memory}
use Rattle.xf_course.specs.declared.course.Standing.{Standing}
use Rattle.xf_course.specs.Files.{AtFile, IsReadAs, IsRefusedAs}

-- what a command comes to: a file is refused for a fault; or the verdict is not yes and its line is said; or a text is
-- due, and how it stands with it
pub data Outcome : Type 0 where
  Refuses : (which : Which) → (fault : Fault) → Outcome
  Denies : (line : List ℕ) → Outcome
  Owes : (standing : Standing) → (text : List ℕ) → Outcome

pub record Course : Type 1 where
  pub comes : Outcome → Type 0
  pub reads : Which → Type 0

-- this outcome, and nothing more is read
abbrev pub ends_with : Outcome → Course
ends_with o = record { comes = λ p. p ≡ o; reads = λ w. ⊥ }

-- no outcome
abbrev pub nothing : Course
nothing = record { comes = λ p. ⊥; reads = λ w. ⊥ }

-- what follows on the reading of a file: it is refused, or read as a value with which it goes on
abbrev pub Reads : {X : Type 0} → Option (List Stored) → Which → List ℕ → (List ℕ → X → Type 0) → (List ℕ → Fault → Type 0) → (X → Outcome → Type 0) → Outcome → Type 0
Reads {X} files which word accepts refuses next o =
    ((fault : Fault) × AtFile files word (λ bytes. IsRefusedAs refuses bytes fault) × (o ≡ Refuses which fault)) ⊎ ((x : X) × AtFile files word (λ bytes. IsReadAs accepts bytes x) × next x o)

-- a file is read, and the course goes on with the value
abbrev pub reading : {X : Type 0} → Option (List Stored) → Which → List ℕ → (List ℕ → X → Type 0) → (List ℕ → Fault → Type 0) → (X → Course) → Course
reading {X} files which word accepts refuses next = record {
  comes = Reads files which word accepts refuses (λ x. (next x).comes);
  reads = λ w. (w ≡ which) ⊎ ((x : X) × AtFile files word (λ bytes. IsReadAs accepts bytes x) × (next x).reads w);
}

-- a file is read as a value of which this holds
abbrev pub HasRead : {X : Type 0} → Option (List Stored) → List ℕ → (List ℕ → X → Type 0) → (X → Type 0) → Type 0
HasRead {X} files word accepts P = (x : X) × AtFile files word (λ bytes. IsReadAs accepts bytes x) × P x

-- why nothing is due: the course comes to that, as it is promised; or a call on the files failed at a file that it
-- comes to read; or memory was wanting
abbrev pub IsHalted : Course → (Outcome → Type 0) → ℕ → ℕ → Halt → Type 0
IsHalted c promise read read' (Refused which fault) = c.comes (Refuses which fault)
IsHalted c promise read read' (NotRead which) = Rose read read' × c.reads which
IsHalted c promise read read' (Denied line) = c.comes (Denies line) × promise (Denies line)
IsHalted c promise read read' Memory = Unit {0}

-- why the bytes of a file are not read as a value: they are refused, or memory was wanting
abbrev pub IsUnreadText : Which → (List ℕ → Fault → Type 0) → List ℕ → Halt → Type 0
IsUnreadText which refuses bytes (Refused w fault) = (w ≡ which) × IsRefusedAs refuses bytes fault
IsUnreadText which refuses bytes (NotRead w) = ⊥
IsUnreadText which refuses bytes (Denied line) = ⊥
IsUnreadText which refuses bytes Memory = Unit {0}

-- why the file is not: the same, or a call on the files failed
abbrev pub IsUnread : Option (List Stored) → Which → List ℕ → (List ℕ → Fault → Type 0) → ℕ → ℕ → Halt → Type 0
IsUnread files which word refuses read read' (Refused w fault) = (w ≡ which) × AtFile files word (λ bytes. IsRefusedAs refuses bytes fault)
IsUnread files which word refuses read read' (NotRead w) = (w ≡ which) × Rose read read'
IsUnread files which word refuses read read' (Denied line) = ⊥
IsUnread files which word refuses read read' Memory = Unit {0}
