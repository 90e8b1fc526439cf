-- Each command comes to one outcome at most: one row a format, and one row a command.
use Rattle.std.proofs.Common.{◌≡◌, ℕ, true, false, Option, Some, None, List, ap, subst, sym, ◌∙◌, inl, inr}
use Rattle.std.specs.Prelude.{IsSome}
use Rattle.fz_read.specs.Reading as fz
use Rattle.xf_course.specs.Course.{Outcome}
use Rattle.xf_course.specs.Ends.{IsSingle}
use Rattle.xf_course.specs.Files.{IsOne}
use Rattle.xf_course.proofs.CourseLemmas.{single_end, single_reading}
use Rattle.xf_text.specs.declared.fault.Fault.{Fault}
use Rattle.xf_text.specs.declared.outside.Stored.{Stored}
use Rattle.xf_words.specs.declared.call.Call.{Call}
use Rattle.xf_words.specs.declared.call.Command.{Command}
use Rattle.xf_words.specs.declared.call.Command.TheVariants.{ToFzn, Show}
use Rattle.xf_words.specs.declared.call.Numbers.{Numbers}
use Rattle.xf_words.specs.declared.call.Which.TheVariants.{File}
use Rattle.xf_words.specs.Words.{file_of, solution_of}
use Rattle.xs_file.specs.Reading.{IsFaulty, OneReading, Spells}
use Rattle.xf_top.specs.Commands.{course_of}
use Rattle.xf_top.specs.Formats.{IsEither, IsNeither}
use Rattle.xf_top.specs.declared.formats.Either.{Either}
use Rattle.xf_top.specs.declared.formats.Either.TheVariants.{Markup, Flat}
use Rattle.xf_top.specs.Runs.{course_by}

-- the laws of the formats
pub record Laws : Type 0 where
  pub instances : OneReading
  pub models : fz.OneReading

module _ (laws : Laws) where
  one_instance : IsOne Spells IsFaulty
  one_instance = record { values = laws.instances.instances; faults = laws.instances.faults; apart = laws.instances.apart }

  either_values : (bytes : List ℕ) (x y : Either) → IsEither bytes x → IsEither bytes y → x ≡ y
  either_values bytes (Markup i) (Markup j) h k = ap Markup (laws.instances.instances bytes i j h.1 k.1)
  either_values bytes (Markup i) (Flat m) h k = let e : true ≡ false = sym h.0 ∙ k.0 in cc
  either_values bytes (Flat m) (Markup i) h k = let e : true ≡ false = sym k.0 ∙ h.0 in cc
  either_values bytes (Flat m) (Flat n) h k = ap Flat (laws.models.models None bytes m n h.1 k.1)

  either_faults : (bytes : List ℕ) (f g : Fault) → IsNeither bytes f → IsNeither bytes g → f ≡ g
  either_faults bytes f g (inl h) (inl k) = laws.instances.faults bytes f g h.1 k.1
  either_faults bytes f g (inl h) (inr k) = let e : true ≡ false = sym h.0 ∙ k.0 in cc
  either_faults bytes f g (inr h) (inl k) = let e : true ≡ false = sym k.0 ∙ h.0 in cc
  either_faults bytes f g (inr h) (inr k) = laws.models.faults None bytes f g h.1 k.1

  either_apart : (bytes : List ℕ) (x : Either) (f : Fault) → IsEither bytes x → IsNeither bytes f → ⊥
  either_apart bytes (Markup i) f h (inl k) = laws.instances.apart bytes i f h.1 k.1
  either_apart bytes (Markup i) f h (inr k) = let e : true ≡ false = sym h.0 ∙ k.0 in cc
  either_apart bytes (Flat m) f h (inl k) = let e : true ≡ false = sym k.0 ∙ h.0 in cc
  either_apart bytes (Flat m) f h (inr k) = laws.models.apart None bytes m f h.1 k.1

  one_either : IsOne IsEither IsNeither
  one_either = record { values = either_values; faults = either_faults; apart = either_apart }

  single_row : (files : List Stored) (file solution : List ℕ) (command : Command) (n : Numbers) → IsSingle (course_of (Some files) file solution command n).comes
  single_row files file solution ToFzn n = single_reading Spells IsFaulty one_instance File _ (λ i. single_end _) files file
  single_row files file solution Show n = single_reading IsEither IsNeither one_either File _ (λ e. single_end _) files file

  pub single_of : (files : Option (List Stored)) → IsSome files → (o : Option Call) (ws : List (List ℕ)) → IsSingle (course_by files o ws).comes
  single_of None some o ws = cc
  single_of (Some fs) some None ws = λ o p h k. absurd h
  single_of (Some fs) some (Some c) ws = single_row fs (file_of c ws) (solution_of c ws) c.command c.numbers

-- without a call nothing comes
pub nothing_of : (files : Option (List Stored)) (o : Option Call) (ws : List (List ℕ)) → o ≡ None → (p : Outcome) → (course_by files o ws).comes p → ⊥
nothing_of files o ws is p h = let P : Option Call → Type 0 = λ d. (course_by files d ws).comes p in subst P is h
