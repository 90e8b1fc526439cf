-- A course comes to one outcome at most.
use Rattle.std.proofs.Common.{◌≡◌, ℕ, Option, Some, None, List, arith, ap, subst, sym, ◌∙◌, inl, inr}
use Rattle.xf_course.specs.Files.{IsOne}
use Rattle.xf_text.specs.declared.fault.Fault.{Fault}
use Rattle.xf_text.specs.declared.outside.Stored.{Stored}
use Rattle.xf_text.specs.Outside.{file_named}
use Rattle.xf_words.specs.declared.call.Which.{Which}
use Rattle.xf_course.specs.Course.{Outcome, Reads, Refuses}
use Rattle.xf_course.specs.Ends.{IsSingle}
use Rattle.xf_course.specs.Files.{AtBytes, IsReadAs, IsRefusedAs}

pub single_end : (o : Outcome) → IsSingle (λ p. p ≡ o)
single_end o p q h k = h ∙ sym k

module _ {X : Type 0} (accepts : List ℕ → X → Type 0) (refuses : List ℕ → Fault → Type 0) (one : IsOne accepts refuses) where
  one_fault : (bytes : List ℕ) (f g : Fault) → IsRefusedAs refuses bytes f → IsRefusedAs refuses bytes g → f ≡ g
  one_fault bytes f g (inl h) (inl k) = h.1 ∙ sym k.1
  one_fault bytes f g (inl h) (inr k) = absurd (omega (arith, h.0, k.0))
  one_fault bytes f g (inr h) (inl k) = absurd (omega (arith, h.0, k.0))
  one_fault bytes f g (inr h) (inr k) = one.faults bytes f g h.1 k.1

  apart : (bytes : List ℕ) (x : X) (f : Fault) → IsReadAs accepts bytes x → IsRefusedAs refuses bytes f → ⊥
  apart bytes x f h (inl k) = omega (arith, h.0, k.0)
  apart bytes x f h (inr k) = one.apart bytes x f h.1 k.1

  faults_at : (found : Option (List ℕ)) (f g : Fault) → AtBytes found (λ bytes. IsRefusedAs refuses bytes f) → AtBytes found (λ bytes. IsRefusedAs refuses bytes g) → f ≡ g
  faults_at None f g h k = absurd h
  faults_at (Some bytes) f g h k = one_fault bytes f g h k

  apart_at : (found : Option (List ℕ)) (x : X) (f : Fault) → AtBytes found (λ bytes. IsReadAs accepts bytes x) → AtBytes found (λ bytes. IsRefusedAs refuses bytes f) → ⊥
  apart_at None x f h k = h
  apart_at (Some bytes) x f h k = apart bytes x f h k

  values_at : (found : Option (List ℕ)) (x y : X) → AtBytes found (λ bytes. IsReadAs accepts bytes x) → AtBytes found (λ bytes. IsReadAs accepts bytes y) → x ≡ y
  values_at None x y h k = absurd h
  values_at (Some bytes) x y h k = one.values bytes x y h.1 k.1

  module _ (which : Which) (next : X → Outcome → Type 0) (singles : (x : X) → IsSingle (next x)) (files : List Stored) (word : List ℕ) where
    pub single_reading : IsSingle (Reads (Some files) which word accepts refuses next)
    single_reading o p (inl h) (inl k) = h.2 ∙ ap (λ f. Refuses which f) (faults_at (file_named word files) h.0 k.0 h.1 k.1) ∙ sym k.2
    single_reading o p (inl h) (inr k) = absurd (apart_at (file_named word files) k.0 h.0 k.1 h.1)
    single_reading o p (inr h) (inl k) = absurd (apart_at (file_named word files) h.0 k.0 h.1 k.1)
    single_reading o p (inr h) (inr k) = singles k.0 o p (subst (λ (x : X). next x o) (values_at (file_named word files) h.0 k.0 h.1 k.1) h.2) k.2

-- what follows of each value follows of the file
module _ {X : Type 0} (accepts : List ℕ → X → Type 0) (refuses : List ℕ → Fault → Type 0) (which : Which) (next then : X → Outcome → Type 0)
    (more : (bytes : List ℕ) (x : X) → IsReadAs accepts bytes x → (o : Outcome) → next x o → then x o) (files : List Stored) (word : List ℕ) where
  more_at : (found : Option (List ℕ)) (x : X) (o : Outcome) → AtBytes found (λ bytes. IsReadAs accepts bytes x) → next x o → then x o
  more_at None x o h k = absurd h
  more_at (Some bytes) x o h k = more bytes x h o k

  pub reads_more : (o : Outcome) → Reads (Some files) which word accepts refuses next o → Reads (Some files) which word accepts refuses then o
  reads_more o (inl h) = inl h
  reads_more o (inr h) = inr (h.0, h.1, more_at (file_named word files) h.0 o h.1 h.2)
