-- What direct words denote where names differ.
use Rattle.std.proofs.Common.{◌≡◌, ◌≢◌, ℕ, zero, suc, ◌<◌, ◌≤◌, ◌^◌, List, [], ◌∷◌, length, get_or, slice_get, ap, sym, subst, ◌∙◌, arith, Some, inl, inr}
use Rattle.std.specs.Prelude.{◌⊎◌}
use Rattle.std.specs.List.{AllByRecursion, AllPairs}
use Rattle.std.specs.Option.{option_map}
use Rattle.std.proofs.lemmas.Bool.{cases_lt}
use Rattle.std.proofs.lemmas.Option.{slice_get-map}
use Rattle.xs_fields.specs.Cells.{declared_at}
use Rattle.xs_fields.specs.Law.{OneDenotation}
use Rattle.xs_fields.proofs.NamingLemmas.{position_is}
use Rattle.xs_fields.proofs.ReachedLemmas.{variable-met, variables-are}
use Rattle.xs_model.specs.Denotes.{Denotes}
use Rattle.xs_model.specs.Outline.{IsNamed, IsSoundOutline, Outline, names_in}
use Rattle.xs_model.specs.Sound.{cell_count}
use Rattle.xs_model.specs.Table.{IsAddressable}
use Rattle.xs_model.proofs.FindLemmas.{sound_at}

-- what stands at a place
taken : (xs : List (List ℕ)) (i : ℕ) (x : List ℕ) → slice_get xs i ≡ Some x → (i < length xs) × (get_or xs i [] ≡ x)
taken [] i x h = cc
taken (y ∷ xs) zero x h = let s : y ≡ x = cc in (omega arith, s)
taken (y ∷ xs) (suc i) x h = let r = taken xs i x h in (omega (arith, r.0), r.1)

-- a name stands once among different names
only-once : (xs : List (List ℕ)) (i j : ℕ) (x : List ℕ) → AllPairs (λ a b. a ≢ b) xs → slice_get xs i ≡ Some x → slice_get xs j ≡ Some x → i ≡ j
only-once xs i j x d h g =
    let p = taken xs i x h in
    let q = taken xs j x g in
    by p.0 q.0 p.1 q.1 (cases_lt i j) (cases_lt j i)
  where
    by : i < length xs → j < length xs → get_or xs i [] ≡ x → get_or xs j [] ≡ x → (i < j) ⊎ (j ≤ i) → (j < i) ⊎ (i ≤ j) → i ≡ j
    by l m e f (inl b) c = absurd (d i j [] b m (e ∙ sym f))
    by l m e f (inr b) (inl c) = absurd (d j i [] c l (f ∙ sym e))
    by l m e f (inr b) (inr c) = omega (arith, b, c)

all-at : (P : Outline → Type 0) (os : List Outline) (at : ℕ) (o : Outline) → AllByRecursion P os → slice_get os at ≡ Some o → P o
all-at P [] at o a h = cc
all-at P (x ∷ os) zero o a h = let s : x ≡ o = cc in subst P s a.0
all-at P (x ∷ os) (suc at) o a h = all-at P os at o a.1 h

module _ (os : List Outline) (sound : AllByRecursion IsSoundOutline os) (few : AllByRecursion IsAddressable os) (distinct : AllPairs (λ a b. a ≢ b) (names_in os)) (w : List ℕ) (k : ℕ) (d : Denotes os w k) where
  pub cells_few : cell_count d.outline.sizes < 2 ^ 64
  cells_few = let cells = (sound_at os d.at d.outline sound d.declared).cells in omega (arith, cells, all-at IsAddressable os d.at d.outline few d.declared)

  named : IsNamed os d.at d.outline.name
  named = slice_get-map (λ o. o.name) os d.at ∙ ap (option_map (λ o. o.name)) d.declared

  pub declared_there : declared_at os d.outline.name ≡ Some d.at
  declared_there = sym (position_is (Some d.at) os d.outline.name named (λ at h. ap (λ x. Some x) (only-once (names_in os) d.at at d.outline.name distinct named h)))

pub one_denotation : OneDenotation
one_denotation = record {
  met = λ os n w k d. variable-met os n.sound w k d (cells_few os n.sound n.few n.distinct w k d) (declared_there os n.sound n.few n.distinct w k d);
  same = λ os n w k d. variables-are os n.sound w k d (cells_few os n.sound n.few n.distinct w k d) (declared_there os n.sound n.few n.distinct w k d);
}
