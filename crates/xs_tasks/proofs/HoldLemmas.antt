-- The test of a `cumulative` tells whether it holds.
use Rattle.std.proofs.Common.{◌≡◌, ◌↔◌, ℕ, ◌+◌, ◌<◌, ◌≤◌, ℤ, ◌+ℤ◌, Bool, true, false, ◌&&◌, List, [], ◌∷◌, length, map, Option, None, Some, IfSome, refl, sym, ◌∙◌, arith}
use Rattle.std.specs.List.{AllByRecursion}
use Rattle.std.specs.Ordering.{int_eq}
use Rattle.std.proofs.lemmas.Bool.{and_from, and_parts, true≢false}
use Rattle.std.proofs.lemmas.Bool.Decides.{Decides-int_eq}
use Rattle.xs_laws.proofs.Limits.{peaks_are_tested}
use Rattle.xs_laws.specs.Meeting.{meets}
use Rattle.xs_laws.specs.Peaks.{is_peaked}
use Rattle.xs_model.proofs.FormLemmas.{below_of_items}
use Rattle.xs_model.specs.declared.instance.Constraint.TheVariants.{Cumulative}
use Rattle.xs_model.specs.declared.term.Cond.{Cond}
use Rattle.xs_model.specs.declared.term.Term.{Term}
use Rattle.xs_model.specs.Accepted.{IsFormed}
use Rattle.xs_model.specs.Instance.{EndsAgree, Holds, term_values, values}
use Rattle.xs_model.specs.Magnitude.{are_not_negative}
use Rattle.xs_model.specs.Schedule.{AreEnds}
use Rattle.xs_model.specs.Sound.{magnitudes}
use Rattle.xs_tasks.specs.Tested.{IsJudgedAt, are_ends, ends_agree, size_of}
use Rattle.xs_tasks.proofs.SizeLemmas.{tasks_small, terms_natural}
use Rattle.xs_testing.specs.Rows.{AreBelow}

-- ends
ends_are : (ss ls es : List ℤ) → (are_ends ss ls es ≡ true) ↔ AreEnds ss ls es
ends_are [] [] [] = (λ h. tt, λ h. refl)
ends_are [] [] (e ∷ es) = (λ h. absurd (true≢false (sym h)), λ h. absurd h)
ends_are [] (l ∷ ls) es = (λ h. absurd (true≢false (sym h)), λ h. absurd h)
ends_are (s ∷ ss) [] es = (λ h. absurd (true≢false (sym h)), λ h. absurd h)
ends_are (s ∷ ss) (l ∷ ls) [] = (λ h. absurd (true≢false (sym h)), λ h. absurd h)
ends_are (s ∷ ss) (l ∷ ls) (e ∷ es) = (
  λ h. let r = and_parts (int_eq e (s +ℤ l)) (are_ends ss ls es) h in ((Decides-int_eq e (s +ℤ l)).0 r.0, (ends_are ss ls es).0 r.1),
  λ h. and_from (int_eq e (s +ℤ l)) (are_ends ss ls es) ((Decides-int_eq e (s +ℤ l)).1 h.0) ((ends_are ss ls es).1 h.1),
)

agree : (a : List ℤ) (vs : List ℕ) (ls : List Term) (es : Option (List ℕ)) → (ends_agree a vs ls es ≡ true) ↔ EndsAgree a vs ls es
agree a vs ls None = (λ h. tt, λ h. refl)
agree a vs ls (Some ends) = ends_are (values a vs) (term_values a ls) (values a ends)

module _ (a : List ℤ) (vs : List ℕ) (ls hs : List Term) (es : Option (List ℕ)) (x : Cond) (formed : IsFormed (length a) (Cumulative vs ls hs es x)) where
  pub origins_below : AreBelow (length a) vs
  origins_below = below_of_items (length a) vs formed.fields.0

  module _ (judged : IsJudgedAt a (Cumulative vs ls hs es x)) where
    pub all_small : (size_of (values a vs) + size_of (term_values a ls)) + size_of (term_values a hs) ≤ magnitudes
    all_small = tasks_small judged.spans a judged.within vs ls hs es x judged.measured

    pub starts_small : size_of (values a vs) + size_of (term_values a ls) ≤ magnitudes
    starts_small = omega (arith, all_small)

    abbrev peaked : Bool
    peaked = is_peaked (meets a x) (values a vs) (term_values a ls) (term_values a hs)

    pub held : (peaked && ends_agree a vs ls es ≡ true) ↔ Holds (Cumulative vs ls hs es x) a
    held =
        let natural = terms_natural judged.spans a judged.within hs (and_parts (are_not_negative judged.spans ls) (are_not_negative judged.spans hs) judged.faultless).1 in
        let peaks = peaks_are_tested a x (values a vs) (term_values a ls) (term_values a hs) formed.fitting.3 natural in
        let ends = agree a vs ls es in (
          λ h. let r = and_parts peaked (ends_agree a vs ls es) h in (peaks.1 r.0, ends.0 r.1),
          λ h. and_from peaked (ends_agree a vs ls es) (peaks.0 h.0) (ends.1 h.1),
        )

pub ends_below : (a : List ℤ) (vs : List ℕ) (ls hs : List Term) (es : Option (List ℕ)) (x : Cond) → IsFormed (length a) (Cumulative vs ls hs es x) → IfSome es (λ ends. AreBelow (length a) ends)
ends_below a vs ls hs None x formed = tt
ends_below a vs ls hs (Some ends) x formed = below_of_items (length a) ends formed.fields.1.1.1.0
