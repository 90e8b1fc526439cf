-- Peaks under a condition that is a limit.
use Rattle.std.proofs.Common.{◌≡◌, ℤ, pos, ◌≤ℤ◌, ◌<ℤ◌, Bool, true, List, arith}
use Rattle.std.specs.List.{list_all}
use Rattle.std.proofs.lemmas.Bool.{and_parts, and_from}
use Rattle.std.proofs.lemmas.Int.{ints}
use Rattle.xs_model.specs.declared.term.Cond.{Cond}
use Rattle.xs_model.specs.declared.term.Cond.TheVariants.{Lt, Le}
use Rattle.xs_model.specs.Conditions.{value_of, Meets}
use Rattle.xs_model.specs.Fitting.{IsLimit}
use Rattle.xs_model.specs.Schedule.{load}
use Rattle.xs_laws.specs.Meeting.{meets}
use Rattle.xs_laws.specs.Peaks.{IsUpper, LimitLaw, PeakTestLaw}
use Rattle.xs_laws.proofs.Cumulative.{has_peak_at_start, has_peak_by_ends}
use Rattle.xs_laws.proofs.Meeting.{meets_is}
use Rattle.xs_laws.proofs.Places.{all_at, all_of}
use Rattle.xs_laws.proofs.Somes.{all_map, all_says, all_met}

limit_upper : (a : List ℤ) (cond : Cond) → IsLimit cond → IsUpper (Meets a cond)
limit_upper a (Lt t) h = λ x y le lt. below x y (value_of a t) le lt
  where
    below : (x y k : ℤ) → x ≤ℤ y → y <ℤ k → x <ℤ k
    below x y k le lt = omega (arith, ints, le, lt)
limit_upper a (Le t) h = λ x y le lt. below x y (value_of a t) le lt
  where
    below : (x y k : ℤ) → x ≤ℤ y → y ≤ℤ k → x ≤ℤ k
    below x y k le lt = omega (arith, ints, le, lt)
limit_upper a cond h = absurd h

pub limits_have_peaks : LimitLaw
limits_have_peaks a cond h = (has_peak_at_start (Meets a cond) (limit_upper a cond h), has_peak_by_ends (Meets a cond) (limit_upper a cond h))

pub peaks_are_tested : PeakTestLaw
peaks_are_tested a cond ss ls hs limit nat =
    let law = has_peak_at_start (Meets a cond) (limit_upper a cond limit) ss ls hs nat in
    let at_start : ℤ → Bool = λ s. meets a cond (load s ss ls hs) in
    let P : ℤ → Type 0 = λ s. Meets a cond (load s ss ls hs) in (
      λ h.
          let g = law.0 h in
          and_from (meets a cond (pos 0)) (list_all at_start ss) ((meets_is a cond (pos 0)).0 g.0)
          (all_met at_start ss (all_map P (λ s. at_start s ≡ true) ss (λ s. (meets_is a cond (load s ss ls hs)).0) (all_of P ss (pos 0) g.1))),
      λ h.
          let r = and_parts (meets a cond (pos 0)) (list_all at_start ss) h in
          let each = all_map (λ s. at_start s ≡ true) P ss (λ s. (meets_is a cond (load s ss ls hs)).1) (all_says at_start ss r.1) in
          law.1 ((meets_is a cond (pos 0)).1 r.0, λ i lt. all_at P ss i (pos 0) each lt),
    )
