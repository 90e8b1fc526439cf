use Rattle.std.proofs.Common.{◌≤◌, ◌+◌, List, ℕ, ap, sym, subst}
use Rattle.std.proofs.Common.{length}
use Rattle.xs_model.specs.Instance.{term_values, values}
use Rattle.xs_model.specs.Sound.{magnitudes}
use Rattle.xs_model.specs.declared.term.Term.{Term}
use Rattle.xs_tasks.specs.Tested.{size_of}
use Rattle.xs_tasks.proofs.HoldLemmas.{all_small, ends_below, origins_below, starts_small}
use Rattle.xs_testing.specs.Rows.{AreBelow}
use Rattle.xs_tasks.proofs.holds.tasks_hold.Goals as goal

pub is_peaked-requires-clause-origins : goal.is_peaked-requires-clause-origins
is_peaked-requires-clause-origins c =
    let g = c.args in
    subst (λ (vs : List ℕ). AreBelow (length g.a.now) vs) (sym c.as_slice-starts.ensures) (origins_below g.a.now g.origins.now g.lengths.now g.heights.now g.ends.now g.cond.now c.requires.formed)

pub is_peaked-requires-clause-small : goal.is_peaked-requires-clause-small
is_peaked-requires-clause-small c =
    let g = c.args in
    let a = g.a.now in
    subst (λ (vs : List ℕ). (size_of (values a vs) + size_of (term_values a c.as_slice-spans.result.now)) + size_of (term_values a c.as_slice.result.now) ≤ magnitudes) (sym c.as_slice-starts.ensures)
    (subst (λ (ls : List Term). (size_of (values a g.origins.now) + size_of (term_values a ls)) + size_of (term_values a c.as_slice.result.now) ≤ magnitudes) (sym c.as_slice-spans.ensures)
    (subst (λ (hs : List Term). (size_of (values a g.origins.now) + size_of (term_values a g.lengths.now)) + size_of (term_values a hs) ≤ magnitudes) (sym c.as_slice.ensures)
    (all_small a g.origins.now g.lengths.now g.heights.now g.ends.now g.cond.now c.requires.formed c.requires.judged)))

pub ends_agree-requires-clause-origins : goal.ends_agree-requires-clause-origins
ends_agree-requires-clause-origins c =
    let g = c.args in
    subst (λ (vs : List ℕ). AreBelow (length g.a.now) vs) (sym c.as_slice-starts.ensures) (origins_below g.a.now g.origins.now g.lengths.now g.heights.now g.ends.now g.cond.now c.requires.formed)

pub ends_agree-requires-clause-ends : goal.ends_agree-requires-clause-ends
ends_agree-requires-clause-ends c = let g = c.args in ends_below g.a.now g.origins.now g.lengths.now g.heights.now g.ends.now g.cond.now c.requires.formed

pub ends_agree-requires-clause-small : goal.ends_agree-requires-clause-small
ends_agree-requires-clause-small c =
    let g = c.args in
    let a = g.a.now in
    subst (λ (vs : List ℕ). size_of (values a vs) + size_of (term_values a c.as_slice-spans.result.now) ≤ magnitudes) (sym c.as_slice-starts.ensures)
    (subst (λ (ls : List Term). size_of (values a g.origins.now) + size_of (term_values a ls) ≤ magnitudes) (sym c.as_slice-spans.ensures)
    (starts_small a g.origins.now g.lengths.now g.heights.now g.ends.now g.cond.now c.requires.formed c.requires.judged))
