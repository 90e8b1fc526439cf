use Rattle.std.proofs.Common.{◌≡◌, ◌↔◌, ◌≤◌, pos, true, List, ℕ, ℤ, length, sym, subst}
use Rattle.xs_model.specs.Accepted.{IsFormed}
use Rattle.xs_model.specs.declared.instance.Constraint.{Constraint}
use Rattle.xs_model.specs.declared.instance.Constraint.TheVariants.{Cardinality, Count}
use Rattle.xs_model.specs.declared.term.Occurrence.{Occurrence}
use Rattle.xs_model.specs.declared.term.Term.{Term}
use Rattle.xs_model.specs.Instance.{Holds, term_values, values}
use Rattle.xs_model.specs.Sound.{magnitudes}
use Rattle.xs_model.proofs.FormLemmas.{below_of_items}
use Rattle.xs_testing.specs.Rows.{AreBelow}
use Rattle.xs_counted.specs.Counted.{IsMeasuredAt}
use Rattle.xs_counted.specs.Tests.{size_of_products}
use Rattle.xs_counted.proofs.SumLemmas.{sum_measured}
use Rattle.xs_counted.proofs.form.holds.Goals as goal

pub holds_sum-requires-clause-small : goal.holds_sum-requires-clause-small
holds_sum-requires-clause-small c =
    let a = c.args.a.now in
    let m = subst (λ (x : Constraint). IsMeasuredAt a x) c.in-Sum.is c.requires.measured in
    let small = sum_measured m.spans a c.in-Sum.list c.in-Sum.coeffs c.in-Sum.cond m.within m.measured in
    subst (λ (ts : List Term). size_of_products (term_values a ts) (values a c.as_slice.result.now) ≤ magnitudes) (sym c.as_slice-in-Sum.ensures)
    (subst (λ (vs : List ℕ). size_of_products (term_values a c.in-Sum.coeffs) (values a vs) ≤ magnitudes) (sym c.as_slice.ensures) small)

pub holds_count-requires-clause-valued : goal.holds_count-requires-clause-valued
holds_count-requires-clause-valued c =
    let n = length c.args.a.now in
    let formed = subst (λ (x : Constraint). IsFormed n x) c.in-Count.is c.requires.formed in
    subst (λ (vs : List ℕ). AreBelow n vs) (sym c.as_slice-in-Count.ensures) (below_of_items n c.in-Count.list formed.fields.0)

pub holds_distinct-requires-clause-valued : goal.holds_distinct-requires-clause-valued
holds_distinct-requires-clause-valued c =
    let n = length c.args.a.now in
    let formed = subst (λ (x : Constraint). IsFormed n x) c.in-NValues.is c.requires.formed in
    subst (λ (vs : List ℕ). AreBelow n vs) (sym c.as_slice-in-NValues.ensures) (below_of_items n c.in-NValues.list formed.fields.0)

pub holds_cardinality-requires-clause-valued : goal.holds_cardinality-requires-clause-valued
holds_cardinality-requires-clause-valued c =
    let n = length c.args.a.now in
    let formed = subst (λ (x : Constraint). IsFormed n x) c.in-Cardinality.is c.requires.formed in
    subst (λ (vs : List ℕ). AreBelow n vs) (sym c.as_slice-in-Cardinality.ensures) (below_of_items n c.in-Cardinality.list formed.fields.0)

pub holds_minimum-requires-clause-valued : goal.holds_minimum-requires-clause-valued
holds_minimum-requires-clause-valued c =
    let n = length c.args.a.now in
    let formed = subst (λ (x : Constraint). IsFormed n x) c.in-Minimum.is c.requires.formed in
    subst (λ (vs : List ℕ). AreBelow n vs) (sym c.as_slice-in-Minimum.ensures) (below_of_items n c.in-Minimum.list formed.fields.0)

pub holds_maximum-requires-clause-valued : goal.holds_maximum-requires-clause-valued
holds_maximum-requires-clause-valued c =
    let n = length c.args.a.now in
    let formed = subst (λ (x : Constraint). IsFormed n x) c.in-Maximum.is c.requires.formed in
    subst (λ (vs : List ℕ). AreBelow n vs) (sym c.as_slice-in-Maximum.ensures) (below_of_items n c.in-Maximum.list formed.fields.0)

pub returns-in-Count-clause-value : goal.returns-in-Count-clause-value
returns-in-Count-clause-value c =
    let a = c.args.a.now in
    subst (λ (x : Constraint). (c.holds_count.result ≡ true) ↔ Holds x a) (sym c.in-Count.is)
    (subst (λ (ts : List Term). (c.holds_count.result ≡ true) ↔ Holds (Count c.in-Count.list ts c.in-Count.cond) a) c.as_slice-in-Count-2.ensures
    (subst (λ (vs : List ℕ). (c.holds_count.result ≡ true) ↔ Holds (Count vs c.as_slice-in-Count-2.result.now c.in-Count.cond) a) c.as_slice-in-Count.ensures c.holds_count.ensures.value))

pub returns-in-Cardinality-clause-value : goal.returns-in-Cardinality-clause-value
returns-in-Cardinality-clause-value c =
    let a = c.args.a.now in
    let closed = c.in-Cardinality.closed in
    subst (λ (x : Constraint). (c.holds_cardinality.result ≡ true) ↔ Holds x a) (sym c.in-Cardinality.is)
    (subst (λ (os : List Occurrence). (c.holds_cardinality.result ≡ true) ↔ Holds (Cardinality c.in-Cardinality.list c.in-Cardinality.values os closed) a) c.as_slice-in-Cardinality-3.ensures
    (subst (λ (zs : List ℤ). (c.holds_cardinality.result ≡ true) ↔ Holds (Cardinality c.in-Cardinality.list zs c.as_slice-in-Cardinality-3.result.now closed) a) c.as_slice-in-Cardinality-2.ensures
    (subst (λ (vs : List ℕ). (c.holds_cardinality.result ≡ true) ↔ Holds (Cardinality vs c.as_slice-in-Cardinality-2.result.now c.as_slice-in-Cardinality-3.result.now closed) a) c.as_slice-in-Cardinality.ensures c.holds_cardinality.ensures.value)))
