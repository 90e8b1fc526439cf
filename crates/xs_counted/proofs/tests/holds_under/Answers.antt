use Rattle.std.proofs.Common.{rules, ◌≡◌, ◌∷◌, ◌++◌, [], pos, ℕ, ℤ, List, ◌<◌, to_z, of_z, get_or, ap, sym, subst, ◌∙◌, arith}
use Rattle.std.proofs.lemmas.Int.{to_z-of_z, ints}
use Rattle.std.specs.Int.{w128}
use Rattle.xf_num.specs.Span.{Bounds, IsWithin}
use Rattle.xs_model.specs.Accepted.{IsMeasured}
use Rattle.xs_model.specs.declared.instance.Constraint.{Constraint}
use Rattle.xs_counted.proofs.tests.holds_under.Goals as goal

abbrev byte : Bounds
byte = record { lo = pos 0; hi = pos 255 }

in_byte : (n : ℕ) → n < 256 → IsWithin byte (pos n)
in_byte n h = record { from = search (rules, ints); to = search (rules, ints, h) }

kept : (n : ℕ) → n < 256 → to_z w128 (of_z w128 (pos n)) ≡ pos n
kept n h = to_z-of_z w128 (pos n) (search (rules, h))

within : (n : ℕ) (z : ℤ) → n < 256 → z ≡ pos n → IsWithin byte (to_z w128 (of_z w128 z))
within n z h is = subst (λ y. IsWithin byte y) (sym (ap (λ y. to_z w128 (of_z w128 y)) is ∙ kept n h)) (in_byte n h)

pub holds-requires-clause-measured : goal.holds-requires-clause-measured
holds-requires-clause-measured c =
    let same = c.in-Some.ensures.item.1 ∙ ap (λ (xs : List Constraint). get_or xs 0 c.in-Some.constraint.now) (c.as_slice.ensures ∙ c.in_ok-push.ensures.ok ∙ ap (λ (xs : List Constraint). xs ++ (c.args.c ∷ [])) c.new-constraints.ensures) in
    record {
      spans = byte ∷ byte ∷ byte ∷ [];
      within = (
        within c.args.first c.from.result c.ranges.first.fits c.from.ensures,
        (within c.args.second c.from-2.result c.ranges.second.fits c.from-2.ensures, (within c.args.third c.from-3.result c.ranges.third.fits c.from-3.ensures, tt)),
      );
      measured = subst (λ (x : Constraint). IsMeasured (byte ∷ byte ∷ byte ∷ []) x) (sym same) c.requires.measured;
    }
