use Rattle.std.proofs.Common.{◌≡◌, [], ◌∷◌, refl, sym, subst, arith, rules}
use Rattle.xf_num.specs.Span.{Bounds}
use Rattle.xs_model.specs.Accepted.{IsSoundConstraint}
use Rattle.xs_model.specs.Bounds.{truths}
use Rattle.xs_model.specs.declared.expr.Expr.{Var}
use Rattle.xs_model.specs.declared.instance.Constraint.TheVariants.{Intension}
use Rattle.lo_terms.proofs.Examples.{variable, sample_sound}
use Rattle.lo_instance.proofs.constraint.tests.forms_in_turn.Goals as goal

pub lower_constraint-requires-2-clause-sound : goal.lower_constraint-requires-2-clause-sound
lower_constraint-requires-2-clause-sound g c =
    let first : Bounds = c.unwrap.result in
    let bit : c.unwrap-2.result ≡ truths = search rules in
    let ss = first ∷ truths ∷ [] in
    let holds = variable ss 1 truths (omega arith) refl in
    subst (λ (b : Bounds). IsSoundConstraint (first ∷ b ∷ []) (Intension (Var 1))) (sym bit) (sample_sound ss (Var 1) truths (1 ∷ []) holds refl)
