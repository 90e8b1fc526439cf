use Rattle.std.proofs.Common.{◌∷◌, ◌++◌, [], List, get_or, ap, sym, subst, ◌∙◌}
use Rattle.xf_num.specs.Span.{Bounds}
use Rattle.xs_expr.proofs.Sound.{points-within}
use Rattle.xs_model.specs.Accepted.{IsFaultless}
use Rattle.xs_model.specs.Bounds.{points}
use Rattle.xs_model.specs.declared.instance.Constraint.{Constraint}
use Rattle.xs_compared.proofs.tests.holds_under.Goals as goal

pub holds-requires-clause-faultless : goal.holds-requires-clause-faultless
holds-requires-clause-faultless c =
    let same = c.in-Some.ensures.item.1 ∙ ap (λ (xs : List Constraint). get_or xs 0 c.in-Some.constraint.now) (c.as_slice.ensures ∙ c.in_ok-push.ensures.ok ∙ ap (λ (xs : List Constraint). xs ++ (c.args.c ∷ [])) c.new-constraints.ensures) in
    record {
      spans = points c.args.values;
      within = points-within c.args.values;
      faultless = subst (λ (x : Constraint). IsFaultless (points c.args.values) x) (sym same) (c.requires.faultless (points c.args.values));
    }
