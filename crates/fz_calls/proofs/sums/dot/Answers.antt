use Rattle.std.proofs.Common.{pos, List, map, subst, sym}
use Rattle.fz_model.specs.declared.model.Arg.{Arg}
use Rattle.fz_model.specs.Meaning.{number, members}
use Rattle.fz_calls.specs.Fits.{ValuesFit}
use Rattle.fz_calls.proofs.Fitting.{lists_fit}
use Rattle.fz_calls.proofs.sums.dot.Goals as goal

pub sum_of_products-requires : goal.sum_of_products-requires
sum_of_products-requires c =
    let b = c.args.b.now in
    let fits = lists_fit b c.args.coefficients.now c.args.items.now c.requires in
    subst (λ (l : List Arg). ValuesFit (pos 0) (map (number b) c.members.result.now) (map (number b) l)) (sym c.members-2.ensures)
    (subst (λ (l : List Arg). ValuesFit (pos 0) (map (number b) l) (map (number b) (members c.args.items.now))) (sym c.members.ensures) fits)
