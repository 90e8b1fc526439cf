use Rattle.std.proofs.Common.{◌∷◌, List, ℕ, Option, Bor, ap, sym, ◌∙◌}
use Rattle.std.specs.Option.{option_map}
use Rattle.xs_fields.specs.Conditions.{first_missed}
use Rattle.xs_fields.specs.Sizes.{front_meets}
use Rattle.xs_fields.specs.Words.{is_byte, parts_behind}
use borrow.Author.Tests.{eqb-true}
use Rattle.xs_fields.proofs.ListLemmas.{front_right}
use Rattle.xs_fields.proofs.sizes.judge_front.Goals as goal

pub returns-then-is_empty : goal.returns-then-is_empty
returns-then-is_empty c =
    front_right c.args.front.now c.in-Some.field-0.now (eqb-true _ _ (sym c.is_empty.ensures ∙ c.if-is_empty.true))
    ∙ sym (ap (λ (o : Option (Bor (List ℕ))). first_missed (front_meets (c.args.front.now ∷ parts_behind (is_byte 91) (option_map (λ x. x.now) o)))) c.in-Some.is)
