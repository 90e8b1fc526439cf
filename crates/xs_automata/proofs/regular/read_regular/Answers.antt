use Rattle.std.proofs.Common.{◌≤◌, List, subst}
use Rattle.xs_automata.specs.Regular.{parts_denote, parts_meet, regular_meets, regular_of}
use Rattle.xs_automata.proofs.FormedLemmas.{regular_good}
use Rattle.xs_fields.specs.Conditions.{IsOrMemory, answer}
use Rattle.xs_model.specs.Accepted.{IsFormed, items_of}
use Rattle.xs_model.specs.Outline.{variables_in}
use Rattle.xs_model.specs.declared.concrete.Part.{Part}
use Rattle.xs_tables.proofs.AnswerLemmas.{answer_ok}
use Rattle.xs_automata.proofs.regular.read_regular.Goals as goal

pub returns : goal.returns
returns c =
    let os = c.args.names.now in
    let left = c.args.left in
    let x = c.args.c.now in
    let value : IsOrMemory c.read_parts.result (answer (regular_meets os left x) (regular_of os x)) =
    subst (λ (ps : List Part). IsOrMemory c.read_parts.result (answer (parts_meet os left ps) (parts_denote os ps))) c.as_slice.ensures c.read_parts.ensures in
    record {
      value = value;
      formed = answer_ok (λ y. IsFormed (variables_in os) y) (regular_meets os left x) (regular_of os x) c.read_parts.result (λ none. (regular_good os left x none).0) value;
      few = answer_ok (λ y. items_of y ≤ left) (regular_meets os left x) (regular_of os x) c.read_parts.result (λ none. (regular_good os left x none).1) value;
    }
