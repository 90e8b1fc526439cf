use Rattle.std.proofs.Common.{◌≤◌, List, subst}
use Rattle.xs_automata.specs.Mdd.{both_denote, both_in, both_meet, mdd_meets, mdd_of}
use Rattle.xs_automata.proofs.FormedLemmas.{mdd_good}
use Rattle.xs_fields.specs.Conditions.{IsOrMemory, answer}
use Rattle.xs_model.specs.Accepted.{IsFormed, items_of}
use Rattle.xs_model.specs.Outline.{variables_in}
use Rattle.xs_model.specs.declared.concrete.Part.{Part}
use Rattle.xs_tables.proofs.AnswerLemmas.{answer_ok}
use Rattle.xs_automata.proofs.mdd.read_mdd.Goals as goal

pub returns : goal.returns
returns c =
    let os = c.args.names.now in
    let left = c.args.left in
    let x = c.args.c.now in
    let value : IsOrMemory c.read_parts.result (answer (mdd_meets os left x) (mdd_of os x)) =
    subst (λ (ps : List Part). IsOrMemory c.read_parts.result (answer (both_meet os left (both_in ps)) (both_denote os (both_in ps)))) c.as_slice.ensures c.read_parts.ensures in
    record {
      value = value;
      formed = answer_ok (λ y. IsFormed (variables_in os) y) (mdd_meets os left x) (mdd_of os x) c.read_parts.result (λ none. (mdd_good os left x none).0) value;
      few = answer_ok (λ y. items_of y ≤ left) (mdd_meets os left x) (mdd_of os x) c.read_parts.result (λ none. (mdd_good os left x none).1) value;
    }
