use Rattle.std.proofs.Common.{◌≤◌, ap, subst, List}
use Rattle.xs_fields.specs.Conditions.{IsOrMemory, answer}
use Rattle.xs_model.specs.Accepted.{IsFormed, items_of}
use Rattle.xs_model.specs.Outline.{variables_in}
use Rattle.xs_model.specs.declared.concrete.Part.{Part}
use Rattle.xs_tables.specs.Extension.{extension_meets, extension_of, parts_denote, parts_meet}
use Rattle.xs_tables.proofs.AnswerLemmas.{answer_ok}
use Rattle.xs_tables.proofs.FormedLemmas.{extension_good}
use Rattle.xs_tables.proofs.extension.read_extension.Goals as goal

pub returns : goal.returns
returns c =
    let os = c.args.names.now in
    let left = c.args.left in
    let x = c.args.c.now in
    let value : IsOrMemory c.read_texts.result (answer (extension_meets os left x) (extension_of os x)) =
    subst (λ (ps : List Part). IsOrMemory c.read_texts.result (answer (parts_meet os left ps) (parts_denote os ps))) c.as_slice.ensures c.read_texts.ensures in
    record {
      value = value;
      formed = answer_ok (λ y. IsFormed (variables_in os) y) (extension_meets os left x) (extension_of os x) c.read_texts.result (λ none. (extension_good os left x none).0) value;
      few = answer_ok (λ y. items_of y ≤ left) (extension_meets os left x) (extension_of os x) c.read_texts.result (λ none. (extension_good os left x none).1) value;
    }
