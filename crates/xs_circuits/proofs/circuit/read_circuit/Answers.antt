use Rattle.std.proofs.Common.{◌≤◌, List, subst}
use Rattle.xs_fields.specs.Conditions.{IsOrMemory, answer}
use Rattle.xs_model.specs.Accepted.{IsFormed, items_of}
use Rattle.xs_model.specs.Outline.{variables_in}
use Rattle.xs_model.specs.declared.concrete.Part.{Part}
use Rattle.xs_model.specs.declared.instance.Constraint.{Constraint}
use Rattle.xs_circuits.specs.Circuit.{circuit_meets, circuit_of, parts_denote, parts_meet}
use Rattle.xs_circuits.proofs.GoodLemmas.{answer_ok, circuit_good}
use Rattle.xs_circuits.proofs.circuit.read_circuit.Goals as goal

pub returns : goal.returns
returns c =
    let os = c.args.names.now in
    let left = c.args.left in
    let x = c.args.c.now in
    let r = c.read_parts.result in
    let is : IsOrMemory r (answer (circuit_meets os left x) (circuit_of os x)) =
    subst (λ (ps : List Part). IsOrMemory r (answer (parts_meet os left ps) (parts_denote os ps))) c.as_slice.ensures c.read_parts.ensures in
    record {
      value = is;
      formed = answer_ok (λ (y : Constraint). IsFormed (variables_in os) y) (circuit_meets os left x) (circuit_of os x) r (λ h. (circuit_good os left x h).formed) is;
      few = answer_ok (λ (y : Constraint). items_of y ≤ left) (circuit_meets os left x) (circuit_of os x) r (λ h. (circuit_good os left x h).few) is;
    }
