use Rattle.std.proofs.Common.{◌≡◌, ◌∙◌, Bool, Bor, List, ℕ, Option, ap}
use Rattle.std.specs.Option.{option_map}
use Rattle.xs_fields.specs.Conditions.{first_missed}
use Rattle.xs_parts.proofs.JoinLemmas.{answered_so}
use Rattle.xs_var.specs.Variable.{spelling_meets}
use Rattle.xs_circuits.specs.Circuit.{are_parts, fields_denote, fields_meet, list_text, parts_denote, size_text, start_text}
use Rattle.xs_circuits.proofs.circuit.read_parts.Goals as goal

pub returns : goal.returns
returns c =
    let os = c.args.names.now in
    let left = c.args.left in
    let parts = c.args.parts.now in
    let list = c.list_text.result.now in
    let start = option_map (λ (x : Bor (List ℕ)). x.now) c.start_text.result in
    let size = option_map (λ (x : Bor (List ℕ)). x.now) c.size_text.result in
    let meets = λ (x : List ℕ) (y z : Option (List ℕ)). first_missed (fields_meet os left x y z) in
    let is_unit : c.judge_spelling-unit.result ≡ first_missed (spelling_meets (are_parts parts)) =
    c.judge_spelling-unit.ensures ∙ ap (λ (b : Bool). first_missed (spelling_meets b)) c.are_parts.ensures in
    let is_missed : c.in_ok-reading.reading.missed ≡ meets (list_text parts) (start_text parts) (size_text parts) =
    c.in_ok-reading.ensures.missed ∙ ap (λ (x : List ℕ). meets x start size) c.list_text.ensures ∙ ap (λ (y : Option (List ℕ)). meets (list_text parts) y size) c.start_text.ensures
    ∙ ap (λ (z : Option (List ℕ)). meets (list_text parts) (start_text parts) z) c.size_text.ensures in
    answered_so c.judge_spelling-unit.result c.in_ok-reading.reading.missed c.earlier.result c.in_ok-reading.reading.value (parts_denote os parts)
    (spelling_meets (are_parts parts)) (fields_meet os left (list_text parts) (start_text parts) (size_text parts)) c.answered.result
    c.answered.ensures c.earlier.ensures.value is_unit is_missed
    (λ none. c.in_ok-reading.ensures.value none ∙ ap (λ (x : List ℕ). fields_denote os x start size) c.list_text.ensures ∙ ap (λ (y : Option (List ℕ)). fields_denote os (list_text parts) y size) c.start_text.ensures
    ∙ ap (λ (z : Option (List ℕ)). fields_denote os (list_text parts) (start_text parts) z) c.size_text.ensures)
