use Rattle.std.proofs.Common.{◌≡◌, ◌∙◌, None, [], List, ℕ, Option, Bool, Bor, ap, sym, codes, rules}
use Rattle.std.specs.Option.{option_map}
use Rattle.xs_fields.specs.Conditions.{first_missed}
use Rattle.xs_parts.specs.Nesting.{are_parts_shallow}
use Rattle.xs_parts.specs.Parts.{one_text}
use Rattle.xs_parts.proofs.JoinLemmas.{answered_so}
use Rattle.xs_relate.specs.Unit.{form_text, unit_meets}
use Rattle.xs_var.specs.Elements.{text_or_none}
use Rattle.xs_notation.specs.Reading.{counted_expr_meets, expr_at}
use Rattle.xs_model.specs.declared.instance.Constraint.TheVariants.{Intension}
use Rattle.xs_relate.specs.Intension.{intension_of}
use Rattle.xs_relate.proofs.intension.read_intension.Goals as goal

pub returns-clause-value : goal.returns-clause-value
returns-clause-value c =
    let os = c.args.names.now in
    let left = c.args.left in
    let parts = c.args.c.now.parts in
    let child = codes "function" in
    let one : option_map (λ (x : Bor (List ℕ)). x.now) c.one_text-text.result ≡ one_text child parts = search rules in
    let shallow : c.are_parts_shallow.result ≡ are_parts_shallow parts = search rules in
    let text : c.text_or_none.result.now ≡ form_text child c.args.c.now = c.text_or_none.ensures ∙ ap text_or_none one in
    let is_unit : c.judge_unit-unit.result ≡ first_missed (unit_meets (are_parts_shallow parts) (one_text child parts)) =
    c.judge_unit-unit.ensures ∙ ap (λ (v : Bool). first_missed (unit_meets v (option_map (λ (x : Bor (List ℕ)). x.now) c.one_text-text.result))) shallow
    ∙ ap (λ (t : Option (List ℕ)). first_missed (unit_meets (are_parts_shallow parts) t)) one in
    let is_missed : c.in_ok-reading.reading.missed ≡ first_missed (counted_expr_meets os (form_text child c.args.c.now) left) =
    c.in_ok-reading.ensures.missed ∙ ap (λ (t : List ℕ). first_missed (counted_expr_meets os t left)) text in
    answered_so c.judge_unit-unit.result c.in_ok-reading.reading.missed c.earlier.result c.in_ok-reading.reading.value (intension_of os c.args.c.now)
    (unit_meets (are_parts_shallow parts) (one_text child parts)) (counted_expr_meets os (form_text child c.args.c.now) left) c.answered.result
    c.answered.ensures c.earlier.ensures.value is_unit is_missed
    (λ none. c.in_ok-reading.ensures.value none ∙ ap (λ (t : List ℕ). Intension (expr_at os t)) text)
