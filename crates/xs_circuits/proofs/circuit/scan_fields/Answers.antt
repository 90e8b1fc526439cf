use Rattle.std.proofs.Common.{◌≡◌, ◌∙◌, ◌&&◌, Bor, List, ℕ, length, ap, sym}
use Rattle.std.specs.Option.{option_map}
use Rattle.xs_conditions.specs.Flags.{start_meets}
use Rattle.xs_conditions.proofs.MissedLemmas.{counted}
use Rattle.xs_fields.specs.Cells.{vars_meet, vars_of}
use Rattle.xs_circuits.specs.Circuit.{items_in, size_meets, texts_meet}
use Rattle.xs_circuits.proofs.FittingLemmas.{none_before, texts_fit}
use Rattle.xs_circuits.proofs.circuit.scan_fields.Goals as goal

pub returns-clause-missed : goal.returns-clause-missed
returns-clause-missed c =
    let os = c.args.names.now in
    let left = c.args.left in
    let list = c.args.list.now in
    let start = option_map (λ (x : Bor (List ℕ)). x.now) c.args.start in
    let size = option_map (λ (x : Bor (List ℕ)). x.now) c.args.size in
    let members = c.in_ok-members.members in
    let ends = c.earlier-ends.ensures.joins (start_meets start) (size_meets os size) c.scan_start-first.ensures.missed c.in_ok-nodes.ensures.missed in
    let texts = c.earlier-texts.ensures.joins (vars_meet os list left) (λ k. start_meets start k && size_meets os size k) c.in_ok-members.ensures.missed ends in
    c.with_count-missed.ensures
    ∙ counted (texts_meet os left list start size) c.earlier-texts.result (items_in (length (vars_of os list)) size) c.items_in.result left texts (texts_fit os left list start size)
    (λ none.
    let same : members.value ≡ vars_of os list = c.in_ok-members.ensures.value (none_before members.missed c.earlier-ends.result (sym c.earlier-texts.ensures.value ∙ none)) in
    c.items_in.ensures ∙ ap (λ (m : ℕ). items_in m size) c.len.ensures ∙ ap (λ (vs : List ℕ). items_in (length vs) size) same)
