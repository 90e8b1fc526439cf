use Rattle.std.proofs.Common.{◌++◌, ◌&&◌, ◌∙◌, sym}
use Rattle.xs_boxes.specs.Boxes.{are_even, widths_of}
use Rattle.xs_boxes.specs.Tuples.{length_of, origin_of, tuple_meets}
use Rattle.xs_conditions.specs.Single.{direct_meets, single_meets}
use Rattle.xs_parts.proofs.JoinLemmas.{none_behind}
use Rattle.xs_tables.specs.Groups.{groups_meet, spelt_meets}
use Rattle.xs_tables.proofs.TableLemmas.{first_none}
use Rattle.xs_boxes.proofs.boxes.scan_tuples.Goals as goal

pub returns-clause-missed : goal.returns-clause-missed
returns-clause-missed c =
    let os = c.args.names.now in
    let left = c.args.left in
    let a = c.args.origins.now in
    let b = c.args.lengths.now in
    let first = groups_meet (tuple_meets (direct_meets os)) (origin_of os) a left in
    let second = groups_meet (tuple_meets (single_meets os)) (length_of os) b left in
    c.earlier.ensures.joins (spelt_meets (are_even (widths_of a ++ widths_of b))) (λ k. first k && second k) c.judge_widths-uneven.ensures
    (c.earlier-missed.ensures.joins first second c.in_ok-first.ensures.missed c.in_ok-second.ensures.missed)

pub returns-clause-origins : goal.returns-clause-origins
returns-clause-origins c = λ h.
    let both = sym c.earlier-missed.ensures.value ∙ none_behind c.judge_widths-uneven.result c.earlier-missed.result (sym c.earlier.ensures.value ∙ h) in
    c.in_ok-first.ensures.value (first_none c.in_ok-first.first.missed c.in_ok-second.second.missed both)

pub returns-clause-lengths : goal.returns-clause-lengths
returns-clause-lengths c = λ h.
    let both = sym c.earlier-missed.ensures.value ∙ none_behind c.judge_widths-uneven.result c.earlier-missed.result (sym c.earlier.ensures.value ∙ h) in
    c.in_ok-second.ensures.value (none_behind c.in_ok-first.first.missed c.in_ok-second.second.missed both)
