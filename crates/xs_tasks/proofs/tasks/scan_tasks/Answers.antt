use Rattle.std.proofs.Common.{◌≡◌, ◌∙◌, List, ℕ, Option, ap, sym}
use Rattle.xs_conditions.specs.Conditions.{condition_of}
use Rattle.xs_fields.specs.Cells.{vars_meet, vars_of}
use Rattle.xs_fields.specs.Conditions.{earlier_of, first_missed}
use Rattle.xs_fields.specs.Terms.{terms_meet, terms_of}
use Rattle.xs_fields.specs.declared.condition.Condition.{Condition}
use Rattle.xs_tasks.specs.Tasks.{ends_meet, ends_of, limit_meets}
use Rattle.xs_tasks.proofs.MissedLemmas.{AreTold, tasks_are, tasks_miss}
use Rattle.xs_tasks.proofs.tasks.scan_tasks.Goals as goal

pub returns-clause-missed : goal.returns-clause-missed
returns-clause-missed c =
    let os = c.args.names.now in
    let left = c.args.left in
    let vs = c.in_ok-origins.origins.value in
    let ls = c.in_ok-lengths.lengths.value in
    let hs = c.in_ok-heights.heights.value in
    let es = c.in_ok-ends.ends.value in
    let x = c.in_ok-cond.cond.value in
    let o = c.in_ok-origins.origins.missed in
    let l = c.in_ok-lengths.lengths.missed in
    let h = c.in_ok-heights.heights.missed in
    let e = c.in_ok-ends.ends.missed in
    let f = c.in_ok-cond.cond.missed in
    let told : AreTold os left c.args.parts.now vs ls hs es x o l h e f =
    record {
      origins_miss = c.in_ok-origins.ensures.missed ∙ ap (λ (t : List ℕ). first_missed (vars_meet os t left)) c.child_text.ensures;
      lengths_miss = c.in_ok-lengths.ensures.missed ∙ ap (λ (t : List ℕ). first_missed (terms_meet os t left)) c.child_text-2.ensures;
      heights_miss = c.in_ok-heights.ensures.missed ∙ ap (λ (t : List ℕ). first_missed (terms_meet os t left)) c.child_text-3.ensures;
      ends_miss = c.in_ok-ends.ensures.missed ∙ ap (λ (o : Option (List ℕ)). first_missed (ends_meet os left o)) c.text_in.ensures;
      condition_misses = c.in_ok-cond.ensures.missed ∙ ap (λ (t : List ℕ). first_missed (limit_meets os left t)) c.child_text-4.ensures;
      origins_are = λ none. c.in_ok-origins.ensures.value none ∙ ap (vars_of os) c.child_text.ensures;
      lengths_are = λ none. c.in_ok-lengths.ensures.value none ∙ ap (terms_of os) c.child_text-2.ensures;
      heights_are = λ none. c.in_ok-heights.ensures.value none ∙ ap (terms_of os) c.child_text-3.ensures;
      ends_are = λ none. c.in_ok-ends.ensures.value none ∙ ap (ends_of os) c.text_in.ensures;
      condition_is = λ none. c.in_ok-cond.ensures.value none ∙ ap (condition_of os) c.child_text-4.ensures;
    } in
    let joined : c.earlier-2.result ≡ earlier_of (earlier_of o l) (earlier_of (earlier_of h e) f) =
    c.earlier-2.ensures.value
    ∙ ap (λ (m : Option Condition). earlier_of m c.earlier-rest.result) c.earlier-starts.ensures.value
    ∙ ap (λ (m : Option Condition). earlier_of (earlier_of o l) m) (c.earlier-rest.ensures.value ∙ ap (λ (m : Option Condition). earlier_of m f) c.earlier.ensures.value) in
    c.first_or.ensures ∙ tasks_miss os left c.args.parts.now vs ls hs es x o l h e f told c.earlier-2.result c.judge_tasks-sizes.result joined c.judge_tasks-sizes.ensures

pub returns-clause-value : goal.returns-clause-value
returns-clause-value c = λ none.
    let os = c.args.names.now in
    let left = c.args.left in
    let vs = c.in_ok-origins.origins.value in
    let ls = c.in_ok-lengths.lengths.value in
    let hs = c.in_ok-heights.heights.value in
    let es = c.in_ok-ends.ends.value in
    let x = c.in_ok-cond.cond.value in
    let o = c.in_ok-origins.origins.missed in
    let l = c.in_ok-lengths.lengths.missed in
    let h = c.in_ok-heights.heights.missed in
    let e = c.in_ok-ends.ends.missed in
    let f = c.in_ok-cond.cond.missed in
    let told : AreTold os left c.args.parts.now vs ls hs es x o l h e f =
    record {
      origins_miss = c.in_ok-origins.ensures.missed ∙ ap (λ (t : List ℕ). first_missed (vars_meet os t left)) c.child_text.ensures;
      lengths_miss = c.in_ok-lengths.ensures.missed ∙ ap (λ (t : List ℕ). first_missed (terms_meet os t left)) c.child_text-2.ensures;
      heights_miss = c.in_ok-heights.ensures.missed ∙ ap (λ (t : List ℕ). first_missed (terms_meet os t left)) c.child_text-3.ensures;
      ends_miss = c.in_ok-ends.ensures.missed ∙ ap (λ (o : Option (List ℕ)). first_missed (ends_meet os left o)) c.text_in.ensures;
      condition_misses = c.in_ok-cond.ensures.missed ∙ ap (λ (t : List ℕ). first_missed (limit_meets os left t)) c.child_text-4.ensures;
      origins_are = λ none. c.in_ok-origins.ensures.value none ∙ ap (vars_of os) c.child_text.ensures;
      lengths_are = λ none. c.in_ok-lengths.ensures.value none ∙ ap (terms_of os) c.child_text-2.ensures;
      heights_are = λ none. c.in_ok-heights.ensures.value none ∙ ap (terms_of os) c.child_text-3.ensures;
      ends_are = λ none. c.in_ok-ends.ensures.value none ∙ ap (ends_of os) c.text_in.ensures;
      condition_is = λ none. c.in_ok-cond.ensures.value none ∙ ap (condition_of os) c.child_text-4.ensures;
    } in
    let joined : c.earlier-2.result ≡ earlier_of (earlier_of o l) (earlier_of (earlier_of h e) f) =
    c.earlier-2.ensures.value
    ∙ ap (λ (m : Option Condition). earlier_of m c.earlier-rest.result) c.earlier-starts.ensures.value
    ∙ ap (λ (m : Option Condition). earlier_of (earlier_of o l) m) (c.earlier-rest.ensures.value ∙ ap (λ (m : Option Condition). earlier_of m f) c.earlier.ensures.value) in
    tasks_are os left c.args.parts.now vs ls hs es x o l h e f told c.earlier-2.result c.judge_tasks-sizes.result joined (sym c.first_or.ensures ∙ none)
