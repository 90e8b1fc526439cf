use Rattle.std.proofs.Common.{◌≡◌, ◌+◌, ◌∙◌, ℕ, List, nat_eq, length, map, Err, ap, sym}
use Rattle.xf_text.specs.declared.fault.FieldStop.TheVariants.{Refused}
use Rattle.xs_boxes.specs.Boxes.{lengths_of, origins_of, rows_meet, texts_meet}
use Rattle.xs_boxes.proofs.MissedLemmas.{texts_fit}
use Rattle.xs_fields.specs.Conditions.{first_missed}
use Rattle.xs_model.specs.Formed.{total}
use Rattle.xs_model.specs.declared.instance.Constraint.TheVariants.{NoOverlap}
use Rattle.xs_model.specs.declared.term.Term.{Term}
use Rattle.xs_tables.proofs.TableLemmas.{refused, settled}
use Rattle.xs_boxes.proofs.boxes.read_boxes.Goals as goal

pub returns-in-Some : goal.returns-in-Some
returns-in-Some c =
    let os = c.args.names.now in
    let left = c.args.left in
    let a = c.args.origins.now in
    let b = c.args.lengths.now in
    let origins = origins_of os a b in
    let lengths = lengths_of os a b in
    ap (λ k. Err (Refused k)) c.kind.ensures
    ∙ refused (texts_meet os left a b) (total (map length origins) + total (map length lengths)) left (nat_eq (length lengths) (length origins)) (NoOverlap origins lengths c.args.zero_ignored) (texts_fit os left a b) c.in-Some.missed
    (sym c.in_ok-reading.ensures.missed ∙ c.in-Some.is)

pub returns-in-None : goal.returns-in-None
returns-in-None c =
    let os = c.args.names.now in
    let left = c.args.left in
    let a = c.args.origins.now in
    let b = c.args.lengths.now in
    let z = c.args.zero_ignored in
    let origins = origins_of os a b in
    let lengths = lengths_of os a b in
    let rows = c.in_ok-reading.reading.value.origins in
    let others = c.in_ok-reading.reading.value.lengths in
    let rows_are : rows ≡ origins = c.in_ok-reading.ensures.origins c.in-None.is in
    let others_are : others ≡ lengths = c.in_ok-reading.ensures.lengths c.in-None.is in
    settled (texts_meet os left a b) (total (map length origins) + total (map length lengths)) left (nat_eq (length lengths) (length origins)) c.judge_rows-missed.result
    (NoOverlap rows others z) (NoOverlap origins lengths z) c.answered.result c.answered.ensures (sym c.in_ok-reading.ensures.missed ∙ c.in-None.is)
    (c.judge_rows-missed.ensures ∙ ap (λ (r : List (List ℕ)). first_missed (rows_meet left r others)) rows_are ∙ ap (λ (r : List (List Term)). first_missed (rows_meet left origins r)) others_are)
    (ap (λ (r : List (List ℕ)). NoOverlap r others z) rows_are ∙ ap (λ (r : List (List Term)). NoOverlap origins r z) others_are)
