use Rattle.std.proofs.Common.{◌≡◌, ◌+◌, ◌*◌, ◌&&◌, ◌||◌, Bool, ℕ, List, nat_eq, nat_lt, length, Err, ap, sym, ◌∙◌}
use Rattle.xf_num.specs.Span.{Bounds}
use Rattle.xf_text.specs.declared.fault.FieldStop.TheVariants.{Refused}
use Rattle.xs_fields.specs.Cells.{vars_meet, vars_of}
use Rattle.xs_fields.specs.Conditions.{answer_on, first_missed}
use Rattle.xs_fields.specs.Lists.{pieces_meet, pieces_of}
use Rattle.xs_model.specs.declared.instance.Constraint.{Constraint}
use Rattle.xs_tables.specs.Tables.{ranged, ranges_fit, sizes_meet}
use Rattle.xs_tables.proofs.TableLemmas.{both_true, first_none, refused, settled, pieces_spelt_fit, vars_fit}
use Rattle.xs_tables.proofs.tables.read_ranges.Goals as goal

pub returns-in-Some : goal.returns-in-Some
returns-in-Some c =
    let os = c.args.names.now in
    let left = c.args.left in
    let list = c.args.list.now in
    let text = c.args.text.now in
    let both = c.earlier.ensures.joins (vars_meet os list left) (pieces_meet text) c.in_ok-list.ensures.missed c.in_ok-spans.ensures.missed in
    record {
      value =
          ap (λ k. Err (Refused k)) c.kind.ensures
          ∙ refused (λ k. vars_meet os list left k && pieces_meet text k) (length (vars_of os list) + 2 * length (pieces_of text)) left (ranges_fit (length (vars_of os list)) text)
          (ranged c.args.positive (vars_of os list) (pieces_of text)) (both_true _ _ (vars_fit os list left) (pieces_spelt_fit text)) c.in-Some.missed (sym both ∙ c.in-Some.is);
    }

pub returns-in-None : goal.returns-in-None
returns-in-None c =
    let os = c.args.names.now in
    let left = c.args.left in
    let list = c.args.list.now in
    let text = c.args.text.now in
    let both = c.earlier.ensures.joins (vars_meet os list left) (pieces_meet text) c.in_ok-list.ensures.missed c.in_ok-spans.ensures.missed in
    let vars = c.in_ok-list.list.value in
    let tuples = c.in_ok-spans.spans.value in
    let vars_are : vars ≡ vars_of os list = c.in_ok-list.ensures.value (first_none c.in_ok-list.list.missed c.in_ok-spans.spans.missed (sym c.earlier.ensures.value ∙ c.in-None.is)) in
    let tuples_are : tuples ≡ pieces_of text = c.in_ok-spans.ensures.value in
    let sizes = λ (vs : List ℕ) (ts : List Bounds). first_missed (sizes_meet (length vs + 2 * length ts) left (nat_lt 0 (length vs) && (nat_eq (length vs) 1 || nat_eq (length ts) 0))) in
    record {
      value =
          settled (λ k. vars_meet os list left k && pieces_meet text k) (length (vars_of os list) + 2 * length (pieces_of text)) left (ranges_fit (length (vars_of os list)) text)
          c.judge_sizes.result (ranged c.args.positive vars tuples) (ranged c.args.positive (vars_of os list) (pieces_of text)) c.answered.result
          (c.answered.ensures ∙ ap (λ (x : Constraint). answer_on c.judge_sizes.result x) c.ranged.ensures) (sym both ∙ c.in-None.is)
          (c.judge_sizes.ensures (length vars + 2 * length tuples) left c.are_ranges_few-few.ensures
          ∙ ap (λ (b : Bool). first_missed (sizes_meet (length vars + 2 * length tuples) left b)) c.ranges_fit-fits.ensures
          ∙ ap (λ (vs : List ℕ). sizes vs tuples) vars_are ∙ ap (λ (ts : List Bounds). sizes (vars_of os list) ts) tuples_are)
          (ap (λ (vs : List ℕ). ranged c.args.positive vs tuples) vars_are ∙ ap (λ (ts : List Bounds). ranged c.args.positive (vars_of os list) ts) tuples_are);
    }
