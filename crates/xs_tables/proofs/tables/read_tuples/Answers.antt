use Rattle.std.proofs.Common.{◌≡◌, ◌+◌, ◌&&◌, Bool, ℕ, ℤ, List, Option, nat_eq, nat_lt, length, map, Err, ap, sym, ◌∙◌}
use Rattle.std.specs.List.{list_all}
use Rattle.xf_text.specs.declared.fault.FieldStop.TheVariants.{Refused}
use Rattle.xs_fields.specs.Cells.{vars_meet, vars_of}
use Rattle.xs_fields.specs.Conditions.{first_missed}
use Rattle.xs_model.specs.Formed.{total}
use Rattle.xs_model.specs.declared.instance.Constraint.TheVariants.{Extension}
use Rattle.xs_tables.specs.Tables.{sizes_meet, tuples_fit}
use Rattle.xs_tables.specs.Tuples.{tuples_meet, tuples_of}
use Rattle.xs_tables.proofs.TableLemmas.{both_true, first_none, refused, second_none, settled, tuples_spelt_fit, vars_fit}
use Rattle.xs_tables.proofs.tables.read_tuples.Goals as goal

pub returns-in-Some : goal.returns-in-Some
returns-in-Some c =
    let os = c.args.names.now in
    let left = c.args.left in
    let list = c.args.list.now in
    let text = c.args.text.now in
    let both = c.earlier.ensures.joins (vars_meet os list left) (tuples_meet text left) c.in_ok-list.ensures.missed c.in_ok-tuples.ensures.missed in
    record {
      value =
          ap (λ k. Err (Refused k)) c.kind.ensures
          ∙ refused (λ k. vars_meet os list left k && tuples_meet text left k) (length (vars_of os list) + total (map length (tuples_of text))) left (tuples_fit (length (vars_of os list)) text)
          (Extension (vars_of os list) (tuples_of text) c.args.positive) (both_true _ _ (vars_fit os list left) (tuples_spelt_fit text left)) c.in-Some.missed (sym both ∙ c.in-Some.is);
    }

pub returns-in-None : goal.returns-in-None
returns-in-None c =
    let os = c.args.names.now in
    let left = c.args.left in
    let list = c.args.list.now in
    let text = c.args.text.now in
    let both = c.earlier.ensures.joins (vars_meet os list left) (tuples_meet text left) c.in_ok-list.ensures.missed c.in_ok-tuples.ensures.missed in
    let vars = c.in_ok-list.list.value in
    let tuples = c.in_ok-tuples.tuples.value in
    let vars_are : vars ≡ vars_of os list = c.in_ok-list.ensures.value (first_none c.in_ok-list.list.missed c.in_ok-tuples.tuples.missed (sym c.earlier.ensures.value ∙ c.in-None.is)) in
    let tuples_are : tuples ≡ tuples_of text = c.in_ok-tuples.ensures.value (second_none c.in_ok-list.list.missed c.in_ok-tuples.tuples.missed (sym c.earlier.ensures.value ∙ c.in-None.is)) in
    let sizes = λ (vs : List ℕ) (ts : List (List (Option ℤ))). first_missed (sizes_meet (length vs + total (map length ts)) left (nat_lt 0 (length vs) && list_all (λ t. nat_eq (length t) (length vs)) ts)) in
    record {
      value =
          settled (λ k. vars_meet os list left k && tuples_meet text left k) (length (vars_of os list) + total (map length (tuples_of text))) left (tuples_fit (length (vars_of os list)) text)
          c.judge_sizes.result (Extension vars tuples c.args.positive) (Extension (vars_of os list) (tuples_of text) c.args.positive) c.answered.result
          c.answered.ensures (sym both ∙ c.in-None.is)
          (c.judge_sizes.ensures (length vars + total (map length tuples)) left c.are_tuples_few-few.ensures
          ∙ ap (λ (b : Bool). first_missed (sizes_meet (length vars + total (map length tuples)) left b)) c.tuples_fit-fits.ensures
          ∙ ap (λ (vs : List ℕ). sizes vs tuples) vars_are ∙ ap (λ (ts : List (List (Option ℤ))). sizes (vars_of os list) ts) tuples_are)
          (ap (λ (vs : List ℕ). Extension vs tuples c.args.positive) vars_are ∙ ap (λ (ts : List (List (Option ℤ))). Extension (vars_of os list) ts c.args.positive) tuples_are);
    }
