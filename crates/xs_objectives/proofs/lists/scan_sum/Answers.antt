use Rattle.std.proofs.Common.{◌≡◌, ◌∙◌, ◌+◌, ◌&&◌, Bor, ℕ, List, nat_eq, length, ap, sym}
use Rattle.std.specs.Option.{option_map}
use Rattle.xs_fields.specs.Cells.{vars_meet, vars_of}
use Rattle.xs_fields.specs.Conditions.{first_missed}
use Rattle.xs_fields.specs.declared.condition.Condition.TheVariants.{Fitting}
use Rattle.xs_model.specs.declared.instance.Body.TheVariants as body
use Rattle.xs_model.specs.declared.term.Term.{Term}
use Rattle.xs_objectives.specs.Lists.{coeffs_meet, coeffs_of}
use Rattle.xs_objectives.proofs.MissedLemmas.{coeffs_fit, second_decides}
use Rattle.xs_parts.proofs.JoinLemmas.{none_behind}
use Rattle.xs_tables.specs.Tables.{sizes_meet}
use Rattle.xs_tables.proofs.TableLemmas.{both_true, first_none, texts_first, vars_fit}
use Rattle.xs_objectives.proofs.lists.scan_sum.Goals as goal

pub returns-in-Some-clause-missed : goal.returns-in-Some-clause-missed
returns-in-Some-clause-missed c =
    let os = c.args.names.now in
    let left = c.args.left in
    let list = c.args.list.now in
    let coeffs = option_map (λ (x : Bor (List ℕ)). x.now) c.args.coeffs in
    let n = length (vars_of os list) in
    let both = c.earlier.ensures.joins (vars_meet os list left) (coeffs_meet os left coeffs) c.in_ok-list.ensures.missed c.in_ok-coeffs.ensures.missed in
    sym (texts_first (λ k. vars_meet os list left k && coeffs_meet os left coeffs k) (n + length (coeffs_of os coeffs n)) left (nat_eq (length (coeffs_of os coeffs n)) n)
    (both_true (vars_meet os list left Fitting) (coeffs_meet os left coeffs Fitting) (vars_fit os list left) (coeffs_fit os left coeffs)) c.in-Some.missed (sym both ∙ c.in-Some.is))

pub returns-in-None-clause-missed : goal.returns-in-None-clause-missed
returns-in-None-clause-missed c =
    let os = c.args.names.now in
    let left = c.args.left in
    let list = c.args.list.now in
    let coeffs = option_map (λ (x : Bor (List ℕ)). x.now) c.args.coeffs in
    let both = c.earlier.ensures.joins (vars_meet os list left) (coeffs_meet os left coeffs) c.in_ok-list.ensures.missed c.in_ok-coeffs.ensures.missed in
    let none = sym c.earlier.ensures.value ∙ c.in-None.is in
    let vars = c.in_ok-list.list.value in
    let terms = c.in_ok-coeffs.coeffs.value in
    let vars_are : vars ≡ vars_of os list = c.in_ok-list.ensures.value (first_none c.in_ok-list.list.missed c.in_ok-coeffs.coeffs.missed none) in
    let terms_are : terms ≡ coeffs_of os coeffs (length (vars_of os list)) =
    c.in_ok-coeffs.ensures.value (none_behind c.in_ok-list.list.missed c.in_ok-coeffs.coeffs.missed none) ∙ ap (λ (vs : List ℕ). coeffs_of os coeffs (length vs)) vars_are in
    let sizes = λ (vs : List ℕ) (ts : List Term). first_missed (sizes_meet (length vs + length ts) left (nat_eq (length ts) (length vs))) in
    let n = length (vars_of os list) in
    c.judge_sum-missed.ensures ∙ ap (λ (vs : List ℕ). sizes vs terms) vars_are ∙ ap (λ (ts : List Term). sizes (vars_of os list) ts) terms_are
    ∙ second_decides (λ k. vars_meet os list left k && coeffs_meet os left coeffs k) (sizes_meet (n + length (coeffs_of os coeffs n)) left (nat_eq (length (coeffs_of os coeffs n)) n)) (sym both ∙ c.in-None.is)

pub returns-in-None-clause-value : goal.returns-in-None-clause-value
returns-in-None-clause-value c = λ h.
    let os = c.args.names.now in
    let list = c.args.list.now in
    let coeffs = option_map (λ (x : Bor (List ℕ)). x.now) c.args.coeffs in
    let none = sym c.earlier.ensures.value ∙ c.in-None.is in
    let vars = c.in_ok-list.list.value in
    let terms = c.in_ok-coeffs.coeffs.value in
    let vars_are : vars ≡ vars_of os list = c.in_ok-list.ensures.value (first_none c.in_ok-list.list.missed c.in_ok-coeffs.coeffs.missed none) in
    let terms_are : terms ≡ coeffs_of os coeffs (length (vars_of os list)) =
    c.in_ok-coeffs.ensures.value (none_behind c.in_ok-list.list.missed c.in_ok-coeffs.coeffs.missed none) ∙ ap (λ (vs : List ℕ). coeffs_of os coeffs (length vs)) vars_are in
    ap (λ (vs : List ℕ). body.Sum vs terms) vars_are ∙ ap (λ (ts : List Term). body.Sum (vars_of os list) ts) terms_are
