use Rattle.std.proofs.Common.{◌≡◌, ◌+◌, ◌*◌, ◌&&◌, Bool, ℕ, List, [], None, nat_lt, length, Err, ap, sym, ◌∙◌}
use Rattle.xf_text.specs.declared.fault.FieldStop.TheVariants.{Refused}
use Rattle.xs_automata.specs.Numbers.{edges_from, number_of, numbers_from, with_name, with_steps}
use Rattle.xs_automata.specs.Regular.{automaton_of, items_in}
use Rattle.xs_automata.specs.Transitions.{state_meets, state_of, states_meet, states_of, steps_of, transitions_meet}
use Rattle.xs_automata.proofs.NumberLemmas.{edges_many, numbers_many}
use Rattle.xs_automata.proofs.TextLemmas.{automaton_texts_fit}
use Rattle.xs_fields.specs.Cells.{vars_meet, vars_of}
use Rattle.xs_fields.specs.Conditions.{earlier_of, first_missed}
use Rattle.xs_model.specs.declared.instance.Constraint.TheVariants.{Regular}
use Rattle.xs_model.specs.declared.instance.Edge.{Edge}
use Rattle.xs_tables.specs.Tables.{sizes_meet}
use Rattle.xs_tables.proofs.TableLemmas.{first_none, refused, second_none, settled}
use Rattle.xs_automata.proofs.regular.read_automaton.Goals as goal

pub returns-in-Some : goal.returns-in-Some
returns-in-Some c =
    let os = c.args.names.now in
    let left = c.args.left in
    let list = c.args.list.now in
    let transitions = c.args.transitions.now in
    let start = c.args.start.now in
    let finals = c.args.finals.now in
    let ends = c.earlier-ends.ensures.joins (state_meets start) (states_meet finals left) c.in_ok-start.ensures.missed c.in_ok-finals.ensures.missed in
    let behind = c.earlier-behind.ensures.joins (transitions_meet transitions left) (λ k. state_meets start k && states_meet finals left k) c.in_ok-edges.ensures.missed ends in
    let all = c.earlier.ensures.joins (vars_meet os list left) (λ k. transitions_meet transitions left k && (state_meets start k && states_meet finals left k)) c.in_ok-list.ensures.missed behind in
    ap (λ k. Err (Refused k)) c.kind.ensures
    ∙ refused (λ k. vars_meet os list left k && (transitions_meet transitions left k && (state_meets start k && states_meet finals left k))) (items_in os list transitions finals) left
    (nat_lt 0 (length (vars_of os list))) (automaton_of os list transitions start finals) (automaton_texts_fit os list transitions start finals left) c.in-Some.missed (sym all ∙ c.in-Some.is)

pub returns : goal.returns
returns c =
    let os = c.args.names.now in
    let left = c.args.left in
    let list = c.args.list.now in
    let transitions = c.args.transitions.now in
    let start = c.args.start.now in
    let finals = c.args.finals.now in
    let ss = steps_of transitions in
    let known = with_steps [] ss in
    let name = state_of start in
    let names = states_of finals in
    let vs = c.in_ok-list.list.value in
    let es = c.in_ok-edges.edges.value in
    let q = c.in_ok-start.start.value in
    let qs = c.in_ok-finals.finals.value in
    let ends = c.earlier-ends.ensures.joins (state_meets start) (states_meet finals left) c.in_ok-start.ensures.missed c.in_ok-finals.ensures.missed in
    let behind = c.earlier-behind.ensures.joins (transitions_meet transitions left) (λ k. state_meets start k && states_meet finals left k) c.in_ok-edges.ensures.missed ends in
    let all = c.earlier.ensures.joins (vars_meet os list left) (λ k. transitions_meet transitions left k && (state_meets start k && states_meet finals left k)) c.in_ok-list.ensures.missed behind in
    let none : earlier_of c.in_ok-list.list.missed c.earlier-behind.result ≡ None = sym c.earlier.ensures.value ∙ c.in-None.is in
    let none_behind : earlier_of c.in_ok-edges.edges.missed c.earlier-ends.result ≡ None = sym c.earlier-behind.ensures.value ∙ second_none c.in_ok-list.list.missed c.earlier-behind.result none in
    let none_ends : earlier_of c.in_ok-start.start.missed c.in_ok-finals.finals.missed ≡ None = sym c.earlier-ends.ensures.value ∙ second_none c.in_ok-edges.edges.missed c.earlier-ends.result none_behind in
    let edges_none = first_none c.in_ok-edges.edges.missed c.earlier-ends.result none_behind in
    let start_none = first_none c.in_ok-start.start.missed c.in_ok-finals.finals.missed none_ends in
    let finals_none = second_none c.in_ok-start.start.missed c.in_ok-finals.finals.missed none_ends in
    let vars_are : vs ≡ vars_of os list = c.in_ok-list.ensures.value (first_none c.in_ok-list.list.missed c.earlier-behind.result none) in
    let empty = c.new-states.ensures in
    let edges_are : es ≡ edges_from [] ss = c.in_ok-edges.ensures.value edges_none ∙ ap (λ (ks : List (List ℕ)). edges_from ks ss) empty in
    let known_are : c.scan_transitions.new.states ≡ known = c.in_ok-edges.ensures.known edges_none ∙ ap (λ (ks : List (List ℕ)). with_steps ks ss) empty in
    let start_is : q ≡ number_of known name = c.in_ok-start.ensures.value start_none ∙ ap (λ (ks : List (List ℕ)). number_of ks name) known_are in
    let after_are : c.scan_state.new.states ≡ with_name known name = c.in_ok-start.ensures.known start_none ∙ ap (λ (ks : List (List ℕ)). with_name ks name) known_are in
    let finals_are : qs ≡ numbers_from (with_name known name) names = c.in_ok-finals.ensures.value finals_none ∙ ap (λ (ks : List (List ℕ)). numbers_from ks names) after_are in
    let many : length es ≡ length ss = ap (λ (xs : List Edge). length xs) edges_are ∙ edges_many [] ss in
    let many_last : length qs ≡ length names = ap (λ (xs : List ℕ). length xs) finals_are ∙ numbers_many (with_name known name) names in
    settled (λ k. vars_meet os list left k && (transitions_meet transitions left k && (state_meets start k && states_meet finals left k))) (items_in os list transitions finals) left
    (nat_lt 0 (length (vars_of os list))) c.judge_sizes.result (Regular vs es q qs) (automaton_of os list transitions start finals) c.answered.result c.answered.ensures (sym all ∙ c.in-None.is)
    (c.judge_sizes.ensures (length vs + (3 * length es + (1 + length qs))) left c.are_few-few.ensures
    ∙ ap (λ (b : Bool). first_missed (sizes_meet (length vs + (3 * length es + (1 + length qs))) left b)) c.is_some-fits.ensures
    ∙ ap (λ (us : List ℕ). first_missed (sizes_meet (length us + (3 * length es + (1 + length qs))) left (nat_lt 0 (length us)))) vars_are
    ∙ ap (λ (n : ℕ). first_missed (sizes_meet (length (vars_of os list) + (3 * n + (1 + length qs))) left (nat_lt 0 (length (vars_of os list))))) many
    ∙ ap (λ (n : ℕ). first_missed (sizes_meet (length (vars_of os list) + (3 * length ss + (1 + n))) left (nat_lt 0 (length (vars_of os list))))) many_last)
    (ap (λ (us : List ℕ). Regular us es q qs) vars_are ∙ ap (λ (xs : List Edge). Regular (vars_of os list) xs q qs) edges_are
    ∙ ap (λ (p : ℕ). Regular (vars_of os list) (edges_from [] ss) p qs) start_is ∙ ap (λ (ps : List ℕ). Regular (vars_of os list) (edges_from [] ss) (number_of known name) ps) finals_are)
