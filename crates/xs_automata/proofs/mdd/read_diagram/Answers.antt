use Rattle.std.proofs.Common.{◌≡◌, ◌+◌, ◌*◌, ◌<◌, ◌&&◌, ℕ, List, [], None, length, Err, ap, sym, subst, ◌∙◌}
use Rattle.std.specs.List.{AllByRecursion}
use Rattle.xf_text.specs.declared.fault.FieldStop.TheVariants.{Refused}
use Rattle.xs_automata.specs.Ends.{has_ends, leaf_of, root_of, told}
use Rattle.xs_automata.specs.Mdd.{diagram_of}
use Rattle.xs_automata.specs.Numbers.{edges_from, with_steps}
use Rattle.xs_automata.specs.Transitions.{steps_of, transitions_meet}
use Rattle.xs_automata.proofs.NumberLemmas.{edges_below, edges_many}
use Rattle.xs_automata.proofs.TextLemmas.{decided, diagram_texts_fit}
use Rattle.xs_fields.specs.Cells.{vars_meet, vars_of}
use Rattle.xs_fields.specs.Conditions.{earlier_of, first_missed}
use Rattle.xs_model.specs.declared.instance.Constraint.TheVariants.{Mdd}
use Rattle.xs_model.specs.declared.instance.Edge.{Edge}
use Rattle.xs_tables.specs.Tables.{sizes_meet}
use Rattle.xs_tables.proofs.TableLemmas.{first_none, refused, second_none}
use Rattle.xs_automata.proofs.mdd.read_diagram.Goals as goal

pub returns-in-Some : goal.returns-in-Some
returns-in-Some c =
    let os = c.args.names.now in
    let left = c.args.left in
    let list = c.args.list.now in
    let transitions = c.args.transitions.now in
    let both = c.earlier.ensures.joins (vars_meet os list left) (transitions_meet transitions left) c.in_ok-list.ensures.missed c.in_ok-edges.ensures.missed in
    ap (λ k. Err (Refused k)) c.kind.ensures
    ∙ refused (λ k. vars_meet os list left k && transitions_meet transitions left k) (length (vars_of os list) + 3 * length (steps_of transitions)) left (has_ends (edges_from [] (steps_of transitions)))
    (diagram_of os list transitions) (diagram_texts_fit os list transitions left) c.in-Some.missed (sym both ∙ c.in-Some.is)

pub read_ends-requires-clause-from : goal.read_ends-requires-clause-from
read_ends-requires-clause-from c =
    let ss = steps_of c.args.transitions.now in
    let none = second_none c.in_ok-list.list.missed c.in_ok-edges.edges.missed (sym c.earlier.ensures.value ∙ c.in-None.is) in
    let edges_are : c.in_ok-edges.edges.value ≡ edges_from [] ss = c.in_ok-edges.ensures.value none ∙ ap (λ (ks : List (List ℕ)). edges_from ks ss) c.new-states.ensures in
    let known_are : c.scan_transitions.new.states ≡ with_steps [] ss = c.in_ok-edges.ensures.known none ∙ ap (λ (ks : List (List ℕ)). with_steps ks ss) c.new-states.ensures in
    subst (λ (n : ℕ). AllByRecursion (λ e. e.from < n) c.in_ok-edges.edges.value) (ap (λ (ks : List (List ℕ)). length ks) (sym known_are) ∙ sym c.count.ensures)
    (subst (λ (es : List Edge). AllByRecursion (λ e. e.from < length (with_steps [] ss)) es) (sym edges_are) (edges_below [] ss).0)

pub read_ends-requires-clause-to : goal.read_ends-requires-clause-to
read_ends-requires-clause-to c =
    let ss = steps_of c.args.transitions.now in
    let none = second_none c.in_ok-list.list.missed c.in_ok-edges.edges.missed (sym c.earlier.ensures.value ∙ c.in-None.is) in
    let edges_are : c.in_ok-edges.edges.value ≡ edges_from [] ss = c.in_ok-edges.ensures.value none ∙ ap (λ (ks : List (List ℕ)). edges_from ks ss) c.new-states.ensures in
    let known_are : c.scan_transitions.new.states ≡ with_steps [] ss = c.in_ok-edges.ensures.known none ∙ ap (λ (ks : List (List ℕ)). with_steps ks ss) c.new-states.ensures in
    subst (λ (n : ℕ). AllByRecursion (λ e. e.to < n) c.in_ok-edges.edges.value) (ap (λ (ks : List (List ℕ)). length ks) (sym known_are) ∙ sym c.count.ensures)
    (subst (λ (es : List Edge). AllByRecursion (λ e. e.to < length (with_steps [] ss)) es) (sym edges_are) (edges_below [] ss).1)

pub returns : goal.returns
returns c =
    let os = c.args.names.now in
    let left = c.args.left in
    let list = c.args.list.now in
    let transitions = c.args.transitions.now in
    let ss = steps_of transitions in
    let vs = c.in_ok-list.list.value in
    let es = c.in_ok-edges.edges.value in
    let both = c.earlier.ensures.joins (vars_meet os list left) (transitions_meet transitions left) c.in_ok-list.ensures.missed c.in_ok-edges.ensures.missed in
    let none : earlier_of c.in_ok-list.list.missed c.in_ok-edges.edges.missed ≡ None = sym c.earlier.ensures.value ∙ c.in-None.is in
    let vars_are : vs ≡ vars_of os list = c.in_ok-list.ensures.value (first_none c.in_ok-list.list.missed c.in_ok-edges.edges.missed none) in
    let edges_are : es ≡ edges_from [] ss = c.in_ok-edges.ensures.value (second_none c.in_ok-list.list.missed c.in_ok-edges.edges.missed none) ∙ ap (λ (ks : List (List ℕ)). edges_from ks ss) c.new-states.ensures in
    let many : length es ≡ length ss = ap (λ (xs : List Edge). length xs) edges_are ∙ edges_many [] ss in
    decided (λ k. vars_meet os list left k && transitions_meet transitions left k) (length (vars_of os list) + 3 * length ss) left (has_ends (edges_from [] ss))
    (first_missed (sizes_meet (length vs + 3 * length es) left (has_ends es))) (Mdd vs es (told (root_of es)) (told (leaf_of es))) (diagram_of os list transitions) c.read_ends.result
    (c.read_ends.ensures (length vs + 3 * length es) left c.are_few-few.ensures) (sym both ∙ c.in-None.is)
    (ap (λ (us : List ℕ). first_missed (sizes_meet (length us + 3 * length es) left (has_ends es))) vars_are
    ∙ ap (λ (n : ℕ). first_missed (sizes_meet (length (vars_of os list) + 3 * n) left (has_ends es))) many
    ∙ ap (λ (xs : List Edge). first_missed (sizes_meet (length (vars_of os list) + 3 * length ss) left (has_ends xs))) edges_are)
    (ap (λ (us : List ℕ). Mdd us es (told (root_of es)) (told (leaf_of es))) vars_are ∙ ap (λ (xs : List Edge). Mdd (vars_of os list) xs (told (root_of xs)) (told (leaf_of xs))) edges_are)
