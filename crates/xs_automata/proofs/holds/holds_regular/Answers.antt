use Rattle.std.proofs.Common.{◌≡◌, ◌<◌, ◌≤◌, Bool, ℕ, List, length, sym, ap, subst, ◌∙◌}
use Rattle.std.specs.List.{AllByRecursion, list_any}
use Rattle.xs_automata.proofs.FlagLemmas.{as_long_in, below_more, flagged_front, last_below, long_in, states_below}
use Rattle.xs_forms.specs.Room.{flags_in}
use Rattle.xs_model.specs.Instance.{values}
use Rattle.xs_paths.specs.Flags.{flag, is_flagged}
use Rattle.xs_paths.proofs.Flags.{accepted_is_flagged}
use Rattle.xs_automata.proofs.holds.holds_regular.Goals as goal

pub run-second-requires-clause-from : goal.run-second-requires-clause-from
run-second-requires-clause-from c =
    subst (λ (n : ℕ). AllByRecursion (λ e. e.from < n) c.args.edges.now) (sym c.states_in-count.ensures.value) (states_below c.args.edges.now c.args.start c.args.finals.now).0

pub run-second-requires-clause-to : goal.run-second-requires-clause-to
run-second-requires-clause-to c =
    subst (λ (n : ℕ). AllByRecursion (λ e. e.to < n) c.args.edges.now) (sym c.states_in-count.ensures.value) (states_below c.args.edges.now c.args.start c.args.finals.now).1

pub run-second-requires-clause-start : goal.run-second-requires-clause-start
run-second-requires-clause-start c = subst (λ (n : ℕ). c.args.start < n) (sym c.states_in-count.ensures.value) (last_below c.args.edges.now c.args.start c.args.finals.now).0

pub is_flagged-requires : goal.is_flagged-requires
is_flagged-requires c =
    let second = c.run-second.result in
    let room = c.args.scratch.now in
    let count = c.states_in-count.result in
    let first_long : count ≤ length room.first = subst (λ (n : ℕ). n ≤ length room.first) (sym c.states_in-count.ensures.value) c.requires.first in
    let second_long : count ≤ length room.second = subst (λ (n : ℕ). n ≤ length room.second) (sym c.states_in-count.ensures.value) c.requires.second in
    let enough : count ≤ length (flags_in second c.run-second.new.scratch) =
    subst (λ (n : ℕ). count ≤ n) (sym (as_long_in room c.run-second.new.scratch second c.run-second.ensures.long)) (long_in count room second first_long second_long) in
    below_more count (length (flags_in second c.run-second.new.scratch)) enough c.args.finals.now
    (subst (λ (n : ℕ). AllByRecursion (λ q. q < n) c.args.finals.now) (sym c.states_in-count.ensures.value) (last_below c.args.edges.now c.args.start c.args.finals.now).1)

pub returns-clause-value : goal.returns-clause-value
returns-clause-value c =
    let edges = c.args.edges.now in
    let start = c.args.start in
    let finals = c.args.finals.now in
    let xs = values c.args.a.now c.args.list.now in
    let count = c.states_in-count.result in
    let flags = flags_in c.run-second.result c.run-second.new.scratch in
    let begin : start < count = subst (λ (n : ℕ). start < n) (sym c.states_in-count.ensures.value) (last_below edges start finals).0 in
    let targets = subst (λ (n : ℕ). AllByRecursion (λ e. e.to < n) edges) (sym c.states_in-count.ensures.value) (states_below edges start finals).1 in
    let below = subst (λ (n : ℕ). AllByRecursion (λ q. q < n) finals) (sym c.states_in-count.ensures.value) (last_below edges start finals).1 in
    let law = accepted_is_flagged count edges start finals xs begin targets in
    let is : c.is_flagged.result ≡ is_flagged count edges start finals xs =
    c.is_flagged.ensures ∙ flagged_front count flags finals below ∙ ap (λ (bs : List Bool). list_any (flag bs) finals) c.run-second.ensures.value in
    (λ h. law.1 (sym is ∙ h), λ h. is ∙ law.0 h)
