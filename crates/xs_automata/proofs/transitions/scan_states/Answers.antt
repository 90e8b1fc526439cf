use Rattle.xs_automata.proofs.ScanLemmas.{listed_missed, listed_numbers, listing_begins, state_taken}
use Rattle.xs_fields.specs.Words.{words_of}
use Rattle.xs_automata.proofs.transitions.scan_states.Goals as goal

pub loop-name-preserved : goal.loop-name-preserved
loop-name-preserved c =
    state_taken c.args.states.now c.args.text.now c.args.left c.loop-name.missed c.in_ok-missed.missed c.loop-name.numbers c.take_state.new.numbers c.loop-name.states c.take_state.new.states
    (words_of c.loop-name.rest.now) (words_of c.in-Some.more.now) c.in-Some.name.now c.in-Some.ensures.value
    c.in_ok-missed.ensures.missed c.in_ok-missed.ensures.value c.in_ok-missed.ensures.known c.loop-name.invariant

pub loop-name-init : goal.loop-name-init
loop-name-init c = listing_begins c.args.states.now c.args.text.now c.args.left c.new-numbers.result c.new-numbers.ensures

pub returns-clause-missed : goal.returns-clause-missed
returns-clause-missed c = listed_missed c.args.states.now c.args.text.now c.args.left c.loop-name.missed c.loop-name.numbers c.loop-name.states (words_of c.loop-name.rest.now) c.in_default.ensures.value c.loop-name.invariant

pub returns-clause-value : goal.returns-clause-value
returns-clause-value c = λ e. listed_numbers c.args.states.now c.args.text.now c.args.left c.loop-name.missed c.loop-name.numbers c.loop-name.states (words_of c.loop-name.rest.now) c.in_default.ensures.value c.loop-name.invariant e
