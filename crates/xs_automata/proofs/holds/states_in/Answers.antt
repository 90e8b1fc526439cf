use Rattle.xs_automata.proofs.FlagLemmas.{past_is}
use Rattle.xs_automata.proofs.holds.states_in.Goals as goal

pub returns-clause-value : goal.returns-clause-value
returns-clause-value c =
    past_is c.args.edges.now c.args.start c.args.finals.now c.past_edges.result c.max.result c.past_finals.result c.past_edges.ensures.value c.max.ensures c.past_finals.ensures.value
