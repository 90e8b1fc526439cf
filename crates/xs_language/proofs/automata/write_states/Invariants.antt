use Rattle.std.proofs.Common.{◌≡◌, ◌++◌, codes, drop, map}
use Rattle.std.specs.List.{flat_map}
use Rattle.xs_language.specs.Written.{state_text, states_text}
use Rattle.xs_language.proofs.automata.write_states.Given as goal

abbrev pub invariant-loop-state : goal.invariant-loop-state
invariant-loop-state l = l.out.items ++ flat_map (λ w. w ++ codes " ") (map state_text (drop l.state-index l.states)) ≡ l.fn.out.items ++ states_text l.states
