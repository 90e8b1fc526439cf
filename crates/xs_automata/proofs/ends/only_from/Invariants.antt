use Rattle.std.proofs.Common.{◌≡◌, drop, map}
use Rattle.std.specs.Prelude.{filter, not}
use Rattle.xs_automata.specs.Ends.{only_of}
use Rattle.xs_automata.proofs.EndLemmas.{only_with}
use Rattle.xs_paths.specs.Flags.{flag}
use Rattle.xs_automata.proofs.ends.only_from.Given as goal

abbrev pub invariant-loop-edge : goal.invariant-loop-edge
invariant-loop-edge l = only_with l.only (filter (λ q. not (flag l.flags q)) (map (λ e. e.from) (drop l.edge-index l.edges))) ≡ only_of (filter (λ q. not (flag l.flags q)) (map (λ e. e.from) l.edges))
