use Rattle.std.proofs.Common.{◌≡◌, ◌++◌, codes, drop, map}
use Rattle.std.specs.List.{flat_map}
use Rattle.xs_language.specs.Written.{edge_text, transitions_text}
use Rattle.xs_language.proofs.automata.write_edges.Given as goal

abbrev pub invariant-loop-edge : goal.invariant-loop-edge
invariant-loop-edge l = l.out.items ++ flat_map (λ w. w ++ codes " ") (map edge_text (drop l.edge-index l.edges)) ≡ l.fn.out.items ++ transitions_text l.edges
