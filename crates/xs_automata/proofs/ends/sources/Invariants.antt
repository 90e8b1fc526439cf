use Rattle.std.proofs.Common.{◌≡◌, ℕ, ◌||◌, drop, length}
use Rattle.xs_automata.specs.Ends.{is_source}
use Rattle.xs_paths.specs.Flags.{flag}
use Rattle.xs_automata.proofs.ends.sources.Given as goal

abbrev pub invariant-loop-edge : goal.invariant-loop-edge
invariant-loop-edge l = record {
  len : length l.flags.items ≡ l.count;
  value : (q : ℕ) → (flag l.flags.items q || is_source (drop l.edge-index l.edges) q) ≡ is_source l.edges q;
}
