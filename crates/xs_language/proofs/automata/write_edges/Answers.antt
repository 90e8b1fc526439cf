use Rattle.std.proofs.Common.{◌++◌, List, ℕ, codes, map, ap, ◌∙◌, append_assoc}
use Rattle.std.specs.List.{flat_map}
use Rattle.xs_language.specs.Written.{edge_text}
use Rattle.xs_language.proofs.automata.write_edges.Goals as goal

pub loop-edge-init : goal.loop-edge-init
loop-edge-init c =
    let rest = flat_map (λ (w : List ℕ). w ++ codes " ") (map edge_text c.args.edges.now) in
    ap (λ xs. xs ++ rest) c.in_ok-extend_from_slice.ensures.items ∙ append_assoc c.args.out.now.items (codes " ") rest
