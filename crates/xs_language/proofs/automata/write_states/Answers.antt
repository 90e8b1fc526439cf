use Rattle.std.proofs.Common.{◌++◌, List, ℕ, codes, map, ap, ◌∙◌, append_assoc}
use Rattle.std.specs.List.{flat_map}
use Rattle.xs_language.specs.Written.{state_text}
use Rattle.xs_language.proofs.automata.write_states.Goals as goal

pub loop-state-init : goal.loop-state-init
loop-state-init c =
    let rest = flat_map (λ (w : List ℕ). w ++ codes " ") (map state_text c.args.states.now) in
    ap (λ xs. xs ++ rest) c.in_ok-extend_from_slice.ensures.items ∙ append_assoc c.args.out.now.items (codes " ") rest
