use Rattle.std.proofs.Common.{◌++◌, List, ℕ, codes, map, ap, ◌∙◌, append_assoc}
use Rattle.std.specs.List.{flat_map}
use Rattle.xs_language.specs.Written.{tuple_text}
use Rattle.xs_language.proofs.write.write_tuples.Goals as goal

pub loop-tuple-init : goal.loop-tuple-init
loop-tuple-init c =
    let rest = flat_map (λ (w : List ℕ). w ++ codes " ") (map tuple_text c.args.tuples.now) in
    ap (λ xs. xs ++ rest) c.in_ok-extend_from_slice.ensures.items ∙ append_assoc c.args.out.now.items (codes " ") rest
