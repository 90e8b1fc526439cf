use Rattle.std.proofs.Common.{◌++◌, List, ℕ, codes, map, ap, ◌∙◌, append_assoc}
use Rattle.std.specs.List.{flat_map}
use Rattle.xs_model.specs.Names.{words}
use Rattle.xs_boxes.specs.Written.{is_flat, origin_word}
use Rattle.xs_boxes.proofs.write.write_origins.Goals as goal

pub loop-origin-init : goal.loop-origin-init
loop-origin-init c =
    let rows = c.args.origins.now in
    let rest = flat_map (λ (w : List ℕ). w ++ codes " ") (map (origin_word (words c.args.decls.now) (is_flat rows)) rows) in
    ap (λ xs. xs ++ rest) c.in_ok-extend_from_slice.ensures.items ∙ append_assoc c.args.out.now.items (codes " ") rest
