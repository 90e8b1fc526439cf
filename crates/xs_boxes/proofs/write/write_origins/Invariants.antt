use Rattle.std.proofs.Common.{◌≡◌, ◌++◌, codes, drop, map}
use Rattle.std.specs.List.{flat_map}
use Rattle.xs_model.specs.Names.{words}
use Rattle.xs_boxes.specs.Written.{is_flat, origin_word, origins_text}
use Rattle.xs_boxes.proofs.write.write_origins.Given as goal

abbrev pub invariant-loop-origin : goal.invariant-loop-origin
invariant-loop-origin l = l.out.items ++ flat_map (λ w. w ++ codes " ") (map (origin_word (words l.decls) (is_flat l.origins)) (drop l.origin-index l.origins)) ≡ l.fn.out.items ++ origins_text (words l.decls) l.origins
