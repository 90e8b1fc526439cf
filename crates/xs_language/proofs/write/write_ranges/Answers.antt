use Rattle.std.proofs.Common.{◌++◌, List, ℕ, codes, map, ap, ◌∙◌, append_assoc}
use Rattle.std.specs.List.{flat_map}
use Rattle.xs_language.specs.Written.{range_text}
use Rattle.xs_language.proofs.write.write_ranges.Goals as goal

pub loop-span-init : goal.loop-span-init
loop-span-init c =
    let rest = flat_map (λ (w : List ℕ). w ++ codes " ") (map range_text c.args.spans.now) in
    ap (λ xs. xs ++ rest) c.in_ok-extend_from_slice.ensures.items ∙ append_assoc c.args.out.now.items (codes " ") rest
