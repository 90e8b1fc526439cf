use Rattle.std.proofs.Common.{◌++◌, List, ℕ, codes, map, ap, ◌∙◌, append_assoc}
use Rattle.std.specs.List.{flat_map}
use Rattle.xs_model.specs.Names.{words}
use Rattle.xs_tasks.specs.Written.{word_at}
use Rattle.xs_tasks.proofs.write.write_vars.Goals as goal

pub loop-variable-init : goal.loop-variable-init
loop-variable-init c =
    let rest = flat_map (λ (w : List ℕ). w ++ codes " ") (map (word_at (words c.args.decls.now)) c.args.list.now) in
    ap (λ xs. xs ++ rest) c.in_ok-extend_from_slice.ensures.items ∙ append_assoc c.args.out.now.items (codes " ") rest
