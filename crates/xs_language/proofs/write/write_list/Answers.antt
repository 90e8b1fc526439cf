use Rattle.std.proofs.Common.{◌++◌, [], List, ℕ, codes, map, get_or, ap, ◌∙◌, append_assoc}
use Rattle.std.specs.List.{flat_map}
use Rattle.xs_model.specs.Names.{words}
use Rattle.xs_language.proofs.write.write_list.Goals as goal

pub loop-variable-init : goal.loop-variable-init
loop-variable-init c =
    let rest = flat_map (λ (w : List ℕ). w ++ codes " ") (map (λ v. get_or (words c.args.decls.now) v []) c.args.list.now) in
    ap (λ xs. xs ++ rest) c.in_ok-extend_from_slice.ensures.items ∙ append_assoc c.args.out.now.items (codes " ") rest
