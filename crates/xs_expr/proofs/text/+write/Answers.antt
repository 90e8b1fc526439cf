use Rattle.std.proofs.Common.{◌≡◌, ◌++◌, List, ℕ, [], rules, length, map, codes, ap, sym, ◌∙◌}
use Rattle.xs_model.specs.Names.{words}
use Rattle.xs_model.specs.declared.expr.Expr.{Expr, the_lemmas}
use Rattle.xs_model.specs.Bounds.{HasVariable}
use Rattle.xs_expr.specs.Text.{joined_from, name_of, written}
use Rattle.xs_expr.proofs.Every.{every-operands, every-var}
use Rattle.xs_expr.proofs.Layers.{regrouped, written-Node}
use Rattle.xs_expr.proofs.text.+write.Goals as goal

pub write_node-word-requires : goal.write_node-word-requires
write_node-word-requires t c = record {
  sound = c.requires.sound;
  declared = every-var (HasVariable (length (words c.args.decls.now))) _ _ c.in-Var.is c.requires.variables;
}

pub write_node-write_operands-requires : goal.write_node-write_operands-requires
write_node-write_operands-requires t c = (
  search (rules, the_lemmas),
  (
    c.requires.sound,
    every-operands (HasVariable (length (words c.args.decls.now))) _ _ _ _ c.in-Node.is c.as_slice-in-Node.ensures c.requires.variables,
  ),
)

pub write_node-returns-in_ok-extend_from_slice-in-Node : goal.write_node-returns-in_ok-extend_from_slice-in-Node
write_node-returns-in_ok-extend_from_slice-in-Node t c =
    let is : written (words c.args.decls.now) c.args.e.now ≡ name_of c.in-Node.op ++ (codes "(" ++ (joined_from [] (map (written (words c.args.decls.now)) c.as_slice-in-Node.result.now) ++ codes ")")) =
    ap (written (words c.args.decls.now)) c.in-Node.is
    ∙ written-Node (words c.args.decls.now) c.in-Node.op c.in-Node.items
    ∙ ap (λ (es : List Expr). name_of c.in-Node.op ++ (codes "(" ++ (joined_from [] (map (written (words c.args.decls.now)) es) ++ codes ")"))) (sym c.as_slice-in-Node.ensures) in
    let texts = joined_from [] (map (written (words c.args.decls.now)) c.as_slice-in-Node.result.now) in
    c.in_ok-extend_from_slice-in-Node.ensures.items
    ∙ ap (λ (xs : List ℕ). xs ++ codes ")") (c.in_ok-write_operands-in-Node.ensures ∙ ap (λ (xs : List ℕ). xs ++ texts) c.in_ok-write_head-in-Node.ensures)
    ∙ regrouped c.args.out.now.items (name_of c.in-Node.op) (codes "(") texts (codes ")")
    ∙ ap (λ (xs : List ℕ). c.args.out.now.items ++ xs) (sym is)
