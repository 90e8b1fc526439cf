-- The children that one piece holds.
use Rattle.std.proofs.Common.{◌≡◌, List, [], ◌∷◌, ℕ, rules}
use Rattle.xf_markup.specs.declared.tree.Node.{Node, the_lemmas}
use Rattle.xf_markup.specs.declared.tree.Piece.TheVariants.{Words, Inner}
use Rattle.xs_var.specs.Elements.{piece_nodes}

pub inner_nodes : (n : Node) → piece_nodes (Inner n) ≡ n ∷ []
inner_nodes n = search (rules, the_lemmas)

pub words_nodes : (text : List ℕ) → piece_nodes (Words text) ≡ []
words_nodes text = search (rules, the_lemmas)
