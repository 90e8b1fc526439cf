-- The unit of `variables` itself (XCSP3-core, "Variables"): its attributes, its children and its text.
use Rattle.std.specs.Prelude.{ℕ, Bool, true, ◌&&◌, List, [], ◌∷◌, codes}
use Rattle.std.specs.List.{list_all}
use Rattle.xf_markup.specs.declared.tree.Node.{Node}
use Rattle.xf_markup.specs.declared.tree.Piece.{Piece, Piece-F, out-Piece}
use Rattle.xs_fields.specs.declared.condition.Condition.{Condition}
use Rattle.xs_var.specs.Elements.{has_only, is_one_of, text_in}
use Rattle.xs_var.specs.Variable.{is_blank, known_meets, spelling_meets}

-- a text, or a child whose name is one of these
abbrev pub child_step : List (List ℕ) → Piece-F Piece Node → Bool
child_step names (Piece-F.Words text) = true
child_step names (Piece-F.Inner node) = is_one_of names node.name

abbrev pub is_child_known : List (List ℕ) → Piece → Bool
is_child_known names p = child_step names (out-Piece p)

abbrev pub are_children_known : List (List ℕ) → List Piece → Bool
are_children_known names ps = list_all (is_child_known names) ps

-- what `variables` meets: no attributes but those that are dropped, the children `var` and `array`, and no text
abbrev pub variables_meet : Node → Condition → Bool
variables_meet n k =
    known_meets (has_only (codes "class" ∷ codes "note" ∷ []) n.attrs && are_children_known (codes "var" ∷ codes "array" ∷ []) n.pieces) k
    && spelling_meets (is_blank (text_in n.pieces)) k
