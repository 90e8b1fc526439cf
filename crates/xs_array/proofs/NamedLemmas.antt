-- The cells by the text, and by `domain` children.
use Rattle.std.proofs.Common.{◌≡◌, ℕ, Bool, true, false, ◌&&◌, List, [], ◌∷◌, map, replicate, ℤ, is_some, refl, ap, sym, ◌∙◌}
use Rattle.std.specs.List.{list_all, range_with_len}
use Rattle.xf_markup.specs.declared.tree.Node.{Node}
use Rattle.xs_model.specs.Sound.{cell_count}
use Rattle.xs_var.specs.VarDomain.{text_domain}
use Rattle.xs_array.specs.Cells.{are_full, cells_named}
use Rattle.xs_array.specs.DomainChild.{are_apart, cell_at, named_by}

pub text_cells : (sizes : List ℤ) (ns : List Node) (text : List ℕ) → ns ≡ [] → replicate (cell_count sizes) (text_domain text) ≡ cells_named sizes (map (named_by sizes) ns) text
text_cells sizes ns text e = ap (λ (ms : List Node). cells_named sizes (map (named_by sizes) ms) text) (sym e)

pub text_full : (sizes : List ℤ) (ns : List Node) (text : List ℕ) → ns ≡ [] → is_some (text_domain text) ≡ (are_full (map (named_by sizes) ns) text && are_apart (map (named_by sizes) ns))
text_full sizes ns text e = alone (is_some (text_domain text)) ∙ ap (λ (ms : List Node). are_full (map (named_by sizes) ms) text && are_apart (map (named_by sizes) ms)) (sym e)
  where
    alone : (v : Bool) → v ≡ (v && true)
    alone true = refl
    alone false = refl

pub child_cells_are : (sizes : List ℤ) (ns : List Node) (text : List ℕ) → (ns ≡ [] → ⊥) → map (cell_at (map (named_by sizes) ns)) (range_with_len 0 (cell_count sizes)) ≡ cells_named sizes (map (named_by sizes) ns) text
child_cells_are sizes [] text h = absurd (h refl)
child_cells_are sizes (n ∷ ns) text h = refl

pub child_full_is : (sizes : List ℤ) (ns : List Node) (text : List ℕ) → (ns ≡ [] → ⊥) → (list_all (λ d. is_some d.domain) (map (named_by sizes) ns) && are_apart (map (named_by sizes) ns)) ≡ (are_full (map (named_by sizes) ns) text && are_apart (map (named_by sizes) ns))
child_full_is sizes [] text h = absurd (h refl)
child_full_is sizes (n ∷ ns) text h = refl
