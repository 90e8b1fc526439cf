-- A template cut once makes what its texts make.
use Rattle.std.proofs.Common.{◌≡◌, ℕ, Bool, ◌||◌, List, [], ◌∷◌, ◌++◌, map, refl, ap}
use Rattle.std.specs.List.{list_any}
use Rattle.xf_markup.specs.declared.tree.Node.{Node}
use Rattle.xs_var.specs.Elements.{children_of, text_in}
use Rattle.xs_template.specs.Concrete.{made_from, made_of, template_of, part_from, part_of, pattern_of, pairs_of, own_part, template_asks, asked_of, greatest, template_open, is_open}
use Rattle.xs_template.specs.Template.{asked_by, has_rest, spots_of}
use Rattle.xs_template.specs.declared.cutting.Spot.{Spot}

parts_same : (told : ℕ → ℕ) (change : List Spot → List ℕ) (cs : List Node) → map (part_from change) (map (pattern_of told) cs) ≡ map (part_of (λ t. change (spots_of told t))) cs
parts_same told change [] = refl
parts_same told change (c ∷ cs) = ap (λ ps. part_of (λ t. change (spots_of told t)) c ∷ ps) (parts_same told change cs)

pub made_same : (told : ℕ → ℕ) (change : List Spot → List ℕ) (place : ℕ) (n : Node) → made_from change place (template_of told n) ≡ made_of (λ t. change (spots_of told t)) place n
made_same told change place n =
    ap (λ ps. record { name = n.name; attrs = pairs_of n.attrs; parts = own_part (change (spots_of told (text_in n.pieces))) ++ ps; place = place }) (parts_same told change (children_of n.pieces))

asks_same : (told : ℕ → ℕ) (cs : List Node) → map asked_by (map (λ p. p.spots) (map (pattern_of told) cs)) ≡ map (λ t. asked_by (spots_of told t)) (map (λ c. text_in c.pieces) cs)
asks_same told [] = refl
asks_same told (c ∷ cs) = ap (λ ns. asked_by (spots_of told (text_in c.pieces)) ∷ ns) (asks_same told cs)

pub asked_same : (told : ℕ → ℕ) (n : Node) → template_asks (template_of told n) ≡ asked_of told n
asked_same told n = ap (λ ns. greatest (asked_by (spots_of told (text_in n.pieces)) ∷ ns)) (asks_same told (children_of n.pieces))

opens_same : (told : ℕ → ℕ) (cs : List Node) → list_any has_rest (map (λ p. p.spots) (map (pattern_of told) cs)) ≡ list_any (λ t. has_rest (spots_of told t)) (map (λ c. text_in c.pieces) cs)
opens_same told [] = refl
opens_same told (c ∷ cs) = ap (λ b. has_rest (spots_of told (text_in c.pieces)) || b) (opens_same told cs)

pub open_same : (told : ℕ → ℕ) (n : Node) → template_open (template_of told n) ≡ is_open told n
open_same told n = ap (λ b. has_rest (spots_of told (text_in n.pieces)) || b) (opens_same told (children_of n.pieces))
