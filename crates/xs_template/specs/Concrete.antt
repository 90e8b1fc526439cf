-- One constraint after expansion: its name, its attributes, its own text where that is not blank, and its children with
-- their texts (XCSP3, "Constraints", "Groups", "Slides").
use Rattle.std.specs.Prelude.{ℕ, Bool, max, List, [], ◌∷◌, ◌++◌, map, if◌then◌else◌}
use Rattle.std.specs.List.{list_any}
use Rattle.xf_markup.specs.declared.tree.Attr.{Attr}
use Rattle.xf_markup.specs.declared.tree.Node.{Node}
use Rattle.xs_var.specs.Elements.{children_of, text_in}
use Rattle.xs_var.specs.Variable.{is_blank}
use Rattle.xs_template.specs.Template.{asked_by, filled, has_rest, spots_of}
use Rattle.xs_template.specs.declared.cutting.Spot.{Spot}
use Rattle.xs_model.specs.declared.concrete.Concrete.{Concrete}
use Rattle.xs_model.specs.declared.concrete.Pair.{Pair}
use Rattle.xs_model.specs.declared.concrete.Part.{Part}
use Rattle.xs_template.specs.declared.template.Template.{Template}
use Rattle.xs_template.specs.declared.template.Pattern.{Pattern}

abbrev pub pair_of : Attr → Pair
pair_of a = record { name = a.name; value = a.value }

abbrev pub pairs_of : List Attr → List Pair
pairs_of attrs = map pair_of attrs

-- a child, with its text changed
abbrev pub part_of : (List ℕ → List ℕ) → Node → Part
part_of change c = record { name = c.name; attrs = pairs_of c.attrs; text = change (text_in c.pieces) }

-- the own text of a constraint, where it is not blank
abbrev pub own_part : List ℕ → List Part
own_part text = if is_blank text then [] else record { name = []; attrs = []; text = text } ∷ []

-- the constraint that an element stands for at a place, with each of its texts changed
abbrev pub made_of : (List ℕ → List ℕ) → ℕ → Node → Concrete
made_of change place n = record { name = n.name; attrs = pairs_of n.attrs; parts = own_part (change (text_in n.pieces)) ++ map (part_of change) (children_of n.pieces); place = place }

-- a text as it is
abbrev pub unchanged : List ℕ → List ℕ
unchanged text = text

-- a text with its gaps filled by words, of which so many have a place
abbrev pub filled_text : (ℕ → ℕ) → List (List ℕ) → ℕ → List ℕ → List ℕ
filled_text told words asked text = filled words asked (spots_of told text)

-- the texts of an element
abbrev pub texts_of : Node → List (List ℕ)
texts_of n = text_in n.pieces ∷ map (λ c. text_in c.pieces) (children_of n.pieces)

abbrev pub greatest : List ℕ → ℕ
greatest [] = 0
greatest (n ∷ ns) = max n (greatest ns)

-- how many words a template asks for by place: one more than the greatest place in all its texts
abbrev pub asked_of : (ℕ → ℕ) → Node → ℕ
asked_of told n = greatest (map (λ t. asked_by (spots_of told t)) (texts_of n))

-- whether `%...` stands in one of its texts
abbrev pub is_open : (ℕ → ℕ) → Node → Bool
is_open told n = list_any (λ t. has_rest (spots_of told t)) (texts_of n)

-- a template with its texts cut
abbrev pub pattern_of : (ℕ → ℕ) → Node → Pattern
pattern_of told c = record { name = c.name; attrs = pairs_of c.attrs; spots = spots_of told (text_in c.pieces) }

abbrev pub template_of : (ℕ → ℕ) → Node → Template
template_of told n = record { name = n.name; attrs = pairs_of n.attrs; own = spots_of told (text_in n.pieces); parts = map (pattern_of told) (children_of n.pieces) }

abbrev pub part_from : (List Spot → List ℕ) → Pattern → Part
part_from change p = record { name = p.name; attrs = p.attrs; text = change p.spots }

-- the constraint that a cut template stands for, its spots filled
abbrev pub made_from : (List Spot → List ℕ) → ℕ → Template → Concrete
made_from change place t = record { name = t.name; attrs = t.attrs; parts = own_part (change t.own) ++ map (part_from change) t.parts; place = place }

-- what a cut template asks for
abbrev pub spots_in : Template → List (List Spot)
spots_in t = t.own ∷ map (λ p. p.spots) t.parts

abbrev pub template_asks : Template → ℕ
template_asks t = greatest (map asked_by (spots_in t))

abbrev pub template_open : Template → Bool
template_open t = list_any has_rest (spots_in t)
