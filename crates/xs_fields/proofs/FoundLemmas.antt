-- What is found of a direct word is what it denotes in a list.
use Rattle.std.proofs.Common.{◌≡◌, ℕ, ◌<◌, ◌^◌, List, [], ◌∷◌, get_or, ap, sym, subst, ◌∙◌, None, Some}
use Rattle.std.specs.List.{AllByRecursion}
use Rattle.std.specs.Option.{option_map}
use Rattle.std.proofs.lemmas.Option.{slice_get-map}
use Rattle.xs_fields.specs.Cells.{declared_at, variable_meets, variables_of}
use Rattle.xs_fields.specs.Conditions.{all_meet, first_missed}
use Rattle.xs_fields.specs.Sizes.{brackets_of, size_meets}
use Rattle.xs_fields.specs.Variables.{first_part, name_in}
use Rattle.xs_fields.specs.Words.{is_byte, parts}
use Rattle.xs_fields.proofs.DirectLemmas.{word-parts}
use Rattle.xs_fields.proofs.NamingLemmas.{position_is}
use Rattle.xs_fields.proofs.ReachedLemmas.{sizes-met, variable-met, variables-are}
use Rattle.xs_model.specs.Denotes.{Denotes}
use Rattle.xs_model.specs.Names.{row_major}
use Rattle.xs_model.specs.Outline.{IsNamed, IsSoundOutline, Outline, sizes_at}
use Rattle.xs_model.specs.Sound.{cell_count}
use Rattle.xs_model.proofs.FindLemmas.{sound_at}
use Rattle.xs_model.proofs.NamesLemmas.{sizes_of_outline}

-- a word that misses nothing and denotes one variable
pub record IsOneVariable (os : List Outline) (w : List ℕ) (k : ℕ) : Type 0 where
  pub met : first_missed (variable_meets os w) ≡ None
  pub is : variables_of os w ≡ k ∷ []
  pub indices : first_missed (all_meet size_meets (brackets_of w)) ≡ None

module _ (os : List Outline) (sound : AllByRecursion IsSoundOutline os) (w name : List ℕ) (more : List (List ℕ)) (at k : ℕ) (cut : parts (is_byte 91) w ≡ name ∷ more) (only : (i : ℕ) → IsNamed os i name → Some at ≡ Some i) (few : cell_count (sizes_at os at) < 2 ^ 64) (d : Denotes os w k) where
  own : IsSoundOutline d.outline
  own = sound_at os d.at d.outline sound d.declared

  name_is : name ≡ d.outline.name
  name_is =
      sym (ap first_part cut)
      ∙ ap name_in d.spelt
      ∙ ap first_part (word-parts d.outline.name d.texts (get_or (row_major d.outline.sizes) d.place []) own.identifier d.reads)

  named : IsNamed os d.at d.outline.name
  named = slice_get-map (λ o. o.name) os d.at ∙ ap (option_map (λ o. o.name)) d.declared

  same : (i : ℕ) → IsNamed os i d.outline.name → Some at ≡ Some i
  same i h = only i (subst (IsNamed os i) (sym name_is) h)

  here : at ≡ d.at
  here = let e = same d.at named in cc

  found : declared_at os d.outline.name ≡ Some d.at
  found = sym (position_is (Some d.at) os d.outline.name named (λ i h. sym (ap (λ j. Some j) here) ∙ same i h))

  few_cells : cell_count d.outline.sizes < 2 ^ 64
  few_cells = subst (λ ns. cell_count ns < 2 ^ 64) (ap (sizes_at os) here ∙ sizes_of_outline os d.at d.outline d.declared) few

  pub one_variable : IsOneVariable os w k
  one_variable = record { met = variable-met os sound w k d few_cells found; is = variables-are os sound w k d few_cells found; indices = sizes-met os sound w k d few_cells found }
