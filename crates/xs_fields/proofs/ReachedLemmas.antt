-- A direct word of a variable denotes that variable.
use Rattle.std.proofs.Common.{◌≡◌, ℕ, zero, suc, ◌+◌, ◌<◌, ◌^◌, Bool, true, false, if◌then◌else◌, List, [], ◌∷◌, drop, length, map, get_or, slice_get, refl, ap, subst, ◌∙◌, arith, Option, None, Some, Ok, Err}
use Rattle.std.specs.List.{AllByRecursion, flat_map}
use Rattle.std.specs.Result.{is_ok}
use Rattle.xs_fields.specs.Cells.{are_inside, covered_places, declared_at, name_meets, reached, reached_at, unless_none, variable_meets, variables_at, variables_of, variables_in as reached_in}
use Rattle.xs_fields.specs.Conditions.{all_meet, first_missed}
use Rattle.xs_fields.specs.Identifiers.{identifier_meets}
use Rattle.xs_fields.specs.Sizes.{brackets_of, size_meets}
use Rattle.xs_fields.specs.Variables.{bracket_meets, brackets_from, first_part, is_direct, name_in, word_meets, word_of}
use Rattle.xs_fields.specs.declared.condition.Condition.{Condition}
use Rattle.xs_fields.specs.declared.condition.Condition.TheVariants.{Known, Nesting, Spelling, Magnitude, Naming, Counting, Fitting}
use Rattle.xs_fields.specs.declared.variable.Bracket.{Bracket}
use Rattle.xs_fields.specs.declared.variable.Word.{Word}
use Rattle.xs_fields.proofs.DirectLemmas.{AreRead, are-read, both, closed, identifier-met, word-parts}
use Rattle.xs_fields.proofs.IndexPlaces.{IsCell, all-indices, at_each, cell-of, one-place}
use Rattle.xs_model.specs.Denotes.{Denotes}
use Rattle.xs_model.specs.Names.{row_major}
use Rattle.xs_model.specs.Outline.{IsSoundOutline, Outline, cell_numbers, defined_count, number_cells, numbers_from, sizes_at}
use Rattle.xs_model.specs.Sound.{cell_count}
use Rattle.xs_model.proofs.FindLemmas.{sound_at}
use Rattle.xs_model.proofs.NamesLemmas.{sizes_of_outline}

-- a place that is taken has a number
numbered-below : (ns : List (Option ℕ)) (p k : ℕ) → get_or ns p None ≡ Some k → p < length ns
numbered-below [] p k h = cc
numbered-below (n ∷ ns) zero k h = omega arith
numbered-below (n ∷ ns) (suc p) k h = omega (arith, numbered-below ns p k h)

length-cells : (n : ℕ) (cells : List Bool) → length (number_cells n cells) ≡ length cells
length-cells n [] = refl
length-cells n (true ∷ cells) = ap suc (length-cells (n + 1) cells)
length-cells n (false ∷ cells) = ap suc (length-cells n cells)

length-numbers : (n : ℕ) (os : List Outline) (at : ℕ) (o : Outline) → slice_get os at ≡ Some o → length (get_or (numbers_from n os) at []) ≡ length o.cells
length-numbers n [] at o h = cc
length-numbers n (x ∷ os) zero o h = let s : x ≡ o = cc in length-cells n x.cells ∙ ap (λ y. length y.cells) s
length-numbers n (x ∷ os) (suc at) o h = length-numbers (n + defined_count x.cells) os at o h

pub none-missed : (test : Condition → Bool) → ((k : Condition) → test k ≡ true) → first_missed test ≡ None
none-missed test h = rw (h Known, h Nesting, h Spelling, h Magnitude, h Naming, h Counting, h Fitting) refl

-- a variable word by its parts
word-is : (w n : List ℕ) (ps : List (List ℕ)) (bs : List Bracket) → first_part (n ∷ ps) ≡ n → name_in w ≡ n → brackets_of w ≡ ps → flat_map brackets_from ps ≡ bs → word_of w ≡ record { name = n; brackets = bs }
word-is w n ps bs f e g h = subst (λ x. word_of w ≡ record { name = x; brackets = bs }) e (ap (λ xs. record { name = name_in w; brackets = xs }) (ap (flat_map brackets_from) g ∙ h))

module _ (os : List Outline) (sound : AllByRecursion IsSoundOutline os) (w : List ℕ) (k : ℕ) (d : Denotes os w k) (few : cell_count d.outline.sizes < 2 ^ 64) (found : declared_at os d.outline.name ≡ Some d.at) where
  abbrev is : List ℕ
  is = get_or (row_major d.outline.sizes) d.place []

  pub own : IsSoundOutline d.outline
  own = sound_at os d.at d.outline sound d.declared

  place-below : d.place < length d.outline.cells
  place-below = omega (arith, numbered-below (cell_numbers os d.at) d.place k d.numbered, length-numbers 0 os d.at d.outline d.declared)

  cell : IsCell 0 d.outline.sizes d.place is
  cell = cell-of 0 d.outline.sizes d.place own.sizes (omega (arith, place-below, own.cells)) (omega (arith, place-below, own.cells, few))

  pub read : AreRead (map closed d.texts) is
  read = are-read d.texts is d.reads cell.few

  name-is : name_in w ≡ d.outline.name
  name-is = ap name_in d.spelt ∙ ap first_part (word-parts d.outline.name d.texts is own.identifier d.reads)

  pub brackets-are : brackets_of w ≡ map closed d.texts
  brackets-are = ap brackets_of d.spelt ∙ ap (drop 1) (word-parts d.outline.name d.texts is own.identifier d.reads)

  parsed : word_of w ≡ record { name = d.outline.name; brackets = at_each is }
  parsed = word-is w d.outline.name (map closed d.texts) (at_each is) refl name-is brackets-are read.brackets

  sizes-are : sizes_at os d.at ≡ d.outline.sizes
  sizes-are = sizes_of_outline os d.at d.outline d.declared

  variable-is : variables_at os d.at (d.place ∷ []) ≡ k ∷ []
  variable-is = rw d.numbered refl

  pub reached-is : reached os (word_of w) ≡ Ok (k ∷ [])
  reached-is =
      let bs : List Bracket = at_each is in
      let word : Word = record { name = d.outline.name; brackets = bs } in
      ap (reached os) parsed
      ∙ ap (reached_at os word) found
      ∙ ap (λ ns. if are_inside ns bs then unless_none (is_direct word) (variables_at os d.at (covered_places ns bs)) else Err Naming) sizes-are
      ∙ ap (λ (v : Bool). if v then unless_none (is_direct word) (variables_at os d.at (covered_places d.outline.sizes bs)) else Err Naming) cell.inside
      ∙ ap (λ ps. unless_none (is_direct word) (variables_at os d.at ps)) (one-place d.outline.sizes d.place is cell)
      ∙ ap (λ vs. unless_none (is_direct word) vs) variable-is
      ∙ ap (λ (v : Bool). unless_none v (k ∷ [])) (all-indices is)

  pub word-met : (j : Condition) → word_meets w j ≡ true
  word-met j =
      both (identifier_meets (name_in w) j) (all_meet bracket_meets (brackets_of w) j)
      (ap (λ n. identifier_meets n j) name-is ∙ identifier-met d.outline.name own.identifier j)
      (ap (λ ps. all_meet bracket_meets ps j) brackets-are ∙ read.met j)

  pub name-met : (j : Condition) → name_meets os w j ≡ true
  name-met Known = refl
  name-met Nesting = refl
  name-met Spelling = refl
  name-met Magnitude = refl
  name-met Naming = ap is_ok reached-is
  name-met Counting = refl
  name-met Fitting = refl

  pub variable-met : first_missed (variable_meets os w) ≡ None
  variable-met = none-missed (variable_meets os w) (λ j. both (word_meets w j) (name_meets os w j) (word-met j) (name-met j))

  pub variables-are : variables_of os w ≡ k ∷ []
  variables-are = ap reached_in reached-is

  pub sizes-met : first_missed (all_meet size_meets (brackets_of w)) ≡ None
  sizes-met = none-missed (all_meet size_meets (brackets_of w)) (λ j. ap (λ ps. all_meet size_meets ps j) brackets-are ∙ read.sizes j)
