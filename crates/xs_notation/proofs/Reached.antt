-- A direct word of a variable is read as that variable.
use Rattle.std.proofs.Common.{◌≡◌, ◌≢◌, ℕ, ◌<◌, ◌^◌, true, List, [], get_or, ap, sym, subst, ◌∙◌, None, Some}
use Rattle.std.specs.List.{AllByRecursion, AllPairs, flat_map}
use Rattle.xs_fields.specs.Cells.{declared_at, name_meets, variables_in as reached_in}
use Rattle.xs_fields.specs.Conditions.{all_meet}
use Rattle.xs_fields.specs.Integers.{integer_of}
use Rattle.xs_fields.specs.Sizes.{brackets_of, size_meets}
use Rattle.xs_fields.specs.Variables.{word_meets}
use Rattle.xs_fields.specs.declared.condition.Condition.{Condition}
use Rattle.xs_fields.proofs.DirectLemmas.{both, no-integer}
use Rattle.xs_fields.proofs.DistinctNames.{cells_few, declared_there}
use Rattle.xs_fields.proofs.ReachedLemmas.{brackets-are, name-met, none-missed, own, read, reached-is, word-met}
use Rattle.xs_model.specs.Denotes.{Denotes, bracketed}
use Rattle.xs_model.specs.Names.{row_major}
use Rattle.xs_model.specs.Outline.{IsSoundOutline, Outline, names_in}
use Rattle.xs_model.specs.Sound.{cell_count}
use Rattle.xs_model.specs.Table.{IsAddressable}
use Rattle.xs_model.specs.declared.expr.Expr.{Var}
use Rattle.xs_notation.specs.Terms.{direct_meets, settled, term_by, term_in, term_meets, term_meets_by, term_of, variable_in}
use Rattle.xs_notation.proofs.Direct.{one-word}
use Rattle.xs_notation.proofs.Marked.{IsOneWord}

-- what is read of a direct word
pub record IsDirect (os : List Outline) (w : List ℕ) (v : ℕ) : Type 0 where
  pub whole : IsOneWord w
  pub meets : (k : Condition) → term_meets os w k ≡ true
  pub is : term_of os w ≡ Var v

module _ (os : List Outline) (sound : AllByRecursion IsSoundOutline os) (few : AllByRecursion IsAddressable os) (distinct : AllPairs (λ a b. a ≢ b) (names_in os)) (w : List ℕ) (k : ℕ) (d : Denotes os w k) where
  abbrev is : List ℕ
  is = get_or (row_major d.outline.sizes) d.place []

  few-cells : cell_count d.outline.sizes < 2 ^ 64
  few-cells = cells_few os sound few distinct w k d

  found : declared_at os d.outline.name ≡ Some d.at
  found = declared_there os sound few distinct w k d

  spells-none : integer_of w ≡ None
  spells-none = ap integer_of d.spelt ∙ no-integer d.outline.name (flat_map bracketed d.texts) (own os sound w k d few-cells found).identifier

  met : (j : Condition) → term_meets os w j ≡ true
  met j =
      ap (λ o. term_meets_by os w o j) spells-none
      ∙ both (direct_meets w j) (name_meets os w j)
      (both (word_meets w j) (all_meet size_meets (brackets_of w) j) (word-met os sound w k d few-cells found j) (ap (λ ps. all_meet size_meets ps j) (brackets-are os sound w k d few-cells found) ∙ (read os sound w k d few-cells found).sizes j))
      (name-met os sound w k d few-cells found j)

  pub direct-is : IsDirect os w k
  direct-is = record {
    whole = subst IsOneWord (sym d.spelt) (one-word d.outline.name d.texts is (own os sound w k d few-cells found).identifier d.reads);
    meets = met;
    is =
        ap (λ o. term_in (settled o (term_by os w (integer_of w)))) (none-missed (term_meets os w) met)
        ∙ ap (term_by os w) spells-none
        ∙ ap (λ r. variable_in (reached_in r)) (reached-is os sound w k d few-cells found);
  }
