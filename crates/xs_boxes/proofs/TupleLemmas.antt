-- Lengths are no concern of the entries of tuples.
use Rattle.std.proofs.Common.{◌≡◌, Bool, true, List, ℕ, Option, None, Some, refl}
use Rattle.xs_boxes.specs.Tuples.{inside_meets, tuple_meets}
use Rattle.xs_conditions.specs.Single.{direct_meets, direct_spelt}
use Rattle.xs_conditions.proofs.MissedLemmas.{both, spelt_fitting}
use Rattle.xs_fields.specs.Cells.{name_meets}
use Rattle.xs_fields.specs.Words.{is_byte, parts}
use Rattle.xs_fields.specs.declared.condition.Condition.{Condition}
use Rattle.xs_fields.specs.declared.condition.Condition.TheVariants.{Fitting}
use Rattle.xs_model.specs.Outline.{Outline}
use Rattle.xs_tables.specs.Groups.{inner_of}
use Rattle.xs_tables.proofs.TableLemmas.{all_fit}

pub direct_fits : (os : List Outline) (w : List ℕ) → direct_meets os w Fitting ≡ true
direct_fits os w = both (direct_spelt w Fitting) (name_meets os w Fitting) (spelt_fitting w) refl

inside_fits : (test : List ℕ → Condition → Bool) → ((w : List ℕ) → test w Fitting ≡ true) → (o : Option (List ℕ)) → inside_meets test o Fitting ≡ true
inside_fits test fits None = refl
inside_fits test fits (Some inner) = all_fit test fits (parts (is_byte 44) inner)

pub tuple_fits : (test : List ℕ → Condition → Bool) → ((w : List ℕ) → test w Fitting ≡ true) → (g : List ℕ) → tuple_meets test g Fitting ≡ true
tuple_fits test fits g = inside_fits test fits (inner_of g)
