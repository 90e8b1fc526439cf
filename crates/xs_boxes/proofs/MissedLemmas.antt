-- The texts of boxes are not asked whether lengths fit.
use Rattle.std.proofs.Common.{◌≡◌, Bool, true, false, ◌&&◌, List, ℕ, if◌then◌else◌, refl}
use Rattle.xs_boxes.specs.Boxes.{is_tupled, lists_meet, texts_meet, tuples_meet}
use Rattle.xs_boxes.specs.Tuples.{length_of, origin_of, tuple_meets}
use Rattle.xs_boxes.proofs.TupleLemmas.{direct_fits, tuple_fits}
use Rattle.xs_conditions.specs.Single.{direct_meets, single_meets}
use Rattle.xs_conditions.proofs.FormedLemmas.{single_fits}
use Rattle.xs_fields.specs.Cells.{vars_meet}
use Rattle.xs_fields.specs.Conditions.{all_meet}
use Rattle.xs_fields.specs.Terms.{term_meets, terms_meet}
use Rattle.xs_fields.specs.Words.{words_of}
use Rattle.xs_fields.specs.declared.condition.Condition.{Condition}
use Rattle.xs_fields.specs.declared.condition.Condition.TheVariants.{Fitting}
use Rattle.xs_fields.proofs.WordLemmas.{term_fits}
use Rattle.xs_model.specs.Outline.{Outline}
use Rattle.xs_tables.specs.Groups.{groups_meet, groups_of}
use Rattle.xs_tables.proofs.TableLemmas.{all_fit, both_true, vars_fit}

groups_fit : {A : Type 0} (test : List ℕ → Condition → Bool) (members : List ℕ → List A) (text : List ℕ) (left : ℕ) → ((g : List ℕ) → test g Fitting ≡ true) → groups_meet test members text left Fitting ≡ true
groups_fit test members text left fits = both_true (all_meet test (groups_of text) Fitting && true) true (both_true (all_meet test (groups_of text) Fitting) true (all_fit test fits (groups_of text)) refl) refl

terms_fit : (os : List Outline) (text : List ℕ) (left : ℕ) → terms_meet os text left Fitting ≡ true
terms_fit os text left = both_true (all_meet (term_meets os) (words_of text) Fitting) true (all_fit (term_meets os) (term_fits os) (words_of text)) refl

pub texts_fit : (os : List Outline) (left : ℕ) (a b : List ℕ) → texts_meet os left a b Fitting ≡ true
texts_fit os left a b = by (is_tupled a b)
  where
    by : (v : Bool) → (if v then tuples_meet os left a b Fitting else lists_meet os left a b Fitting) ≡ true
    by true =
        both_true (groups_meet (tuple_meets (direct_meets os)) (origin_of os) a left Fitting) (groups_meet (tuple_meets (single_meets os)) (length_of os) b left Fitting)
        (groups_fit (tuple_meets (direct_meets os)) (origin_of os) a left (tuple_fits (direct_meets os) (direct_fits os)))
        (groups_fit (tuple_meets (single_meets os)) (length_of os) b left (tuple_fits (single_meets os) (single_fits os)))
    by false = both_true (vars_meet os a left Fitting) (terms_meet os b left Fitting) (vars_fit os a left) (terms_fit os b left)
