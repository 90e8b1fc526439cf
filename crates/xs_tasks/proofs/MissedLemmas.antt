-- What the texts of a `cumulative` miss first, and then counts and lengths.
use Rattle.std.proofs.Common.{◌≡◌, ℕ, Bool, true, ◌&&◌, List, Option, None, Some, refl, ap, sym, ◌∙◌, codes}
use Rattle.xs_conditions.specs.Conditions.{condition_of, split_in, split_meets}
use Rattle.xs_conditions.proofs.FormedLemmas.{split_fits}
use Rattle.xs_conditions.proofs.MissedLemmas.{clean_front}
use Rattle.xs_fields.specs.Cells.{vars_meet, vars_of}
use Rattle.xs_fields.specs.Conditions.{all_meet, earlier_of, first_missed}
use Rattle.xs_fields.specs.Terms.{term_meets, terms_meet, terms_of}
use Rattle.xs_fields.specs.Words.{words_of}
use Rattle.xs_fields.specs.declared.condition.Condition.{Condition}
use Rattle.xs_fields.specs.declared.condition.Condition.TheVariants.{Fitting}
use Rattle.xs_fields.proofs.OrderLemmas.{first_missed-both}
use Rattle.xs_fields.proofs.WordLemmas.{term_fits}
use Rattle.xs_model.specs.Formed.{items_of}
use Rattle.xs_model.specs.Outline.{Outline}
use Rattle.xs_model.specs.declared.concrete.Part.{Part}
use Rattle.xs_model.specs.declared.instance.Constraint.{Constraint}
use Rattle.xs_model.specs.declared.instance.Constraint.TheVariants.{Cumulative}
use Rattle.xs_model.specs.declared.term.Cond.{Cond}
use Rattle.xs_model.specs.declared.term.Term.{Term}
use Rattle.xs_tables.specs.Extension.{text_in}
use Rattle.xs_tables.specs.Tables.{sizes_meet}
use Rattle.xs_tables.proofs.TableLemmas.{all_fit, both_true, first_none, second_none, texts_first, vars_fit}
use Rattle.xs_tasks.specs.Sizes.{first_or}
use Rattle.xs_tasks.specs.Tasks.{are_even, child_text, ends_meet, ends_of, limit_meets, tasks_meet, tasks_of, texts_meet}

-- lengths are not asked of texts
terms_fit : (os : List Outline) (text : List ℕ) (left : ℕ) → terms_meet os text left Fitting ≡ true
terms_fit os text left = both_true (all_meet (term_meets os) (words_of text) Fitting) true (all_fit (term_meets os) (term_fits os) (words_of text)) refl

ends_fit : (os : List Outline) (left : ℕ) (text : Option (List ℕ)) → ends_meet os left text Fitting ≡ true
ends_fit os left None = refl
ends_fit os left (Some text) = vars_fit os text left

limit_fits : (os : List Outline) (left : ℕ) (text : List ℕ) → limit_meets os left text Fitting ≡ true
limit_fits os left text = both_true (split_meets os (split_in text) Fitting) true (split_fits os (split_in text)) refl

-- two parts of a unit
both_missed : (t u : Condition → Bool) (a b : Option Condition) → a ≡ first_missed t → b ≡ first_missed u → earlier_of a b ≡ first_missed (λ k. t k && u k)
both_missed t u a b h g = ap (λ x. earlier_of x b) h ∙ ap (λ x. earlier_of (first_missed t) x) g ∙ first_missed-both t u

-- texts are asked before counts and lengths
settled : (t : Condition → Bool) (count left : ℕ) (fits : Bool) (texts sizes : Option Condition) → t Fitting ≡ true → texts ≡ first_missed t → (texts ≡ None → sizes ≡ first_missed (sizes_meet count left fits))
    → first_or texts sizes ≡ first_missed (λ k. t k && sizes_meet count left fits k)
settled t count left fits None sizes fitting is same = same refl ∙ clean_front t (sizes_meet count left fits) (sym is)
settled t count left fits (Some k) sizes fitting is same = sym (texts_first t count left fits fitting k (sym is))

texts_none : (texts sizes : Option Condition) → first_or texts sizes ≡ None → texts ≡ None
texts_none None sizes h = refl
texts_none (Some k) sizes h = h

module _ (os : List Outline) (left : ℕ) (parts : List Part) where
  abbrev origins : List ℕ
  origins = child_text (codes "origins") parts

  abbrev lengths : List ℕ
  lengths = child_text (codes "lengths") parts

  abbrev heights : List ℕ
  heights = child_text (codes "heights") parts

  abbrev ends : Option (List ℕ)
  ends = text_in (codes "ends") parts

  abbrev condition : List ℕ
  condition = child_text (codes "condition") parts

  -- what is told of each text: what it misses, and where this is nothing, its value
  pub record AreTold (vs : List ℕ) (ls hs : List Term) (es : Option (List ℕ)) (x : Cond) (a b d e f : Option Condition) : Type 0 where
    pub origins_miss : a ≡ first_missed (vars_meet os origins left)
    pub lengths_miss : b ≡ first_missed (terms_meet os lengths left)
    pub heights_miss : d ≡ first_missed (terms_meet os heights left)
    pub ends_miss : e ≡ first_missed (ends_meet os left ends)
    pub condition_misses : f ≡ first_missed (limit_meets os left condition)
    pub origins_are : a ≡ None → vs ≡ vars_of os origins
    pub lengths_are : b ≡ None → ls ≡ terms_of os lengths
    pub heights_are : d ≡ None → hs ≡ terms_of os heights
    pub ends_are : e ≡ None → es ≡ ends_of os ends
    pub condition_is : f ≡ None → x ≡ condition_of os condition

  texts_fit : texts_meet os left parts Fitting ≡ true
  texts_fit =
      both_true (vars_meet os origins left Fitting && terms_meet os lengths left Fitting) ((terms_meet os heights left Fitting && ends_meet os left ends Fitting) && limit_meets os left condition Fitting)
      (both_true (vars_meet os origins left Fitting) (terms_meet os lengths left Fitting) (vars_fit os origins left) (terms_fit os lengths left))
      (both_true (terms_meet os heights left Fitting && ends_meet os left ends Fitting) (limit_meets os left condition Fitting)
      (both_true (terms_meet os heights left Fitting) (ends_meet os left ends Fitting) (terms_fit os heights left) (ends_fit os left ends)) (limit_fits os left condition))

  module _ (vs : List ℕ) (ls hs : List Term) (es : Option (List ℕ)) (x : Cond) (a b d e f : Option Condition) (h : AreTold vs ls hs es x a b d e f) where
    abbrev texts : Option Condition
    texts = earlier_of (earlier_of a b) (earlier_of (earlier_of d e) f)

    texts_miss : texts ≡ first_missed (texts_meet os left parts)
    texts_miss =
        let starts : Condition → Bool = λ k. vars_meet os origins left k && terms_meet os lengths left k in
        let rest : Condition → Bool = λ k. terms_meet os heights left k && ends_meet os left ends k in
        both_missed starts (λ k. rest k && limit_meets os left condition k) (earlier_of a b) (earlier_of (earlier_of d e) f)
        (both_missed (vars_meet os origins left) (terms_meet os lengths left) a b h.origins_miss h.lengths_miss)
        (both_missed rest (limit_meets os left condition) (earlier_of d e) f (both_missed (terms_meet os heights left) (ends_meet os left ends) d e h.heights_miss h.ends_miss) h.condition_misses)

    same : texts ≡ None → Cumulative vs ls hs es x ≡ tasks_of os parts
    same none =
        let starts : earlier_of a b ≡ None = first_none (earlier_of a b) (earlier_of (earlier_of d e) f) none in
        let rest : earlier_of (earlier_of d e) f ≡ None = second_none (earlier_of a b) (earlier_of (earlier_of d e) f) none in
        let tops : earlier_of d e ≡ None = first_none (earlier_of d e) f rest in
        ap (λ ys. Cumulative ys ls hs es x) (h.origins_are (first_none a b starts))
        ∙ ap (λ ys. Cumulative (vars_of os origins) ys hs es x) (h.lengths_are (second_none a b starts))
        ∙ ap (λ ys. Cumulative (vars_of os origins) (terms_of os lengths) ys es x) (h.heights_are (first_none d e tops))
        ∙ ap (λ ys. Cumulative (vars_of os origins) (terms_of os lengths) (terms_of os heights) ys x) (h.ends_are (second_none d e tops))
        ∙ ap (λ y. Cumulative (vars_of os origins) (terms_of os lengths) (terms_of os heights) (ends_of os ends) y) (h.condition_is (second_none (earlier_of d e) f rest))

    pub tasks_miss : (joined sizes : Option Condition) → joined ≡ texts → sizes ≡ first_missed (sizes_meet (items_of (Cumulative vs ls hs es x)) left (are_even (Cumulative vs ls hs es x)))
        → first_or joined sizes ≡ first_missed (tasks_meet os left parts)
    tasks_miss joined sizes is judged =
        settled (texts_meet os left parts) (items_of (tasks_of os parts)) left (are_even (tasks_of os parts)) joined sizes texts_fit (is ∙ texts_miss)
        (λ none. judged ∙ ap (λ (c : Constraint). first_missed (sizes_meet (items_of c) left (are_even c))) (same (sym is ∙ none)))

    pub tasks_are : (joined sizes : Option Condition) → joined ≡ texts → first_or joined sizes ≡ None → Cumulative vs ls hs es x ≡ tasks_of os parts
    tasks_are joined sizes is none = same (sym is ∙ texts_none joined sizes none)
