-- Whether a word is spelt right, by what it misses first.
use Rattle.std.proofs.Common.{◌≡◌, ◌↔◌, IsTrue, ℕ, Bool, true, false, not, ◌&&◌, cond, List, [], ◌∷◌, Option, None, Some, Ok, Err, if◌then◌else◌, refl, ap, sym, ◌∙◌}
use Rattle.std.specs.List.{find}
use Rattle.xs_fields.specs.Conditions.{all_meet, answer, answer_on, first_missed, in_order, meets}
use Rattle.xs_fields.specs.Sizes.{brackets_of}
use Rattle.xs_fields.specs.Variables.{bracket_meets, bracket_of, is_small_bracket, word_meets, word_of}
use Rattle.xs_fields.specs.Cells.{reached}
use Rattle.xs_fields.specs.declared.variable.Word.{Word}
use Rattle.xf_text.specs.declared.fault.Kind.{Kind}
use Rattle.xf_text.specs.declared.fault.FieldStop.TheVariants.{Refused}
use Rattle.xs_model.specs.Outline.{Outline}
use Rattle.std.specs.Result.{is_ok}
use Rattle.xs_words.specs.Compact.{are_indices, is_compact, is_spelt, small_word}
use Rattle.xs_fields.specs.declared.variable.Bracket.{Bracket}
use Rattle.xs_fields.specs.declared.condition.Condition.{Condition}
use Rattle.xs_fields.specs.declared.condition.Condition.TheVariants.{Known, Nesting, Spelling, Magnitude, Naming, Counting, Fitting}

met_known : (o : Option Bracket) → meets is_small_bracket o Known ≡ true
met_known None = refl
met_known (Some b) = refl

met_nesting : (o : Option Bracket) → meets is_small_bracket o Nesting ≡ true
met_nesting None = refl
met_nesting (Some b) = refl

all_known : (ps : List (List ℕ)) → all_meet bracket_meets ps Known ≡ true
all_known [] = refl
all_known (p ∷ ps) = ap (λ b. b && all_meet bracket_meets ps Known) (met_known (bracket_of p)) ∙ all_known ps

all_nesting : (ps : List (List ℕ)) → all_meet bracket_meets ps Nesting ≡ true
all_nesting [] = refl
all_nesting (p ∷ ps) = ap (λ b. b && all_meet bracket_meets ps Nesting) (met_nesting (bracket_of p)) ∙ all_nesting ps

found_fails : (test : Condition → Bool) (ks : List Condition) (k : Condition) → find (λ k. not (test k)) ks ≡ Some k → test k ≡ false
found_fails test [] k h = absurd (cc h)
found_fails test (j ∷ ks) k h = by (test j) refl h (found_fails test ks k)
  where
    by : (v : Bool) → test j ≡ v → cond (not v) (Some j) (find (λ k. not (test k)) ks) ≡ Some k → (find (λ k. not (test k)) ks ≡ Some k → test k ≡ false) → test k ≡ false
    by true e h more = more h
    by false e h more =
        let same : j ≡ k = cc in
        ap test (sym same) ∙ e

pub misspelt : (word : List ℕ) → first_missed (word_meets word) ≡ Some Spelling → word_meets word Spelling ≡ false
misspelt word h = found_fails (word_meets word) in_order Spelling h

-- a spelling that is missed is missed first
missed_first : (test : Condition → Bool) → test Known ≡ true → test Nesting ≡ true → test Spelling ≡ false → first_missed test ≡ Some Spelling
missed_first test known nesting spelling =
    let rest = find (λ k. not (test k)) (Magnitude ∷ Naming ∷ Counting ∷ Fitting ∷ []) in
    ap (λ v. cond (not v) (Some Known) (cond (not (test Nesting)) (Some Nesting) (cond (not (test Spelling)) (Some Spelling) rest))) known
    ∙ ap (λ v. cond (not v) (Some Nesting) (cond (not (test Spelling)) (Some Spelling) rest)) nesting
    ∙ ap (λ v. cond (not v) (Some Spelling) rest) spelling

pub spelt : (word : List ℕ) (missed : Option Condition) → missed ≡ first_missed (word_meets word) → (missed ≡ Some Spelling → ⊥) → word_meets word Spelling ≡ true
spelt word missed is other = by (word_meets word Spelling) refl
  where
    by : (v : Bool) → word_meets word Spelling ≡ v → word_meets word Spelling ≡ true
    by true e = e
    by false e = absurd (other (is ∙ missed_first (word_meets word) (all_known (brackets_of word)) (all_nesting (brackets_of word)) e))

pub spelt_some : (word : List ℕ) (missed : Condition) (is : Bool) → Some missed ≡ first_missed (word_meets word) → (IsTrue is ↔ (missed ≡ Spelling)) → not is ≡ word_meets word Spelling
spelt_some word missed true h iff = sym (misspelt word (sym h ∙ ap (λ k. Some k) (iff.0 refl)))
spelt_some word missed false h iff = sym (spelt word (Some missed) h (λ e. let t : false ≡ true = iff.1 (some_same e) in cc))
  where
    some_same : Some missed ≡ Some Spelling → missed ≡ Spelling
    some_same e = cc

pub spelt_none : (word : List ℕ) → None ≡ first_missed (word_meets word) → true ≡ word_meets word Spelling
spelt_none word h = sym (spelt word None h (λ e. absurd (cc e)))

and_left : (a b : Bool) → (a && b) ≡ true → a ≡ true
and_left true b h = refl
and_left false b h = h

met_naming : (o : Option Bracket) → meets is_small_bracket o Naming ≡ true
met_naming None = refl
met_naming (Some b) = refl

met_counting : (o : Option Bracket) → meets is_small_bracket o Counting ≡ true
met_counting None = refl
met_counting (Some b) = refl

met_fitting : (o : Option Bracket) → meets is_small_bracket o Fitting ≡ true
met_fitting None = refl
met_fitting (Some b) = refl

all_by : (k : Condition) → ((o : Option Bracket) → meets is_small_bracket o k ≡ true) → (ps : List (List ℕ)) → all_meet bracket_meets ps k ≡ true
all_by k met [] = refl
all_by k met (p ∷ ps) = ap (λ b. b && all_meet bracket_meets ps k) (met (bracket_of p)) ∙ all_by k met ps

none_missed : (test : Condition → Bool) → test Known ≡ true → test Nesting ≡ true → test Spelling ≡ true → test Magnitude ≡ true → test Naming ≡ true → test Counting ≡ true → test Fitting ≡ true → first_missed test ≡ None
none_missed test a b c d e f g = rw (a, b, c, d, e, f, g)

answered : (word : List ℕ) (value : Word) (kind : Kind) → Err (Refused kind) ≡ answer (word_meets word) value → first_missed (word_meets word) ≡ None → ⊥
answered word value kind h none =
    let ok : Err (Refused kind) ≡ Ok value = h ∙ ap (λ m. answer_on m value) none in
    cc

-- a word that is spelt right and is refused has a magnitude that is too large
pub refused_great : (word : List ℕ) (value : Word) (kind : Kind) → Err (Refused kind) ≡ answer (word_meets word) value → word_meets word Spelling ≡ true → word_meets word Magnitude ≡ false
refused_great word value kind h spelt = by (word_meets word Magnitude) refl
  where
    by : (v : Bool) → word_meets word Magnitude ≡ v → word_meets word Magnitude ≡ false
    by false e = e
    by true e = absurd (answered word value kind h (none_missed (word_meets word) (all_known (brackets_of word)) (all_nesting (brackets_of word)) spelt e (all_by Naming met_naming (brackets_of word)) (all_by Counting met_counting (brackets_of word)) (all_by Fitting met_fitting (brackets_of word))))

-- then it is no word with small integers
pub refused_none : (word : List ℕ) (value : Word) (kind : Kind) → Err (Refused kind) ≡ answer (word_meets word) value → word_meets word Spelling ≡ true → None ≡ small_word word
refused_none word value kind h spelt = sym (ap (λ v. if v then Some (word_of word) else None) (refused_great word value kind h spelt))

pub compact_spelt : (word : List ℕ) → is_compact word ≡ true → is_spelt word ≡ true
compact_spelt word h = and_left (word_meets word Spelling) (not (are_indices word)) h
