-- The words of a list of occurrences.
use Rattle.std.proofs.Common.{◌≡◌, ℕ, ◌-◌, ◌<◌, Bool, true, false, not, ◌&&◌, cond, nat_le, nat_lt, if◌then◌else◌, List, [], ◌∷◌, ◌++◌, length, map, Option, None, Some, refl, ap, sym, subst, ◌∙◌, arith, append-nil}
use Rattle.std.proofs.lemmas.List.{length-map}
use Rattle.std.specs.Prelude.{is_some}
use Rattle.std.specs.List.{AllByRecursion, filter, flat_map, list_all}
use borrow.Author.Tests.{lt-ltb, ltb-true}
use Rattle.xf_num.specs.Span.{Bounds}
use Rattle.xs_fields.specs.Cells.{variable_meets}
use Rattle.xs_fields.specs.Conditions.{all_meet, earlier_of, first_missed, judged, meets, rank}
use Rattle.xs_fields.specs.Lists.{count_meets, has_small_ends, is_small_run, piece_list, run_meets, run_of}
use Rattle.xs_fields.specs.Sizes.{brackets_of}
use Rattle.xs_fields.specs.Variables.{bracket_meets, bracket_of, is_small_bracket}
use Rattle.xs_fields.specs.Scanning.{have_room, joined}
use Rattle.xs_fields.specs.Terms.{is_run, term_meets, terms_meet, terms_of, word_terms}
use Rattle.xs_fields.specs.Words.{is_nonempty, is_space, onto_first, parts, words_of}
use Rattle.xs_fields.specs.declared.condition.Condition.{Condition}
use Rattle.xs_fields.specs.declared.condition.Condition.TheVariants.{Known, Nesting, Spelling, Magnitude, Naming, Counting, Fitting}
use Rattle.xs_fields.proofs.FirstLemmas.{before_counting, count_alone, count_decides, missed_here}
use Rattle.xs_fields.proofs.IntegerLemmas.{and_left, and_right}
use Rattle.xs_fields.proofs.OrderLemmas.{first_missed-both}
use Rattle.xs_fields.proofs.WordLemmas.{term_fits}
use Rattle.xs_model.specs.Outline.{Outline}
use Rattle.xs_conditions.specs.Occurrences.{occurrence_meets, word_occurrences}
use Rattle.xs_model.specs.declared.term.Occurrence.TheVariants as occurrence
use Rattle.xs_model.specs.declared.term.Term.{Term}
use Rattle.xs_conditions.specs.Ranges.{range_in, range_meets}
use Rattle.xs_conditions.specs.Scanning.{has_room, uncounted}
use Rattle.xs_conditions.proofs.MissedLemmas.{all_true, at_counting, at_fitting, both}

pub occurrence_fits : (os : List Outline) (w : List ℕ) → occurrence_meets os w Fitting ≡ true
occurrence_fits os w = by (is_some (range_in w))
  where
    by : (v : Bool) → (if v then range_meets w Fitting else term_meets os w Fitting) ≡ true
    by true = at_fitting has_small_ends (range_in w)
    by false = term_fits os w

-- a word that is a range
module _ (os : List Outline) (w : List ℕ) (v : Bool) (is : v ≡ is_some (range_in w)) where
  either_missed : first_missed (λ k. if v then range_meets w k else term_meets os w k) ≡ first_missed (occurrence_meets os w)
  either_missed = ap (λ (b : Bool). first_missed (λ k. if b then range_meets w k else term_meets os w k)) is

  either_are : (if v then map occurrence.Span (piece_list (judged has_small_ends (range_in w))) else map occurrence.Term (word_terms os w)) ≡ word_occurrences os w
  either_are = ap (λ (b : Bool). if b then map occurrence.Span (piece_list (judged has_small_ends (range_in w))) else map occurrence.Term (word_terms os w)) is

pub range_word_missed : (os : List Outline) (w : List ℕ) → true ≡ is_some (range_in w) → first_missed (range_meets w) ≡ first_missed (occurrence_meets os w)
range_word_missed os w is = either_missed os w true is

pub range_word_are : (os : List Outline) (w : List ℕ) → true ≡ is_some (range_in w) → map occurrence.Span (piece_list (judged has_small_ends (range_in w))) ≡ word_occurrences os w
range_word_are os w is = either_are os w true is

-- a word has no whitespace
abbrev HasNoSpace : List ℕ → Type 0
HasNoSpace p = list_all (λ b. not (is_space b)) p ≡ true

onto_lacks : (b : ℕ) (ps : List (List ℕ)) → not (is_space b) ≡ true → AllByRecursion HasNoSpace ps → AllByRecursion HasNoSpace (onto_first b ps)
onto_lacks b [] h all = (both _ _ h refl, tt)
onto_lacks b (p ∷ ps) h all = (both _ _ h all.0, all.1)

parts_lack : (text : List ℕ) → AllByRecursion HasNoSpace (parts is_space text)
parts_lack [] = (refl, tt)
parts_lack (b ∷ bs) = by (is_space b) refl (parts_lack bs)
  where
    by : (v : Bool) → is_space b ≡ v → AllByRecursion HasNoSpace (parts is_space bs) → AllByRecursion HasNoSpace (if v then [] ∷ parts is_space bs else onto_first b (parts is_space bs))
    by true e rest = (refl, rest)
    by false e rest = onto_lacks b (parts is_space bs) (ap not e) rest

abbrev IsWord : List ℕ → Type 0
IsWord p = HasNoSpace p × (is_nonempty p ≡ true)

kept : (ps : List (List ℕ)) → AllByRecursion HasNoSpace ps → AllByRecursion IsWord (filter is_nonempty ps)
kept [] all = tt
kept (p ∷ ps) all = by (is_nonempty p) refl (kept ps all.1)
  where
    by : (v : Bool) → is_nonempty p ≡ v → AllByRecursion IsWord (filter is_nonempty ps) → AllByRecursion IsWord (cond v (p ∷ filter is_nonempty ps) (filter is_nonempty ps))
    by true e rest = ((all.0, e), rest)
    by false e rest = rest

not_space : (v : Bool) → not v ≡ true → v ≡ false
not_space true h = cc
not_space false h = refl

whole : (w : List ℕ) → HasNoSpace w → parts is_space w ≡ w ∷ []
whole [] h = refl
whole (b ∷ bs) h =
    ap (λ (v : Bool). if v then [] ∷ parts is_space bs else onto_first b (parts is_space bs)) (not_space (is_space b) (and_left (not (is_space b)) (list_all (λ b. not (is_space b)) bs) h))
    ∙ ap (onto_first b) (whole bs (and_right (not (is_space b)) (list_all (λ b. not (is_space b)) bs) h))

one_word : (w : List ℕ) → IsWord w → words_of w ≡ w ∷ []
one_word w h = ap (filter is_nonempty) (whole w h.0) ∙ ap (λ (v : Bool). cond v (w ∷ []) []) h.1

-- the first word of a text is a text of one word
pub word_alone : (text w : List ℕ) (ws : List (List ℕ)) → words_of text ≡ w ∷ ws → words_of w ≡ w ∷ []
word_alone text w ws h = by (words_of text) h (kept (parts is_space text) (parts_lack text))
  where
    by : (us : List (List ℕ)) → us ≡ w ∷ ws → AllByRecursion IsWord us → words_of w ≡ w ∷ []
    by [] e all = cc
    by (u ∷ us) e all = let same : u ≡ w = cc in ap words_of (sym same) ∙ one_word u all.0 ∙ ap (λ v. v ∷ []) same

-- what a word misses apart from its count
same_missed : (t : Condition → Bool) → first_missed t ≡ first_missed (λ k. t k && true)
same_missed t = by (first_missed t) refl
  where
    by : (m : Option Condition) → first_missed t ≡ m → first_missed t ≡ first_missed (λ k. t k && true)
    by None e = e ∙ sym (ap (λ (m : Option Condition). earlier_of m None) e) ∙ first_missed-both t (λ k. true)
    by (Some j) e = e ∙ sym (ap (λ (m : Option Condition). earlier_of m None) e) ∙ first_missed-both t (λ k. true)

other : (t : Condition → Bool) (k : Condition) → t Counting ≡ true → t k ≡ false → uncounted (Some k) ≡ Some k
other t Known h g = refl
other t Nesting h g = refl
other t Spelling h g = refl
other t Magnitude h g = refl
other t Naming h g = refl
other t Counting h g = cc
other t Fitting h g = refl

pub record IsParted (t : Condition → Bool) (n room : ℕ) (m : Option Condition) : Type 0 where
  pub missed : uncounted m ≡ first_missed t
  pub room_is : first_missed t ≡ None → has_room m ≡ nat_le n room

parted : (t : Condition → Bool) (n room : ℕ) → t Counting ≡ true → t Fitting ≡ true → IsParted t n room (first_missed (λ k. t k && count_meets n room k))
parted t n room counting fitting = by (first_missed t) refl
  where
    decided : (v : Bool) → uncounted (if v then None else Some Counting) ≡ None
    decided true = refl
    decided false = refl

    roomy : (v : Bool) → has_room (if v then None else Some Counting) ≡ v
    roomy true = refl
    roomy false = refl

    by : (o : Option Condition) → first_missed t ≡ o → IsParted t n room (first_missed (λ k. t k && count_meets n room k))
    by None e = record {
      missed = ap uncounted (count_decides t n room e) ∙ decided (nat_le n room) ∙ sym e;
      room_is = λ none. ap has_room (count_decides t n room e) ∙ roomy (nat_le n room);
    }
    by (Some k) e = record {
      missed = ap uncounted (before_counting t (count_meets n room) k (count_alone n room) fitting e) ∙ other t k counting (missed_here t k e) ∙ sym e;
      room_is = λ none. absurd (let never : Some k ≡ None = sym e ∙ none in cc);
    }

pub term_counting : (os : List Outline) (w : List ℕ) → term_meets os w Counting ≡ true
term_counting os w = by (is_run w)
  where
    by : (v : Bool) → (if v then run_meets w Counting else variable_meets os w Counting) ≡ true
    by true = at_counting is_small_run (run_of w)
    by false = both _ _ (both _ _ refl (all_true bracket_meets Counting (brackets_of w) (λ p. at_counting is_small_bracket (bracket_of p)))) refl

-- a text of one word
module _ (os : List Outline) (w : List ℕ) (room : ℕ) (alone : words_of w ≡ w ∷ []) where
  pub terms_alone : terms_of os w ≡ word_terms os w
  terms_alone = ap (flat_map (word_terms os)) alone ∙ append-nil (word_terms os w)

  pub parted_word : (m : Option Condition) → m ≡ first_missed (terms_meet os w room) → IsParted (term_meets os w) (length (word_terms os w)) room m
  parted_word m is =
      let t : Condition → Bool = λ k. term_meets os w k && true in
      let n = length (word_terms os w) in
      let told : m ≡ first_missed (λ k. t k && count_meets n room k) =
      is
      ∙ ap (λ ws. first_missed (λ k. all_meet (term_meets os) ws k && count_meets (length (terms_of os w)) room k)) alone
      ∙ ap (λ (ts : List Term). first_missed (λ k. t k && count_meets (length ts) room k)) terms_alone in
      let p = parted t n room (both _ _ (term_counting os w) refl) (both _ _ (term_fits os w) refl) in
      subst (IsParted (term_meets os w) n room) (sym told) (record { missed = p.missed ∙ sym (same_missed (term_meets os w)); room_is = λ none. p.room_is (sym (same_missed (term_meets os w)) ∙ none) })

-- joined with what is the same
pub joined_on : (missed a b : Option Condition) (r s : Bool) → a ≡ b → (b ≡ None → r ≡ s) → joined missed a r ≡ joined missed b s
joined_on (Some j) a b r s e f = ap (earlier_of (Some j)) e
joined_on None a None r s e f = ap (λ (o : Option Condition). joined None o r) e ∙ ap (joined None None) (f refl)
joined_on None a (Some k) r s e f = ap (λ (o : Option Condition). joined None o r) e

joined_clean : (missed a : Option Condition) (r : Bool) → joined missed a r ≡ None → (a ≡ None) × (r ≡ true)
joined_clean (Some j) None r h = cc
joined_clean (Some j) (Some k) r h = absurd (some (nat_le (rank j) (rank k)) h)
  where
    some : (v : Bool) → (if v then Some j else Some k) ≡ None → ⊥
    some true e = cc
    some false e = cc
joined_clean None None true h = (refl, refl)
joined_clean None None false h = cc
joined_clean None (Some k) r h = cc

pub none_missed : (missed m : Option Condition) → joined missed (uncounted m) (has_room m) ≡ None → m ≡ None
none_missed missed m h = let c = joined_clean missed (uncounted m) (has_room m) h in by m c.0 c.1
  where
    by : (o : Option Condition) → uncounted o ≡ None → has_room o ≡ true → o ≡ None
    by None e f = refl
    by (Some Known) e f = cc
    by (Some Nesting) e f = cc
    by (Some Spelling) e f = cc
    by (Some Magnitude) e f = cc
    by (Some Naming) e f = cc
    by (Some Counting) e f = cc
    by (Some Fitting) e f = cc
