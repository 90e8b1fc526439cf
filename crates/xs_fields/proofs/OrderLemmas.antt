-- How the first missed conditions of two parts join to that of the whole.
use Rattle.std.proofs.Common.{◌≡◌, ℕ, ◌<◌, Bool, true, false, not, ◌&&◌, nat_le, nat_lt, cond, if◌then◌else◌, List, [], ◌∷◌, Option, None, Some, IfSome, Ok, Err, refl, ap, sym, ◌∙◌, arith}
use Rattle.std.specs.Result.{result_err}
use Rattle.xs_fields.specs.declared.condition.Condition.TheVariants.{Magnitude}
use Rattle.std.specs.List.{find, list_all}
use borrow.Author.Tests.{leb-true, leb-false, ltb-true, le-leb, lt-leb}
use Rattle.xs_fields.specs.declared.condition.Condition.{Condition}
use Rattle.xs_fields.specs.Conditions.{rank, in_order, first_missed, earlier_of, all_meet, judged, meets}
use Rattle.xs_fields.proofs.IntegerLemmas.{and_left, and_right}

-- each is asked before those behind it
abbrev Ascends : List Condition → Type 0
Ascends [] = Unit {0}
Ascends (k ∷ ks) = (list_all (λ j. nat_lt (rank k) (rank j)) ks ≡ true) × Ascends ks

found_after : (test : Condition → Bool) (k : Condition) (ks : List Condition) → list_all (λ j. nat_lt (rank k) (rank j)) ks ≡ true → IfSome (find test ks) (λ j. rank k < rank j)
found_after test k [] h = tt
found_after test k (j ∷ ks) h = by (test j) (found_after test k ks (and_right _ _ h))
  where
    by : (v : Bool) → IfSome (find test ks) (λ j. rank k < rank j) → IfSome (cond v (Some j) (find test ks)) (λ j. rank k < rank j)
    by true rest = ltb-true _ _ (and_left _ _ h)
    by false rest = rest

first_left : (k : Condition) (r : Option Condition) → IfSome r (λ j. rank k < rank j) → earlier_of (Some k) r ≡ Some k
first_left k None h = refl
first_left k (Some j) h = ap (λ (v : Bool). if v then Some k else Some j) (le-leb (rank k) (rank j) (omega (arith, h)))

first_right : (k : Condition) (r : Option Condition) → IfSome r (λ j. rank k < rank j) → earlier_of r (Some k) ≡ Some k
first_right k None h = refl
first_right k (Some j) h = ap (λ (v : Bool). if v then Some j else Some k) (lt-leb (rank j) (rank k) (omega (arith, h)))

same : (k : Condition) → earlier_of (Some k) (Some k) ≡ Some k
same k = ap (λ (v : Bool). if v then Some k else Some k) (le-leb (rank k) (rank k) (omega arith))

joined : (t u : Condition → Bool) (ks : List Condition) → Ascends ks → earlier_of (find (λ k. not (t k)) ks) (find (λ k. not (u k)) ks) ≡ find (λ k. not (t k && u k)) ks
joined t u [] h = refl
joined t u (k ∷ ks) h = by (t k) (u k) (joined t u ks h.1)
  where
    by : (v w : Bool) → earlier_of (find (λ k. not (t k)) ks) (find (λ k. not (u k)) ks) ≡ find (λ k. not (t k && u k)) ks → earlier_of (cond (not v) (Some k) (find (λ k. not (t k)) ks)) (cond (not w) (Some k) (find (λ k. not (u k)) ks)) ≡ cond (not (v && w)) (Some k) (find (λ k. not (t k && u k)) ks)
    by true true rest = rest
    by true false rest = first_right k (find (λ k. not (t k)) ks) (found_after (λ k. not (t k)) k ks h.0)
    by false true rest = first_left k (find (λ k. not (u k)) ks) (found_after (λ k. not (u k)) k ks h.0)
    by false false rest = same k

ascending : Ascends in_order
ascending = (refl, (refl, (refl, (refl, (refl, (refl, (refl, tt)))))))

-- what a whole misses first is the earlier of what its parts miss
pub first_missed-both : (t u : Condition → Bool) → earlier_of (first_missed t) (first_missed u) ≡ first_missed (λ k. t k && u k)
first_missed-both t u = joined t u in_order ascending

pub first_missed-words : (test : List ℕ → Condition → Bool) (w : List ℕ) (ws : List (List ℕ)) → first_missed (all_meet test (w ∷ ws)) ≡ earlier_of (first_missed (test w)) (first_missed (all_meet test ws))
first_missed-words test w ws = sym (first_missed-both (test w) (all_meet test ws))

earlier_three : (a b c : Condition) → earlier_of (earlier_of (Some a) (Some b)) (Some c) ≡ earlier_of (Some a) (earlier_of (Some b) (Some c))
earlier_three a b c = by (nat_le (rank a) (rank b)) (nat_le (rank b) (rank c)) (nat_le (rank a) (rank c)) refl refl refl
  where
    by : (v w x : Bool) → nat_le (rank a) (rank b) ≡ v → nat_le (rank b) (rank c) ≡ w → nat_le (rank a) (rank c) ≡ x → earlier_of (if v then Some a else Some b) (Some c) ≡ earlier_of (Some a) (if w then Some b else Some c)
    by true true true e f g = ap (λ (v : Bool). if v then Some a else Some c) g ∙ sym (ap (λ (v : Bool). if v then Some a else Some b) e)
    by true true false e f g = absurd (omega (arith, leb-true _ _ e, leb-true _ _ f, leb-false _ _ g))
    by true false x e f g = refl
    by false true x e f g = ap (λ (v : Bool). if v then Some b else Some c) f ∙ sym (ap (λ (v : Bool). if v then Some a else Some b) e)
    by false false true e f g = absurd (omega (arith, leb-false _ _ e, leb-false _ _ f, leb-true _ _ g))
    by false false false e f g = ap (λ (v : Bool). if v then Some b else Some c) f ∙ sym (ap (λ (v : Bool). if v then Some a else Some c) g)

pub earlier_assoc : (a b c : Option Condition) → earlier_of (earlier_of a b) c ≡ earlier_of a (earlier_of b c)
earlier_assoc None b c = refl
earlier_assoc (Some a) None c = refl
earlier_assoc (Some a) (Some b) None = none (nat_le (rank a) (rank b))
  where
    none : (v : Bool) → earlier_of (if v then Some a else Some b) None ≡ (if v then Some a else Some b)
    none true = refl
    none false = refl
earlier_assoc (Some a) (Some b) (Some c) = earlier_three a b c

-- one word more
pub missed_more : (test : List ℕ → Condition → Bool) (missed judged all : Option Condition) (words ws : List (List ℕ)) (w : List ℕ) → words ≡ w ∷ ws → judged ≡ first_missed (test w) → earlier_of missed (first_missed (all_meet test words)) ≡ all → earlier_of (earlier_of missed judged) (first_missed (all_meet test ws)) ≡ all
missed_more test missed judged all words ws w cut is so_far =
    earlier_assoc missed judged (first_missed (all_meet test ws))
    ∙ ap (λ j. earlier_of missed (earlier_of j (first_missed (all_meet test ws)))) is
    ∙ ap (earlier_of missed) (sym (first_missed-words test w ws) ∙ ap (λ ws. first_missed (all_meet test ws)) (sym cut))
    ∙ so_far

pub missed_all : (missed all : Option Condition) (test : List ℕ → Condition → Bool) (words : List (List ℕ)) → words ≡ [] → earlier_of missed (first_missed (all_meet test words)) ≡ all → missed ≡ all
missed_all missed all test words none so_far = sym (no_more missed) ∙ ap (λ ws. earlier_of missed (first_missed (all_meet test ws))) (sym none) ∙ so_far
  where
    no_more : (r : Option Condition) → earlier_of r None ≡ r
    no_more None = refl
    no_more (Some k) = refl

-- what a judged word misses
pub judged_missed : {A : Type 0} (small : A → Bool) (o : Option A) → result_err (judged small o) ≡ first_missed (meets small o)
judged_missed small None = refl
judged_missed small (Some x) = by (small x) refl
  where
    by : (v : Bool) → small x ≡ v → result_err (if v then Ok x else Err Magnitude) ≡ cond (not v) (Some Magnitude) None
    by true e = refl
    by false e = refl
