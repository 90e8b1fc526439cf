-- The words of a list, each looked at once: what is missed, and what is denoted.
use Rattle.std.proofs.Common.{◌≡◌, ℕ, ◌+◌, ◌-◌, ◌≤◌, ◌<◌, ◌++◌, Bool, true, false, not, cond, ◌&&◌, nat_le, nat_eq, if◌then◌else◌, List, [], ◌∷◌, length, Option, None, Some, refl, ap, sym, subst, ◌∙◌, arith, length-append, append_assoc, append-nil}
use Rattle.std.specs.List.{flat_map}
use borrow.Author.Tests.{le-leb, leb-true, leb-false, lt-leb}
use Rattle.xs_fields.specs.Conditions.{all_meet, earlier_of, first_missed, rank}
use Rattle.xs_fields.specs.Lists.{count_meets}
use Rattle.xs_fields.specs.Scanning.{have_room, joined}
use Rattle.xs_fields.specs.declared.condition.Condition.{Condition}
use Rattle.xs_fields.specs.declared.condition.Condition.TheVariants.{Known, Nesting, Spelling, Magnitude, Naming, Counting, Fitting}
use Rattle.xs_fields.proofs.FirstLemmas.{before_counting, count_alone, count_decides}
use Rattle.xs_fields.proofs.OrderLemmas.{earlier_assoc, first_missed-both, first_missed-words}

-- the condition of a place in the order
abbrev of_rank : ℕ → Condition
of_rank n =
    if nat_eq n 1 then Known else if nat_eq n 2 then Nesting else if nat_eq n 3 then Spelling else if nat_eq n 4 then Magnitude else if nat_eq n 5 then Naming else if nat_eq n 6 then Counting else Fitting

of_rank-rank : (k : Condition) → of_rank (rank k) ≡ k
of_rank-rank Known = refl
of_rank-rank Nesting = refl
of_rank-rank Spelling = refl
of_rank-rank Magnitude = refl
of_rank-rank Naming = refl
of_rank-rank Counting = refl
of_rank-rank Fitting = refl

same_rank : (j k : Condition) → rank j ≡ rank k → j ≡ k
same_rank j k e = sym (of_rank-rank j) ∙ ap of_rank e ∙ of_rank-rank k

either_first : (j k : Condition) (v w : Bool) → nat_le (rank j) (rank k) ≡ v → nat_le (rank k) (rank j) ≡ w → (if v then Some j else Some k) ≡ (if w then Some k else Some j)
either_first j k true true e f = ap (λ (x : Condition). Some x) (same_rank j k (omega (arith, leb-true _ _ e, leb-true _ _ f)))
either_first j k true false e f = refl
either_first j k false true e f = refl
either_first j k false false e f = absurd (omega (arith, leb-false _ _ e, leb-false _ _ f))

-- of two missed conditions the earlier is the same in either order
pub earlier_comm : (a b : Option Condition) → earlier_of a b ≡ earlier_of b a
earlier_comm None None = refl
earlier_comm None (Some k) = refl
earlier_comm (Some j) None = refl
earlier_comm (Some j) (Some k) = either_first j k (nat_le (rank j) (rank k)) (nat_le (rank k) (rank j)) refl refl

module _ {A : Type 0} (members : List ℕ → List A) (test : List ℕ → Condition → Bool) (left : ℕ) (words : List (List ℕ)) where
  -- what the list meets
  abbrev pub whole : Condition → Bool
  whole k = all_meet test words k && count_meets (length (flat_map members words)) left k

  -- nothing is missed yet: the list is as far as the words, and within the limit
  pub record Grows (value : List A) (rest : List (List ℕ)) : Type 0 where
    pub value_is : value ++ flat_map members rest ≡ flat_map members words
    pub within : length value ≤ left
    pub missed_is : first_missed (all_meet test words) ≡ first_missed (all_meet test rest)

  -- where a scan stands
  abbrev pub Stands : Option Condition → List A → List (List ℕ) → Type 0
  Stands None value rest = Grows value rest
  Stands (Some k) value rest = first_missed whole ≡ earlier_of (Some k) (first_missed (all_meet test rest))

  pub begins : Stands None [] words
  begins = record { value_is = refl; within = omega arith; missed_is = refl }

  appended : (value : List A) (w : List ℕ) (ws : List (List ℕ)) → Grows value (w ∷ ws) → first_missed (test w) ≡ None → length (members w) ≤ left - length value → Grows (value ++ members w) ws
  appended value w ws s clean room = record {
    value_is = append_assoc value (members w) (flat_map members ws) ∙ s.value_is;
    within = omega (arith, s.within, room, length-append value (members w));
    missed_is = s.missed_is ∙ first_missed-words test w ws ∙ ap (λ m. earlier_of m (first_missed (all_meet test ws))) clean;
  }

  -- there are more members than the limit
  past : (value : List A) (w : List ℕ) (ws : List (List ℕ)) → Grows value (w ∷ ws) → first_missed (test w) ≡ None → left - length value < length (members w) → Stands (Some Counting) value ws
  past value w ws s clean many =
      let all : length value + (length (members w) + length (flat_map members ws)) ≡ length (flat_map members words) =
      omega (arith, length-append value (members w ++ flat_map members ws), length-append (members w) (flat_map members ws), ap (λ (xs : List A). length xs) s.value_is) in
      let over : nat_le (length (flat_map members words)) left ≡ false = lt-leb (length (flat_map members words)) left (omega (arith, all, many, s.within)) in
      sym (first_missed-both (all_meet test words) (count_meets (length (flat_map members words)) left))
      ∙ ap (λ m. earlier_of m (first_missed (count_meets (length (flat_map members words)) left))) (s.missed_is ∙ first_missed-words test w ws ∙ ap (λ m. earlier_of m (first_missed (all_meet test ws))) clean)
      ∙ ap (λ v. earlier_of (first_missed (all_meet test ws)) (cond (not v) (Some Counting) None)) over
      ∙ earlier_comm (first_missed (all_meet test ws)) (Some Counting)

  module _ (fits : (w : List ℕ) → test w Fitting ≡ true) where
    all_fit : (ws : List (List ℕ)) → all_meet test ws Fitting ≡ true
    all_fit [] = refl
    all_fit (w ∷ ws) = ap (λ v. v && all_meet test ws Fitting) (fits w) ∙ all_fit ws

    -- what a word misses is asked before the count
    counted_last : (m : Option Condition) → first_missed (all_meet test words) ≡ m → (k : Condition) → m ≡ Some k → first_missed whole ≡ m
    counted_last m e k is =
        before_counting (all_meet test words) (count_meets (length (flat_map members words)) left) k (count_alone (length (flat_map members words)) left) (all_fit words) (e ∙ is) ∙ sym is

    some_earlier : (k : Condition) (m : Option Condition) → (j : Condition) × (earlier_of (Some k) m ≡ Some j)
    some_earlier k None = (k, refl)
    some_earlier k (Some j) = by (nat_le (rank k) (rank j))
      where
        by : (v : Bool) → (i : Condition) × ((if v then Some k else Some j) ≡ Some i)
        by true = (k, refl)
        by false = (j, refl)

    missing : (value : List A) (w : List ℕ) (ws : List (List ℕ)) (k : Condition) → Grows value (w ∷ ws) → first_missed (test w) ≡ Some k → Stands (Some k) value ws
    missing value w ws k s is =
        let e = s.missed_is ∙ first_missed-words test w ws ∙ ap (λ m. earlier_of m (first_missed (all_meet test ws))) is in
        let j = some_earlier k (first_missed (all_meet test ws)) in
        counted_last (earlier_of (Some k) (first_missed (all_meet test ws))) e j.0 j.1

    stands_by : (m n : Option Condition) (value : List A) (rest : List (List ℕ)) → m ≡ n → Stands n value rest → Stands m value rest
    stands_by m n value rest e s = subst (λ o. Stands o value rest) (sym e) s

    judged_on : (k : Condition) (judged : Option Condition) (value : List A) (w : List ℕ) (ws : List (List ℕ)) → first_missed whole ≡ earlier_of (Some k) (first_missed (all_meet test (w ∷ ws))) → judged ≡ first_missed (test w) → first_missed whole ≡ earlier_of (earlier_of (Some k) judged) (first_missed (all_meet test ws))
    judged_on k judged value w ws s is =
        s
        ∙ ap (earlier_of (Some k)) (first_missed-words test w ws ∙ ap (λ m. earlier_of m (first_missed (all_meet test ws))) (sym is))
        ∙ sym (earlier_assoc (Some k) judged (first_missed (all_meet test ws)))

    still : (m : Option Condition) (j : Condition) (value : List A) (ws : List (List ℕ)) → m ≡ Some j → first_missed whole ≡ earlier_of m (first_missed (all_meet test ws)) → Stands m value ws
    still m j value ws e s = stands_by m (Some j) value ws e (s ∙ ap (λ o. earlier_of o (first_missed (all_meet test ws))) e)

    room_is : (v : Bool) (value new : List A) (m : Option Condition) (w : List ℕ) (ws : List (List ℕ)) → Grows value (w ∷ ws) → None ≡ first_missed (test w) → have_room left value (length (members w)) ≡ v → m ≡ joined None None v → (m ≡ None → new ≡ value ++ members w) → Stands m new ws
    room_is true value new m w ws s clean e is a =
        stands_by m None new ws is
        (subst (λ (xs : List A). Grows xs ws) (sym (a is)) (appended value w ws s (sym clean) (leb-true _ _ e)))
    room_is false value new m w ws s clean e is a = stands_by m (Some Counting) new ws is (past value w ws s (sym clean) (leb-false _ _ e))

    -- one word more
    pub next : (missed judged m : Option Condition) (old more new : List A) (w : List ℕ) (ws rest : List (List ℕ)) → rest ≡ w ∷ ws → judged ≡ first_missed (test w) → more ≡ members w → m ≡ joined missed judged (have_room left old (length more)) → (m ≡ None → new ≡ old ++ more) → Stands missed old rest → Stands m new ws
    next missed judged m old more new w ws rest cut is are told value s =
        by missed judged is (told ∙ ap (λ (xs : List A). joined missed judged (have_room left old (length xs))) are) (subst (λ rs. Stands missed old rs) cut s)
      where
        made : m ≡ None → new ≡ old ++ members w
        made e = value e ∙ ap (λ xs. old ++ xs) are

        by : (missed judged : Option Condition) → judged ≡ first_missed (test w) → m ≡ joined missed judged (have_room left old (length (members w))) → Stands missed old (w ∷ ws) → Stands m new ws
        by None None is t s = room_is (have_room left old (length (members w))) old new m w ws s is refl t made
        by None (Some k) is t s = stands_by m (Some k) new ws t (missing old w ws k s (sym is))
        by (Some k) judged is t s = let j = some_earlier k judged in stands_by m (earlier_of (Some k) judged) new ws t (still (earlier_of (Some k) judged) j.0 new ws j.1 (judged_on k judged old w ws s is))

  -- the end of the words
  pub ends_missed : (missed : Option Condition) (value : List A) (rest : List (List ℕ)) → rest ≡ [] → Stands missed value rest → missed ≡ first_missed whole
  ends_missed missed value rest none s = by missed (subst (λ rs. Stands missed value rs) none s)
    where
      by : (missed : Option Condition) → Stands missed value [] → missed ≡ first_missed whole
      by (Some k) s = sym s
      by None s =
          let count : length (flat_map members words) ≡ length value = ap (λ (xs : List A). length xs) (sym s.value_is ∙ append-nil value) in
          sym (count_decides (all_meet test words) (length (flat_map members words)) left s.missed_is
          ∙ ap (λ n. if nat_le n left then None else Some Counting) count
          ∙ ap (λ v. if v then None else Some Counting) (le-leb (length value) left s.within))

  pub ends_value : (missed : Option Condition) (value : List A) (rest : List (List ℕ)) → rest ≡ [] → Stands missed value rest → missed ≡ None → value ≡ flat_map members words
  ends_value missed value rest none s clean = by missed clean (subst (λ rs. Stands missed value rs) none s)
    where
      by : (missed : Option Condition) → missed ≡ None → Stands missed value [] → value ≡ flat_map members words
      by None e s = sym (append-nil value) ∙ s.value_is
      by (Some k) e s = cc
