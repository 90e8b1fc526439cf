-- Flags of states in room that may hold more of them.
use Rattle.std.proofs.Common.{◌≡◌, ℕ, zero, suc, ◌+◌, ◌<◌, ◌≤◌, inl, inr, max, ℤ, Bool, true, false, ◌&&◌, ◌||◌, if◌then◌else◌, List, [], ◌∷◌, ◌++◌, length, set, take, replicate, refl, ap, sym, ◌∙◌, arith, eqb}
use Rattle.std.specs.Prelude.{not}
use Rattle.std.specs.List.{AllByRecursion, list_any}
use Rattle.std.specs.Ordering.{int_eq}
use Rattle.std.proofs.lemmas.Bool.{cases_eq, eq-eqb, ne_eqb}
use Rattle.std.proofs.lemmas.List.{get_or-set_same, get_or-set_other, get_or-take, take_more_set}
use Rattle.std.proofs.Math.Seq.{take-set-lt}
use Rattle.xs_forms.specs.Room.{IsAsLong, Room, flags_in, past_states, with_flag}
use Rattle.xs_forms.proofs.RoomLemmas.{below_past, past-append}
use Rattle.xs_model.specs.Fitting.{ends_of}
use Rattle.xs_model.specs.declared.instance.Edge.{Edge}
use Rattle.xs_paths.specs.Flags.{flag, marked}

pub flag_set : (fs : List Bool) (p q : ℕ) → p < length fs → flag (set fs p true) q ≡ (eqb p q || flag fs q)
flag_set fs p q lt = elim (cases_eq q p) [
  | inl e ↦ ap (flag (set fs p true)) e ∙ get_or-set_same fs p true false lt ∙ ap (λ (b : Bool). b || flag fs q) (sym (eq-eqb p q (sym e)))
  | inr ne ↦ get_or-set_other fs p q true false ne ∙ ap (λ (b : Bool). b || flag fs q) (sym (ne_eqb p q (λ e. ne (sym e))))
]

-- the list in which a flag is set, and the other
pub set_here : (r : Room) (second : Bool) (at : ℕ) (b : Bool) → flags_in second (with_flag r second at b) ≡ set (flags_in second r) at b
set_here r true at b = refl
set_here r false at b = refl

pub set_there : (r : Room) (second : Bool) (at : ℕ) (b : Bool) → flags_in (not second) (with_flag r second at b) ≡ flags_in (not second) r
set_there r true at b = refl
set_there r false at b = refl

pub set_across : (r : Room) (second : Bool) (at : ℕ) (b : Bool) → flags_in second (with_flag r (not second) at b) ≡ flags_in second r
set_across r true at b = refl
set_across r false at b = refl

pub twice : (r : Room) (second : Bool) → flags_in (not (not second)) r ≡ flags_in second r
twice r true = refl
twice r false = refl

-- there are flags in both lists
pub as_long_in : (r s : Room) (second : Bool) → IsAsLong r s → length (flags_in second s) ≡ length (flags_in second r)
as_long_in r s true h = h.second
as_long_in r s false h = h.first

pub long_in : (n : ℕ) (r : Room) (second : Bool) → n ≤ length r.first → n ≤ length r.second → n ≤ length (flags_in second r)
long_in n r true f s = s
long_in n r false f s = f

-- flags that are taken, one after the other
pub replicate_more : (n : ℕ) → replicate n false ++ false ∷ [] ≡ replicate (n + 1) false
replicate_more zero = refl
replicate_more (suc n) = let longer : suc (n + 1) ≡ suc n + 1 = omega arith in ap (λ bs. false ∷ bs) (replicate_more n) ∙ ap (λ m. replicate m false) longer

pub cleared_more : (n : ℕ) (fs gs : List Bool) → n < length fs → take n fs ≡ replicate n false → gs ≡ set fs n false → take (n + 1) gs ≡ replicate (n + 1) false
cleared_more n fs gs lt h is = ap (take (n + 1)) is ∙ take_more_set fs n false lt ∙ ap (λ bs. bs ++ false ∷ []) h ∙ replicate_more n

-- one transition more
module _ (n : ℕ) (fs next : List Bool) (x : ℤ) (e : Edge) (from : e.from < n) where
  reads_same : (flag fs e.from && int_eq x e.value) ≡ (flag (take n fs) e.from && int_eq x e.value)
  reads_same = ap (λ b. b && int_eq x e.value) (sym (get_or-take n fs e.from false from))

  pub marked_then : e.to < n → true ≡ (flag fs e.from && int_eq x e.value) → take n (set next e.to true) ≡ marked (take n fs) x (take n next) e
  marked_then to h = take-set-lt n next e.to true to ∙ ap (λ (b : Bool). if b then set (take n next) e.to true else take n next) (h ∙ reads_same)

  pub marked_else : false ≡ (flag fs e.from && int_eq x e.value) → take n next ≡ marked (take n fs) x (take n next) e
  marked_else h = ap (λ (b : Bool). if b then set (take n next) e.to true else take n next) (h ∙ reads_same)

-- final states below n
pub flagged_front : (n : ℕ) (fs : List Bool) (qs : List ℕ) → AllByRecursion (λ q. q < n) qs → list_any (flag fs) qs ≡ list_any (flag (take n fs)) qs
flagged_front n fs [] h = refl
flagged_front n fs (q ∷ qs) h = ap (λ b. b || list_any (flag fs) qs) (sym (get_or-take n fs q false h.0)) ∙ ap (λ b. flag (take n fs) q || b) (flagged_front n fs qs h.1)

-- the states of an automaton are below one more than the greatest
module _ (edges : List Edge) (start : ℕ) (finals : List ℕ) where
  abbrev pub all_states : List ℕ
  all_states = ends_of edges ++ start ∷ finals

  front_all : (P : ℕ → Type 0) (xs ys : List ℕ) → AllByRecursion P (xs ++ ys) → AllByRecursion P xs
  front_all P [] ys h = tt
  front_all P (x ∷ xs) ys h = (h.0, front_all P xs ys h.1)

  back_all : (P : ℕ → Type 0) (xs ys : List ℕ) → AllByRecursion P (xs ++ ys) → AllByRecursion P ys
  back_all P [] ys h = h
  back_all P (x ∷ xs) ys h = back_all P xs ys h.1

  ends_from : (n : ℕ) (es : List Edge) → AllByRecursion (λ q. q < n) (ends_of es) → AllByRecursion (λ e. e.from < n) es × AllByRecursion (λ e. e.to < n) es
  ends_from n [] h = (tt, tt)
  ends_from n (e ∷ es) h = let rest = ends_from n es h.1.1 in ((h.0, rest.0), (h.1.0, rest.1))

  pub states_below : AllByRecursion (λ e. e.from < past_states all_states) edges × AllByRecursion (λ e. e.to < past_states all_states) edges
  states_below = ends_from (past_states all_states) edges (front_all (λ q. q < past_states all_states) (ends_of edges) (start ∷ finals) (below_past all_states))

  pub last_below : (start < past_states all_states) × AllByRecursion (λ q. q < past_states all_states) finals
  last_below = back_all (λ q. q < past_states all_states) (ends_of edges) (start ∷ finals) (below_past all_states)

  pub past_is : (n m k : ℕ) → n ≡ past_states (ends_of edges) → m ≡ max n (start + 1) → k ≡ max m (past_states finals) → k ≡ past_states all_states
  past_is n m k e f g = omega (arith, past-append (ends_of edges) (start ∷ finals), e, f, g)

-- what is below n is below what is longer
pub below_more : (n m : ℕ) → n ≤ m → (qs : List ℕ) → AllByRecursion (λ q. q < n) qs → AllByRecursion (λ q. q < m) qs
below_more n m le [] h = tt
below_more n m le (q ∷ qs) h = (omega (arith, h.0, le), below_more n m le qs h.1)
