-- What declared names stand for, behind one declaration more.
use Rattle.std.proofs.Common.{◌≡◌, ◌≢◌, ◌⊎◌, inl, inr, ℕ, zero, suc, ◌<◌, Bool, true, false, List, [], ◌∷◌, ◌++◌, length, Option, None, Some, refl, ap, sym, subst, ◌∙◌, arith, if◌then◌else◌}
use Rattle.std.specs.Prelude.{nat_eq, slice_get, slice_index_or, AllPairs}
use Rattle.std.specs.List.{AllByRecursion}
use Rattle.std.specs.Cmp.Lexicographic.{pointwise, same_text}
use Rattle.std.proofs.lemmas.Cmp.{nat_list_eq_equiv}
use Rattle.std.proofs.lemmas.Bool.{lt-ltb}
use Rattle.fz_file.specs.Layout.{name_at}
use Rattle.fz_values.specs.declared.meaning.Single.TheVariants as single
use Rattle.fz_values.specs.declared.meaning.Meaning.{Meaning}
use Rattle.fz_values.specs.declared.meaning.Meaning.TheVariants as meaning
use Rattle.fz_values.specs.Names.{look_up}

abbrev pub Names : Type 0
Names = List (List ℕ × Meaning)

-- the meaning of a variable
abbrev pub var_is : Bool → ℕ → Meaning
var_is true k = meaning.One (single.BoolVar k)
var_is false k = meaning.One (single.IntVar k)

-- each variable's name stands for it
abbrev pub Knows : List (List ℕ) → List Bool → Names → Type 0
Knows names booleans known = (k : ℕ) (t : Bool) → slice_get booleans k ≡ Some t → look_up known (name_at names k) ≡ Some (var_is t k)

-- none of these names is declared
abbrev pub AreNew : Names → List (List ℕ) → Type 0
AreNew known ws = AllByRecursion (λ w. look_up known w ≡ None) ws

on : (t : Bool) (a b c : Option Meaning) (x : Option Meaning) → (b ≡ x → c ≡ x) → (if t then a else b) ≡ x → (if t then a else c) ≡ x
on true a b c x f h = h
on false a b c x f h = f h

-- what a name stands for, it still stands for
pub found_more : (known : Names) (w n : List ℕ) (m x : Meaning) → look_up known n ≡ Some x → look_up (known ++ (w, m) ∷ []) n ≡ Some x
found_more [] w n m x h = cc
found_more (e ∷ es) w n m x h = on (pointwise nat_eq n e.0) (Some e.1) (look_up es n) (look_up (es ++ (w, m) ∷ []) n) (Some x) (found_more es w n m x) h

itself : (w : List ℕ) → pointwise nat_eq w w ≡ true
itself w = nat_list_eq_equiv.refl w

not_first : (t : Bool) (x : Meaning) (b c y : Option Meaning) → (b ≡ None → c ≡ y) → (if t then Some x else b) ≡ None → (if t then Some x else c) ≡ y
not_first true x b c y f h = cc
not_first false x b c y f h = f h

-- a new name stands for what is declared
pub found_last : (known : Names) (w : List ℕ) (m : Meaning) → look_up known w ≡ None → look_up (known ++ (w, m) ∷ []) w ≡ Some m
found_last [] w m h = ap (λ t. if t then Some m else None) (itself w)
found_last (e ∷ es) w m h = not_first (pointwise nat_eq w e.0) e.1 (look_up es w) (look_up (es ++ (w, m) ∷ []) w) (Some m) (found_last es w m) h

other : (t : Bool) (v w : List ℕ) (m : Meaning) → (t ≡ true → v ≡ w) → w ≢ v → (if t then Some m else None) ≡ None
other true v w m f apart = absurd (apart (sym (f refl)))
other false v w m f apart = refl

still_new : (known : Names) (w v : List ℕ) (m : Meaning) → w ≢ v → look_up known v ≡ None → look_up (known ++ (w, m) ∷ []) v ≡ None
still_new [] w v m apart h = other (pointwise nat_eq v w) v w m (λ e. same_text v w (sym e)) apart
still_new (e ∷ es) w v m apart h = not_first (pointwise nat_eq v e.0) e.1 (look_up es v) (look_up (es ++ (w, m) ∷ []) v) None (still_new es w v m apart) h

-- names that differ from a declared one stay new
pub new_more : (known : Names) (w : List ℕ) (m : Meaning) (ws : List (List ℕ)) → AllByRecursion (λ v. w ≢ v) ws → AreNew known ws → AreNew (known ++ (w, m) ∷ []) ws
new_more known w m [] apart h = tt
new_more known w m (v ∷ vs) apart h = (still_new known w v m apart.0 h.0, new_more known w m vs apart.1 h.1)

pub none_known : (ws : List (List ℕ)) → AreNew [] ws
none_known [] = tt
none_known (w ∷ ws) = (refl, none_known ws)

-- distinct names, by the first and the rest

module _ {X : Type 0} (R : X → X → Type 0) where
  from_index : (x : X) (xs : List X) → ((j : ℕ) (d : X) → j < length xs → R x (slice_index_or xs j d)) → AllByRecursion (R x) xs
  from_index x [] f = tt
  from_index x (y ∷ ys) f = (f 0 y (omega arith), from_index x ys (λ j d lt. f (suc j) d (omega (arith, lt))))

  pub pairs_first : (x : X) (xs : List X) → AllPairs R (x ∷ xs) → AllByRecursion (R x) xs
  pairs_first x xs h = from_index x xs (λ j d lt. h 0 (suc j) d (omega arith) (omega (arith, lt)))

  pub pairs_rest : (x : X) (xs : List X) → AllPairs R (x ∷ xs) → AllPairs R xs
  pairs_rest x xs h = λ i j d lt le. h (suc i) (suc j) d (omega (arith, lt)) (omega (arith, le))

-- what a variable's name stands for, behind it

get_either : (bs : List Bool) (b : Bool) (k : ℕ) (t : Bool) → slice_get (bs ++ b ∷ []) k ≡ Some t → (slice_get bs k ≡ Some t) ⊎ ((k ≡ length bs) × (b ≡ t))
get_either [] b zero t h = inr (refl, same b t h)
  where
    same : (x y : Bool) → Some x ≡ Some y → x ≡ y
    same x y e = cc
get_either [] b (suc k) t h = cc
get_either (c ∷ cs) b zero t h = inl h
get_either (c ∷ cs) b (suc k) t h = elim (get_either cs b k t h) [ inl e ↦ inl e | inr e ↦ inr (ap suc e.0, e.1) ]

index_past : {X : Type 0} (xs : List X) (y : X) (ys : List X) (d : X) → slice_index_or (xs ++ y ∷ ys) (length xs) d ≡ y
index_past [] y ys d = refl
index_past (x ∷ xs) y ys d = index_past xs y ys d

before_end : {X : Type 0} (xs : List X) (y : X) (ys : List X) → length xs < length (xs ++ y ∷ ys)
before_end [] y ys = omega arith
before_end (x ∷ xs) y ys = omega (arith, before_end xs y ys)

pub name_here : (front : List (List ℕ)) (w : List ℕ) (back : List (List ℕ)) → name_at (front ++ w ∷ back) (length front) ≡ w
name_here front w back =
    let t = lt-ltb (length front) (length (front ++ w ∷ back)) (before_end front w back) in
    (rw t refl) ∙ index_past front w back []

-- one variable more
pub knows_more : (names : List (List ℕ)) (booleans : List Bool) (b : Bool) (known : Names) → Knows names booleans known → look_up known (name_at names (length booleans)) ≡ None
    → Knows names (booleans ++ b ∷ []) (known ++ (name_at names (length booleans), var_is b (length booleans)) ∷ [])
knows_more names booleans b known h new k t e =
    elim (get_either booleans b k t e) [
      | inl g ↦ found_more known (name_at names (length booleans)) (name_at names k) (var_is b (length booleans)) (var_is t k) (h k t g)
      | inr g ↦ subst (λ (j : ℕ). look_up (known ++ (name_at names (length booleans), var_is b (length booleans)) ∷ []) (name_at names j) ≡ Some (var_is t j)) (sym g.0)
          (subst (λ (s : Bool). look_up (known ++ (name_at names (length booleans), var_is b (length booleans)) ∷ []) (name_at names (length booleans)) ≡ Some (var_is s (length booleans))) g.1 (found_last known (name_at names (length booleans)) (var_is b (length booleans)) new))
    ]

-- a name that is no variable's
pub knows_still : (names : List (List ℕ)) (booleans : List Bool) (known : Names) (w : List ℕ) (m : Meaning) → Knows names booleans known → Knows names booleans (known ++ (w, m) ∷ [])
knows_still names booleans known w m h k t e = found_more known w (name_at names k) m (var_is t k) (h k t e)
