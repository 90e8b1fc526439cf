-- Names that are new differ from those before them.
use Rattle.std.proofs.Common.{◌≡◌, ◌≢◌, ℕ, Bool, true, false, not, if◌then◌else◌, List, [], ◌∷◌, ◌++◌, Option, Some, None, refl, sym, subst, arith}
use Rattle.std.specs.Prelude.{nat_eq, is_some, AllPairs}
use Rattle.std.specs.List.{AllByRecursion}
use Rattle.std.specs.Cmp.Lexicographic.{pointwise, bytes_decides}
use Rattle.std.proofs.lemmas.List.Elements.{All-from_recursion}
use Rattle.std.proofs.lemmas.List.Kept.{AllPairs-cons}
use Rattle.fz_values.specs.declared.meaning.Meaning.{Meaning}
use Rattle.fz_values.specs.Names.{look_up}

-- the names differ
abbrev pub Differ : List (List ℕ) → Type 0
Differ [] = Unit {0}
Differ (a ∷ xs) = AllByRecursion (λ b. a ≢ b) xs × Differ xs

pub all_insert : {X : Type 0} (P : X → Type 0) (xs bs : List X) (w : X) → AllByRecursion P (xs ++ bs) → P w → AllByRecursion P (xs ++ w ∷ bs)
all_insert P [] bs w h g = (g, h)
all_insert P (a ∷ xs) bs w h g = (h.0, all_insert P xs bs w h.1 g)

flipped : (w : List ℕ) (bs : List (List ℕ)) → AllByRecursion (λ b. b ≢ w) bs → AllByRecursion (λ b. w ≢ b) bs
flipped w [] h = tt
flipped w (b ∷ bs) h = ((λ e. h.0 (sym e)), flipped w bs h.1)

pub differ_insert : (xs bs : List (List ℕ)) (w : List ℕ) → Differ (xs ++ bs) → AllByRecursion (λ b. b ≢ w) (xs ++ bs) → Differ (xs ++ w ∷ bs)
differ_insert [] bs w h g = (flipped w bs g, h)
differ_insert (a ∷ xs) bs w h g = (all_insert (λ b. a ≢ b) xs bs w h.0 g.0, differ_insert xs bs w h.1 g.1)

pub all_differ : (xs : List (List ℕ)) → Differ xs → AllPairs (λ a b. a ≢ b) xs
all_differ [] h = λ i j d lt within. absurd (omega arith)
all_differ (a ∷ xs) h = AllPairs-cons (λ x y. x ≢ y) a xs (All-from_recursion (λ b. a ≢ b) xs h.0) (all_differ xs h.1)

-- the name is declared
abbrev pub IsDeclared : List (List ℕ × Meaning) → List ℕ → Type 0
IsDeclared names w = is_some (look_up names w) ≡ true

some_if : (t : Bool) (m : Meaning) (o r : Option Meaning) → (is_some o ≡ true → is_some r ≡ true) → is_some (if t then Some m else o) ≡ true → is_some (if t then Some m else r) ≡ true
some_if true m o r f h = refl
some_if false m o r f h = f h

pub declared_more : (names : List (List ℕ × Meaning)) (e : List ℕ × Meaning) (w : List ℕ) → IsDeclared names w → IsDeclared (names ++ e ∷ []) w
declared_more [] e w h = cc
declared_more (n ∷ ns) e w h = some_if (pointwise nat_eq w n.0) n.1 (look_up ns w) (look_up (ns ++ e ∷ []) w) (declared_more ns e w) h

some_this : (t : Bool) (m : Meaning) (o : Option Meaning) → is_some o ≡ true → is_some (if t then Some m else o) ≡ true
some_this true m o h = refl
some_this false m o h = h

same_name : (w : List ℕ) → pointwise nat_eq w w ≡ true
same_name w = (bytes_decides w w).1 refl

some_same : (t : Bool) (m : Meaning) → t ≡ true → is_some (if t then Some m else None) ≡ true
some_same true m e = refl
some_same false m e = cc

pub declared_last : (names : List (List ℕ × Meaning)) (w : List ℕ) (m : Meaning) → IsDeclared (names ++ (w, m) ∷ []) w
declared_last [] w m = some_same (pointwise nat_eq w w) m (same_name w)
declared_last (n ∷ ns) w m = some_this (pointwise nat_eq w n.0) n.1 (look_up (ns ++ (w, m) ∷ []) w) (declared_last ns w m)

not_both : (t : Bool) → not t ≡ true → t ≡ true → ⊥
not_both true e h = cc
not_both false e h = cc

pub apart : (names : List (List ℕ × Meaning)) (w : List ℕ) (xs : List (List ℕ)) → not (is_some (look_up names w)) ≡ true → AllByRecursion (IsDeclared names) xs → AllByRecursion (λ a. a ≢ w) xs
apart names w [] new h = tt
apart names w (a ∷ xs) new h = ((λ e. not_both (is_some (look_up names w)) new (subst (IsDeclared names) e h.0)), apart names w xs new h.1)
