-- Names that differ, by one name more.
use Rattle.std.proofs.Common.{◌≡◌, ℕ, Bool, true, false, not, ◌&&◌, cond, List, [], ◌∷◌, ◌++◌, refl, ap, sym, ◌∙◌, ◌⊎◌, inl, inr}
use Rattle.std.proofs.lemmas.Slice.Eq.{bytes_eq-Decides}
use Rattle.std.proofs.lemmas.Map.Text.{is_eq-slice_cmp}
use Rattle.std.specs.Ordering.{nat_cmp, is_eq}
use Rattle.std.specs.Cmp.Lexicographic.{slice_cmp}
use Rattle.std.specs.Str.{bytes_eq}
use Rattle.xf_markup.specs.declared.tree.Attr.{Attr}
use Rattle.xf_markup.specs.Tag.{is_new, are_distinct}

decided : (b c : Bool) → (b ≡ true → c ≡ true) → (c ≡ true → b ≡ true) → b ≡ c
decided true c h k = sym (h refl)
decided false true h k = k refl
decided false false h k = refl

turned : (xs ys : List ℕ) → bytes_eq xs ys ≡ bytes_eq ys xs
turned xs ys = decided (bytes_eq xs ys) (bytes_eq ys xs) (λ e. (bytes_eq-Decides ys xs).1 (sym ((bytes_eq-Decides xs ys).0 e))) (λ e. (bytes_eq-Decides xs ys).1 (sym ((bytes_eq-Decides ys xs).0 e)))

and_assoc : (a b c : Bool) → ((a && b) && c) ≡ (a && (b && c))
and_assoc true b c = refl
and_assoc false b c = refl

and_swap : (a b c : Bool) → (a && (b && c)) ≡ (b && (a && c))
and_swap true b c = refl
and_swap false true c = refl
and_swap false false c = refl

pub and_left : (a b : Bool) → (a && b) ≡ true → a ≡ true
and_left true b h = refl
and_left false b h = h

pub and_right : (a b : Bool) → (a && b) ≡ true → b ≡ true
and_right true b h = h
and_right false b h = cc

and_true : (a : Bool) → (a && true) ≡ a
and_true true = refl
and_true false = refl

pub is_new_more : (xs : List Attr) (a : Attr) (q : List ℕ) → is_new (xs ++ a ∷ []) q ≡ (is_new xs q && not (bytes_eq a.name q))
is_new_more [] a q = and_true (not (bytes_eq a.name q))
is_new_more (x ∷ xs) a q = ap (λ z. not (bytes_eq x.name q) && z) (is_new_more xs a q) ∙ sym (and_assoc (not (bytes_eq x.name q)) (is_new xs q) (not (bytes_eq a.name q)))

pub distinct_more : (xs : List Attr) (a : Attr) → are_distinct xs ≡ true → is_new xs a.name ≡ true → are_distinct (xs ++ a ∷ []) ≡ true
distinct_more [] a h k = refl
distinct_more (x ∷ xs) a h k =
    let at_once : is_new xs x.name ≡ true = and_left (is_new xs x.name) (are_distinct xs) h in
    let rest : are_distinct xs ≡ true = and_right (is_new xs x.name) (are_distinct xs) h in
    let apart : not (bytes_eq x.name a.name) ≡ true = and_left (not (bytes_eq x.name a.name)) (is_new xs a.name) k in
    let new : is_new xs a.name ≡ true = and_right (not (bytes_eq x.name a.name)) (is_new xs a.name) k in
    let more : are_distinct (xs ++ a ∷ []) ≡ true = distinct_more xs a rest new in
    let other : not (bytes_eq a.name x.name) ≡ true = ap not (turned a.name x.name) ∙ apart in
    rw (is_new_more xs a x.name, at_once, other, more) refl

and_false : (a : Bool) → (a && false) ≡ false
and_false true = refl
and_false false = refl

not_new : (xs : List Attr) (a : Attr) (ys : List Attr) (q : List ℕ) → bytes_eq a.name q ≡ true → is_new (xs ++ a ∷ ys) q ≡ false
not_new [] a ys q e = rw e refl
not_new (x ∷ xs) a ys q e = ap (λ z. not (bytes_eq x.name q) && z) (not_new xs a ys q e) ∙ and_false (not (bytes_eq x.name q))

old_or_new : (b c : Bool) → (not b && c) ≡ false → (b ≡ true) ⊎ (c ≡ false)
old_or_new true c k = inl refl
old_or_new false c k = inr k

pub not_distinct : (xs : List Attr) (a : Attr) (ys : List Attr) → is_new xs a.name ≡ false → are_distinct (xs ++ a ∷ ys) ≡ false
not_distinct [] a ys k = cc
not_distinct (x ∷ xs) a ys k = elim (old_or_new (bytes_eq x.name a.name) (is_new xs a.name) k) [
  | inl same ↦
      let first : is_new (xs ++ a ∷ ys) x.name ≡ false = not_new xs a ys x.name (turned a.name x.name ∙ same) in
      rw first refl
  | inr new ↦
      let rest : are_distinct (xs ++ a ∷ ys) ≡ false = not_distinct xs a ys new in
      rw (rest, and_false) refl
]

either : (b c : Bool) → cond b true (not c) ≡ not (c && not b)
either true true = refl
either true false = refl
either false true = refl
either false false = refl

-- the set, where the key is one more
pub seen_more : (xs : List Attr) (a : Attr) (q : List ℕ) (before : Bool) → before ≡ not (is_new xs q) → cond (is_eq (slice_cmp nat_cmp a.name q)) true before ≡ not (is_new (xs ++ a ∷ []) q)
seen_more xs a q before e =
    ap (λ z. cond z true before) (is_eq-slice_cmp a.name q) ∙ ap (λ z. cond (bytes_eq a.name q) true z) e ∙ either (bytes_eq a.name q) (is_new xs q) ∙ ap not (sym (is_new_more xs a q))
