-- Steps of loops.
use Rattle.std.proofs.Common.{◌≡◌, ℕ, ◌+◌, ◌*◌, ◌<◌, ◌≤◌, ℤ, pos, ◌+ℤ◌, false, List, [], ◌∷◌, ◌++◌, length, map, drop, refl, ap, ap₂, sym, ◌∙◌, arith, subst}
use Rattle.std.specs.List.{All, AllByRecursion, range_with_len}
use Rattle.std.proofs.lemmas.Int.{ints}
use Rattle.std.proofs.lemmas.List.{append_assoc, at_drop_more, length-append}
use Rattle.std.proofs.lemmas.List.FromFn.{map-range_with_len_more}
use Rattle.std.specs.Prelude.{Result, Ok, Err, OnErr}
use Rattle.lo_base.specs.Emit.{Begins}
use Rattle.lo_base.specs.Item.{Item, made}
use Rattle.lo_base.proofs.Solving.{made-append}
use Rattle.lo_emit.specs.Loops.{for_all}
use Rattle.lo_forms.specs.Different.{differ, low_different}
use Rattle.xf_num.specs.Span.{Bounds}
use Rattle.lo_circuits.specs.Circuit.{chained, value_at, index_range, low_inside, low_checks}
use Rattle.lo_circuits.specs.declared.nodes.Nodes.{Nodes}
use Rattle.lo_emit.specs.declared.term.Term.{Term}
use Rattle.lo_emit.specs.declared.term.Term.TheVariants.{Int, Truth}
use Rattle.lo_emit.specs.Sums.{IsNegatable}
use Rattle.lo_rules.proofs.Pairs.{places_of_all}

-- the indices so far, with one more
pub indices_more : (start : ℤ) (j : ℕ) (all : List Term) (z : ℤ) → all ≡ map (λ p. Int (start +ℤ pos p)) (range_with_len 0 j) → z ≡ (start +ℤ pos j) → all ++ Int z ∷ [] ≡ map (λ p. Int (start +ℤ pos p)) (range_with_len 0 (j + 1))
indices_more start j all z h e =
    ap₂ (λ (ts : List Term) (y : ℤ). ts ++ Int y ∷ []) h e ∙ sym (map-range_with_len_more (λ p. Int (start +ℤ pos p)) 0 j j (let k : 0 + j ≡ j = omega arith in k))

pub longer : {X : Type 0} (all : List X) (x : X) (i : ℕ) → length all ≡ i → length (all ++ x ∷ []) ≡ i + 1
longer all x i e = length-append all (x ∷ []) ∙ ap (λ k. k + 1) e

-- ones

pub ones_more : (all : List ℤ) (ts : List Term) (i : ℕ) → i < length ts → all ++ map (λ t. pos 1) (drop i ts) ≡ map (λ t. pos 1) ts → (all ++ pos 1 ∷ []) ++ map (λ t. pos 1) (drop (i + 1) ts) ≡ map (λ t. pos 1) ts
ones_more all ts i lt h =
    append_assoc all (pos 1 ∷ []) (map (λ t. pos 1) (drop (i + 1) ts)) ∙ ap (λ (zs : List ℤ). all ++ zs) (sym (at_drop_more (map (λ t. pos 1)) ts i (Truth false) lt)) ∙ h

ones_all : (ts : List Term) → AllByRecursion IsNegatable (map (λ t. pos 1) ts)
ones_all [] = tt
ones_all (t ∷ ts) = ((omega (arith, ints), omega (arith, ints)), ones_all ts)

pub ones_small : (ts : List Term) (zs : List ℤ) → zs ≡ map (λ t. pos 1) ts → All IsNegatable zs
ones_small ts zs e = subst (All IsNegatable) (sym e) (places_of_all IsNegatable (map (λ t. pos 1) ts) (ones_all ts))

-- the walk

module _ (c : Nodes) (k : ℕ) (t : Term) (ts : List Term) (i : ℕ) (lt : i < length ts) where
  pub walk_items : (chained (λ k i t. value_at c k i) k t (drop i ts)).items
      ≡ (value_at c k t).items ++ (chained (λ k i t. value_at c k i) (k + made (value_at c k t).items) (value_at c k t).term (drop (i + 1) ts)).items
  walk_items = at_drop_more (λ us. (chained (λ k i t. value_at c k i) k t us).items) ts i (Truth false) lt

  pub walk_terms : (all rest : List Term) → all ++ (chained (λ k i t. value_at c k i) k t (drop i ts)).terms ≡ rest
      → (all ++ (value_at c k t).term ∷ []) ++ (chained (λ k i t. value_at c k i) (k + made (value_at c k t).items) (value_at c k t).term (drop (i + 1) ts)).terms ≡ rest
  walk_terms all rest h =
      append_assoc all ((value_at c k t).term ∷ []) (chained (λ k i t. value_at c k i) (k + made (value_at c k t).items) (value_at c k t).term (drop (i + 1) ts)).terms
      ∙ ap (λ (us : List Term). all ++ us) (sym (at_drop_more (λ us. (chained (λ k i t. value_at c k i) k t us).terms) ts i (Truth false) lt)) ∙ h

pub two_more : (i k n m : ℕ) → m ≤ k + 2 → k ≤ n + 2 * i → m ≤ n + 2 * (i + 1)
two_more i k n m h g = omega (arith, h, g)

-- the checks make no variable

inside_made : (w : Bounds) (n : ℕ) (ts : List Term) → made (for_all (low_inside w) n ts) ≡ 0
inside_made w n [] = refl
inside_made w n (t ∷ ts) = let rest = inside_made w (n + made (low_inside w n t)) ts in omega (arith, rest)

differ_made : (n : ℕ) (t : Term) (ys : List Term) → made (for_all (λ m y. differ m t y) n ys) ≡ 0
differ_made n t [] = refl
differ_made n t (y ∷ ys) = let rest = differ_made (n + made (differ n t y)) t ys in omega (arith, rest)

different_made : (n : ℕ) (ts : List Term) → made (low_different n ts) ≡ 0
different_made n [] = refl
different_made n (t ∷ ts) =
    let first : List Item = for_all (λ m y. differ m t y) n ts in
    omega (arith, made-append first (low_different (n + made first) ts), differ_made n t ts, different_made (n + made first) ts)

pub checks_made : (n : ℕ) (c : Nodes) → made (low_checks n c) ≡ 0
checks_made n c =
    let first : List Item = for_all (low_inside (index_range c)) n c.list in
    omega (arith, made-append first (low_different (n + made first) c.list), inside_made (index_range c) n c.list, different_made (n + made first) c.list)

-- a list begins with itself
pub begins_same : (xs zs : List Item) → xs ≡ zs → Begins xs zs
begins_same xs zs is = subst (Begins xs) is (itself xs)
  where
    itself : (ys : List Item) → Begins ys ys
    itself [] = tt
    itself (y ∷ ys) = (refl, itself ys)

-- an error gives what follows from what it gives
pub on_error : {T X P Q : Type 0} (r : Result T X) → (P → Q) → OnErr r P → OnErr r Q
on_error (Ok x) f p = tt
on_error (Err e) f p = f p
