-- One step of a loop over a list.
use Rattle.std.proofs.Common.{◌≡◌, ℕ, ◌+◌, ◌-◌, ◌<◌, ◌≤◌, List, ◌∷◌, ◌++◌, length, drop, take, get_or, ap, sym, ◌∙◌, arith}
use Rattle.std.proofs.lemmas.List.{at_drop_more, length-drop, length-take-le}
use Rattle.lo_base.specs.Item.{Item, made}
use Rattle.lo_emit.proofs.Looping.{pairs_more}
use Rattle.lo_emit.specs.Loops.{for_all, for_pairs}

pub all_next : {X : Type 0} (f : ℕ → X → List Item) (n k : ℕ) (xs : List X) (i : ℕ) (x : X) → i < length xs → x ≡ get_or xs i x → k ≡ n + made (f n x)
    → for_all f n (drop i xs) ≡ f n x ++ for_all f k (drop (i + 1) xs)
all_next {X} f n k xs i x lt is counted =
    at_drop_more (for_all f n) xs i x lt ∙ ap (λ (y : X). for_all f n (y ∷ drop (i + 1) xs)) (sym is) ∙ ap (λ (j : ℕ). f n x ++ for_all f j (drop (i + 1) xs)) (sym counted)

-- the members behind a member
abbrev pub behind : {X : Type 0} → List X → ℕ → List X
behind xs i = take (length xs - (i + 1)) (drop (i + 1) xs)

pub few_behind : {X : Type 0} (xs : List X) (i : ℕ) → length (behind xs i) ≤ length xs
few_behind xs i =
    let dropped = length-drop (i + 1) xs in
    let taken : length (behind xs i) ≡ length xs - (i + 1) = length-take-le (length xs - (i + 1)) (drop (i + 1) xs) (omega (arith, dropped)) in
    omega (arith, taken)

pub pairs_next : {X : Type 0} (f : ℕ → X → X → List Item) (n k : ℕ) (xs : List X) (i : ℕ) (x : X) → i < length xs → x ≡ get_or xs i x → k ≡ n + made (for_all (λ m y. f m x y) n (behind xs i))
    → for_pairs f n (drop i xs) ≡ for_all (λ m y. f m x y) n (behind xs i) ++ for_pairs f k (drop (i + 1) xs)
pairs_next {X} f n k xs i x lt is counted =
    let rest : List X = drop (i + 1) xs in
    let here : X → List Item = λ z. for_all (λ m y. f m z y) n (behind xs i) in
    pairs_more f n xs i x lt ∙ ap (λ (z : X). here z ++ for_pairs f (n + made (here z)) rest) (sym is) ∙ ap (λ (j : ℕ). here x ++ for_pairs f j rest) (sym counted)
