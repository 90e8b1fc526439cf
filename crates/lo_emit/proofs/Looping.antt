-- One step of a loop over pairs: a member with those behind it.
use Rattle.std.proofs.Common.{◌≡◌, ℕ, ◌+◌, ◌-◌, ◌<◌, List, ◌++◌, length, drop, take, slice_index_or, sym, subst}
use Rattle.std.proofs.lemmas.List.{at_drop_more, take_rest}
use Rattle.lo_base.specs.Item.{Item, made}
use Rattle.lo_emit.specs.Loops.{for_all, for_pairs}

pub pairs_more : {X : Type 0} (f : ℕ → X → X → List Item) (n : ℕ) (xs : List X) (i : ℕ) (d : X) → i < length xs
    → for_pairs f n (drop i xs)
    ≡ for_all (λ m y. f m (slice_index_or xs i d) y) n (take (length xs - (i + 1)) (drop (i + 1) xs))
    ++ for_pairs f (n + made (for_all (λ m y. f m (slice_index_or xs i d) y) n (take (length xs - (i + 1)) (drop (i + 1) xs)))) (drop (i + 1) xs)
pairs_more {X} f n xs i d lt =
    subst (λ (ys : List X). for_pairs f n (drop i xs) ≡ for_all (λ m y. f m (slice_index_or xs i d) y) n ys ++ for_pairs f (n + made (for_all (λ m y. f m (slice_index_or xs i d) y) n ys)) (drop (i + 1) xs))
    (sym (take_rest xs (i + 1))) (at_drop_more (for_pairs f n) xs i d lt)
