-- More digits make no lesser number.
use Rattle.std.proofs.Common.{ℕ, zero, suc, ◌+◌, ◌*◌, ◌<◌, ◌≤◌, List, [], ◌∷◌, length, drop, slice_index, arith}
use Rattle.fz_values.specs.Integers.{digit, onward, limit}

step : (base n : ℕ) → (d : ℕ) → 1 ≤ base → n ≤ n * base + d
step base n d h = grind arith

pub no_less : (base n : ℕ) → (bs : List ℕ) → 1 ≤ base → n ≤ onward base n bs
no_less base n [] h = omega arith
no_less base n (b ∷ bs) h = omega (arith, step base n (digit b) h, no_less base (n * base + digit b) bs h)

pub too_large : (base n : ℕ) → (bs : List ℕ) → (i : ℕ) → i < length bs → 1 ≤ base → (n * base + digit (slice_index bs i) ≤ limit → ⊥) → onward base n (drop i bs) ≤ limit → ⊥
too_large base n [] i l h past le = absurd (omega arith)
too_large base n (b ∷ bs) zero l h past le = past (omega (arith, no_less base (n * base + digit b) bs h, le))
too_large base n (b ∷ bs) (suc i) l h past le = too_large base n bs i (omega arith) h past le
