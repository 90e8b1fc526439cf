-- How many variables there are while boxes are kept apart: i boxes of n are done, each with m new variables at most for
-- each other box.
use Rattle.std.proofs.Common.{◌≡◌, ℕ, ◌+◌, ◌*◌, ◌<◌, ◌≤◌, ◌^◌, arith}

one_box_more : (i p n : ℕ) → i < n → i * p + p ≤ n * p
one_box_more i p n h = grind arith

fewer : (k n m : ℕ) → k ≤ n → k * m ≤ n * m
fewer k n m h = grind arith

pub room_here : (c o i n k m : ℕ) → c ≤ o + i * (n * m) → i < n → k ≤ n → o + n * (n * m) ≤ 2 ^ 61 → c + k * m ≤ 2 ^ 61
room_here c o i n k m so lt le room = omega (arith, so, room, one_box_more i (n * m) n lt, fewer k n m le)

pub room_more : (c d o i n k m : ℕ) → c ≤ o + i * (n * m) → d ≤ c + k * m → k ≤ n → d ≤ o + (i + 1) * (n * m)
room_more c d o i n k m so more le = let up = next i (n * m) in let few = fewer k n m le in omega (arith, so, more, up, few)
  where
    next : (i p : ℕ) → i * p + p ≤ (i + 1) * p
    next i p = grind arith

pub one_more_of : (i p : ℕ) → (i + 1) * p ≡ i * p + p
one_more_of i p = grind arith

-- k boxes of r that there are, of d dimensions
pub room_for_all : (c o k r d : ℕ) → o ≤ 2 ^ 60 → c ≤ o + r * d → k ≤ r → r * d ≤ 2 ^ 29 → r * (r * (2 * d)) ≤ 2 ^ 59 → c + k * (k * (2 * d)) ≤ 2 ^ 61
room_for_all c o k r d room so le few most =
    let one = fewer k r (k * (2 * d)) le in
    let two = within r (k * (2 * d)) (r * (2 * d)) (fewer k r (2 * d) le) in
    omega (arith, room, so, few, most, one, two)
  where
    within : (n x y : ℕ) → x ≤ y → n * x ≤ n * y
    within n x y h = grind arith
