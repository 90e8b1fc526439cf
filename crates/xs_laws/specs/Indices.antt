-- Indices of a list, counted from a start, and the places that they name.
use Rattle.std.specs.Prelude.{◌≡◌, ◌↔◌, ℕ, zero, suc, ℤ, pos, ◌+ℤ◌, ◌-ℤ◌, ◌≤ℤ◌, ◌<ℤ◌, int_le, int_lt, nat_abs, Bool, true, ◌&&◌, List, map, if◌then◌else◌}
use Rattle.std.specs.List.{range_with_len}
use Rattle.xs_model.specs.Value.{truth}

-- i is an index of a list of length n
abbrev pub IsIndex : ℤ → ℕ → ℤ → Type 0
IsIndex start n i = (start ≤ℤ i) × (i <ℤ (start +ℤ pos n))

-- whether it is
abbrev pub is_index : ℤ → ℕ → ℤ → Bool
is_index start n i = int_le start i && int_lt i (start +ℤ pos n)

-- the law: the test tells it
abbrev pub IndexLaw : Type 0
IndexLaw = (start : ℤ) (n : ℕ) (i : ℤ) → IsIndex start n i ↔ (is_index start n i ≡ true)

-- the place whose index is i
abbrev pub place_of : ℤ → ℤ → ℕ
place_of start i = nat_abs (i -ℤ start)

-- how many of the numbers below n pass
abbrev pub count_below : (ℕ → Bool) → ℕ → ℕ
count_below f zero = 0
count_below f (suc n) = if f n then suc (count_below f n) else count_below f n

-- for each number below n 1 where it passes, else 0
abbrev pub bits_below : (ℕ → Bool) → ℕ → List ℤ
bits_below f n = map (λ p. truth (f p)) (range_with_len 0 n)
