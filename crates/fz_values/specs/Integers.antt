-- The integers that digits spell (MiniZinc Handbook, "FlatZinc", grammar: decimal, `0x` and hexadecimal, `0o` and octal
-- digits, a `-` before them or none).
use Rattle.std.specs.Prelude.{ℕ, ◌+◌, ◌-◌, ◌*◌, ◌^◌, ◌==◌, ◌&&◌, Bool, nat_le, ℤ, pos, neg_ℤ, List, [], ◌∷◌, drop, if◌then◌else◌}
use Rattle.fz_tokens.specs.Cutting.{begins_with}
use Rattle.xf_num.specs.Limits as limits

-- the worth of a digit
abbrev pub digit : ℕ → ℕ
digit b = if nat_le b 57 then b - 48 else (if nat_le b 70 then b - 55 else b - 87)

-- the number of the digits in this base, behind those of n
abbrev pub onward : ℕ → ℕ → List ℕ → ℕ
onward base n [] = n
onward base n (b ∷ bs) = onward base (n * base + digit b) bs

-- `0` and this mark
abbrev pub marked : ℕ → List ℕ → Bool
marked mark bytes = begins_with (λ b. b == 48) bytes && begins_with (λ b. b == mark) (drop 1 bytes)

-- the number of digits without a sign
abbrev pub unsigned : List ℕ → ℕ
unsigned bytes =
    if marked 120 bytes then onward 16 0 (drop 2 bytes)
    else if marked 111 bytes then onward 8 0 (drop 2 bytes)
    else onward 10 0 bytes

abbrev pub is_minus : List ℕ → Bool
is_minus bytes = begins_with (λ b. b == 45) bytes

-- the magnitude of an integer
abbrev pub magnitude : List ℕ → ℕ
magnitude bytes = if is_minus bytes then unsigned (drop 1 bytes) else unsigned bytes

-- the greatest magnitude of an integer
abbrev pub limit : ℕ
limit = limits.greatest_magnitude

abbrev pub is_small : List ℕ → Bool
is_small bytes = nat_le (magnitude bytes) limit

abbrev pub signed : List ℕ → ℤ
signed bytes = if is_minus bytes then neg_ℤ (pos (magnitude bytes)) else pos (magnitude bytes)

-- the integer; one whose magnitude is too large counts as 0, and whether it is, is asked for itself
unfoldable pub int_of : List ℕ → ℤ
int_of bytes = if is_small bytes then signed bytes else pos 0
