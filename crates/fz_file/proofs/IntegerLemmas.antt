-- The integers past the first of a range, one after the other.
use Rattle.std.proofs.Common.{◌≡◌, ℕ, zero, suc, ℤ, pos, negsuc, ◌+ℤ◌, ◌<ℤ◌, List, ◌∷◌, ◌++◌, ap, ◌∙◌, arith, append_assoc}
use Rattle.std.proofs.lemmas.Int.{ints}
use Rattle.std.specs.Int.{int_gap}
use Rattle.std.specs.Fmt.{signed_decimal}
use Rattle.fz_file.specs.Layout.{commas, numbers, integers_from}

negsuc-next : (a : ℕ) → negsuc (suc a) +ℤ pos 1 ≡ negsuc a
negsuc-next a = omega (arith, ints)

pub int_gap-less : (v h : ℤ) → v <ℤ h → int_gap v h ≡ suc (int_gap (v +ℤ pos 1) h)
int_gap-less (pos a) (pos b) lt = omega (arith, ints)
int_gap-less (pos a) (negsuc b) lt = absurd (omega (arith, ints))
int_gap-less (negsuc zero) (pos b) lt = omega (arith, ints)
int_gap-less (negsuc (suc a)) (pos b) lt = rw negsuc-next (omega (arith, ints))
int_gap-less (negsuc zero) (negsuc b) lt = absurd (omega (arith, ints))
int_gap-less (negsuc (suc a)) (negsuc b) lt = rw negsuc-next (omega (arith, ints))

-- what is due of a range behind v
abbrev pub due : ℤ → ℤ → List ℕ
due v h = commas (numbers (integers_from (v +ℤ pos 1) (int_gap v h)))

pub due-less : (v h : ℤ) → v <ℤ h → due v h ≡ (44 ∷ signed_decimal (v +ℤ pos 1)) ++ due (v +ℤ pos 1) h
due-less v h lt = ap (λ n. commas (numbers (integers_from (v +ℤ pos 1) n))) (int_gap-less v h lt)

-- one more text behind the others
pub written_more : (out more total t rest : List ℕ) → more ≡ out ++ t → out ++ (t ++ rest) ≡ total → more ++ rest ≡ total
written_more out more total t rest is whole = ap (λ z. z ++ rest) is ∙ append_assoc out t rest ∙ whole
