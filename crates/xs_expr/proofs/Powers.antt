-- The power of an expression is the library's.
use Rattle.std.proofs.Common.{◌≡◌, ℕ, zero, suc, ℤ, ◌*ℤ◌, refl, ◌∙◌, ap}
use Rattle.std.specs.Int.{int_pow as signed_pow}
use Rattle.xf_num.specs.Span.{int_pow}
use Rattle.xf_num.proofs.Powers.{pow-signed}
use Rattle.xs_model.specs.Value.{power}

pub power-is : (x : ℤ) (k : ℕ) → power x k ≡ int_pow x k
power-is x zero = refl
power-is x (suc k) = ap (λ (y : ℤ). y *ℤ x) (power-is x k)

pub power-signed : (x : ℤ) (k : ℕ) → power x k ≡ signed_pow x k
power-signed x k = power-is x k ∙ pow-signed x k
