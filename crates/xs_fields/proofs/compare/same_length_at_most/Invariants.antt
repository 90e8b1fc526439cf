use Rattle.std.proofs.Common.{◌≡◌, ℕ, drop}
use Rattle.std.specs.Str.Parse.{digits_value, digits_value_after}
use Rattle.xs_fields.proofs.compare.same_length_at_most.Given as goal

abbrev pub invariant-loop-i : goal.invariant-loop-i
invariant-loop-i l = (n : ℕ) × (digits_value_after 10 n (drop l.i l.a) ≡ digits_value 10 l.a) × (digits_value_after 10 n (drop l.i l.b) ≡ digits_value 10 l.b)
