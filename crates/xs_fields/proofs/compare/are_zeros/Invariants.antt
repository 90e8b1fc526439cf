use Rattle.std.proofs.Common.{◌≡◌, drop}
use Rattle.std.specs.Str.Parse.{digits_value}
use Rattle.xs_fields.proofs.compare.are_zeros.Given as goal

abbrev pub invariant-loop-digit : goal.invariant-loop-digit
invariant-loop-digit l = digits_value 10 (drop l.digit-index l.digits) ≡ digits_value 10 l.digits
