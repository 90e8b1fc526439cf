-- Which variables calls speak of.
use Rattle.std.specs.Prelude.{ℕ, List}
use Rattle.std.specs.List.{AllByRecursion}
use Rattle.fz_model.specs.declared.model.Call.{Call}
use Rattle.fz_model.specs.Fixing.{AreBefore}

-- each call speaks of variables before k alone
abbrev pub AreCallsBefore : ℕ → List Call → Type 0
AreCallsBefore k calls = AllByRecursion (λ call. AreBefore k call.args) calls
