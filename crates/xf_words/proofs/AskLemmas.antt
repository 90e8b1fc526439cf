-- What may be asked for, where every name may.
use Rattle.std.proofs.Common.{◌≡◌, Bool, true, ℕ, Option, Some, None, List}
use Rattle.xf_words.specs.declared.call.Call.{Call}
use Rattle.xf_words.specs.Files.{MayAskFor}

pub asks_all : (may_ask : List ℕ → Bool) → ((name : List ℕ) → may_ask name ≡ true) → (o : Option Call) (ws : List (List ℕ)) → MayAskFor may_ask o ws
asks_all may_ask all None ws = tt
asks_all may_ask all (Some c) ws = record { first = λ h. all _; second = λ h. all _ }
