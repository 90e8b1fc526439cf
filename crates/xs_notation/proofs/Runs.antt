-- Tokens that are read one after the other.
use Rattle.std.proofs.Common.{◌≡◌, ℕ, List, [], ◌∷◌, ◌++◌, refl, ap, ◌∙◌, Option, Some, None}
use Rattle.xs_notation.specs.declared.growing.Growing.{Growing}
use Rattle.xs_notation.specs.Parse.{run, step, step_on}

pub run-none : (ts : List (List ℕ)) → run None ts ≡ None
run-none [] = refl
run-none (t ∷ ts) = run-none ts

-- where a token does not fit, nothing is read
pub stuck : (s : Growing) (t : List ℕ) (ts all : List (List ℕ)) → all ≡ t ∷ ts → step t s ≡ None → run (Some s) all ≡ None
stuck s t ts all is e = ap (run (Some s)) is ∙ ap (λ o. run o ts) e ∙ run-none ts

-- one part after the other
pub run-both : (s : Option Growing) (ts us : List (List ℕ)) → run s (ts ++ us) ≡ run (run s ts) us
run-both s [] us = refl
run-both s (t ∷ ts) us = run-both (step_on t s) ts us
