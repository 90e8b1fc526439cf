-- How deep an expression's text is, as a test.
use Rattle.std.specs.Prelude.{ℕ, Bool, true, not, ◌||◌, nat_lt, List, [], ◌∷◌}
use Rattle.xs_expr.specs.Depth.{levels, opened}
use Rattle.xs_fields.specs.declared.condition.Condition.{Condition}
use Rattle.xs_fields.specs.declared.condition.Condition.TheVariants.{Nesting}

-- where n parentheses are open before a text, more than the limit are open at once somewhere in it
abbrev pub is_deeper : ℕ → List ℕ → Bool
is_deeper n [] = nat_lt levels n
is_deeper n (b ∷ bs) = nat_lt levels n || is_deeper (opened n b) bs

abbrev pub nesting_meets : List ℕ → Condition → Bool
nesting_meets text Nesting = not (is_deeper 0 text)
nesting_meets text k = true
