-- How much an instance is: its variables, and the square of one more than the items of each constraint and of the
-- objective. It is the program's own measure of what a written model is compared with.
use Rattle.std.specs.Prelude.{ℕ, ◌+◌, ◌*◌, length, map, sum, Option, None, Some}
use Rattle.xs_model.specs.declared.instance.Objective.{Objective}
use Rattle.xs_model.specs.declared.instance.Instance.{Instance}
use Rattle.xs_model.specs.Accepted.{goal_items}
use Rattle.xs_model.specs.Formed.{items_of}
use Rattle.xs_model.specs.Names.{words}

-- of so many items
abbrev pub square : ℕ → ℕ
square n = (1 + n) * (1 + n)

abbrev pub goal_weight : Option Objective → ℕ
goal_weight None = 0
goal_weight (Some o) = square (goal_items (Some o))

abbrev pub weight_of : Instance → ℕ
weight_of i = length (words i.decls) + (sum (map (λ c. square (items_of c)) i.constraints) + goal_weight i.objective)
