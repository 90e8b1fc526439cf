-- The limits on what is read, each stated here alone.
use Rattle.std.specs.Prelude.{ℕ, ◌-◌, ◌^◌}

-- the greatest magnitude of an integer
abbrev pub greatest_magnitude : ℕ
greatest_magnitude = 2 ^ 126 - 1

-- the most bytes of a file
abbrev pub most_bytes : ℕ
most_bytes = 67108864

-- the most variables of an instance, undefined cells of arrays among them, or of a model
abbrev pub most_variables : ℕ
most_variables = 1048576

-- the most items of an instance, words of all `args` and of all lists of slides, or leaves of a model
abbrev pub most_items : ℕ
most_items = 4194304

-- the most constraints of an instance
abbrev pub most_constraints : ℕ
most_constraints = 67108864
