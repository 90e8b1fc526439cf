-- The text of `supports` or `conflicts` (XCSP3-core, "Constraint extension"): tuples, or for one variable integers and ranges.
use Rattle.std.specs.Prelude.{ℕ, ◌+◌, ◌*◌, Bool, true, ◌&&◌, ◌||◌, nat_eq, nat_lt, List, [], ◌∷◌, length, map, is_some, if◌then◌else◌}
use Rattle.std.specs.List.{list_all}
use Rattle.xf_num.specs.Span.{Bounds}
use Rattle.xs_fields.specs.Cells.{vars_meet, vars_of}
use Rattle.xs_fields.specs.Lists.{count_meets, pieces_meet, pieces_of}
use Rattle.xs_fields.specs.declared.condition.Condition.{Condition}
use Rattle.xs_fields.specs.declared.condition.Condition.TheVariants.{Fitting}
use Rattle.xs_model.specs.Formed.{total}
use Rattle.xs_model.specs.Outline.{Outline}
use Rattle.xs_model.specs.declared.instance.Constraint.{Constraint}
use Rattle.xs_model.specs.declared.instance.Constraint.TheVariants.{Extension, Unary}
use Rattle.xs_tables.specs.Groups.{inner_of}
use Rattle.xs_tables.specs.Tuples.{tuples_meet, tuples_of}

-- a text whose first byte but whitespace is `(` is one of tuples; every other is one of integers and ranges
abbrev pub are_tuples : List ℕ → Bool
are_tuples text = is_some (inner_of text)

-- a test that is asked of lengths
abbrev pub fitting_meets : Bool → Condition → Bool
fitting_meets test Fitting = test
fitting_meets test k = true

-- so many items more are allowed, and the lengths fit
abbrev pub sizes_meet : ℕ → ℕ → Bool → Condition → Bool
sizes_meet count left fits k = count_meets count left k && fitting_meets fits k

-- the list is not empty, and each tuple is as long
abbrev pub tuples_fit : ℕ → List ℕ → Bool
tuples_fit n text = nat_lt 0 n && list_all (λ t. nat_eq (length t) n) (tuples_of text)

-- the list is not empty, and integers and ranges are given for one variable alone
abbrev pub ranges_fit : ℕ → List ℕ → Bool
ranges_fit n text = nat_lt 0 n && (nat_eq n 1 || nat_eq (length (pieces_of text)) 0)

-- a table of tuples over a list: what the two texts meet, where so many items may still come. Each entry is an item
abbrev pub tuple_table_meets : List Outline → ℕ → List ℕ → List ℕ → Condition → Bool
tuple_table_meets os left list text k =
    (vars_meet os list left k && tuples_meet text left k)
    && sizes_meet (length (vars_of os list) + total (map length (tuples_of text))) left (tuples_fit (length (vars_of os list)) text) k

-- a table of integers and ranges: each of them is two items, its ends
abbrev pub range_table_meets : List Outline → ℕ → List ℕ → List ℕ → Condition → Bool
range_table_meets os left list text k =
    (vars_meet os list left k && pieces_meet text k)
    && sizes_meet (length (vars_of os list) + 2 * length (pieces_of text)) left (ranges_fit (length (vars_of os list)) text) k

-- what the list and the table meet
abbrev pub table_meets : List Outline → ℕ → List ℕ → List ℕ → Condition → Bool
table_meets os left list text k = if are_tuples text then tuple_table_meets os left list text k else range_table_meets os left list text k

-- one variable with integers and ranges; an empty table over more variables has no tuples
abbrev pub ranged : Bool → List ℕ → List Bounds → Constraint
ranged positive [] bs = Extension [] [] positive
ranged positive (v ∷ []) bs = Unary v bs positive
ranged positive (v ∷ w ∷ vs) bs = Extension (v ∷ w ∷ vs) [] positive

-- the constraint of a list and a table
abbrev pub table_of : List Outline → List ℕ → List ℕ → Bool → Constraint
table_of os list text positive = if are_tuples text then Extension (vars_of os list) (tuples_of text) positive else ranged positive (vars_of os list) (pieces_of text)
