-- Whether an expression is of the kind that is asked, and the argument that it then makes (MiniZinc Handbook,
-- "FlatZinc", types).
use Rattle.std.specs.Prelude.{ℕ, ◌+◌, Bool, true, false, ◌&&◌, ℤ, pos, int_le, List, [], ◌∷◌, map, length, Option, Some, if◌then◌else◌}
use Rattle.std.specs.List.{list_all}
use Rattle.fz_model.specs.declared.model.Arg.{Arg}
use Rattle.fz_model.specs.declared.model.Arg.TheVariants as args
use Rattle.fz_grammar.specs.declared.tree.Expr.{Expr, out-Expr}
use Rattle.fz_grammar.specs.declared.tree.Expr.TheOpen.{Expr-F}
use Rattle.fz_values.specs.declared.meaning.Single.{Single}
use Rattle.fz_values.specs.declared.meaning.Single.TheVariants as single
use Rattle.fz_values.specs.declared.meaning.Sort.{Sort}
use Rattle.fz_values.specs.declared.meaning.Sort.TheVariants as sort
use Rattle.fz_values.specs.declared.meaning.SetOf.{SetOf}
use Rattle.fz_values.specs.declared.meaning.SetOf.TheVariants as sets
use Rattle.fz_values.specs.declared.meaning.Meaning.{Meaning}
use Rattle.fz_values.specs.declared.meaning.Meaning.TheVariants as meaning
use Rattle.fz_values.specs.declared.meaning.Found.{Found}
use Rattle.fz_values.specs.declared.meaning.Found.TheVariants.{Here, Past, Other}
use Rattle.fz_model.specs.declared.kind.Asked.{Asked}
use Rattle.fz_model.specs.declared.kind.Asked.TheVariants as asked
use Rattle.fz_model.specs.declared.kind.Kind.{Kind}
use Rattle.fz_model.specs.declared.kind.Kind.TheVariants as kinds
use Rattle.fz_values.specs.Integers.{int_of}
use Rattle.fz_values.specs.Names.{look_up}
use Rattle.fz_values.specs.Values.{one_in}

abbrev pub sort_of : Single → Sort
sort_of (single.Int z) = sort.Int
sort_of (single.Bool t) = sort.Bool
sort_of (single.IntVar v) = sort.IntVar
sort_of (single.BoolVar v) = sort.BoolVar

-- a value of that kind is what is asked
abbrev pub suits : Asked → Sort → Bool
suits asked.Int sort.Int = true
suits asked.Int sort.IntVar = true
suits asked.Bool sort.Bool = true
suits asked.Bool sort.BoolVar = true
suits asked.IntConstant sort.Int = true
suits asked.BoolConstant sort.Bool = true
suits _ _ = false

-- a member past the end of an array has the kind of the array's declared type
abbrev pub suits_found : Asked → Found → Bool
suits_found a (Here x) = suits a (sort_of x)
suits_found a (Past s) = suits a s
suits_found a Other = false

-- it is no member past the end of an array
abbrev pub is_within : Found → Bool
is_within (Past s) = false
is_within _ = true

-- the value; where there is none any will do, since the expression is then refused
abbrev pub single_of : Found → Single
single_of (Here x) = x
single_of _ = single.Int (pos 0)

-- each member of an array passes
abbrev pub all_known : Asked → Option Meaning → Bool
all_known a (Some (meaning.Array s xs)) = list_all (λ x. suits a (sort_of x)) xs
all_known a _ = false

abbrev pub all_step : List (List ℕ × Meaning) → Asked → Expr-F Expr → Bool
all_step names a (Expr-F.List xs) = list_all (λ x. suits_found a (one_in names x)) xs
all_step names a (Expr-F.Name w) = all_known a (look_up names w)
all_step names a _ = false

abbrev pub is_set_known : Option Meaning → Bool
is_set_known (Some (meaning.Set s)) = true
is_set_known _ = false

abbrev pub set_step : List (List ℕ × Meaning) → Expr-F Expr → Bool
set_step names (Expr-F.Range a b) = true
set_step names (Expr-F.Set ns) = true
set_step names (Expr-F.Name w) = is_set_known (look_up names w)
set_step names _ = false

-- the expression is of the kind that is asked, parameters and arrays being replaced by their values
abbrev pub fits : List (List ℕ × Meaning) → Kind → Expr → Bool
fits names (kinds.One a) x = suits_found a (one_in names x)
fits names (kinds.Many a) x = all_step names a (out-Expr x)
fits names kinds.Set x = set_step names (out-Expr x)

abbrev pub all_fit : List (List ℕ × Meaning) → List Kind → List Expr → Bool
all_fit names [] [] = true
all_fit names [] (x ∷ xs) = false
all_fit names (k ∷ ks) [] = false
all_fit names (k ∷ ks) (x ∷ xs) = fits names k x && all_fit names ks xs

abbrev pub members_within_step : List (List ℕ × Meaning) → Expr-F Expr → Bool
members_within_step names (Expr-F.List xs) = list_all (λ x. is_within (one_in names x)) xs
members_within_step names _ = true

-- no member that the expression names is past the end of its array
abbrev pub reaches : List (List ℕ × Meaning) → Kind → Expr → Bool
reaches names (kinds.One a) x = is_within (one_in names x)
reaches names (kinds.Many a) x = members_within_step names (out-Expr x)
reaches names kinds.Set x = true

abbrev pub all_reach : List (List ℕ × Meaning) → List Kind → List Expr → Bool
all_reach names [] xs = true
all_reach names (k ∷ ks) [] = true
all_reach names (k ∷ ks) (x ∷ xs) = reaches names k x && all_reach names ks xs

abbrev pub members_known : Option Meaning → List Single
members_known (Some (meaning.Array s xs)) = xs
members_known _ = []

abbrev pub members_step : List (List ℕ × Meaning) → Expr-F Expr → List Single
members_step names (Expr-F.List xs) = map (λ x. single_of (one_in names x)) xs
members_step names (Expr-F.Name w) = members_known (look_up names w)
members_step names _ = []

-- the members of an array
abbrev pub members_in : List (List ℕ × Meaning) → Expr → List Single
members_in names x = members_step names (out-Expr x)

-- the integers from a to b; there are none where a is greater
abbrev pub range_of : ℤ → ℤ → SetOf
range_of a b = if int_le a b then sets.Range (record { lo = a; hi = b }) else sets.Members []

abbrev pub set_known : Option Meaning → SetOf
set_known (Some (meaning.Set s)) = s
set_known _ = sets.Members []

abbrev pub set_in_step : List (List ℕ × Meaning) → Expr-F Expr → SetOf
set_in_step names (Expr-F.Range a b) = range_of (int_of a) (int_of b)
set_in_step names (Expr-F.Set ns) = sets.Members (map int_of ns)
set_in_step names (Expr-F.Name w) = set_known (look_up names w)
set_in_step names _ = sets.Members []

-- the set that an expression stands for
abbrev pub set_in : List (List ℕ × Meaning) → Expr → SetOf
set_in names x = set_in_step names (out-Expr x)

abbrev pub arg_of : Single → Arg
arg_of (single.Int z) = args.Int z
arg_of (single.Bool t) = args.Bool t
arg_of (single.IntVar v) = args.Var v
arg_of (single.BoolVar v) = args.Var v

abbrev pub set_arg : SetOf → Arg
set_arg (sets.Range s) = args.Range s
set_arg (sets.Members zs) = args.Set zs

-- the argument that the expression makes
abbrev pub arg_in : List (List ℕ × Meaning) → Kind → Expr → Arg
arg_in names (kinds.One a) x = arg_of (single_of (one_in names x))
arg_in names (kinds.Many a) x = args.List (map arg_of (members_in names x))
arg_in names kinds.Set x = set_arg (set_in names x)

abbrev pub args_in : List (List ℕ × Meaning) → List Kind → List Expr → List Arg
args_in names [] xs = []
args_in names (k ∷ ks) [] = []
args_in names (k ∷ ks) (x ∷ xs) = arg_in names k x ∷ args_in names ks xs

-- a range has two leaves
abbrev pub set_leaves : SetOf → ℕ
set_leaves (sets.Range s) = 2
set_leaves (sets.Members zs) = length zs

-- how many leaves the argument has: its members, and those of a set, two for a range
abbrev pub leaves_in : List (List ℕ × Meaning) → Kind → Expr → ℕ
leaves_in names (kinds.One a) x = 1
leaves_in names (kinds.Many a) x = length (members_in names x)
leaves_in names kinds.Set x = set_leaves (set_in names x)

abbrev pub all_leaves : List (List ℕ × Meaning) → List Kind → List Expr → ℕ
all_leaves names [] xs = 0
all_leaves names (k ∷ ks) [] = 0
all_leaves names (k ∷ ks) (x ∷ xs) = leaves_in names k x + all_leaves names ks xs
