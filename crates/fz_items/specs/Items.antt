-- What each item of a model meets, and what is read behind it (MiniZinc Handbook, "FlatZinc"). Parameters and arrays
-- are replaced by their values, so that the model has variables, calls and shown arrays alone.
use Rattle.std.specs.Prelude.{ℕ, ◌-◌, Bool, true, false, ◌&&◌, nat_eq, nat_le, nat_lt, ℤ, pos, neg_ℤ, int_le, ◌≤ℤ◌, List, [], ◌∷◌, length, map, Option, None, Some, is_some, if◌then◌else◌}
use Rattle.std.specs.List.{list_all}
use Rattle.std.specs.Ordering.{int_eq}
use Rattle.xf_num.specs.Span.{Bounds}
use Rattle.xf_merged.specs.Merged.{merged}
use Rattle.fz_model.specs.Builtins.{by_name}
use Rattle.fz_model.specs.declared.builtin.Builtin.{Builtin}
use Rattle.fz_model.specs.declared.model.Arg.{Arg}
use Rattle.fz_model.specs.declared.model.FzVar.{FzVar}
use Rattle.fz_model.specs.declared.model.Output.{Output}
use Rattle.fz_model.specs.declared.model.Call.{Call}
use Rattle.fz_model.specs.declared.model.Goal.{Goal}
use Rattle.fz_model.specs.declared.model.Goal.TheVariants as goals
use Rattle.fz_grammar.specs.declared.tree.Expr.{Expr, out-Expr}
use Rattle.fz_grammar.specs.declared.tree.Expr.TheOpen.{Expr-F}
use Rattle.fz_grammar.specs.declared.tree.Note.{Note}
use Rattle.fz_grammar.specs.declared.tree.VarType.{VarType}
use Rattle.fz_grammar.specs.declared.tree.VarType.TheVariants as var_type
use Rattle.fz_grammar.specs.declared.tree.ParamType.{ParamType}
use Rattle.fz_grammar.specs.declared.tree.ParamType.TheVariants as param_type
use Rattle.fz_grammar.specs.declared.tree.Access.{Access}
use Rattle.fz_grammar.specs.declared.tree.Access.TheVariants as access
use Rattle.fz_grammar.specs.declared.tree.Goal.{Goal as WrittenGoal}
use Rattle.fz_grammar.specs.declared.tree.Goal.TheVariants as written
use Rattle.fz_grammar.specs.declared.tree.Solve.{Solve}
use Rattle.fz_grammar.specs.declared.tree.Item.{Item}
use Rattle.fz_grammar.specs.declared.tree.Item.TheVariants as items
use Rattle.fz_values.specs.declared.meaning.Single.{Single}
use Rattle.fz_values.specs.declared.meaning.Single.TheVariants as single
use Rattle.fz_values.specs.declared.meaning.Sort.{Sort}
use Rattle.fz_values.specs.declared.meaning.Sort.TheVariants as sort
use Rattle.fz_values.specs.declared.meaning.Meaning.{Meaning}
use Rattle.fz_values.specs.declared.meaning.Meaning.TheVariants as meaning
use Rattle.fz_values.specs.declared.meaning.Found.{Found}
use Rattle.fz_values.specs.declared.meaning.Found.TheVariants.{Here, Past}
use Rattle.fz_model.specs.declared.kind.Asked.TheVariants as asked
use Rattle.fz_model.specs.declared.kind.Kind.{Kind}
use Rattle.fz_model.specs.declared.kind.Kind.TheVariants as kinds
use Rattle.fz_values.specs.Integers.{int_of, is_small}
use Rattle.fz_values.specs.Names.{look_up}
use Rattle.fz_values.specs.Values.{named, indexed, one_in, is_known, are_small}
use Rattle.fz_values.specs.Kinds.{fits, all_fit, reaches, all_reach, is_within, single_of, members_in, set_in, set_leaves, arg_of, arg_in, args_in, all_leaves}
use Rattle.fz_items.specs.declared.condition.Meets.{Meets}
use Rattle.fz_items.specs.declared.progress.Progress.{Progress}
use Rattle.fz_items.specs.Progress.{is_new, with_name, with_var, with_output, with_call}
use Rattle.fz_items.specs.Notes.{notes_small, is_shown, shown_as}
use Rattle.fz_model.specs.Kinds.{kinds_at, is_linear}
use Rattle.fz_model.specs.Limits.{most_variables, limit, exactly}
use Rattle.fz_model.specs.Sound.{places}

-- the list has the length that these digits spell
abbrev pub has_length : List ℕ → ℕ → Bool
has_length digits n = int_eq (int_of digits) (pos n)

-- a predicate is read and dropped; its integers are small
abbrev pub predicate_meets : List (List ℕ) → Meets
predicate_meets ns = record { known = true; naming = true; kinds = true; magnitude = list_all is_small ns; shape = true; counting = true; bounded = true }

-- parameters
abbrev pub param_kind : ParamType → Kind
param_kind param_type.Bool = kinds.One asked.BoolConstant
param_kind param_type.Int = kinds.One asked.IntConstant
param_kind param_type.SetOfInt = kinds.Set
param_kind (param_type.Bools n) = kinds.Many asked.BoolConstant
param_kind (param_type.Ints n) = kinds.Many asked.IntConstant

abbrev pub param_small : ParamType → Bool
param_small (param_type.Bools n) = is_small n
param_small (param_type.Ints n) = is_small n
param_small _ = true

-- an array has its declared length
abbrev pub param_length : ParamType → ℕ → Bool
param_length (param_type.Bools n) count = has_length n count
param_length (param_type.Ints n) count = has_length n count
param_length _ count = true

-- the members of a set as written, two for a range
abbrev pub written_step : List (List ℕ × Meaning) → Expr → Expr-F Expr → ℕ
written_step names x (Expr-F.Range a b) = 2
written_step names x _ = set_leaves (set_in names x)

abbrev pub written_leaves : List (List ℕ × Meaning) → Expr → ℕ
written_leaves names x = written_step names x (out-Expr x)

abbrev pub param_leaves : List (List ℕ × Meaning) → ParamType → Expr → ℕ
param_leaves names param_type.Bool x = 0
param_leaves names param_type.Int x = 0
param_leaves names param_type.SetOfInt x = written_leaves names x
param_leaves names (param_type.Bools n) x = length (members_in names x)
param_leaves names (param_type.Ints n) x = length (members_in names x)

abbrev pub param_meets : Progress → ParamType → List ℕ → List Note → Expr → Meets
param_meets p t w ns x = record {
  known = true;
  naming = is_new p w && is_known p.names x;
  kinds = fits p.names (param_kind t) x;
  magnitude = param_small t && (notes_small ns && are_small x);
  shape = param_length t (length (members_in p.names x)) && reaches p.names (param_kind t) x;
  counting = nat_le (param_leaves p.names t x) p.room;
  bounded = true;
}

abbrev pub param_meaning : List (List ℕ × Meaning) → ParamType → Expr → Meaning
param_meaning names param_type.Bool x = meaning.One (single_of (one_in names x))
param_meaning names param_type.Int x = meaning.One (single_of (one_in names x))
param_meaning names param_type.SetOfInt x = meaning.Set (set_in names x)
param_meaning names (param_type.Bools n) x = meaning.Array sort.Bool (members_in names x)
param_meaning names (param_type.Ints n) x = meaning.Array sort.Int (members_in names x)

abbrev pub param_behind : Progress → ParamType → List ℕ → Expr → Progress
param_behind p t w x = with_name p w (param_meaning p.names t x) (param_leaves p.names t x)

-- variables
abbrev pub is_bool : VarType → Bool
is_bool var_type.Bool = true
is_bool t = false

abbrev pub var_kind : VarType → Kind
var_kind t = kinds.One (if is_bool t then asked.Bool else asked.Int)

abbrev pub type_small : VarType → Bool
type_small (var_type.Range a b) = is_small a && is_small b
type_small (var_type.Set ns) = list_all is_small ns
type_small t = true

-- a domain has a member
abbrev pub has_member : VarType → Bool
has_member (var_type.Range a b) = int_le (int_of a) (int_of b)
has_member (var_type.Set ns) = nat_lt 0 (length ns)
has_member t = true

abbrev pub type_leaves : VarType → ℕ
type_leaves (var_type.Set ns) = length ns
type_leaves t = 0

-- a bound is given where one is needed
abbrev pub is_bounded : Option ℤ → VarType → Bool
is_bounded bound var_type.Int = is_some bound
is_bounded bound t = true

abbrev pub span : ℤ → ℤ → Bounds
span lo hi = record { lo = lo; hi = hi }

abbrev pub bound_domain : Option ℤ → List Bounds
bound_domain (Some n) = span (neg_ℤ n) n ∷ []
bound_domain None = span (pos 0) (pos 0) ∷ []

-- a bound is from 0 to the greatest magnitude
abbrev pub IsBound : Option ℤ → Type 0
IsBound None = Unit {0}
IsBound (Some n) = (pos 0 ≤ℤ n) × (n ≤ℤ pos limit)

abbrev pub range_domain : ℤ → ℤ → List Bounds
range_domain a b = if int_le a b then span a b ∷ [] else exactly a ∷ []

abbrev pub set_domain : List ℤ → List Bounds
set_domain [] = exactly (pos 0) ∷ []
set_domain (z ∷ zs) = merged (map exactly (z ∷ zs))

-- the domain; where there is none any will do, since the item is then refused
abbrev pub domain_of : Option ℤ → VarType → List Bounds
domain_of bound var_type.Bool = span (pos 0) (pos 1) ∷ []
domain_of bound var_type.Int = bound_domain bound
domain_of bound (var_type.Range a b) = range_domain (int_of a) (int_of b)
domain_of bound (var_type.Set ns) = set_domain (map int_of ns)

abbrev pub value_known : List (List ℕ × Meaning) → Option Expr → Bool
value_known names None = true
value_known names (Some x) = is_known names x

abbrev pub value_fits : List (List ℕ × Meaning) → Kind → Option Expr → Bool
value_fits names k None = true
value_fits names k (Some x) = fits names k x

abbrev pub value_small : Option Expr → Bool
value_small None = true
value_small (Some x) = are_small x

abbrev pub value_reaches : List (List ℕ × Meaning) → Kind → Option Expr → Bool
value_reaches names k None = true
value_reaches names k (Some x) = reaches names k x

abbrev pub var_meets : Option ℤ → Progress → VarType → List ℕ → List Note → Option Expr → Meets
var_meets bound p t w ns v = record {
  known = true;
  naming = is_new p w && value_known p.names v;
  kinds = value_fits p.names (var_kind t) v;
  magnitude = type_small t && (notes_small ns && value_small v);
  shape = has_member t && value_reaches p.names (var_kind t) v;
  counting = nat_lt (length p.vars) most_variables && nat_le (type_leaves t) p.room;
  bounded = is_bounded bound t;
}

abbrev pub var_meaning : VarType → ℕ → Meaning
var_meaning t n = meaning.One (if is_bool t then single.BoolVar n else single.IntVar n)

abbrev pub value_arg : List (List ℕ × Meaning) → Kind → Option Expr → Option Arg
value_arg names k None = None
value_arg names k (Some x) = Some (arg_in names k x)

abbrev pub var_of : Option ℤ → Progress → VarType → List ℕ → List Note → Option Expr → FzVar
var_of bound p t w ns v = record { name = w; boolean = is_bool t; domain = domain_of bound t; equal = value_arg p.names (var_kind t) v; shown = is_shown ns }

abbrev pub var_behind : Option ℤ → Progress → VarType → List ℕ → List Note → Option Expr → Progress
var_behind bound p t w ns v = with_var (with_name p w (var_meaning t (length p.vars)) (type_leaves t)) (var_of bound p t w ns v)

-- arrays of variables
abbrev pub member_sort : VarType → Sort
member_sort t = if is_bool t then sort.BoolVar else sort.IntVar

abbrev pub array_kind : VarType → Kind
array_kind t = kinds.Many (if is_bool t then asked.Bool else asked.Int)

-- the ranges by which it is shown have as many places as it has members
abbrev pub dims_fit : Option (List Bounds) → ℕ → Bool
dims_fit None n = true
dims_fit (Some ds) n = nat_eq (places ds) n

abbrev pub array_meets : Progress → List ℕ → VarType → List ℕ → List Note → Expr → Meets
array_meets p n t w ns x = record {
  known = true;
  naming = is_new p w && is_known p.names x;
  kinds = fits p.names (array_kind t) x;
  magnitude = (is_small n && type_small t) && (notes_small ns && are_small x);
  shape = (has_length n (length (members_in p.names x)) && reaches p.names (array_kind t) x) && dims_fit (shown_as ns) (length (members_in p.names x));
  counting = nat_le (length (members_in p.names x)) p.room;
  bounded = true;
}

abbrev pub output_of : VarType → List ℕ → List Bounds → List Single → Output
output_of t w ds xs = record { name = w; boolean = is_bool t; dims = ds; members = map arg_of xs }

abbrev pub shown_output : VarType → List ℕ → Option (List Bounds) → List Single → Option Output
shown_output t w None xs = None
shown_output t w (Some ds) xs = Some (output_of t w ds xs)

abbrev pub with_shown : Progress → Option Output → Progress
with_shown p None = p
with_shown p (Some o) = with_output p o

abbrev pub array_behind : Progress → VarType → List ℕ → List Note → Expr → Progress
array_behind p t w ns x =
    with_shown (with_name p w (meaning.Array (member_sort t) (members_in p.names x)) (length (members_in p.names x))) (shown_output t w (shown_as ns) (members_in p.names x))

-- calls
abbrev pub call_kinds : Option Builtin → ℕ → List Kind
call_kinds None n = []
call_kinds (Some b) n = kinds_at b n

abbrev pub is_linear_call : Option Builtin → Bool
is_linear_call None = false
is_linear_call (Some b) = is_linear b

-- the coefficients and the terms of a sum are as many
abbrev pub first_two : List (List ℕ × Meaning) → List Expr → Bool
first_two names [] = true
first_two names (x ∷ []) = true
first_two names (x ∷ (y ∷ ys)) = nat_eq (length (members_in names x)) (length (members_in names y))

abbrev pub lengths_fit : List (List ℕ × Meaning) → Bool → List Expr → Bool
lengths_fit names linear xs = if linear then first_two names xs else true

abbrev pub call_meets : Progress → List ℕ → List Expr → List Note → Meets
call_meets p w xs ns =
    let b = by_name w in
    let ks = call_kinds b (length xs) in record {
      known = is_some b;
      naming = list_all (λ t. t) (map (is_known p.names) xs);
      kinds = all_fit p.names ks xs;
      magnitude = notes_small ns && list_all (λ t. t) (map are_small xs);
      shape = all_reach p.names ks xs && lengths_fit p.names (is_linear_call b) xs;
      counting = nat_le (all_leaves p.names ks xs) p.room;
      bounded = true;
    }

abbrev pub call_of : Progress → Builtin → List Expr → ℕ → Call
call_of p b xs place = record { builtin = b; args = args_in p.names (kinds_at b (length xs)) xs; place = place }

abbrev pub with_builtin : Progress → Option Builtin → List Expr → ℕ → Progress
with_builtin p None xs place = p
with_builtin p (Some b) xs place = with_call p (call_of p b xs place) (p.room - all_leaves p.names (kinds_at b (length xs)) xs)

abbrev pub call_behind : Progress → List ℕ → List Expr → ℕ → Progress
call_behind p w xs place = with_builtin p (by_name w) xs place

-- an item that stands at this place
abbrev pub item_meets : Option ℤ → Progress → Item → Meets
item_meets bound p (items.Predicate w ns) = predicate_meets ns
item_meets bound p (items.Param t w ns x) = param_meets p t w ns x
item_meets bound p (items.Var t w ns v) = var_meets bound p t w ns v
item_meets bound p (items.Array n t w ns x) = array_meets p n t w ns x
item_meets bound p (items.Constraint w xs ns) = call_meets p w xs ns

abbrev pub item_behind : Option ℤ → Progress → Item → ℕ → Progress
item_behind bound p (items.Predicate w ns) place = p
item_behind bound p (items.Param t w ns x) place = param_behind p t w x
item_behind bound p (items.Var t w ns v) place = var_behind bound p t w ns v
item_behind bound p (items.Array n t w ns x) place = array_behind p t w ns x
item_behind bound p (items.Constraint w xs ns) place = call_behind p w xs place

-- the objective
abbrev pub access_known : List (List ℕ × Meaning) → Access → Bool
access_known names (access.Name w) = is_some (look_up names w)
access_known names (access.Index w n) = is_some (look_up names w)

abbrev pub access_small : Access → Bool
access_small (access.Name w) = true
access_small (access.Index w n) = is_small n

abbrev pub access_in : List (List ℕ × Meaning) → Access → Found
access_in names (access.Name w) = named (look_up names w)
access_in names (access.Index w n) = indexed (int_of n) (look_up names w)

-- an integer variable
abbrev pub is_int_var : Found → Bool
is_int_var (Here (single.IntVar v)) = true
is_int_var (Past sort.IntVar) = true
is_int_var f = false

abbrev pub var_at : Found → ℕ
var_at (Here (single.IntVar v)) = v
var_at f = 0

abbrev pub objective : WrittenGoal → Option Access
objective written.Satisfy = None
objective (written.Minimize a) = Some a
objective (written.Maximize a) = Some a

abbrev pub access_meets : List (List ℕ × Meaning) → List Note → Option Access → Meets
access_meets names ns None = record { known = true; naming = true; kinds = true; magnitude = notes_small ns; shape = true; counting = true; bounded = true }
access_meets names ns (Some a) = record { known = true; naming = access_known names a; kinds = is_int_var (access_in names a); magnitude = notes_small ns && access_small a; shape = is_within (access_in names a); counting = true; bounded = true }

abbrev pub solve_meets : Progress → Solve → Meets
solve_meets p s = access_meets p.names s.notes (objective s.goal)

abbrev pub goal_of : Progress → WrittenGoal → Goal
goal_of p written.Satisfy = goals.Satisfy
goal_of p (written.Minimize a) = goals.Minimize (var_at (access_in p.names a))
goal_of p (written.Maximize a) = goals.Maximize (var_at (access_in p.names a))
