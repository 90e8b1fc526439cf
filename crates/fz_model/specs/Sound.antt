-- Sound models: those that a FlatZinc text can state (MiniZinc Handbook, "FlatZinc").
use Rattle.std.specs.Prelude.{◌≡◌, ◌≢◌, ◌&&◌, ◌||◌, nat_le, nat_eq, codes, length, AllPairs, ℕ, ◌≤◌, ◌*◌, pos, ◌≤ℤ◌, Bool as Truth, true, false, Option, Some, None, List, [], ◌∷◌, ◌++◌, map, slice_get}
use Rattle.std.specs.List.{AllByRecursion, list_all}
use Rattle.xf_num.specs.Domain.{IsDomain}
use Rattle.xf_num.specs.Span.{Bounds, width_of}
use Rattle.fz_model.specs.declared.kind.Kind.{Kind}
use Rattle.fz_model.specs.declared.kind.Kind.TheVariants as kind
use Rattle.fz_model.specs.declared.kind.Asked.{Asked}
use Rattle.fz_model.specs.declared.kind.Asked.TheVariants as asked
use Rattle.fz_model.specs.declared.model.Arg.{Arg, out-Arg}
use Rattle.fz_model.specs.declared.model.Arg.TheOpen.{Arg-F, Int, Bool, Var, Range, Set, List as Listed}
use Rattle.fz_model.specs.declared.model.Call.{Call}
use Rattle.fz_model.specs.declared.model.FzVar.{FzVar}
use Rattle.fz_model.specs.declared.model.Goal.{Goal}
use Rattle.fz_model.specs.declared.model.Goal.TheVariants.{Satisfy, Minimize, Maximize}
use Rattle.fz_model.specs.declared.model.Model.{Model}
use Rattle.fz_model.specs.declared.model.Output.{Output}
use Rattle.fz_model.specs.Kinds.{kinds_at, is_linear}
use Rattle.fz_model.specs.Limits.{limit, IsSmall, exactly}
use Rattle.fz_model.specs.Meaning.{members}

-- an identifier: an ASCII letter or `_`, and then letters, digits and `_`
abbrev pub is_letter : ℕ → Truth
is_letter c = (nat_le 97 c && nat_le c 122) || (nat_le 65 c && nat_le c 90) || nat_eq c 95

abbrev pub is_word : ℕ → Truth
is_word c = is_letter c || (nat_le 48 c && nat_le c 57)

abbrev pub IsIdentifier : List ℕ → Type 0
IsIdentifier [] = ⊥
IsIdentifier (c ∷ cs) = (is_letter c ≡ true) × (list_all is_word cs ≡ true)

-- the words of the grammar, which are no names
abbrev pub keywords : List (List ℕ)
keywords =
    codes "predicate"
    ∷ codes "bool"
    ∷ codes "int"
    ∷ codes "set"
    ∷ codes "of"
    ∷ codes "array"
    ∷ codes "var"
    ∷ codes "constraint"
    ∷ codes "solve"
    ∷ codes "satisfy"
    ∷ codes "minimize"
    ∷ codes "maximize"
    ∷ codes "true"
    ∷ codes "false"
    ∷ []

abbrev pub IsName : List ℕ → Type 0
IsName name = IsIdentifier name × AllByRecursion (λ word. name ≢ word) keywords

-- the ends of a range that has members, each small
pub record IsRange (s : Bounds) : Type 0 where
  pub ordered : s.lo ≤ℤ s.hi
  pub small : IsSmall s

-- one value that is as asked, a constant or a variable; the list says of each variable whether it is Boolean
abbrev pub IsSingle : List Truth → Asked → Arg-F Arg → Type 0
IsSingle booleans asked.Int (Int k) = IsSmall (exactly k)
IsSingle booleans asked.Int (Var v) = slice_get booleans v ≡ Some false
IsSingle booleans asked.Bool (Bool t) = Unit {0}
IsSingle booleans asked.Bool (Var v) = slice_get booleans v ≡ Some true
IsSingle booleans asked.IntConstant (Int k) = IsSmall (exactly k)
IsSingle booleans asked.BoolConstant (Bool t) = Unit {0}
IsSingle booleans _ _ = ⊥

abbrev pub AreSingles : List Truth → Asked → List Arg → Type 0
AreSingles booleans a xs = AllByRecursion (λ x. IsSingle booleans a (out-Arg x)) xs

abbrev pub IsOfKind : List Truth → Kind → Arg-F Arg → Type 0
IsOfKind booleans (kind.One a) x = IsSingle booleans a x
IsOfKind booleans (kind.Many a) (Listed xs) = AreSingles booleans a xs
IsOfKind booleans kind.Set (Range s) = IsRange s
IsOfKind booleans kind.Set (Set zs) = AllByRecursion (λ k. IsSmall (exactly k)) zs
IsOfKind booleans _ _ = ⊥

-- as many arguments as kinds, each of its kind
abbrev pub AreOfKinds : List Truth → List Kind → List Arg → Type 0
AreOfKinds booleans [] [] = Unit {0}
AreOfKinds booleans (k ∷ ks) (x ∷ xs) = IsOfKind booleans k (out-Arg x) × AreOfKinds booleans ks xs
AreOfKinds booleans _ _ = ⊥

-- the coefficients and the values of a linear builtin are equally many
abbrev pub AreAsMany : Truth → List Arg → Type 0
AreAsMany true (cs ∷ xs ∷ rest) = length (members cs) ≡ length (members xs)
AreAsMany _ _ = Unit {0}

-- the call has arguments of the right number, kinds and lengths, and each integer of it is small
pub record IsCall (booleans : List Truth) (call : Call) : Type 0 where
  pub kinds : AreOfKinds booleans (kinds_at call.builtin (length call.args)) call.args
  pub lengths : AreAsMany (is_linear call.builtin) call.args

-- what a declaration asks of what stands behind its `=`
abbrev pub asked_of : Truth → Asked
asked_of true = asked.Bool
asked_of false = asked.Int

-- a Boolean variable has the domain 0..1
abbrev pub HasOwnDomain : Truth → List Bounds → Type 0
HasOwnDomain true domain = domain ≡ record { lo = pos 0; hi = pos 1 } ∷ []
HasOwnDomain false domain = IsDomain domain × AllByRecursion IsSmall domain

abbrev pub IsEqualTo : List Truth → Asked → Option Arg → Type 0
IsEqualTo earlier a None = Unit {0}
IsEqualTo earlier a (Some x) = IsSingle earlier a (out-Arg x)

-- a variable behind others: it equals a constant of its kind, or one of these
pub record IsVar (earlier : List Truth) (v : FzVar) : Type 0 where
  pub domain : HasOwnDomain v.boolean v.domain
  pub equal : IsEqualTo earlier (asked_of v.boolean) v.equal

abbrev pub AreVars : List Truth → List FzVar → Type 0
AreVars earlier [] = Unit {0}
AreVars earlier (v ∷ vs) = IsVar earlier v × AreVars (earlier ++ v.boolean ∷ []) vs

-- of how many members the ranges are the indices
abbrev pub places : List Bounds → ℕ
places [] = 1
places (s ∷ ss) = width_of s * places ss

-- an output array has one dimension or more, a member for each place, and its length is an integer of the text
pub record IsOutput (booleans : List Truth) (o : Output) : Type 0 where
  pub some : 1 ≤ length o.dims
  pub dims : AllByRecursion IsRange o.dims
  pub sized : places o.dims ≡ length o.members
  pub few : length o.members ≤ limit
  pub each : AreSingles booleans (asked_of o.boolean) o.members

abbrev pub booleans_of : List FzVar → List Truth
booleans_of vs = map (λ (v : FzVar). v.boolean) vs

-- the objective is an integer variable
abbrev pub IsGoal : List Truth → Goal → Type 0
IsGoal booleans Satisfy = Unit {0}
IsGoal booleans (Minimize v) = slice_get booleans v ≡ Some false
IsGoal booleans (Maximize v) = slice_get booleans v ≡ Some false

-- the names of the variables, and then those of the output arrays
abbrev pub all_names : Model → List (List ℕ)
all_names m = map (λ (v : FzVar). v.name) m.vars ++ map (λ (o : Output). o.name) m.outputs

-- the model is well formed: its names are identifiers that differ and are no keywords, its domains and integers are in
-- bounds, and its declarations, its calls and its goal speak of variables that it has, in the right places
pub record IsSound (m : Model) : Type 0 where
  pub names : AllByRecursion IsName (all_names m)
  pub distinct : AllPairs (λ a b. a ≢ b) (all_names m)
  pub vars : AreVars [] m.vars
  pub outputs : AllByRecursion (IsOutput (booleans_of m.vars)) m.outputs
  pub calls : AllByRecursion (IsCall (booleans_of m.vars)) m.calls
  pub goal : IsGoal (booleans_of m.vars) m.goal
