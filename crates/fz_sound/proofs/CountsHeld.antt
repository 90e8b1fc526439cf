-- Items that miss nothing leave what is read within the counts.
use Rattle.std.proofs.Common.{◌≡◌, ℕ, ◌+◌, ◌-◌, ◌≤◌, ◌<◌, ℤ, Bool, true, false, ◌&&◌, List, [], ◌∷◌, ◌++◌, length, map, sum, Option, None, Some, Ok, refl, sym, ap, ap₂, ◌∙◌, subst, arith}
use Rattle.std.specs.Prelude.{nat_le, nat_lt}
use Rattle.std.proofs.lemmas.Bool.Decides.{nat_tests}
use Rattle.std.proofs.lemmas.List.{map-append, length-append, length-map}
use Rattle.std.proofs.lemmas.List.Sums.{sum_by-append, sum_by-cons}
use Rattle.xf_num.specs.Span.{Bounds}
use Rattle.fz_model.specs.declared.builtin.Builtin.{Builtin}
use Rattle.fz_model.specs.declared.kind.Kind.{Kind}
use Rattle.fz_model.specs.declared.kind.Kind.TheVariants as kind
use Rattle.fz_model.specs.declared.model.Arg.{Arg, fold-roll-Arg}
use Rattle.fz_model.specs.declared.model.Arg.TheOpen.{Arg-F}
use Rattle.fz_model.specs.declared.model.Arg.TheVariants as arg
use Rattle.fz_model.specs.declared.model.Call.{Call}
use Rattle.fz_model.specs.declared.model.FzVar.{FzVar}
use Rattle.fz_model.specs.declared.model.Output.{Output}
use Rattle.fz_model.specs.Builtins.{by_name}
use Rattle.fz_model.specs.Kinds.{kinds_at}
use Rattle.fz_model.specs.Limits.{most_variables, most_leaves}
use Rattle.fz_model.specs.Size.{leaves_step, leaves_of, call_leaves}
use Rattle.fz_grammar.specs.declared.tree.Expr.{Expr}
use Rattle.fz_grammar.specs.declared.tree.VarType.{VarType}
use Rattle.fz_grammar.specs.declared.tree.Item.{Item}
use Rattle.fz_grammar.specs.declared.tree.Item.TheVariants as items
use Rattle.fz_values.specs.declared.meaning.Single.{Single}
use Rattle.fz_values.specs.declared.meaning.Single.TheVariants as single
use Rattle.fz_values.specs.declared.meaning.SetOf.{SetOf}
use Rattle.fz_values.specs.declared.meaning.SetOf.TheVariants as sets
use Rattle.fz_values.specs.declared.meaning.Meaning.{Meaning}
use Rattle.fz_values.specs.declared.meaning.Meaning.TheVariants as meaning
use Rattle.fz_values.specs.Values.{one_in}
use Rattle.fz_values.specs.Kinds.{single_of, members_in, set_in, set_leaves, set_arg, arg_of, arg_in, args_in, leaves_in, all_leaves}
use Rattle.fz_items.specs.declared.progress.Progress.{Progress}
use Rattle.fz_items.specs.Conditions.{first_missed, in_order}
use Rattle.fz_items.specs.Progress.{begun, with_name, with_var}
use Rattle.fz_items.specs.Notes.{shown_as}
use Rattle.fz_items.specs.Items.{param_meaning, param_leaves, type_leaves, var_meaning, var_of, member_sort, output_of, shown_output, with_shown, call_kinds, call_of, with_builtin, item_meets, item_behind}
use Rattle.fz_items.specs.Outcome.{items_outcome}
use Rattle.fz_sound.proofs.SoundItems.{AreMet, all_met, later}

-- the leaves of each argument that an expression makes

leaves-Int : (z : ℤ) → leaves_of (arg.Int z) ≡ 1
leaves-Int z = ap leaves_of (sym (arg.rolls-Int z)) ∙ fold-roll-Arg ℕ leaves_step (Arg-F.Int z)

leaves-Bool : (t : Bool) → leaves_of (arg.Bool t) ≡ 1
leaves-Bool t = ap leaves_of (sym (arg.rolls-Bool t)) ∙ fold-roll-Arg ℕ leaves_step (Arg-F.Bool t)

leaves-Var : (k : ℕ) → leaves_of (arg.Var k) ≡ 1
leaves-Var k = ap leaves_of (sym (arg.rolls-Var k)) ∙ fold-roll-Arg ℕ leaves_step (Arg-F.Var k)

leaves-Set : (zs : List ℤ) → leaves_of (arg.Set zs) ≡ length zs
leaves-Set zs = ap leaves_of (sym (arg.rolls-Set zs)) ∙ fold-roll-Arg ℕ leaves_step (Arg-F.Set zs)

leaves-Range : (w : Bounds) → leaves_of (arg.Range w) ≡ 2
leaves-Range w = ap leaves_of (sym (arg.rolls-Range w)) ∙ fold-roll-Arg ℕ leaves_step (Arg-F.Range w)

leaves-List : (xs : List Arg) → leaves_of (arg.List xs) ≡ sum (map leaves_of xs)
leaves-List xs = ap leaves_of (sym (arg.rolls-List xs)) ∙ fold-roll-Arg ℕ leaves_step (Arg-F.List xs)

sum_cons : (x : ℕ) (xs : List ℕ) → sum (x ∷ xs) ≡ x + sum xs
sum_cons x xs = sum_by-cons (λ n. n) x xs

leaves_one : (x : Single) → leaves_of (arg_of x) ≡ 1
leaves_one (single.Int z) = leaves-Int z
leaves_one (single.Bool t) = leaves-Bool t
leaves_one (single.IntVar v) = leaves-Var v
leaves_one (single.BoolVar v) = leaves-Var v

leaves_many : (xs : List Single) → sum (map leaves_of (map arg_of xs)) ≡ length xs
leaves_many [] = refl
leaves_many (x ∷ xs) = let h = sum_cons (leaves_of (arg_of x)) (map leaves_of (map arg_of xs)) in omega (arith, h, leaves_one x, leaves_many xs)

leaves_set : (s : SetOf) → leaves_of (set_arg s) ≡ set_leaves s
leaves_set (sets.Range s) = leaves-Range s
leaves_set (sets.Members zs) = leaves-Set zs

module _ (names : List (List ℕ × Meaning)) where
  leaves_arg : (k : Kind) (x : Expr) → leaves_of (arg_in names k x) ≡ leaves_in names k x
  leaves_arg (kind.One a) x = leaves_one (single_of (one_in names x))
  leaves_arg (kind.Many a) x = leaves-List (map arg_of (members_in names x)) ∙ leaves_many (members_in names x)
  leaves_arg kind.Set x = leaves_set (set_in names x)

  leaves_args : (ks : List Kind) (xs : List Expr) → sum (map leaves_of (args_in names ks xs)) ≡ all_leaves names ks xs
  leaves_args [] xs = refl
  leaves_args (k ∷ ks) [] = refl
  leaves_args (k ∷ ks) (x ∷ xs) = sum_cons (leaves_of (arg_in names k x)) (map leaves_of (args_in names ks xs)) ∙ ap₂ (λ (a b : ℕ). a + b) (leaves_arg k x) (leaves_args ks xs)

-- the counts

abbrev pub used : List Call → List Output → ℕ
used cs os = sum (map call_leaves cs) + sum (map (λ (o : Output). length o.members) os)

pub record IsWithin (p : Progress) : Type 0 where
  pub variables : length p.vars ≤ most_variables
  pub leaves : used p.calls p.outputs + p.room ≤ most_leaves

pub begun_within : IsWithin begun
begun_within = record { variables = omega arith; leaves = omega arith }

at_most : (a b : ℕ) → nat_le a b ≡ true → a ≤ b
at_most a b h = grind (arith, nat_tests, h)

below : (a b : ℕ) → nat_lt a b ≡ true → a < b
below a b h = grind (arith, nat_tests, h)

sum_more : {X : Type 0} (f : X → ℕ) (xs : List X) (x : X) → sum (map f (xs ++ x ∷ [])) ≡ sum (map f xs) + f x
sum_more f xs x =
    ap sum (map-append f xs (x ∷ [])) ∙ (sum_by-append (λ n. n) (map f xs) (f x ∷ []) ∙ ap (λ n. sum (map f xs) + n) (sum_cons (f x) [] ∙ no_more (f x)))
  where
    no_more : (n : ℕ) → n + 0 ≡ n
    no_more n = omega arith

-- less room, and nothing more in it
less_room : (u room n most : ℕ) → u + room ≤ most → u + (room - n) ≤ most
less_room u room n most h = omega (arith, h)

-- as much more as there is less room
moved : (u room n most : ℕ) → u + room ≤ most → n ≤ room → (u + n) + (room - n) ≤ most
moved u room n most h g = omega (arith, h, g)

named_within : (p : Progress) (w : List ℕ) (m : Meaning) (n : ℕ) → IsWithin p → IsWithin (with_name p w m n)
named_within p w m n h = record { variables = h.variables; leaves = less_room (used p.calls p.outputs) p.room n most_leaves h.leaves }

one_longer : (vs : List FzVar) (v : FzVar) → length vs < most_variables → length (vs ++ v ∷ []) ≤ most_variables
one_longer vs v h = let e : length (vs ++ v ∷ []) ≡ length vs + 1 = length-append vs (v ∷ []) in subst (λ n. n ≤ most_variables) (sym e) (omega (arith, h))

var_within : (p : Progress) (w : List ℕ) (m : Meaning) (n : ℕ) (v : FzVar) → IsWithin p → length p.vars < most_variables → IsWithin (with_var (with_name p w m n) v)
var_within p w m n v h g = record { variables = one_longer p.vars v g; leaves = less_room (used p.calls p.outputs) p.room n most_leaves h.leaves }

swapped : (a b n room : ℕ) → (a + b) + n + room ≡ a + (b + n) + room
swapped a b n room = omega arith

swapped_calls : (a b n room : ℕ) → (a + b) + n + room ≡ (a + n) + b + room
swapped_calls a b n room = omega arith

output_within : (p : Progress) (w : List ℕ) (m : Meaning) (t : VarType) (d : Option (List Bounds)) (xs : List Single) → IsWithin p → length xs ≤ p.room → IsWithin (with_shown (with_name p w m (length xs)) (shown_output t w d xs))
output_within p w m t None xs h g = named_within p w m (length xs) h
output_within p w m t (Some ds) xs h g =
    let calls = sum (map call_leaves p.calls) in
    let outputs = sum (map (λ (o : Output). length o.members) p.outputs) in
    let e : sum (map (λ (o : Output). length o.members) (p.outputs ++ output_of t w ds xs ∷ [])) ≡ outputs + length xs =
    sum_more (λ (o : Output). length o.members) p.outputs (output_of t w ds xs) ∙ ap (λ n. outputs + n) (length-map xs arg_of) in record {
      variables = h.variables;
      leaves = subst (λ n. calls + n + (p.room - length xs) ≤ most_leaves) (sym e) (subst (λ n. n ≤ most_leaves) (swapped calls outputs (length xs) (p.room - length xs)) (moved (calls + outputs) p.room (length xs) most_leaves h.leaves g));
    }

call_within : (p : Progress) (b : Option Builtin) (xs : List Expr) (place : ℕ) → IsWithin p → all_leaves p.names (call_kinds b (length xs)) xs ≤ p.room → IsWithin (with_builtin p b xs place)
call_within p None xs place h g = h
call_within p (Some b) xs place h g =
    let calls = sum (map call_leaves p.calls) in
    let outputs = sum (map (λ (o : Output). length o.members) p.outputs) in
    let n = all_leaves p.names (kinds_at b (length xs)) xs in
    let e : sum (map call_leaves (p.calls ++ call_of p b xs place ∷ [])) ≡ calls + n = sum_more call_leaves p.calls (call_of p b xs place) ∙ ap (λ k. calls + k) (leaves_args p.names (kinds_at b (length xs)) xs) in record {
      variables = h.variables;
      leaves = subst (λ k. k + outputs + (p.room - n) ≤ most_leaves) (sym e) (subst (λ k. k ≤ most_leaves) (swapped_calls calls outputs n (p.room - n)) (moved (calls + outputs) p.room n most_leaves h.leaves g));
    }

left_true : (a b : Bool) → (a && b) ≡ true → a ≡ true
left_true true b e = refl
left_true false b e = cc

module _ (bound : Option ℤ) where
  met_within : (p : Progress) (x : Item) (place : ℕ) → IsWithin p → AreMet (item_meets bound p x) → IsWithin (item_behind bound p x place)
  met_within p (items.Predicate w ns) place h m = h
  met_within p (items.Param t w ns x) place h m = named_within p w (param_meaning p.names t x) (param_leaves p.names t x) h
  met_within p (items.Var t w ns v) place h m =
      var_within p w (var_meaning t (length p.vars)) (type_leaves t) (var_of bound p t w ns v) h (below (length p.vars) most_variables (left_true (nat_lt (length p.vars) most_variables) (nat_le (type_leaves t) p.room) m.counting))
  met_within p (items.Array n t w ns x) place h m =
      output_within p w (meaning.Array (member_sort t) (members_in p.names x)) t (shown_as ns) (members_in p.names x) h (at_most (length (members_in p.names x)) p.room m.counting)
  met_within p (items.Constraint w xs ns) place h m =
      call_within p (by_name w) xs place h (at_most (all_leaves p.names (call_kinds (by_name w) (length xs)) xs) p.room m.counting)

  pub items_within : (size : ℕ) (p : Progress) (xs : List Item) (ls : List ℕ) (q : Progress) → IsWithin p → items_outcome in_order bound size p xs ls ≡ Ok q → IsWithin q
  items_within size p [] ls q h e = let s : p ≡ q = cc in subst IsWithin s h
  items_within size p (x ∷ xs) [] q h e = let s : p ≡ q = cc in subst IsWithin s h
  items_within size p (x ∷ xs) (l ∷ ls) q h e =
      let a = later (first_missed in_order (item_meets bound p x)) (size - l) (items_outcome in_order bound size (item_behind bound p x (size - l)) xs ls) q e in
      items_within size (item_behind bound p x (size - l)) xs ls q (met_within p x (size - l) h (all_met (item_meets bound p x) a.0)) a.1
