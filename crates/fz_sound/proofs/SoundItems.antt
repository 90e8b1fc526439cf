-- Items that miss nothing leave what is read sound.
use Rattle.std.proofs.Common.{◌≡◌, ℕ, ◌-◌, ◌≤◌, ℤ, Bool, true, false, ◌&&◌, if◌then◌else◌, List, [], ◌∷◌, ◌++◌, length, map, slice_get, Option, None, Some, Result, Ok, refl, sym, ◌∙◌, subst, arith}
use Rattle.std.specs.Prelude.{IfSome, nat_eq, is_some}
use Rattle.std.specs.List.{AllByRecursion}
use Rattle.std.proofs.lemmas.Bool.Decides.{nat_tests}
use Rattle.std.proofs.lemmas.List.{length-map}
use Rattle.xf_num.specs.Span.{Bounds}
use Rattle.xf_text.specs.declared.fault.Fault.{Fault}
use Rattle.fz_model.specs.declared.builtin.Builtin.{Builtin}
use Rattle.fz_model.specs.declared.kind.Asked.TheVariants as asked
use Rattle.fz_model.specs.declared.model.Arg.{out-Arg}
use Rattle.fz_model.specs.declared.model.FzVar.{FzVar}
use Rattle.fz_model.specs.declared.model.Output.{Output}
use Rattle.fz_model.specs.Builtins.{by_name}
use Rattle.fz_model.specs.Limits.{limit}
use Rattle.fz_model.specs.Sound.{IsSingle, AreSingles, IsCall, IsVar, AreVars, IsEqualTo, IsOutput, booleans_of, asked_of, places}
use Rattle.fz_grammar.specs.declared.tree.Expr.{Expr}
use Rattle.fz_grammar.specs.declared.tree.VarType.{VarType}
use Rattle.fz_grammar.specs.declared.tree.VarType.TheVariants as var_type
use Rattle.fz_grammar.specs.declared.tree.ParamType.{ParamType}
use Rattle.fz_grammar.specs.declared.tree.ParamType.TheVariants as param_type
use Rattle.fz_grammar.specs.declared.tree.Item.{Item}
use Rattle.fz_grammar.specs.declared.tree.Item.TheVariants as items
use Rattle.fz_values.specs.declared.meaning.Meaning.{Meaning}
use Rattle.fz_values.specs.declared.meaning.Meaning.TheVariants as meaning
use Rattle.fz_values.specs.Values.{one_in}
use Rattle.fz_values.specs.Kinds.{fits, reaches, all_fit, all_reach, single_of, members_in, arg_of}
use Rattle.fz_items.specs.declared.condition.Condition.{Condition}
use Rattle.fz_items.specs.declared.condition.Meets.{Meets}
use Rattle.fz_items.specs.declared.progress.Progress.{Progress}
use Rattle.fz_items.specs.Conditions.{first_missed, in_order}
use Rattle.fz_items.specs.Progress.{begun, with_name, with_var}
use Rattle.fz_items.specs.Notes.{shown_as}
use Rattle.fz_items.specs.Items.{param_meaning, param_leaves, is_bool, var_kind, type_leaves, has_member, has_length, IsBound, value_fits, value_reaches, value_arg, var_meaning, var_of, member_sort, array_kind, dims_fit, shown_output, with_shown, call_kinds, is_linear_call, lengths_fit, call_of, with_builtin, item_meets, item_behind}
use Rattle.fz_items.specs.Outcome.{fault_or, items_outcome}
use Rattle.fz_sound.proofs.SoundValues.{IsMeaning, AreMeanings, one_value, members_sound, set_sound, arg_sound, many_sound}
use Rattle.fz_sound.proofs.Growing.{all_more, meanings_more, calls_more, outputs_more, booleans_more, vars_more, get_last}
use Rattle.fz_sound.proofs.SoundCalls.{call_sound}
use Rattle.fz_sound.proofs.SoundDomains.{domain_sound}
use Rattle.fz_sound.proofs.SoundOutputs.{AreDims, shown_right, few}

-- what is met where nothing is missed
pub record AreMet (m : Meets) : Type 0 where
  pub known : m.known ≡ true
  pub naming : m.naming ≡ true
  pub kinds : m.kinds ≡ true
  pub magnitude : m.magnitude ≡ true
  pub shape : m.shape ≡ true
  pub counting : m.counting ≡ true

met_on : (a b c d e f g : Bool) → first_missed in_order (record { known = a; naming = b; kinds = c; magnitude = d; shape = e; counting = f; bounded = g }) ≡ None
    → (a ≡ true) × ((b ≡ true) × ((c ≡ true) × ((d ≡ true) × ((e ≡ true) × (f ≡ true)))))
met_on true true true true true true g h = (refl, (refl, (refl, (refl, (refl, refl)))))
met_on true true true true true false g h = cc
met_on true true true true false f g h = cc
met_on true true true false e f g h = cc
met_on true true false d e f g h = cc
met_on true false c d e f g h = cc
met_on false b c d e f g h = cc

pub all_met : (m : Meets) → first_missed in_order m ≡ None → AreMet m
all_met m h =
    let a = met_on m.known m.naming m.kinds m.magnitude m.shape m.counting m.bounded h in
    record { known = a.0; naming = a.1.0; kinds = a.1.1.0; magnitude = a.1.1.1.0; shape = a.1.1.1.1.0; counting = a.1.1.1.1.1 }

left_true : (a b : Bool) → (a && b) ≡ true → a ≡ true
left_true true b e = refl
left_true false b e = cc

right_true : (a b : Bool) → (a && b) ≡ true → b ≡ true
right_true true b e = e
right_true false b e = cc

-- what is read so far is sound
pub record IsHeld (p : Progress) : Type 0 where
  pub names : AreMeanings (booleans_of p.vars) p.names
  pub vars : AreVars [] p.vars
  pub outputs : AllByRecursion (IsOutput (booleans_of p.vars)) p.outputs
  pub calls : AllByRecursion (IsCall (booleans_of p.vars)) p.calls

pub begun_held : IsHeld begun
begun_held = record { names = tt; vars = tt; outputs = tt; calls = tt }

named_held : (p : Progress) (w : List ℕ) (m : Meaning) (n : ℕ) → IsHeld p → IsMeaning (booleans_of p.vars) m → IsHeld (with_name p w m n)
named_held p w m n h g = record { names = all_more (λ e. IsMeaning (booleans_of p.vars) e.1) p.names (w, m) h.names g; vars = h.vars; outputs = h.outputs; calls = h.calls }

param_meant : (p : Progress) (t : ParamType) (x : Expr) → IsHeld p → IsMeaning (booleans_of p.vars) (param_meaning p.names t x)
param_meant p param_type.Bool x h = one_value (booleans_of p.vars) p.names h.names x
param_meant p param_type.Int x h = one_value (booleans_of p.vars) p.names h.names x
param_meant p param_type.SetOfInt x h = set_sound (booleans_of p.vars) p.names h.names x
param_meant p (param_type.Bools n) x h = members_sound (booleans_of p.vars) p.names h.names x
param_meant p (param_type.Ints n) x h = members_sound (booleans_of p.vars) p.names h.names x

-- a variable behind others, under its name
var_held : (p : Progress) (w : List ℕ) (m : Meaning) (n : ℕ) (v : FzVar) → IsHeld p → IsVar (booleans_of p.vars) v → IsMeaning (booleans_of p.vars ++ v.boolean ∷ []) m → IsHeld (with_var (with_name p w m n) v)
var_held p w m n v h g k =
    let bs = booleans_of p.vars in
    let e : booleans_of p.vars ++ v.boolean ∷ [] ≡ booleans_of (p.vars ++ v ∷ []) = sym (booleans_more p.vars v) in record {
      names = subst (λ cs. AreMeanings cs (p.names ++ (w, m) ∷ [])) e (all_more (λ x. IsMeaning (bs ++ v.boolean ∷ []) x.1) p.names (w, m) (meanings_more bs v.boolean p.names h.names) k);
      vars = vars_more [] p.vars v h.vars g;
      outputs = subst (λ cs. AllByRecursion (IsOutput cs) p.outputs) e (outputs_more bs v.boolean p.outputs h.outputs);
      calls = subst (λ cs. AllByRecursion (IsCall cs) p.calls) e (calls_more bs v.boolean p.calls h.calls);
    }

length_booleans : (vs : List FzVar) → length (booleans_of vs) ≡ length vs
length_booleans vs = length-map vs (λ (v : FzVar). v.boolean)

var_meant : (bs : List Bool) (t : VarType) (n : ℕ) → length bs ≡ n → IsMeaning (bs ++ is_bool t ∷ []) (var_meaning t n)
var_meant bs var_type.Bool n e = subst (λ k. slice_get (bs ++ true ∷ []) k ≡ Some true) e (get_last bs true)
var_meant bs var_type.Int n e = subst (λ k. slice_get (bs ++ false ∷ []) k ≡ Some false) e (get_last bs false)
var_meant bs (var_type.Range a b) n e = subst (λ k. slice_get (bs ++ false ∷ []) k ≡ Some false) e (get_last bs false)
var_meant bs (var_type.Set ns) n e = subst (λ k. slice_get (bs ++ false ∷ []) k ≡ Some false) e (get_last bs false)

asked_same : (t : VarType) → (if is_bool t then asked.Bool else asked.Int) ≡ asked_of (is_bool t)
asked_same var_type.Bool = refl
asked_same var_type.Int = refl
asked_same (var_type.Range a b) = refl
asked_same (var_type.Set ns) = refl

equal_sound : (p : Progress) (t : VarType) (v : Option Expr) → IsHeld p → value_fits p.names (var_kind t) v ≡ true → value_reaches p.names (var_kind t) v ≡ true
    → IsEqualTo (booleans_of p.vars) (asked_of (is_bool t)) (value_arg p.names (var_kind t) v)
equal_sound p t None h s w = tt
equal_sound p t (Some x) h s w =
    subst (λ a. IsSingle (booleans_of p.vars) a (out-Arg (arg_of (single_of (one_in p.names x))))) (asked_same t) (arg_sound (booleans_of p.vars) p.names h.names (var_kind t) x s w)

output_held : (p : Progress) (o : Option Output) → IsHeld p → IfSome o (IsOutput (booleans_of p.vars)) → IsHeld (with_shown p o)
output_held p None h g = h
output_held p (Some o) h g = record { names = h.names; vars = h.vars; outputs = all_more (IsOutput (booleans_of p.vars)) p.outputs o h.outputs g; calls = h.calls }

same_number : (a b : ℕ) → nat_eq a b ≡ true → a ≡ b
same_number a b h = grind (arith, nat_tests, h)

output_sound : (p : Progress) (n : List ℕ) (t : VarType) (w : List ℕ) (d : Option (List Bounds)) (x : Expr) → IsHeld p → IfSome d AreDims → fits p.names (array_kind t) x ≡ true → reaches p.names (array_kind t) x ≡ true
    → has_length n (length (members_in p.names x)) ≡ true → dims_fit d (length (members_in p.names x)) ≡ true → IfSome (shown_output t w d (members_in p.names x)) (IsOutput (booleans_of p.vars))
output_sound p n t w None x h g s r l e = tt
output_sound p n t w (Some ds) x h g s r l e =
    let same : length (map arg_of (members_in p.names x)) ≡ length (members_in p.names x) = length-map (members_in p.names x) arg_of in record {
      some = g.some;
      dims = g.ranges;
      sized = same_number (places ds) (length (members_in p.names x)) e ∙ sym same;
      few = subst (λ k. k ≤ limit) (sym same) (few n (length (members_in p.names x)) l);
      each = subst (λ a. AreSingles (booleans_of p.vars) a (map arg_of (members_in p.names x))) (asked_same t) (many_sound (booleans_of p.vars) p.names h.names (if is_bool t then asked.Bool else asked.Int) x s r);
    }

call_held : (p : Progress) (b : Option Builtin) (xs : List Expr) (place : ℕ) → IsHeld p → is_some b ≡ true → all_fit p.names (call_kinds b (length xs)) xs ≡ true → all_reach p.names (call_kinds b (length xs)) xs ≡ true
    → lengths_fit p.names (is_linear_call b) xs ≡ true → IsHeld (with_builtin p b xs place)
call_held p None xs place h k s w e = cc
call_held p (Some b) xs place h k s w e = record {
  names = h.names;
  vars = h.vars;
  outputs = h.outputs;
  calls = all_more (IsCall (booleans_of p.vars)) p.calls (call_of p b xs place) h.calls (call_sound p.names (booleans_of p.vars) h.names b xs place s w e);
}

pub later : (k : Option Condition) (place : ℕ) (r : Result Progress Fault) (q : Progress) → fault_or k place r ≡ Ok q → (k ≡ None) × (r ≡ Ok q)
later None place r q e = (refl, e)
later (Some k) place r q e = cc

module _ (bound : Option ℤ) (right : IsBound bound) where
  met_held : (p : Progress) (x : Item) (place : ℕ) → IsHeld p → AreMet (item_meets bound p x) → IsHeld (item_behind bound p x place)
  met_held p (items.Predicate w ns) place h m = h
  met_held p (items.Param t w ns x) place h m = named_held p w (param_meaning p.names t x) (param_leaves p.names t x) h (param_meant p t x h)
  met_held p (items.Var t w ns v) place h m =
      var_held p w (var_meaning t (length p.vars)) (type_leaves t) (var_of bound p t w ns v) h
      (record { domain = domain_sound bound t right; equal = equal_sound p t v h m.kinds (right_true (has_member t) _ m.shape) })
      (var_meant (booleans_of p.vars) t (length p.vars) (length_booleans p.vars))
  met_held p (items.Array n t w ns x) place h m =
      let k = length (members_in p.names x) in
      let q = with_name p w (meaning.Array (member_sort t) (members_in p.names x)) k in
      output_held q (shown_output t w (shown_as ns) (members_in p.names x))
      (named_held p w (meaning.Array (member_sort t) (members_in p.names x)) k h (members_sound (booleans_of p.vars) p.names h.names x))
      (output_sound p n t w (shown_as ns) x h (shown_right ns) m.kinds (right_true (has_length n k) _ (left_true (has_length n k && reaches p.names (array_kind t) x) _ m.shape))
      (left_true (has_length n k) _ (left_true (has_length n k && reaches p.names (array_kind t) x) _ m.shape)) (right_true (has_length n k && reaches p.names (array_kind t) x) _ m.shape))
  met_held p (items.Constraint w xs ns) place h m =
      call_held p (by_name w) xs place h m.known m.kinds (left_true (all_reach p.names (call_kinds (by_name w) (length xs)) xs) _ m.shape) (right_true (all_reach p.names (call_kinds (by_name w) (length xs)) xs) _ m.shape)

  pub items_held : (size : ℕ) (p : Progress) (xs : List Item) (ls : List ℕ) (q : Progress) → IsHeld p → items_outcome in_order bound size p xs ls ≡ Ok q → IsHeld q
  items_held size p [] ls q h e = let s : p ≡ q = cc in subst IsHeld s h
  items_held size p (x ∷ xs) [] q h e = let s : p ≡ q = cc in subst IsHeld s h
  items_held size p (x ∷ xs) (l ∷ ls) q h e =
      let a = later (first_missed in_order (item_meets bound p x)) (size - l) (items_outcome in_order bound size (item_behind bound p x (size - l)) xs ls) q e in
      items_held size (item_behind bound p x (size - l)) xs ls q (met_held p x (size - l) h (all_met (item_meets bound p x) a.0)) a.1
