-- Items that miss nothing leave the names of what is read right and different.
use Rattle.std.proofs.Common.{◌≡◌, ℕ, ◌-◌, ℤ, Bool, true, false, ◌&&◌, not, List, [], ◌∷◌, ◌++◌, length, map, Option, None, Some, Ok, refl, sym, ap, ◌∙◌, subst, append_assoc}
use Rattle.std.specs.Prelude.{is_some}
use Rattle.std.specs.List.{AllByRecursion}
use Rattle.std.proofs.lemmas.List.{map-append, append-nil}
use Rattle.xf_num.specs.Span.{Bounds}
use Rattle.fz_model.specs.declared.builtin.Builtin.{Builtin}
use Rattle.fz_model.specs.declared.model.FzVar.{FzVar}
use Rattle.fz_model.specs.declared.model.Output.{Output}
use Rattle.fz_model.specs.Builtins.{by_name}
use Rattle.fz_model.specs.Sound.{IsName}
use Rattle.fz_grammar.specs.declared.tree.Expr.{Expr}
use Rattle.fz_grammar.specs.declared.tree.VarType.{VarType}
use Rattle.fz_grammar.specs.declared.tree.Item.{Item}
use Rattle.fz_grammar.specs.declared.tree.Item.TheVariants as items
use Rattle.fz_values.specs.declared.meaning.Single.{Single}
use Rattle.fz_values.specs.declared.meaning.Meaning.{Meaning}
use Rattle.fz_values.specs.declared.meaning.Meaning.TheVariants as meaning
use Rattle.fz_values.specs.Names.{look_up}
use Rattle.fz_values.specs.Values.{is_known}
use Rattle.fz_values.specs.Kinds.{members_in}
use Rattle.fz_items.specs.declared.progress.Progress.{Progress}
use Rattle.fz_items.specs.Conditions.{first_missed, in_order}
use Rattle.fz_items.specs.Progress.{begun, with_name, with_var}
use Rattle.fz_items.specs.Notes.{shown_as}
use Rattle.fz_items.specs.Items.{param_meaning, type_leaves, value_known, var_meaning, var_of, member_sort, output_of, shown_output, with_shown, with_builtin, item_meets, item_behind}
use Rattle.fz_items.specs.Outcome.{items_outcome}
use Rattle.fz_sound.proofs.NameItems.{IsNamedItem}
use Rattle.fz_sound.proofs.Newness.{Differ, all_insert, differ_insert, IsDeclared, declared_more, declared_last, apart}
use Rattle.fz_sound.proofs.SoundItems.{AreMet, all_met, later}

abbrev pub names_in : List FzVar → List Output → List (List ℕ)
names_in vs os = map (λ (v : FzVar). v.name) vs ++ map (λ (o : Output). o.name) os

-- the names of the variables and of the shown arrays are right, declared, and differ
pub record AreNames (known : List (List ℕ × Meaning)) (ws : List (List ℕ)) : Type 0 where
  pub right : AllByRecursion IsName ws
  pub declared : AllByRecursion (IsDeclared known) ws
  pub differ : Differ ws

abbrev pub IsNamed : Progress → Type 0
IsNamed p = AreNames p.names (names_in p.vars p.outputs)

pub begun_named : IsNamed begun
begun_named = record { right = tt; declared = tt; differ = tt }

all_more_declared : (names : List (List ℕ × Meaning)) (e : List ℕ × Meaning) (ws : List (List ℕ)) → AllByRecursion (IsDeclared names) ws → AllByRecursion (IsDeclared (names ++ e ∷ [])) ws
all_more_declared names e [] h = tt
all_more_declared names e (w ∷ ws) h = (declared_more names e w h.0, all_more_declared names e ws h.1)

-- a name more is known
known_more : (names : List (List ℕ × Meaning)) (e : List ℕ × Meaning) (ws : List (List ℕ)) → AreNames names ws → AreNames (names ++ e ∷ []) ws
known_more names e ws h = record { right = h.right; declared = all_more_declared names e ws h.declared; differ = h.differ }

-- a new name is put among the others
name_more : (names : List (List ℕ × Meaning)) (w : List ℕ) (m : Meaning) (xs bs : List (List ℕ)) → AreNames names (xs ++ bs) → IsName w → not (is_some (look_up names w)) ≡ true → AreNames (names ++ (w, m) ∷ []) (xs ++ w ∷ bs)
name_more names w m xs bs h r new = record {
  right = all_insert IsName xs bs w h.right r;
  declared = all_insert (IsDeclared (names ++ (w, m) ∷ [])) xs bs w (all_more_declared names (w, m) (xs ++ bs) h.declared) (declared_last names w m);
  differ = differ_insert xs bs w h.differ (apart names w (xs ++ bs) new h.declared);
}

var_among : (vs : List FzVar) (v : FzVar) (os : List Output) → names_in (vs ++ v ∷ []) os ≡ map (λ (u : FzVar). u.name) vs ++ v.name ∷ map (λ (o : Output). o.name) os
var_among vs v os =
    ap (λ ws. ws ++ map (λ (o : Output). o.name) os) (map-append (λ (u : FzVar). u.name) vs (v ∷ [])) ∙ append_assoc (map (λ (u : FzVar). u.name) vs) (v.name ∷ []) (map (λ (o : Output). o.name) os)

output_among : (vs : List FzVar) (os : List Output) (o : Output) → names_in vs (os ++ o ∷ []) ≡ names_in vs os ++ o.name ∷ []
output_among vs os o =
    ap (λ ws. map (λ (u : FzVar). u.name) vs ++ ws) (map-append (λ (u : Output). u.name) os (o ∷ [])) ∙ sym (append_assoc (map (λ (u : FzVar). u.name) vs) (map (λ (u : Output). u.name) os) (o.name ∷ []))

var_named : (p : Progress) (w : List ℕ) (m : Meaning) (n : ℕ) (v : FzVar) → IsNamed p → v.name ≡ w → IsName w → not (is_some (look_up p.names w)) ≡ true → IsNamed (with_var (with_name p w m n) v)
var_named p w m n v h e r new =
    subst (AreNames (p.names ++ (w, m) ∷ [])) (ap (λ u. map (λ (x : FzVar). x.name) p.vars ++ u ∷ map (λ (o : Output). o.name) p.outputs) (sym e) ∙ sym (var_among p.vars v p.outputs))
    (name_more p.names w m (map (λ (x : FzVar). x.name) p.vars) (map (λ (o : Output). o.name) p.outputs) h r new)

output_named : (p : Progress) (w : List ℕ) (m : Meaning) (n : ℕ) (t : VarType) (d : Option (List Bounds)) (xs : List Single) → IsNamed p → IsName w → not (is_some (look_up p.names w)) ≡ true
    → IsNamed (with_shown (with_name p w m n) (shown_output t w d xs))
output_named p w m n t None xs h r new = known_more p.names (w, m) (names_in p.vars p.outputs) h
output_named p w m n t (Some ds) xs h r new =
    let ws = names_in p.vars p.outputs in
    subst (AreNames (p.names ++ (w, m) ∷ [])) (sym (output_among p.vars p.outputs (output_of t w ds xs)))
    (name_more p.names w m ws [] (subst (AreNames p.names) (sym (append-nil ws)) h) r new)

call_named : (p : Progress) (b : Option Builtin) (xs : List Expr) (place : ℕ) → IsNamed p → IsNamed (with_builtin p b xs place)
call_named p None xs place h = h
call_named p (Some b) xs place h = h

left_true : (a b : Bool) → (a && b) ≡ true → a ≡ true
left_true true b e = refl
left_true false b e = cc

module _ (bound : Option ℤ) where
  met_named : (p : Progress) (x : Item) (place : ℕ) → IsNamed p → IsNamedItem x → AreMet (item_meets bound p x) → IsNamed (item_behind bound p x place)
  met_named p (items.Predicate w ns) place h r m = h
  met_named p (items.Param t w ns x) place h r m = known_more p.names (w, param_meaning p.names t x) (names_in p.vars p.outputs) h
  met_named p (items.Var t w ns v) place h r m =
      var_named p w (var_meaning t (length p.vars)) (type_leaves t) (var_of bound p t w ns v) h refl r (left_true (not (is_some (look_up p.names w))) (value_known p.names v) m.naming)
  met_named p (items.Array n t w ns x) place h r m =
      output_named p w (meaning.Array (member_sort t) (members_in p.names x)) (length (members_in p.names x)) t (shown_as ns) (members_in p.names x) h r (left_true (not (is_some (look_up p.names w))) (is_known p.names x) m.naming)
  met_named p (items.Constraint w xs ns) place h r m = call_named p (by_name w) xs place h

  pub items_names : (size : ℕ) (p : Progress) (xs : List Item) (ls : List ℕ) (q : Progress) → IsNamed p → AllByRecursion IsNamedItem xs → items_outcome in_order bound size p xs ls ≡ Ok q → IsNamed q
  items_names size p [] ls q h r e = let s : p ≡ q = cc in subst IsNamed s h
  items_names size p (x ∷ xs) [] q h r e = let s : p ≡ q = cc in subst IsNamed s h
  items_names size p (x ∷ xs) (l ∷ ls) q h r e =
      let a = later (first_missed in_order (item_meets bound p x)) (size - l) (items_outcome in_order bound size (item_behind bound p x (size - l)) xs ls) q e in
      items_names size (item_behind bound p x (size - l)) xs ls q (met_named p x (size - l) h r.0 (all_met (item_meets bound p x) a.0)) r.1 a.1
