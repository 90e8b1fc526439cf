-- The tokens of a whole model spell its tree.
use Rattle.std.proofs.Common.{◌≡◌, ℕ, ◌+◌, ◌<◌, ◌≤◌, Bool as Truth, true, false, Option, Some, None, List, [], ◌∷◌, ◌++◌, length, map, refl, ap, sym, subst, ◌∙◌, arith, append_assoc, append-nil, true≢false}
use Rattle.std.specs.Prelude.{nat_le}
use Rattle.std.specs.List.{AllByRecursion, list_all, flat_map}
use Rattle.std.proofs.lemmas.List.{length-append}
use Rattle.xf_num.specs.Span.{Bounds}
use Rattle.fz_model.specs.declared.builtin.Builtin.{Builtin}
use Rattle.fz_model.specs.declared.kind.Kind.{Kind}
use Rattle.fz_model.specs.declared.model.Arg.{Arg}
use Rattle.fz_model.specs.declared.model.Call.{Call}
use Rattle.fz_model.specs.declared.model.FzVar.{FzVar}
use Rattle.fz_model.specs.declared.model.Model.{Model}
use Rattle.fz_model.specs.declared.model.Output.{Output}
use Rattle.fz_model.specs.Kinds.{kinds_at}
use Rattle.fz_model.specs.Sound.{IsName, HasOwnDomain, IsEqualTo, asked_of, AreOfKinds, AreVars, IsOutput, IsCall, IsSound, booleans_of}
use Rattle.fz_file.specs.Layout.{names_of, var_line, output_head, output_line, call_head, call_line, goal_line, layout, range_text, arg_text}
use Rattle.fz_tokens.specs.Tokens.{Token, tokens_of}
use Rattle.fz_grammar.specs.Levels.{words}
use Rattle.fz_grammar.specs.Parts.{Rising}
use Rattle.fz_grammar.specs.Expressions.{is_plain}
use Rattle.fz_grammar.specs.Items.{IsItem, AreItems, IsModel, rank, solve}
use Rattle.fz_grammar.specs.declared.tree.Expr.TheVariants as expr
use Rattle.fz_grammar.specs.declared.tree.Item.{Item}
use Rattle.fz_again.specs.Tree.{expr_of, range_of, var_item, output_item, call_item, goal_of, tree_of, ReadsAsTree, HasItems}
use Rattle.fz_again.proofs.Cuts.{Cuts, join, nothing, NoSpace}
use Rattle.fz_again.proofs.Arguments.{all_plain, list_spells, single_spells, singles_spell, kinds_spell}
use Rattle.fz_again.proofs.Lines.{var_tokens, output_tokens, call_tokens, solve_tokens, var_cuts, output_cuts, call_cuts, goal_line_cuts, dims_spell, every_builtin}
use Rattle.fz_again.proofs.Places.{placed}
use Rattle.fz_again.proofs.Trees.{length_mapped, IsPlainValue, var_spelt, output_spelt, call_spelt, goal_spelt}

-- lines in a row

module _ {X : Type 0} (f : X → List ℕ) (g : X → List Token) (first : (x : X) (rest : List ℕ) → NoSpace (f x ++ rest)) where
  abbrev pub AreLines : List X → Type 0
  AreLines xs = AllByRecursion (λ x. Cuts (f x) (g x) NoSpace) xs

  pub lines_first : (xs : List X) (rest : List ℕ) → NoSpace rest → NoSpace (flat_map f xs ++ rest)
  lines_first [] rest o = o
  lines_first (x ∷ xs) rest o = subst NoSpace (sym (append_assoc (f x) (flat_map f xs) rest)) (first x (flat_map f xs ++ rest))

  pub lines : (xs : List X) → AreLines xs → Cuts (flat_map f xs) (flat_map g xs) NoSpace
  lines [] h = nothing NoSpace
  lines (x ∷ xs) h = join h.0 (lines xs h.1) (λ rest o. lines_first xs rest o)

var_first : (names : List (List ℕ)) (v : FzVar) (rest : List ℕ) → NoSpace (var_line names v ++ rest)
var_first names v rest = refl

output_first : (names : List (List ℕ)) (o : Output) (rest : List ℕ) → NoSpace (output_line names o ++ rest)
unfolding output_line output_head
output_first names o rest = refl

call_first : (names : List (List ℕ)) (c : Call) (rest : List ℕ) → NoSpace (call_line names c ++ rest)
unfolding call_head
call_first names c rest = refl

-- items in a row

-- a list of items whatever the rank of the item before them is, up to that of declarations
abbrev Declared : List Item → List Token → Type 0
Declared xs ts = (before : ℕ) → nat_le before 2 ≡ true → Rising IsItem rank before xs ts

vars_rise : (names : List (List ℕ)) (vs : List FzVar) (xs : List Item) (ts : List Token) → AllByRecursion (λ (v : FzVar). (0 < length v.domain) × IsPlainValue names v.equal) vs → Declared xs ts → Declared (map (var_item names) vs ++ xs) (flat_map (var_tokens names) vs ++ ts)
vars_rise names [] xs ts h k = k
vars_rise names (v ∷ vs) xs ts h k = λ before low. record {
  us = var_tokens names v;
  vs = flat_map (var_tokens names) vs ++ ts;
  first = var_spelt names v before low h.0.0 h.0.1;
  second = vars_rise names vs xs ts h.1 k 2 refl;
  is = append_assoc (var_tokens names v) (flat_map (var_tokens names) vs) ts;
}

abbrev IsPlainOutput : List (List ℕ) → Output → Type 0
IsPlainOutput names o = (is_plain (expr.List (map range_of o.dims)) ≡ true) × (is_plain (expr.List (map (expr_of names) o.members)) ≡ true)

outputs_rise : (names : List (List ℕ)) (os : List Output) (xs : List Item) (ts : List Token) → AllByRecursion (IsPlainOutput names) os → Declared xs ts → Declared (map (output_item names) os ++ xs) (flat_map (output_tokens names) os ++ ts)
outputs_rise names [] xs ts h k = k
outputs_rise names (o ∷ os) xs ts h k = λ before low. record {
  us = output_tokens names o;
  vs = flat_map (output_tokens names) os ++ ts;
  first = output_spelt names o before low h.0.0 h.0.1;
  second = outputs_rise names os xs ts h.1 k 2 refl;
  is = append_assoc (output_tokens names o) (flat_map (output_tokens names) os) ts;
}

calls_rise : (names : List (List ℕ)) (cs : List Call) (before : ℕ) → AllByRecursion (λ (c : Call). (0 < length c.args) × (list_all is_plain (map (expr_of names) c.args) ≡ true)) cs → Rising IsItem rank before (map (call_item names) cs) (flat_map (call_tokens names) cs)
calls_rise names [] before h = refl
calls_rise names (c ∷ cs) before h = record { us = call_tokens names c; vs = flat_map (call_tokens names) cs; first = call_spelt names c before h.0.0 h.0.1; second = calls_rise names cs 3 h.1; is = refl }

-- what is asked of a sound model

all_split : {X : Type 0} (P : X → Type 0) (xs ys : List X) → AllByRecursion P (xs ++ ys) → AllByRecursion P xs × AllByRecursion P ys
all_split P [] ys h = (tt, h)
all_split P (x ∷ xs) ys h = let r = all_split P xs ys h.1 in ((h.0, r.0), r.1)

some_domain : (boolean : Truth) (domain : List Bounds) → HasOwnDomain boolean domain → 0 < length domain
some_domain true domain h = omega (arith, ap length h)
some_domain false [] h = absurd h.0
some_domain false (b ∷ bs) h = omega arith

abbrev some_kind : List Kind → Truth
some_kind [] = false
some_kind (k ∷ ks) = true

module _ (names : List (List ℕ)) (good : AllByRecursion IsName names) where
  plain_value : (earlier : List Truth) (boolean : Truth) (equal : Option Arg) → length earlier ≤ length names → IsEqualTo earlier (asked_of boolean) equal → IsPlainValue names equal
  plain_value earlier boolean None le h = tt
  plain_value earlier boolean (Some a) le h = (single_spells names good earlier le (asked_of boolean) a h).plain

  one_more : (earlier : List Truth) (t : Truth) → length (earlier ++ t ∷ []) ≡ length earlier + 1
  one_more earlier t = length-append earlier (t ∷ [])

  vars_cut : (earlier : List Truth) (vs : List FzVar) → length earlier + length vs ≤ length names → AllByRecursion IsName (map (λ (v : FzVar). v.name) vs) → AreVars earlier vs → AllByRecursion (λ v. Cuts (var_line names v) (var_tokens names v) NoSpace) vs
  vars_cut earlier [] le n h = tt
  vars_cut earlier (v ∷ vs) le n h = (var_cuts names good earlier v (omega arith) n.0 h.0, vars_cut (earlier ++ v.boolean ∷ []) vs (omega (arith, one_more earlier v.boolean)) n.1 h.1)

  vars_plain : (earlier : List Truth) (vs : List FzVar) → length earlier + length vs ≤ length names → AreVars earlier vs → AllByRecursion (λ (v : FzVar). (0 < length v.domain) × IsPlainValue names v.equal) vs
  vars_plain earlier [] le h = tt
  vars_plain earlier (v ∷ vs) le h =
      ((some_domain v.boolean v.domain h.0.domain, plain_value earlier v.boolean v.equal (omega arith) h.0.equal), vars_plain (earlier ++ v.boolean ∷ []) vs (omega (arith, one_more earlier v.boolean)) h.1)

  module _ (booleans : List Truth) (le : length booleans ≤ length names) where
    outputs_cut : (os : List Output) → AllByRecursion IsName (map (λ (o : Output). o.name) os) → AllByRecursion (IsOutput booleans) os → AllByRecursion (λ o. Cuts (output_line names o) (output_tokens names o) NoSpace) os
    outputs_cut [] n h = tt
    outputs_cut (o ∷ os) n h = (output_cuts names good booleans o le n.0 h.0, outputs_cut os n.1 h.1)

    outputs_plain : (os : List Output) → AllByRecursion (IsOutput booleans) os → AllByRecursion (IsPlainOutput names) os
    outputs_plain [] h = tt
    outputs_plain (o ∷ os) h =
        (((list_spells range_text range_of o.dims (dims_spell names good o.dims h.0.dims)).plain, (list_spells (arg_text names) (expr_of names) o.members (singles_spell names good booleans le (asked_of o.boolean) o.members h.0.each)).plain), outputs_plain os h.1)

    calls_cut : (cs : List Call) → AllByRecursion (IsCall booleans) cs → AllByRecursion (λ c. Cuts (call_line names c) (call_tokens names c) NoSpace) cs
    calls_cut [] h = tt
    calls_cut (c ∷ cs) h = (call_cuts names good booleans c le h.0, calls_cut cs h.1)

    none_missing : (ks : List Kind) → some_kind ks ≡ true → AreOfKinds booleans ks [] → ⊥
    none_missing [] e h = true≢false (sym e)
    none_missing (k ∷ ks) e h = h

    some_args : (b : Builtin) (args : List Arg) → AreOfKinds booleans (kinds_at b (length args)) args → 0 < length args
    some_args b [] h = absurd (none_missing (kinds_at b 0) (every_builtin (λ c. some_kind (kinds_at c 0)) refl b) h)
    some_args b (x ∷ xs) h = omega arith

    calls_plain : (cs : List Call) → AllByRecursion (IsCall booleans) cs → AllByRecursion (λ (c : Call). (0 < length c.args) × (list_all is_plain (map (expr_of names) c.args) ≡ true)) cs
    calls_plain [] h = tt
    calls_plain (c ∷ cs) h =
        ((some_args c.builtin c.args h.0.kinds, all_plain (arg_text names) (expr_of names) c.args (kinds_spell names good booleans le (kinds_at c.builtin (length c.args)) c.args h.0.kinds)), calls_plain cs h.1)

-- the whole

-- the tokens of what is written of a model
abbrev pub all_tokens : Model → List Token
all_tokens m =
    let names : List (List ℕ) = names_of m.vars in
    flat_map (var_tokens names) m.vars ++ (flat_map (output_tokens names) m.outputs ++ (flat_map (call_tokens names) m.calls ++ solve_tokens names m.goal))

-- the names of the variables are names, and there are as many as variables
pub record HasNames (m : Model) : Type 0 where
  pub vars : AllByRecursion IsName (names_of m.vars)
  pub outputs : AllByRecursion IsName (map (λ (o : Output). o.name) m.outputs)
  pub long : length (names_of m.vars) ≡ length m.vars
  pub booleans : length (booleans_of m.vars) ≤ length (names_of m.vars)

has_names : (m : Model) → IsSound m → HasNames m
has_names m s =
    let split = all_split IsName (names_of m.vars) (map (λ (o : Output). o.name) m.outputs) s.names in
    let long : length (names_of m.vars) ≡ length m.vars = length_mapped (λ (v : FzVar). v.name) m.vars in
    record { vars = split.0; outputs = split.1; long = long; booleans = omega (arith, long, length_mapped (λ (v : FzVar). v.boolean) m.vars) }

whole_cuts : (m : Model) → IsSound m → Cuts (layout m) (all_tokens m) NoSpace
whole_cuts m s =
    let names : List (List ℕ) = names_of m.vars in
    let n : HasNames m = has_names m s in
    let booleans : List Truth = booleans_of m.vars in
    let calls_first : (rest : List ℕ) → NoSpace ((flat_map (call_line names) m.calls ++ goal_line names m.goal) ++ rest) =
    λ rest. subst NoSpace (sym (append_assoc (flat_map (call_line names) m.calls) (goal_line names m.goal) rest)) (lines_first (call_line names) (call_tokens names) (call_first names) m.calls (goal_line names m.goal ++ rest) refl) in
    let ends : List ℕ = flat_map (call_line names) m.calls ++ goal_line names m.goal in
    join (lines (var_line names) (var_tokens names) (var_first names) m.vars (vars_cut names n.vars [] m.vars (omega (arith, n.long)) n.vars s.vars))
    (join (lines (output_line names) (output_tokens names) (output_first names) m.outputs (outputs_cut names n.vars booleans n.booleans m.outputs n.outputs s.outputs))
    (join (lines (call_line names) (call_tokens names) (call_first names) m.calls (calls_cut names n.vars booleans n.booleans m.calls s.calls)) (goal_line_cuts names n.vars booleans m.goal n.booleans s.goal) (λ rest o. refl))
    (λ rest o. calls_first rest))
    (λ rest o.
    subst NoSpace (sym (append_assoc (flat_map (output_line names) m.outputs) ends rest)) (lines_first (output_line names) (output_tokens names) (output_first names) m.outputs (ends ++ rest) (calls_first rest)))

pub tokens_are : (m : Model) → IsSound m → words (tokens_of (layout m)) ≡ all_tokens m
tokens_are m s =
    ap (λ bytes. words (tokens_of bytes)) (sym (append-nil (layout m))) ∙ (whole_cuts m s).cuts [] refl ∙ append-nil (all_tokens m)

pub reads_as_tree : ReadsAsTree
reads_as_tree m s =
    let names : List (List ℕ) = names_of m.vars in
    let n : HasNames m = has_names m s in
    let booleans : List Truth = booleans_of m.vars in
    let a : List Token = flat_map (var_tokens names) m.vars in
    let b : List Token = flat_map (output_tokens names) m.outputs in
    let c : List Token = flat_map (call_tokens names) m.calls in
    let d : List Token = solve_tokens names m.goal in
    let grouped : a ++ (b ++ (c ++ d)) ≡ (a ++ (b ++ c)) ++ d = ap (λ z. a ++ z) (sym (append_assoc b c d)) ∙ sym (append_assoc a (b ++ c) d) in
    let items : List Item = map (var_item names) m.vars ++ (map (output_item names) m.outputs ++ map (call_item names) m.calls) in
    let rising : AreItems items (a ++ (b ++ c)) =
    vars_rise names m.vars (map (output_item names) m.outputs ++ map (call_item names) m.calls) (b ++ c) (vars_plain names n.vars [] m.vars (omega (arith, n.long)) s.vars)
    (outputs_rise names m.outputs (map (call_item names) m.calls) c (outputs_plain names n.vars booleans n.booleans m.outputs s.outputs)
    (λ before low. calls_rise names m.calls before (calls_plain names n.vars booleans n.booleans m.calls s.calls)))
    0 refl in
    subst (IsModel (tree_of m)) (sym (tokens_are m s ∙ grouped))
    (record { a = items; us = a ++ (b ++ c); vs = d; first = rising; second = record { a = solve [] (goal_of names m.goal); us = d; vs = []; first = goal_spelt names m.goal; second = (refl, refl); is = sym (append-nil d) }; is = refl })

pub has_items : HasItems
has_items m s = placed (tree_of m) (layout m) (reads_as_tree m s)
