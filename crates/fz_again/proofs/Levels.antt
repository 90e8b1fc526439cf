-- What is written of a sound model opens few levels.
use Rattle.std.proofs.Common.{◌≡◌, ℕ, ◌+◌, ◌≤◌, Bool as Truth, true, false, Option, Some, None, List, [], ◌∷◌, ◌++◌, length, map, codes, refl, ap, sym, subst, ◌∙◌, arith, if◌then◌else◌}
use Rattle.std.specs.List.{AllByRecursion, flat_map}
use Rattle.std.specs.Fmt.{signed_decimal}
use Rattle.xf_num.specs.Span.{Bounds}
use Rattle.fz_model.specs.declared.kind.Asked.{Asked}
use Rattle.fz_model.specs.declared.kind.Asked.TheVariants as asked
use Rattle.fz_model.specs.declared.kind.Kind.{Kind}
use Rattle.fz_model.specs.declared.kind.Kind.TheVariants as kind
use Rattle.fz_model.specs.declared.model.Arg.{Arg, out-Arg, map-Arg}
use Rattle.fz_model.specs.declared.model.Arg.TheOpen.{Arg-F, Int, Bool, Var, Range, Set, List as Listed}
use Rattle.fz_model.specs.declared.model.Call.{Call}
use Rattle.fz_model.specs.declared.model.FzVar.{FzVar}
use Rattle.fz_model.specs.declared.model.Goal as flat
use Rattle.fz_model.specs.declared.model.Goal.TheVariants as goal
use Rattle.fz_model.specs.declared.model.Model.{Model}
use Rattle.fz_model.specs.declared.model.Output.{Output}
use Rattle.fz_model.specs.Kinds.{kinds_at}
use Rattle.fz_model.specs.Sound.{IsSingle, AreSingles, IsOfKind, AreOfKinds, IsEqualTo, AreVars, IsOutput, IsCall, IsSound, asked_of, booleans_of}
use Rattle.fz_file.specs.Layout.{name_at, names_of, numbers, integers_of, layout}
use Rattle.fz_tokens.specs.Tokens.{Token, tokens_of}
use Rattle.fz_grammar.specs.Levels.{levels, moved, level, AreLow, words}
use Rattle.fz_grammar.specs.Parts.{key}
use Rattle.fz_grammar.specs.Expressions.{flat as tokens, listed, behind, number, name as name_token}
use Rattle.fz_grammar.specs.declared.tree.Expr.{Expr}
use Rattle.fz_grammar.specs.declared.tree.Expr.TheVariants as expr
use Rattle.fz_grammar.proofs.Flats.{flat-Bool, flat-Int, flat-Range, flat-Set, flat-Name, flat-List}
use Rattle.fz_again.specs.Tree.{expr_step, expr_of, range_of}
use Rattle.fz_again.proofs.Lines.{type_tokens, shown_tokens, value_tokens, var_tokens, member_tokens, dims_tokens, members_tokens, output_tokens, call_tokens, goal_tokens, solve_tokens}
use Rattle.fz_again.proofs.Values.{expr_out}
use Rattle.fz_again.proofs.Whole.{tokens_are}

low_append : (k : ℕ) (a b : List Token) → AreLow k a → AreLow (level k a) b → AreLow k (a ++ b)
low_append k [] b h g = g
low_append k (t ∷ ts) b h g = (h.0, low_append (moved k t) ts b h.1 g)

level_append : (k : ℕ) (a b : List Token) → level k (a ++ b) ≡ level (level k a) b
level_append k [] b = refl
level_append k (t ∷ ts) b = level_append (moved k t) ts b

-- each bracket of the tokens is closed, and no more than n are open in them
record Runs (n : ℕ) (ts : List Token) : Type 0 where
  pub low : (k : ℕ) → k + n ≤ levels → AreLow k ts
  pub back : (k : ℕ) → level k ts ≡ k

empty : (n : ℕ) → Runs n []
empty n = record { low = λ k le. tt; back = λ k. refl }

plain : (t : Token) → ((k : ℕ) → moved k t ≡ k) → Runs 0 (t ∷ [])
plain t f = record { low = λ k le. (omega (arith, f k, le), tt); back = f }

both : (n : ℕ) (a b : List Token) → Runs n a → Runs n b → Runs n (a ++ b)
both n a b f g = record {
  low = λ k le. low_append k a b (f.low k le) (subst (λ (j : ℕ). AreLow j b) (sym (f.back k)) (g.low k le));
  back = λ k. level_append k a b ∙ (ap (λ j. level j b) (f.back k) ∙ g.back k);
}

deeper : (n m : ℕ) (a : List Token) → n ≤ m → Runs n a → Runs m a
deeper n m a le f = record { low = λ k h. f.low k (omega (arith, le, h)); back = f.back }

in_square : (n : ℕ) (a : List Token) → Runs n a → Runs (n + 1) (key (codes "[") ∷ (a ++ key (codes "]") ∷ []))
in_square n a f = record {
  low = λ k le. (omega (arith, le), low_append (k + 1) a (key (codes "]") ∷ []) (f.low (k + 1) (omega (arith, le))) (subst (λ (j : ℕ). AreLow j (key (codes "]") ∷ [])) (sym (f.back (k + 1))) (omega (arith, le), tt)));
  back = λ k. level_append (k + 1) a (key (codes "]") ∷ []) ∙ (ap (λ j. level j (key (codes "]") ∷ [])) (f.back (k + 1)) ∙ omega arith);
}

behind_runs : (n : ℕ) (tss : List (List Token)) → AllByRecursion (Runs n) tss → Runs n (behind tss)
behind_runs n [] h = empty n
behind_runs n (ts ∷ tss) h =
    both n (key (codes ",") ∷ []) (ts ++ behind tss) (deeper 0 n (key (codes ",") ∷ []) (omega arith) (plain (key (codes ",")) (λ k. refl))) (both n ts (behind tss) h.0 (behind_runs n tss h.1))

listed_runs : (n : ℕ) (tss : List (List Token)) → AllByRecursion (Runs n) tss → Runs n (listed tss)
listed_runs n [] h = empty n
listed_runs n (ts ∷ tss) h = both n ts (behind tss) h.0 (behind_runs n tss h.1)

number_runs : (w : List ℕ) → Runs 0 (number w ∷ [])
number_runs w = plain (number w) (λ k. refl)

name_runs : (w : List ℕ) → Runs 0 (name_token w ∷ [])
name_runs w = plain (name_token w) (λ k. refl)

range_runs : (low high : List ℕ) → Runs 0 (number low ∷ key (codes "..") ∷ number high ∷ [])
range_runs low high = both 0 (number low ∷ []) (key (codes "..") ∷ number high ∷ []) (number_runs low) (both 0 (key (codes "..") ∷ []) (number high ∷ []) (plain (key (codes "..")) (λ k. refl)) (number_runs high))

all_numbers : (ns : List (List ℕ)) → AllByRecursion (Runs 0) (map (λ n. number n ∷ []) ns)
all_numbers [] = tt
all_numbers (n ∷ ns) = (number_runs n, all_numbers ns)

set_runs : (ns : List (List ℕ)) → Runs 0 (key (codes "{") ∷ (listed (map (λ n. number n ∷ []) ns) ++ key (codes "}") ∷ []))
set_runs ns =
    let inner : List Token = listed (map (λ n. number n ∷ []) ns) in
    both 0 (key (codes "{") ∷ []) (inner ++ key (codes "}") ∷ []) (plain (key (codes "{")) (λ k. refl))
    (both 0 inner (key (codes "}") ∷ []) (listed_runs 0 (map (λ n. number n ∷ []) ns) (all_numbers ns)) (plain (key (codes "}")) (λ k. refl)))

truth_runs : (t : Truth) → Runs 0 (key (if t then codes "true" else codes "false") ∷ [])
truth_runs true = plain (key (codes "true")) (λ k. refl)
truth_runs false = plain (key (codes "false")) (λ k. refl)

as_tokens : (n : ℕ) (ts us : List Token) → ts ≡ us → Runs n us → Runs n ts
as_tokens n ts us e h = subst (Runs n) (sym e) h

-- arguments

module _ (names : List (List ℕ)) (booleans : List Truth) where
  abbrev Layer : ℕ → Arg-F Arg → Type 0
  Layer n l = Runs n (tokens (expr_step names (map-Arg Arg Expr (expr_of names) l)))

  int_runs : (n : List ℕ) → Runs 0 (tokens (expr.Int n))
  int_runs n = as_tokens 0 _ _ (flat-Int n) (number_runs n)

  bool_runs : (t : Truth) → Runs 0 (tokens (expr.Bool t))
  bool_runs t = as_tokens 0 _ _ (flat-Bool t) (truth_runs t)

  var_runs : (w : List ℕ) → Runs 0 (tokens (expr.Name w))
  var_runs w = as_tokens 0 _ _ (flat-Name w) (name_runs w)

  one_layer : (a : Asked) (l : Arg-F Arg) → IsSingle booleans a l → Layer 0 l
  one_layer a (Int z) h = int_runs (signed_decimal z)
  one_layer a (Bool t) h = bool_runs t
  one_layer a (Var v) h = var_runs (name_at names v)
  one_layer asked.Int (Range s) h = absurd h
  one_layer asked.Bool (Range s) h = absurd h
  one_layer asked.IntConstant (Range s) h = absurd h
  one_layer asked.BoolConstant (Range s) h = absurd h
  one_layer asked.Int (Set zs) h = absurd h
  one_layer asked.Bool (Set zs) h = absurd h
  one_layer asked.IntConstant (Set zs) h = absurd h
  one_layer asked.BoolConstant (Set zs) h = absurd h
  one_layer asked.Int (Listed xs) h = absurd h
  one_layer asked.Bool (Listed xs) h = absurd h
  one_layer asked.IntConstant (Listed xs) h = absurd h
  one_layer asked.BoolConstant (Listed xs) h = absurd h

  by_layer : (n : ℕ) (y : Arg) → Layer n (out-Arg y) → Runs n (tokens (expr_of names y))
  by_layer n y h = subst (λ (x : Expr). Runs n (tokens x)) (sym (expr_out names y)) h

  one_runs : (a : Asked) (y : Arg) → IsSingle booleans a (out-Arg y) → Runs 0 (tokens (expr_of names y))
  one_runs a y h = by_layer 0 y (one_layer a (out-Arg y) h)

  ones_run : (a : Asked) (ys : List Arg) → AreSingles booleans a ys → AllByRecursion (Runs 0) (map tokens (map (expr_of names) ys))
  ones_run a [] h = tt
  ones_run a (y ∷ ys) h = (one_runs a y h.0, ones_run a ys h.1)

  kind_layer : (k : Kind) (l : Arg-F Arg) → IsOfKind booleans k l → Layer 1 l
  kind_layer (kind.One a) l h = deeper 0 1 (tokens (expr_step names (map-Arg Arg Expr (expr_of names) l))) (omega arith) (one_layer a l h)
  kind_layer (kind.Many a) (Int k) h = absurd h
  kind_layer (kind.Many a) (Bool t) h = absurd h
  kind_layer (kind.Many a) (Var v) h = absurd h
  kind_layer (kind.Many a) (Range s) h = absurd h
  kind_layer (kind.Many a) (Set zs) h = absurd h
  kind_layer (kind.Many a) (Listed ys) h =
      let inner : List Token = listed (map tokens (map (expr_of names) ys)) in
      as_tokens 1 _ _ (flat-List (map (expr_of names) ys)) (deeper (0 + 1) 1 (key (codes "[") ∷ (inner ++ key (codes "]") ∷ [])) (omega arith) (in_square 0 inner (listed_runs 0 (map tokens (map (expr_of names) ys)) (ones_run a ys h))))
  kind_layer kind.Set (Int k) h = absurd h
  kind_layer kind.Set (Bool t) h = absurd h
  kind_layer kind.Set (Var v) h = absurd h
  kind_layer kind.Set (Range s) h = deeper 0 1 _ (omega arith) (as_tokens 0 _ _ (flat-Range (signed_decimal s.lo) (signed_decimal s.hi)) (range_runs (signed_decimal s.lo) (signed_decimal s.hi)))
  kind_layer kind.Set (Set zs) h = deeper 0 1 _ (omega arith) (as_tokens 0 _ _ (flat-Set (numbers zs)) (set_runs (numbers zs)))
  kind_layer kind.Set (Listed xs) h = absurd h

  kinds_run : (ks : List Kind) (ys : List Arg) → AreOfKinds booleans ks ys → AllByRecursion (Runs 1) (map tokens (map (expr_of names) ys))
  kinds_run [] [] h = tt
  kinds_run [] (y ∷ ys) h = absurd h
  kinds_run (k ∷ ks) [] h = absurd h
  kinds_run (k ∷ ks) (y ∷ ys) h = (by_layer 1 y (kind_layer k (out-Arg y) h.0), kinds_run ks ys h.1)

-- from level k on no more than 200 are open, and behind the last token none
record Shuts (k : ℕ) (ts : List Token) : Type 0 where
  pub low : AreLow k ts
  pub ends : level k ts ≡ 0

shut : Shuts 0 []
shut = record { low = tt; ends = refl }

step : (k j : ℕ) (t : Token) (ts : List Token) → moved k t ≡ j → j ≤ levels → Shuts j ts → Shuts k (t ∷ ts)
step k j t ts e le h = record { low = (omega (arith, e, le), subst (λ (i : ℕ). AreLow i ts) (sym e) h.low); ends = ap (λ i. level i ts) e ∙ h.ends }

-- a token that opens and closes nothing
next : (k : ℕ) (t : Token) (ts : List Token) → moved k t ≡ k → k ≤ levels → Shuts k ts → Shuts k (t ∷ ts)
next k t ts e le h = step k k t ts e le h

run : (k n : ℕ) (a ts : List Token) → Runs n a → k + n ≤ levels → Shuts k ts → Shuts k (a ++ ts)
run k n a ts f le h = record { low = low_append k a ts (f.low k le) (subst (λ (j : ℕ). AreLow j ts) (sym (f.back k)) h.low); ends = level_append k a ts ∙ (ap (λ j. level j ts) (f.back k) ∙ h.ends) }

joined : (a b : List Token) → Shuts 0 a → Shuts 0 b → Shuts 0 (a ++ b)
joined a b f g = record { low = low_append 0 a b f.low (subst (λ (j : ℕ). AreLow j b) (sym f.ends) g.low); ends = level_append 0 a b ∙ (ap (λ j. level j b) f.ends ∙ g.ends) }

last : Shuts 0 (key (codes ";") ∷ [])
last = next 0 (key (codes ";")) [] refl (omega arith) shut

-- lines

type_runs : (boolean : Truth) (domain : List Bounds) → Runs 0 (type_tokens boolean domain)
type_runs true domain = plain (key (codes "bool")) (λ k. refl)
type_runs false [] = empty 0
type_runs false (b ∷ []) = range_runs (signed_decimal b.lo) (signed_decimal b.hi)
type_runs false (b ∷ c ∷ bs) = set_runs (numbers (integers_of b ++ flat_map integers_of (c ∷ bs)))

shown_runs : (shown : Truth) → Runs 0 (shown_tokens shown)
shown_runs true = both 0 (key (codes "::") ∷ []) (name_token (codes "output_var") ∷ []) (plain (key (codes "::")) (λ k. refl)) (name_runs (codes "output_var"))
shown_runs false = empty 0

member_runs : (boolean : Truth) → Runs 0 (member_tokens boolean)
member_runs true = plain (key (codes "bool")) (λ k. refl)
member_runs false = plain (key (codes "int")) (λ k. refl)

range_flat : (s : Bounds) → Runs 0 (tokens (range_of s))
range_flat s = as_tokens 0 _ _ (flat-Range (signed_decimal s.lo) (signed_decimal s.hi)) (range_runs (signed_decimal s.lo) (signed_decimal s.hi))

ranges_run : (ss : List Bounds) → AllByRecursion (Runs 0) (map tokens (map range_of ss))
ranges_run [] = tt
ranges_run (s ∷ ss) = (range_flat s, ranges_run ss)

module _ (names : List (List ℕ)) where
  value_runs : (booleans : List Truth) (a : Asked) (equal : Option Arg) → IsEqualTo booleans a equal → Runs 0 (value_tokens names equal)
  value_runs booleans a None h = empty 0
  value_runs booleans a (Some y) h = both 0 (key (codes "=") ∷ []) (tokens (expr_of names y)) (plain (key (codes "=")) (λ k. refl)) (one_runs names booleans a y h)

  var_shuts : (booleans : List Truth) (v : FzVar) → IsEqualTo booleans (asked_of v.boolean) v.equal → Shuts 0 (var_tokens names v)
  var_shuts booleans v h =
      next 0 _ _ refl (omega arith)
      (run 0 0 (type_tokens v.boolean v.domain) _ (type_runs v.boolean v.domain) (omega arith)
      (next 0 _ _ refl (omega arith)
      (next 0 _ _ refl (omega arith)
      (run 0 0 (shown_tokens v.shown) _ (shown_runs v.shown) (omega arith) (run 0 0 (value_tokens names v.equal) _ (value_runs booleans (asked_of v.boolean) v.equal h) (omega arith) last)))))

  vars_shut : (booleans : List Truth) (vs : List FzVar) → AreVars booleans vs → Shuts 0 (flat_map (var_tokens names) vs)
  vars_shut booleans [] h = shut
  vars_shut booleans (v ∷ vs) h = joined (var_tokens names v) (flat_map (var_tokens names) vs) (var_shuts booleans v h.0.equal) (vars_shut (booleans ++ v.boolean ∷ []) vs h.1)

  module _ (booleans : List Truth) where
    output_shuts : (o : Output) → IsOutput booleans o → Shuts 0 (output_tokens names o)
    output_shuts o h =
        let members : Runs 0 (members_tokens names o.members) = listed_runs 0 (map tokens (map (expr_of names) o.members)) (ones_run names booleans (asked_of o.boolean) o.members h.each) in
        let dims : Runs 0 (dims_tokens o.dims) = listed_runs 0 (map tokens (map range_of o.dims)) (ranges_run o.dims) in
        let close : Shuts 0 (key (codes "=") ∷ key (codes "[") ∷ (members_tokens names o.members ++ key (codes "]") ∷ key (codes ";") ∷ [])) =
        next 0 _ _ refl (omega arith) (step 0 1 _ _ refl (omega arith) (run 1 0 (members_tokens names o.members) _ members (omega arith) (step 1 0 _ _ refl (omega arith) last))) in
        let shown : Shuts 0 (key (codes "::") ∷ name_token (codes "output_array") ∷ key (codes "(") ∷ key (codes "[") ∷ (dims_tokens o.dims ++ (key (codes "]") ∷ key (codes ")") ∷ key (codes "=") ∷ key (codes "[") ∷ (members_tokens names o.members ++ key (codes "]") ∷ key (codes ";") ∷ [])))) =
        next 0 _ _ refl (omega arith) (next 0 _ _ refl (omega arith) (step 0 1 _ _ refl (omega arith) (step 1 2 _ _ refl (omega arith) (run 2 0 (dims_tokens o.dims) _ dims (omega arith) (step 2 1 _ _ refl (omega arith) (step 1 0 _ _ refl (omega arith) close)))))) in
        next 0 _ _ refl (omega arith)
        (step 0 1 _ _ refl (omega arith)
        (next 1 _ _ refl (omega arith)
        (next 1 _ _ refl (omega arith)
        (next 1 _ _ refl (omega arith)
        (step 1 0 _ _ refl (omega arith)
        (next 0 _ _ refl (omega arith)
        (next 0 _ _ refl (omega arith)
        (run 0 0 (member_tokens o.boolean) _ (member_runs o.boolean) (omega arith) (next 0 _ _ refl (omega arith) (next 0 _ _ refl (omega arith) shown))))))))))

    outputs_shut : (os : List Output) → AllByRecursion (IsOutput booleans) os → Shuts 0 (flat_map (output_tokens names) os)
    outputs_shut [] h = shut
    outputs_shut (o ∷ os) h = joined (output_tokens names o) (flat_map (output_tokens names) os) (output_shuts o h.0) (outputs_shut os h.1)

    call_shuts : (c : Call) → IsCall booleans c → Shuts 0 (call_tokens names c)
    call_shuts c h =
        let args : Runs 1 (members_tokens names c.args) = listed_runs 1 (map tokens (map (expr_of names) c.args)) (kinds_run names booleans (kinds_at c.builtin (length c.args)) c.args h.kinds) in
        next 0 _ _ refl (omega arith) (next 0 _ _ refl (omega arith) (step 0 1 _ _ refl (omega arith) (run 1 1 (members_tokens names c.args) _ args (omega arith) (step 1 0 _ _ refl (omega arith) last))))

    calls_shut : (cs : List Call) → AllByRecursion (IsCall booleans) cs → Shuts 0 (flat_map (call_tokens names) cs)
    calls_shut [] h = shut
    calls_shut (c ∷ cs) h = joined (call_tokens names c) (flat_map (call_tokens names) cs) (call_shuts c h.0) (calls_shut cs h.1)

  goal_runs : (g : flat.Goal) → Runs 0 (goal_tokens names g)
  goal_runs goal.Satisfy = plain (key (codes "satisfy")) (λ k. refl)
  goal_runs (goal.Minimize k) = both 0 (key (codes "minimize") ∷ []) (name_token (name_at names k) ∷ []) (plain (key (codes "minimize")) (λ j. refl)) (name_runs (name_at names k))
  goal_runs (goal.Maximize k) = both 0 (key (codes "maximize") ∷ []) (name_token (name_at names k) ∷ []) (plain (key (codes "maximize")) (λ j. refl)) (name_runs (name_at names k))

  solve_shuts : (g : flat.Goal) → Shuts 0 (solve_tokens names g)
  solve_shuts g = next 0 _ _ refl (omega arith) (run 0 0 (goal_tokens names g) _ (goal_runs g) (omega arith) last)

-- the tokens of a written model open no more than 200 levels
pub low_layout : (m : Model) → IsSound m → AreLow 0 (words (tokens_of (layout m)))
low_layout m s =
    let names : List (List ℕ) = names_of m.vars in
    let booleans : List Truth = booleans_of m.vars in
    let calls = joined (flat_map (call_tokens names) m.calls) (solve_tokens names m.goal) (calls_shut names booleans m.calls s.calls) (solve_shuts names m.goal) in
    let outputs = joined (flat_map (output_tokens names) m.outputs) (flat_map (call_tokens names) m.calls ++ solve_tokens names m.goal) (outputs_shut names booleans m.outputs s.outputs) calls in
    let all = joined (flat_map (var_tokens names) m.vars) (flat_map (output_tokens names) m.outputs ++ (flat_map (call_tokens names) m.calls ++ solve_tokens names m.goal)) (vars_shut names [] m.vars s.vars) outputs in
    subst (AreLow 0) (sym (tokens_are m s)) all.low
