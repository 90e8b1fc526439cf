-- Calls that speak of the variables of a model have the same text where only the first names are given: a name past
-- these is that of an auxiliary.
use Rattle.std.proofs.Common.{◌≡◌, ◌⊎◌, ⊎_elim, ℕ, zero, suc, ◌+◌, ◌-◌, ◌<◌, ◌≤◌, List, [], ◌∷◌, ◌++◌, length, map, get_or, refl, ap, sym, ◌∙◌, arith, codes}
use Rattle.std.specs.List.{flat_map}
use Rattle.std.specs.Fmt.{decimal}
use Rattle.std.proofs.lemmas.Bool.{lt-ltb, le-ltb}
use Rattle.std.proofs.lemmas.List.{map-append, get_or_append_left, get_or-append_right, length-append}
use Rattle.fz_model.specs.declared.model.Arg.{Arg, out-Arg, roll-out-Arg, fold-roll-Arg, map-Arg}
use Rattle.fz_model.specs.declared.model.Arg.TheOpen.{Arg-F, Int, Bool, Var, Range, Set, List as Listed}
use Rattle.fz_model.specs.declared.model.Call.{Call}
use Rattle.fz_model.specs.declared.model.FzVar.{FzVar}
use Rattle.fz_model.specs.Fixing.{IsItemBefore, AreItemsBefore, IsBeforeOf, IsBefore, AreBefore}
use Rattle.fz_file.specs.Layout.{arg_text, arg_step, listed, name_at, names_of, call_head, call_line}
use Rattle.lo_base.specs.Item.{Item, Ranged, Boolean, Posted, made}
use Rattle.lo_base.specs.Before.{AreCallsBefore}
use Rattle.lo_base.specs.Lowered.{vars_of}
use Rattle.lo_base.specs.Held.{length-vars_of}

-- two lists give the variables before k the same names
abbrev pub NameAlike : ℕ → List (List ℕ) → List (List ℕ) → Type 0
NameAlike k ms ns = (j : ℕ) → j < k → name_at ms j ≡ name_at ns j

module _ (k : ℕ) (ms ns : List (List ℕ)) (alike : NameAlike k ms ns) where
  text_out : (names : List (List ℕ)) (a : Arg) → arg_text names a ≡ arg_step names (map-Arg Arg (List ℕ) (arg_text names) (out-Arg a))
  text_out names a = ap (arg_text names) (sym (roll-out-Arg a)) ∙ fold-roll-Arg (List ℕ) (arg_step names) (out-Arg a)

  item_layer : (l : Arg-F Arg) → IsItemBefore k l → arg_step ms (map-Arg Arg (List ℕ) (arg_text ms) l) ≡ arg_step ns (map-Arg Arg (List ℕ) (arg_text ns) l)
  item_layer (Int z) h = refl
  item_layer (Bool t) h = refl
  item_layer (Var v) h = alike v h
  item_layer (Range s) h = refl
  item_layer (Set s) h = refl
  item_layer (Listed xs) h = absurd h

  item_texts : (xs : List Arg) → AreItemsBefore k xs → map (arg_text ms) xs ≡ map (arg_text ns) xs
  item_texts [] h = refl
  item_texts (x ∷ xs) h =
      ap (λ t. t ∷ map (arg_text ms) xs) (text_out ms x ∙ item_layer (out-Arg x) h.0 ∙ sym (text_out ns x))
      ∙ ap (λ ts. arg_text ns x ∷ ts) (item_texts xs h.1)

  layer : (l : Arg-F Arg) → IsBeforeOf k l → arg_step ms (map-Arg Arg (List ℕ) (arg_text ms) l) ≡ arg_step ns (map-Arg Arg (List ℕ) (arg_text ns) l)
  layer (Int z) h = refl
  layer (Bool t) h = refl
  layer (Var v) h = alike v h
  layer (Range s) h = refl
  layer (Set s) h = refl
  layer (Listed xs) h = ap (λ ts. codes "[" ++ (listed ts ++ codes "]")) (item_texts xs h)

  arg_alike : (a : Arg) → IsBefore k a → arg_text ms a ≡ arg_text ns a
  unfolding IsBefore
  arg_alike a h = text_out ms a ∙ layer (out-Arg a) h ∙ sym (text_out ns a)

  args_alike : (xs : List Arg) → AreBefore k xs → map (arg_text ms) xs ≡ map (arg_text ns) xs
  args_alike [] h = refl
  args_alike (x ∷ xs) h = ap (λ t. t ∷ map (arg_text ms) xs) (arg_alike x h.0) ∙ ap (λ ts. arg_text ns x ∷ ts) (args_alike xs h.1)

  pub calls_alike : (calls : List Call) → AreCallsBefore k calls → flat_map (call_line ms) calls ≡ flat_map (call_line ns) calls
  calls_alike [] h = refl
  calls_alike (c ∷ cs) h =
      ap (λ ts. (call_head c.builtin ++ (codes "(" ++ (listed ts ++ codes ");\n"))) ++ flat_map (call_line ms) cs) (args_alike c.args h.0)
      ∙ ap (λ bs. call_line ns c ++ bs) (calls_alike cs h.1)

auxiliary_name : (k : ℕ) (xs : List Item) (j : ℕ) → j < made xs → get_or (names_of (vars_of k xs)) j [] ≡ codes "a_" ++ decimal (k + j)
auxiliary_name k [] j lt = absurd (omega arith)
auxiliary_name k (Ranged lo hi ∷ xs) zero lt = let e : k ≡ k + zero = omega arith in ap (λ n. codes "a_" ++ decimal n) e
auxiliary_name k (Ranged lo hi ∷ xs) (suc j) lt = let e : k + 1 + j ≡ k + suc j = omega arith in auxiliary_name (k + 1) xs j (omega arith) ∙ ap (λ n. codes "a_" ++ decimal n) e
auxiliary_name k (Boolean ∷ xs) zero lt = let e : k ≡ k + zero = omega arith in ap (λ n. codes "a_" ++ decimal n) e
auxiliary_name k (Boolean ∷ xs) (suc j) lt = let e : k + 1 + j ≡ k + suc j = omega arith in auxiliary_name (k + 1) xs j (omega arith) ∙ ap (λ n. codes "a_" ++ decimal n) e
auxiliary_name k (Posted call ∷ xs) j lt = auxiliary_name k xs j (omega arith)

length-names : (vs : List FzVar) → length (names_of vs) ≡ length vs
length-names [] = refl
length-names (v ∷ vs) = omega (arith, length-names vs)

-- the name that a list gives
named_in : (names : List (List ℕ)) (j : ℕ) → j < length names → name_at names j ≡ get_or names j []
named_in names j lt = let t = lt-ltb j (length names) lt in rw t refl

named_past : (names : List (List ℕ)) (j : ℕ) → length names ≤ j → name_at names j ≡ codes "a_" ++ decimal (j - length names)
named_past names j le = let t = le-ltb j (length names) le in rw t refl

either_side : (j n : ℕ) → (j < n) ⊎ (n ≤ j)
either_side j n = grind arith

-- past the named variables the items' variables have the names that are given there
pub names_alike : (vs : List FzVar) (xs : List Item) → NameAlike (length vs + made xs) (names_of (vs ++ vars_of 0 xs)) (names_of vs)
names_alike vs xs j lt =
    let front : List (List ℕ) = names_of vs in
    let back : List (List ℕ) = names_of (vars_of 0 xs) in
    let n : ℕ = length vs in
    let split : names_of (vs ++ vars_of 0 xs) ≡ front ++ back = map-append (λ (v : FzVar). v.name) vs (vars_of 0 xs) in
    let long : length (front ++ back) ≡ n + made xs = length-append front back ∙ ap (λ m. m + length back) (length-names vs) ∙ ap (λ m. n + m) (length-names (vars_of 0 xs) ∙ length-vars_of 0 xs) in
    let here : name_at (front ++ back) j ≡ get_or (front ++ back) j [] = named_in (front ++ back) j (omega (arith, long)) in
    ap (λ names. name_at names j) split ∙ here ∙
    ⊎_elim
    (λ l. get_or_append_left front back [] j (omega (arith, length-names vs)) ∙ sym (named_in front j (omega (arith, length-names vs))))
    (λ g. get_or-append_right front back n j [] (length-names vs) g
    ∙ auxiliary_name 0 xs (j - n) (omega arith)
    ∙ ap (λ m. codes "a_" ++ decimal m) (omega (arith, length-names vs))
    ∙ sym (named_past front j (omega (arith, length-names vs))))
    (either_side j n)
