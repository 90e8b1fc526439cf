-- The tokens of an item spell it by the grammar.
use Rattle.std.proofs.Common.{◌≡◌, inl, inr, ℕ, ◌<◌, Bool as Truth, true, false, Option, Some, None, List, [], ◌∷◌, ◌++◌, length, map, refl, ap, sym, subst, ◌∙◌, arith, append_assoc, append-nil, codes}
use Rattle.std.specs.Prelude.{nat_le}
use Rattle.std.specs.List.{list_all, flat_map}
use Rattle.std.specs.Fmt.{decimal}
use Rattle.std.proofs.lemmas.Bool.{and_parts}
use Rattle.xf_num.specs.Span.{Bounds}
use Rattle.fz_model.specs.declared.model.Arg.{Arg}
use Rattle.fz_model.specs.declared.model.Call.{Call}
use Rattle.fz_model.specs.declared.model.FzVar.{FzVar}
use Rattle.fz_model.specs.declared.model.Goal as flat
use Rattle.fz_model.specs.declared.model.Goal.TheVariants as goal
use Rattle.fz_model.specs.declared.model.Output.{Output}
use Rattle.fz_file.specs.Layout.{name_at, numbers, integers_of}
use Rattle.fz_tokens.specs.Tokens.{Token}
use Rattle.fz_grammar.specs.Parts.{key, After, Many, Items, Spelt}
use Rattle.fz_grammar.specs.Expressions.{flat as tokens, is_plain, listed, behind, number, name as name_token}
use Rattle.fz_grammar.specs.Items.{IsNote, IsVarType, IsValue, IsAccess, IsGoal, IsSolve, IsItem, note, solve}
use Rattle.fz_grammar.specs.declared.tree.Expr.{Expr}
use Rattle.fz_grammar.specs.declared.tree.Expr.TheVariants as expr
use Rattle.fz_grammar.specs.declared.tree.Access.TheVariants as access
use Rattle.fz_grammar.proofs.Flats.{flat-List}
use Rattle.fz_grammar.proofs.Lists.{spelt_closed}
use Rattle.fz_again.specs.Tree.{expr_of, value_of, range_of, type_of, member_type, shown_notes, output_notes, var_item, output_item, call_item, goal_of}
use Rattle.fz_again.proofs.Lines.{type_tokens, shown_tokens, value_tokens, var_tokens, member_tokens, dims_tokens, members_tokens, output_tokens, call_tokens, goal_tokens, solve_tokens}

pub length_mapped : {A B : Type 0} (f : A → B) (xs : List A) → length (map f xs) ≡ length xs
length_mapped f [] = refl
length_mapped f (x ∷ xs) = omega (arith, length_mapped f xs)

-- lists with commas

module _ {X : Type 0} (P : X → Truth) (f : X → List Token) where
  many : (ys : List X) → list_all P ys ≡ true → Many (After (codes ",") (Spelt P f)) ys (behind (map f ys))
  many [] h = refl
  many (y ∷ ys) h =
      let parts = and_parts (P y) (list_all P ys) h in
      record { us = key (codes ",") ∷ f y; vs = behind (map f ys); first = (refl, (parts.0, refl)); second = many ys parts.1; is = refl }

  pub spelt_items : (xs : List X) → 0 < length xs → list_all P xs ≡ true → Items (Spelt P f) xs (listed (map f xs))
  spelt_items [] some h = absurd (omega arith)
  spelt_items (x ∷ xs) some h =
      let parts = and_parts (P x) (list_all P xs) h in
      record {
        a = x;
        us = f x;
        vs = behind (map f xs);
        first = (parts.0, refl);
        second = record { a = xs; us = behind (map f xs); vs = []; first = many xs parts.1; second = (refl, refl); is = sym (append-nil (behind (map f xs))) };
        is = refl;
      }

-- types

all_numbers : (ns : List (List ℕ)) → list_all (λ n. true) ns ≡ true
all_numbers [] = refl
all_numbers (n ∷ ns) = all_numbers ns

type_spelt : (boolean : Truth) (domain : List Bounds) → 0 < length domain → IsVarType (type_of boolean domain) (type_tokens boolean domain)
type_spelt true domain some = inl (refl, (refl, refl))
type_spelt false [] some = absurd (omega arith)
type_spelt false (b ∷ []) some = inr (inr (inr (refl, (refl, (refl, (refl, refl))))))
type_spelt false (b ∷ c ∷ bs) some =
    let ns : List (List ℕ) = numbers (integers_of b ++ flat_map integers_of (c ∷ bs)) in
    let ts : List Token = listed (map (λ n. number n ∷ []) ns) ++ key (codes "}") ∷ [] in
    inr (inr (inl (
      refl,
      record {
        a = ns;
        us = ts;
        vs = [];
        first = spelt_closed (λ (n : List ℕ). true) (λ n. number n ∷ []) (codes "}") ns ts (all_numbers ns, refl);
        second = (refl, refl);
        is = sym (append-nil ts);
      },
    )))

-- annotations

shown_spelt : (shown : Truth) → Many IsNote (shown_notes shown) (shown_tokens shown)
shown_spelt true = record { us = shown_tokens true; vs = []; first = (refl, (refl, inr (refl, refl))); second = refl; is = refl }
shown_spelt false = refl

-- values

abbrev pub IsPlainValue : List (List ℕ) → Option Arg → Type 0
IsPlainValue names None = Unit {0}
IsPlainValue names (Some a) = is_plain (expr_of names a) ≡ true

value_spelt : (names : List (List ℕ)) (equal : Option Arg) → IsPlainValue names equal → IsValue (value_of names equal) (value_tokens names equal)
value_spelt names None h = inr (refl, refl)
value_spelt names (Some a) h = inl (refl, record { a = expr_of names a; us = tokens (expr_of names a); vs = []; first = (h, refl); second = (refl, refl); is = sym (append-nil (tokens (expr_of names a))) })

-- variables

pub var_spelt : (names : List (List ℕ)) (v : FzVar) (before : ℕ) → nat_le before 2 ≡ true → 0 < length v.domain → IsPlainValue names v.equal → IsItem before (var_item names v) (var_tokens names v)
var_spelt names v before low some plain =
    let notes : List Token = shown_tokens v.shown in
    let value : List Token = value_tokens names v.equal in
    inr (inr (inr (inr (inl (
      low,
      (
        refl,
        record {
          a = type_of v.boolean v.domain;
          us = type_tokens v.boolean v.domain;
          vs = key (codes ":") ∷ name_token v.name ∷ (notes ++ (value ++ key (codes ";") ∷ []));
          first = type_spelt v.boolean v.domain some;
          second = (
            refl,
            (
              refl,
              record {
                a = shown_notes v.shown;
                us = notes;
                vs = value ++ key (codes ";") ∷ [];
                first = shown_spelt v.shown;
                second = record { a = value_of names v.equal; us = value; vs = key (codes ";") ∷ []; first = value_spelt names v.equal plain; second = (refl, (refl, refl)); is = refl };
                is = refl;
              },
            ),
          );
          is = refl;
        },
      ),
    )))))

-- output arrays

member_spelt : (boolean : Truth) → IsVarType (member_type boolean) (member_tokens boolean)
member_spelt true = inl (refl, (refl, refl))
member_spelt false = inr (inl (refl, (refl, refl)))

note_spelt : (dims : List Bounds) → is_plain (expr.List (map range_of dims)) ≡ true → IsNote (note (codes "output_array") (Some (expr.List (map range_of dims) ∷ []))) (key (codes "::") ∷ name_token (codes "output_array") ∷ key (codes "(") ∷ (tokens (expr.List (map range_of dims)) ++ key (codes ")") ∷ []))
note_spelt dims plain =
    let x : Expr = expr.List (map range_of dims) in
    let ts : List Token = (tokens x ++ []) ++ key (codes ")") ∷ [] in
    let same : tokens x ++ key (codes ")") ∷ [] ≡ ts = ap (λ z. z ++ key (codes ")") ∷ []) (sym (append-nil (tokens x))) in
    subst (λ (z : List Token). IsNote (note (codes "output_array") (Some (x ∷ []))) (key (codes "::") ∷ name_token (codes "output_array") ∷ key (codes "(") ∷ z)) (sym same) (
      refl,
      (
        refl,
        inl (
          refl,
          record {
            a = x ∷ [];
            us = ts;
            vs = [];
            first = spelt_closed (λ (y : Expr). true) tokens (codes ")") (x ∷ []) ts (refl, refl);
            second = (refl, refl);
            is = sym (append-nil ts);
          },
        ),
      ),
    )

-- the tokens of a list
list_flat : (xs : List Expr) (rest : List Token) → tokens (expr.List xs) ++ rest ≡ key (codes "[") ∷ (listed (map tokens xs) ++ (key (codes "]") ∷ rest))
list_flat xs rest = ap (λ z. z ++ rest) (flat-List xs) ∙ ap (λ z. key (codes "[") ∷ z) (append_assoc (listed (map tokens xs)) (key (codes "]") ∷ []) rest)

pub output_spelt : (names : List (List ℕ)) (o : Output) (before : ℕ) → nat_le before 2 ≡ true → is_plain (expr.List (map range_of o.dims)) ≡ true → is_plain (expr.List (map (expr_of names) o.members)) ≡ true → IsItem before (output_item names o) (output_tokens names o)
output_spelt names o before low dims members =
    let d : Expr = expr.List (map range_of o.dims) in
    let m : Expr = expr.List (map (expr_of names) o.members) in
    let note_is : List Token = key (codes "::") ∷ name_token (codes "output_array") ∷ key (codes "(") ∷ (tokens d ++ key (codes ")") ∷ []) in
    let last : List Token = key (codes "=") ∷ (tokens m ++ key (codes ";") ∷ []) in
    let typed : List Token = key (codes ":") ∷ name_token o.name ∷ (note_is ++ last) in
    let whole : List Token =
    key (codes "array") ∷ key (codes "[") ∷ number (codes "1") ∷ key (codes "..") ∷ number (decimal (length o.members)) ∷ key (codes "]") ∷ key (codes "of") ∷ key (codes "var") ∷ (member_tokens o.boolean ++ typed) in
    let close : List Token = key (codes "=") ∷ key (codes "[") ∷ (members_tokens names o.members ++ key (codes "]") ∷ key (codes ";") ∷ []) in
    let last_is : last ≡ close = ap (λ z. key (codes "=") ∷ z) (list_flat (map (expr_of names) o.members) (key (codes ";") ∷ [])) in
    let note_end : note_is ++ last ≡ key (codes "::") ∷ name_token (codes "output_array") ∷ key (codes "(") ∷ key (codes "[") ∷ (dims_tokens o.dims ++ (key (codes "]") ∷ key (codes ")") ∷ close)) =
    ap (λ z. key (codes "::") ∷ name_token (codes "output_array") ∷ key (codes "(") ∷ z) (append_assoc (tokens d) (key (codes ")") ∷ []) last ∙ ap (λ z. tokens d ++ key (codes ")") ∷ z) last_is ∙ list_flat (map range_of o.dims) (key (codes ")") ∷ close)) in
    let is : whole ≡ output_tokens names o =
    ap (λ z. key (codes "array") ∷ key (codes "[") ∷ number (codes "1") ∷ key (codes "..") ∷ number (decimal (length o.members)) ∷ key (codes "]") ∷ key (codes "of") ∷ key (codes "var") ∷ (member_tokens o.boolean ++ (key (codes ":") ∷ name_token o.name ∷ z))) note_end in
    subst (IsItem before (output_item names o)) is
    (inr (inr (inr (inr (inr (inl (
      low,
      (
        refl,
        (
          refl,
          (
            refl,
            (
              refl,
              (
                refl,
                (
                  refl,
                  (
                    refl,
                    inr (inr (
                      refl,
                      record {
                        a = member_type o.boolean;
                        us = member_tokens o.boolean;
                        vs = typed;
                        first = member_spelt o.boolean;
                        second = (
                          refl,
                          (
                            refl,
                            record {
                              a = output_notes o.dims;
                              us = note_is;
                              vs = last;
                              first = record { us = note_is; vs = []; first = note_spelt o.dims dims; second = refl; is = sym (append-nil note_is) };
                              second = (refl, record { a = m; us = tokens m; vs = key (codes ";") ∷ []; first = (members, refl); second = (refl, (refl, refl)); is = refl });
                              is = refl;
                            },
                          ),
                        );
                        is = refl;
                      },
                    )),
                  ),
                ),
              ),
            ),
          ),
        ),
      ),
    )))))))

-- calls

pub call_spelt : (names : List (List ℕ)) (c : Call) (before : ℕ) → 0 < length c.args → list_all is_plain (map (expr_of names) c.args) ≡ true → IsItem before (call_item names c) (call_tokens names c)
call_spelt names c before some plain =
    let xs : List Expr = map (expr_of names) c.args in
    inr (inr (inr (inr (inr (inr (
      refl,
      (
        refl,
        (
          refl,
          record {
            a = xs;
            us = listed (map tokens xs);
            vs = key (codes ")") ∷ key (codes ";") ∷ [];
            first = spelt_items is_plain tokens xs (subst (λ n. 0 < n) (sym (length_mapped (expr_of names) c.args)) some) plain;
            second = (refl, record { a = []; us = []; vs = key (codes ";") ∷ []; first = refl; second = (refl, (refl, refl)); is = refl });
            is = refl;
          },
        ),
      ),
    ))))))

-- the goal

pub goal_spelt : (names : List (List ℕ)) (g : flat.Goal) → IsSolve (solve [] (goal_of names g)) (solve_tokens names g)
goal_spelt names g =
    (refl, record { a = []; us = []; vs = goal_tokens names g ++ key (codes ";") ∷ []; first = refl; second = record { a = goal_of names g; us = goal_tokens names g; vs = key (codes ";") ∷ []; first = kind g; second = (refl, (refl, refl)); is = refl }; is = refl })
  where
    named : (w : List ℕ) → IsAccess (access.Name w) (name_token w ∷ [])
    named w = (refl, inr (refl, refl))

    kind : (h : flat.Goal) → IsGoal (goal_of names h) (goal_tokens names h)
    kind goal.Satisfy = inl (refl, (refl, refl))
    kind (goal.Minimize k) = inr (inl (refl, record { a = access.Name (name_at names k); us = name_token (name_at names k) ∷ []; vs = []; first = named (name_at names k); second = (refl, refl); is = refl }))
    kind (goal.Maximize k) = inr (inr (refl, record { a = access.Name (name_at names k); us = name_token (name_at names k) ∷ []; vs = []; first = named (name_at names k); second = (refl, refl); is = refl }))
