-- An expression that misses nothing is well formed.
use Rattle.std.proofs.Common.{◌≡◌, ℕ, suc, ℤ, pos, negsuc, int_le, List, [], ◌∷◌, map, length, refl, sym, ap, subst, ◌∙◌, arith, rules, Bool, true, false, not, ◌&&◌, cond, Option, Some, None, All}
use Rattle.std.proofs.lemmas.Grind.{common_steps}
use Rattle.std.proofs.lemmas.List.Elements.{All-nil, All-cons}
use Rattle.xs_model.specs.Shape.{IsCount, IsShaped, is_set, is_set_layer}
use Rattle.xs_expr.specs.Shaped.{is_count, is_exponent, is_exponent_layer, are_no_sets as are_no_set_exprs, are_placed as are_placed_exprs}
use Rattle.xs_expr.specs.Words.{is_exponent_value}
use Rattle.xs_expr.proofs.Shapes.{count-is, placed-are, shaped-Int, shaped-Var, shaped-node}
use Rattle.xs_fields.specs.Cells.{variables_of}
use Rattle.xs_fields.specs.Conditions.{first_missed}
use Rattle.xs_fields.specs.Integers.{integer_of, is_small}
use Rattle.xs_fields.specs.declared.condition.Condition.{Condition}
use Rattle.xs_fields.specs.declared.condition.Condition.TheVariants.{Known, Nesting, Spelling, Magnitude}
use Rattle.xs_model.specs.Outline.{Outline}
use Rattle.xs_model.specs.declared.expr.Op.{Op}
use Rattle.xs_model.specs.declared.expr.Op.TheVariants.{Neg, Abs, Sqr, Add, Mul, Sub, Dist, Div, Mod, Pow, Min, Max, Lt, Le, Gt, Ge, Ne, Eq, Set, In, NotIn, Not, And, Or, Xor, Iff, Imp, If}
use Rattle.xs_model.specs.declared.expr.Expr.{Expr, Int, Var, Node, out-Expr, out-roll-Expr}
use Rattle.xs_model.specs.declared.expr.Expr.TheVariants.{rolls-Int, rolls-Var, rolls-Node}
use Rattle.xs_model.specs.declared.expr.Expr.TheOpen.{Expr-F}
use Rattle.xs_notation.specs.Forms.{Form, form, form_step, are_formed, are_no_sets, are_placed, is_expression}
use Rattle.xs_notation.specs.Reading.{expr_of, tree_meets, words_meet}
use Rattle.xs_notation.specs.Terms.{settled, term_by, term_in, term_meets_by, term_of, variable_in}
use Rattle.xs_notation.specs.declared.raw.Raw.{Raw, Word, Call, the_lemmas, roll-Raw, map-Raw, ind-Raw}
use Rattle.xs_notation.specs.declared.raw.Raw.TheVariants.{rolls-Word, rolls-Call}
use Rattle.xs_notation.specs.declared.raw.Raw.TheOpen.{Raw-F}

both-left : (a b : Bool) → (a && b) ≡ true → a ≡ true
both-left true b h = refl
both-left false b h = cc

both-right : (a b : Bool) → (a && b) ≡ true → b ≡ true
both-right true b h = h
both-right false b h = cc

-- an expression without operands
pub out-Int : (z : ℤ) → out-Expr (Int z) ≡ Expr-F.Int z
out-Int z = ap out-Expr (sym (rolls-Int z)) ∙ out-roll-Expr (Expr-F.Int z)

pub out-Var : (v : ℕ) → out-Expr (Var v) ≡ Expr-F.Var v
out-Var v = ap out-Expr (sym (rolls-Var v)) ∙ out-roll-Expr (Expr-F.Var v)

pub out-Node : (op : Op) (es : List Expr) → out-Expr (Node op es) ≡ Expr-F.Node op es
out-Node op es = ap out-Expr (sym (rolls-Node op es)) ∙ out-roll-Expr (Expr-F.Node op es)

record IsLeaf (e : Expr) : Type 0 where
  set : is_set e ≡ false
  shaped : IsShaped e

leaf-Int : (z : ℤ) → IsLeaf (Int z)
leaf-Int z = record { set = ap is_set_layer (out-Int z); shaped = subst IsShaped (rolls-Int z) (shaped-Int z) }

leaf-Var : (v : ℕ) → IsLeaf (Var v)
leaf-Var v = record { set = ap is_set_layer (out-Var v); shaped = subst IsShaped (rolls-Var v) (shaped-Var v) }

leaf-in : (vs : List ℕ) → IsLeaf (variable_in vs)
leaf-in [] = leaf-Int (pos 0)
leaf-in (v ∷ vs) = leaf-Var v

leaf-term : (os : List Outline) (w : List ℕ) (o : Option Condition) (i : Option ℤ) → IsLeaf (term_in (settled o (term_by os w i)))
leaf-term os w (Some k) i = leaf-Int (pos 0)
leaf-term os w None (Some z) = leaf-Int z
leaf-term os w None None = leaf-in (variables_of os w)

-- what is past the greatest magnitude is no exponent
great : (y : ℤ) → is_small y ≡ false → (int_le (pos 1) y && int_le y (pos 64)) ≡ false
great (pos n) h = grind (arith, common_steps)
great (negsuc n) h = refl

exponent-term : (os : List Outline) (w : List ℕ) (i : Option ℤ) → is_exponent_value i ≡ true → is_exponent (term_in (settled (first_missed (term_meets_by os w i)) (term_by os w i))) ≡ true
exponent-term os w None h = cc
exponent-term os w (Some z) h = by (is_small z) refl
  where
    by : (v : Bool) → is_small z ≡ v → is_exponent (term_in (settled (cond (not v) (Some Magnitude) None) (Int z))) ≡ true
    by true e = ap is_exponent_layer (out-Int z) ∙ h
    by false e = let f = great z e in cc

pub expr-Word : (os : List Outline) (w : List ℕ) → expr_of os (Word w) ≡ term_of os w
expr-Word os w = search (rules, the_lemmas)

pub expr-Call : (os : List Outline) (op : Op) (rs : List Raw) → expr_of os (Call op rs) ≡ Node op (map (expr_of os) rs)
expr-Call os op rs = search (rules, the_lemmas)

pub form-Word : (w : List ℕ) → form (Word w) ≡ form_step (Raw-F.Word w)
form-Word w = search (rules, the_lemmas)

pub form-Call : (op : Op) (rs : List Raw) → form (Call op rs) ≡ form_step (Raw-F.Call op (map form rs))
form-Call op rs = search (rules, the_lemmas)

module _ (os : List Outline) where
  -- an expression and its form
  record Agrees (r : Raw) : Type 0 where
    set : is_set (expr_of os r) ≡ (form r).is_set
    exponent : (form r).is_exponent ≡ true → is_exponent (expr_of os r) ≡ true
    shaped : (form r).is_formed ≡ true → IsShaped (expr_of os r)

  abbrev kept : List ((r : Raw) × Agrees r) → List Raw
  kept ps = map (λ p. p.0) ps

  no-set : (r : Raw) → Agrees r → not (form r).is_set ≡ true → not (is_set (expr_of os r)) ≡ true
  no-set r a h = ap not a.set ∙ h

  both : (a b : Bool) → a ≡ true → b ≡ true → (a && b) ≡ true
  both a b g h = ap (λ (t : Bool). t && b) g ∙ h

  no-sets : (ps : List ((r : Raw) × Agrees r)) → are_no_sets (map form (kept ps)) ≡ true → are_no_set_exprs (map (expr_of os) (kept ps)) ≡ true
  no-sets [] h = refl
  no-sets (p ∷ ps) h =
      both (not (is_set (expr_of os p.0))) (are_no_set_exprs (map (expr_of os) (kept ps)))
      (no-set p.0 p.1 (both-left (not (form p.0).is_set) (are_no_sets (map form (kept ps))) h))
      (no-sets ps (both-right (not (form p.0).is_set) (are_no_sets (map form (kept ps))) h))

  membership : (ps : List ((r : Raw) × Agrees r)) → are_placed In (map form (kept ps)) ≡ true → are_placed_exprs In (map (expr_of os) (kept ps)) ≡ true
  membership [] h = cc
  membership (p ∷ []) h = cc
  membership (p ∷ q ∷ []) h =
      both (not (is_set (expr_of os p.0))) (is_set (expr_of os q.0))
      (no-set p.0 p.1 (both-left (not (form p.0).is_set) (form q.0).is_set h))
      (q.1.set ∙ both-right (not (form p.0).is_set) (form q.0).is_set h)
  membership (p ∷ q ∷ r ∷ ps) h = cc

  power : (ps : List ((r : Raw) × Agrees r)) → are_placed Pow (map form (kept ps)) ≡ true → are_placed_exprs Pow (map (expr_of os) (kept ps)) ≡ true
  power [] h = cc
  power (p ∷ []) h = cc
  power (p ∷ q ∷ []) h =
      both (not (is_set (expr_of os p.0))) (is_exponent (expr_of os q.0))
      (no-set p.0 p.1 (both-left (not (form p.0).is_set) (form q.0).is_exponent h))
      (q.1.exponent (both-right (not (form p.0).is_set) (form q.0).is_exponent h))
  power (p ∷ q ∷ r ∷ ps) h = cc

  placed : (op : Op) (ps : List ((r : Raw) × Agrees r)) → are_placed op (map form (kept ps)) ≡ true → are_placed_exprs op (map (expr_of os) (kept ps)) ≡ true
  placed Neg ps h = no-sets ps h
  placed Abs ps h = no-sets ps h
  placed Sqr ps h = no-sets ps h
  placed Add ps h = no-sets ps h
  placed Mul ps h = no-sets ps h
  placed Sub ps h = no-sets ps h
  placed Dist ps h = no-sets ps h
  placed Div ps h = no-sets ps h
  placed Mod ps h = no-sets ps h
  placed Pow ps h = power ps h
  placed Min ps h = no-sets ps h
  placed Max ps h = no-sets ps h
  placed Lt ps h = no-sets ps h
  placed Le ps h = no-sets ps h
  placed Gt ps h = no-sets ps h
  placed Ge ps h = no-sets ps h
  placed Ne ps h = no-sets ps h
  placed Eq ps h = no-sets ps h
  placed Set ps h = no-sets ps h
  placed In ps h = membership ps h
  placed NotIn ps h = membership ps h
  placed Not ps h = no-sets ps h
  placed And ps h = no-sets ps h
  placed Or ps h = no-sets ps h
  placed Xor ps h = no-sets ps h
  placed Iff ps h = no-sets ps h
  placed Imp ps h = no-sets ps h
  placed If ps h = no-sets ps h

  all-shaped : (ps : List ((r : Raw) × Agrees r)) → are_formed (map form (kept ps)) ≡ true → All IsShaped (map (expr_of os) (kept ps))
  all-shaped [] h = All-nil IsShaped
  all-shaped (p ∷ ps) h =
      All-cons IsShaped (expr_of os p.0) (map (expr_of os) (kept ps))
      (p.1.shaped (both-left (form p.0).is_formed (are_formed (map form (kept ps))) h))
      (all-shaped ps (both-right (form p.0).is_formed (are_formed (map form (kept ps))) h))

  same-count : (ps : List ((r : Raw) × Agrees r)) → length (map form (kept ps)) ≡ length (map (expr_of os) (kept ps))
  same-count [] = refl
  same-count (p ∷ ps) = ap suc (same-count ps)

  at-word : (w : List ℕ) → Agrees (Word w)
  at-word w =
      let leaf = subst IsLeaf (sym (expr-Word os w)) (leaf-term os w (first_missed (term_meets_by os w (integer_of w))) (integer_of w)) in
      record {
        set = leaf.set ∙ sym (ap (λ f. f.is_set) (form-Word w));
        exponent = λ h. ap is_exponent (expr-Word os w) ∙ exponent-term os w (integer_of w) (sym (ap (λ f. f.is_exponent) (form-Word w)) ∙ h);
        shaped = λ h. leaf.shaped;
      }

  at-call : (op : Op) (ps : List ((r : Raw) × Agrees r)) → Agrees (Call op (kept ps))
  at-call op ps =
      let es : List Expr = map (expr_of os) (kept ps) in
      let fs : List Form = map form (kept ps) in
      record {
        set = ap is_set (expr-Call os op (kept ps)) ∙ ap is_set_layer (out-Node op es) ∙ sym (ap (λ f. f.is_set) (form-Call op (kept ps)));
        exponent = λ h. let no : false ≡ true = sym (ap (λ f. f.is_exponent) (form-Call op (kept ps))) ∙ h in cc;
        shaped = λ h.
            let all : (is_count op (length fs) && (are_placed op fs && are_formed fs)) ≡ true = sym (ap (λ f. f.is_formed) (form-Call op (kept ps))) ∙ h in
            let rest = both-right (is_count op (length fs)) (are_placed op fs && are_formed fs) all in
            let count = subst (IsCount op) (same-count ps) (count-is op (length fs) (both-left (is_count op (length fs)) (are_placed op fs && are_formed fs) all)) in
            let places = placed-are op es (placed op ps (both-left (are_placed op fs) (are_formed fs) rest)) in
            shaped-node (expr_of os (Call op (kept ps))) op es (expr-Call os op (kept ps)) (count, places) (all-shaped ps (both-right (are_placed op fs) (are_formed fs) rest));
      }

  at-layer : (y : Raw-F ((r : Raw) × Agrees r)) → Agrees (roll-Raw (map-Raw ((r : Raw) × Agrees r) Raw (λ p. p.0) y))
  at-layer (Raw-F.Word w) = subst Agrees (sym (rolls-Word w)) (at-word w)
  at-layer (Raw-F.Call op ps) = subst Agrees (sym (rolls-Call op (kept ps))) (at-call op ps)

  agrees : (r : Raw) → Agrees r
  agrees = ind-Raw Agrees (λ x y is. subst (λ z. Agrees (roll-Raw z)) is (at-layer y))

-- what misses nothing does not miss `Spelling`
spelt : (a b c : Bool) (rest : Option Condition) → cond (not a) (Some Known) (cond (not b) (Some Nesting) (cond (not c) (Some Spelling) rest)) ≡ None → c ≡ true
spelt true true true rest h = refl
spelt true true false rest h = cc
spelt true false c rest h = cc
spelt false b c rest h = cc

abbrev later : List Outline → Raw → Option Condition
later os r =
    let t : Condition → Bool = tree_meets os r in
    cond (not (t Condition.Magnitude)) (Some Condition.Magnitude) (cond (not (t Condition.Naming)) (Some Condition.Naming) (cond (not (t Condition.Counting)) (Some Condition.Counting) (cond (not (t Condition.Fitting)) (Some Condition.Fitting) None)))

-- what misses nothing is an expression by its form
is-expression : (os : List Outline) (r : Raw) → first_missed (tree_meets os r) ≡ None → is_expression (form r) ≡ true
is-expression os r h =
    let t : Condition → Bool = tree_meets os r in
    both-left (is_expression (form r)) (words_meet os r Spelling) (spelt (t Known) (t Nesting) (t Spelling) (later os r) h)

not-is : (a : Bool) → not a ≡ true → a ≡ false
not-is true h = cc
not-is false h = refl

pub shaped-expr : (os : List Outline) (r : Raw) → first_missed (tree_meets os r) ≡ None → IsShaped (expr_of os r)
shaped-expr os r h =
    let f : Form = form r in
    (agrees os r).shaped (both-left f.is_formed (not f.is_set) (is-expression os r h))

pub no-set-expr : (os : List Outline) (r : Raw) → first_missed (tree_meets os r) ≡ None → is_set (expr_of os r) ≡ false
no-set-expr os r h =
    let f : Form = form r in
    (agrees os r).set ∙ not-is f.is_set (both-right f.is_formed (not f.is_set) (is-expression os r h))
