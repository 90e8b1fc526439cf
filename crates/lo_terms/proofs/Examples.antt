-- Expressions that may be stated, put together from their leaves, and an accepted instance; for tests.
use Rattle.std.proofs.Common.{◌≡◌, ℕ, ◌<◌, ◌≤◌, ℤ, [], ◌∷◌, ◌++◌, List, length, true, false, refl, sym, ◌∙◌, ap, subst, arith, rules}
use Rattle.std.specs.Prelude.{codes, Ok, None}
use Rattle.std.proofs.lemmas.List.{length-append}
use Rattle.xf_num.specs.Span.{Bounds, magnitude_of}
use Rattle.xs_model.specs.Accepted.{IsAccepted, IsMeasured, IsSoundConstraint}
use Rattle.xs_model.specs.Bounds.{limited, exactly, operand, all_ok, and_then, node_bounds, is_truth, truths, HasVariable, HasVariables}
use Rattle.xs_model.specs.Formed.{HasSmallInteger, HasSmallIntegers, nodes}
use Rattle.xs_model.specs.Magnitude.{Weight, weight, weighed, total_of, bounds_below, nodes_below}
use Rattle.xs_model.specs.Shape.{IsCount, ArePlaced, IsShaped, HasShape, is_set, is_set_layer, is_set_operator}
use Rattle.xs_model.proofs.FormLemmas.{expression_formed}
use Rattle.xs_expr.proofs.Nodes.{mag-expression}
use Rattle.xs_model.specs.Sound.{IsSmall, magnitudes}
use Rattle.xs_model.specs.declared.decl.Decl.TheVariants.{One}
use Rattle.xs_model.specs.declared.expr.Op.{Op}
use Rattle.xs_model.specs.declared.expr.Expr.{Expr, Int, Var, Node, every-Expr, every_made-Expr, out-Expr, the_lemmas}
use Rattle.xs_model.specs.declared.expr.Expr.TheOpen.{Expr-F}
use Rattle.xs_model.specs.declared.expr.Expr.TheVariants.{rolls-Int, rolls-Var, rolls-Node}
use Rattle.xs_model.specs.declared.instance.Constraint.TheVariants.{Intension}
use Rattle.xs_model.specs.declared.instance.Instance.{Instance}
use Rattle.xs_expr.proofs.Weighed.{weighed-Int, weighed-Var, weighed-Node, weighed-bounds}
use Rattle.lo_terms.proofs.LowerLemmas.{nodes-int, nodes-var, nodes-node}

-- what is asked of every node

every-Int : (Q : Expr-F Expr → Type 0) (z : ℤ) → Q (Expr-F.Int z) → every-Expr Q (Int z)
every-Int Q z h = subst (every-Expr Q) (rolls-Int z) (every_made-Expr Q (Expr-F.Int z) (Expr-F.Int z) refl h)

every-Var : (Q : Expr-F Expr → Type 0) (v : ℕ) → Q (Expr-F.Var v) → every-Expr Q (Var v)
every-Var Q v h = subst (every-Expr Q) (rolls-Var v) (every_made-Expr Q (Expr-F.Var v) (Expr-F.Var v) refl h)

every-Two : (Q : Expr-F Expr → Type 0) (op : Op) (d e : Expr) → Q (Expr-F.Node op (d ∷ e ∷ [])) → every-Expr Q d → every-Expr Q e → every-Expr Q (Node op (d ∷ e ∷ []))
every-Two Q op d e h g k = subst (every-Expr Q) (rolls-Node op (d ∷ e ∷ [])) (every_made-Expr Q (Expr-F.Node op (d ∷ e ∷ [])) (Expr-F.Node op ((d, g) ∷ (e, k) ∷ [])) refl h)

-- no sets

plain-Int : (z : ℤ) → is_set (Int z) ≡ false
plain-Int z = let layer : out-Expr (Int z) ≡ Expr-F.Int z = search (rules, the_lemmas) in ap is_set_layer layer

plain-Var : (v : ℕ) → is_set (Var v) ≡ false
plain-Var v = let layer : out-Expr (Var v) ≡ Expr-F.Var v = search (rules, the_lemmas) in ap is_set_layer layer

plain-Node : (op : Op) (es : List Expr) → is_set_operator op ≡ false → is_set (Node op es) ≡ false
plain-Node op es h = let layer : out-Expr (Node op es) ≡ Expr-F.Node op es = search (rules, the_lemmas) in ap is_set_layer layer ∙ h

-- an expression over variables of the bounds ss, its own bounds, and the magnitudes of its nodes
pub record Sample (ss : List Bounds) (e : Expr) (b : Bounds) (ms : List ℕ) : Type 0 where
  pub shaped : IsShaped e
  pub plain : is_set e ≡ false
  pub variables : HasVariables (length ss) e
  pub small : HasSmallIntegers e
  pub weighs : weighed ss e ≡ record { bounds = Ok b; nodes = ms }
  pub count : nodes e ≡ length ms

module _ (ss : List Bounds) where
  pub literal : (z : ℤ) → IsSmall z → limited (exactly z) ≡ Ok (exactly z) → Sample ss (Int z) (exactly z) (magnitude_of (exactly z) ∷ [])
  literal z small is = record {
    shaped = every-Int HasShape z tt;
    plain = plain-Int z;
    variables = every-Int (HasVariable (length ss)) z tt;
    small = every-Int HasSmallInteger z small;
    weighs = weighed-Int ss z ∙ ap (λ r. weight r []) is;
    count = nodes-int (Int z) z refl;
  }

  pub variable : (v : ℕ) (b : Bounds) → v < length ss → limited (operand ss v) ≡ Ok b → Sample ss (Var v) b (magnitude_of b ∷ [])
  variable v b lt is = record {
    shaped = every-Var HasShape v tt;
    plain = plain-Var v;
    variables = every-Var (HasVariable (length ss)) v lt;
    small = every-Var HasSmallInteger v tt;
    weighs = weighed-Var ss v ∙ ap (λ r. weight r []) is;
    count = nodes-var (Var v) v refl;
  }

  -- the weight of an operator over two of known weights
  abbrev of_two : Op → Weight → Weight → Weight
  of_two op v w = weight (and_then (all_ok (bounds_below (v ∷ w ∷ []))) (node_bounds op)) (nodes_below (v ∷ w ∷ []))

  pub of : (op : Op) (d e : Expr) (b c w : Bounds) (ms ns : List ℕ) → Sample ss d b ms → Sample ss e c ns → IsCount op 2 → ArePlaced op (d ∷ e ∷ []) → is_set_operator op ≡ false → node_bounds op (b ∷ c ∷ []) ≡ Ok w
      → Sample ss (Node op (d ∷ e ∷ [])) w ((ms ++ (ns ++ [])) ++ magnitude_of w ∷ [])
  of op d e b c w ms ns s t count placed no_set is = record {
    shaped = every-Two HasShape op d e (count, placed) s.shaped t.shaped;
    plain = plain-Node op (d ∷ e ∷ []) no_set;
    variables = every-Two (HasVariable (length ss)) op d e tt s.variables t.variables;
    small = every-Two HasSmallInteger op d e tt s.small t.small;
    weighs =
        weighed-Node ss op (d ∷ e ∷ []) ∙ ap (λ v. of_two op v (weighed ss e)) s.weighs
        ∙ ap (of_two op (record { bounds = Ok b; nodes = ms })) t.weighs
        ∙ ap (λ r. weight r (ms ++ (ns ++ []))) is;
    count = omega (
      arith,
      s.count,
      t.count,
      nodes-node (Node op (d ∷ e ∷ [])) op (d ∷ e ∷ []) refl,
      length-append (ms ++ (ns ++ [])) (magnitude_of w ∷ []),
      length-append ms (ns ++ []),
      length-append ns [],
    );
  }

  pub sample_sound : (e : Expr) (b : Bounds) (ms : List ℕ) → Sample ss e b ms → is_truth b ≡ true → IsSoundConstraint ss (Intension e)
  sample_sound e b ms s truth = record {
    formed = expression_formed (length ss) e (record { shaped = s.shaped; no_set = s.plain; variables = s.variables; small = s.small });
    faultless = record { span = b; bounded = sym (weighed-bounds ss e) ∙ ap (λ w. w.bounds) s.weighs; truth = truth };
    measured = λ h. cc;
    built = refl;
  }

  pub sample_measured : (e : Expr) (b : Bounds) (ms : List ℕ) → Sample ss e b ms → total_of ms ≤ magnitudes → IsMeasured ss (Intension e)
  sample_measured e b ms s le = subst (λ m. m ≤ magnitudes) (sym (mag-expression ss e)) (subst (λ w. total_of w.nodes ≤ magnitudes) (sym s.weighs) le)

-- the variable x of 0..1, which holds

abbrev bits : List Bounds
bits = truths ∷ []

abbrev pub one_bit : Instance
one_bit = record { decls = One (codes "x") bits ∷ []; constraints = Intension (Var 0) ∷ []; objective = None }

holds : Sample bits (Var 0) truths (1 ∷ [])
holds = variable bits 0 truths (omega arith) refl

pub one_bit_accepted : IsAccepted one_bit
one_bit_accepted = record {
  sound = record { distinct = search rules; decls = search rules; few = omega arith; constraints = (sample_sound bits (Var 0) truths (1 ∷ []) holds refl, tt); goal = tt; satisfied = refl };
  measured = (sample_measured bits (Var 0) truths (1 ∷ []) holds (omega arith), tt);
  measured_goal = tt;
  cells = omega arith;
  items = omega (arith, holds.count);
  constraints = omega arith;
}
