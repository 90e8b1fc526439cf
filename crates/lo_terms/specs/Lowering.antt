-- What an expression is lowered to, where n is the number of the next variable (XCSP3-core, "Intensional
-- constraints"; MiniZinc Handbook, "FlatZinc builtins").
--
-- The operands are lowered first, from left to right, and then their operator. A set has the operands that its
-- members have, so that the members of a set are operands of the `in` or `notin` over it. An integer auxiliary has
-- the bounds of what it stands for.
use Rattle.std.specs.Prelude.{ℕ, ◌+◌, List, [], ◌∷◌, ◌++◌, map, Bool, true, false}
use Rattle.std.specs.List.{list_all}
use Rattle.lo_base.specs.Item.{Item, made}
use Rattle.lo_emit.specs.Emitted.{Out}
use Rattle.lo_terms.specs.Emitted.{ends}
use Rattle.lo_terms.specs.Rules.{node, literal, variable, operand_mode}
use Rattle.lo_terms.specs.declared.term.Mode.{Mode}
use Rattle.lo_terms.specs.declared.term.Mode.TheVariants.{Stated}
use Rattle.lo_terms.specs.declared.term.Operand.{Operand}
use Rattle.xf_num.specs.Span.{Bounds}
use Rattle.xs_model.specs.Bounds.{bounds}
use Rattle.xs_model.specs.Shape.{is_set_operator}
use Rattle.xs_model.specs.declared.expr.Op.{Op}
use Rattle.xs_model.specs.declared.expr.Expr.{Expr, Int as int_expr, Var as var_expr, Node as node_expr, out-Expr, fold-Expr}
use Rattle.xs_model.specs.declared.expr.Expr.TheOpen.{Expr-F}

-- the items, and the operands that stand for the expression: those of a set are its members
pub record Low : Type 0 where
  pub items : List Item
  pub operands : List Operand

-- an expression, beside what it is lowered to in each mode
pub record Lowering : Type 0 where
  pub self : Expr
  pub low : Mode → ℕ → Low

-- the bounds of an expression where those of the variables are ss
abbrev pub span_of : List Bounds → Expr → Bounds
span_of ss e = ends (bounds ss e)

abbrev pub is_literal_layer : Expr-F Expr → Bool
is_literal_layer (Expr-F.Int z) = true
is_literal_layer (Expr-F.Var v) = false
is_literal_layer (Expr-F.Node op es) = false

-- an integer as written
abbrev pub is_literal : Expr → Bool
is_literal e = is_literal_layer (out-Expr e)

abbrev pub is_written_layer : Expr-F Expr → Bool
is_written_layer (Expr-F.Int z) = false
is_written_layer (Expr-F.Var v) = false
is_written_layer (Expr-F.Node op es) = list_all is_literal es

-- all operands are integers as written
abbrev pub is_written : Expr → Bool
is_written e = is_written_layer (out-Expr e)

-- the second operand is a set of integers as written
abbrev pub has_written : List Expr → Bool
has_written [] = false
has_written (e ∷ []) = false
has_written (e ∷ s ∷ es) = is_written s

-- operands from place k on, one after the other
abbrev pub in_turn : Op → Mode → ℕ → ℕ → List (Mode → ℕ → Low) → Low
in_turn op mode k n [] = record { items = []; operands = [] }
in_turn op mode k n (f ∷ fs) =
    let first = f (operand_mode op mode k) n in
    record {
      items = first.items ++ (in_turn op mode (k + 1) (n + made first.items) fs).items;
      operands = first.operands ++ (in_turn op mode (k + 1) (n + made first.items) fs).operands;
    }

-- what stands for an expression of these bounds
abbrev pub single : Bounds → Out → Low
single w c = record { items = c.items; operands = record { term = c.term; span = w } ∷ [] }

-- what an operator makes of its operands: a set is its members
abbrev pub own_low_of : Bool → Op → Mode → Bounds → Bool → ℕ → List Operand → Low
own_low_of true op mode w written n os = record { items = []; operands = os }
own_low_of false op mode w written n os = single w (node op mode w written n os)

abbrev pub own_low : Op → Mode → Bounds → Bool → ℕ → List Operand → Low
own_low op mode w written n os = own_low_of (is_set_operator op) op mode w written n os

-- the operator, behind its operands
abbrev pub finished : Op → Mode → Bounds → Bool → ℕ → Low → Low
finished op mode w written n below = record {
  items = below.items ++ (own_low op mode w written (n + made below.items) below.operands).items;
  operands = (own_low op mode w written (n + made below.items) below.operands).operands;
}

abbrev pub node_low : List Bounds → Op → List Expr → List (Mode → ℕ → Low) → Mode → ℕ → Low
node_low ss op es fs mode n = finished op mode (span_of ss (node_expr op es)) (has_written es) n (in_turn op mode 0 n fs)

abbrev pub selves : List Lowering → List Expr
selves ls = map (λ l. l.self) ls

abbrev pub lows : List Lowering → List (Mode → ℕ → Low)
lows ls = map (λ l. l.low) ls

abbrev pub lowering_step : List Bounds → Expr-F Lowering → Lowering
lowering_step ss (Expr-F.Int z) = record { self = int_expr z; low = λ mode n. single (span_of ss (int_expr z)) (literal mode n z) }
lowering_step ss (Expr-F.Var v) = record { self = var_expr v; low = λ mode n. single (span_of ss (var_expr v)) (variable mode n v) }
lowering_step ss (Expr-F.Node op ls) = record { self = node_expr op (selves ls); low = node_low ss op (selves ls) (lows ls) }

abbrev pub lowering : List Bounds → Expr → Lowering
lowering ss = fold-Expr Lowering (lowering_step ss)

-- what an expression is lowered to in a mode
abbrev pub low_expr : List Bounds → Expr → Mode → ℕ → Low
low_expr ss e = (lowering ss e).low

abbrev pub low_operands : List Bounds → Op → Mode → ℕ → ℕ → List Expr → Low
low_operands ss op mode k n es = in_turn op mode k n (map (low_expr ss) es)

-- what states an expression
abbrev pub low_intension : List Bounds → ℕ → Expr → List Item
low_intension ss n e = (low_expr ss e Stated n).items
