-- What an expression is lowered to, by cases.
use Rattle.std.proofs.Common.{◌≡◌, ℕ, ◌+◌, ◌<◌, ℤ, Bool, List, [], ◌∷◌, ◌++◌, length, drop, get_or, map, refl, ap, sym, subst, ◌∙◌}
use Rattle.std.proofs.lemmas.List.{drop_more, append_assoc, append-nil}
use Rattle.std.specs.Prelude.{Result, Ok, Err, OnOk, OnErr}
use Rattle.lo_base.specs.Emit.{Begins}
use Rattle.lo_base.specs.Item.{Item, made}
use Rattle.lo_terms.specs.declared.term.Mode.{Mode}
use Rattle.lo_terms.specs.declared.term.Operand.{Operand}
use Rattle.lo_terms.specs.Rules.{literal, variable, operand_mode}
use Rattle.lo_terms.specs.Lowering.{Low, Lowering, lowering, lowering_step, low_expr, low_operands, single, own_low, finished, node_low, selves, lows, span_of, has_written}
use Rattle.xs_model.specs.Formed.{nodes, nodes_step, nodes_of}
use Rattle.xf_num.specs.Span.{Bounds}
use Rattle.xs_model.specs.declared.expr.Op.{Op}
use Rattle.xs_model.specs.declared.expr.Expr.{Expr, Int, Var, Node, roll-Expr, map-Expr, ind-Expr, fold-roll-Expr}
use Rattle.xs_model.specs.declared.expr.Expr.TheVariants.{rolls-Int, rolls-Var, rolls-Node}
use Rattle.xs_model.specs.declared.expr.Expr.TheOpen.{Expr-F}

pub begins-front : (xs ys zs : List Item) → xs ++ ys ≡ zs → Begins xs zs
begins-front xs ys zs is = subst (Begins xs) is (front xs ys) where
  front : (us vs : List Item) → Begins us (us ++ vs)
  front [] vs = tt
  front (u ∷ us) vs = (refl, front us vs)

pub begins-same : (xs zs : List Item) → xs ≡ zs → Begins xs zs
begins-same xs zs is = begins-front xs [] zs (append-nil xs ∙ is)

-- a success gives what follows from what it gives
pub on_ok : {T X P Q : Type 0} (r : Result T X) → (P → Q) → OnOk r P → OnOk r Q
on_ok (Ok x) f p = f p
on_ok (Err e) f p = tt

pub on_error : {T X P Q : Type 0} (r : Result T X) → (P → Q) → OnErr r P → OnErr r Q
on_error (Ok x) f p = tt
on_error (Err e) f p = f p

module _ (ss : List Bounds) where
  lowering-Int : (z : ℤ) → lowering ss (Int z) ≡ lowering_step ss (Expr-F.Int z)
  lowering-Int z = ap (lowering ss) (sym (rolls-Int z)) ∙ fold-roll-Expr Lowering (lowering_step ss) (Expr-F.Int z)

  lowering-Var : (v : ℕ) → lowering ss (Var v) ≡ lowering_step ss (Expr-F.Var v)
  lowering-Var v = ap (lowering ss) (sym (rolls-Var v)) ∙ fold-roll-Expr Lowering (lowering_step ss) (Expr-F.Var v)

  lowering-Node : (op : Op) (es : List Expr) → lowering ss (Node op es) ≡ lowering_step ss (Expr-F.Node op (map (lowering ss) es))
  lowering-Node op es = ap (lowering ss) (sym (rolls-Node op es)) ∙ fold-roll-Expr Lowering (lowering_step ss) (Expr-F.Node op es)

  -- what an expression is lowered to stands beside the expression itself
  abbrev Claim : Expr → Type 0
  Claim e = (lowering ss e).self ≡ e

  below : (ps : List ((e : Expr) × Claim e)) → selves (map (lowering ss) (map (λ p. p.0) ps)) ≡ map (λ p. p.0) ps
  below [] = refl
  below (p ∷ ps) = ap (λ (e : Expr). e ∷ selves (map (lowering ss) (map (λ q. q.0) ps))) p.1 ∙ ap (λ (es : List Expr). p.0 ∷ es) (below ps)

  at-layer : (y : Expr-F ((e : Expr) × Claim e)) → Claim (roll-Expr (map-Expr ((e : Expr) × Claim e) Expr (λ p. p.0) y))
  at-layer (Expr-F.Int z) = ap (λ (l : Lowering). l.self) (fold-roll-Expr Lowering (lowering_step ss) (Expr-F.Int z)) ∙ sym (rolls-Int z)
  at-layer (Expr-F.Var v) = ap (λ (l : Lowering). l.self) (fold-roll-Expr Lowering (lowering_step ss) (Expr-F.Var v)) ∙ sym (rolls-Var v)
  at-layer (Expr-F.Node op ps) =
      let es : List Expr = map (λ p. p.0) ps in
      ap (λ (l : Lowering). l.self) (fold-roll-Expr Lowering (lowering_step ss) (Expr-F.Node op es))
      ∙ ap (Node op) (below ps)
      ∙ sym (rolls-Node op es)

  lowering-self : (e : Expr) → (lowering ss e).self ≡ e
  lowering-self = ind-Expr Claim (λ x y is. subst (λ z. Claim (roll-Expr z)) is (at-layer y))

  selves-are : (es : List Expr) → selves (map (lowering ss) es) ≡ es
  selves-are [] = refl
  selves-are (e ∷ es) = ap (λ (x : Expr). x ∷ selves (map (lowering ss) es)) (lowering-self e) ∙ ap (λ (xs : List Expr). e ∷ xs) (selves-are es)

  lows-are : (es : List Expr) → lows (map (lowering ss) es) ≡ map (low_expr ss) es
  lows-are [] = refl
  lows-are (e ∷ es) = ap (λ (fs : List (Mode → ℕ → Low)). low_expr ss e ∷ fs) (lows-are es)

  pub low-Int : (e : Expr) (z : ℤ) (mode : Mode) (n : ℕ) → e ≡ Int z → low_expr ss e mode n ≡ single (span_of ss e) (literal mode n z)
  low-Int e z mode n is =
      ap (λ (d : Expr). low_expr ss d mode n) is ∙ ap (λ (l : Lowering). l.low mode n) (lowering-Int z)
      ∙ ap (λ (d : Expr). single (span_of ss d) (literal mode n z)) (sym is)

  pub low-Var : (e : Expr) (v : ℕ) (mode : Mode) (n : ℕ) → e ≡ Var v → low_expr ss e mode n ≡ single (span_of ss e) (variable mode n v)
  low-Var e v mode n is =
      ap (λ (d : Expr). low_expr ss d mode n) is ∙ ap (λ (l : Lowering). l.low mode n) (lowering-Var v)
      ∙ ap (λ (d : Expr). single (span_of ss d) (variable mode n v)) (sym is)

  pub low-Node : (e : Expr) (op : Op) (es : List Expr) (mode : Mode) (n : ℕ) → e ≡ Node op es
      → low_expr ss e mode n ≡ finished op mode (span_of ss e) (has_written es) n (low_operands ss op mode 0 n es)
  low-Node e op es mode n is =
      ap (λ (d : Expr). low_expr ss d mode n) is ∙ ap (λ (l : Lowering). l.low mode n) (lowering-Node op es)
      ∙ ap (λ (ds : List Expr). node_low ss op ds (lows (map (lowering ss) es)) mode n) (selves-are es)
      ∙ ap (λ (fs : List (Mode → ℕ → Low)). node_low ss op es fs mode n) (lows-are es)
      ∙ ap (λ (d : Expr). finished op mode (span_of ss d) (has_written es) n (low_operands ss op mode 0 n es)) (sym is)

  -- the same where the operands are read from another list
  low-node : (e : Expr) (op : Op) (es ds : List Expr) (mode : Mode) (n : ℕ) → e ≡ Node op es → ds ≡ es
      → low_expr ss e mode n ≡ finished op mode (span_of ss e) (has_written es) n (low_operands ss op mode 0 n ds)
  low-node e op es ds mode n is same =
      low-Node e op es mode n is
      ∙ ap (λ (fs : List Expr). finished op mode (span_of ss e) (has_written es) n (low_operands ss op mode 0 n fs)) (sym same)

  own-same : (e : Expr) (op : Op) (es ds : List Expr) (mode : Mode) (n n' : ℕ) (w : Bounds) (written : Bool) (os : List Operand)
      → w ≡ span_of ss e → written ≡ has_written es → n' ≡ n + made (low_operands ss op mode 0 n ds).items → os ≡ (low_operands ss op mode 0 n ds).operands
      → own_low op mode w written n' os ≡ own_low op mode (span_of ss e) (has_written es) (n + made (low_operands ss op mode 0 n ds).items) (low_operands ss op mode 0 n ds).operands
  own-same e op es ds mode n n' w written os bounds literals at told =
      ap (λ (u : Bounds). own_low op mode u written n' os) bounds
      ∙ ap (λ (b : Bool). own_low op mode (span_of ss e) b n' os) literals
      ∙ ap (λ (k : ℕ). own_low op mode (span_of ss e) (has_written es) k os) at
      ∙ ap (λ (xs : List Operand). own_low op mode (span_of ss e) (has_written es) (n + made (low_operands ss op mode 0 n ds).items) xs) told

  -- what the operands and the operator append is what the expression appends
  pub node-items : (e : Expr) (op : Op) (es ds : List Expr) (mode : Mode) (n n' : ℕ) (w : Bounds) (written : Bool) (os : List Operand) → e ≡ Node op es → ds ≡ es
      → w ≡ span_of ss e → written ≡ has_written es → n' ≡ n + made (low_operands ss op mode 0 n ds).items → os ≡ (low_operands ss op mode 0 n ds).operands
      → (low_operands ss op mode 0 n ds).items ++ (own_low op mode w written n' os).items ≡ (low_expr ss e mode n).items
  node-items e op es ds mode n n' w written os is same bounds literals at told =
      ap (λ (l : Low). (low_operands ss op mode 0 n ds).items ++ l.items) (own-same e op es ds mode n n' w written os bounds literals at told)
      ∙ ap (λ (l : Low). l.items) (sym (low-node e op es ds mode n is same))

  pub node-operands : (e : Expr) (op : Op) (es ds : List Expr) (mode : Mode) (n n' : ℕ) (w : Bounds) (written : Bool) (os : List Operand) → e ≡ Node op es → ds ≡ es
      → w ≡ span_of ss e → written ≡ has_written es → n' ≡ n + made (low_operands ss op mode 0 n ds).items → os ≡ (low_operands ss op mode 0 n ds).operands
      → (own_low op mode w written n' os).operands ≡ (low_expr ss e mode n).operands
  node-operands e op es ds mode n n' w written os is same bounds literals at told =
      ap (λ (l : Low). l.operands) (own-same e op es ds mode n n' w written os bounds literals at told)
      ∙ ap (λ (l : Low). l.operands) (sym (low-node e op es ds mode n is same))

  -- the items of the operands come first
  pub node-front : (e : Expr) (op : Op) (es ds : List Expr) (mode : Mode) (n : ℕ) → e ≡ Node op es → ds ≡ es → Begins (low_operands ss op mode 0 n ds).items (low_expr ss e mode n).items
  node-front e op es ds mode n is same =
      let below = low_operands ss op mode 0 n ds in
      begins-front below.items (own_low op mode (span_of ss e) (has_written es) (n + made below.items) below.operands).items _ (ap (λ (l : Low). l.items) (sym (low-node e op es ds mode n is same)))

  -- one operand, and then those behind it
  low-more : (op : Op) (mode : Mode) (n : ℕ) (es : List Expr) (i : ℕ) (e : Expr) → i < length es → e ≡ get_or es i e
      → low_operands ss op mode i n (drop i es) ≡ low_operands ss op mode i n (e ∷ drop (i + 1) es)
  low-more op mode n es i e lt is = ap (low_operands ss op mode i n) (drop_more es i e lt ∙ ap (λ (d : Expr). d ∷ drop (i + 1) es) (sym is))

  pub due-more : (op : Op) (mode m : Mode) (n n' : ℕ) (es : List Expr) (i : ℕ) (e : Expr) → i < length es → e ≡ get_or es i e → m ≡ operand_mode op mode i → n' ≡ n + made (low_expr ss e m n).items
      → (low_operands ss op mode i n (drop i es)).items ≡ (low_expr ss e m n).items ++ (low_operands ss op mode (i + 1) n' (drop (i + 1) es)).items
  due-more op mode m n n' es i e lt is asked at =
      ap (λ (l : Low). l.items) (low-more op mode n es i e lt is)
      ∙ ap (λ (k : Mode). (low_expr ss e k n).items ++ (low_operands ss op mode (i + 1) (n + made (low_expr ss e k n).items) (drop (i + 1) es)).items) (sym asked)
      ∙ ap (λ (k : ℕ). (low_expr ss e m n).items ++ (low_operands ss op mode (i + 1) k (drop (i + 1) es)).items) (sym at)

  pub told-more : (op : Op) (mode m : Mode) (n n' : ℕ) (es : List Expr) (i : ℕ) (e : Expr) (before pushed more all : List Operand) → i < length es → e ≡ get_or es i e → m ≡ operand_mode op mode i
      → n' ≡ n + made (low_expr ss e m n).items → pushed ≡ before ++ more → more ≡ (low_expr ss e m n).operands
      → before ++ (low_operands ss op mode i n (drop i es)).operands ≡ all → pushed ++ (low_operands ss op mode (i + 1) n' (drop (i + 1) es)).operands ≡ all
  told-more op mode m n n' es i e before pushed more all lt is asked at push same told =
      let rest : Mode → List Operand = λ k. (low_operands ss op mode (i + 1) (n + made (low_expr ss e k n).items) (drop (i + 1) es)).operands in
      ap (λ (k : ℕ). pushed ++ (low_operands ss op mode (i + 1) k (drop (i + 1) es)).operands) at
      ∙ ap (λ (xs : List Operand). xs ++ rest m) push
      ∙ append_assoc before more (rest m)
      ∙ ap (λ (xs : List Operand). before ++ (xs ++ rest m)) same
      ∙ ap (λ (k : Mode). before ++ ((low_expr ss e k n).operands ++ rest k)) asked
      ∙ ap (λ (l : Low). before ++ l.operands) (sym (low-more op mode n es i e lt is))
      ∙ told

nodes-Node : (op : Op) (es : List Expr) → nodes (Node op es) ≡ 1 + nodes_of es
nodes-Node op es = ap nodes (sym (rolls-Node op es)) ∙ fold-roll-Expr ℕ nodes_step (Expr-F.Node op es)

pub nodes-node : (e : Expr) (op : Op) (es : List Expr) → e ≡ Node op es → nodes e ≡ 1 + nodes_of es
nodes-node e op es is = ap nodes is ∙ nodes-Node op es

pub nodes-int : (e : Expr) (z : ℤ) → e ≡ Int z → nodes e ≡ 1
nodes-int e z is = ap nodes is ∙ ap nodes (sym (rolls-Int z)) ∙ fold-roll-Expr ℕ nodes_step (Expr-F.Int z)

pub nodes-var : (e : Expr) (v : ℕ) → e ≡ Var v → nodes e ≡ 1
nodes-var e v is = ap nodes is ∙ ap nodes (sym (rolls-Var v)) ∙ fold-roll-Expr ℕ nodes_step (Expr-F.Var v)

pub nodes-more : (es : List Expr) (i : ℕ) (e : Expr) → i < length es → e ≡ get_or es i e → nodes_of (drop i es) ≡ nodes e + nodes_of (drop (i + 1) es)
nodes-more es i e lt is = ap nodes_of (drop_more es i e lt ∙ ap (λ (d : Expr). d ∷ drop (i + 1) es) (sym is))
