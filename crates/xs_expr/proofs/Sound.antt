-- A value lies within its expression's bounds, and fits with all that leads to it.
use Rattle.std.proofs.Common.{◌≡◌, ℕ, zero, suc, ◌<◌, ◌≤◌, ℤ, refl, sym, ◌∙◌, ap, subst, List, [], ◌∷◌, map, length, arith, All, Result, Ok, Err, IsOk}
use Rattle.std.proofs.lemmas.Int.{ints}
use Rattle.std.proofs.lemmas.List.Elements.{All-tail}
use Rattle.xf_num.specs.Span.{Bounds, IsWithin}
use Rattle.xf_text.specs.declared.fault.Kind.{Kind}
use Rattle.xs_model.specs.declared.expr.Op.{Op}
use Rattle.xs_model.specs.declared.expr.Expr.TheVariants.{rolls-Node}
use Rattle.xs_model.specs.declared.expr.Expr.{Expr, roll-Expr, out-Expr, out-roll-Expr, every_here-Expr, map-Expr, ind-Expr, fold-roll-Expr, fold_out-Expr, every_made-Expr}
use Rattle.xs_model.specs.declared.expr.Expr.TheOpen.{Expr-F}
use Rattle.xs_model.specs.Value.{Worth, val, worth, worth_step, apply, at, second_members}
use Rattle.xs_model.specs.Bounds.{bounds, bounds_step, and_then, all_ok, prepended, node_bounds, exactly, operand, points, HasSpan, HasSpans}
use Rattle.xs_model.specs.Spans.{AreWithin}
use Rattle.xs_model.specs.Shape.{IsCount, HasShape, IsShaped, IsExponent, IsExponentLayer, IsPower, ArePlaced}
use Rattle.xs_expr.specs.Worths.{Fits, FitsAt}
use Rattle.xs_expr.proofs.Every.{every-operands}
use Rattle.xs_expr.proofs.Exponents.{literal, literal-is}
use Rattle.xs_expr.proofs.Layers.{values-are, node_worth-value}
use Rattle.xs_expr.proofs.Within.{IsHeld, AreHeld, HasExponent, NodeHeld, limited-held, node-held}

pub prepended-is : (c : Bounds) (r : Result (List Bounds) Kind) (bs : List Bounds) → prepended c r ≡ Ok bs → (cs : List Bounds) × (r ≡ Ok cs) × (bs ≡ c ∷ cs)
prepended-is c (Ok cs) bs h = (cs, refl, cc)
prepended-is c (Err k) bs h = cc

-- a value beside its bounds
within-at : (ss : List Bounds) (a : List ℤ) (n : ℕ) → AreWithin ss a → n < length ss → (n < length a) × IsWithin (operand ss n) (at a n)
within-at [] [] n w h = absurd (omega arith)
within-at [] (x ∷ xs) n w h = absurd w
within-at (b ∷ bs) [] n w h = absurd w
within-at (b ∷ bs) (x ∷ xs) zero w h = (omega arith, w.0)
within-at (b ∷ bs) (x ∷ xs) (suc n) w h = let rest = within-at bs xs n w.1 (omega arith) in (omega (arith, rest.0), rest.1)

-- a product has a factor
some-values : (a : List ℤ) (es : List Expr) → 2 ≤ length es → map (val a) es ≡ [] → ⊥
some-values a [] h is = absurd (omega arith)
some-values a (e ∷ es) h is = cc

pub second-bounds : (r s : Result Bounds Kind) (z : ℤ) (bs : List Bounds) → s ≡ Ok (exactly z) → all_ok (r ∷ s ∷ []) ≡ Ok bs → (operand bs 1).lo ≡ z
second-bounds (Err k) s z bs is h = cc
second-bounds (Ok b) (Err k) z bs is h = cc
second-bounds (Ok b) (Ok c) z bs is h =
    let list : b ∷ c ∷ [] ≡ bs = cc in
    let same : c ≡ exactly z = cc in
    ap (λ (ds : List Bounds). (operand ds 1).lo) (sym list) ∙ ap (λ (d : Bounds). d.lo) same

exact : (y z : ℤ) (r : Result Bounds Kind) → r ≡ Ok (exactly y) → r ≡ Ok (exactly z) → y ≡ z
exact y z r g h = let same : exactly y ≡ exactly z = cc in ap (λ (d : Bounds). d.lo) same

module _ (ss : List Bounds) (a : List ℤ) where
  literal-value : (k : Expr) (x : Expr-F Expr) → out-Expr k ≡ x → IsExponentLayer x → (z : ℤ) → bounds ss k ≡ Ok (exactly z) → val a k ≡ z
  literal-value k (Expr-F.Int y) is h z b =
      let value : val a k ≡ y = ap (λ (w : Worth). w.value) (fold_out-Expr Worth (worth_step a) k ∙ ap (λ (x : Expr-F Expr). worth_step a (map-Expr Expr Worth (worth a) x)) is) in
      let known : bounds ss k ≡ Ok (exactly y) = literal-is ss k y is h in
      value ∙ exact y z (bounds ss k) known b
  literal-value k (Expr-F.Var v) is h z b = absurd h
  literal-value k (Expr-F.Node op es) is h z b = absurd h

  exponent : (es : List Expr) (bs : List Bounds) → IsPower es → all_ok (map (bounds ss) es) ≡ Ok bs → HasExponent bs (map (val a) es)
  exponent [] bs p h = absurd p
  exponent (e ∷ []) bs p h = absurd p
  exponent (e ∷ k ∷ []) bs p h =
      let z = literal ss k (out-Expr k) refl p.1 in
      let value = literal-value k (out-Expr k) refl p.1 z.0 z.2 in
      record { exponent = subst IsExponent (sym value) z.1; same = second-bounds (bounds ss e) (bounds ss k) z.0 bs z.2 h ∙ sym value }
  exponent (e ∷ k ∷ f ∷ es) bs p h = absurd p

module _ (ss : List Bounds) (a : List ℤ) (w : AreWithin ss a) where
  -- what is claimed of an expression
  abbrev Claim : Expr → Type 0
  Claim e = IsShaped e → HasSpans ss e → (b : Bounds) → bounds ss e ≡ Ok b → IsHeld b (val a e) × Fits a e

  -- the operands' values are within their bounds, and they fit
  record Known (es : List Expr) (bs : List Bounds) : Type 0 where
    within : AreHeld bs (map (val a) es)
    beside : List ((e : Expr) × Fits a e)
    same : map (λ q. q.0) beside ≡ es

  one : (p : (e : Expr) × Claim e) (es : List Expr) (bs : List Bounds) → IsShaped p.0 → HasSpans ss p.0 → ((cs : List Bounds) → all_ok (map (bounds ss) es) ≡ Ok cs → Known es cs)
      → (r : Result Bounds Kind) → bounds ss p.0 ≡ r → all_ok (r ∷ map (bounds ss) es) ≡ Ok bs → Known (p.0 ∷ es) bs
  one p es bs d s rest (Err k) e h = cc
  one p es bs d s rest (Ok c) e h =
      let parts = prepended-is c (all_ok (map (bounds ss) es)) bs h in
      let known = rest parts.0 parts.1 in
      let own = p.1 d s c e in
      subst (Known (p.0 ∷ es)) (sym parts.2) (record { within = (own.0, known.within); beside = (p.0, own.1) ∷ known.beside; same = ap (λ (zs : List Expr). p.0 ∷ zs) known.same })

  operands : (ps : List ((e : Expr) × Claim e)) (bs : List Bounds) → All IsShaped (map (λ p. p.0) ps) → All (HasSpans ss) (map (λ p. p.0) ps) → all_ok (map (bounds ss) (map (λ p. p.0) ps)) ≡ Ok bs → Known (map (λ p. p.0) ps) bs
  operands [] bs d s h = let e : [] ≡ bs = cc in subst (Known []) e (record { within = tt; beside = []; same = refl })
  operands (p ∷ ps) bs d s h = one p (map (λ q. q.0) ps) bs (d 0 p.0 (omega arith)) (s 0 p.0 (omega arith)) (λ cs g. operands ps cs (All-tail IsShaped p.0 (map (λ q. q.0) ps) d) (All-tail (HasSpans ss) p.0 (map (λ q. q.0) ps) s) g) (bounds ss p.0) refl h

  -- a node's own step
  node : (op : Op) (es : List Expr) (b : Bounds) → IsCount op (length es) → ArePlaced op es → ((bs : List Bounds) → all_ok (map (bounds ss) es) ≡ Ok bs → Known es bs)
      → (r : Result (List Bounds) Kind) → all_ok (map (bounds ss) es) ≡ r → and_then r (node_bounds op) ≡ Ok b → NodeHeld op b (map (val a) es) (second_members (map (worth a) es)) × ((bs : List Bounds) × Known es bs)
  node op es b count placed known (Err k) e h = cc
  node op es b count placed known (Ok bs) e h =
      let k = known bs e in (
        node-held bs (map (val a) es) (second_members (map (worth a) es)) k.within b op h
            (λ is. some-values a es (subst (λ (o : Op). IsCount o (length es)) is count))
            (λ is. exponent ss a es bs (subst (λ (o : Op). ArePlaced o es) is placed) e),
        (bs, k),
      )

  at-layer : (y : Expr-F ((e : Expr) × Claim e)) → Claim (roll-Expr (map-Expr ((e : Expr) × Claim e) Expr (λ p. p.0) y))
  at-layer (Expr-F.Int z) d s b h =
      let is = sym (fold-roll-Expr (Result Bounds Kind) (bounds_step ss) (Expr-F.Int z)) ∙ h in
      let own : IsWithin (exactly z) z = record { from = omega (arith, ints); to = omega (arith, ints) } in
      let value : val a (roll-Expr (Expr-F.Int z)) ≡ z = ap (λ (w : Worth). w.value) (fold-roll-Expr Worth (worth_step a) (Expr-F.Int z)) in
      (subst (IsHeld b) (sym value) (limited-held (exactly z) b z own is), every_made-Expr (FitsAt a) (Expr-F.Int z) (Expr-F.Int z) refl tt)
  at-layer (Expr-F.Var v) d s b h =
      let below : v < length ss = subst (HasSpan ss) (out-roll-Expr (Expr-F.Var v)) (every_here-Expr (HasSpan ss) (roll-Expr (Expr-F.Var v)) s) in
      let p = within-at ss a v w below in
      let is = sym (fold-roll-Expr (Result Bounds Kind) (bounds_step ss) (Expr-F.Var v)) ∙ h in
      let value : val a (roll-Expr (Expr-F.Var v)) ≡ at a v = ap (λ (w : Worth). w.value) (fold-roll-Expr Worth (worth_step a) (Expr-F.Var v)) in
      (subst (IsHeld b) (sym value) (limited-held (operand ss v) b (at a v) p.1 is), every_made-Expr (FitsAt a) (Expr-F.Var v) (Expr-F.Var v) refl p.0)
  at-layer (Expr-F.Node op ps) d s b h =
      let es : List Expr = map (λ p. p.0) ps in
      let shapes = every-operands HasShape (roll-Expr (Expr-F.Node op es)) op es es (rolls-Node op es) refl d in
      let spans = every-operands (HasSpan ss) (roll-Expr (Expr-F.Node op es)) op es es (rolls-Node op es) refl s in
      let shape : IsCount op (length es) × ArePlaced op es = subst HasShape (out-roll-Expr (Expr-F.Node op es)) (every_here-Expr HasShape (roll-Expr (Expr-F.Node op es)) d) in
      let is = sym (fold-roll-Expr (Result Bounds Kind) (bounds_step ss) (Expr-F.Node op es)) ∙ h in
      let n = node op es b shape.0 shape.1 (λ bs g. operands ps bs shapes spans g) (all_ok (map (bounds ss) es)) refl is in
      let value : val a (roll-Expr (Expr-F.Node op es)) ≡ apply op (map (val a) es) (second_members (map (worth a) es)) =
      ap (λ (w : Worth). w.value) (fold-roll-Expr Worth (worth_step a) (Expr-F.Node op es))
      ∙ node_worth-value op (map (worth a) es)
      ∙ ap (λ (xs : List ℤ). apply op xs (second_members (map (worth a) es))) (values-are a es) in (
        subst (IsHeld b) (sym value) n.0.value,
        every_made-Expr (FitsAt a) (Expr-F.Node op es) (Expr-F.Node op n.1.1.beside) (ap (Expr-F.Node op) n.1.1.same) (shape.0, n.0.fits),
      )

  pub bounds-sound : (e : Expr) → Claim e
  bounds-sound = ind-Expr Claim (λ x y is. subst (λ z. Claim (roll-Expr z)) is (at-layer y))

  -- an expression of which no node is at fault fits
  pub bounds-Fits : (e : Expr) (r : Result Bounds Kind) → bounds ss e ≡ r → IsOk r → IsShaped e → HasSpans ss e → Fits a e
  bounds-Fits e (Ok b) is h d s = (bounds-sound e d s b is).1
  bounds-Fits e (Err k) is h d s = cc

-- values lie within the bounds of themselves
pub points-within : (a : List ℤ) → AreWithin (points a) a
points-within [] = tt
points-within (x ∷ xs) = (record { from = omega (arith, ints); to = omega (arith, ints) }, points-within xs)
