-- No node is at fault at values within bounds at which none is.
use Rattle.std.proofs.Common.{◌≡◌, ℕ, suc, ℤ, refl, sym, ◌∙◌, ap, subst, List, [], ◌∷◌, map, length, arith, All, rules, Result, Ok, Err, IsOk}
use Rattle.std.proofs.lemmas.Int.{ints}
use Rattle.std.proofs.lemmas.List.Elements.{All-tail}
use Rattle.xf_num.specs.Span.{Bounds}
use Rattle.xf_text.specs.declared.fault.Kind.{Kind}
use Rattle.xs_model.specs.declared.expr.Op.{Op}
use Rattle.xs_model.specs.declared.expr.Expr.TheVariants.{rolls-Node}
use Rattle.xs_model.specs.declared.expr.Expr.{Expr, roll-Expr, out-Expr, out-roll-Expr, every_here-Expr, map-Expr, ind-Expr, fold-roll-Expr}
use Rattle.xs_model.specs.declared.expr.Expr.TheOpen.{Expr-F}
use Rattle.xs_model.specs.Bounds.{bounds, bounds_step, and_then, all_ok, prepended, node_bounds, exactly, operand, points, HasVariables, HasSpan, HasSpans}
use Rattle.xs_model.specs.Spans.{AreWithin}
use Rattle.xs_expr.specs.Laws.{ValuesAreBounded}
use Rattle.xs_model.specs.Shape.{IsCount, HasShape, IsShaped, IsPower, IsExponentLayer, ArePlaced}
use Rattle.xs_expr.proofs.Every.{every-operands}
use Rattle.xs_expr.proofs.Exponents.{literal-is}
use Rattle.xs_expr.proofs.Narrow.{IsInside, Inner, AreInside, SameExponent, limited-inner, operand-inside, node-inner}
use Rattle.xs_expr.proofs.Sound.{bounds-sound, prepended-is, second-bounds}

literal-in-both : (ts ss : List Bounds) (k : Expr) (x : Expr-F Expr) → out-Expr k ≡ x → IsExponentLayer x → (z : ℤ) × (bounds ts k ≡ Ok (exactly z)) × (bounds ss k ≡ Ok (exactly z))
literal-in-both ts ss k (Expr-F.Int z) is h = (z, literal-is ts k z is h, literal-is ss k z is h)
literal-in-both ts ss k (Expr-F.Var v) is h = absurd h
literal-in-both ts ss k (Expr-F.Node op es) is h = absurd h

module _ (ts ss : List Bounds) (w : AreInside ts ss) where
  -- what is claimed of an expression
  abbrev Claim : Expr → Type 0
  Claim e = IsShaped e → HasSpans ss e → (b : Bounds) → bounds ss e ≡ Ok b → Inner (bounds ts e) b

  -- the operands' bounds are narrower
  record Known (es : List Expr) (bs : List Bounds) : Type 0 where
    bounds_of : List Bounds
    is : all_ok (map (bounds ts) es) ≡ Ok bounds_of
    inside : AreInside bounds_of bs

  joined : (e : Expr) (es : List Expr) (c : Bounds) (cs : List Bounds) → bounds ts e ≡ Ok c → all_ok (map (bounds ts) es) ≡ Ok cs → all_ok (map (bounds ts) (e ∷ es)) ≡ Ok (c ∷ cs)
  joined e es c cs g h =
      ap (λ (r : Result Bounds Kind). all_ok (r ∷ map (bounds ts) es)) g ∙ ap (prepended c) h

  one : (p : (e : Expr) × Claim e) (es : List Expr) (bs : List Bounds) → IsShaped p.0 → HasSpans ss p.0 → ((cs : List Bounds) → all_ok (map (bounds ss) es) ≡ Ok cs → Known es cs)
      → (r : Result Bounds Kind) → bounds ss p.0 ≡ r → all_ok (r ∷ map (bounds ss) es) ≡ Ok bs → Known (p.0 ∷ es) bs
  one p es bs d s rest (Err k) e h = cc
  one p es bs d s rest (Ok c) e h =
      let parts = prepended-is c (all_ok (map (bounds ss) es)) bs h in
      let known = rest parts.0 parts.1 in
      let own = p.1 d s c e in
      subst (Known (p.0 ∷ es)) (sym parts.2) (record { bounds_of = own.bounds ∷ known.bounds_of; is = joined p.0 es own.bounds known.bounds_of own.is known.is; inside = (own.inside, known.inside) })

  operands : (ps : List ((e : Expr) × Claim e)) (bs : List Bounds) → All IsShaped (map (λ p. p.0) ps) → All (HasSpans ss) (map (λ p. p.0) ps) → all_ok (map (bounds ss) (map (λ p. p.0) ps)) ≡ Ok bs → Known (map (λ p. p.0) ps) bs
  operands [] bs d s h = let e : [] ≡ bs = cc in subst (Known []) e (record { bounds_of = []; is = refl; inside = tt })
  operands (p ∷ ps) bs d s h = one p (map (λ q. q.0) ps) bs (d 0 p.0 (omega arith)) (s 0 p.0 (omega arith)) (λ cs g. operands ps cs (All-tail IsShaped p.0 (map (λ q. q.0) ps) d) (All-tail (HasSpans ss) p.0 (map (λ q. q.0) ps) s) g) (bounds ss p.0) refl h

  exponents : (es : List Expr) (cs bs : List Bounds) → IsPower es → all_ok (map (bounds ts) es) ≡ Ok cs → all_ok (map (bounds ss) es) ≡ Ok bs → SameExponent cs bs
  exponents [] cs bs p g h = absurd p
  exponents (e ∷ []) cs bs p g h = absurd p
  exponents (e ∷ k ∷ []) cs bs p g h =
      let y = literal-in-both ts ss k (out-Expr k) refl p.1 in
      record { same = second-bounds (bounds ts e) (bounds ts k) y.0 cs y.1 g ∙ sym (second-bounds (bounds ss e) (bounds ss k) y.0 bs y.2 h) }
  exponents (e ∷ k ∷ f ∷ es) cs bs p g h = absurd p

  -- a node's own step
  node : (op : Op) (es : List Expr) (b : Bounds) → ArePlaced op es → ((bs : List Bounds) → all_ok (map (bounds ss) es) ≡ Ok bs → Known es bs)
      → (r : Result (List Bounds) Kind) → all_ok (map (bounds ss) es) ≡ r → and_then r (node_bounds op) ≡ Ok b → Inner (and_then (all_ok (map (bounds ts) es)) (node_bounds op)) b
  node op es b placed known (Err k) e h = cc
  node op es b placed known (Ok bs) e h =
      let k = known bs e in
      let own = node-inner k.bounds_of bs k.inside b op h (λ is. exponents es k.bounds_of bs (subst (λ (o : Op). ArePlaced o es) is placed) k.is e) in
      subst (λ (r : Result (List Bounds) Kind). Inner (and_then r (node_bounds op)) b) (sym k.is) own

  at-layer : (y : Expr-F ((e : Expr) × Claim e)) → Claim (roll-Expr (map-Expr ((e : Expr) × Claim e) Expr (λ p. p.0) y))
  at-layer (Expr-F.Int z) d s b h =
      let is = sym (fold-roll-Expr (Result Bounds Kind) (bounds_step ss) (Expr-F.Int z)) ∙ h in
      let own : IsInside (exactly z) (exactly z) = record { from = omega (arith, ints); order = omega (arith, ints); to = omega (arith, ints) } in
      subst (λ (r : Result Bounds Kind). Inner r b) (sym (fold-roll-Expr (Result Bounds Kind) (bounds_step ts) (Expr-F.Int z))) (limited-inner (exactly z) (exactly z) b own is)
  at-layer (Expr-F.Var v) d s b h =
      let is = sym (fold-roll-Expr (Result Bounds Kind) (bounds_step ss) (Expr-F.Var v)) ∙ h in
      subst (λ (r : Result Bounds Kind). Inner r b) (sym (fold-roll-Expr (Result Bounds Kind) (bounds_step ts) (Expr-F.Var v))) (limited-inner (operand ss v) (operand ts v) b (operand-inside ts ss v w) is)
  at-layer (Expr-F.Node op ps) d s b h =
      let es : List Expr = map (λ p. p.0) ps in
      let shapes = every-operands HasShape (roll-Expr (Expr-F.Node op es)) op es es (rolls-Node op es) refl d in
      let spans = every-operands (HasSpan ss) (roll-Expr (Expr-F.Node op es)) op es es (rolls-Node op es) refl s in
      let shape : IsCount op (length es) × ArePlaced op es = subst HasShape (out-roll-Expr (Expr-F.Node op es)) (every_here-Expr HasShape (roll-Expr (Expr-F.Node op es)) d) in
      let is = sym (fold-roll-Expr (Result Bounds Kind) (bounds_step ss) (Expr-F.Node op es)) ∙ h in
      let own = node op es b shape.1 (λ bs g. operands ps bs shapes spans g) (all_ok (map (bounds ss) es)) refl is in
      subst (λ (r : Result Bounds Kind). Inner r b) (sym (fold-roll-Expr (Result Bounds Kind) (bounds_step ts) (Expr-F.Node op es))) own

  pub bounds-narrow : (e : Expr) → Claim e
  bounds-narrow = ind-Expr Claim (λ x y is. subst (λ z. Claim (roll-Expr z)) is (at-layer y))

-- values within bounds
points-inside : (ss : List Bounds) (a : List ℤ) → AreWithin ss a → AreInside (points a) ss
points-inside [] [] w = tt
points-inside [] (x ∷ xs) w = absurd w
points-inside (b ∷ bs) [] w = absurd w
points-inside (b ∷ bs) (x ∷ xs) w = (record { from = w.0.from; order = omega (arith, ints); to = w.0.to }, points-inside bs xs w.1)

same-length : (ss : List Bounds) (a : List ℤ) → AreWithin ss a → length ss ≡ length (points a)
same-length [] [] w = refl
same-length [] (x ∷ xs) w = absurd w
same-length (b ∷ bs) [] w = absurd w
same-length (b ∷ bs) (x ∷ xs) w = ap suc (same-length bs xs w.1)

inner-IsOk : (r : Result Bounds Kind) (b : Bounds) → Inner r b → IsOk r
inner-IsOk (Ok c) b i = search rules
inner-IsOk (Err k) b i = let e = i.is in cc

pub values-are-bounded : ValuesAreBounded
values-are-bounded e ss a b shaped spans w is =
    let inner = bounds-narrow (points a) ss (points-inside ss a w) e shaped spans b is in
    record {
      within = (bounds-sound ss a w e shaped spans b is).0.within;
      alone = inner-IsOk (bounds (points a) e) b inner;
      variables = subst (λ (n : ℕ). HasVariables n e) (same-length ss a w) spans;
    }
