-- The judgement of what comes behind a term, or behind the terms of a loop.
use Rattle.std.proofs.Common.{◌≡◌, ℕ, ◌+◌, ℤ, List, ◌++◌, map, arith}
use Rattle.lo_base.specs.Item.{Item, made}
use Rattle.lo_base.proofs.Solving.{made-append}
use Rattle.lo_emit.specs.declared.term.Term.{Term}
use Rattle.lo_emit.specs.Emitted.{Out, Outs, after, after_all}
use Rattle.lo_rules.specs.Rule.{num, Always, Rule, Yields, YieldsAll}
use Rattle.lo_rules.proofs.Rules.{rules_join, rule_as}
use Rattle.lo_rules.proofs.Terms.{before_more}

module _ (W D : List ℤ → Type 0) (n : ℕ) where
  -- a rule that gives something, and what is stated behind it
  behind : (G P : List ℤ → Type 0) (xs ys : List Item) (w u : ℕ) → Rule W D n xs w G Always → Rule W (λ b. D b × G b) (n + made xs) ys u Always P → Rule W D n (xs ++ ys) (w + u) G P
  behind G P xs ys w u first second =
      rule_as W D D (λ b. G b × Always b) G (λ b. Always b × P b) P n (xs ++ ys) (w + u) (w + u) (λ b d. d) (λ b d g. g.0) (λ b d g p. p.1) (λ b x d g p. (tt, p)) (omega arith)
      (rules_join W D G Always Always P n xs ys w u first second)

  pub states_behind : (v : List ℤ → ℤ) (P : List ℤ → Type 0) (c : Out) (ys : List Item) (w u : ℕ) → Yields W D n c w v → Rule W (λ b. D b × (num b c.term ≡ v b)) (n + made c.items) ys u Always P
      → Rule W D n (c.items ++ ys) (w + u) (λ b. num b c.term ≡ v b) P
  states_behind v P c ys w u first second = behind (λ b. num b c.term ≡ v b) P c.items ys w u first.rule second

  pub states_behind_all : (vs : List ℤ → List ℤ) (P : List ℤ → Type 0) (c : Outs) (ys : List Item) (w u : ℕ) → YieldsAll W D n c w vs
      → Rule W (λ b. D b × (map (num b) c.terms ≡ vs b)) (n + made c.items) ys u Always P → Rule W D n (c.items ++ ys) (w + u) (λ b. map (num b) c.terms ≡ vs b) P
  states_behind_all vs P c ys w u first second = behind (λ b. map (num b) c.terms ≡ vs b) P c.items ys w u first.rule second

  pub yields_behind_all : (vs : List ℤ → List ℤ) (v : List ℤ → ℤ) (c : Outs) (f : ℕ → List Term → Out) (w u : ℕ) → YieldsAll W D n c w vs
      → Yields W (λ b. D b × (map (num b) c.terms ≡ vs b)) (n + made c.items) (f (n + made c.items) c.terms) u v → Yields W D n (after_all n c f) (w + u) v
  yields_behind_all vs v c f w u first second =
      let k : ℕ = n + made c.items in
      let e : Out = f k c.terms in
      record {
        rule =
            rule_as W D D (λ b. (map (num b) c.terms ≡ vs b) × (num b e.term ≡ v b)) (λ b. num b e.term ≡ v b) (λ b. Always b × Always b) Always n (c.items ++ e.items) (w + u) (w + u) (λ b d. d) (λ b d g. g.1) (λ b d g p. tt)
            (λ b x d g p. (tt, tt)) (omega arith)
            (rules_join W D (λ b. map (num b) c.terms ≡ vs b) (λ b. num b e.term ≡ v b) Always Always n c.items e.items w u first.rule second.rule);
        before = before_more (k + made e.items) (n + made (c.items ++ e.items)) e.term (omega (arith, made-append c.items e.items)) second.before;
      }

  pub yields_behind : (u v : List ℤ → ℤ) (c : Out) (f : ℕ → Term → Out) (w z : ℕ) → Yields W D n c w u → Yields W (λ b. D b × (num b c.term ≡ u b)) (n + made c.items) (f (n + made c.items) c.term) z v
      → Yields W D n (after n c f) (w + z) v
  yields_behind u v c f w z first second =
      let k : ℕ = n + made c.items in
      let e : Out = f k c.term in
      record {
        rule =
            rule_as W D D (λ b. (num b c.term ≡ u b) × (num b e.term ≡ v b)) (λ b. num b e.term ≡ v b) (λ b. Always b × Always b) Always n (c.items ++ e.items) (w + z) (w + z) (λ b d. d) (λ b d g. g.1) (λ b d g p. tt)
            (λ b x d g p. (tt, tt)) (omega arith)
            (rules_join W D (λ b. num b c.term ≡ u b) (λ b. num b e.term ≡ v b) Always Always n c.items e.items w z first.rule second.rule);
        before = before_more (k + made e.items) (n + made (c.items ++ e.items)) e.term (omega (arith, made-append c.items e.items)) second.before;
      }
