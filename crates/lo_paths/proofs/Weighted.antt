-- The judgement of terms made one after the other, of which each has a weight of its own.
use Rattle.std.proofs.Common.{◌≡◌, ℕ, ◌+◌, ◌≤◌, ℤ, List, [], ◌∷◌, ◌++◌, length, map, refl, ap₂, arith}
use Rattle.std.specs.List.{AllByRecursion}
use Rattle.lo_base.specs.Item.{made}
use Rattle.lo_base.proofs.Solving.{made-append}
use Rattle.lo_emit.specs.Emitted.{Out, Outs}
use Rattle.lo_emit.specs.Loops.{each}
use Rattle.lo_rules.specs.Rule.{num, Always, Rule, Yields, YieldsAll}
use Rattle.lo_rules.proofs.Atoms.{rule_none}
use Rattle.lo_rules.proofs.Loops.{rule_under}
use Rattle.lo_rules.proofs.Rules.{rules_join, rule_as}
use Rattle.lo_rules.proofs.Terms.{before_more, all_before_more}

abbrev pub total : {X : Type 0} → (X → ℕ) → List X → ℕ
total w [] = 0
total w (x ∷ xs) = w x + total w xs

module _ (W D : List ℤ → Type 0) {X : Type 0} (m : ℕ) (w : X → ℕ) (f : ℕ → X → Out) (v : List ℤ → X → ℤ) (one : (n : ℕ) (x : X) → m ≤ n → Yields W D n (f n x) (w x) (λ b. v b x)) where
  pub yields_weighted : (n : ℕ) (xs : List X) → m ≤ n → YieldsAll W D n (each f n xs) (total w xs) (λ b. map (v b) xs)
  yields_weighted n [] le = record { rule = rule_none W D (λ b. map (num b) [] ≡ map (v b) []) n 0 (λ b d. refl); before = tt }
  yields_weighted n (x ∷ xs) le =
      let first = one n x le in
      let c : Out = f n x in
      let k : ℕ = n + made c.items in
      let rest = yields_weighted k xs (omega (arith, le)) in
      let cs : Outs = each f k xs in
      let G : List ℤ → Type 0 = λ b. num b c.term ≡ v b x in
      let H : List ℤ → Type 0 = λ b. map (num b) cs.terms ≡ map (v b) xs in
      let end : ℕ = n + made (c.items ++ cs.items) in
      record {
        rule =
            rule_as W D D (λ b. G b × H b) (λ b. map (num b) (c.term ∷ cs.terms) ≡ map (v b) (x ∷ xs)) (λ b. Always b × Always b) Always n (c.items ++ cs.items) (w x + total w xs) (w x + total w xs) (λ b d. d)
            (λ b d g. ap₂ (λ (y : ℤ) (ys : List ℤ). y ∷ ys) g.0 g.1) (λ b d g p. tt) (λ b y d g p. (tt, tt)) (omega arith)
            (rules_join W D G H Always Always n c.items cs.items (w x) (total w xs) first.rule (rule_under W D (λ b. D b × G b) H Always k cs.items (total w xs) (λ b d. d.0) rest.rule));
        before =
            (before_more k end c.term (omega (arith, made-append c.items cs.items)) first.before, all_before_more (k + made cs.items) end cs.terms (omega (arith, made-append c.items cs.items)) rest.before);
      }
