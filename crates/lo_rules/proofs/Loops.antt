-- The judgement of loops: what holds for one member holds for each.
use Rattle.std.proofs.Common.{◌≡◌, ℕ, suc, ◌+◌, ◌*◌, ◌≤◌, ℤ, List, [], ◌∷◌, ◌++◌, length, map, refl, ap₂, sym, subst, arith}
use Rattle.std.proofs.lemmas.List.{append_assoc, append-nil}
use Rattle.std.specs.List.{AllByRecursion}
use Rattle.lo_base.specs.Item.{Item, made}
use Rattle.lo_base.proofs.Solving.{made-append}
use Rattle.lo_emit.specs.Emitted.{Out, Outs}
use Rattle.lo_emit.specs.Loops.{for_all, each, for_pairs, Step, in_turn, Pairwise, Along}
use Rattle.lo_rules.specs.Rule.{num, Always, Rule, Yields, YieldsAll}
use Rattle.lo_rules.proofs.Rules.{rules_join, rule_as}
use Rattle.lo_rules.proofs.Atoms.{rule_none}
use Rattle.lo_rules.proofs.Terms.{before_more, all_before_more}

one_more : (k w : ℕ) → w + k * w ≤ suc k * w
one_more k w = grind arith

-- more is known
pub rule_under : (W D D' G P : List ℤ → Type 0) (n : ℕ) (xs : List Item) (w : ℕ) → ((b : List ℤ) → D' b → D b) → Rule W D n xs w G P → Rule W D' n xs w G P
rule_under W D D' G P n xs w less r = rule_as W D D' G G P P n xs w w less (λ b d g. g) (λ b d g p. p) (λ b x d g p. p) (omega arith) r

-- items that state, one after the other
pub rules_both : (W D P Q : List ℤ → Type 0) (n : ℕ) (xs ys : List Item) (w u : ℕ) → Rule W D n xs w Always P → Rule W D (n + made xs) ys u Always Q → Rule W D n (xs ++ ys) (w + u) Always (λ b. P b × Q b)
rules_both W D P Q n xs ys w u first second =
    rule_as W D D (λ b. Always b × Always b) Always (λ b. P b × Q b) (λ b. P b × Q b) n (xs ++ ys) (w + u) (w + u) (λ b d. d) (λ b d g. tt) (λ b d g p. p) (λ b x d g p. p) (omega arith)
    (rules_join W D Always Always P Q n xs ys w u first (rule_under W D (λ b. D b × Always b) Always Q (n + made xs) ys u (λ b d. d.0) second))

-- members of different weights
pub total : {X : Type 0} → (X → ℕ) → List X → ℕ
total w [] = 0
total w (x ∷ xs) = w x + total w xs

module _ (W D : List ℤ → Type 0) {X : Type 0} (Q : X → Type 0) (m : ℕ) (w : X → ℕ) where
  pub yields_each_by : (f : ℕ → X → Out) (v : List ℤ → X → ℤ) → ((n : ℕ) (x : X) → m ≤ n → Q x → Yields W D n (f n x) (w x) (λ b. v b x)) → (n : ℕ) (xs : List X) → m ≤ n → AllByRecursion Q xs
      → YieldsAll W D n (each f n xs) (total w xs) (λ b. map (v b) xs)
  unfolding total
  yields_each_by f v one n [] le q = record { rule = rule_none W D (λ b. map (num b) [] ≡ map (v b) []) n 0 (λ b d. refl); before = tt }
  yields_each_by f v one n (x ∷ xs) le q =
      let first = one n x le q.0 in
      let c : Out = f n x in
      let k : ℕ = n + made c.items in
      let rest = yields_each_by f v one k xs (omega (arith, le)) q.1 in
      let cs : Outs = each f k xs in
      let G : List ℤ → Type 0 = λ b. num b c.term ≡ v b x in
      let H : List ℤ → Type 0 = λ b. map (num b) cs.terms ≡ map (v b) xs in
      let end : ℕ = n + made (c.items ++ cs.items) in
      record {
        rule =
            rule_as W D D (λ b. G b × H b) (λ b. map (num b) (c.term ∷ cs.terms) ≡ map (v b) (x ∷ xs)) (λ b. Always b × Always b) Always n (c.items ++ cs.items) (w x + total w xs) (w x + total w xs) (λ b d. d)
            (λ b d g. ap₂ (λ (y : ℤ) (ys : List ℤ). y ∷ ys) g.0 g.1) (λ b d g p. tt) (λ b y d g p. (tt, tt)) (omega arith)
            (rules_join W D G H Always Always n c.items cs.items (w x) (total w xs) first.rule (rule_under W D (λ b. D b × G b) H Always k cs.items (total w xs) (λ b d. d.0) rest.rule));
        before =
            (before_more k end c.term (omega (arith, made-append c.items cs.items)) first.before, all_before_more (k + made cs.items) end cs.terms (omega (arith, made-append c.items cs.items)) rest.before);
      }

module _ (W D : List ℤ → Type 0) {X : Type 0} (Q : X → Type 0) (m w : ℕ) where
  as_many : (xs : List X) → total (λ x. w) xs ≤ length xs * w
  unfolding total
  as_many [] = omega arith
  as_many (x ∷ xs) = let rest = as_many xs in let more = one_more (length xs) w in omega (arith, rest, more)

  pub rules_for_all : (f : ℕ → X → List Item) (P : List ℤ → X → Type 0) → ((n : ℕ) (x : X) → m ≤ n → Q x → Rule W D n (f n x) w Always (λ b. P b x)) → (n : ℕ) (xs : List X) → m ≤ n → AllByRecursion Q xs
      → Rule W D n (for_all f n xs) (length xs * w) Always (λ b. AllByRecursion (P b) xs)
  rules_for_all f P one n [] le q = rule_none W D Always n (length {A = X} [] * w) (λ b d. tt)
  rules_for_all f P one n (x ∷ xs) le q =
      let k : ℕ = n + made (f n x) in
      let more : List Item = for_all f k xs in
      rule_as W D D Always Always (λ b. P b x × AllByRecursion (P b) xs) (λ b. P b x × AllByRecursion (P b) xs) n (f n x ++ more) (w + length xs * w) (length (x ∷ xs) * w) (λ b d. d) (λ b d g. tt) (λ b d g p. p) (λ b x d g p. p) (one_more (length xs) w)
      (rules_both W D (λ b. P b x) (λ b. AllByRecursion (P b) xs) n (f n x) more w (length xs * w) (one n x le q.0) (rules_for_all f P one k xs (omega (arith, le)) q.1))

  pub yields_each : (f : ℕ → X → Out) (v : List ℤ → X → ℤ) → ((n : ℕ) (x : X) → m ≤ n → Q x → Yields W D n (f n x) w (λ b. v b x)) → (n : ℕ) (xs : List X) → m ≤ n → AllByRecursion Q xs
      → YieldsAll W D n (each f n xs) (length xs * w) (λ b. map (v b) xs)
  yields_each f v one n xs le q =
      let all = yields_each_by W D Q m (λ x. w) f v one n xs le q in
      let G : List ℤ → Type 0 = λ b. map (num b) (each f n xs).terms ≡ map (v b) xs in
      record {
        rule = rule_as W D D G G Always Always n (each f n xs).items (total (λ x. w) xs) (length xs * w) (λ b d. d) (λ b d g. g) (λ b d g p. tt) (λ b x d g p. tt) (as_many xs) all.rule;
        before = all.before;
      }

  square : (k : ℕ) → k * w + (k * k) * w ≤ (suc k * suc k) * w
  square k = grind arith

  pub rules_for_pairs : (f : ℕ → X → X → List Item) (R : List ℤ → X → X → Type 0) → ((n : ℕ) (x y : X) → m ≤ n → Q x → Q y → Rule W D n (f n x y) w Always (λ b. R b x y)) → (n : ℕ) (xs : List X) → m ≤ n → AllByRecursion Q xs
      → Rule W D n (for_pairs f n xs) ((length xs * length xs) * w) Always (λ b. Pairwise (R b) xs)
  rules_for_pairs f R one n [] le q = rule_none W D Always n ((length {A = X} [] * length {A = X} []) * w) (λ b d. tt)
  rules_for_pairs f R one n (x ∷ xs) le q =
      let here : List Item = for_all (λ k y. f k x y) n xs in
      let k : ℕ = n + made here in
      let more : List Item = for_pairs f k xs in
      rule_as W D D Always Always (λ b. AllByRecursion (R b x) xs × Pairwise (R b) xs) (λ b. AllByRecursion (R b x) xs × Pairwise (R b) xs) n (here ++ more) (length xs * w + (length xs * length xs) * w)
      ((length (x ∷ xs) * length (x ∷ xs)) * w) (λ b d. d) (λ b d g. tt) (λ b d g p. p) (λ b x d g p. p) (square (length xs))
      (rules_both W D (λ b. AllByRecursion (R b x) xs) (λ b. Pairwise (R b) xs) n here more (length xs * w) ((length xs * length xs) * w)
      (rules_for_all (λ k y. f k x y) (λ b y. R b x y) (λ k y ge qy. one k x y ge q.0 qy) n xs le q.1) (rules_for_pairs f R one k xs (omega (arith, le)) q.1))

-- A state that goes from one member to the next: K says of which variables it speaks, I what it says of the values; both
-- may speak of the members so far.
module _ {S X : Type 0} (Q : X → Type 0) (K : ℕ → List X → S → Type 0) (f : ℕ → S → X → Step S) (m : ℕ)
    (keeps : (n : ℕ) (done : List X) (s : S) (x : X) → m ≤ n → K n done s → Q x → K (n + made (f n s x).items) (done ++ x ∷ []) (f n s x).state) where
  pub kept_in_turn : (n : ℕ) (done : List X) (s : S) (xs : List X) → m ≤ n → K n done s → AllByRecursion Q xs → K (n + made (in_turn f n s xs).items) (done ++ xs) (in_turn f n s xs).state
  kept_in_turn n done s [] le k q = subst (λ (j : ℕ). K j (done ++ []) s) (omega arith) (subst (λ (ys : List X). K n ys s) (sym (append-nil done)) k)
  kept_in_turn n done s (x ∷ xs) le k q =
      let e : ℕ = n + made (f n s x).items in
      let r : Step S = in_turn f e (f n s x).state xs in
      let rest = kept_in_turn e (done ++ x ∷ []) (f n s x).state xs (omega (arith, le)) (keeps n done s x le k q.0) q.1 in
      subst (λ (j : ℕ). K j (done ++ x ∷ xs) r.state) (omega (arith, made-append (f n s x).items r.items)) (subst (λ (ys : List X). K (e + made r.items) ys r.state) (append_assoc done (x ∷ []) xs) rest)

  -- what a member states may speak of those before it
  module _ (W D : List ℤ → Type 0) (I : List X → S → List ℤ → Type 0) (P : List X → X → List ℤ → Type 0) (w : ℕ)
      (one : (n : ℕ) (done : List X) (s : S) (x : X) → m ≤ n → K n done s → Q x → Rule W (λ b. D b × I done s b) n (f n s x).items w (λ b. I (done ++ x ∷ []) (f n s x).state b) (P done x)) where
    pub rules_along : (n : ℕ) (done : List X) (s : S) (xs : List X) → m ≤ n → K n done s → AllByRecursion Q xs
        → Rule W (λ b. D b × I done s b) n (in_turn f n s xs).items (length xs * w) (λ b. I (done ++ xs) (in_turn f n s xs).state b) (λ b. Along P done xs b)
    rules_along n done s [] le k q =
        rule_none W (λ b. D b × I done s b) (λ b. I (done ++ []) s b) n (length {A = X} [] * w) (λ b d. subst (λ (xs : List X). I xs s b) (sym (append-nil done)) d.1)
    rules_along n done s (x ∷ xs) le k q =
        let c : Step S = f n s x in
        let e : ℕ = n + made c.items in
        let r : Step S = in_turn f e c.state xs in
        let G : List ℤ → Type 0 = λ b. I (done ++ x ∷ []) c.state b in
        let H : List ℤ → Type 0 = λ b. I ((done ++ x ∷ []) ++ xs) r.state b in
        let E : List ℤ → Type 0 = λ b. D b × I done s b in
        let L : List ℤ → Type 0 = λ b. Along P (done ++ x ∷ []) xs b in
        rule_as W E E (λ b. G b × H b) (λ b. I (done ++ x ∷ xs) r.state b) (λ b. P done x b × L b) (λ b. P done x b × L b) n (c.items ++ r.items) (w + length xs * w) (length (x ∷ xs) * w) (λ b d. d)
        (λ b d g. subst (λ (ys : List X). I ys r.state b) (append_assoc done (x ∷ []) xs) g.1) (λ b d g p. p) (λ b x d g p. p) (one_more (length xs) w)
        (rules_join W E G H (P done x) L n c.items r.items w (length xs * w) (one n done s x le k q.0)
        (rule_under W (λ b. D b × G b) (λ b. E b × G b) H L e r.items (length xs * w) (λ b d. (d.0.0, d.1)) (rules_along e (done ++ x ∷ []) c.state xs (omega (arith, le)) (keeps n done s x le k q.0) q.1)))

    -- with nothing before
    pub rules_in_turn : (n : ℕ) (s : S) (xs : List X) → m ≤ n → K n [] s → ((b : List ℤ) → D b → I [] s b) → AllByRecursion Q xs
        → Rule W D n (in_turn f n s xs).items (length xs * w) (λ b. I xs (in_turn f n s xs).state b) (λ b. Along P [] xs b)
    rules_in_turn n s xs le k start q =
        rule_under W (λ b. D b × I [] s b) D (λ b. I xs (in_turn f n s xs).state b) (λ b. Along P [] xs b) n (in_turn f n s xs).items (length xs * w) (λ b d. (d, start b d)) (rules_along n [] s xs le k q)

along_nothing : {X : Type 0} (done xs : List X) (b : List ℤ) → Along (λ ds x c. Unit {0}) done xs b
along_nothing done [] b = tt
along_nothing done (x ∷ xs) b = (tt, along_nothing (done ++ x ∷ []) xs b)

-- the same where no member states anything
pub gives_in_turn : (W D : List ℤ → Type 0) {S X : Type 0} (Q : X → Type 0) (K : ℕ → List X → S → Type 0) (I : List X → S → List ℤ → Type 0) (f : ℕ → S → X → Step S) (m w : ℕ)
    → ((n : ℕ) (done : List X) (s : S) (x : X) → m ≤ n → K n done s → Q x → K (n + made (f n s x).items) (done ++ x ∷ []) (f n s x).state)
    → ((n : ℕ) (done : List X) (s : S) (x : X) → m ≤ n → K n done s → Q x → Rule W (λ b. D b × I done s b) n (f n s x).items w (λ b. I (done ++ x ∷ []) (f n s x).state b) Always)
    → (n : ℕ) (s : S) (xs : List X) → m ≤ n → K n [] s → ((b : List ℤ) → D b → I [] s b) → AllByRecursion Q xs → Rule W D n (in_turn f n s xs).items (length xs * w) (λ b. I xs (in_turn f n s xs).state b) Always
gives_in_turn W D {S} {X} Q K I f m w keeps one n s xs le k start q =
    rule_as W D D (λ b. I xs (in_turn f n s xs).state b) (λ b. I xs (in_turn f n s xs).state b) (λ b. Along (λ ds x c. Unit {0}) [] xs b) Always n (in_turn f n s xs).items (length xs * w) (length xs * w) (λ b d. d)
    (λ b d g. g) (λ b d g p. tt) (λ b x d g p. along_nothing [] xs b) (omega arith) (rules_in_turn Q K f m keeps W D I (λ ds x b. Unit {0}) w one n s xs le k start q)
