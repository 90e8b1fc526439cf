-- Terms that are made one of the other: what they are, what is stated on the way, and that they are well formed.
use Rattle.std.proofs.Common.{◌≡◌, ℕ, suc, ◌+◌, ◌*◌, ◌≤◌, ℤ, Bool, List, [], ◌∷◌, ◌++◌, length, map, refl, ap, ap₂, sym, subst, ◌∙◌, arith}
use Rattle.std.specs.List.{AllByRecursion}
use Rattle.lo_base.specs.Formed.{kinds_of, Keeps}
use Rattle.lo_base.specs.Item.{made}
use Rattle.lo_base.proofs.Formed.{formed_join, keeps_behind, keeps_through}
use Rattle.lo_base.proofs.Solving.{made-append}
use Rattle.lo_circuits.specs.Circuit.{chained}
use Rattle.lo_emit.specs.declared.term.Term.{Term}
use Rattle.lo_emit.specs.Emitted.{Out, Outs}
use Rattle.lo_rules.specs.Formed.{Makes, MakesAll}
use Rattle.lo_rules.specs.Rule.{num, Before, AllBefore, Rule}
use Rattle.lo_rules.proofs.Atoms.{rule_none}
use Rattle.lo_rules.proofs.Loops.{rule_under}
use Rattle.lo_rules.proofs.MakingLoops.{Stays, kinds_behind, kinds_in_a_row}
use Rattle.lo_rules.proofs.Rules.{rules_join, rule_as}
use Rattle.lo_rules.proofs.Terms.{before_more, all_before_more}

-- the values on the way from u on
abbrev pub scan : {X : Type 0} → (ℤ → X → ℤ) → ℤ → List X → List ℤ
scan g u [] = []
scan g u (x ∷ xs) = g u x ∷ scan g (g u x) xs

-- what is stated of each value, before the step from it
abbrev pub Stated : {X : Type 0} → (ℤ → X → Type 0) → (ℤ → X → ℤ) → ℤ → List X → Type 0
Stated S g u [] = Unit {0}
Stated S g u (x ∷ xs) = S u x × Stated S g (g u x) xs

pub chained_long : {X : Type 0} (f : ℕ → Term → X → Out) (n : ℕ) (t : Term) (xs : List X) → length (chained f n t xs).terms ≡ length xs
chained_long f n t [] = refl
chained_long f n t (x ∷ xs) = ap suc (chained_long f (n + made (f n t x).items) (f n t x).term xs)

one_more : (k w : ℕ) → w + k * w ≤ suc k * w
one_more k w = grind arith

module _ (W D : List ℤ → Type 0) {X : Type 0} (Q : X → Type 0) (m w : ℕ) (f : ℕ → Term → X → Out) (g : List ℤ → ℤ → X → ℤ) (S : List ℤ → ℤ → X → Type 0)
    (made_before : (n : ℕ) (t : Term) (x : X) → m ≤ n → Before n t → Q x → Before (n + made (f n t x).items) (f n t x).term)
    (one : (n : ℕ) (t : Term) (x : X) → m ≤ n → Before n t → Q x → Rule W D n (f n t x).items w (λ b. num b (f n t x).term ≡ g b (num b t) x) (λ b. S b (num b t) x)) where
  pub chained_before : (n : ℕ) (t : Term) (xs : List X) → m ≤ n → Before n t → AllByRecursion Q xs → AllBefore (n + made (chained f n t xs).items) (chained f n t xs).terms
  chained_before n t [] le h q = tt
  chained_before n t (x ∷ xs) le h q =
      let c : Out = f n t x in
      let k : ℕ = n + made c.items in
      let rs : Outs = chained f k c.term xs in
      let end : ℕ = n + made (c.items ++ rs.items) in
      let first = made_before n t x le h q.0 in
      (before_more k end c.term (omega (arith, made-append c.items rs.items)) first, all_before_more (k + made rs.items) end rs.terms (omega (arith, made-append c.items rs.items)) (chained_before k c.term xs (omega (arith, le)) first q.1))

  pub rule_chained : (n : ℕ) (t : Term) (xs : List X) → m ≤ n → Before n t → AllByRecursion Q xs
      → Rule W D n (chained f n t xs).items (length xs * w) (λ b. map (num b) (chained f n t xs).terms ≡ scan (g b) (num b t) xs) (λ b. Stated (S b) (g b) (num b t) xs)
  rule_chained n t [] le h q = rule_none W D (λ b. map (num b) [] ≡ []) n (length {A = X} [] * w) (λ b d. refl)
  rule_chained n t (x ∷ xs) le h q =
      let c : Out = f n t x in
      let k : ℕ = n + made c.items in
      let rs : Outs = chained f k c.term xs in
      let G : List ℤ → Type 0 = λ b. num b c.term ≡ g b (num b t) x in
      let H : List ℤ → Type 0 = λ b. map (num b) rs.terms ≡ scan (g b) (num b c.term) xs in
      let P : List ℤ → Type 0 = λ b. S b (num b t) x in
      let L : List ℤ → Type 0 = λ b. Stated (S b) (g b) (num b c.term) xs in
      rule_as W D D (λ b. G b × H b) (λ b. map (num b) (c.term ∷ rs.terms) ≡ scan (g b) (num b t) (x ∷ xs)) (λ b. P b × L b) (λ b. Stated (S b) (g b) (num b t) (x ∷ xs)) n (c.items ++ rs.items) (w + length xs * w) (length (x ∷ xs) * w)
      (λ b d. d) (λ b d e. ap₂ (λ (z : ℤ) (zs : List ℤ). z ∷ zs) e.0 (e.1 ∙ ap (λ (z : ℤ). scan (g b) z xs) e.0)) (λ b d e p. (p.0, subst (λ (z : ℤ). Stated (S b) (g b) z xs) e.0 p.1))
      (λ b y d e p. (p.0, subst (λ (z : ℤ). Stated (S b) (g b) z xs) (sym e.0) p.1)) (one_more (length xs) w)
      (rules_join W D G H P L n c.items rs.items w (length xs * w) (one n t x le h q.0)
      (rule_under W D (λ b. D b × G b) H L k rs.items (length xs * w) (λ b d. d.0) (rule_chained k c.term xs (omega (arith, le)) (made_before n t x le h q.0) q.1)))

-- well-formed terms: base has the kinds of the variables before the loop
module _ (base : List Bool) {X : Type 0} (Q : X → Type 0) (IsKind : List Bool → Term → Type 0) (stays : Stays IsKind) (f : ℕ → Term → X → Out)
    (one : (n : ℕ) (bs : List Bool) (t : Term) (x : X) → length bs ≡ n → Keeps base bs → IsKind bs t → Q x → Makes IsKind bs (f n t x)) where
  pub formed_chained : (n : ℕ) (bs : List Bool) (t : Term) (xs : List X) → length bs ≡ n → Keeps base bs → IsKind bs t → AllByRecursion Q xs → MakesAll IsKind bs (chained f n t xs)
  formed_chained n bs t [] here keeps h q = record { formed = tt; terms = tt }
  formed_chained n bs t (x ∷ xs) here keeps h q =
      let c : Out = f n t x in
      let k : ℕ = n + made c.items in
      let cs : List Bool = bs ++ kinds_of c.items in
      let first = one n bs t x here keeps h q.0 in
      let rest = formed_chained k cs c.term xs (kinds_behind bs n c.items here) (keeps_through base bs cs keeps (keeps_behind bs (kinds_of c.items))) first.term q.1 in
      let rs : Outs = chained f k c.term xs in
      let row : cs ++ kinds_of rs.items ≡ bs ++ kinds_of (c.items ++ rs.items) = kinds_in_a_row bs c.items rs.items in
      record {
        formed = formed_join bs c.items rs.items first.formed rest.formed;
        terms = (subst (λ (ks : List Bool). IsKind ks c.term) row (stays cs (cs ++ kinds_of rs.items) c.term (keeps_behind cs (kinds_of rs.items)) first.term), subst (λ (ks : List Bool). AllByRecursion (IsKind ks) rs.terms) row rest.terms);
      }
