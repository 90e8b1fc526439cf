-- The law of `circuit`.
use Rattle.std.proofs.Common.{◌≡◌, ℕ, ◌+◌, ◌*◌, ◌<◌, ◌≤◌, ℤ, pos, neg_ℤ, ◌+ℤ◌, ◌-ℤ◌, ◌≤ℤ◌, Bool, true, Option, None, Some, List, [], ◌∷◌, ◌++◌, length, map, drop, refl, sym, subst, ◌∙◌, arith, true≢false}
use Rattle.std.specs.Prelude.{nat_abs}
use Rattle.std.specs.List.{AllByRecursion}
use Rattle.std.proofs.lemmas.Int.{ints}
use Rattle.fz_model.specs.Limits.{limit}
use Rattle.fz_model.specs.Meaning.{at, clause}
use Rattle.lo_base.specs.Formed.{AreIntegers}
use Rattle.lo_base.specs.Item.{Item}
use Rattle.lo_base.proofs.Solving.{below_longer, at_front, map_at_front}
use Rattle.lo_emit.specs.declared.term.Term.TheVariants.{Var}
use Rattle.lo_emit.specs.Sums.{IsNegatable}
use Rattle.lo_circuits.specs.declared.nodes.Nodes.{Nodes}
use Rattle.lo_circuits.specs.Circuit.{nodes_of, low_nodes, low_circuit, IsNegatableSize}
use Rattle.lo_circuits.specs.Laws.{CircuitLowered, AreBounded, SoundCircuitLowered}
use Rattle.lo_circuits.proofs.FormedLemmas.{Fits, IsSizeFormed, formed_nodes}
use Rattle.lo_circuits.proofs.PartLemmas.{moves_size, rule_nodes}
use Rattle.lo_circuits.proofs.RuleLemmas.{values, moved_bits}
use Rattle.lo_circuits.proofs.StepLemmas.{IsSizeBefore}
use Rattle.lo_circuits.proofs.WalkLemmas.{Checks, circuit_of, of_circuit}
use Rattle.lo_rules.specs.Laws.{IsSteady, IsLowered}
use Rattle.lo_rules.specs.Rule.{num, Always}
use Rattle.lo_rules.proofs.Linear.{mapped_long}
use Rattle.lo_rules.proofs.Making.{formed_clause}
use Rattle.lo_rules.proofs.Pairs.{nums_of_variables, variables_before, variables_integers}
use Rattle.lo_rules.proofs.Rules.{rule_as, rules_lower}
use Rattle.lo_rules.proofs.Terms.{rule_clause}
use Rattle.xf_num.specs.Span.{Bounds}
use Rattle.xs_model.specs.declared.instance.Constraint.TheVariants.{Circuit}
use Rattle.xs_model.specs.declared.term.Term.{Term as Operand}
use Rattle.xs_model.specs.declared.term.Term.TheVariants.{Int, Var as Variable}
use Rattle.xs_model.specs.Accepted.{IsFormed, IsMeasured, items_of}
use Rattle.xs_model.specs.Fields.{Variable as VariableItem, item_of}
use Rattle.xs_model.specs.Formed.{IsFormedItem}
use Rattle.xs_model.specs.Instance.{Holds, IsSizeOf}
use Rattle.xs_model.specs.Magnitude.{item_magnitude}
use Rattle.xs_model.specs.Schedule.{IsCircuit}
use Rattle.xs_model.specs.Spans.{BeginsWithin}
use Rattle.xs_model.specs.Value.{sum_of}
use Rattle.xs_paths.specs.Round.{IsSizeSum}
use Rattle.xs_paths.proofs.Examples.{no_circuit}

variables_below : (m : ℕ) (list : List ℕ) → AllByRecursion (IsFormedItem m) (map VariableItem list) → AllByRecursion (λ x. x < m) list
variables_below m [] h = tt
variables_below m (x ∷ xs) h = (h.0, variables_below m xs h.1)

below_more : (m n : ℕ) (list : List ℕ) → m ≤ n → AllByRecursion (λ x. x < m) list → AllByRecursion (λ x. x < n) list
below_more m n [] le h = tt
below_more m n (x ∷ xs) le h = (omega (arith, le, h.0), below_more m n xs le h.1)

-- the size is of variables before

abbrev IsSizeBelow : ℕ → Option Operand → Type 0
IsSizeBelow m None = Unit {0}
IsSizeBelow m (Some (Int z)) = Unit {0}
IsSizeBelow m (Some (Variable v)) = v < m

size_below : (m : ℕ) (list : List ℕ) (start : ℤ) (size : Option Operand) → IsFormed m (Circuit list start size) → IsSizeBelow m size
size_below m list start None h = tt
size_below m list start (Some (Int z)) h = tt
size_below m list start (Some (Variable v)) h = h.fields.1.1.0.0

size_before : (m n : ℕ) (size : Option Operand) → m ≤ n → IsSizeBelow m size → IsSizeBefore n size
size_before m n None le h = tt
size_before m n (Some (Int z)) le h = tt
size_before m n (Some (Variable v)) le h = omega (arith, le, h)

-- what comes behind changes nothing

size_steady : (n : ℕ) (size : Option Operand) (a d : List ℤ) (k : ℕ) → length a ≡ n → IsSizeBefore n size → (IsSizeOf (a ++ d) size k → IsSizeOf a size k) × (IsSizeOf a size k → IsSizeOf (a ++ d) size k)
size_steady n None a d k len h = (λ p. p, λ p. p)
size_steady n (Some (Int z)) a d k len h = (λ p. p, λ p. p)
size_steady n (Some (Variable v)) a d k len h = let same = at_front a d v (omega (arith, len, h)) in (λ p. p ∙ same, λ p. p ∙ sym same)

steady_circuit : (n : ℕ) (list : List ℕ) (start : ℤ) (size : Option Operand) → AllByRecursion (λ x. x < n) list → IsSizeBefore n size → IsSteady n (λ a. Holds (Circuit list start size) a)
steady_circuit n list start size below h a d len =
    let same = map_at_front a d list (below_longer n (length a) list (omega (arith, len)) below) in (
      λ p. (p.0, (subst (λ (zs : List ℤ). IsCircuit start zs p.0) same p.1.0, (size_steady n size a d p.0 len h).0 p.1.1)),
      λ p. (p.0, (subst (λ (zs : List ℤ). IsCircuit start zs p.0) (sym same) p.1.0, (size_steady n size a d p.0 len h).1 p.1.1)),
    )

-- small integers

abbrev size_magnitude : List Bounds → Option Operand → ℕ
size_magnitude ss None = 0
size_magnitude ss (Some t) = item_magnitude ss (item_of t)

alone : (t a q m : ℕ) → (t + ((a + 0) + 0)) + q ≤ m → (a + 0) + q ≤ m
alone t a q m h = omega (arith, h)

both : (t a b q m : ℕ) → (t + ((a + 0) + ((b + 0) + 0))) + q ≤ m → (a + b) + q ≤ m
both t a b q m h = omega (arith, h)

measured : (ss : List Bounds) (list : List ℕ) (start : ℤ) (size : Option Operand) → IsMeasured ss (Circuit list start size)
    → (nat_abs start + size_magnitude ss size) + items_of (Circuit list start size) * items_of (Circuit list start size) ≤ limit
measured ss list start None h = alone _ (nat_abs start) (items_of (Circuit list start None) * items_of (Circuit list start None)) limit h
measured ss list start (Some t) h = both _ (nat_abs start) (item_magnitude ss (item_of t)) (items_of (Circuit list start (Some t)) * items_of (Circuit list start (Some t))) limit h

more_items : (list : List ℕ) (start : ℤ) (size : Option Operand) → 1 + length list ≤ items_of (Circuit list start size)
more_items list start None = omega (arith, mapped_long VariableItem list)
more_items list start (Some t) = omega (arith, mapped_long VariableItem list)

count_small : (s z m l i : ℕ) → (s + z) + i * i ≤ m → 1 + l ≤ i → s + z + l + 1 ≤ m
count_small s z m l i h k = grind arith

fits_by : (start : ℤ) (z m l i : ℕ) → (nat_abs start + z) + i * i ≤ m → 1 + l ≤ i → (neg_ℤ (pos m) ≤ℤ (start -ℤ pos 1)) × ((start +ℤ pos l) ≤ℤ pos m) × (l ≤ m)
fits_by start z m l i h k =
    let few = count_small (nat_abs start) z m l i h k in
    (omega (arith, ints, few), omega (arith, ints, few), omega (arith, few))

fits : (ss : List Bounds) (x : ℕ) (xs : List ℕ) (start : ℤ) (size : Option Operand) → IsMeasured ss (Circuit (x ∷ xs) start size) → Fits (nodes_of (x ∷ xs) start size)
fits ss x xs start size h =
    let list : List ℕ = x ∷ xs in
    let long : length (map Var list) ≡ length list = mapped_long Var list in
    let r =
    fits_by start (size_magnitude ss size) limit (length (map Var list)) (items_of (Circuit list start size)) (measured ss list start size h)
    (subst (λ (k : ℕ). 1 + k ≤ items_of (Circuit list start size)) (sym long) (more_items list start size)) in
    record { from = r.0; to = r.1; few = r.2; some = omega arith }

neighbours : (z : ℤ) (s m l i : ℕ) → (s + nat_abs z) + i * i ≤ m → 1 + l ≤ i → (neg_ℤ (pos m) ≤ℤ (z -ℤ pos 1)) × ((z +ℤ pos 1) ≤ℤ pos m)
neighbours z s m l i h k = let few = count_small s (nat_abs z) m l i h k in (omega (arith, ints, few), omega (arith, ints, few))

size_formed : (ss : List Bounds) (list : List ℕ) (start : ℤ) (size : Option Operand) → IsMeasured ss (Circuit list start size) → (bs : List Bool) → AreIntegers (length ss) bs → IsSizeBelow (length ss) size → IsSizeFormed bs size
size_formed ss list start None h bs kinds below = tt
size_formed ss list start (Some (Int z)) h bs kinds below =
    let r = neighbours z (nat_abs start) limit (length list) (items_of (Circuit list start (Some (Int z)))) (measured ss list start (Some (Int z)) h) (more_items list start (Some (Int z))) in
    let low = r.0 in
    let high = r.1 in
    (record { from = omega (arith, ints, low); to = omega (arith, ints, high) }, record { from = low; to = high })
size_formed ss list start (Some (Variable v)) h bs kinds below = (kinds v below, tt)

-- what the code asks for: the integers can be negated, and there is room

negatable : (z : ℤ) → nat_abs z ≤ limit → IsNegatable z
negatable z h = (omega (arith, ints, h), omega (arith, ints, h))

pub start_negatable : (m : ℕ) (list : List ℕ) (start : ℤ) (size : Option Operand) → IsFormed m (Circuit list start size) → IsNegatable start
start_negatable m list start size formed = negatable start formed.fields.1.0.0

pub size_negatable : (m : ℕ) (list : List ℕ) (start : ℤ) (size : Option Operand) → IsFormed m (Circuit list start size) → IsNegatableSize size
size_negatable m list start None formed = tt
size_negatable m list start (Some (Int z)) formed = negatable z formed.fields.1.1.0.0
size_negatable m list start (Some (Variable v)) formed = tt

pub few_places : (list : List ℕ) (start : ℤ) (size : Option Operand) (most : ℕ) → items_of (Circuit list start size) < most → length list ≤ most
few_places list start size most few = omega (arith, few, more_items list start size)

-- how much it is

room : (k i : ℕ) → 1 + k ≤ i → (k * 3 + (k * k) * 2) + moves_size k ≤ 64 * ((1 + i) * (1 + i))
room k i h = grind arith

-- the law

module _ (ss : List Bounds) (n : ℕ) (start : ℤ) (size : Option Operand) (le : length ss ≤ n) where
  abbrev room_for : List ℕ → ℕ
  room_for list = 64 * ((1 + items_of (Circuit list start size)) * (1 + items_of (Circuit list start size)))

  none_lowered : IsFormed (length ss) (Circuit [] start size) → IsLowered Always (λ a. Holds (Circuit [] start size) a) (AreIntegers (length ss)) n (low_circuit n [] start size) (room_for [])
  none_lowered formed =
      let P : List ℤ → Type 0 = λ b. Holds (Circuit [] start size) b in
      let w : ℕ = room_for [] in
      rules_lower Always Always P (AreIntegers (length ss)) n (low_circuit n [] start size) w (λ a len x d. tt)
      (steady_circuit n [] start size tt (size_before (length ss) n size le (size_below (length ss) [] start size formed))) (λ bs here kinds. (formed_clause bs [] [] tt tt, tt))
      (rule_as Always Always Always Always Always (λ b. clause [] [] ≡ true) P n (low_circuit n [] start size) 0 w (λ b d. d) (λ b d g. g) (λ b d g p. absurd (true≢false (sym p))) (λ b x d g p. absurd (no_circuit start p.0 p.1.0)) (omega arith)
      (rule_clause Always Always n [] [] tt tt))

  some_lowered : (x : ℕ) (xs : List ℕ) → IsFormed (length ss) (Circuit (x ∷ xs) start size) → IsMeasured ss (Circuit (x ∷ xs) start size)
      → IsLowered Always (λ a. Holds (Circuit (x ∷ xs) start size) a) (AreIntegers (length ss)) n (low_circuit n (x ∷ xs) start size) (room_for (x ∷ xs))
  some_lowered x xs formed small =
      let list : List ℕ = x ∷ xs in
      let c : Nodes = nodes_of list start size in
      let P : List ℤ → Type 0 = λ b. Holds (Circuit list start size) b in
      let w : ℕ = room_for list in
      let k : ℕ = length c.list in
      let last : ℕ = length (map Var xs) in
      let below : AllByRecursion (λ v. v < length ss) list = variables_below (length ss) list formed.fields.0 in
      let sized : IsSizeBelow (length ss) size = size_below (length ss) list start size formed in
      let before : IsSizeBefore n size = size_before (length ss) n size le sized in
      let earlier : AllByRecursion (λ v. v < n) list = below_more (length ss) n list le below in
      let R : List ℤ → Type 0 = λ b. Checks start k last (drop 1 c.list) (values c b) × IsSizeSum b size (sum_of (moved_bits c b)) in
      let long : (b : List ℤ) → k ≡ length (values c b) = λ b. sym (mapped_long (num b) c.list) in
      let same : (b : List ℤ) → values c b ≡ map (at b) list = λ b. nums_of_variables b list in
      let C : List ℤ → List ℤ → Type 0 = λ b zs. (j : ℕ) × (IsCircuit start zs j × IsSizeOf b size j) in
      rules_lower Always Always P (AreIntegers (length ss)) n (low_circuit n list start size) w (λ a len y d. tt) (steady_circuit n list start size earlier before)
      (λ bs here kinds. formed_nodes c (fits ss x xs start size small) n bs here (variables_integers (length ss) bs list kinds below) (size_formed ss list start size small bs kinds sized))
      (rule_as Always Always Always Always Always R P n (low_nodes n c) ((k * 3 + (k * k) * 2) + moves_size k) w (λ b d. d) (λ b d g. g)
      (λ b d g p. subst (C b) (same b) (circuit_of start (values c b) k last (long b) refl (drop 1 c.list) refl b size p.0 p.1))
      (λ b y d g p. of_circuit start (values c b) k last (long b) refl (drop 1 c.list) refl b size (subst (C b) (sym (same b)) p))
      (room k (items_of (Circuit list start size)) (subst (λ (j : ℕ). 1 + j ≤ items_of (Circuit list start size)) (sym (mapped_long Var list)) (more_items list start size)))
      (rule_nodes c last refl Always n (variables_before n list earlier) before))

pub circuit_lowered : CircuitLowered
circuit_lowered ss n [] start size formed small le = none_lowered ss n start size le formed
circuit_lowered ss n (x ∷ xs) start size formed small le = some_lowered ss n start size le x xs formed small

-- what holds of any values does of those within bounds
within : (ss : List Bounds) (P : List ℤ → Type 0) (n : ℕ) (xs : List Item) (w : ℕ) → IsLowered Always P (AreIntegers (length ss)) n xs w → IsLowered (BeginsWithin ss) P (AreBounded ss) n xs w
within ss P n xs w r = record {
  means = record { sound = λ a c len room inside h. r.means.sound a c len room tt h; complete = λ a len inside p. r.means.complete a len tt p };
  stepwise = r.stepwise;
  before = r.before;
  size = r.size;
  formed = λ booleans long kinds. r.formed booleans long kinds.0;
}

pub sound_circuit_lowered : SoundCircuitLowered
sound_circuit_lowered ss n list start size sound le = within ss _ n _ _ (circuit_lowered ss n list start size sound.formed (sound.measured refl) le)
