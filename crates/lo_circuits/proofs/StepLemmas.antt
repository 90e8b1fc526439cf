-- The judgement of the walk, of the places that it meets, and of all that `circuit` is lowered to.
use Rattle.std.proofs.Common.{◌≡◌, inl, inr, ℕ, ◌+◌, ◌*◌, ◌≤◌, ℤ, pos, negsuc, ◌+ℤ◌, ◌-ℤ◌, ◌≤ℤ◌, Bool, true, false, ◌||◌, Option, None, Some, List, [], ◌∷◌, ◌++◌, length, map, drop, refl, ap, ap₂, sym, subst, ◌∙◌, arith, true≢false}
use Rattle.std.specs.Prelude.{if◌then◌else◌}
use Rattle.std.specs.List.{AllByRecursion, list_any, range_with_len}
use Rattle.std.specs.Ordering.{int_eq}
use Rattle.std.proofs.lemmas.Int.{ints}
use Rattle.fz_model.specs.declared.builtin.Builtin.TheVariants.{IntEqReif}
use Rattle.fz_model.specs.Meaning.{truth, is_one, is_zero, dot, clause}
use Rattle.fz_model.proofs.Calls.{number-Int, equal}
use Rattle.lo_base.specs.Item.{Posted, made}
use Rattle.lo_base.proofs.Solving.{made-append}
use Rattle.lo_emit.specs.declared.compare.Relation.TheVariants.{Eq}
use Rattle.lo_emit.specs.declared.term.Term.{Term}
use Rattle.lo_emit.specs.declared.term.Term.TheVariants.{Int, Var}
use Rattle.lo_emit.specs.Conditions.{term_of as operand_term}
use Rattle.lo_emit.specs.Emitted.{Out, Outs, standing, integer_of_sum, integer_of_place, integer_of_truth, truth_of_two, clause as clause_call}
use Rattle.lo_emit.specs.Loops.{for_all, paired}
use Rattle.lo_emit.specs.Sums.{sum_call}
use Rattle.lo_circuits.specs.declared.nodes.Nodes.{Nodes}
use Rattle.lo_circuits.specs.Circuit.{chained, index_range, indices, bits, first_index, place_of, value_at, walk, meetings, low_met, low_size}
use Rattle.lo_circuits.proofs.Chained.{scan, Stated, chained_before, rule_chained}
use Rattle.lo_circuits.proofs.WalkLemmas.{place, step, Asks}
use Rattle.lo_circuits.proofs.RuleLemmas.{times_same, values, moved_bits, seen_bits, first_in, walk_in, indices_before, indices_long, any_such, rule_bits, dot_all_ones, dot_ones}
use Rattle.lo_rules.specs.Rule.{num, Before, AllBefore, Always, Rule}
use Rattle.lo_rules.proofs.Atoms.{rule_none}
use Rattle.lo_rules.proofs.Chains.{states_behind_all}
use Rattle.lo_rules.proofs.Conditions.{num_operand}
use Rattle.lo_rules.proofs.Integers.{member_at, IsPlace, rule_solved, rule_place}
use Rattle.lo_rules.proofs.Linear.{rule_sum, mapped_long}
use Rattle.lo_rules.proofs.Loops.{rules_for_all, yields_each}
use Rattle.lo_rules.proofs.Pairs.{cons_head, cons_tail, paired_before, length_paired, each_long}
use Rattle.lo_rules.proofs.Rules.{rules_join, rule_as}
use Rattle.lo_rules.proofs.Terms.{before_more, all_before_more, yields_eq, rule_clause}
use Rattle.lo_rules.proofs.Tests.{one_truth}
use Rattle.xf_num.specs.Span.{Bounds}
use Rattle.xs_model.specs.declared.term.Term.{Term as Operand}
use Rattle.xs_model.specs.Conditions.{value_of}
use Rattle.xs_model.specs.Value.{sum_of}
use Rattle.xs_paths.specs.Round.{IsSizeSum}
use Rattle.xs_paths.specs.Walk.{is_moved}

-- the first index

module _ (D : List ℤ → Type 0) (n : ℕ) (c : Nodes) (zs : List Term) (before : AllBefore n zs) (is : (b : List ℤ) → D b → map (num b) zs ≡ seen_bits c b) where
  pub rule_first : Rule Always D n (first_index n c zs).items (4 + length zs + length zs) (λ b. num b (Var n) ≡ first_in c b)
      (λ b. (c.start ≤ℤ first_in c b) × (first_in c b ≤ℤ ((c.start +ℤ pos (length c.list)) -ℤ pos 1)))
  rule_first =
      let end : ℤ = c.start +ℤ pos (length c.list) in
      let ones : List ℤ = map (λ z. pos 1) zs in
      let many : length ones ≡ length zs = mapped_long (λ z. pos 1) zs in
      let f : List ℤ → ℤ = λ vs. end -ℤ sum_of vs in
      let same : (b : List ℤ) → D b → f (map (num b) zs) ≡ first_in c b = λ b d. ap f (is b d) in
      rule_as Always D D (λ b. num b (Var n) ≡ f (map (num b) zs)) (λ b. num b (Var n) ≡ first_in c b) (λ b. Always b × (c.start ≤ℤ f (map (num b) zs)) × (f (map (num b) zs) ≤ℤ (index_range c).hi))
      (λ b. (c.start ≤ℤ first_in c b) × (first_in c b ≤ℤ ((c.start +ℤ pos (length c.list)) -ℤ pos 1))) n (first_index n c zs).items (4 + length ones + length zs) (4 + length zs + length zs) (λ b d. d) (λ b d g. g ∙ same b d)
      (λ b d g p. (subst (λ (z : ℤ). c.start ≤ℤ z) (same b d) p.1, subst (λ (z : ℤ). z ≤ℤ (index_range c).hi) (same b d) p.2))
      (λ b x d g p. (tt, subst (λ (z : ℤ). c.start ≤ℤ z) (sym (same b d)) p.0, subst (λ (z : ℤ). z ≤ℤ (index_range c).hi) (sym (same b d)) p.1)) (omega (arith, many))
      (rule_solved Always D n (index_range c) ones (pos 1) zs end f (inl refl) many before (λ vs z long e. only (sum_of vs) z end (sym (dot_all_ones zs vs z (sym many ∙ sym long)) ∙ e))
      (λ vs long. dot_all_ones zs vs (f vs) (sym many ∙ sym long) ∙ all (sum_of vs) end))
    where
      only : (s z e : ℤ) → (s +ℤ z) ≡ e → z ≡ (e -ℤ s)
      only s z e h = omega (arith, ints, h)

      all : (s e : ℤ) → (s +ℤ (e -ℤ s)) ≡ e
      all s e = omega (arith, ints)

-- a step of the walk

place_dot : (v z : ℤ) → dot (pos 1 ∷ negsuc 0 ∷ []) (v ∷ z ∷ []) ≡ (v -ℤ z)
place_dot v z = omega (arith, ints)

place_only : (start v z : ℤ) → (v -ℤ z) ≡ (start -ℤ pos 1) → z ≡ place start v
place_only start v z h = omega (arith, ints, h)

place_solved : (start v : ℤ) → (v -ℤ place start v) ≡ (start -ℤ pos 1)
place_solved start v = omega (arith, ints)

head_place : ℤ → List ℤ → ℤ
head_place start [] = pos 0
head_place start (v ∷ vs) = place start v

one_only : (start : ℤ) (vs : List ℤ) (z : ℤ) → length vs ≡ 1 → dot (pos 1 ∷ negsuc 0 ∷ []) (vs ++ z ∷ []) ≡ (start -ℤ pos 1) → z ≡ head_place start vs
unfolding head_place
one_only start [] z long h = absurd (omega (arith, long))
one_only start (v ∷ []) z long h = place_only start v z (sym (place_dot v z) ∙ h)
one_only start (v ∷ w ∷ vs) z long h = absurd (omega (arith, long))

one_solved : (start : ℤ) (vs : List ℤ) → length vs ≡ 1 → dot (pos 1 ∷ negsuc 0 ∷ []) (vs ++ head_place start vs ∷ []) ≡ (start -ℤ pos 1)
unfolding head_place
one_solved start [] long = absurd (omega (arith, long))
one_solved start (v ∷ []) long = place_dot v (place start v) ∙ place_solved start v
one_solved start (v ∷ w ∷ vs) long = absurd (omega (arith, long))

module _ (D : List ℤ → Type 0) (n : ℕ) (c : Nodes) (before : AllBefore n c.list) (i : Term) (hi : Before n i) where
  abbrev Asked : List ℤ → Type 0
  Asked b = Asks c.start (length c.list) (values c b) (num b i) i

  abbrev Next : List ℤ → ℤ
  Next b = step c.start (values c b) (num b i) i

  -- the value at a place that some term is
  at_term : (p : Out) (R : List ℤ → Type 0) → Rule Always D n p.items 6 (λ b. num b p.term ≡ place c.start (num b i)) R → Before (n + made p.items) p.term → ((b : List ℤ) → Asked b → R b)
      → Rule Always D n (p.items ++ (integer_of_place (n + made p.items) (index_range c) p.term c.list).items) (9 + length c.list) (λ b. num b (Var (n + made p.items)) ≡ Next b) Asked
  at_term p R first hp asked =
      let k : ℕ = n + made p.items in
      let w : Bounds = index_range c in
      let e : Out = integer_of_place k w p.term c.list in
      let G : List ℤ → Type 0 = λ b. num b p.term ≡ place c.start (num b i) in
      let V : ℤ → List ℤ → ℤ = λ z b. member_at (values c b) z in
      let H : List ℤ → Type 0 = λ b. num b (Var k) ≡ V (num b p.term) b in
      let P : ℤ → List ℤ → Type 0 = λ z b. IsPlace (values c b) z × (w.lo ≤ℤ V z b) × (V z b ≤ℤ w.hi) in
      rule_as Always D D (λ b. G b × H b) (λ b. num b (Var k) ≡ Next b) (λ b. R b × P (num b p.term) b) Asked n (p.items ++ e.items) (6 + (3 + length c.list)) (9 + length c.list) (λ b d. d) (λ b d g. g.1 ∙ ap (λ (z : ℤ). V z b) g.0)
      (λ b d g q. subst (λ (z : ℤ). P z b) g.0 q.1) (λ b x d g q. (asked b q, subst (λ (z : ℤ). P z b) (sym g.0) q)) (omega arith)
      (rules_join Always D G H R (λ b. P (num b p.term) b) n p.items e.items 6 (3 + length c.list) first (rule_place Always (λ b. D b × G b) k w p.term c.list hp (all_before_more n k c.list (omega arith) before)))

  value_at_by : (t : Bool) (p : Out) → int_eq c.start (pos 1) ≡ t → p ≡ (if t then standing i else integer_of_sum n (record { lo = pos 1; hi = pos (length c.list) }) (pos 1 ∷ negsuc 0 ∷ []) (i ∷ []) (c.start -ℤ pos 1))
      → Rule Always D n (p.items ++ (integer_of_place (n + made p.items) (index_range c) p.term c.list).items) (9 + length c.list) (λ b. num b (integer_of_place (n + made p.items) (index_range c) p.term c.list).term ≡ Next b) Asked
  unfolding head_place
  value_at_by true p one is =
      subst (λ (q : Out). Rule Always D n (q.items ++ (integer_of_place (n + made q.items) (index_range c) q.term c.list).items) (9 + length c.list) (λ b. num b (integer_of_place (n + made q.items) (index_range c) q.term c.list).term ≡ Next b) Asked) (sym is)
      (at_term (standing i) Always (rule_none Always D (λ b. num b i ≡ place c.start (num b i)) n 6 (λ b d. itself c.start (num b i) (equal c.start (pos 1) one))) (before_more n (n + 0) i (omega arith) hi) (λ b q. tt))
    where
      itself : (s v : ℤ) → s ≡ pos 1 → v ≡ place s v
      itself s v h = omega (arith, ints, h)
  value_at_by false p one is =
      let w : Bounds = record { lo = pos 1; hi = pos (length c.list) } in
      let e : Out = integer_of_sum n w (pos 1 ∷ negsuc 0 ∷ []) (i ∷ []) (c.start -ℤ pos 1) in
      subst (λ (q : Out). Rule Always D n (q.items ++ (integer_of_place (n + made q.items) (index_range c) q.term c.list).items) (9 + length c.list) (λ b. num b (integer_of_place (n + made q.items) (index_range c) q.term c.list).term ≡ Next b) Asked) (sym is)
      (at_term e (λ b. Always b × (pos 1 ≤ℤ place c.start (num b i)) × (place c.start (num b i) ≤ℤ pos (length c.list)))
      (rule_solved Always D n w (pos 1 ∷ []) (negsuc 0) (i ∷ []) (c.start -ℤ pos 1) (head_place c.start) (inr refl) refl (hi, tt) (one_only c.start) (one_solved c.start)) (omega arith)
      (λ b q. (tt, q.0.0, subst (λ (m : ℕ). place c.start (num b i) ≤ℤ pos m) (mapped_long (num b) c.list) q.0.1)))

  pub rule_value_at : Rule Always D n (value_at c n i).items (9 + length c.list) (λ b. num b (value_at c n i).term ≡ Next b) Asked
  rule_value_at = value_at_by (int_eq c.start (pos 1)) (place_of n c i) refl refl

value_at_before : (n : ℕ) (c : Nodes) (i : Term) → Before (n + made (value_at c n i).items) (value_at c n i).term
value_at_before n c i =
    let p : Out = place_of n c i in
    let e : Out = integer_of_place (n + made p.items) (index_range c) p.term c.list in
    omega (arith, made-append p.items e.items)

-- the walk

module _ (D : List ℤ → Type 0) (n : ℕ) (c : Nodes) (before : AllBefore n c.list) (w : Term) (hw : Before n w) (is : (b : List ℤ) → D b → num b w ≡ first_in c b) where
  abbrev next : ℕ → Term → Term → Out
  next k i t = value_at c k i

  next_before : (j : ℕ) (u x : Term) → n ≤ j → Before j u → Unit {0} → Before (j + made (next j u x).items) (next j u x).term
  next_before j u x le hu q = value_at_before j c u

  next_rule : (j : ℕ) (u x : Term) → n ≤ j → Before j u → Unit {0} → Rule Always D j (next j u x).items (9 + length c.list) (λ b. num b (next j u x).term ≡ step c.start (values c b) (num b u) x) (λ b. Asks c.start (length c.list) (values c b) (num b u) x)
  next_rule j u x le hu q = rule_value_at D j c (all_before_more n j c.list le before) u hu

  abbrev rest : List Term
  rest = drop 1 c.list

  pub walk_before : AllBefore (n + made (walk n c w).items) (walk n c w).terms
  walk_before = (
    before_more n (n + made (walk n c w).items) w (omega arith) hw,
    chained_before Always D (λ x. Unit {0}) n (9 + length c.list) next (λ b. step c.start (values c b)) (λ b. Asks c.start (length c.list) (values c b)) next_before next_rule n w rest (omega arith) hw (any_such rest),
  )

  pub rule_walk : Rule Always D n (walk n c w).items (length (drop 1 c.list) * (9 + length c.list)) (λ b. map (num b) (walk n c w).terms ≡ walk_in c b)
      (λ b. Stated (Asks c.start (length c.list) (values c b)) (step c.start (values c b)) (first_in c b) (drop 1 c.list))
  rule_walk =
      let ws : Outs = chained next n w rest in
      let g : List ℤ → ℤ → Term → ℤ = λ b. step c.start (values c b) in
      let S : List ℤ → ℤ → Term → Type 0 = λ b. Asks c.start (length c.list) (values c b) in
      let size : ℕ = length rest * (9 + length c.list) in
      rule_as Always D D (λ b. map (num b) ws.terms ≡ scan (g b) (num b w) rest) (λ b. map (num b) (w ∷ ws.terms) ≡ walk_in c b) (λ b. Stated (S b) (g b) (num b w) rest) (λ b. Stated (S b) (g b) (first_in c b) rest) n ws.items size size (λ b d. d)
      (λ b d e. ap₂ (λ (z : ℤ) (zs : List ℤ). z ∷ zs) (is b d) (e ∙ ap (λ (z : ℤ). scan (g b) z rest) (is b d))) (λ b d e p. subst (λ (z : ℤ). Stated (S b) (g b) z rest) (is b d) p)
      (λ b y d e p. subst (λ (z : ℤ). Stated (S b) (g b) z rest) (sym (is b d)) p) (omega arith)
      (rule_chained Always D (λ x. Unit {0}) n (9 + length c.list) next g S next_before next_rule n w rest (omega arith) hw (any_such rest))

-- the places that the walk meets

abbrev pub Met : (ℕ → Bool) → ℤ → List ℤ → ℕ → Type 0
Met f start ws p = f p ≡ true → list_any (λ w. int_eq w (start +ℤ pos p)) ws ≡ true

if_says : (x b : Bool) → (x || (is_zero (truth b) || false)) ≡ true → b ≡ true → x ≡ true
if_says true b h e = refl
if_says false true h e = absurd (true≢false (sym h))
if_says false false h e = absurd (true≢false (sym e))

if_met : (x b : Bool) → (b ≡ true → x ≡ true) → (x || (is_zero (truth b) || false)) ≡ true
if_met true b h = refl
if_met false true h = absurd (true≢false (sym (h refl)))
if_met false false h = refl

-- the clause of a place: the numbers of the walk against the index, and whether the place is moved
abbrev Clause : List ℤ → List Term → Term × Term → Type 0
Clause b ws p = clause (map (λ w. truth (int_eq (num b w) (num b p.1))) ws) (num b p.0 ∷ []) ≡ true

equal_terms : (b : List ℤ) (i : Term) (z : ℤ) (ws : List Term) → num b i ≡ z → list_any is_one (map (λ w. truth (int_eq (num b w) (num b i))) ws) ≡ list_any (λ v. int_eq v z) (map (num b) ws)
equal_terms b i z [] e = refl
equal_terms b i z (w ∷ ws) e = ap₂ (λ (s t : Bool). s || t) (one_truth (int_eq (num b w) (num b i)) ∙ ap (int_eq (num b w)) e) (equal_terms b i z ws e)

clause_is : (b : List ℤ) (start : ℤ) (f : ℕ → Bool) (ws : List Term) (m : Term) (p : ℕ) → num b m ≡ truth (f p)
    → clause (map (λ w. truth (int_eq (num b w) (num b (Int (start +ℤ pos p))))) ws) (num b m ∷ []) ≡ (list_any (λ v. int_eq v (start +ℤ pos p)) (map (num b) ws) || (is_zero (truth (f p)) || false))
clause_is b start f ws m p e =
    ap₂ (λ (s : Bool) (z : ℤ). s || (is_zero z || false)) (equal_terms b (Int (start +ℤ pos p)) (start +ℤ pos p) ws (number-Int b (start +ℤ pos p))) e

met_says : (b : List ℤ) (start : ℤ) (f : ℕ → Bool) (ws ms : List Term) (ps : List ℕ) → map (num b) ms ≡ map (λ p. truth (f p)) ps → AllByRecursion (Clause b ws) (paired ms (map (λ p. Int (start +ℤ pos p)) ps))
    → AllByRecursion (Met f start (map (num b) ws)) ps
met_says b start f ws [] [] e h = tt
met_says b start f ws [] (p ∷ ps) e h = absurd (cc e)
met_says b start f ws (m ∷ ms) [] e h = absurd (cc e)
met_says b start f ws (m ∷ ms) (p ∷ ps) e h = (
  if_says (list_any (λ v. int_eq v (start +ℤ pos p)) (map (num b) ws)) (f p) (sym (clause_is b start f ws m p (cons_head (num b m) (truth (f p)) (map (num b) ms) (map (λ q. truth (f q)) ps) e)) ∙ h.0),
  met_says b start f ws ms ps (cons_tail (num b m) (truth (f p)) (map (num b) ms) (map (λ q. truth (f q)) ps) e) h.1,
)

met_met : (b : List ℤ) (start : ℤ) (f : ℕ → Bool) (ws ms : List Term) (ps : List ℕ) → map (num b) ms ≡ map (λ p. truth (f p)) ps → AllByRecursion (Met f start (map (num b) ws)) ps
    → AllByRecursion (Clause b ws) (paired ms (map (λ p. Int (start +ℤ pos p)) ps))
met_met b start f ws [] [] e h = tt
met_met b start f ws [] (p ∷ ps) e h = absurd (cc e)
met_met b start f ws (m ∷ ms) [] e h = absurd (cc e)
met_met b start f ws (m ∷ ms) (p ∷ ps) e h = (
  clause_is b start f ws m p (cons_head (num b m) (truth (f p)) (map (num b) ms) (map (λ q. truth (f q)) ps) e) ∙ if_met (list_any (λ v. int_eq v (start +ℤ pos p)) (map (num b) ws)) (f p) h.0,
  met_met b start f ws ms ps (cons_tail (num b m) (truth (f p)) (map (num b) ms) (map (λ q. truth (f q)) ps) e) h.1,
)

module _ (D : List ℤ → Type 0) (n : ℕ) (c : Nodes) (ms ws : List Term) (ms_before : AllBefore n ms) (ws_before : AllBefore n ws) (ms_are : (b : List ℤ) → D b → map (num b) ms ≡ moved_bits c b) (ws_are : (b : List ℤ) → D b → map (num b) ws ≡ walk_in c b)
    (long_ms : length ms ≡ length c.list) (long_ws : length ws ≡ length c.list) where
  met_rule : (k : ℕ) (p : Term × Term) → n ≤ k → Before n p.0 × Before n p.1 → Rule Always D k (low_met ws k p) (length c.list * 4 + (length c.list + 1)) Always (λ b. Clause b ws p)
  met_rule k p le q =
      let cs : Outs = meetings k ws p.1 in
      let V : List ℤ → List ℤ = λ b. map (λ w. truth (int_eq (num b w) (num b p.1))) ws in
      let all =
      yields_each Always D (Before n) k 4 (λ j w. truth_of_two j IntEqReif w p.1) (λ b w. truth (int_eq (num b w) (num b p.1)))
      (λ j w ge h. yields_eq Always D j w p.1 (before_more n j w (omega (arith, le, ge)) h) (before_more n j p.1 (omega (arith, le, ge)) q.1)) k ws (omega arith) ws_before in
      let G : List ℤ → Type 0 = λ b. map (num b) cs.terms ≡ V b in
      let long : length cs.terms ≡ length ws = each_long (λ j w. truth_of_two j IntEqReif w p.1) k ws in
      rule_as Always D D G Always (λ b. clause (map (num b) cs.terms) (num b p.0 ∷ []) ≡ true) (λ b. Clause b ws p) k (low_met ws k p) (length ws * 4 + (length cs.terms + 1)) (length c.list * 4 + (length c.list + 1)) (λ b d. d) (λ b d g. tt)
      (λ b d g h. subst (λ (zs : List ℤ). clause zs (num b p.0 ∷ []) ≡ true) g h) (λ b x d g h. subst (λ (zs : List ℤ). clause zs (num b p.0 ∷ []) ≡ true) (sym g) h) (omega (arith, long, long_ws))
      (states_behind_all Always D k V (λ b. clause (map (num b) cs.terms) (num b p.0 ∷ []) ≡ true) cs (Posted (clause_call cs.terms (p.0 ∷ [])) ∷ []) (length ws * 4) (length cs.terms + 1) all
      (rule_clause Always (λ b. D b × G b) (k + made cs.items) cs.terms (p.0 ∷ []) all.before (before_more n (k + made cs.items) p.0 (omega (arith, le)) q.0, tt)))

  pub rule_meetings : Rule Always D n (for_all (low_met ws) n (paired ms (indices c))) (length c.list * (length c.list * 4 + (length c.list + 1))) Always
      (λ b. AllByRecursion (Met (is_moved c.start (values c b)) c.start (walk_in c b)) (range_with_len 0 (length c.list)))
  rule_meetings =
      let ps : List (Term × Term) = paired ms (indices c) in
      let one : ℕ = length c.list * 4 + (length c.list + 1) in
      let js : List ℕ = range_with_len 0 (length c.list) in
      let f : List ℤ → ℕ → Bool = λ b. is_moved c.start (values c b) in
      rule_as Always D D Always Always (λ b. AllByRecursion (Clause b ws) ps) (λ b. AllByRecursion (Met (f b) c.start (walk_in c b)) js) n (for_all (low_met ws) n ps) (length ps * one) (length c.list * one) (λ b d. d) (λ b d g. g)
      (λ b d g h. subst (λ (zs : List ℤ). AllByRecursion (Met (f b) c.start zs) js) (ws_are b d) (met_says b c.start (f b) ws ms js (ms_are b d) h))
      (λ b x d g h. met_met b c.start (f b) ws ms js (ms_are b d) (subst (λ (zs : List ℤ). AllByRecursion (Met (f b) c.start zs) js) (sym (ws_are b d)) h))
      (times_same (length ps) (length c.list) one (length_paired ms (indices c) (long_ms ∙ sym (indices_long c)) ∙ indices_long c))
      (rules_for_all Always D (λ (p : Term × Term). Before n p.0 × Before n p.1) n one (low_met ws) (λ b p. Clause b ws p) met_rule n ps (omega arith) (paired_before n (Before n) ms (indices c) ms_before (indices_before n c.start js)))

-- the size

abbrev pub IsSizeBefore : ℕ → Option Operand → Type 0
IsSizeBefore n None = Unit {0}
IsSizeBefore n (Some t) = Before n (operand_term t)

pub size_more : (m n : ℕ) (size : Option Operand) → m ≤ n → IsSizeBefore m size → IsSizeBefore n size
size_more m n None le h = tt
size_more m n (Some t) le h = before_more m n (operand_term t) le h

module _ (D : List ℤ → Type 0) (n : ℕ) (c : Nodes) (ms : List Term) (before : AllBefore n ms) (is : (b : List ℤ) → D b → map (num b) ms ≡ moved_bits c b) where
  pub rule_size : (size : Option Operand) → IsSizeBefore n size → Rule Always D n (low_size n ms size) (length ms * 3 + (3 + 2 * length ms)) Always (λ b. IsSizeSum b size (sum_of (moved_bits c b)))
  rule_size None h =
      rule_as Always D D Always Always Always (λ b. IsSizeSum b None (sum_of (moved_bits c b))) n [] 0 (length ms * 3 + (3 + 2 * length ms)) (λ b d. d) (λ b d g. g) (λ b d g p. tt) (λ b x d g p. tt) (omega arith) (rule_none Always D Always n 0 (λ b d. tt))
  rule_size (Some t) h =
      let all = rule_bits D n (λ b. is_moved c.start (values c b)) (length c.list) ms before is in
      let zs : Outs = bits n ms in
      let u : Term = operand_term t in
      let k : ℕ = n + made zs.items in
      let ones : List ℤ = map (λ z. pos 1) zs.terms in
      let long : length ones ≡ length zs.terms = mapped_long (λ z. pos 1) zs.terms in
      let G : List ℤ → Type 0 = λ b. map (num b) zs.terms ≡ moved_bits c b in
      let P : List ℤ → Type 0 = λ b. dot ones (map (num b) zs.terms) ≡ num b u in
      let many : length zs.terms ≡ length ms = each_long integer_of_truth n ms in
      let sum : (b : List ℤ) → G b → dot ones (map (num b) zs.terms) ≡ sum_of (moved_bits c b) = λ b g. dot_ones zs.terms (map (num b) zs.terms) (sym (mapped_long (num b) zs.terms)) ∙ ap sum_of g in
      rule_as Always D D G Always P (λ b. sum_of (moved_bits c b) ≡ value_of b t) n (low_size n ms (Some t)) (length ms * 3 + (3 + 2 * length zs.terms)) (length ms * 3 + (3 + 2 * length ms)) (λ b d. d) (λ b d g. tt)
      (λ b d g p. sym (sum b g) ∙ p ∙ num_operand b t) (λ b x d g p. sum b g ∙ p ∙ sym (num_operand b t)) (omega (arith, many))
      (states_behind_all Always D n (moved_bits c) P zs (Posted (sum_call Eq ones zs.terms u) ∷ []) (length ms * 3) (3 + 2 * length zs.terms) all
      (rule_sum Always (λ b. D b × G b) k Eq ones zs.terms u long all.before (before_more n k u (omega arith) h)))
