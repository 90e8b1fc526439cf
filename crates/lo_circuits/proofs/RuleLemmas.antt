-- The judgement of each step of what `circuit` is lowered to.
use Rattle.std.proofs.Common.{◌≡◌, ◌≢◌, ℕ, zero, suc, ◌+◌, ◌*◌, ◌<◌, ◌≤◌, ℤ, pos, ◌+ℤ◌, ◌≤ℤ◌, Bool, true, false, not, ◌||◌, List, [], ◌∷◌, ◌++◌, length, map, drop, refl, ap, ap₂, sym, subst, ◌∙◌, arith}
use Rattle.std.specs.Prelude.{get_or}
use Rattle.std.specs.List.{AllByRecursion, list_any, range_with_len}
use Rattle.std.specs.Ordering.{int_eq}
use Rattle.std.proofs.lemmas.Int.{ints}
use Rattle.std.proofs.lemmas.List.FromFn.{length-map-range_with_len}
use Rattle.std.proofs.lemmas.Simd.{map-map}
use Rattle.fz_model.specs.Fixing.{IsBit}
use Rattle.fz_model.specs.Meaning.{truth, is_one, dot}
use Rattle.fz_model.proofs.Calls.{number-Int}
use Rattle.lo_base.specs.Item.{Item, made}
use Rattle.lo_base.proofs.Solving.{truth_bit}
use Rattle.lo_emit.specs.declared.compare.Relation.TheVariants.{Ne}
use Rattle.lo_emit.specs.declared.term.Term.{Term}
use Rattle.lo_emit.specs.declared.term.Term.TheVariants.{Int}
use Rattle.lo_emit.specs.Emitted.{Outs, integer_of_truth}
use Rattle.lo_emit.specs.Loops.{for_all, paired, Pairwise}
use Rattle.lo_circuits.specs.declared.nodes.Nodes.{Nodes}
use Rattle.lo_circuits.specs.Circuit.{chained, index_range, indices, low_inside, is_moved_one, moves, or_next, seen, bits, low_checks}
use Rattle.lo_circuits.proofs.Chained.{scan, Stated, chained_before, rule_chained}
use Rattle.lo_circuits.proofs.WalkLemmas.{stride, first_of}
use Rattle.lo_forms.specs.Different.{differ, low_different}
use Rattle.lo_rules.specs.Rule.{num, Before, AllBefore, Always, Rule, YieldsAll}
use Rattle.lo_rules.proofs.Atoms.{rule_none}
use Rattle.lo_rules.proofs.Integers.{rule_compare, rule_within}
use Rattle.lo_rules.proofs.Linear.{yields_integer, mapped_long}
use Rattle.lo_rules.proofs.Loops.{rules_both, rules_for_all, rules_for_pairs, yields_each}
use Rattle.lo_rules.proofs.Pairs.{cons_head, cons_tail, paired_before, length_paired, pairwise_mapped, pairwise_unmapped, pairwise_of_places, places_of_pairwise}
use Rattle.lo_rules.proofs.Rules.{rule_as}
use Rattle.lo_rules.proofs.Terms.{before_more, yields_ne, yields_or}
use Rattle.xf_num.specs.Span.{Bounds}
use Rattle.xs_laws.specs.Indices.{IsIndex, bits_below}
use Rattle.xs_model.specs.Comparing.{AreDifferent}
use Rattle.xs_model.specs.Value.{at, sum_of}
use Rattle.xs_paths.specs.Carried.{seen_from}
use Rattle.xs_paths.specs.Steps.{is_seen}
use Rattle.xs_paths.specs.Walk.{is_moved}
use Rattle.xs_paths.proofs.Carried.{seen_is_carried}

pub times_same : (a b w : ℕ) → a ≡ b → a * w ≤ b * w
times_same a b w e = subst (λ (k : ℕ). a * w ≤ k * w) e (omega arith)

-- lists of terms and of their numbers

abbrev pub values : Nodes → List ℤ → List ℤ
values c b = map (num b) c.list

-- for each place whether it is moved, and whether it or one before it is
abbrev pub moved_bits : Nodes → List ℤ → List ℤ
moved_bits c b = bits_below (is_moved c.start (values c b)) (length c.list)

abbrev pub seen_bits : Nodes → List ℤ → List ℤ
seen_bits c b = bits_below (is_seen (is_moved c.start (values c b))) (length c.list)

abbrev pub first_in : Nodes → List ℤ → ℤ
first_in c b = first_of c.start (length c.list) (values c b)

abbrev pub walk_in : Nodes → List ℤ → List ℤ
walk_in c b = stride c.start (values c b) (first_in c b) (drop 1 c.list)

-- how many terms there are, where their numbers are these
long_terms : (b : List ℤ) (ts : List Term) (zs : List ℤ) → map (num b) ts ≡ zs → length ts ≡ length zs
long_terms b ts zs e = sym (mapped_long (num b) ts) ∙ ap length e

pub indices_before : (n : ℕ) (start : ℤ) (ps : List ℕ) → AllBefore n (map (λ p. Int (start +ℤ pos p)) ps)
indices_before n start [] = tt
indices_before n start (p ∷ ps) = (tt, indices_before n start ps)

pub indices_long : (c : Nodes) → length (indices c) ≡ length c.list
indices_long c = length-map-range_with_len (λ p. Int (c.start +ℤ pos p)) 0 (length c.list)

pub any_such : {X : Type 0} (xs : List X) → AllByRecursion (λ x. Unit {0}) xs
any_such [] = tt
any_such (x ∷ xs) = (tt, any_such xs)

-- each value is an index, and no two are the same

module _ (D : List ℤ → Type 0) (n : ℕ) (c : Nodes) (before : AllBefore n c.list) where
  index_of : (z : ℤ) → (c.start ≤ℤ z) × (z ≤ℤ (index_range c).hi) → IsIndex c.start (length c.list) z
  index_of z h = (h.0, let k = h.1 in omega (arith, ints, k))

  of_index : (z : ℤ) → IsIndex c.start (length c.list) z → (c.start ≤ℤ z) × (z ≤ℤ (index_range c).hi)
  of_index z h = (h.0, let k = h.1 in omega (arith, ints, k))

  all_indices : (b : List ℤ) (ts : List Term) → AllByRecursion (λ t. (c.start ≤ℤ num b t) × (num b t ≤ℤ (index_range c).hi)) ts → AllByRecursion (IsIndex c.start (length c.list)) (map (num b) ts)
  all_indices b [] h = tt
  all_indices b (t ∷ ts) h = (index_of (num b t) h.0, all_indices b ts h.1)

  of_indices : (b : List ℤ) (ts : List Term) → AllByRecursion (IsIndex c.start (length c.list)) (map (num b) ts) → AllByRecursion (λ t. (c.start ≤ℤ num b t) × (num b t ≤ℤ (index_range c).hi)) ts
  of_indices b [] h = tt
  of_indices b (t ∷ ts) h = (of_index (num b t) h.0, of_indices b ts h.1)

  pub rule_checks : Rule Always D n (low_checks n c) (length c.list * 3 + (length c.list * length c.list) * 2) Always
      (λ b. AllByRecursion (IsIndex c.start (length c.list)) (values c b) × AreDifferent (values c b))
  rule_checks =
      let w : Bounds = index_range c in
      let ts : List Term = c.list in
      let ranges : List Item = for_all (low_inside w) n ts in
      let k : ℕ = n + made ranges in
      let P : List ℤ → Type 0 = λ b. AllByRecursion (λ t. (c.start ≤ℤ num b t) × (num b t ≤ℤ w.hi)) ts in
      let Q : List ℤ → Type 0 = λ b. Pairwise (λ x y. num b x ≢ num b y) ts in
      let R : List ℤ → Type 0 = λ b. AllByRecursion (IsIndex c.start (length ts)) (values c b) × AreDifferent (values c b) in
      let size : ℕ = length ts * 3 + (length ts * length ts) * 2 in
      rule_as Always D D Always Always (λ b. P b × Q b) R n (low_checks n c) size size (λ b d. d) (λ b d g. g)
      (λ b d g p. (all_indices b ts p.0, places_of_pairwise (λ v z. v ≢ z) (values c b) (pairwise_mapped (num b) (λ v z. v ≢ z) ts p.1)))
      (λ b x d g p. (of_indices b ts p.0, pairwise_unmapped (num b) (λ v z. v ≢ z) ts (pairwise_of_places (λ v z. v ≢ z) (values c b) p.1))) (omega arith)
      (rules_both Always D P Q n ranges (low_different k ts) (length ts * 3) ((length ts * length ts) * 2)
      (rules_for_all Always D (Before n) n 3 (low_inside w) (λ b t. (c.start ≤ℤ num b t) × (num b t ≤ℤ w.hi)) (λ m t le h. rule_within Always D m w t (before_more n m t le h)) n ts (omega arith) before)
      (rules_for_pairs Always D (Before n) n 2 differ (λ b x y. num b x ≢ num b y) (λ m x y le hx hy. rule_compare Always D m Ne x y (before_more n m x le hx) (before_more n m y le hy)) k ts (omega arith) before))

-- whether each place is moved

moved_values : (b : List ℤ) (start : ℤ) (h : ℕ → ℤ) (ts : List Term) (a : ℕ) → ((i : ℕ) → i < length ts → get_or (map (num b) ts) i (pos 0) ≡ h (a + i))
    → map (λ (p : Term × Term). truth (not (int_eq (num b p.0) (num b p.1)))) (paired ts (map (λ p. Int (start +ℤ pos p)) (range_with_len a (length ts))))
    ≡ map (λ p. truth (not (int_eq (h p) (start +ℤ pos p)))) (range_with_len a (length ts))
moved_values b start h [] a is = refl
moved_values b start h (t ∷ ts) a is =
    ap₂ (λ (z : ℤ) (zs : List ℤ). z ∷ zs) (ap₂ (λ (y z : ℤ). truth (not (int_eq y z))) (is 0 (omega arith) ∙ ap h (none_more a)) (number-Int b (start +ℤ pos a)))
    (moved_values b start h ts (a + 1) (λ i lt. is (suc i) (omega (arith, lt)) ∙ ap h (one_up a i)))
  where
    none_more : (a : ℕ) → a + 0 ≡ a
    none_more a = omega arith

    one_up : (a i : ℕ) → a + suc i ≡ (a + 1) + i
    one_up a i = omega arith

module _ (D : List ℤ → Type 0) (n : ℕ) (c : Nodes) (before : AllBefore n c.list) where
  pub rule_moves : YieldsAll Always D n (moves n c) (length c.list * 4) (moved_bits c)
  rule_moves =
      let ps : List (Term × Term) = paired c.list (indices c) in
      let V : List ℤ → Term × Term → ℤ = λ b p. truth (not (int_eq (num b p.0) (num b p.1))) in
      let all = yields_each Always D (λ (p : Term × Term). Before n p.0 × Before n p.1) n 4 is_moved_one V (λ k p le q. yields_ne Always D k p.0 p.1 (before_more n k p.0 le q.0) (before_more n k p.1 le q.1)) n ps (omega arith)
      (paired_before n (Before n) c.list (indices c) before (indices_before n c.start (range_with_len 0 (length c.list)))) in
      let G : List ℤ → Type 0 = λ b. map (num b) (moves n c).terms ≡ map (V b) ps in
      record {
        rule =
            rule_as Always D D G (λ b. map (num b) (moves n c).terms ≡ moved_bits c b) Always Always n (moves n c).items (length ps * 4) (length c.list * 4) (λ b d. d)
            (λ b d g. g ∙ moved_values b c.start (at (values c b)) c.list 0 (λ i lt. ap (at (values c b)) (none_less i))) (λ b d g p. tt) (λ b x d g p. tt)
            (times_same (length ps) (length c.list) 4 (length_paired c.list (indices c) (sym (indices_long c)) ∙ indices_long c)) all.rule;
        before = all.before;
      }
    where
      none_less : (i : ℕ) → i ≡ 0 + i
      none_less i = omega arith

-- whether each place or one before it is moved

abbrev or_value : List ℤ → ℤ → Term → ℤ
or_value b u m = truth (list_any is_one (u ∷ num b m ∷ []))

either : (s t : Bool) → list_any is_one (truth s ∷ truth t ∷ []) ≡ (s || t)
either true t = refl
either false true = refl
either false false = refl

scan_seen : (b : List ℤ) (t : Bool) (ms : List Term) (bs : List Bool) → map (num b) ms ≡ map truth bs → scan (or_value b) (truth t) ms ≡ map truth (seen_from t bs)
scan_seen b t [] [] e = refl
scan_seen b t [] (s ∷ bs) e = absurd (cc e)
scan_seen b t (m ∷ ms) [] e = absurd (cc e)
scan_seen b t (m ∷ ms) (s ∷ bs) e =
    let here : or_value b (truth t) m ≡ truth (t || s) =
    ap (λ (z : ℤ). truth (list_any is_one (truth t ∷ z ∷ []))) (cons_head (num b m) (truth s) (map (num b) ms) (map truth bs) e) ∙ ap truth (either t s) in
    ap₂ (λ (z : ℤ) (zs : List ℤ). z ∷ zs) here (ap (λ (z : ℤ). scan (or_value b) z ms) here ∙ scan_seen b (t || s) ms bs (cons_tail (num b m) (truth s) (map (num b) ms) (map truth bs) e))

seen_values : (b : List ℤ) (m : Term) (ms : List Term) (bs : List Bool) → map (num b) (m ∷ ms) ≡ map truth bs → num b m ∷ scan (or_value b) (num b m) ms ≡ map truth (seen_from false bs)
seen_values b m ms [] e = absurd (cc e)
seen_values b m ms (s ∷ bs) e =
    let head = cons_head (num b m) (truth s) (map (num b) ms) (map truth bs) e in
    ap₂ (λ (z : ℤ) (zs : List ℤ). z ∷ zs) head
    (ap (λ (z : ℤ). scan (or_value b) z ms) head ∙ scan_seen b s ms bs (cons_tail (num b m) (truth s) (map (num b) ms) (map truth bs) e))

pub seen_are : (f : ℕ → Bool) (k : ℕ) → map truth (seen_from false (map f (range_with_len 0 k))) ≡ bits_below (is_seen f) k
seen_are f k = ap (map truth) (sym (seen_is_carried f k)) ∙ map-map truth (is_seen f) (range_with_len 0 k)

module _ (D : List ℤ → Type 0) (n : ℕ) where
  pub rule_seen : (f : List ℤ → ℕ → Bool) (k : ℕ) (ms : List Term) → AllBefore n ms → ((b : List ℤ) → D b → map (num b) ms ≡ bits_below (f b) k)
      → YieldsAll Always D n (seen n ms) (length ms * 4) (λ b. bits_below (is_seen (f b)) k)
  rule_seen f k [] before is = record {
    rule = rule_none Always D (λ b. map (num b) [] ≡ bits_below (is_seen (f b)) k) n 0 (λ b d. none (f b) k (is b d));
    before = tt;
  }
    where
      none : (g : ℕ → Bool) (k : ℕ) → [] ≡ bits_below g k → [] ≡ bits_below (is_seen g) k
      none g zero e = refl
      none g (suc k) e = absurd (cc e)
  rule_seen f k (m ∷ ms) before is =
      let rs : Outs = chained or_next n m ms in
      let lists : (j : ℕ) (u x : Term) → n ≤ j → Before j u → Before n x → AllBefore j (u ∷ x ∷ []) = λ j u x le hu hx. (hu, (before_more n j x le hx, tt)) in
      let step_before : (j : ℕ) (u x : Term) → n ≤ j → Before j u → Before n x → Before (j + made (or_next j u x).items) (or_next j u x).term = λ j u x le hu hx. (yields_or Always D j (u ∷ x ∷ []) (lists j u x le hu hx)).before in
      let G : List ℤ → Type 0 = λ b. map (num b) rs.terms ≡ scan (or_value b) (num b m) ms in
      let P : List ℤ → Type 0 = λ b. Stated (λ u x. Unit {0}) (or_value b) (num b m) ms in
      let bs : List ℤ → List Bool = λ b. map (f b) (range_with_len 0 k) in
      let words : (b : List ℤ) → bits_below (f b) k ≡ map truth (bs b) = λ b. sym (map-map truth (f b) (range_with_len 0 k)) in
      record {
        rule =
            rule_as Always D D G (λ b. map (num b) (m ∷ rs.terms) ≡ bits_below (is_seen (f b)) k) P Always n rs.items (length ms * 4) (length (m ∷ ms) * 4) (λ b d. d)
            (λ b d g. ap (λ (zs : List ℤ). num b m ∷ zs) g ∙ seen_values b m ms (bs b) (is b d ∙ words b) ∙ seen_are (f b) k) (λ b d g p. tt) (λ b x d g p. nothing b (num b m) ms) (omega arith)
            (rule_chained Always D (Before n) n 4 or_next or_value (λ b u x. Unit {0}) step_before
            (λ j u x le hu hx. (yields_or Always D j (u ∷ x ∷ []) (lists j u x le hu hx)).rule) n m ms (omega arith) before.0 before.1);
        before = (
          before_more n (n + made rs.items) m (omega arith) before.0,
          chained_before Always D (Before n) n 4 or_next or_value (λ b u x. Unit {0}) step_before (λ j u x le hu hx. (yields_or Always D j (u ∷ x ∷ []) (lists j u x le hu hx)).rule) n m ms (omega arith) before.0 before.1,
        );
      }
    where
      nothing : (b : List ℤ) (u : ℤ) (xs : List Term) → Stated (λ v x. Unit {0}) (or_value b) u xs
      nothing b u [] = tt
      nothing b u (x ∷ xs) = (tt, nothing b (or_value b u x) xs)

  -- the integers that truth values are
  are_bits : (f : List ℤ → ℕ → Bool) (ps : List ℕ) (ts : List Term) → AllBefore n ts → ((b : List ℤ) → D b → map (num b) ts ≡ map (λ p. truth (f b p)) ps)
      → AllByRecursion (λ t. Before n t × ((b : List ℤ) → D b → IsBit (num b t))) ts
  are_bits f ps [] before is = tt
  are_bits f [] (t ∷ ts) before is = ((before.0, λ b d. absurd (cc (is b d))), are_bits f [] ts before.1 (λ b d. absurd (cc (is b d))))
  are_bits f (p ∷ ps) (t ∷ ts) before is = (
    (before.0, λ b d. subst IsBit (sym (cons_head (num b t) (truth (f b p)) (map (num b) ts) (map (λ q. truth (f b q)) ps) (is b d))) (truth_bit (f b p))),
    are_bits f ps ts before.1 (λ b d. cons_tail (num b t) (truth (f b p)) (map (num b) ts) (map (λ q. truth (f b q)) ps) (is b d)),
  )

  pub rule_bits : (f : List ℤ → ℕ → Bool) (k : ℕ) (ts : List Term) → AllBefore n ts → ((b : List ℤ) → D b → map (num b) ts ≡ bits_below (f b) k) → YieldsAll Always D n (bits n ts) (length ts * 3) (λ b. bits_below (f b) k)
  rule_bits f k ts before is =
      let Q : Term → Type 0 = λ t. Before n t × ((b : List ℤ) → D b → IsBit (num b t)) in
      let all = yields_each Always D Q n 3 integer_of_truth num (λ j t le q. yields_integer Always D j t (before_more n j t le q.0) q.1) n ts (omega arith) (are_bits f (range_with_len 0 k) ts before is) in
      let G : List ℤ → Type 0 = λ b. map (num b) (bits n ts).terms ≡ map (num b) ts in
      record {
        rule = rule_as Always D D G (λ b. map (num b) (bits n ts).terms ≡ bits_below (f b) k) Always Always n (bits n ts).items (length ts * 3) (length ts * 3) (λ b d. d) (λ b d g. g ∙ is b d) (λ b d g p. tt) (λ b x d g p. tt) (omega arith) all.rule;
        before = all.before;
      }

-- sums of as many ones

pub dot_all_ones : {X : Type 0} (ts : List X) (us : List ℤ) (z : ℤ) → length ts ≡ length us → dot (map (λ (t : X). pos 1) ts ++ pos 1 ∷ []) (us ++ z ∷ []) ≡ (sum_of us +ℤ z)
dot_all_ones [] [] z h = omega (arith, ints)
dot_all_ones [] (u ∷ us) z h = absurd (omega (arith, h))
dot_all_ones (t ∷ ts) [] z h = absurd (omega (arith, h))
dot_all_ones (t ∷ ts) (u ∷ us) z h = let rest = dot_all_ones ts us z (omega (arith, h)) in omega (arith, ints, rest)

pub dot_ones : {X : Type 0} (ts : List X) (us : List ℤ) → length ts ≡ length us → dot (map (λ (t : X). pos 1) ts) us ≡ sum_of us
dot_ones [] [] h = refl
dot_ones [] (u ∷ us) h = absurd (omega (arith, h))
dot_ones (t ∷ ts) [] h = absurd (omega (arith, h))
dot_ones (t ∷ ts) (u ∷ us) h = let rest = dot_ones ts us (omega (arith, h)) in omega (arith, ints, rest)
