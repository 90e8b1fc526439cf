-- The judgement of what comes behind each step of `circuit`, and of all of it.
use Rattle.std.proofs.Common.{◌≡◌, ℕ, suc, ◌+◌, ◌-◌, ◌*◌, ◌≤◌, ℤ, pos, ◌+ℤ◌, ◌-ℤ◌, ◌≤ℤ◌, Bool, true, false, List, [], ◌∷◌, ◌++◌, length, map, drop, refl, ap, sym, subst, ◌∙◌, arith, true≢false}
use Rattle.std.specs.Prelude.{slice_index_or}
use Rattle.std.specs.List.{AllByRecursion, range_with_len}
use Rattle.std.proofs.lemmas.List.{get_or-map}
use Rattle.std.proofs.lemmas.List.FromFn.{get_or-map-range_with_len}
use Rattle.fz_model.specs.Meaning.{truth, clause}
use Rattle.lo_base.specs.Item.{Item, made}
use Rattle.lo_emit.specs.declared.term.Term.{Term}
use Rattle.lo_emit.specs.declared.term.Term.TheVariants.{Truth}
use Rattle.lo_emit.specs.Emitted.{Out, Outs, integer_of_truth}
use Rattle.lo_emit.specs.Loops.{for_all, paired}
use Rattle.lo_circuits.specs.declared.nodes.Nodes.{Nodes}
use Rattle.lo_circuits.specs.Circuit.{indices, is_moved_one, moves, or_next, seen, bits, first_index, walk, value_at, low_met, low_size, low_meetings, low_walk, low_first, low_some, low_seen, low_moves, low_checks, low_nodes}
use Rattle.lo_circuits.proofs.Chained.{Stated, chained_long}
use Rattle.lo_circuits.proofs.RuleLemmas.{values, moved_bits, seen_bits, first_in, walk_in, indices_long, rule_checks, rule_moves, rule_seen, rule_bits}
use Rattle.lo_circuits.proofs.StepLemmas.{rule_first, rule_walk, walk_before, Met, rule_meetings, IsSizeBefore, size_more, rule_size}
use Rattle.lo_circuits.proofs.WalkLemmas.{step, Asks, Checks}
use Rattle.lo_rules.specs.Rule.{num, Before, AllBefore, Always, Rule}
use Rattle.lo_rules.proofs.Loops.{rules_both}
use Rattle.lo_rules.proofs.Pairs.{each_long, length_paired}
use Rattle.lo_rules.proofs.Rules.{rules_join, rule_as}
use Rattle.lo_rules.proofs.Terms.{all_before_more, rule_clause}
use Rattle.xs_laws.specs.Indices.{IsIndex}
use Rattle.xs_laws.proofs.Places.{all_at}
use Rattle.xs_model.specs.Comparing.{AreDifferent}
use Rattle.xs_model.specs.Value.{sum_of}
use Rattle.xs_paths.specs.Round.{IsSizeSum}
use Rattle.xs_paths.specs.Steps.{is_seen}
use Rattle.xs_paths.specs.Walk.{is_moved}

-- what is stated behind what is given
then : (D G P Q : List ℤ → Type 0) (n : ℕ) (xs ys : List Item) (w u v : ℕ) → w + u ≤ v → Rule Always D n xs w G P → Rule Always (λ b. D b × G b) (n + made xs) ys u Always Q → Rule Always D n (xs ++ ys) v Always (λ b. P b × Q b)
then D G P Q n xs ys w u v le first second =
    rule_as Always D D (λ b. G b × Always b) Always (λ b. P b × Q b) (λ b. P b × Q b) n (xs ++ ys) (w + u) v (λ b d. d) (λ b d g. tt) (λ b d g p. p) (λ b x d g p. p) le (rules_join Always D G Always P Q n xs ys w u first second)

-- the same where nothing is stated before
then_alone : (D G Q : List ℤ → Type 0) (n : ℕ) (xs ys : List Item) (w u v : ℕ) → w + u ≤ v → Rule Always D n xs w G Always → Rule Always (λ b. D b × G b) (n + made xs) ys u Always Q → Rule Always D n (xs ++ ys) v Always Q
then_alone D G Q n xs ys w u v le first second =
    rule_as Always D D Always Always (λ b. Always b × Q b) Q n (xs ++ ys) v v (λ b d. d) (λ b d g. tt) (λ b d g p. p.1) (λ b x d g p. (tt, p)) (omega arith) (then D G Always Q n xs ys w u v le first second)

plus : (a b c d : ℕ) → a ≤ c → b ≤ d → a + b ≤ c + d
plus a b c d h k = omega (arith, h, k)

times : (a b w : ℕ) → a ≤ b → a * w ≤ b * w
times a b w h = grind arith

-- how many terms there are

pub long_moves : (n : ℕ) (c : Nodes) → length (moves n c).terms ≡ length c.list
long_moves n c = each_long is_moved_one n (paired c.list (indices c)) ∙ length_paired c.list (indices c) (sym (indices_long c)) ∙ indices_long c

pub long_seen : (n : ℕ) (ms : List Term) → length (seen n ms).terms ≡ length ms
long_seen n [] = refl
long_seen n (m ∷ ms) = ap suc (chained_long or_next n m ms)

long_rest : (ts : List Term) (last : ℕ) → length ts ≡ suc last → length (drop 1 ts) ≡ last
long_rest [] last e = absurd (omega (arith, e))
long_rest (t ∷ ts) last e = omega (arith, e)

long_walk : (n : ℕ) (c : Nodes) (w : Term) (last : ℕ) → length c.list ≡ suc last → length (walk n c w).terms ≡ length c.list
long_walk n c w last many = ap suc (chained_long (λ k i t. value_at c k i) n w (drop 1 c.list) ∙ long_rest c.list last many) ∙ sym many

-- how much each part is, for so many places
abbrev meetings_size : ℕ → ℕ
meetings_size k = k * (k * 4 + (k + 1)) + (k * 3 + (3 + 2 * k))

abbrev walk_size : ℕ → ℕ
walk_size k = k * (9 + k) + meetings_size k

abbrev first_size : ℕ → ℕ
first_size k = (4 + k + k) + walk_size k

abbrev seen_size : ℕ → ℕ
seen_size k = 1 + (k * 3 + first_size k)

abbrev pub moves_size : ℕ → ℕ
moves_size k = k * 4 + (k * 4 + seen_size k)

module _ (c : Nodes) (last : ℕ) (many : length c.list ≡ suc last) where
  abbrev k : ℕ
  k = length c.list

  abbrev f : List ℤ → ℕ → Bool
  f b = is_moved c.start (values c b)

  abbrev MetAll : List ℤ → Type 0
  MetAll b = AllByRecursion (Met (f b) c.start (walk_in c b)) (range_with_len 0 (length c.list))

  abbrev Sized : List ℤ → Type 0
  Sized b = IsSizeSum b c.size (sum_of (moved_bits c b))

  abbrev Walked : List ℤ → Type 0
  Walked b = Stated (Asks c.start (length c.list) (values c b)) (step c.start (values c b)) (first_in c b) (drop 1 c.list)

  abbrev Begun : List ℤ → Type 0
  Begun b = (c.start ≤ℤ first_in c b) × (first_in c b ≤ℤ ((c.start +ℤ pos (length c.list)) -ℤ pos 1))

  abbrev Moved : List ℤ → Type 0
  Moved b = is_seen (is_moved c.start (values c b)) last ≡ true

  abbrev Marks : List Term → List ℤ → Type 0
  Marks ms b = map (num b) ms ≡ moved_bits c b

  abbrev Seens : List Term → List ℤ → Type 0
  Seens us b = map (num b) us ≡ seen_bits c b

  part_meetings : (D : List ℤ → Type 0) (n : ℕ) (ms ws : List Term) → AllBefore n ms → AllBefore n ws → IsSizeBefore n c.size → ((b : List ℤ) → D b → Marks ms b) → ((b : List ℤ) → D b → map (num b) ws ≡ walk_in c b)
      → length ms ≡ k → length ws ≡ k → Rule Always D n (low_meetings n c ms ws) (meetings_size k) Always (λ b. MetAll b × Sized b)
  part_meetings D n ms ws hm hw hs ms_are ws_are long_ms long_ws =
      let first : List Item = for_all (low_met ws) n (paired ms (indices c)) in
      let j : ℕ = n + made first in
      let le : n ≤ j = omega arith in
      let w : ℕ = k * (k * 4 + (k + 1)) in
      let u : ℕ = length ms * 3 + (3 + 2 * length ms) in
      rule_as Always D D Always Always (λ b. MetAll b × Sized b) (λ b. MetAll b × Sized b) n (low_meetings n c ms ws) (w + u) (meetings_size k) (λ b d. d) (λ b d g. g) (λ b d g p. p) (λ b x d g p. p)
      (plus w u w (k * 3 + (3 + 2 * k)) (omega arith) (omega (arith, long_ms)))
      (rules_both Always D MetAll Sized n first (low_size j ms c.size) w u (rule_meetings D n c ms ws hm hw ms_are ws_are long_ms long_ws)
      (rule_size D j c ms (all_before_more n j ms le hm) ms_are c.size (size_more n j c.size le hs)))

  part_walk : (D : List ℤ → Type 0) (n : ℕ) (ms : List Term) (w : Term) → AllBefore n c.list → AllBefore n ms → Before n w → IsSizeBefore n c.size → ((b : List ℤ) → D b → Marks ms b) → ((b : List ℤ) → D b → num b w ≡ first_in c b)
      → length ms ≡ k → Rule Always D n (low_walk n c ms w) (walk_size k) Always (λ b. Walked b × (MetAll b × Sized b))
  part_walk D n ms w before hm hw hs ms_are w_is long_ms =
      let ws : Outs = walk n c w in
      let j : ℕ = n + made ws.items in
      let le : n ≤ j = omega arith in
      let G : List ℤ → Type 0 = λ b. map (num b) ws.terms ≡ walk_in c b in
      let steps : ℕ = length (drop 1 c.list) * (9 + k) in
      then D G Walked (λ b. MetAll b × Sized b) n ws.items (low_meetings j c ms ws.terms) steps (meetings_size k) (walk_size k)
      (plus steps (meetings_size k) (k * (9 + k)) (meetings_size k) (times (length (drop 1 c.list)) k (9 + k) (omega (arith, long_rest c.list last many, many))) (omega arith)) (rule_walk D n c before w hw w_is)
      (part_meetings (λ b. D b × G b) j ms ws.terms (all_before_more n j ms le hm) (walk_before D n c before w hw w_is) (size_more n j c.size le hs) (λ b d. ms_are b d.0) (λ b d. d.1) long_ms (long_walk n c w last many))

  part_first : (D : List ℤ → Type 0) (n : ℕ) (ms zs : List Term) → AllBefore n c.list → AllBefore n ms → AllBefore n zs → IsSizeBefore n c.size → ((b : List ℤ) → D b → Marks ms b) → ((b : List ℤ) → D b → Seens zs b)
      → length ms ≡ k → length zs ≡ k → Rule Always D n (low_first n c ms zs) (first_size k) Always (λ b. Begun b × (Walked b × (MetAll b × Sized b)))
  part_first D n ms zs before hm hz hs ms_are zs_are long_ms long_zs =
      let e : Out = first_index n c zs in
      let j : ℕ = n + made e.items in
      let le : n ≤ j = omega arith in
      let G : List ℤ → Type 0 = λ b. num b e.term ≡ first_in c b in
      then D G Begun (λ b. Walked b × (MetAll b × Sized b)) n e.items (low_walk j c ms e.term) (4 + length zs + length zs) (walk_size k) (first_size k)
      (plus (4 + length zs + length zs) (walk_size k) (4 + k + k) (walk_size k) (omega (arith, long_zs)) (omega arith)) (rule_first D n c zs hz zs_are)
      (part_walk (λ b. D b × G b) j ms e.term (all_before_more n j c.list le before) (all_before_more n j ms le hm) (omega arith) (size_more n j c.size le hs) (λ b d. ms_are b d.0) (λ b d. d.1) long_ms)

  -- the last of what is seen
  last_is : (b : List ℤ) (us : List Term) → Seens us b → length us ≡ k → num b (slice_index_or us (length us - 1) (Truth false)) ≡ truth (is_seen (f b) last)
  last_is b us e long =
      let i : ℕ = length us - 1 in
      let here : i ≡ last = omega (arith, long, many) in
      sym (get_or-map (num b) us i (Truth false) (pos 0) (omega (arith, long, many))) ∙ ap (λ (zs : List ℤ). slice_index_or zs i (pos 0)) e
      ∙ get_or-map-range_with_len (λ p. truth (is_seen (f b) p)) 0 k i last (pos 0) (omega (arith, here, many)) (omega (arith, here))

  one_says : (t : Bool) → clause (truth t ∷ []) [] ≡ true → t ≡ true
  one_says true h = refl
  one_says false h = absurd (true≢false (sym h))

  one_met : (t : Bool) → t ≡ true → clause (truth t ∷ []) [] ≡ true
  one_met true h = refl
  one_met false h = absurd (true≢false (sym h))

  part_some : (D : List ℤ → Type 0) (n : ℕ) (us : List Term) → AllBefore n us → ((b : List ℤ) → D b → Seens us b) → length us ≡ k → Rule Always D n (low_some us) 1 Always Moved
  part_some D n us hu us_are long =
      let u : Term = slice_index_or us (length us - 1) (Truth false) in
      let P : List ℤ → Type 0 = λ b. clause (num b u ∷ []) [] ≡ true in
      rule_as Always D D Always Always P Moved n (low_some us) 1 1 (λ b d. d) (λ b d g. g)
      (λ b d g p. one_says (is_seen (f b) last) (ap (λ (z : ℤ). clause (z ∷ []) []) (sym (last_is b us (us_are b d) long)) ∙ p))
      (λ b x d g p. ap (λ (z : ℤ). clause (z ∷ []) []) (last_is b us (us_are b d) long) ∙ one_met (is_seen (f b) last) p) (omega arith)
      (rule_clause Always D n (u ∷ []) [] (all_at (Before n) us (length us - 1) (Truth false) hu (omega (arith, long, many)), tt) tt)

  part_seen : (D : List ℤ → Type 0) (n : ℕ) (ms us : List Term) → AllBefore n c.list → AllBefore n ms → AllBefore n us → IsSizeBefore n c.size → ((b : List ℤ) → D b → Marks ms b) → ((b : List ℤ) → D b → Seens us b)
      → length ms ≡ k → length us ≡ k → Rule Always D n (low_seen n c ms us) (seen_size k) Always (λ b. Moved b × (Begun b × (Walked b × (MetAll b × Sized b))))
  part_seen D n ms us before hm hu hs ms_are us_are long_ms long_us =
      let zs : Outs = bits n us in
      let j : ℕ = n + made zs.items in
      let le : n ≤ j = omega arith in
      let bits_are = rule_bits D n (λ b. is_seen (f b)) k us hu us_are in
      let G : List ℤ → Type 0 = λ b. map (num b) zs.terms ≡ seen_bits c b in
      let Q : List ℤ → Type 0 = λ b. Begun b × (Walked b × (MetAll b × Sized b)) in
      let long_zs : length zs.terms ≡ k = each_long integer_of_truth n us ∙ long_us in
      let rest : Rule Always D n (zs.items ++ low_first j c ms zs.terms) (k * 3 + first_size k) Always Q =
      then_alone D G Q n zs.items (low_first j c ms zs.terms) (length us * 3) (first_size k) (k * 3 + first_size k) (plus (length us * 3) (first_size k) (k * 3) (first_size k) (omega (arith, long_us)) (omega arith)) bits_are.rule
      (part_first (λ b. D b × G b) j ms zs.terms (all_before_more n j c.list le before) (all_before_more n j ms le hm) bits_are.before (size_more n j c.size le hs) (λ b d. ms_are b d.0) (λ b d. d.1) long_ms long_zs) in
      rules_both Always D Moved Q n (low_some us) (zs.items ++ low_first j c ms zs.terms) 1 (k * 3 + first_size k) (part_some D n us hu us_are long_us)
      (subst (λ (i : ℕ). Rule Always D i (zs.items ++ low_first j c ms zs.terms) (k * 3 + first_size k) Always Q) (none_made n) rest)
    where
      none_made : (n : ℕ) → n ≡ n + 0
      none_made n = omega arith

  part_moves : (D : List ℤ → Type 0) (n : ℕ) → AllBefore n c.list → IsSizeBefore n c.size → Rule Always D n (low_moves n c) (moves_size k) Always (λ b. Moved b × (Begun b × (Walked b × (MetAll b × Sized b))))
  part_moves D n before hs =
      let ms : Outs = moves n c in
      let i : ℕ = n + made ms.items in
      let first = rule_moves D n c before in
      let G : List ℤ → Type 0 = Marks ms.terms in
      let us : Outs = seen i ms.terms in
      let j : ℕ = i + made us.items in
      let le : n ≤ i = omega arith in
      let on : i ≤ j = omega arith in
      let second = rule_seen (λ b. D b × G b) i f k ms.terms first.before (λ b d. d.1) in
      let H : List ℤ → Type 0 = λ b. map (num b) us.terms ≡ seen_bits c b in
      let Q : List ℤ → Type 0 = λ b. Moved b × (Begun b × (Walked b × (MetAll b × Sized b))) in
      let long_ms : length ms.terms ≡ k = long_moves n c in
      let long_us : length us.terms ≡ k = long_seen i ms.terms ∙ long_ms in
      let last_part : List Item = low_seen j c ms.terms us.terms in
      then_alone D G Q n ms.items (us.items ++ last_part) (k * 4) (k * 4 + seen_size k) (moves_size k) (omega arith) first.rule
      (then_alone (λ b. D b × G b) H Q i us.items last_part (length ms.terms * 4) (seen_size k) (k * 4 + seen_size k) (plus (length ms.terms * 4) (seen_size k) (k * 4) (seen_size k) (omega (arith, long_ms)) (omega arith)) second.rule
      (part_seen (λ b. (D b × G b) × H b) j ms.terms us.terms (all_before_more n j c.list (omega (arith, le, on)) before) (all_before_more i j ms.terms on first.before) second.before (size_more n j c.size (omega (arith, le, on)) hs)
      (λ b d. d.0.1) (λ b d. d.1) long_ms long_us))

  pub rule_nodes : (D : List ℤ → Type 0) (n : ℕ) → AllBefore n c.list → IsSizeBefore n c.size → Rule Always D n (low_nodes n c) ((length c.list * 3 + (length c.list * length c.list) * 2) + moves_size (length c.list)) Always
      (λ b. Checks c.start (length c.list) last (drop 1 c.list) (values c b) × IsSizeSum b c.size (sum_of (moved_bits c b)))
  rule_nodes D n before hs =
      let first : List Item = low_checks n c in
      let j : ℕ = n + made first in
      let w : ℕ = length c.list * 3 + (length c.list * length c.list) * 2 in
      let P : List ℤ → Type 0 = λ b. AllByRecursion (IsIndex c.start (length c.list)) (values c b) × AreDifferent (values c b) in
      let Q : List ℤ → Type 0 = λ b. Moved b × (Begun b × (Walked b × (MetAll b × Sized b))) in
      let R : List ℤ → Type 0 = λ b. Checks c.start (length c.list) last (drop 1 c.list) (values c b) × Sized b in
      rule_as Always D D Always Always (λ b. P b × Q b) R n (low_nodes n c) (w + moves_size k) (w + moves_size k) (λ b d. d) (λ b d g. g)
      (λ b d g p. (record { inside = p.0.0; different = p.0.1; some = p.1.0; first = p.1.1.0; steps = p.1.1.1.0; meets = p.1.1.1.1.0 }, p.1.1.1.1.1))
      (λ b x d g r. ((r.0.inside, r.0.different), (r.0.some, (r.0.first, (r.0.steps, (r.0.meets, r.1)))))) (omega arith)
      (rules_both Always D P Q n first (low_moves j c) w (moves_size k) (rule_checks D n c before) (part_moves D j (all_before_more n j c.list (omega arith) before) (size_more n j c.size (omega arith) hs)))
