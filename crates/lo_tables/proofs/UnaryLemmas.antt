-- What the items of a table of the values of one variable mean.
use Rattle.std.proofs.Common.{◌≡◌, ◌↔◌, ℕ, suc, ◌+◌, ◌*◌, ◌<◌, ◌≤◌, ℤ, ◌≤ℤ◌, Bool, true, false, List, [], ◌∷◌, ◌++◌, length, map, refl, ap, ap₂, sym, subst, ◌∙◌, arith, true≢false}
use Rattle.std.specs.Prelude.{int_le}
use Rattle.std.specs.List.{AllByRecursion, list_any, flat_map}
use Rattle.std.proofs.lemmas.Int.{ints}
use Rattle.fz_model.specs.Calls.{call_of}
use Rattle.fz_model.specs.declared.builtin.Builtin.TheVariants.{SetIn}
use Rattle.fz_model.specs.declared.model.Arg.TheVariants as arg
use Rattle.fz_model.specs.Meaning.{at, truth, is_one, clause}
use Rattle.fz_model.specs.Sound.{IsRange}
use Rattle.fz_model.proofs.Calls.{number-Var}
use Rattle.lo_base.specs.Formed.{kinds_of, AreFormed, AreIntegers}
use Rattle.lo_base.specs.Item.{Item, Posted, made}
use Rattle.lo_base.proofs.Formed.{formed_join}
use Rattle.lo_emit.specs.declared.term.Term.{Term}
use Rattle.lo_emit.specs.declared.term.Term.TheVariants.{Var}
use Rattle.lo_emit.specs.Conditions.{denied}
use Rattle.lo_emit.specs.Emitted.{Outs, arg_of, truth_of_range, clause as clause_call}
use Rattle.lo_rules.specs.Conditions.{is_between}
use Rattle.lo_rules.specs.Formed.{IsInteger, IsLogic}
use Rattle.lo_rules.specs.Rule.{num, Before, AllBefore, Always, Rule, YieldsAll}
use Rattle.lo_rules.proofs.Chains.{states_behind_all}
use Rattle.lo_rules.proofs.Conditions.{between_is, between_met, rule_denied}
use Rattle.lo_rules.proofs.Integers.{rule_within}
use Rattle.lo_rules.proofs.Loops.{yields_each, rules_for_all}
use Rattle.lo_rules.proofs.Making.{integer_more, formed_clause, formed_range, makes_within}
use Rattle.lo_rules.proofs.MakingLoops.{formed_each, formed_for_all, logics_stay}
use Rattle.lo_rules.proofs.Pairs.{each_long}
use Rattle.lo_rules.proofs.Rules.{rule_as, rules_lower, steady_values}
use Rattle.lo_rules.proofs.Terms.{before_more, rule_clause}
use Rattle.lo_rules.proofs.Values.{yields_range}
use Rattle.lo_tables.specs.Laws.{UnaryLowered}
use Rattle.lo_tables.specs.Unary.{range_truths, in_some, in_none, in_ranges, low_unary}
use Rattle.lo_tables.proofs.Merged.{merged_members, merged_few, merged_ranges}
use Rattle.lo_tables.proofs.Shared.{any_truths, or_false, small_integer}
use Rattle.xf_merged.specs.Merged.{merged}
use Rattle.xf_num.specs.Span.{Bounds, IsWithin}
use Rattle.xs_laws.specs.Tables.{IsHeld}
use Rattle.xs_laws.proofs.Tables.{ranges_are_held}
use Rattle.xs_model.specs.declared.instance.Constraint.TheVariants.{Unary}
use Rattle.xs_model.specs.Accepted.{items_of}
use Rattle.xs_model.specs.Fields.{end_items}
use Rattle.xs_model.specs.Fitting.{IsRange as IsOrdered}
use Rattle.xs_model.specs.Formed.{IsFormedItem}
use Rattle.xs_model.specs.Language.{IsInSpans}

any : (bs : List Bounds) → AllByRecursion (λ b. Unit {0}) bs
any [] = tt
any (b ∷ bs) = (tt, any bs)

-- one range is held where it holds the value
one_says : (b : Bounds) (x : ℤ) → (b.lo ≤ℤ x) × (x ≤ℤ b.hi) → list_any (λ c. is_between c x) (b ∷ []) ≡ true
one_says b x h = or_false (is_between b x) ∙ between_met b x (record { from = h.0; to = h.1 })

one_met : (b : Bounds) (x : ℤ) → list_any (λ c. is_between c x) (b ∷ []) ≡ true → (b.lo ≤ℤ x) × (x ≤ℤ b.hi)
one_met b x h = let w = between_is b x (sym (or_false (is_between b x)) ∙ h) in (w.from, w.to)

module _ (W D : List ℤ → Type 0) (n : ℕ) (x : Term) (before : Before n x) where
  truths_rule : (bs : List Bounds) → YieldsAll W D n (range_truths n x bs) (length bs * 5) (λ b. map (λ r. truth (is_between r (num b x))) bs)
  truths_rule bs =
      yields_each W D (λ r. Unit {0}) n 5 (λ k r. truth_of_range k x r) (λ b r. truth (is_between r (num b x))) (λ k r le q. yields_range W D k x r (before_more n k x le before)) n bs (omega arith) (any bs)

  -- some range holds the value
  some_rule : (bs : List Bounds) → Rule W D n (in_some n x bs) (length bs * 6) Always (λ b. list_any (λ r. is_between r (num b x)) bs ≡ true)
  some_rule [] = rule_clause W D n [] [] tt tt
  some_rule (r ∷ []) =
      rule_as W D D Always Always (λ b. (r.lo ≤ℤ num b x) × (num b x ≤ℤ r.hi)) (λ b. list_any (λ c. is_between c (num b x)) (r ∷ []) ≡ true) n (in_some n x (r ∷ [])) 3 6 (λ b d. d) (λ b d g. g)
      (λ b d g p. one_says r (num b x) p) (λ b w d g p. one_met r (num b x) p) (omega arith) (rule_within W D n r x before)
  some_rule (r ∷ (s ∷ rs)) =
      let bs : List Bounds = r ∷ (s ∷ rs) in
      let c : Outs = range_truths n x bs in
      let V : List ℤ → List ℤ = λ b. map (λ q. truth (is_between q (num b x))) bs in
      let G : List ℤ → Type 0 = λ b. map (num b) c.terms ≡ V b in
      let P : List ℤ → Type 0 = λ b. clause (map (num b) c.terms) [] ≡ true in
      let truths = truths_rule bs in
      let is : (b : List ℤ) → G b → clause (map (num b) c.terms) [] ≡ list_any (λ q. is_between q (num b x)) bs =
      λ b g. or_false (list_any is_one (map (num b) c.terms)) ∙ ap (list_any is_one) g ∙ any_truths (λ q. is_between q (num b x)) bs in
      let many : length c.terms ≡ length bs = each_long (λ k q. truth_of_range k x q) n bs in
      rule_as W D D G Always P (λ b. list_any (λ q. is_between q (num b x)) bs ≡ true) n (in_some n x bs) (length bs * 5 + (length c.terms + 0)) (length bs * 6) (λ b d. d) (λ b d g. tt)
      (λ b d g p. sym (is b g) ∙ p) (λ b w d g p. is b g ∙ p) (room (length bs) (length c.terms) many)
      (states_behind_all W D n V P c (Posted (clause_call c.terms []) ∷ []) (length bs * 5) (length c.terms + 0) truths (rule_clause W (λ b. D b × G b) (n + made c.items) c.terms [] truths.before tt))
    where
      room : (k t : ℕ) → t ≡ k → k * 5 + (t + 0) ≤ k * 6
      room k t same = omega (arith, same)

  -- no range does
  none_rule : (bs : List Bounds) → Rule W D n (in_none n x bs) (length bs * 6) Always (λ b. AllByRecursion (λ r. is_between r (num b x) ≡ false) bs)
  none_rule bs =
      rules_for_all W D (λ r. Unit {0}) n 6 (λ k r. denied k (truth_of_range k x r)) (λ b r. is_between r (num b x) ≡ false)
      (λ k r le q. rule_denied W D k (λ b. is_between r (num b x)) (truth_of_range k x r) 5 (yields_range W D k x r (before_more n k x le before))) n bs (omega arith) (any bs)

  ranges_rule : (bs : List Bounds) (positive : Bool) → Rule W D n (in_ranges n x bs positive) (length bs * 6) Always (λ b. IsHeld positive bs (num b x))
  ranges_rule bs true = some_rule bs
  ranges_rule bs false = none_rule bs

-- well-formed items

module _ (bs : List Bool) (n : ℕ) (here : length bs ≡ n) (x : Term) (kind : IsInteger bs x) where
  ranges_formed : (rs : List Bounds) (positive : Bool) → AllByRecursion IsRange rs → AreFormed bs (in_ranges n x rs positive)
  ranges_formed [] true h = (formed_clause bs [] [] tt tt, tt)
  ranges_formed (r ∷ []) true h = (formed_range bs x r kind h.0, tt)
  ranges_formed (r ∷ (s ∷ rs)) true h =
      let c : Outs = range_truths n x (r ∷ (s ∷ rs)) in
      let all =
      formed_each bs IsRange IsLogic logics_stay (λ k q. truth_of_range k x q) (λ k cs q long keeps small. makes_within cs k long x q (integer_more bs cs keeps x kind) small) n bs (r ∷ (s ∷ rs)) here (λ v t e. e) h in
      formed_join bs c.items (Posted (clause_call c.terms []) ∷ []) all.formed (formed_clause (bs ++ kinds_of c.items) c.terms [] all.terms tt, tt)
  ranges_formed rs false h =
      formed_for_all bs IsRange (λ k q. denied k (truth_of_range k x q))
      (λ k cs q long keeps small.
      let one = makes_within cs k long x q (integer_more bs cs keeps x kind) small in
      formed_join cs (truth_of_range k x q).items (Posted (clause_call [] ((truth_of_range k x q).term ∷ [])) ∷ []) one.formed (formed_clause (cs ++ kinds_of (truth_of_range k x q).items) [] ((truth_of_range k x q).term ∷ []) tt (one.term, tt), tt))
      n bs rs here (λ v t e. e) h

-- the law

spans_small : (m : ℕ) (spans : List Bounds) → AllByRecursion IsOrdered spans → AllByRecursion (IsFormedItem m) (flat_map end_items spans) → AllByRecursion IsRange spans
spans_small m [] o h = tt
spans_small m (b ∷ bs) o h =
    (record { ordered = o.0; small = record { from = (small_integer b.lo h.0).from; to = (small_integer b.hi h.1.0).to } }, spans_small m bs o.1 h.1.1)

two_each : (spans : List Bounds) → length (flat_map end_items spans) ≡ 2 * length spans
two_each [] = refl
two_each (b ∷ bs) = let rest = two_each bs in omega (arith, rest)

room_for_ranges : (k s i : ℕ) → k ≤ s → i ≡ 1 + (2 * s + 0) → k * 6 ≤ 64 * ((1 + i) * (1 + i))
room_for_ranges k s i few is = at_square i (k * 6) (omega (arith, few, is))
  where
    at_square : (i w : ℕ) → w ≤ 6 * i → w ≤ 64 * ((1 + i) * (1 + i))
    at_square i w h = grind arith

pub unary_lowered : UnaryLowered
unary_lowered m n v spans positive formed le =
    let x : Term = Var v in
    let rs : List Bounds = merged spans in
    let lt : v < m = formed.fields.0.0 in
    let below : v < n = omega (arith, lt, le) in
    let i : ℕ = items_of (Unary v spans positive) in
    let w : ℕ = 64 * ((1 + i) * (1 + i)) in
    let small : AllByRecursion IsRange spans = spans_small m spans formed.fitting formed.fields.1.0 in
    let room : length rs * 6 ≤ w = room_for_ranges (length rs) (length spans) i (merged_few spans) (ap (λ (k : ℕ). 1 + (k + 0)) (two_each spans)) in
    let P : List ℤ → Type 0 = λ b. IsInSpans positive spans (at b v) in
    let H : List ℤ → Type 0 = λ b. IsHeld positive rs (num b x) in
    let same : (b : List ℤ) → num b x ≡ at b v = λ b. number-Var b v in
    let law : (b : List ℤ) → IsInSpans positive spans (at b v) ↔ IsHeld positive rs (at b v) = λ b. ranges_are_held positive spans rs (at b v) (merged_members spans) in
    rules_lower Always Always P (AreIntegers m) n (low_unary n v spans positive) w (λ a len y d. tt) (steady_values (first_of positive spans) n (v ∷ []) (below, tt))
    (λ bs here kinds. ranges_formed bs n here x (kinds v lt) rs positive (merged_ranges spans small))
    (rule_as Always Always Always Always Always H P n (low_unary n v spans positive) (length rs * 6) w (λ b d. d) (λ b d g. g)
    (λ b d g p. (law b).1 (subst (IsHeld positive rs) (same b) p)) (λ b y d g p. subst (IsHeld positive rs) (sym (same b)) ((law b).0 p)) room
    (ranges_rule Always Always n x below rs positive))
  where
    first_of : Bool → List Bounds → List ℤ → Type 0
    first_of positive spans [] = Unit {0}
    first_of positive spans (z ∷ zs) = IsInSpans positive spans z
