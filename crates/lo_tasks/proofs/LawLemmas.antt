-- The laws of a constraint.
use Rattle.std.proofs.Common.{◌≡◌, ℕ, ◌+◌, ◌*◌, ◌-◌, ◌≤◌, ℤ, ◌≤ℤ◌, ◌<ℤ◌, true, None, Some, List, [], ◌∷◌, ◌++◌, length, map, refl, ap, sym, ◌∙◌, subst, arith}
use Rattle.std.specs.Prelude.{⊤}
use Rattle.std.specs.List.{AllByRecursion}
use Rattle.std.proofs.lemmas.List.{length-map}
use Rattle.fz_model.specs.Limits.{limit as greatest}
use Rattle.lo_base.specs.Formed.{AreIntegers}
use Rattle.lo_emit.specs.declared.compare.Relation.TheVariants as relation
use Rattle.lo_emit.specs.declared.term.Term.{Term}
use Rattle.lo_emit.specs.declared.term.Term.TheVariants.{Var}
use Rattle.lo_emit.specs.Conditions.{term_of}
use Rattle.lo_emit.specs.Emitted.{Outs}
use Rattle.lo_rules.specs.Laws.{IsLowered, IsSteady}
use Rattle.lo_rules.specs.Rule.{num, Always}
use Rattle.lo_rules.proofs.Conditions.{num_operand}
use Rattle.lo_rules.proofs.Pairs.{each_long, nums_of_variables}
use Rattle.lo_rules.proofs.Rules.{rule_as, rules_lower_within}
use Rattle.lo_rules.proofs.Tests.{both_true}
use Rattle.lo_tasks.specs.declared.task.Limit.{Limit}
use Rattle.lo_tasks.specs.Cumulative.{beside, new_end, new_ends, tasks_of, low_tasks}
use Rattle.lo_tasks.specs.Laws.{AreOrdered, CumulativeLowered, SoundCumulativeLowered}
use Rattle.lo_tasks.proofs.Bounded.{within_stays}
use Rattle.lo_tasks.proofs.CumulativeLemmas.{AreTasks, IsBound, Idle, Loads, Stated, given_tasks_rule, new_tasks_rule, peak_met, peak_says, tasks_made, term_front, terms_front, values_front}
use Rattle.lo_tasks.proofs.EndLemmas.{end_value, ends_are_given, ends_are_new, given_are_ends, length_beside, operand_before}
use Rattle.lo_tasks.proofs.FormedLemmas.{operand_integer}
use Rattle.lo_tasks.proofs.LoadLemmas.{load_weight}
use Rattle.lo_tasks.proofs.MeasuredLemmas.{has_neighbours, operands_in, stretches_in}
use Rattle.lo_tasks.proofs.PeakLemmas.{length_tasks}
use Rattle.xf_num.specs.Span.{Bounds}
use Rattle.xs_model.specs.declared.instance.Constraint.TheVariants.{Cumulative}
use Rattle.xs_model.specs.declared.term.Cond.{Cond}
use Rattle.xs_model.specs.declared.term.Cond.TheVariants.{Lt, Le}
use Rattle.xs_model.specs.declared.term.Term.{Term as Operand}
use Rattle.xs_model.specs.Accepted.{IsFormed, IsMeasured, items_of}
use Rattle.xs_model.specs.Conditions.{Meets}
use Rattle.xs_model.specs.Fields.{Variable, cond_items, item_of}
use Rattle.xs_model.specs.Fitting.{IsLimit}
use Rattle.xs_model.specs.Formed.{IsFormedItem, total}
use Rattle.xs_model.specs.Instance.{Holds, values, term_values}
use Rattle.xs_model.specs.Magnitude.{are_not_negative, are_tasks, item_magnitude}
use Rattle.xs_model.specs.Schedule.{IsCumulative, AreEnds}
use Rattle.xs_model.specs.Spans.{BeginsWithin}

-- limits

less_than : (ss : List Bounds) (u : Operand) → IsFormedItem (length ss) (item_of u) → item_magnitude ss (item_of u) + 1 ≤ greatest → IsBound ss (record { relation = relation.Lt; bound = term_of u }) (Lt u)
less_than ss u h le = record {
  is_limit = tt;
  says = λ b x p. subst (λ (y : ℤ). x <ℤ y) (num_operand b u) p;
  met = λ b x p. subst (λ (y : ℤ). x <ℤ y) (sym (num_operand b u)) p;
  before = λ n above. operand_before (length ss) n u above h;
  kind = λ bs kinds. operand_integer (length ss) bs u kinds h;
  neighbours = has_neighbours ss u le;
}

at_most : (ss : List Bounds) (u : Operand) → IsFormedItem (length ss) (item_of u) → item_magnitude ss (item_of u) + 1 ≤ greatest → IsBound ss (record { relation = relation.Le; bound = term_of u }) (Le u)
at_most ss u h le = record {
  is_limit = tt;
  says = λ b x p. subst (λ (y : ℤ). x ≤ℤ y) (num_operand b u) p;
  met = λ b x p. subst (λ (y : ℤ). x ≤ℤ y) (sym (num_operand b u)) p;
  before = λ n above. operand_before (length ss) n u above h;
  kind = λ bs kinds. operand_integer (length ss) bs u kinds h;
  neighbours = has_neighbours ss u le;
}

-- what holds, whatever comes behind

meets_front : (m : ℕ) (a d : List ℤ) (cond : Cond) → m ≤ length a → IsLimit cond → AllByRecursion (IsFormedItem m) (cond_items cond) → Meets (a ++ d) cond ≡ Meets a cond
meets_front m a d (Lt u) le is h = λ i x. x <ℤ term_front m a d u le h.0 i
meets_front m a d (Le u) le is h = λ i x. x ≤ℤ term_front m a d u le h.0 i
meets_front m a d cond le is h = absurd is

module _ (m n : ℕ) (le : m ≤ n) (origins : List ℕ) (lengths heights : List Operand) (cond : Cond) (is : IsLimit cond) (ho : AllByRecursion (IsFormedItem m) (map Variable origins)) (hl : AllByRecursion (IsFormedItem m) (map item_of lengths))
    (hh : AllByRecursion (IsFormedItem m) (map item_of heights)) (hc : AllByRecursion (IsFormedItem m) (cond_items cond)) where
  new_steady : IsSteady n (λ a. Holds (Cumulative origins lengths heights None cond) a)
  new_steady a d len =
      let long : m ≤ length a = omega (arith, le, len) in
      let same : Holds (Cumulative origins lengths heights None cond) (a ++ d) ≡ Holds (Cumulative origins lengths heights None cond) a =
      λ i. IsCumulative (meets_front m a d cond long is hc i) (values_front m a d origins long ho i) (terms_front m a d lengths long hl i) (terms_front m a d heights long hh i) × ⊤ in
      (λ h. subst (λ X. X) same h, λ h. subst (λ X. X) (sym same) h)

  given_steady : (ends : List ℕ) → AllByRecursion (IsFormedItem m) (map Variable ends) → IsSteady n (λ a. Holds (Cumulative origins lengths heights (Some ends) cond) a)
  given_steady ends he a d len =
      let long : m ≤ length a = omega (arith, le, len) in
      let same : Holds (Cumulative origins lengths heights (Some ends) cond) (a ++ d) ≡ Holds (Cumulative origins lengths heights (Some ends) cond) a =
      λ i. IsCumulative (meets_front m a d cond long is hc i) (values_front m a d origins long ho i) (terms_front m a d lengths long hl i) (terms_front m a d heights long hh i)
      × AreEnds (values_front m a d origins long ho i) (terms_front m a d lengths long hl i) (values_front m a d ends long he i) in
      (λ h. subst (λ X. X) same h, λ h. subst (λ X. X) (sym same) h)

-- how much it is

room : (k t w i : ℕ) → t ≡ k → w ≤ 8 * k → 3 * k + 1 ≤ i → 2 + (w + t * load_weight t) ≤ 64 * ((1 + i) * (1 + i))
room k t w i same few more =
    let within : 2 + (8 * k + k * load_weight k) ≤ 64 * ((1 + i) * (1 + i)) = subst (λ (j : ℕ). 2 + (8 * k + k * load_weight k) ≤ 64 * ((1 + j) * (1 + j))) (omega (arith, more)) (exact k (i - (3 * k + 1))) in
    subst (λ (j : ℕ). 2 + (w + j * load_weight j) ≤ 64 * ((1 + i) * (1 + i))) (sym same) (omega (arith, within, few))
  where
    exact : (k r : ℕ) → 2 + (8 * k + k * load_weight k) ≤ 64 * ((1 + ((3 * k + 1) + r)) * (1 + ((3 * k + 1) + r)))
    exact k r = grind arith

module _ (ss : List Bounds) (n : ℕ) (le : length ss ≤ n) (limit : Limit) (cond : Cond) (is : IsBound ss limit cond) (hc : AllByRecursion (IsFormedItem (length ss)) (cond_items cond)) (origins : List ℕ) (lengths heights : List Operand)
    (tasks : AreTasks ss origins lengths heights) (i : ℕ) (more : 3 * length origins + 1 ≤ i) where
  new_lowered : IsLowered (BeginsWithin ss) (λ a. Holds (Cumulative origins lengths heights None cond) a) (AreIntegers (length ss)) n (low_tasks ss limit n origins lengths heights None) (64 * ((1 + i) * (1 + i)))
  new_lowered =
      let W : List ℤ → Type 0 = BeginsWithin ss in
      let H : List ℤ → Type 0 = λ a. Holds (Cumulative origins lengths heights None cond) a in
      let c : Outs = new_ends ss n origins lengths in
      let w : ℕ = 64 * ((1 + i) * (1 + i)) in
      let many : length c.terms ≡ length origins = each_long (new_end ss) n (beside origins lengths) ∙ length_beside origins lengths tasks.many_lengths in
      let G : List ℤ → Type 0 = λ b. Always b × (map (num b) c.terms ≡ map (end_value b) (beside origins lengths)) in
      let P : List ℤ → Type 0 = λ b. Idle ss limit cond is origins lengths heights tasks b × Loads ss limit cond is origins lengths heights tasks c.terms b in
      let are : (b : List ℤ) → G b → AreEnds (values b origins) (term_values b lengths) (map (num b) c.terms) =
      λ b g. subst (AreEnds (values b origins) (term_values b lengths)) (sym g.1) (ends_are_new b origins lengths tasks.many_lengths) in
      rules_lower_within W G H (AreIntegers (length ss)) n (low_tasks ss limit n origins lengths heights None) w (within_stays ss n le)
      (new_steady (length ss) n le origins lengths heights cond is.is_limit tasks.origins_in tasks.lengths_in tasks.heights_in hc) (λ bs here kinds. tasks_made ss limit cond is origins lengths heights tasks n bs here kinds None tt)
      (rule_as W Always Always G G P (λ b. W b → H b) n (low_tasks ss limit n origins lengths heights None) _ w (λ b d. d) (λ b d g. g)
      (λ b d g p x. (peak_says ss limit cond is origins lengths heights tasks b x c.terms many (are b g) p.0 p.1, tt)) (λ b x d g p. peak_met ss limit cond is origins lengths heights tasks b x c.terms many (are b g) (p x).0)
      (room (length origins) (length (tasks_of origins c.terms heights)) (length (beside origins lengths) * 8) i (length_tasks origins c.terms heights many tasks.many_heights) (eight (length (beside origins lengths)) (length origins) (length_beside origins lengths tasks.many_lengths)) more)
      (new_tasks_rule ss limit cond is origins lengths heights tasks n le))
    where
      eight : (l k : ℕ) → l ≡ k → l * 8 ≤ 8 * k
      eight l k same = omega (arith, same)

  given_lowered : (ends : List ℕ) → length ends ≡ length origins → AllByRecursion (IsFormedItem (length ss)) (map Variable ends)
      → IsLowered (BeginsWithin ss) (λ a. Holds (Cumulative origins lengths heights (Some ends) cond) a) (AreIntegers (length ss)) n (low_tasks ss limit n origins lengths heights (Some ends)) (64 * ((1 + i) * (1 + i)))
  given_lowered ends same inside =
      let W : List ℤ → Type 0 = BeginsWithin ss in
      let H : List ℤ → Type 0 = λ a. Holds (Cumulative origins lengths heights (Some ends) cond) a in
      let w : ℕ = 64 * ((1 + i) * (1 + i)) in
      let ts : List Term = map Var ends in
      let many : length ts ≡ length origins = length-map ends Var ∙ same in
      let G : List ℤ → Type 0 = λ b. Always b × (Always b × Always b) in
      let S : List ℤ → Type 0 = Stated ss limit cond is origins lengths heights tasks n le ends same inside in
      let P : List ℤ → Type 0 = λ b. Idle ss limit cond is origins lengths heights tasks b × (S b × Loads ss limit cond is origins lengths heights tasks ts b) in
      let nums : (b : List ℤ) → AreEnds (values b origins) (term_values b lengths) (values b ends) → AreEnds (values b origins) (term_values b lengths) (map (num b) ts) =
      λ b h. subst (AreEnds (values b origins) (term_values b lengths)) (sym (nums_of_variables b ends)) h in
      let are : (b : List ℤ) → S b → AreEnds (values b origins) (term_values b lengths) (values b ends) = λ b s. ends_are_given b origins lengths ends tasks.many_lengths same s in
      rules_lower_within W G H (AreIntegers (length ss)) n (low_tasks ss limit n origins lengths heights (Some ends)) w (within_stays ss n le)
      (given_steady (length ss) n le origins lengths heights cond is.is_limit tasks.origins_in tasks.lengths_in tasks.heights_in hc ends inside) (λ bs here kinds. tasks_made ss limit cond is origins lengths heights tasks n bs here kinds (Some ends) inside)
      (rule_as W Always Always G G P (λ b. W b → H b) n (low_tasks ss limit n origins lengths heights (Some ends)) _ w (λ b d. d) (λ b d g. g)
      (λ b d g p x. (peak_says ss limit cond is origins lengths heights tasks b x ts many (nums b (are b p.1.0)) p.0 p.1.1, are b p.1.0))
      (λ b x d g p.
      let h = p x in
      let r = peak_met ss limit cond is origins lengths heights tasks b x ts many (nums b h.1) h.0 in
      (r.0, (given_are_ends b origins lengths ends h.1, r.1)))
      (room (length origins) (length (tasks_of origins ts heights)) (length (beside (beside origins lengths) ends) * 7) i (length_tasks origins ts heights many tasks.many_heights)
      (seven (length (beside (beside origins lengths) ends)) (length (beside origins lengths)) (length origins) (length_beside (beside origins lengths) ends (same ∙ sym (length_beside origins lengths tasks.many_lengths))) (length_beside origins lengths tasks.many_lengths)) more)
      (given_tasks_rule ss limit cond is origins lengths heights tasks n le ends same inside))
    where
      seven : (l m k : ℕ) → l ≡ m → m ≡ k → l * 7 ≤ 8 * k
      seven l m k e f = omega (arith, e, f)

-- the magnitudes of the fields, of which that of the constraint is the sum and a square

count_square : (i : ℕ) → 1 ≤ i → 1 ≤ i * i
count_square i h = grind arith

three_fields : (a b c k i m : ℕ) → 1 ≤ i → (a + (b + (c + ((k + 0) + 0)))) + i * i ≤ m → (a + b ≤ m) × (c ≤ m) × (k + 1 ≤ m)
three_fields a b c k i m some h = let s = count_square i some in (omega (arith, h), omega (arith, h), omega (arith, h, s))

four_fields : (a b c e k i m : ℕ) → 1 ≤ i → (a + (b + (c + (e + ((k + 0) + 0))))) + i * i ≤ m → (a + b ≤ m) × (c ≤ m) × (k + 1 ≤ m)
four_fields a b c e k i m some h = let s = count_square i some in (omega (arith, h), omega (arith, h), omega (arith, h, s))

abbrev sized : List Bounds → List Operand → ℕ
sized ss ts = total (map (item_magnitude ss) (map item_of ts))

abbrev sized_variables : List Bounds → List ℕ → ℕ
sized_variables ss vs = total (map (item_magnitude ss) (map Variable vs))

pub tasks_in : (ss : List Bounds) (origins : List ℕ) (lengths heights : List Operand) → AreOrdered ss → length lengths ≡ length origins → length heights ≡ length origins → AllByRecursion (IsFormedItem (length ss)) (map Variable origins)
    → AllByRecursion (IsFormedItem (length ss)) (map item_of lengths) → AllByRecursion (IsFormedItem (length ss)) (map item_of heights) → are_tasks ss lengths heights ≡ true → sized_variables ss origins + sized ss lengths ≤ greatest
    → sized ss heights ≤ greatest → AreTasks ss origins lengths heights
tasks_in ss origins lengths heights ordered el eh ho hl hh natural stretched high = record {
  many_lengths = el;
  many_heights = eh;
  origins_in = ho;
  lengths_in = hl;
  heights_in = hh;
  natural = (both_true (are_not_negative ss lengths) (are_not_negative ss heights) natural).1;
  stretches = stretches_in ss ordered origins lengths ho hl stretched;
  operands = operands_in ss ordered heights hh high;
}

-- a limit, whichever it is
module _ (ss : List Bounds) (n : ℕ) (le : length ss ≤ n) (origins : List ℕ) (lengths heights : List Operand) (ordered : AreOrdered ss) (natural : are_tasks ss lengths heights ≡ true) where
  many_items : (i : ℕ) (l h : ℕ) → l ≡ length origins → h ≡ length origins → length (map Variable origins) + (l + (h + 1)) ≤ i → 3 * length origins + 1 ≤ i
  many_items i l h e f le = omega (arith, length-map origins Variable, e, f, le)

  new_by : (limit : Limit) (cond : Cond) (u : Operand) → cond_items cond ≡ item_of u ∷ [] → IsFormed (length ss) (Cumulative origins lengths heights None cond) → IsMeasured ss (Cumulative origins lengths heights None cond)
      → (IsFormedItem (length ss) (item_of u) → item_magnitude ss (item_of u) + 1 ≤ greatest → IsBound ss limit cond)
      → IsLowered (BeginsWithin ss) (λ a. Holds (Cumulative origins lengths heights None cond) a) (AreIntegers (length ss)) n (low_tasks ss limit n origins lengths heights None)
      (64 * ((1 + items_of (Cumulative origins lengths heights None cond)) * (1 + items_of (Cumulative origins lengths heights None cond))))
  new_by limit cond u items formed measured bound =
      let i : ℕ = items_of (Cumulative origins lengths heights None cond) in
      let f = formed.fields in
      let one : length (cond_items cond) ≡ 1 = ap length items in
      let sizes : (sized_variables ss origins + (sized ss lengths + (sized ss heights + ((item_magnitude ss (item_of u) + 0) + 0)))) + i * i ≤ greatest =
      subst (λ (is : List _). (sized_variables ss origins + (sized ss lengths + (sized ss heights + (total (map (item_magnitude ss) is) + 0)))) + i * i ≤ greatest) items measured in
      let small = three_fields (sized_variables ss origins) (sized ss lengths) (sized ss heights) (item_magnitude ss (item_of u)) i greatest (omega (arith, one)) sizes in
      let tasks = tasks_in ss origins lengths heights ordered formed.fitting.0 formed.fitting.1 f.0 f.1.0 f.1.1.0 natural small.0 small.1 in
      new_lowered ss n le limit cond (bound (subst (AllByRecursion (IsFormedItem (length ss))) items f.1.1.1.0).0 small.2) f.1.1.1.0 origins lengths heights tasks i
      (many_items i (length (map item_of lengths)) (length (map item_of heights)) (length-map lengths item_of ∙ formed.fitting.0) (length-map heights item_of ∙ formed.fitting.1) (omega (arith, one)))

  given_by : (ends : List ℕ) (limit : Limit) (cond : Cond) (u : Operand) → cond_items cond ≡ item_of u ∷ [] → IsFormed (length ss) (Cumulative origins lengths heights (Some ends) cond) → IsMeasured ss (Cumulative origins lengths heights (Some ends) cond)
      → (IsFormedItem (length ss) (item_of u) → item_magnitude ss (item_of u) + 1 ≤ greatest → IsBound ss limit cond)
      → IsLowered (BeginsWithin ss) (λ a. Holds (Cumulative origins lengths heights (Some ends) cond) a) (AreIntegers (length ss)) n (low_tasks ss limit n origins lengths heights (Some ends))
      (64 * ((1 + items_of (Cumulative origins lengths heights (Some ends) cond)) * (1 + items_of (Cumulative origins lengths heights (Some ends) cond))))
  given_by ends limit cond u items formed measured bound =
      let i : ℕ = items_of (Cumulative origins lengths heights (Some ends) cond) in
      let f = formed.fields in
      let one : length (cond_items cond) ≡ 1 = ap length items in
      let sizes : (sized_variables ss origins + (sized ss lengths + (sized ss heights + (sized_variables ss ends + ((item_magnitude ss (item_of u) + 0) + 0))))) + i * i ≤ greatest =
      subst (λ (is : List _). (sized_variables ss origins + (sized ss lengths + (sized ss heights + (sized_variables ss ends + (total (map (item_magnitude ss) is) + 0))))) + i * i ≤ greatest) items measured in
      let small = four_fields (sized_variables ss origins) (sized ss lengths) (sized ss heights) (sized_variables ss ends) (item_magnitude ss (item_of u)) i greatest (omega (arith, one)) sizes in
      let tasks = tasks_in ss origins lengths heights ordered formed.fitting.0 formed.fitting.1 f.0 f.1.0 f.1.1.0 natural small.0 small.1 in
      given_lowered ss n le limit cond (bound (subst (AllByRecursion (IsFormedItem (length ss))) items f.1.1.1.1.0).0 small.2) f.1.1.1.1.0 origins lengths heights tasks i
      (many_items i (length (map item_of lengths)) (length (map item_of heights)) (length-map lengths item_of ∙ formed.fitting.0) (length-map heights item_of ∙ formed.fitting.1) (omega (arith, one)))
      ends formed.fitting.2 f.1.1.1.0

pub cumulative_lowered : CumulativeLowered
cumulative_lowered ss n origins lengths heights None (Lt u) formed natural measured ordered le = new_by ss n le origins lengths heights ordered natural _ (Lt u) u refl formed measured (less_than ss u)
cumulative_lowered ss n origins lengths heights None (Le u) formed natural measured ordered le = new_by ss n le origins lengths heights ordered natural _ (Le u) u refl formed measured (at_most ss u)
cumulative_lowered ss n origins lengths heights (Some ends) (Lt u) formed natural measured ordered le = given_by ss n le origins lengths heights ordered natural ends _ (Lt u) u refl formed measured (less_than ss u)
cumulative_lowered ss n origins lengths heights (Some ends) (Le u) formed natural measured ordered le = given_by ss n le origins lengths heights ordered natural ends _ (Le u) u refl formed measured (at_most ss u)
cumulative_lowered ss n origins lengths heights ends cond formed natural measured ordered le = absurd formed.fitting.3

pub sound_cumulative_lowered : SoundCumulativeLowered
sound_cumulative_lowered ss n origins lengths heights ends cond sound ordered le = cumulative_lowered ss n origins lengths heights ends cond sound.formed sound.faultless (sound.measured refl) ordered le
