-- The judgement of conditions, stated of terms and of sums, and of truth values that tell whether they are met.
use Rattle.std.proofs.Common.{◌≡◌, ◌≢◌, inl, inr, ℕ, ◌+◌, ◌*◌, ◌≤◌, ℤ, pos, negsuc, ◌+ℤ◌, ◌*ℤ◌, ◌≤ℤ◌, Bool, true, false, not, ◌&&◌, ◌||◌, List, [], ◌∷◌, ◌++◌, length, map, refl, ap, ap₂, sym, subst, ◌∙◌, arith, true≢false}
use Rattle.std.specs.Prelude.{int_le, int_lt, ◌<ℤ◌}
use Rattle.std.specs.List.{list_any}
use Rattle.std.specs.Ordering.{int_eq}
use Rattle.std.proofs.lemmas.Int.{ints}
use Rattle.fz_model.specs.Calls.{call_of}
use Rattle.fz_model.specs.declared.builtin.Builtin.TheVariants.{BoolNot, SetIn}
use Rattle.fz_model.specs.declared.model.Arg.TheVariants as arg
use Rattle.fz_model.specs.declared.model.Call.{Call}
use Rattle.fz_model.specs.Fixing.{IsBit}
use Rattle.fz_model.specs.Meaning.{at, truth, has, dot, is_one, clause}
use Rattle.fz_model.proofs.Calls.{number-Int, number-Bool, number-Var, has-Set, set_in_says, set_in_met, equal, equal_met, unequal, unequal_met}
use Rattle.fz_model.proofs.Fixing.{before-Set}
use Rattle.lo_base.specs.Item.{Item, Posted, made}
use Rattle.lo_base.proofs.Solving.{truth_bit}
use Rattle.lo_emit.specs.declared.compare.Relation.{Relation}
use Rattle.lo_emit.specs.declared.compare.Relation.TheVariants as relation
use Rattle.lo_emit.specs.declared.term.Term.{Term}
use Rattle.lo_emit.specs.declared.term.Term.TheVariants.{Int, Truth, Var}
use Rattle.lo_emit.specs.Compare.{Related, compare_call}
use Rattle.lo_emit.specs.Conditions.{term_of, denied, low_among, low_not_among, low_condition, truth_among, truth_not_among, truth_of_relation, truth_of_condition, integer_sum, low_sum_as_integer, low_sum}
use Rattle.lo_emit.specs.Emitted.{Out, arg_of, after, standing, truth_of_one, truth_of_set, truth_of_range, clause as clause_call}
use Rattle.lo_emit.specs.Sums.{sum_call}
use Rattle.lo_rules.specs.Conditions.{IsCondBefore, set_length, is_between, is_related, is_met}
use Rattle.lo_rules.specs.Rule.{num, Before, AllBefore, Always, Rule, Yields}
use Rattle.lo_rules.proofs.Rules.{rule_as}
use Rattle.lo_rules.proofs.Atoms.{rule_none, rule_posted}
use Rattle.lo_rules.proofs.Chains.{states_behind, yields_behind}
use Rattle.lo_rules.proofs.Integers.{lt_is, lt_met, rule_compare, rule_within, rule_solved}
use Rattle.lo_rules.proofs.Linear.{rule_sum, dot_more}
use Rattle.lo_rules.proofs.Terms.{before_more, all_before_more, term_before, leaf, leaves-Set, leaves_two, rule_clause, yields_as, yields_standing, yields_eq, yields_ne, yields_le, yields_lt, yields_not, yields_among}
use Rattle.lo_rules.proofs.Tests.{both_true, both_met, le_is, le_met, one_truth}
use Rattle.lo_rules.proofs.Values.{yields_range}
use Rattle.xf_num.specs.Span.{Bounds, IsWithin}
use Rattle.xs_model.specs.declared.term.Cond.{Cond}
use Rattle.xs_model.specs.declared.term.Cond.TheVariants.{Lt, Le, Ge, Gt, Ne, Eq, InSpan, OutSpan, InSet, OutSet}
use Rattle.xs_model.specs.declared.term.Term.{Term as Operand}
use Rattle.xs_model.specs.declared.term.Term.TheVariants as operand
use Rattle.xs_model.specs.Conditions.{value_of, Meets}
use Rattle.xs_model.specs.Lists.{is_among}

-- an operand is the term that stands for it
pub num_operand : (b : List ℤ) (u : Operand) → num b (term_of u) ≡ value_of b u
num_operand b (operand.Int z) = number-Int b z
num_operand b (operand.Var v) = number-Var b v

-- tests

pub not_is : (t : Bool) → t ≡ false → not t ≡ true
not_is true e = absurd (true≢false e)
not_is false e = refl

pub not_met : (t : Bool) → not t ≡ true → t ≡ false
not_met true e = absurd (true≢false (sym e))
not_met false e = refl

pub false_is : (t : Bool) → (t ≡ true → ⊥) → t ≡ false
false_is true f = absurd (f refl)
false_is false f = refl

pub between_is : (w : Bounds) (x : ℤ) → is_between w x ≡ true → IsWithin w x
between_is w x h = let parts = both_true (int_le w.lo x) (int_le x w.hi) h in record { from = le_is w.lo x parts.0; to = le_is x w.hi parts.1 }

pub between_met : (w : Bounds) (x : ℤ) → IsWithin w x → is_between w x ≡ true
between_met w x h = both_met _ _ (le_met w.lo x h.from) (le_met x w.hi h.to)

pub outside_is : (w : Bounds) (x : ℤ) → is_between w x ≡ false → IsWithin w x → ⊥
outside_is w x e h = true≢false (sym (between_met w x h) ∙ e)

pub outside_met : (w : Bounds) (x : ℤ) → (IsWithin w x → ⊥) → is_between w x ≡ false
outside_met w x f = false_is (is_between w x) (λ e. f (between_is w x e))

related_is : (r : Relation) (x y : ℤ) → is_related r x y ≡ true → Related r x y
related_is relation.Lt x y h = lt_is x y h
related_is relation.Le x y h = le_is x y h
related_is relation.Ge x y h = le_is y x h
related_is relation.Gt x y h = lt_is y x h
related_is relation.Eq x y h = equal x y h
related_is relation.Ne x y h = unequal x y h

related_met : (r : Relation) (x y : ℤ) → Related r x y → is_related r x y ≡ true
related_met relation.Lt x y h = lt_met x y h
related_met relation.Le x y h = le_met x y h
related_met relation.Ge x y h = le_met y x h
related_met relation.Gt x y h = lt_met y x h
related_met relation.Eq x y h = equal_met x y h
related_met relation.Ne x y h = unequal_met x y h

-- the test whether a condition is met says so
pub met_is : (b : List ℤ) (cond : Cond) (x : ℤ) → is_met b cond x ≡ true → Meets b cond x
met_is b (Lt u) x h = related_is relation.Lt x (value_of b u) h
met_is b (Le u) x h = related_is relation.Le x (value_of b u) h
met_is b (Ge u) x h = related_is relation.Ge x (value_of b u) h
met_is b (Gt u) x h = related_is relation.Gt x (value_of b u) h
met_is b (Ne u) x h = related_is relation.Ne x (value_of b u) h
met_is b (Eq u) x h = related_is relation.Eq x (value_of b u) h
met_is b (InSpan w) x h = between_is w x h
met_is b (OutSpan w) x h = outside_is w x (not_met (is_between w x) h)
met_is b (InSet zs) x h = h
met_is b (OutSet zs) x h = not_met (is_among zs x) h

pub met_met : (b : List ℤ) (cond : Cond) (x : ℤ) → Meets b cond x → is_met b cond x ≡ true
met_met b (Lt u) x h = related_met relation.Lt x (value_of b u) h
met_met b (Le u) x h = related_met relation.Le x (value_of b u) h
met_met b (Ge u) x h = related_met relation.Ge x (value_of b u) h
met_met b (Gt u) x h = related_met relation.Gt x (value_of b u) h
met_met b (Ne u) x h = related_met relation.Ne x (value_of b u) h
met_met b (Eq u) x h = related_met relation.Eq x (value_of b u) h
met_met b (InSpan w) x h = between_met w x h
met_met b (OutSpan w) x h = not_is (is_between w x) (outside_met w x h)
met_met b (InSet zs) x h = h
met_met b (OutSet zs) x h = not_is (is_among zs x) h

denied_is : (t : Bool) → clause [] (truth t ∷ []) ≡ true → t ≡ false
denied_is true h = absurd (true≢false (sym h))
denied_is false h = refl

denied_met : (t : Bool) → t ≡ false → clause [] (truth t ∷ []) ≡ true
denied_met true e = absurd (true≢false e)
denied_met false e = refl

module _ (W D : List ℤ → Type 0) (n : ℕ) where
  -- a truth value is not 1
  pub rule_denied : (t : List ℤ → Bool) (c : Out) (w : ℕ) → Yields W D n c w (λ b. truth (t b)) → Rule W D n (denied n c) (w + 1) Always (λ b. t b ≡ false)
  rule_denied t c w y =
      let G : List ℤ → Type 0 = λ b. num b c.term ≡ truth (t b) in
      let P : List ℤ → Type 0 = λ b. clause [] (num b c.term ∷ []) ≡ true in
      rule_as W D D G Always P (λ b. t b ≡ false) n (denied n c) (w + 1) (w + 1) (λ b d. d) (λ b d g. tt) (λ b d g p. denied_is (t b) (ap (λ (z : ℤ). clause [] (z ∷ [])) (sym g) ∙ p))
      (λ b x d g p. ap (λ (z : ℤ). clause [] (z ∷ [])) g ∙ denied_met (t b) p) (omega arith)
      (states_behind W D n (λ b. truth (t b)) P c (Posted (clause_call [] (c.term ∷ [])) ∷ []) w 1 y (rule_clause W (λ b. D b × (num b c.term ≡ truth (t b))) (n + made c.items) [] (c.term ∷ []) tt (y.before, tt)))

  -- its opposite
  pub yields_denied : (t : List ℤ → Bool) (c : Out) (w : ℕ) → Yields W D n c w (λ b. truth (t b)) → Yields W D n (after n c (λ k b. truth_of_one k BoolNot b)) (w + 3) (λ b. truth (not (t b)))
  yields_denied t c w y =
      let k : ℕ = n + made c.items in
      let E : List ℤ → Type 0 = λ b. D b × (num b c.term ≡ truth (t b)) in
      yields_behind W D n (λ b. truth (t b)) (λ b. truth (not (t b))) c (λ k b. truth_of_one k BoolNot b) w 3 y
      (yields_as W E E k (truth_of_one k BoolNot c.term) 3 3 (λ b. truth (not (is_one (num b c.term)))) (λ b. truth (not (t b))) (λ b d. d)
      (λ b d. ap (λ (z : ℤ). truth (not (is_one z))) d.1 ∙ ap (λ (s : Bool). truth (not s)) (one_truth (t b))) (omega arith)
      (yields_not W E k c.term y.before (λ b d. subst IsBit (sym d.1) (truth_bit (t b)))))

  compared : (r : Relation) (t : Term) (u : Operand) (w : ℕ) → Before n t → Before n (term_of u) → 2 ≤ w → Rule W D n (Posted (compare_call r t (term_of u)) ∷ []) w Always (λ b. Related r (num b t) (value_of b u))
  compared r t u w ht hu le =
      rule_as W D D Always Always (λ b. Related r (num b t) (num b (term_of u))) (λ b. Related r (num b t) (value_of b u)) n (Posted (compare_call r t (term_of u)) ∷ []) 2 w (λ b d. d) (λ b d g. tt)
      (λ b d g p. subst (Related r (num b t)) (num_operand b u) p) (λ b x d g p. subst (Related r (num b t)) (sym (num_operand b u)) p) le (rule_compare W D n r t (term_of u) ht hu)

  member_stated : (t : Term) (zs : List ℤ) → Before n t → Rule W D n (Posted (call_of SetIn (arg_of t ∷ arg.Set zs ∷ [])) ∷ []) (1 + length zs) Always (λ b. is_among zs (num b t) ≡ true)
  member_stated t zs h =
      rule_posted W D (λ b. is_among zs (num b t) ≡ true) n (1 + length zs) (call_of SetIn (arg_of t ∷ arg.Set zs ∷ [])) (term_before n t h, (before-Set n zs, tt))
      (λ b d c. sym (has-Set zs (num b t)) ∙ set_in_says b (arg_of t) (arg.Set zs) c) (λ b d p. set_in_met b (arg_of t) (arg.Set zs) (has-Set zs (num b t) ∙ p))
      (omega (arith, leaves_two SetIn (arg_of t) (arg.Set zs) 1 (length zs) (leaf t) (leaves-Set zs)))

  among_rule : (t : Term) (zs : List ℤ) → Before n t → Rule W D n (low_among t zs) (6 + length zs) Always (λ b. is_among zs (num b t) ≡ true)
  among_rule t [] h =
      rule_as W D D Always Always (λ b. clause [] [] ≡ true) (λ b. is_among [] (num b t) ≡ true) n (low_among t []) 0 (6 + length {A = ℤ} []) (λ b d. d) (λ b d g. tt) (λ b d g p. p) (λ b x d g p. p) (omega arith) (rule_clause W D n [] [] tt tt)
  among_rule t (z ∷ zs) h =
      let P : List ℤ → Type 0 = λ b. is_among (z ∷ zs) (num b t) ≡ true in
      rule_as W D D Always Always P P n (low_among t (z ∷ zs)) (1 + length (z ∷ zs)) (6 + length (z ∷ zs)) (λ b d. d) (λ b d g. tt) (λ b d g p. p) (λ b x d g p. p) (omega arith) (member_stated t (z ∷ zs) h)

  not_among_rule : (t : Term) (zs : List ℤ) → Before n t → Rule W D n (low_not_among n t zs) (6 + length zs) Always (λ b. is_among zs (num b t) ≡ false)
  not_among_rule t [] h =
      rule_as W D D Always Always Always (λ b. is_among [] (num b t) ≡ false) n [] 0 (6 + length {A = ℤ} []) (λ b d. d) (λ b d g. tt) (λ b d g p. refl) (λ b x d g p. tt) (omega arith) (rule_none W D Always n 0 (λ b d. tt))
  not_among_rule t (z ∷ zs) h =
      let P : List ℤ → Type 0 = λ b. is_among (z ∷ zs) (num b t) ≡ false in
      rule_as W D D Always Always P P n (low_not_among n t (z ∷ zs)) (3 + length (z ∷ zs) + 1) (6 + length (z ∷ zs)) (λ b d. d) (λ b d g. tt) (λ b d g p. p) (λ b x d g p. p) (omega arith)
      (rule_denied (λ b. is_among (z ∷ zs) (num b t)) (truth_of_set n t (z ∷ zs)) (3 + length (z ∷ zs)) (yields_among W D n t (z ∷ zs) h))

  -- a condition on a term
  pub rule_condition : (t : Term) (cond : Cond) → Before n t → IsCondBefore n cond → Rule W D n (low_condition n t cond) (6 + set_length cond) Always (λ b. Meets b cond (num b t))
  rule_condition t (Lt u) ht hu = compared relation.Lt t u (6 + 0) ht hu (omega arith)
  rule_condition t (Le u) ht hu = compared relation.Le t u (6 + 0) ht hu (omega arith)
  rule_condition t (Ge u) ht hu = compared relation.Ge t u (6 + 0) ht hu (omega arith)
  rule_condition t (Gt u) ht hu = compared relation.Gt t u (6 + 0) ht hu (omega arith)
  rule_condition t (Ne u) ht hu = compared relation.Ne t u (6 + 0) ht hu (omega arith)
  rule_condition t (Eq u) ht hu = compared relation.Eq t u (6 + 0) ht hu (omega arith)
  rule_condition t (InSpan w) ht hu =
      rule_as W D D Always Always (λ b. (w.lo ≤ℤ num b t) × (num b t ≤ℤ w.hi)) (λ b. IsWithin w (num b t)) n (Posted (call_of SetIn (arg_of t ∷ arg.Range w ∷ [])) ∷ []) 3 (6 + 0) (λ b d. d) (λ b d g. tt)
      (λ b d g p. record { from = p.0; to = p.1 }) (λ b x d g p. (p.from, p.to)) (omega arith) (rule_within W D n w t ht)
  rule_condition t (OutSpan w) ht hu =
      rule_as W D D Always Always (λ b. is_between w (num b t) ≡ false) (λ b. IsWithin w (num b t) → ⊥) n (denied n (truth_of_range n t w)) (5 + 1) (6 + 0) (λ b d. d) (λ b d g. tt)
      (λ b d g p. outside_is w (num b t) p) (λ b x d g p. outside_met w (num b t) p) (omega arith) (rule_denied (λ b. is_between w (num b t)) (truth_of_range n t w) 5 (yields_range W D n t w ht))
  rule_condition t (InSet zs) ht hu = among_rule t zs ht
  rule_condition t (OutSet zs) ht hu = not_among_rule t zs ht

  -- whether a relation holds
  pub yields_relation : (r : Relation) (t u : Term) → Before n t → Before n u → Yields W D n (truth_of_relation r n t u) 4 (λ b. truth (is_related r (num b t) (num b u)))
  yields_relation relation.Lt t u ht hu = yields_lt W D n t u ht hu
  yields_relation relation.Le t u ht hu = yields_le W D n t u ht hu
  yields_relation relation.Ge t u ht hu = yields_le W D n u t hu ht
  yields_relation relation.Gt t u ht hu = yields_lt W D n u t hu ht
  yields_relation relation.Eq t u ht hu = yields_eq W D n t u ht hu
  yields_relation relation.Ne t u ht hu = yields_ne W D n t u ht hu

  told : (r : Relation) (t : Term) (u : Operand) → Before n t → Before n (term_of u) → Yields W D n (truth_of_relation r n t (term_of u)) (8 + 0) (λ b. truth (is_related r (num b t) (value_of b u)))
  told r t u ht hu =
      yields_as W D D n (truth_of_relation r n t (term_of u)) 4 (8 + 0) (λ b. truth (is_related r (num b t) (num b (term_of u)))) (λ b. truth (is_related r (num b t) (value_of b u))) (λ b d. d)
      (λ b d. ap (λ (z : ℤ). truth (is_related r (num b t) z)) (num_operand b u)) (omega arith) (yields_relation r t (term_of u) ht hu)

  heavier : (c : Out) (w u : ℕ) (v : List ℤ → ℤ) → w ≤ u → Yields W D n c w v → Yields W D n c u v
  heavier c w u v le y = yields_as W D D n c w u v v (λ b d. d) (λ b d. refl) le y

  told_among : (t : Term) (zs : List ℤ) → Before n t → Yields W D n (truth_among n t zs) (8 + length zs) (λ b. truth (is_among zs (num b t)))
  told_among t [] h = heavier (standing (Truth false)) 0 (8 + length {A = ℤ} []) (λ b. truth (is_among [] (num b t))) (omega arith) (yields_standing W D n (Truth false) (λ b. truth (is_among [] (num b t))) tt (λ b d. number-Bool b false))
  told_among t (z ∷ zs) h = heavier (truth_of_set n t (z ∷ zs)) (3 + length (z ∷ zs)) (8 + length (z ∷ zs)) (λ b. truth (is_among (z ∷ zs) (num b t))) (omega arith) (yields_among W D n t (z ∷ zs) h)

  told_not_among : (t : Term) (zs : List ℤ) → Before n t → Yields W D n (truth_not_among n t zs) (8 + length zs) (λ b. truth (not (is_among zs (num b t))))
  told_not_among t [] h =
      heavier (standing (Truth true)) 0 (8 + length {A = ℤ} []) (λ b. truth (not (is_among [] (num b t)))) (omega arith) (yields_standing W D n (Truth true) (λ b. truth (not (is_among [] (num b t)))) tt (λ b d. number-Bool b true))
  told_not_among t (z ∷ zs) h =
      heavier (truth_not_among n t (z ∷ zs)) (3 + length (z ∷ zs) + 3) (8 + length (z ∷ zs)) (λ b. truth (not (is_among (z ∷ zs) (num b t)))) (omega arith)
      (yields_denied (λ b. is_among (z ∷ zs) (num b t)) (truth_of_set n t (z ∷ zs)) (3 + length (z ∷ zs)) (yields_among W D n t (z ∷ zs) h))

  -- whether a term meets a condition
  pub yields_condition : (t : Term) (cond : Cond) → Before n t → IsCondBefore n cond → Yields W D n (truth_of_condition n t cond) (8 + set_length cond) (λ b. truth (is_met b cond (num b t)))
  yields_condition t (Lt u) ht hu = told relation.Lt t u ht hu
  yields_condition t (Le u) ht hu = told relation.Le t u ht hu
  yields_condition t (Ge u) ht hu = told relation.Ge t u ht hu
  yields_condition t (Gt u) ht hu = told relation.Gt t u ht hu
  yields_condition t (Ne u) ht hu = told relation.Ne t u ht hu
  yields_condition t (Eq u) ht hu = told relation.Eq t u ht hu
  yields_condition t (InSpan w) ht hu = heavier (truth_of_range n t w) 5 (8 + 0) (λ b. truth (is_between w (num b t))) (omega arith) (yields_range W D n t w ht)
  yields_condition t (OutSpan w) ht hu = yields_denied (λ b. is_between w (num b t)) (truth_of_range n t w) 5 (yields_range W D n t w ht)
  yields_condition t (InSet zs) ht hu = told_among t zs ht
  yields_condition t (OutSet zs) ht hu = told_not_among t zs ht

-- a condition on variables before a number is one on variables before a greater one
pub cond_more : (m n : ℕ) (cond : Cond) → m ≤ n → IsCondBefore m cond → IsCondBefore n cond
cond_more m n (Lt u) le h = before_more m n (term_of u) le h
cond_more m n (Le u) le h = before_more m n (term_of u) le h
cond_more m n (Ge u) le h = before_more m n (term_of u) le h
cond_more m n (Gt u) le h = before_more m n (term_of u) le h
cond_more m n (Ne u) le h = before_more m n (term_of u) le h
cond_more m n (Eq u) le h = before_more m n (term_of u) le h
cond_more m n (InSpan w) le h = tt
cond_more m n (OutSpan w) le h = tt
cond_more m n (InSet zs) le h = tt
cond_more m n (OutSet zs) le h = tt

solution : (s z : ℤ) → s +ℤ (negsuc 0 *ℤ z) ≡ pos 0 → z ≡ s
solution s z h = omega (arith, ints, h)

solved : (s : ℤ) → s +ℤ (negsuc 0 *ℤ s) ≡ pos 0
solved s = omega (arith, ints)

module _ (W D : List ℤ → Type 0) (n : ℕ) (w : Bounds) (cs : List ℤ) (ts : List Term) (same : length cs ≡ length ts) (h : AllBefore n ts) (within : (b : List ℤ) → W b → D b → IsWithin w (dot cs (map (num b) ts))) where
  -- the integer that a sum is
  pub yields_sum : Yields W D n (integer_sum n w cs ts) (4 + length cs + length ts) (λ b. dot cs (map (num b) ts))
  yields_sum =
      let f : List ℤ → ℤ = dot cs in
      let G : List ℤ → Type 0 = λ b. num b (Var n) ≡ f (map (num b) ts) in
      record {
        rule =
            rule_as W D D G G (λ b. Always b × (w.lo ≤ℤ f (map (num b) ts)) × (f (map (num b) ts) ≤ℤ w.hi)) Always n (integer_sum n w cs ts).items (4 + length cs + length ts) (4 + length cs + length ts) (λ b d. d) (λ b d g. g)
            (λ b d g p. tt) (λ b x d g p. (tt, (within b x d).from, (within b x d).to)) (omega arith)
            (rule_solved W D n w cs (negsuc 0) ts (pos 0) f (inr refl) same h (λ vs z long e. solution (dot cs vs) z (sym (dot_more cs vs (negsuc 0) z (sym long)) ∙ e))
            (λ vs long. dot_more cs vs (negsuc 0) (dot cs vs) (sym long) ∙ solved (dot cs vs)));
        before = omega arith;
      }

  as_integer : (cond : Cond) → IsCondBefore n cond → Rule W D n (low_sum_as_integer n w cs ts cond) (10 + set_length cond + length cs + length ts) Always (λ b. Meets b cond (dot cs (map (num b) ts)))
  as_integer cond hc =
      let c : Out = integer_sum n w cs ts in
      let v : List ℤ → ℤ = λ b. dot cs (map (num b) ts) in
      let G : List ℤ → Type 0 = λ b. num b c.term ≡ v b in
      let P : List ℤ → Type 0 = λ b. Meets b cond (num b (Var n)) in
      rule_as W D D G Always P (λ b. Meets b cond (v b)) n (low_sum_as_integer n w cs ts cond) (4 + length cs + length ts + (6 + set_length cond)) (10 + set_length cond + length cs + length ts) (λ b d. d) (λ b d g. tt)
      (λ b d g p. subst (Meets b cond) g p) (λ b x d g p. subst (Meets b cond) (sym g) p) (omega arith)
      (states_behind W D n v P c (low_condition (n + 1) (Var n) cond) (4 + length cs + length ts) (6 + set_length cond) yields_sum
      (rule_condition W (λ b. D b × (num b c.term ≡ v b)) (n + 1) (Var n) cond (omega arith) (cond_more n (n + 1) cond (omega arith) hc)))

  related : (r : Relation) (u : Operand) → Before n (term_of u) → Rule W D n (Posted (sum_call r cs ts (term_of u)) ∷ []) (10 + 0 + length cs + length ts) Always (λ b. Related r (dot cs (map (num b) ts)) (value_of b u))
  related r u hu =
      rule_as W D D Always Always (λ b. Related r (dot cs (map (num b) ts)) (num b (term_of u))) (λ b. Related r (dot cs (map (num b) ts)) (value_of b u)) n (Posted (sum_call r cs ts (term_of u)) ∷ []) (3 + 2 * length ts)
      (10 + 0 + length cs + length ts) (λ b d. d) (λ b d g. tt) (λ b d g p. subst (Related r (dot cs (map (num b) ts))) (num_operand b u) p) (λ b x d g p. subst (Related r (dot cs (map (num b) ts))) (sym (num_operand b u)) p)
      (omega (arith, same)) (rule_sum W D n r cs ts (term_of u) same h hu)

  -- a condition on a sum
  pub rule_low_sum : (cond : Cond) → IsCondBefore n cond → Rule W D n (low_sum n w cs ts cond) (10 + set_length cond + length cs + length ts) Always (λ b. Meets b cond (dot cs (map (num b) ts)))
  rule_low_sum (Lt u) hu = related relation.Lt u hu
  rule_low_sum (Le u) hu = related relation.Le u hu
  rule_low_sum (Ge u) hu = related relation.Ge u hu
  rule_low_sum (Gt u) hu = related relation.Gt u hu
  rule_low_sum (Ne u) hu = related relation.Ne u hu
  rule_low_sum (Eq u) hu = related relation.Eq u hu
  rule_low_sum (InSpan r) hu = as_integer (InSpan r) hu
  rule_low_sum (OutSpan r) hu = as_integer (OutSpan r) hu
  rule_low_sum (InSet zs) hu = as_integer (InSet zs) hu
  rule_low_sum (OutSet zs) hu = as_integer (OutSet zs) hu
