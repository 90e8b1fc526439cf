-- The judgement of a condition on a sum, and of the integer that a truth value is.
use Rattle.std.proofs.Common.{◌≡◌, ◌≢◌, ℕ, ◌+◌, ◌*◌, ◌≤◌, ℤ, pos, neg_ℤ, ◌+ℤ◌, ◌*ℤ◌, ◌≤ℤ◌, Bool, true, false, List, [], ◌∷◌, ◌++◌, length, map, refl, inl, inr, cond, suc, ap, ap₂, sym, subst, ◌∙◌, arith}
use Rattle.std.specs.Prelude.{int_le}
use Rattle.std.specs.List.{filter}
use Rattle.std.proofs.lemmas.Int.{ints}
use Rattle.std.proofs.lemmas.List.{length-append, map-append}
use Rattle.fz_model.specs.Calls.{call_of}
use Rattle.fz_model.specs.declared.builtin.Builtin.TheVariants.{Bool2Int}
use Rattle.fz_model.specs.declared.model.Arg.TheVariants as arg
use Rattle.fz_model.specs.declared.model.Call.{Call}
use Rattle.fz_model.specs.Fixing.{IsBit}
use Rattle.fz_model.specs.Meaning.{truth, numbers, dot, Worth, CallHolds}
use Rattle.fz_model.proofs.Calls.{number-Int, number-Var, bool2int_says, bool2int_met, int_lin_eq_says, int_lin_eq_met, int_lin_ne_says, int_lin_ne_met, int_lin_le_says, int_lin_le_met}
use Rattle.fz_model.proofs.Fixing.{before-Int, bool2int_fixes, worth_same}
use Rattle.lo_base.specs.Item.{Ranged, Posted}
use Rattle.lo_emit.specs.declared.compare.Relation.{Relation}
use Rattle.lo_emit.specs.declared.compare.Relation.TheVariants.{Lt, Le, Ge, Gt, Eq, Ne}
use Rattle.lo_emit.specs.declared.term.Term.{Term}
use Rattle.lo_emit.specs.declared.term.Term.TheVariants.{Int, Truth, Var}
use Rattle.lo_emit.specs.Emitted.{arg_of, list_of, constants_of, integer_of_truth}
use Rattle.lo_rules.specs.Rule.{num, Before, AllBefore, Always, Rule, Yields}
use Rattle.lo_emit.specs.Compare.{Related}
use Rattle.lo_emit.specs.Sums.{builtin_of, turned, own, constant_for, linear_call, sum_call}
use Rattle.lo_rules.proofs.Rules.{rule_as}
use Rattle.lo_rules.proofs.Tests.{le_is, le_met}
use Rattle.lo_rules.proofs.Atoms.{rule_posted, rule_integer}
use Rattle.lo_rules.proofs.Terms.{term_before, list_before, constants_before, numbers_of_list, numbers_of_constants, leaf, leaves-Var, leaves-list, leaves-constants, leaves_two, leaves_three}

-- what the call of a relation says of its sum and its constant
abbrev Row : Relation → ℤ → ℤ → Type 0
Row Eq u k = u ≡ k
Row Ne u k = u ≢ k
Row _ u k = u ≤ℤ k

row_of_sum : (b : List ℤ) (cs : List ℤ) (ts : List Term) → dot (numbers b (constants_of cs)) (numbers b (list_of ts)) ≡ dot cs (map (num b) ts)
row_of_sum b cs ts = ap₂ dot (numbers_of_constants b cs) (numbers_of_list b ts)

linear_says : (r : Relation) (b : List ℤ) (cs : List ℤ) (ts : List Term) (k : ℤ) → CallHolds b (linear_call r cs ts k) → Row r (dot cs (map (num b) ts)) k
linear_says Eq b cs ts k h = sym (row_of_sum b cs ts) ∙ int_lin_eq_says b (constants_of cs) (list_of ts) (arg.Int k) h ∙ number-Int b k
linear_says Ne b cs ts k h = λ e. int_lin_ne_says b (constants_of cs) (list_of ts) (arg.Int k) h (row_of_sum b cs ts ∙ e ∙ sym (number-Int b k))
linear_says Lt b cs ts k h = le_is _ _ (sym (ap₂ int_le (row_of_sum b cs ts) (number-Int b k)) ∙ int_lin_le_says b (constants_of cs) (list_of ts) (arg.Int k) h)
linear_says Le b cs ts k h = le_is _ _ (sym (ap₂ int_le (row_of_sum b cs ts) (number-Int b k)) ∙ int_lin_le_says b (constants_of cs) (list_of ts) (arg.Int k) h)
linear_says Ge b cs ts k h = le_is _ _ (sym (ap₂ int_le (row_of_sum b cs ts) (number-Int b k)) ∙ int_lin_le_says b (constants_of cs) (list_of ts) (arg.Int k) h)
linear_says Gt b cs ts k h = le_is _ _ (sym (ap₂ int_le (row_of_sum b cs ts) (number-Int b k)) ∙ int_lin_le_says b (constants_of cs) (list_of ts) (arg.Int k) h)

linear_met : (r : Relation) (b : List ℤ) (cs : List ℤ) (ts : List Term) (k : ℤ) → Row r (dot cs (map (num b) ts)) k → CallHolds b (linear_call r cs ts k)
linear_met Eq b cs ts k h = int_lin_eq_met b (constants_of cs) (list_of ts) (arg.Int k) (row_of_sum b cs ts ∙ h ∙ sym (number-Int b k))
linear_met Ne b cs ts k h = int_lin_ne_met b (constants_of cs) (list_of ts) (arg.Int k) (λ e. h (sym (row_of_sum b cs ts) ∙ e ∙ number-Int b k))
linear_met Lt b cs ts k h = int_lin_le_met b (constants_of cs) (list_of ts) (arg.Int k) (ap₂ int_le (row_of_sum b cs ts) (number-Int b k) ∙ le_met _ _ h)
linear_met Le b cs ts k h = int_lin_le_met b (constants_of cs) (list_of ts) (arg.Int k) (ap₂ int_le (row_of_sum b cs ts) (number-Int b k) ∙ le_met _ _ h)
linear_met Ge b cs ts k h = int_lin_le_met b (constants_of cs) (list_of ts) (arg.Int k) (ap₂ int_le (row_of_sum b cs ts) (number-Int b k) ∙ le_met _ _ h)
linear_met Gt b cs ts k h = int_lin_le_met b (constants_of cs) (list_of ts) (arg.Int k) (ap₂ int_le (row_of_sum b cs ts) (number-Int b k) ∙ le_met _ _ h)

-- sums, turned round and with one more
negated_product : (c v : ℤ) → neg_ℤ c *ℤ v ≡ neg_ℤ (c *ℤ v)
negated_product c v = grind (arith, ints)

negated_more : (c v p q : ℤ) → p ≡ neg_ℤ q → (neg_ℤ c *ℤ v) +ℤ p ≡ neg_ℤ ((c *ℤ v) +ℤ q)
negated_more c v p q h = let e : neg_ℤ c *ℤ v ≡ neg_ℤ (c *ℤ v) = negated_product c v in omega (arith, ints, e, h)

dot_negated : (cs vs : List ℤ) → dot (map neg_ℤ cs) vs ≡ neg_ℤ (dot cs vs)
dot_negated [] vs = refl
dot_negated (c ∷ cs) [] = refl
dot_negated (c ∷ cs) (v ∷ vs) = negated_more c v (dot (map neg_ℤ cs) vs) (dot cs vs) (dot_negated cs vs)

dot_same : (cs vs : List ℤ) → dot (map (λ c. c) cs) vs ≡ dot cs vs
dot_same [] vs = refl
dot_same (c ∷ cs) [] = refl
dot_same (c ∷ cs) (v ∷ vs) = ap (λ (z : ℤ). (c *ℤ v) +ℤ z) (dot_same cs vs)

pub dot_more : (cs vs : List ℤ) (c v : ℤ) → length cs ≡ length vs → dot (cs ++ c ∷ []) (vs ++ v ∷ []) ≡ dot cs vs +ℤ (c *ℤ v)
dot_more [] [] c v e = omega (arith, ints)
dot_more [] (y ∷ vs) c v e = absurd (omega (arith, e))
dot_more (x ∷ cs) [] c v e = absurd (omega (arith, e))
dot_more (x ∷ cs) (y ∷ vs) c v e = let rest = dot_more cs vs c v (omega (arith, e)) in omega (arith, ints, rest)

pub mapped_long : {X Y : Type 0} (f : X → Y) (xs : List X) → length (map f xs) ≡ length xs
mapped_long f [] = refl
mapped_long f (x ∷ xs) = ap suc (mapped_long f xs)

dot_turned : (r : Relation) (cs vs : List ℤ) → dot (map (turned r) cs) vs ≡ turned r (dot cs vs)
dot_turned Ge cs vs = dot_negated cs vs
dot_turned Gt cs vs = dot_negated cs vs
dot_turned Lt cs vs = dot_same cs vs
dot_turned Le cs vs = dot_same cs vs
dot_turned Eq cs vs = dot_same cs vs
dot_turned Ne cs vs = dot_same cs vs

-- a constant on the other side

row_says : (r : Relation) (s k : ℤ) → Row r (turned r s) (constant_for r k) → Related r s k
row_says Lt s k h = omega (arith, ints, h)
row_says Le s k h = h
row_says Ge s k h = omega (arith, ints, h)
row_says Gt s k h = omega (arith, ints, h)
row_says Eq s k h = h
row_says Ne s k h = h

row_met : (r : Relation) (s k : ℤ) → Related r s k → Row r (turned r s) (constant_for r k)
row_met Lt s k h = omega (arith, ints, h)
row_met Le s k h = h
row_met Ge s k h = omega (arith, ints, h)
row_met Gt s k h = omega (arith, ints, h)
row_met Eq s k h = h
row_met Ne s k h = h

-- another term on the other side

other_says : (r : Relation) (s v : ℤ) → Row r (turned r s +ℤ (own r *ℤ v)) (constant_for r (pos 0)) → Related r s v
other_says Lt s v h = omega (arith, ints, h)
other_says Le s v h = omega (arith, ints, h)
other_says Ge s v h = omega (arith, ints, h)
other_says Gt s v h = omega (arith, ints, h)
other_says Eq s v h = omega (arith, ints, h)
other_says Ne s v h = λ e. h (omega (arith, ints, e))

other_met : (r : Relation) (s v : ℤ) → Related r s v → Row r (turned r s +ℤ (own r *ℤ v)) (constant_for r (pos 0))
other_met Lt s v h = omega (arith, ints, h)
other_met Le s v h = omega (arith, ints, h)
other_met Ge s v h = omega (arith, ints, h)
other_met Gt s v h = omega (arith, ints, h)
other_met Eq s v h = omega (arith, ints, h)
other_met Ne s v h = λ e. h (omega (arith, ints, e))

pub all_before_join : (n : ℕ) (ts us : List Term) → AllBefore n ts → AllBefore n us → AllBefore n (ts ++ us)
all_before_join n [] us h k = k
all_before_join n (t ∷ ts) us h k = (h.0, all_before_join n ts us h.1 k)

bounds : (z : ℤ) → IsBit z → (pos 0 ≤ℤ z) × (z ≤ℤ pos 1)
bounds z e = elim e [ inl is ↦ (omega (arith, ints, is), omega (arith, ints, is)) | inr is ↦ (omega (arith, ints, is), omega (arith, ints, is)) ]

module _ (W D : List ℤ → Type 0) (n : ℕ) where
  rule_linear : (r : Relation) (cs : List ℤ) (ts : List Term) (k : ℤ) (w : ℕ) → AllBefore n ts → length cs + length ts + 1 ≤ w → Rule W D n (Posted (linear_call r cs ts k) ∷ []) w Always (λ b. Row r (dot cs (map (num b) ts)) k)
  rule_linear r cs ts k w h le =
      rule_posted W D (λ b. Row r (dot cs (map (num b) ts)) k) n w (linear_call r cs ts k) (constants_before n cs, (list_before n ts h, (before-Int n k, tt)))
      (λ b d c. linear_says r b cs ts k c) (λ b d p. linear_met r b cs ts k p)
      (omega (arith, le, leaves_three (builtin_of r) (constants_of cs) (list_of ts) (arg.Int k) (length cs) (length ts) 1 (leaves-constants cs) (leaves-list ts) (leaf (Int k))))

  rule_other : (r : Relation) (cs : List ℤ) (ts : List Term) (t : Term) → length cs ≡ length ts → AllBefore n ts → Before n t
      → Rule W D n (Posted (linear_call r (map (turned r) cs ++ own r ∷ []) (ts ++ t ∷ []) (constant_for r (pos 0))) ∷ []) (3 + 2 * length ts) Always (λ b. Related r (dot cs (map (num b) ts)) (num b t))
  rule_other r cs ts t same h ht =
      let ds : List ℤ = map (turned r) cs ++ own r ∷ [] in
      let us : List Term = ts ++ t ∷ [] in
      let z : ℤ = constant_for r (pos 0) in
      let many : length (map (turned r) cs) ≡ length cs = mapped_long (turned r) cs in
      let sum : (b : List ℤ) → dot ds (map (num b) us) ≡ turned r (dot cs (map (num b) ts)) +ℤ (own r *ℤ num b t) =
      λ b. ap (dot ds) (map-append (num b) ts (t ∷ [])) ∙ dot_more (map (turned r) cs) (map (num b) ts) (own r) (num b t) (many ∙ same ∙ sym (mapped_long (num b) ts))
      ∙ ap (λ (y : ℤ). y +ℤ (own r *ℤ num b t)) (dot_turned r cs (map (num b) ts)) in
      rule_as W D D Always Always (λ b. Row r (dot ds (map (num b) us)) z) (λ b. Related r (dot cs (map (num b) ts)) (num b t)) n (Posted (linear_call r ds us z) ∷ []) (3 + 2 * length ts) (3 + 2 * length ts) (λ b d. d) (λ b d g. tt)
      (λ b d g p. other_says r (dot cs (map (num b) ts)) (num b t) (subst (λ (y : ℤ). Row r y z) (sum b) p))
      (λ b x d g p. subst (λ (y : ℤ). Row r y z) (sym (sum b)) (other_met r (dot cs (map (num b) ts)) (num b t) p)) (omega arith)
      (rule_linear r ds us z (3 + 2 * length ts) (all_before_join n ts (t ∷ []) h (ht, tt)) (omega (arith, length-append (map (turned r) cs) (own r ∷ []), length-append ts (t ∷ []), many, same)))

  -- a condition on a sum
  pub rule_sum : (r : Relation) (cs : List ℤ) (ts : List Term) (t : Term) → length cs ≡ length ts → AllBefore n ts → Before n t
      → Rule W D n (Posted (sum_call r cs ts t) ∷ []) (3 + 2 * length ts) Always (λ b. Related r (dot cs (map (num b) ts)) (num b t))
  rule_sum r cs ts (Truth t) same h ht = rule_other r cs ts (Truth t) same h ht
  rule_sum r cs ts (Var v) same h ht = rule_other r cs ts (Var v) same h ht
  rule_sum r cs ts (Int k) same h ht =
      let ds : List ℤ = map (turned r) cs in
      let z : ℤ = constant_for r k in
      let sum : (b : List ℤ) → dot ds (map (num b) ts) ≡ turned r (dot cs (map (num b) ts)) = λ b. dot_turned r cs (map (num b) ts) in
      rule_as W D D Always Always (λ b. Row r (dot ds (map (num b) ts)) z) (λ b. Related r (dot cs (map (num b) ts)) (num b (Int k))) n (Posted (linear_call r ds ts z) ∷ []) (3 + 2 * length ts) (3 + 2 * length ts) (λ b d. d) (λ b d g. tt)
      (λ b d g p. subst (Related r (dot cs (map (num b) ts))) (sym (number-Int b k)) (row_says r (dot cs (map (num b) ts)) k (subst (λ (y : ℤ). Row r y z) (sum b) p)))
      (λ b x d g p. subst (λ (y : ℤ). Row r y z) (sym (sum b)) (row_met r (dot cs (map (num b) ts)) k (subst (Related r (dot cs (map (num b) ts))) (number-Int b k) p))) (omega arith)
      (rule_linear r ds ts z (3 + 2 * length ts) h (omega (arith, mapped_long (turned r) cs, same)))

  -- the integer that a truth value is
  pub yields_integer : (t : Term) → Before n t → ((b : List ℤ) → D b → IsBit (num b t)) → Yields W D n (integer_of_truth n t) 3 (λ b. num b t)
  yields_integer t h bit =
      let call : Call = call_of Bool2Int (arg_of t ∷ arg.Var n ∷ []) in
      record {
        rule =
            rule_as W D D (λ b. num b (Var n) ≡ num b t) (λ b. num b (Var n) ≡ num b t) (λ b. Always b × (pos 0 ≤ℤ num b t) × (num b t ≤ℤ pos 1)) Always n (Ranged (pos 0) (pos 1) ∷ Posted call ∷ []) 3 3 (λ b d. d) (λ b d g. g)
            (λ b d g p. tt) (λ b x d g p. (tt, (bounds (num b t) (bit b d)).0, (bounds (num b t) (bit b d)).1)) (omega arith)
            (rule_integer W D Always n 3 (pos 0) (pos 1) call (λ b. num b t) (bool2int_fixes n (arg_of t) (term_before n t h)) (λ b c agree. ap (λ (y : Worth). y.number) (worth_same n b c (arg_of t) agree (term_before n t h)))
            (λ b d c. (sym (number-Var b n) ∙ sym (bool2int_says b (arg_of t) (arg.Var n) c), tt)) (λ b d o e. bool2int_met b (arg_of t) (arg.Var n) (sym (number-Var b n ∙ e)))
            (omega (arith, leaves_two Bool2Int (arg_of t) (arg.Var n) 1 1 (leaf t) (leaves-Var n))));
        before = omega arith;
      }

-- a sum of truth values counts
grow : (rest : ℤ) (k : ℕ) → rest ≡ pos k → pos 1 +ℤ rest ≡ pos (suc k)
grow rest k h = omega (arith, ints, h)

stay : (rest : ℤ) (k : ℕ) → rest ≡ pos k → pos 0 +ℤ rest ≡ pos k
stay rest k h = omega (arith, ints, h)

counts_more : (f : ℤ → Bool) (v : ℤ) (vs : List ℤ) (rest : ℤ) (t : Bool) → f v ≡ t → rest ≡ pos (length (filter f vs)) → (pos 1 *ℤ truth t) +ℤ rest ≡ pos (length (filter f (v ∷ vs)))
counts_more f v vs rest true is h = grow rest (length (filter f vs)) h ∙ ap (λ t. pos (length (cond t (v ∷ filter f vs) (filter f vs)))) (sym is)
counts_more f v vs rest false is h = stay rest (length (filter f vs)) h ∙ ap (λ t. pos (length (cond t (v ∷ filter f vs) (filter f vs)))) (sym is)

pub dot_counts : {X : Type 0} (f : ℤ → Bool) (cs : List X) (vs : List ℤ) → length cs ≡ length vs → dot (map (λ (c : X). pos 1) cs) (map (λ v. truth (f v)) vs) ≡ pos (length (filter f vs))
dot_counts f [] [] e = refl
dot_counts f [] (v ∷ vs) e = absurd (omega (arith, e))
dot_counts f (c ∷ cs) [] e = absurd (omega (arith, e))
dot_counts f (c ∷ cs) (v ∷ vs) e = counts_more f v vs (dot (map (λ y. pos 1) cs) (map (λ u. truth (f u)) vs)) (f v) refl (dot_counts f cs vs (omega (arith, e)))
