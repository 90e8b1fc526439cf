-- Well-formed conditions, of terms and of sums.
use Rattle.std.proofs.Common.{◌≡◌, ℕ, suc, ◌+◌, ◌≤◌, ℤ, pos, negsuc, neg_ℤ, ◌+ℤ◌, ◌-ℤ◌, ◌≤ℤ◌, Bool, true, false, List, [], ◌∷◌, ◌++◌, length, map, refl, ap, sym, ◌∙◌, subst, arith}
use Rattle.std.specs.List.{AllByRecursion}
use Rattle.std.proofs.lemmas.Int.{ints}
use Rattle.std.proofs.lemmas.List.{length-append}
use Rattle.fz_model.specs.Calls.{call_of}
use Rattle.fz_model.specs.declared.builtin.Builtin.TheVariants.{IntLinEq, IntLinNe, IntLinLe, BoolNot, SetIn}
use Rattle.fz_model.specs.declared.model.Arg.TheVariants as arg
use Rattle.fz_model.specs.declared.model.Call.{Call}
use Rattle.fz_model.specs.Limits.{IsSmall, exactly}
use Rattle.fz_model.specs.Sound.{IsCall}
use Rattle.lo_base.specs.Formed.{kinds_of, AreFormed, Keeps}
use Rattle.lo_base.specs.Item.{Item, Posted, made}
use Rattle.lo_base.proofs.Formed.{formed_join, keeps_behind}
use Rattle.lo_emit.specs.declared.compare.Relation.{Relation}
use Rattle.lo_emit.specs.declared.compare.Relation.TheVariants as relation
use Rattle.lo_emit.specs.declared.term.Term.{Term}
use Rattle.lo_emit.specs.declared.term.Term.TheVariants.{Int, Truth, Var}
use Rattle.lo_emit.specs.Compare.{compare_call}
use Rattle.lo_emit.specs.Conditions.{term_of, denied, low_among, low_not_among, low_condition, truth_among, truth_not_among, truth_of_relation, truth_of_condition, integer_sum, low_sum_as_integer, low_sum}
use Rattle.lo_emit.specs.Emitted.{Out, arg_of, list_of, constants_of, after, standing, truth_of_one, truth_of_set, truth_of_range, clause}
use Rattle.lo_emit.specs.Sums.{builtin_of, turned, own, constant_for, linear_call, sum_call}
use Rattle.lo_rules.specs.Conditions.{OfOperand, IsCondFormed, HasNeighbours}
use Rattle.lo_rules.specs.Formed.{IsInteger, IsLogic, AreIntegerTerms, Makes}
use Rattle.lo_rules.proofs.Making.{integer_single, constant_single, integers_kind, constants_kind, one_length, integer_more, integers_more, all_join, small_negated, small_one, small_minus_one, small_zero, formed_clause, formed_set, formed_range, makes_eq, makes_ne, makes_le, makes_lt, makes_not, makes_among, makes_within, makes_sum}
use Rattle.lo_rules.proofs.MakingLoops.{kinds_behind, logics_stay, makes_standing, makes_behind}
use Rattle.xf_num.specs.Span.{Bounds}
use Rattle.xs_model.specs.declared.term.Cond.{Cond}
use Rattle.xs_model.specs.declared.term.Cond.TheVariants.{Lt, Le, Ge, Gt, Ne, Eq, InSpan, OutSpan, InSet, OutSet}
use Rattle.xs_model.specs.declared.term.Term.{Term as Operand}

AreSmall : List ℤ → Type 0
AreSmall zs = AllByRecursion (λ z. IsSmall (exactly z)) zs

module _ (bs : List Bool) where
  pub formed_relation : (r : Relation) (t u : Term) → IsInteger bs t → IsInteger bs u → IsCall bs (compare_call r t u)
  formed_relation relation.Lt t u h k = record { kinds = (integer_single bs t h, (integer_single bs u k, tt)); lengths = tt }
  formed_relation relation.Le t u h k = record { kinds = (integer_single bs t h, (integer_single bs u k, tt)); lengths = tt }
  formed_relation relation.Ge t u h k = record { kinds = (integer_single bs u k, (integer_single bs t h, tt)); lengths = tt }
  formed_relation relation.Gt t u h k = record { kinds = (integer_single bs u k, (integer_single bs t h, tt)); lengths = tt }
  formed_relation relation.Eq t u h k = record { kinds = (integer_single bs t h, (integer_single bs u k, tt)); lengths = tt }
  formed_relation relation.Ne t u h k = record { kinds = (integer_single bs t h, (integer_single bs u k, tt)); lengths = tt }

  formed_denied : (n : ℕ) (c : Out) → Makes IsLogic bs c → AreFormed bs (denied n c)
  formed_denied n c m = formed_join bs c.items (Posted (clause [] (c.term ∷ [])) ∷ []) m.formed (formed_clause (bs ++ kinds_of c.items) [] (c.term ∷ []) tt (m.term, tt), tt)

  makes_denied : (n : ℕ) (c : Out) → length bs ≡ n → Makes IsLogic bs c → Makes IsLogic bs (after n c (λ k b. truth_of_one k BoolNot b))
  makes_denied n c here m =
      makes_behind IsLogic IsLogic bs n c (λ k b. truth_of_one k BoolNot b) m (makes_not (bs ++ kinds_of c.items) (n + made c.items) (kinds_behind bs n c.items here) c.term m.term)

  module _ (n : ℕ) (here : length bs ≡ n) where
    among_formed : (t : Term) (zs : List ℤ) → IsInteger bs t → AreSmall zs → AreFormed bs (low_among t zs)
    unfolding AreSmall
    among_formed t [] h k = (formed_clause bs [] [] tt tt, tt)
    among_formed t (z ∷ zs) h k = (formed_set bs t (z ∷ zs) h k, tt)

    not_among_formed : (t : Term) (zs : List ℤ) → IsInteger bs t → AreSmall zs → AreFormed bs (low_not_among n t zs)
    unfolding AreSmall
    not_among_formed t [] h k = tt
    not_among_formed t (z ∷ zs) h k = formed_denied n (truth_of_set n t (z ∷ zs)) (makes_among bs n here t (z ∷ zs) h k)

    -- a condition on a term
    pub formed_condition : (t : Term) (cond : Cond) → IsInteger bs t → IsCondFormed bs cond → AreFormed bs (low_condition n t cond)
    unfolding AreSmall
    formed_condition t (Lt u) h k = (formed_relation relation.Lt t (term_of u) h k, tt)
    formed_condition t (Le u) h k = (formed_relation relation.Le t (term_of u) h k, tt)
    formed_condition t (Ge u) h k = (formed_relation relation.Ge t (term_of u) h k, tt)
    formed_condition t (Gt u) h k = (formed_relation relation.Gt t (term_of u) h k, tt)
    formed_condition t (Ne u) h k = (formed_relation relation.Ne t (term_of u) h k, tt)
    formed_condition t (Eq u) h k = (formed_relation relation.Eq t (term_of u) h k, tt)
    formed_condition t (InSpan w) h k = (formed_range bs t w h k, tt)
    formed_condition t (OutSpan w) h k = formed_denied n (truth_of_range n t w) (makes_within bs n here t w h k)
    formed_condition t (InSet zs) h k = among_formed t zs h k
    formed_condition t (OutSet zs) h k = not_among_formed t zs h k

    pub makes_relation : (r : Relation) (t u : Term) → IsInteger bs t → IsInteger bs u → Makes IsLogic bs (truth_of_relation r n t u)
    makes_relation relation.Lt t u h k = makes_lt bs n here t u h k
    makes_relation relation.Le t u h k = makes_le bs n here t u h k
    makes_relation relation.Ge t u h k = makes_le bs n here u t k h
    makes_relation relation.Gt t u h k = makes_lt bs n here u t k h
    makes_relation relation.Eq t u h k = makes_eq bs n here t u h k
    makes_relation relation.Ne t u h k = makes_ne bs n here t u h k

    told_among : (t : Term) (zs : List ℤ) → IsInteger bs t → AreSmall zs → Makes IsLogic bs (truth_among n t zs)
    unfolding AreSmall
    told_among t [] h k = makes_standing IsLogic logics_stay bs (Truth false) tt
    told_among t (z ∷ zs) h k = makes_among bs n here t (z ∷ zs) h k

    told_not_among : (t : Term) (zs : List ℤ) → IsInteger bs t → AreSmall zs → Makes IsLogic bs (truth_not_among n t zs)
    unfolding AreSmall
    told_not_among t [] h k = makes_standing IsLogic logics_stay bs (Truth true) tt
    told_not_among t (z ∷ zs) h k = makes_denied n (truth_of_set n t (z ∷ zs)) here (makes_among bs n here t (z ∷ zs) h k)

    -- whether a term meets a condition
    pub makes_condition : (t : Term) (cond : Cond) → IsInteger bs t → IsCondFormed bs cond → Makes IsLogic bs (truth_of_condition n t cond)
    unfolding AreSmall
    makes_condition t (Lt u) h k = makes_relation relation.Lt t (term_of u) h k
    makes_condition t (Le u) h k = makes_relation relation.Le t (term_of u) h k
    makes_condition t (Ge u) h k = makes_relation relation.Ge t (term_of u) h k
    makes_condition t (Gt u) h k = makes_relation relation.Gt t (term_of u) h k
    makes_condition t (Ne u) h k = makes_relation relation.Ne t (term_of u) h k
    makes_condition t (Eq u) h k = makes_relation relation.Eq t (term_of u) h k
    makes_condition t (InSpan w) h k = makes_within bs n here t w h k
    makes_condition t (OutSpan w) h k = makes_denied n (truth_of_range n t w) here (makes_within bs n here t w h k)
    makes_condition t (InSet zs) h k = told_among t zs h k
    makes_condition t (OutSet zs) h k = told_not_among t zs h k

-- with more variables before
pub cond_formed_more : (bs cs : List Bool) (cond : Cond) → Keeps bs cs → IsCondFormed bs cond → IsCondFormed cs cond
cond_formed_more bs cs (Lt u) keeps h = integer_more bs cs keeps (term_of u) h
cond_formed_more bs cs (Le u) keeps h = integer_more bs cs keeps (term_of u) h
cond_formed_more bs cs (Ge u) keeps h = integer_more bs cs keeps (term_of u) h
cond_formed_more bs cs (Gt u) keeps h = integer_more bs cs keeps (term_of u) h
cond_formed_more bs cs (Ne u) keeps h = integer_more bs cs keeps (term_of u) h
cond_formed_more bs cs (Eq u) keeps h = integer_more bs cs keeps (term_of u) h
cond_formed_more bs cs (InSpan w) keeps h = h
cond_formed_more bs cs (OutSpan w) keeps h = h
cond_formed_more bs cs (InSet zs) keeps h = h
cond_formed_more bs cs (OutSet zs) keeps h = h

-- sums

small_turned : (r : Relation) (c : ℤ) → IsSmall (exactly c) → IsSmall (exactly (turned r c))
small_turned relation.Lt c h = h
small_turned relation.Le c h = h
small_turned relation.Ge c h = small_negated c h
small_turned relation.Gt c h = small_negated c h
small_turned relation.Eq c h = h
small_turned relation.Ne c h = h

all_small_turned : (r : Relation) (cs : List ℤ) → AreSmall cs → AreSmall (map (turned r) cs)
unfolding AreSmall
all_small_turned r [] h = tt
all_small_turned r (c ∷ cs) h = (small_turned r c h.0, all_small_turned r cs h.1)

small_own : (r : Relation) → IsSmall (exactly (own r))
small_own relation.Lt = small_minus_one
small_own relation.Le = small_minus_one
small_own relation.Ge = small_one
small_own relation.Gt = small_one
small_own relation.Eq = small_minus_one
small_own relation.Ne = small_minus_one

small_constant : (r : Relation) (k : ℤ) → IsSmall (record { lo = k -ℤ pos 1; hi = k +ℤ pos 1 }) → IsSmall (exactly (constant_for r k))
small_constant relation.Lt k h = record { from = omega (arith, ints, h.from); to = omega (arith, ints, h.to) }
small_constant relation.Le k h = record { from = omega (arith, ints, h.from); to = omega (arith, ints, h.to) }
small_constant relation.Ge k h = record { from = omega (arith, ints, h.to); to = omega (arith, ints, h.from) }
small_constant relation.Gt k h = record { from = omega (arith, ints, h.to); to = omega (arith, ints, h.from) }
small_constant relation.Eq k h = record { from = omega (arith, ints, h.from); to = omega (arith, ints, h.to) }
small_constant relation.Ne k h = record { from = omega (arith, ints, h.from); to = omega (arith, ints, h.to) }

zero_inside : IsSmall (record { lo = pos 0 -ℤ pos 1; hi = pos 0 +ℤ pos 1 })
zero_inside = record { from = omega (arith, ints); to = omega (arith, ints) }

mapped_long : {X Y : Type 0} (f : X → Y) (xs : List X) → length (map f xs) ≡ length xs
mapped_long f [] = refl
mapped_long f (x ∷ xs) = ap suc (mapped_long f xs)

module _ (bs : List Bool) where
  linear_formed : (r : Relation) (cs : List ℤ) (ts : List Term) (k : ℤ) → length cs ≡ length ts → AreSmall cs → AreIntegerTerms bs ts → IsSmall (exactly k) → IsCall bs (linear_call r cs ts k)
  unfolding AreSmall
  linear_formed relation.Eq cs ts k e hc h hk = record { kinds = (constants_kind bs cs hc, (integers_kind bs ts h, (constant_single bs k hk, tt))); lengths = one_length cs ts e }
  linear_formed relation.Ne cs ts k e hc h hk = record { kinds = (constants_kind bs cs hc, (integers_kind bs ts h, (constant_single bs k hk, tt))); lengths = one_length cs ts e }
  linear_formed relation.Lt cs ts k e hc h hk = record { kinds = (constants_kind bs cs hc, (integers_kind bs ts h, (constant_single bs k hk, tt))); lengths = one_length cs ts e }
  linear_formed relation.Le cs ts k e hc h hk = record { kinds = (constants_kind bs cs hc, (integers_kind bs ts h, (constant_single bs k hk, tt))); lengths = one_length cs ts e }
  linear_formed relation.Ge cs ts k e hc h hk = record { kinds = (constants_kind bs cs hc, (integers_kind bs ts h, (constant_single bs k hk, tt))); lengths = one_length cs ts e }
  linear_formed relation.Gt cs ts k e hc h hk = record { kinds = (constants_kind bs cs hc, (integers_kind bs ts h, (constant_single bs k hk, tt))); lengths = one_length cs ts e }

  other_formed : (r : Relation) (cs : List ℤ) (ts : List Term) (t : Term) → length cs ≡ length ts → AreSmall cs → AreIntegerTerms bs ts → IsInteger bs t
      → IsCall bs (linear_call r (map (turned r) cs ++ own r ∷ []) (ts ++ t ∷ []) (constant_for r (pos 0)))
  unfolding AreSmall
  other_formed r cs ts t e hc h ht =
      linear_formed r (map (turned r) cs ++ own r ∷ []) (ts ++ t ∷ []) (constant_for r (pos 0))
      (length-append (map (turned r) cs) (own r ∷ []) ∙ ap (λ k. k + 1) (mapped_long (turned r) cs ∙ e) ∙ sym (length-append ts (t ∷ [])))
      (all_join (λ z. IsSmall (exactly z)) (map (turned r) cs) (own r ∷ []) (all_small_turned r cs hc) (small_own r, tt)) (all_join (IsInteger bs) ts (t ∷ []) h (ht, tt)) (small_constant r (pos 0) zero_inside)

  -- a relation of a sum
  pub formed_sum : (r : Relation) (cs : List ℤ) (ts : List Term) (t : Term) → length cs ≡ length ts → AllByRecursion (λ z. IsSmall (exactly z)) cs → AreIntegerTerms bs ts → IsInteger bs t → HasNeighbours t → IsCall bs (sum_call r cs ts t)
  unfolding AreSmall
  formed_sum r cs ts (Truth t) e hc h ht k = absurd ht
  formed_sum r cs ts (Var v) e hc h ht k = other_formed r cs ts (Var v) e hc h ht
  formed_sum r cs ts (Int z) e hc h ht k = linear_formed r (map (turned r) cs) ts (constant_for r z) (mapped_long (turned r) cs ∙ e) (all_small_turned r cs hc) h (small_constant r z k)

  module _ (n : ℕ) (here : length bs ≡ n) (w : Bounds) (le : w.lo ≤ℤ w.hi) (small : IsSmall w) (cs : List ℤ) (ts : List Term) (e : length cs ≡ length ts) (hc : AllByRecursion (λ z. IsSmall (exactly z)) cs) (h : AreIntegerTerms bs ts) where
    -- the integer that a sum is
    pub makes_integer_sum : Makes IsInteger bs (integer_sum n w cs ts)
    makes_integer_sum =
        makes_sum bs n here w le small (cs ++ negsuc 0 ∷ []) ts (pos 0) (length-append cs (negsuc 0 ∷ []) ∙ ap (λ k. k + 1) e) (all_join (λ z. IsSmall (exactly z)) cs (negsuc 0 ∷ []) hc (small_minus_one, tt)) h small_zero

    as_integer : (cond : Cond) → IsCondFormed bs cond → AreFormed bs (low_sum_as_integer n w cs ts cond)
    as_integer cond k =
        let c : Out = integer_sum n w cs ts in
        let m = makes_integer_sum in
        let more : List Bool = bs ++ kinds_of c.items in
        formed_join bs c.items (low_condition (n + 1) (Var n) cond) m.formed (formed_condition more (n + 1) (kinds_behind bs n c.items here) (Var n) cond m.term (cond_formed_more bs more cond (keeps_behind bs (kinds_of c.items)) k))

    -- a condition on a sum
    pub formed_low_sum : (cond : Cond) → IsCondFormed bs cond → OfOperand HasNeighbours cond → AreFormed bs (low_sum n w cs ts cond)
    formed_low_sum (Lt u) k j = (formed_sum relation.Lt cs ts (term_of u) e hc h k j, tt)
    formed_low_sum (Le u) k j = (formed_sum relation.Le cs ts (term_of u) e hc h k j, tt)
    formed_low_sum (Ge u) k j = (formed_sum relation.Ge cs ts (term_of u) e hc h k j, tt)
    formed_low_sum (Gt u) k j = (formed_sum relation.Gt cs ts (term_of u) e hc h k j, tt)
    formed_low_sum (Ne u) k j = (formed_sum relation.Ne cs ts (term_of u) e hc h k j, tt)
    formed_low_sum (Eq u) k j = (formed_sum relation.Eq cs ts (term_of u) e hc h k j, tt)
    formed_low_sum (InSpan r) k j = as_integer (InSpan r) k
    formed_low_sum (OutSpan r) k j = as_integer (OutSpan r) k
    formed_low_sum (InSet zs) k j = as_integer (InSet zs) k
    formed_low_sum (OutSet zs) k j = as_integer (OutSet zs) k
