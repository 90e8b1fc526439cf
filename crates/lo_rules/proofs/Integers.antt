-- The judgement of conditions on a term, and of integers that a sum or a place in a list gives.
use Rattle.std.proofs.Common.{◌≡◌, ◌⊎◌, ℕ, ◌+◌, ◌-◌, ℤ, pos, negsuc, ◌*ℤ◌, ◌≤ℤ◌, Bool, true, false, ◌&&◌, List, [], ◌∷◌, ◌++◌, length, map, refl, ap, ap₂, sym, subst, ◌∙◌, arith, true≢false}
use Rattle.std.specs.Prelude.{int_le, int_lt, nat_abs, get_or, ◌<ℤ◌}
use Rattle.std.specs.Ordering.{int_eq}
use Rattle.std.proofs.lemmas.Int.{ints}
use Rattle.std.proofs.lemmas.List.{map-append, length-append}
use Rattle.fz_model.specs.Calls.{call_of}
use Rattle.fz_model.specs.declared.builtin.Builtin.{Builtin}
use Rattle.fz_model.specs.declared.builtin.Builtin.TheVariants.{IntLt, IntLe, IntEq, IntNe, IntLinEq, SetIn, ArrayVarIntElement, BoolNot, IntAbs, IntTimes}
use Rattle.fz_model.specs.declared.model.Arg.{Arg}
use Rattle.fz_model.specs.declared.model.Arg.TheVariants as arg
use Rattle.fz_model.specs.declared.model.Call.{Call}
use Rattle.fz_model.specs.Fixing.{Agree, AreBefore, Fixes, place_of, Last}
use Rattle.fz_model.specs.Meaning.{numbers, dot, is_element, Worth, CallHolds, row_of, worth}
use Rattle.fz_model.specs.Size.{call_leaves}
use Rattle.fz_model.proofs.Calls.{number-Int, number-Var, has-Range, set_in_says, set_in_met, equal, equal_met, int_eq_says, int_eq_met, int_ne_says, int_ne_met, int_le_says, int_le_met, int_lt_says, int_lt_met, int_lin_eq_says, int_lin_eq_met, array_var_int_element_says, array_var_int_element_met}
use Rattle.fz_model.proofs.Fixing.{before-Int, before-Range, worth_same, int_lin_eq_fixes, array_var_int_element_fixes, last_of_two_fixes, last_of_three_fixes}
use Rattle.lo_base.specs.Item.{Posted}
use Rattle.xf_num.specs.Span.{Bounds, IsWithin}
use Rattle.lo_emit.specs.declared.compare.Relation.{Relation}
use Rattle.lo_emit.specs.declared.compare.Relation.TheVariants.{Lt, Le, Ge, Gt, Eq, Ne}
use Rattle.lo_emit.specs.declared.term.Term.{Term}
use Rattle.lo_emit.specs.declared.term.Term.TheVariants.{Int, Var}
use Rattle.lo_emit.specs.Compare.{Related, compare_call}
use Rattle.lo_emit.specs.Emitted.{arg_of, list_of, constants_of, integer_of_sum, integer_of_place, integer_of_one, integer_of_two}
use Rattle.lo_rules.specs.Rule.{num, Before, AllBefore, Always, Rule, Yields}
use Rattle.lo_rules.proofs.Rules.{rule_as}
use Rattle.lo_rules.proofs.Atoms.{rule_posted, rule_integer, rule_value}
use Rattle.lo_rules.proofs.Terms.{items_before, constant_items, term_before, list_before, numbers_of_list, numbers_of_constants, leaf, leaves-Var, leaves-Range, leaves-list, leaves-constants, leaves_two, leaves_three}
use Rattle.lo_rules.proofs.Linear.{mapped_long}
use Rattle.lo_rules.proofs.Tests.{both_true, both_met, le_is, le_met}

pub lt_is : (x y : ℤ) → int_lt x y ≡ true → x <ℤ y
lt_is x y h = omega (arith, ints, h)

pub lt_met : (x y : ℤ) → x <ℤ y → int_lt x y ≡ true
lt_met x y h = by (int_lt x y) refl
  where
    by : (t : Bool) → int_lt x y ≡ t → int_lt x y ≡ true
    by true e = e
    by false e = absurd (omega (arith, ints, h, e))

pub num_same : (n : ℕ) (b c : List ℤ) (t : Term) → Agree n b c → Before n t → num b t ≡ num c t
num_same n b c t agree h = ap (λ (y : Worth). y.number) (worth_same n b c (arg_of t) agree (term_before n t h))

pub nums_same : (n : ℕ) (b c : List ℤ) (ts : List Term) → Agree n b c → AllBefore n ts → map (num b) ts ≡ map (num c) ts
nums_same n b c [] agree h = refl
nums_same n b c (t ∷ ts) agree h = ap₂ (λ (z : ℤ) (zs : List ℤ). z ∷ zs) (num_same n b c t agree h.0) (nums_same n b c ts agree h.1)

compare_says : (r : Relation) (b : List ℤ) (t u : Term) → CallHolds b (compare_call r t u) → Related r (num b t) (num b u)
compare_says Lt b t u h = lt_is _ _ (int_lt_says b (arg_of t) (arg_of u) h)
compare_says Le b t u h = le_is _ _ (int_le_says b (arg_of t) (arg_of u) h)
compare_says Ge b t u h = le_is _ _ (int_le_says b (arg_of u) (arg_of t) h)
compare_says Gt b t u h = lt_is _ _ (int_lt_says b (arg_of u) (arg_of t) h)
compare_says Eq b t u h = int_eq_says b (arg_of t) (arg_of u) h
compare_says Ne b t u h = int_ne_says b (arg_of t) (arg_of u) h

compare_met : (r : Relation) (b : List ℤ) (t u : Term) → Related r (num b t) (num b u) → CallHolds b (compare_call r t u)
compare_met Lt b t u h = int_lt_met b (arg_of t) (arg_of u) (lt_met _ _ h)
compare_met Le b t u h = int_le_met b (arg_of t) (arg_of u) (le_met _ _ h)
compare_met Ge b t u h = int_le_met b (arg_of u) (arg_of t) (le_met _ _ h)
compare_met Gt b t u h = int_lt_met b (arg_of u) (arg_of t) (lt_met _ _ h)
compare_met Eq b t u h = int_eq_met b (arg_of t) (arg_of u) h
compare_met Ne b t u h = int_ne_met b (arg_of t) (arg_of u) h

compare_before : (r : Relation) (n : ℕ) (t u : Term) → Before n t → Before n u → AreBefore n (compare_call r t u).args
compare_before Lt n t u h k = (term_before n t h, (term_before n u k, tt))
compare_before Le n t u h k = (term_before n t h, (term_before n u k, tt))
compare_before Ge n t u h k = (term_before n u k, (term_before n t h, tt))
compare_before Gt n t u h k = (term_before n u k, (term_before n t h, tt))
compare_before Eq n t u h k = (term_before n t h, (term_before n u k, tt))
compare_before Ne n t u h k = (term_before n t h, (term_before n u k, tt))

pub compare_leaves : (r : Relation) (t u : Term) → call_leaves (compare_call r t u) ≡ 2
compare_leaves Lt t u = leaves_two IntLt (arg_of t) (arg_of u) 1 1 (leaf t) (leaf u)
compare_leaves Le t u = leaves_two IntLe (arg_of t) (arg_of u) 1 1 (leaf t) (leaf u)
compare_leaves Ge t u = leaves_two IntLe (arg_of u) (arg_of t) 1 1 (leaf u) (leaf t)
compare_leaves Gt t u = leaves_two IntLt (arg_of u) (arg_of t) 1 1 (leaf u) (leaf t)
compare_leaves Eq t u = leaves_two IntEq (arg_of t) (arg_of u) 1 1 (leaf t) (leaf u)
compare_leaves Ne t u = leaves_two IntNe (arg_of t) (arg_of u) 1 1 (leaf t) (leaf u)

-- the member at a place that is counted from 1, 0 where there is none
abbrev pub member_at : List ℤ → ℤ → ℤ
member_at vs k = get_or vs (nat_abs k - 1) (pos 0)

abbrev pub IsPlace : List ℤ → ℤ → Type 0
IsPlace vs k = (pos 1 ≤ℤ k) × (k ≤ℤ pos (length vs))

pub element_says : (k : ℤ) (vs : List ℤ) (v : ℤ) → is_element k vs v ≡ true → (v ≡ member_at vs k) × IsPlace vs k
element_says k vs v h =
    let parts = both_true (int_le (pos 1) k && int_le k (pos (length vs))) (int_eq (member_at vs k) v) h in
    let ends = both_true (int_le (pos 1) k) (int_le k (pos (length vs))) parts.0 in
    (sym (equal (member_at vs k) v parts.1), (le_is (pos 1) k ends.0, le_is k (pos (length vs)) ends.1))

pub element_met : (k : ℤ) (vs : List ℤ) (v : ℤ) → IsPlace vs k → v ≡ member_at vs k → is_element k vs v ≡ true
element_met k vs v h e = both_met _ _ (both_met _ _ (le_met (pos 1) k h.0) (le_met k (pos (length vs)) h.1)) (equal_met (member_at vs k) v (sym e))

of_one : (ℤ → ℤ) → List Worth → ℤ
of_one f (x ∷ []) = f x.number
of_one f _ = pos 0

of_two : (ℤ → ℤ → ℤ) → List Worth → ℤ
of_two f (x ∷ y ∷ []) = f x.number y.number
of_two f _ = pos 0

sum_fixes : (n : ℕ) (cs : List ℤ) (unit : ℤ) (ts : List Term) (c : ℤ) → (unit ≡ pos 1) ⊎ (unit ≡ negsuc 0) → length cs ≡ length ts → AllBefore n ts
    → Fixes n (call_of IntLinEq (constants_of (cs ++ unit ∷ []) ∷ list_of (ts ++ Var n ∷ []) ∷ arg.Int c ∷ []))
sum_fixes n cs unit ts c is same h =
    let long : length (map arg.Int cs) ≡ length (map arg_of ts) = mapped_long arg.Int cs ∙ same ∙ sym (mapped_long arg_of ts) in
    let fixes = int_lin_eq_fixes n unit (map arg.Int cs) (map arg_of ts) (arg.Int c) is long (constant_items n cs) (items_before n ts h) (before-Int n c) in
    let one = subst (λ (p : List Arg). Fixes n (call_of IntLinEq (arg.List p ∷ arg.List (map arg_of ts ++ arg.Var n ∷ []) ∷ arg.Int c ∷ []))) (sym (map-append arg.Int cs (unit ∷ []))) fixes in
    subst (λ (q : List Arg). Fixes n (call_of IntLinEq (constants_of (cs ++ unit ∷ []) ∷ arg.List q ∷ arg.Int c ∷ []))) (sym (map-append arg_of ts (Var n ∷ []))) one

module _ (W D : List ℤ → Type 0) (n : ℕ) where
  -- a condition on a term
  pub rule_compare : (r : Relation) (t u : Term) → Before n t → Before n u → Rule W D n (Posted (compare_call r t u) ∷ []) 2 Always (λ b. Related r (num b t) (num b u))
  rule_compare r t u h k =
      rule_posted W D (λ b. Related r (num b t) (num b u)) n 2 (compare_call r t u) (compare_before r n t u h k) (λ b d c. compare_says r b t u c)
      (λ b d p. compare_met r b t u p) (omega (arith, compare_leaves r t u))

  -- the integer with which a sum is a constant, where the equation gives it the value f
  pub rule_solved : (w : Bounds) (cs : List ℤ) (unit : ℤ) (ts : List Term) (c : ℤ) (f : List ℤ → ℤ) → (unit ≡ pos 1) ⊎ (unit ≡ negsuc 0) → length cs ≡ length ts → AllBefore n ts
      → ((vs : List ℤ) (z : ℤ) → length vs ≡ length cs → dot (cs ++ unit ∷ []) (vs ++ z ∷ []) ≡ c → z ≡ f vs) → ((vs : List ℤ) → length vs ≡ length cs → dot (cs ++ unit ∷ []) (vs ++ f vs ∷ []) ≡ c)
      → Rule W D n (integer_of_sum n w (cs ++ unit ∷ []) ts c).items (4 + length cs + length ts) (λ b. num b (Var n) ≡ f (map (num b) ts)) (λ b. Always b × (w.lo ≤ℤ f (map (num b) ts)) × (f (map (num b) ts) ≤ℤ w.hi))
  rule_solved w cs unit ts c f is same h only solved =
      let ds : List ℤ = cs ++ unit ∷ [] in
      let us : List Term = ts ++ Var n ∷ [] in
      let call : Call = call_of IntLinEq (constants_of ds ∷ list_of us ∷ arg.Int c ∷ []) in
      let long : (b : List ℤ) → length (map (num b) ts) ≡ length cs = λ b. mapped_long (num b) ts ∙ sym same in
      let sum : (b : List ℤ) → dot (numbers b (constants_of ds)) (numbers b (list_of us)) ≡ dot ds (map (num b) ts ++ num b (Var n) ∷ []) =
      λ b. ap₂ dot (numbers_of_constants b ds) (numbers_of_list b us ∙ map-append (num b) ts (Var n ∷ [])) in
      rule_integer W D Always n (4 + length cs + length ts) w.lo w.hi call (λ b. f (map (num b) ts)) (sum_fixes n cs unit ts c is same h) (λ b e agree. ap f (nums_same n b e ts agree h))
      (λ b d e. (sym (number-Var b n) ∙ only (map (num b) ts) (num b (Var n)) (long b) (sym (sum b) ∙ int_lin_eq_says b (constants_of ds) (list_of us) (arg.Int c) e ∙ number-Int b c), tt))
      (λ b d o e. int_lin_eq_met b (constants_of ds) (list_of us) (arg.Int c)
      (sum b ∙ ap (λ (z : ℤ). dot ds (map (num b) ts ++ z ∷ [])) (number-Var b n ∙ e) ∙ solved (map (num b) ts) (long b) ∙ sym (number-Int b c)))
      (omega (arith, leaves_three IntLinEq (constants_of ds) (list_of us) (arg.Int c) (length ds) (length us) 1 (leaves-constants ds) (leaves-list us) (leaf (Int c)), length-append cs (unit ∷ []), length-append ts (Var n ∷ [])))

  -- the member at a place
  pub rule_place : (w : Bounds) (k : Term) (ts : List Term) → Before n k → AllBefore n ts
      → Rule W D n (integer_of_place n w k ts).items (3 + length ts) (λ b. num b (Var n) ≡ member_at (map (num b) ts) (num b k))
      (λ b. IsPlace (map (num b) ts) (num b k) × (w.lo ≤ℤ member_at (map (num b) ts) (num b k)) × (member_at (map (num b) ts) (num b k) ≤ℤ w.hi))
  rule_place w k ts hk h =
      let call : Call = call_of ArrayVarIntElement (arg_of k ∷ list_of ts ∷ arg.Var n ∷ []) in
      let v : List ℤ → ℤ = λ b. member_at (map (num b) ts) (num b k) in
      let is : (b : List ℤ) (z : ℤ) → is_element (num b k) (numbers b (list_of ts)) z ≡ is_element (num b k) (map (num b) ts) z = λ b z. ap (λ (zs : List ℤ). is_element (num b k) zs z) (numbers_of_list b ts) in
      rule_integer W D (λ b. IsPlace (map (num b) ts) (num b k)) n (3 + length ts) w.lo w.hi call v (array_var_int_element_fixes n (arg_of k) (list_of ts) (term_before n k hk) (list_before n ts h))
      (λ b e agree. ap₂ member_at (nums_same n b e ts agree h) (num_same n b e k agree hk))
      (λ b d e.
      let s = element_says (num b k) (map (num b) ts) (num b (Var n)) (sym (is b (num b (Var n))) ∙ array_var_int_element_says b (arg_of k) (list_of ts) (arg.Var n) e) in
      (sym (number-Var b n) ∙ s.0, s.1))
      (λ b d o e. array_var_int_element_met b (arg_of k) (list_of ts) (arg.Var n) (is b (num b (Var n)) ∙ element_met (num b k) (map (num b) ts) (num b (Var n)) o (number-Var b n ∙ e)))
      (omega (arith, leaves_three ArrayVarIntElement (arg_of k) (list_of ts) (arg.Var n) 1 (length ts) 1 (leaf k) (leaves-list ts) (leaves-Var n)))

  -- the member at a place is a term that is there
  pub rule_member : (k : Term) (ts : List Term) (t : Term) → Before n k → AllBefore n ts → Before n t
      → Rule W D n (Posted (call_of ArrayVarIntElement (arg_of k ∷ list_of ts ∷ arg_of t ∷ [])) ∷ []) (2 + length ts) Always (λ b. (num b t ≡ member_at (map (num b) ts) (num b k)) × IsPlace (map (num b) ts) (num b k))
  rule_member k ts t hk h ht =
      let call : Call = call_of ArrayVarIntElement (arg_of k ∷ list_of ts ∷ arg_of t ∷ []) in
      let is : (b : List ℤ) → is_element (num b k) (numbers b (list_of ts)) (num b t) ≡ is_element (num b k) (map (num b) ts) (num b t) = λ b. ap (λ (zs : List ℤ). is_element (num b k) zs (num b t)) (numbers_of_list b ts) in
      rule_posted W D (λ b. (num b t ≡ member_at (map (num b) ts) (num b k)) × IsPlace (map (num b) ts) (num b k)) n (2 + length ts) call (term_before n k hk, (list_before n ts h, (term_before n t ht, tt)))
      (λ b d e. element_says (num b k) (map (num b) ts) (num b t) (sym (is b) ∙ array_var_int_element_says b (arg_of k) (list_of ts) (arg_of t) e))
      (λ b d p. array_var_int_element_met b (arg_of k) (list_of ts) (arg_of t) (is b ∙ element_met (num b k) (map (num b) ts) (num b t) p.1 p.0))
      (omega (arith, leaves_three ArrayVarIntElement (arg_of k) (list_of ts) (arg_of t) 1 (length ts) 1 (leaf k) (leaves-list ts) (leaf t)))

  -- a term lies between two numbers
  pub rule_within : (w : Bounds) (t : Term) → Before n t → Rule W D n (Posted (call_of SetIn (arg_of t ∷ arg.Range w ∷ [])) ∷ []) 3 Always (λ b. (w.lo ≤ℤ num b t) × (num b t ≤ℤ w.hi))
  rule_within w t h =
      let call : Call = call_of SetIn (arg_of t ∷ arg.Range w ∷ []) in
      rule_posted W D (λ b. (w.lo ≤ℤ num b t) × (num b t ≤ℤ w.hi)) n 3 call (term_before n t h, (before-Range n w, tt))
      (λ b d c.
      let parts = both_true (int_le w.lo (num b t)) (int_le (num b t) w.hi) (sym (has-Range w (num b t)) ∙ set_in_says b (arg_of t) (arg.Range w) c) in
      (le_is w.lo (num b t) parts.0, le_is (num b t) w.hi parts.1))
      (λ b d p. set_in_met b (arg_of t) (arg.Range w) (has-Range w (num b t) ∙ both_met _ _ (le_met w.lo (num b t) p.0) (le_met (num b t) w.hi p.1))) (omega (arith, leaves_two SetIn (arg_of t) (arg.Range w) 1 2 (leaf t) (leaves-Range w)))

  -- a value of one and of two terms, where it is known to lie in the range

  yields_one : (w : Bounds) (i : Builtin) (f : ℤ → ℤ) (x : Term) → place_of i ≡ Last → ((u r : Worth) → row_of i (u ∷ r ∷ []) ≡ int_eq (f u.number) r.number) → Before n x
      → ((b : List ℤ) → W b → D b → IsWithin w (f (num b x))) → Yields W D n (integer_of_one n w i x) 3 (λ b. f (num b x))
  unfolding of_one
  yields_one w i f x last row hx inside = record {
    rule =
        rule_as W D D (λ b. num b (Var n) ≡ f (num b x)) (λ b. num b (Var n) ≡ f (num b x)) (λ b. Always b × (w.lo ≤ℤ f (num b x)) × (f (num b x) ≤ℤ w.hi)) Always n (integer_of_one n w i x).items 3 3 (λ b d. d) (λ b d g. g)
        (λ b d g p. tt) (λ b y d g p. (tt, (inside b y d).from, (inside b y d).to)) (omega arith)
        (rule_value W D n 3 w.lo w.hi i (arg_of x ∷ []) (of_one f) (last_of_two_fixes i n (arg_of x) last (term_before n x hx)) (term_before n x hx, tt) (λ b r. row (worth b (arg_of x)) r)
        (omega (arith, leaves_two i (arg_of x) (arg.Var n) 1 1 (leaf x) (leaves-Var n))));
    before = omega arith;
  }

  yields_of_two : (w : Bounds) (i : Builtin) (f : ℤ → ℤ → ℤ) (x y : Term) → place_of i ≡ Last → ((u v r : Worth) → row_of i (u ∷ v ∷ r ∷ []) ≡ int_eq (f u.number v.number) r.number) → Before n x → Before n y
      → ((b : List ℤ) → W b → D b → IsWithin w (f (num b x) (num b y))) → Yields W D n (integer_of_two n w i x y) 4 (λ b. f (num b x) (num b y))
  unfolding of_two
  yields_of_two w i f x y last row hx hy inside =
      let G : List ℤ → Type 0 = λ b. num b (Var n) ≡ f (num b x) (num b y) in
      record {
        rule =
            rule_as W D D G G (λ b. Always b × (w.lo ≤ℤ f (num b x) (num b y)) × (f (num b x) (num b y) ≤ℤ w.hi)) Always n (integer_of_two n w i x y).items 4 4 (λ b d. d) (λ b d g. g) (λ b d g p. tt)
            (λ b z d g p. (tt, (inside b z d).from, (inside b z d).to)) (omega arith)
            (rule_value W D n 4 w.lo w.hi i (arg_of x ∷ arg_of y ∷ []) (of_two f) (last_of_three_fixes i n (arg_of x) (arg_of y) last (term_before n x hx) (term_before n y hy)) (term_before n x hx, (term_before n y hy, tt))
            (λ b r. row (worth b (arg_of x)) (worth b (arg_of y)) r) (omega (arith, leaves_three i (arg_of x) (arg_of y) (arg.Var n) 1 1 1 (leaf x) (leaf y) (leaves-Var n))));
        before = omega arith;
      }

  pub yields_absolute : (w : Bounds) (x : Term) → Before n x → ((b : List ℤ) → W b → D b → IsWithin w (pos (nat_abs (num b x)))) → Yields W D n (integer_of_one n w IntAbs x) 3 (λ b. pos (nat_abs (num b x)))
  yields_absolute w x = yields_one w IntAbs (λ z. pos (nat_abs z)) x refl (λ u r. refl)

  pub yields_product : (w : Bounds) (x y : Term) → Before n x → Before n y → ((b : List ℤ) → W b → D b → IsWithin w (num b x *ℤ num b y)) → Yields W D n (integer_of_two n w IntTimes x y) 4 (λ b. num b x *ℤ num b y)
  yields_product w x y = yields_of_two w IntTimes (λ u v. u *ℤ v) x y refl (λ u v r. refl)
