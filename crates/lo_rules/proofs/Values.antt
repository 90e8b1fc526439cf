-- The judgement of further definitions: of a range, a sum's test, a least and a greatest member, a quotient and a remainder, a
-- member of constants, and an integer of one value.
use Rattle.std.proofs.Common.{◌≡◌, ◌≢◌, inl, inr, ℕ, ◌+◌, ◌<◌, ◌≤◌, ℤ, pos, ◌≤ℤ◌, Bool, true, not, ◌&&◌, List, [], ◌∷◌, ◌++◌, length, map, refl, ap, ap₂, sym, subst, ◌∙◌, arith}
use Rattle.std.specs.Prelude.{int_le, int_div, int_rem}
use Rattle.std.specs.Ordering.{int_eq}
use Rattle.std.proofs.lemmas.Int.{ints}
use Rattle.fz_model.specs.Calls.{call_of}
use Rattle.fz_model.specs.declared.builtin.Builtin.{Builtin}
use Rattle.fz_model.specs.declared.builtin.Builtin.TheVariants.{SetInReif, IntLinLeReif, IntDiv, IntMod, ArrayIntMinimum, ArrayIntMaximum, ArrayIntElement}
use Rattle.fz_model.specs.declared.model.Arg.{Arg}
use Rattle.fz_model.specs.declared.model.Arg.TheVariants as arg
use Rattle.fz_model.specs.declared.model.Call.{Call}
use Rattle.fz_model.specs.Meaning.{at, truth, number, numbers, has, dot, Worth, worth, is_zero, is_least, is_greatest, is_element, is_quotient, is_remainder, CallHolds}
use Rattle.fz_model.specs.Size.{call_leaves}
use Rattle.fz_model.proofs.Calls.{number-Int, number-Var, has-Range, equal, equal_met, unequal_met, int_div_says, int_div_met, int_mod_says, int_mod_met, array_int_minimum_says, array_int_minimum_met, array_int_maximum_says, array_int_maximum_met, array_int_element_says, array_int_element_met}
use Rattle.fz_model.proofs.Fixing.{before-Int, before-Range, worth_same, last_of_three_fixes, last_of_four_fixes, int_div_fixes, int_mod_fixes, array_int_minimum_fixes, array_int_maximum_fixes, array_int_element_fixes}
use Rattle.lo_base.specs.Item.{Item, Ranged, Posted}
use Rattle.lo_base.proofs.Solving.{at_new}
use Rattle.lo_emit.specs.declared.term.Term.{Term}
use Rattle.lo_emit.specs.declared.term.Term.TheVariants.{Int, Var}
use Rattle.lo_emit.specs.Emitted.{Out, arg_of, list_of, constants_of, integer_of_two, integer_of_list, integer_of_constants, integer_of_value, truth_of_range, truth_of_sum}
use Rattle.lo_rules.specs.Conditions.{is_between}
use Rattle.lo_rules.specs.Rule.{num, Before, AllBefore, Always, Rule, Yields}
use Rattle.lo_rules.proofs.Rules.{rule_as, known_more}
use Rattle.lo_rules.proofs.Atoms.{rule_posted, rule_integer, rule_test}
use Rattle.lo_rules.proofs.Terms.{term_before, list_before, constants_before, numbers_of_list, numbers_of_constants, leaf, leaves-Var, leaves-Range, leaves-list, leaves-constants, leaves_two, leaves_three, leaves_four, yields_as}
use Rattle.lo_rules.proofs.Integers.{member_at, IsPlace, num_same, nums_same, element_says, element_met}
use Rattle.lo_rules.proofs.Tests.{both_true, both_met, least_unique, least_of_is, greatest_unique, greatest_of_is}
use Rattle.xf_num.specs.Span.{Bounds, IsWithin}
use Rattle.xs_model.specs.Value.{least_of, greatest_of}

in_range : List Worth → Bool
in_range (x ∷ s ∷ []) = s.has x.number
in_range _ = true

at_most : List Worth → Bool
at_most (cs ∷ xs ∷ k ∷ []) = int_le (dot cs.numbers xs.numbers) k.number
at_most _ = true

not_empty : (b : List ℤ) (ts : List Term) → ts ≢ [] → map (num b) ts ≢ []
not_empty b [] some = absurd (some refl)
not_empty b (t ∷ ts) some = λ e. cc e

module _ (W D : List ℤ → Type 0) (n : ℕ) where
  -- whether a term lies in a range
  pub yields_range : (x : Term) (w : Bounds) → Before n x → Yields W D n (truth_of_range n x w) 5 (λ b. truth (is_between w (num b x)))
  unfolding in_range
  yields_range x w hx =
      yields_as W D D n (truth_of_range n x w) 5 5 (λ b. truth (has (arg.Range w) (num b x))) (λ b. truth (is_between w (num b x))) (λ b d. d) (λ b d. ap truth (has-Range w (num b x))) (omega arith) (record {
        rule =
            rule_test W D n 5 SetInReif (arg_of x ∷ arg.Range w ∷ []) in_range (last_of_three_fixes SetInReif n (arg_of x) (arg.Range w) refl (term_before n x hx) (before-Range n w)) (term_before n x hx, (before-Range n w, tt))
            (λ b r. refl) (omega (arith, leaves_three SetInReif (arg_of x) (arg.Range w) (arg.Var n) 1 2 1 (leaf x) (leaves-Range w) (leaves-Var n)));
        before = omega arith;
      })

  -- whether a sum of products is at most a constant
  pub yields_at_most : (cs : List ℤ) (ts : List Term) (k : ℤ) → AllBefore n ts → Yields W D n (truth_of_sum n cs ts k) (3 + length cs + length ts) (λ b. truth (int_le (dot cs (map (num b) ts)) k))
  unfolding at_most
  yields_at_most cs ts k h =
      let w : ℕ = 3 + length cs + length ts in
      let args : List Arg = constants_of cs ∷ list_of ts ∷ arg.Int k ∷ [] in
      let is : (b : List ℤ) → int_le (dot (numbers b (constants_of cs)) (numbers b (list_of ts))) (number b (arg.Int k)) ≡ int_le (dot cs (map (num b) ts)) k =
      λ b. ap₂ int_le (ap₂ dot (numbers_of_constants b cs) (numbers_of_list b ts)) (number-Int b k) in
      yields_as W D D n (truth_of_sum n cs ts k) w w (λ b. truth (int_le (dot (numbers b (constants_of cs)) (numbers b (list_of ts))) (number b (arg.Int k)))) (λ b. truth (int_le (dot cs (map (num b) ts)) k)) (λ b d. d)
      (λ b d. ap truth (is b)) (omega arith) (record {
        rule =
            rule_test W D n w IntLinLeReif args at_most (last_of_four_fixes IntLinLeReif n (constants_of cs) (list_of ts) (arg.Int k) refl (constants_before n cs) (list_before n ts h) (before-Int n k))
            (constants_before n cs, (list_before n ts h, (before-Int n k, tt))) (λ b r. refl)
            (omega (arith, leaves_four IntLinLeReif (constants_of cs) (list_of ts) (arg.Int k) (arg.Var n) (length cs) (length ts) 1 1 (leaves-constants cs) (leaves-list ts) (leaf (Int k)) (leaves-Var n)));
        before = omega arith;
      })

  -- a value that is known to lie in the range, where the call asks for what is known
  inside : (ok : List ℤ → Type 0) (w : Bounds) (call : Call) (v : List ℤ → ℤ) (size : ℕ) → ((b : List ℤ) → W b → D b → ok b) → ((b : List ℤ) → W b → D b → IsWithin w (v b))
      → Rule W D n (Ranged w.lo w.hi ∷ Posted call ∷ []) size (λ b. num b (Var n) ≡ v b) (λ b. ok b × (w.lo ≤ℤ v b) × (v b ≤ℤ w.hi))
      → Rule W D n (Ranged w.lo w.hi ∷ Posted call ∷ []) size (λ b. num b (Var n) ≡ v b) Always
  inside ok w call v size asked within r =
      rule_as W D D (λ b. num b (Var n) ≡ v b) (λ b. num b (Var n) ≡ v b) (λ b. ok b × (w.lo ≤ℤ v b) × (v b ≤ℤ w.hi)) Always n (Ranged w.lo w.hi ∷ Posted call ∷ []) size size (λ b d. d) (λ b d g. g) (λ b d g p. tt)
      (λ b x d g p. (asked b x d, (within b x d).from, (within b x d).to)) (omega arith) r

  pub yields_least : (w : Bounds) (ts : List Term) → ts ≢ [] → AllBefore n ts → ((b : List ℤ) → W b → D b → IsWithin w (least_of (map (num b) ts)))
      → Yields W D n (integer_of_list n w ArrayIntMinimum ts) (2 + length ts) (λ b. least_of (map (num b) ts))
  yields_least w ts some h within =
      let v : List ℤ → ℤ = λ b. least_of (map (num b) ts) in
      let call : Call = call_of ArrayIntMinimum (arg.Var n ∷ list_of ts ∷ []) in
      let same : (b : List ℤ) (z : ℤ) → is_least z (numbers b (list_of ts)) ≡ is_least z (map (num b) ts) = λ b z. ap (is_least z) (numbers_of_list b ts) in
      record {
        rule =
            inside Always w call v (2 + length ts) (λ b x d. tt) within
            (rule_integer W D Always n (2 + length ts) w.lo w.hi call v (array_int_minimum_fixes n (list_of ts) (list_before n ts h)) (λ b c agree. ap least_of (nums_same n b c ts agree h))
            (λ b d e.
            (sym (number-Var b n) ∙ least_unique (num b (Var n)) (v b) (map (num b) ts) (sym (same b (num b (Var n))) ∙ array_int_minimum_says b (arg.Var n) (list_of ts) e) (least_of_is (map (num b) ts) (not_empty b ts some)), tt))
            (λ b d o e.
            array_int_minimum_met b (arg.Var n) (list_of ts)
            (same b (num b (Var n)) ∙ ap (λ (z : ℤ). is_least z (map (num b) ts)) (number-Var b n ∙ e) ∙ least_of_is (map (num b) ts) (not_empty b ts some)))
            (omega (arith, leaves_two ArrayIntMinimum (arg.Var n) (list_of ts) 1 (length ts) (leaves-Var n) (leaves-list ts))));
        before = omega arith;
      }

  pub yields_greatest : (w : Bounds) (ts : List Term) → ts ≢ [] → AllBefore n ts → ((b : List ℤ) → W b → D b → IsWithin w (greatest_of (map (num b) ts)))
      → Yields W D n (integer_of_list n w ArrayIntMaximum ts) (2 + length ts) (λ b. greatest_of (map (num b) ts))
  yields_greatest w ts some h within =
      let v : List ℤ → ℤ = λ b. greatest_of (map (num b) ts) in
      let call : Call = call_of ArrayIntMaximum (arg.Var n ∷ list_of ts ∷ []) in
      let same : (b : List ℤ) (z : ℤ) → is_greatest z (numbers b (list_of ts)) ≡ is_greatest z (map (num b) ts) = λ b z. ap (is_greatest z) (numbers_of_list b ts) in
      record {
        rule =
            inside Always w call v (2 + length ts) (λ b x d. tt) within
            (rule_integer W D Always n (2 + length ts) w.lo w.hi call v (array_int_maximum_fixes n (list_of ts) (list_before n ts h)) (λ b c agree. ap greatest_of (nums_same n b c ts agree h))
            (λ b d e.
            (sym (number-Var b n) ∙ greatest_unique (num b (Var n)) (v b) (map (num b) ts) (sym (same b (num b (Var n))) ∙ array_int_maximum_says b (arg.Var n) (list_of ts) e) (greatest_of_is (map (num b) ts) (not_empty b ts some)), tt))
            (λ b d o e.
            array_int_maximum_met b (arg.Var n) (list_of ts)
            (same b (num b (Var n)) ∙ ap (λ (z : ℤ). is_greatest z (map (num b) ts)) (number-Var b n ∙ e) ∙ greatest_of_is (map (num b) ts) (not_empty b ts some)))
            (omega (arith, leaves_two ArrayIntMaximum (arg.Var n) (list_of ts) 1 (length ts) (leaves-Var n) (leaves-list ts))));
        before = omega arith;
      }

  -- the divisor is not 0
  Divides : Term → List ℤ → Type 0
  Divides y b = not (is_zero (num b y)) ≡ true

  pub yields_quotient : (w : Bounds) (x y : Term) → Before n x → Before n y → ((b : List ℤ) → W b → D b → num b y ≢ pos 0) → ((b : List ℤ) → W b → D b → IsWithin w (int_div (num b x) (num b y)))
      → Yields W D n (integer_of_two n w IntDiv x y) 4 (λ b. int_div (num b x) (num b y))
  unfolding Divides
  yields_quotient w x y hx hy some within =
      let v : List ℤ → ℤ = λ b. int_div (num b x) (num b y) in
      let call : Call = call_of IntDiv (arg_of x ∷ arg_of y ∷ arg.Var n ∷ []) in
      record {
        rule =
            inside (Divides y) w call v 4 (λ b a d. unequal_met (pos 0) (num b y) (λ e. some b a d (sym e))) within
            (rule_integer W D (Divides y) n 4 w.lo w.hi call v (int_div_fixes n (arg_of x) (arg_of y) (term_before n x hx) (term_before n y hy)) (λ b c agree. ap₂ int_div (num_same n b c x agree hx) (num_same n b c y agree hy))
            (λ b d h. let parts = both_true _ _ (int_div_says b (arg_of x) (arg_of y) (arg.Var n) h) in (sym (number-Var b n) ∙ sym (equal (v b) (num b (Var n)) parts.1), parts.0))
            (λ b d o e. int_div_met b (arg_of x) (arg_of y) (arg.Var n) (both_met _ _ o (equal_met (v b) (num b (Var n)) (sym (number-Var b n ∙ e)))))
            (omega (arith, leaves_three IntDiv (arg_of x) (arg_of y) (arg.Var n) 1 1 1 (leaf x) (leaf y) (leaves-Var n))));
        before = omega arith;
      }

  pub yields_remainder : (w : Bounds) (x y : Term) → Before n x → Before n y → ((b : List ℤ) → W b → D b → num b y ≢ pos 0) → ((b : List ℤ) → W b → D b → IsWithin w (int_rem (num b x) (num b y)))
      → Yields W D n (integer_of_two n w IntMod x y) 4 (λ b. int_rem (num b x) (num b y))
  unfolding Divides
  yields_remainder w x y hx hy some within =
      let v : List ℤ → ℤ = λ b. int_rem (num b x) (num b y) in
      let call : Call = call_of IntMod (arg_of x ∷ arg_of y ∷ arg.Var n ∷ []) in
      record {
        rule =
            inside (Divides y) w call v 4 (λ b a d. unequal_met (pos 0) (num b y) (λ e. some b a d (sym e))) within
            (rule_integer W D (Divides y) n 4 w.lo w.hi call v (int_mod_fixes n (arg_of x) (arg_of y) (term_before n x hx) (term_before n y hy)) (λ b c agree. ap₂ int_rem (num_same n b c x agree hx) (num_same n b c y agree hy))
            (λ b d h. let parts = both_true _ _ (int_mod_says b (arg_of x) (arg_of y) (arg.Var n) h) in (sym (number-Var b n) ∙ sym (equal (v b) (num b (Var n)) parts.1), parts.0))
            (λ b d o e. int_mod_met b (arg_of x) (arg_of y) (arg.Var n) (both_met _ _ o (equal_met (v b) (num b (Var n)) (sym (number-Var b n ∙ e)))))
            (omega (arith, leaves_three IntMod (arg_of x) (arg_of y) (arg.Var n) 1 1 1 (leaf x) (leaf y) (leaves-Var n))));
        before = omega arith;
      }

  -- the member of constants at a place; the place, which may be none, and the range are stated
  pub rule_constant_place : (w : Bounds) (k : Term) (zs : List ℤ) → Before n k
      → Rule W D n (integer_of_constants n w k zs).items (3 + length zs) (λ b. num b (Var n) ≡ member_at zs (num b k)) (λ b. IsPlace zs (num b k) × (w.lo ≤ℤ member_at zs (num b k)) × (member_at zs (num b k) ≤ℤ w.hi))
  rule_constant_place w k zs hk =
      let call : Call = call_of ArrayIntElement (arg_of k ∷ constants_of zs ∷ arg.Var n ∷ []) in
      let v : List ℤ → ℤ = λ b. member_at zs (num b k) in
      let is : (b : List ℤ) (z : ℤ) → is_element (num b k) (numbers b (constants_of zs)) z ≡ is_element (num b k) zs z = λ b z. ap (λ (ys : List ℤ). is_element (num b k) ys z) (numbers_of_constants b zs) in
      rule_integer W D (λ b. IsPlace zs (num b k)) n (3 + length zs) w.lo w.hi call v (array_int_element_fixes n (arg_of k) (constants_of zs) (term_before n k hk) (constants_before n zs))
      (λ b e agree. ap (member_at zs) (num_same n b e k agree hk))
      (λ b d e.
      let s = element_says (num b k) zs (num b (Var n)) (sym (is b (num b (Var n))) ∙ array_int_element_says b (arg_of k) (constants_of zs) (arg.Var n) e) in
      (sym (number-Var b n) ∙ s.0, s.1))
      (λ b d o e. array_int_element_met b (arg_of k) (constants_of zs) (arg.Var n) (is b (num b (Var n)) ∙ element_met (num b k) zs (num b (Var n)) o (number-Var b n ∙ e)))
      (omega (arith, leaves_three ArrayIntElement (arg_of k) (constants_of zs) (arg.Var n) 1 (length zs) 1 (leaf k) (leaves-constants zs) (leaves-Var n)))

  -- the member of constants at a place is a term that is there
  pub rule_constant_member : (k : Term) (zs : List ℤ) (t : Term) → Before n k → Before n t
      → Rule W D n (Posted (call_of ArrayIntElement (arg_of k ∷ constants_of zs ∷ arg_of t ∷ [])) ∷ []) (2 + length zs) Always (λ b. (num b t ≡ member_at zs (num b k)) × IsPlace zs (num b k))
  rule_constant_member k zs t hk ht =
      let call : Call = call_of ArrayIntElement (arg_of k ∷ constants_of zs ∷ arg_of t ∷ []) in
      let is : (b : List ℤ) → is_element (num b k) (numbers b (constants_of zs)) (num b t) ≡ is_element (num b k) zs (num b t) = λ b. ap (λ (ys : List ℤ). is_element (num b k) ys (num b t)) (numbers_of_constants b zs) in
      rule_posted W D (λ b. (num b t ≡ member_at zs (num b k)) × IsPlace zs (num b k)) n (2 + length zs) call (term_before n k hk, (constants_before n zs, (term_before n t ht, tt)))
      (λ b d e. element_says (num b k) zs (num b t) (sym (is b) ∙ array_int_element_says b (arg_of k) (constants_of zs) (arg_of t) e))
      (λ b d p. array_int_element_met b (arg_of k) (constants_of zs) (arg_of t) (is b ∙ element_met (num b k) zs (num b t) p.1 p.0))
      (omega (arith, leaves_three ArrayIntElement (arg_of k) (constants_of zs) (arg_of t) 1 (length zs) 1 (leaf k) (leaves-constants zs) (leaf t)))

  one_value : (z v : ℤ) → z ≤ℤ v → v ≤ℤ z → v ≡ z
  one_value z v h k = omega (arith, ints, h, k)

  only_one : (k : ℕ) → n ≤ k → k < n + 1 → k ≡ n
  only_one k h g = omega (arith, h, g)

  -- an integer of one value
  pub yields_value : (z : ℤ) → Yields W D n (integer_of_value n z) 1 (λ b. z)
  yields_value z = record {
    rule = record {
      sound = λ b d h. (number-Var b n ∙ one_value z (at b n) h.0 h.1, tt);
      total = λ a len within known.
          let here : (d : List ℤ) → at ((a ++ z ∷ []) ++ d) n ≡ z = λ d. ap (at ((a ++ z ∷ []) ++ d)) (sym len) ∙ at_new a z d in
          record {
            more = z ∷ [];
            many = refl;
            known = λ d. number-Var ((a ++ z ∷ []) ++ d) n ∙ here d;
            met = λ d p. (subst (λ (y : ℤ). z ≤ℤ y) (sym (here d)) (omega (arith, ints)), subst (λ (y : ℤ). y ≤ℤ z) (sym (here d)) (omega (arith, ints)), tt);
          };
      settled = λ k ge lt. inl (only_one k ge lt, refl);
      before = tt;
      size = omega arith;
    };
    before = omega arith;
  }
