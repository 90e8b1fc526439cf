-- What each operator is lowered to yields its value, as a number and as a truth value.
use Rattle.std.proofs.Common.{◌≡◌, ◌≢◌, inl, inr, ℕ, suc, ◌+◌, ◌*◌, ◌≤◌, ℤ, pos, neg_ℤ, ◌-ℤ◌, ◌*ℤ◌, ◌≤ℤ◌, Bool, true, false, not, List, [], ◌∷◌, length, map, drop, refl, ap, ap₂, sym, ◌∙◌, subst, arith, true≢false, Ok}
use Rattle.std.specs.Prelude.{int_le, int_lt, if◌then◌else◌}
use Rattle.std.specs.List.{AllByRecursion, list_any, list_all}
use Rattle.std.specs.Ordering.{int_eq}
use Rattle.std.proofs.lemmas.Int.{ints, clamps}
use Rattle.xf_num.specs.Span.{Bounds, IsWithin, sub_ends, abs_ends, div_ends, rem_ends, join_ends, pow_ends}
use Rattle.xf_num.proofs.Images.{sub-IsHull}
use Rattle.xf_text.specs.declared.fault.Kind.TheVariants.{Logic, Division}
use Rattle.fz_model.specs.declared.builtin.Builtin.TheVariants.{Bool2Int}
use Rattle.fz_model.specs.Fixing.{IsBit}
use Rattle.fz_model.specs.Meaning.{truth, is_one}
use Rattle.fz_model.proofs.Calls.{number-Int, number-Bool}
use Rattle.xs_model.specs.declared.expr.Op.{Op}
use Rattle.xs_model.specs.declared.expr.Op.TheVariants.{Neg, Abs, Sqr, Add, Mul, Sub, Dist, Div, Mod, Pow, Min, Max, Lt, Le, Gt, Ge, Ne, Eq, Set, In, NotIn, Not, And, Or, Xor, Iff, Imp, If}
use Rattle.xs_model.specs.Value.{at, apply, absolute, all_equal, is_true, is_odd, product_from, exponent_of, chosen}
use Rattle.xs_model.specs.Bounds.{truths, is_truth, is_divisible, limited, operand, node_bounds}
use Rattle.xs_model.specs.Shape.{IsCount, IsExponent, is_set_operator}
use Rattle.xs_expr.proofs.Within.{IsHeld, AreHeld, AreSmall, guarded, limited-is, operand-held, ordered}
use Rattle.lo_base.specs.Item.{made}
use Rattle.lo_base.proofs.Solving.{truth_bit}
use Rattle.lo_emit.specs.declared.term.Term.{Term}
use Rattle.lo_emit.specs.declared.term.Term.TheVariants.{Int, Truth}
use Rattle.lo_emit.specs.Emitted.{Out, integer_of_one, truth_of_number}
use Rattle.lo_rules.specs.Rule.{num, Before, AllBefore, Yields}
use Rattle.lo_rules.proofs.Chains.{yields_behind}
use Rattle.lo_rules.proofs.Conditions.{yields_denied}
use Rattle.lo_rules.proofs.Integers.{yields_absolute, yields_product}
use Rattle.lo_rules.proofs.Linear.{mapped_long, yields_integer}
use Rattle.lo_rules.proofs.Terms.{yields_as, yields_standing, yields_eq, yields_ne, yields_le, yields_lt, yields_iff, yields_imp, yields_not, yields_and, yields_or, yields_tested}
use Rattle.lo_rules.proofs.Tests.{both_true, le_is, all_ones, any_ones}
use Rattle.lo_rules.proofs.Values.{yields_least, yields_greatest, yields_quotient, yields_remainder}
use Rattle.lo_terms.specs.declared.term.Operand.{Operand}
use Rattle.lo_terms.specs.Emitted.{kept}
use Rattle.lo_terms.specs.Rules.{terms_of, operand_at, term_at, number_node, truth_node, gives_truth, as_number, as_truth, counted, tested, product, member, no_member}
use Rattle.lo_terms_laws.proofs.Operands.{spans_of, nums, at_place, before_at, span_at, kept_held, small_limited, within_bit, AllBits, all_bits, logic_is, bit_at}
use Rattle.lo_terms_laws.proofs.Numbers.{yields_left, yields_difference, yields_total, yields_distance, yields_choice, yields_factors}
use Rattle.lo_terms_laws.proofs.Powers.{yields_power}
use Rattle.lo_terms_laws.proofs.Truths.{IsWritten, yields_equal, yields_member, yields_no_member, yields_parity_of}

-- what an operator makes of its operands' numbers; those of a membership are the first operand and the members
abbrev pub worth_at : Op → List ℤ → ℤ
worth_at op zs = apply op zs (drop 1 zs)

-- the operands' numbers lie within their bounds, and the node's own are w
pub record Spanned (D : List ℤ → Type 0) (op : Op) (w : Bounds) (os : List Operand) : Type 0 where
  pub held : (b : List ℤ) → D b → AreHeld (spans_of os) (nums b os)
  pub own : node_bounds op (spans_of os) ≡ Ok w

abbrev pub AreSpanned : (List ℤ → Type 0) → Op → Bounds → List Operand → Type 0
AreSpanned D In w os = Unit {0}
AreSpanned D NotIn w os = Unit {0}
AreSpanned D op w os = Spanned D op w os

abbrev pub HasCount : Op → ℕ → Type 0
HasCount In n = Unit {0}
HasCount NotIn n = Unit {0}
HasCount op n = IsCount op n

-- where the members are integers as written, so are their terms
abbrev pub AreWritten : Op → Bool → List Operand → Type 0
AreWritten In written os = written ≡ true → AllByRecursion IsWritten (drop 1 (terms_of os))
AreWritten NotIn written os = written ≡ true → AllByRecursion IsWritten (drop 1 (terms_of os))
AreWritten op written os = Unit {0}

pub record HasPower (os : List Operand) : Type 0 where
  pub power : ℤ
  pub exponent : IsExponent power
  pub term : term_at os 1 ≡ Int power
  pub span : (operand (spans_of os) 1).lo ≡ power

abbrev pub IsRaised : Op → List Operand → Type 0
IsRaised Pow os = HasPower os
IsRaised op os = Unit {0}

-- all that is known of the operands of a node
pub record Input (D : List ℤ → Type 0) (n : ℕ) (op : Op) (w : Bounds) (written : Bool) (os : List Operand) : Type 0 where
  pub before : AllBefore n (terms_of os)
  pub spanned : AreSpanned D op w os
  pub within : (b : List ℤ) → D b → IsWithin w (worth_at op (nums b os))
  pub count : HasCount op (length os)
  pub literal : AreWritten op written os
  pub raised : IsRaised op os

-- how much an operator may say of its operands
abbrev pub limit : List Operand → ℕ
limit os = 65 * length os + 187

no_truth : {P : Type 0} → true ≡ false → P
no_truth h = absurd (true≢false h)

some_terms : (os : List Operand) → 2 ≤ length os → terms_of os ≢ []
some_terms [] h e = absurd (omega (arith, h))
some_terms (o ∷ os) h e = cc

minus : (x : ℤ) → pos 0 -ℤ x ≡ neg_ℤ x
minus x = omega (arith, ints)

flipped : (x : ℤ) → IsBit x → truth (not (is_one x)) ≡ pos 1 -ℤ x
flipped x h = let P : ℤ → Type 0 = λ z. truth (not (is_one z)) ≡ pos 1 -ℤ z in elim h [ inl e ↦ subst P (sym e) refl | inr e ↦ subst P (sym e) refl ]

pub one_bit : (x : ℤ) → IsBit x → truth (is_one x) ≡ x
one_bit x h = let P : ℤ → Type 0 = λ z. truth (is_one z) ≡ z in elim h [ inl e ↦ subst P (sym e) refl | inr e ↦ subst P (sym e) refl ]

small_inside : (d : Bounds) → d.lo ≤ℤ d.hi → AreSmall (abs_ends d) → AreSmall d
small_inside d o small = record {
  lo = record { from = omega (arith, ints, clamps, o, small.hi.to); to = omega (arith, ints, clamps, o, small.hi.to) };
  hi = record { from = omega (arith, ints, clamps, o, small.hi.to); to = omega (arith, ints, clamps, o, small.hi.to) };
}

module _ (W D : List ℤ → Type 0) (n : ℕ) (w : Bounds) (written : Bool) (os : List Operand) where
  abbrev x : Term
  x = term_at os 0

  abbrev y : Term
  y = term_at os 1

  -- in the words of the operator, and no larger than it may be
  fit : (op : Op) (c : Out) (size : ℕ) (v : List ℤ → ℤ) → size ≤ limit os → ((b : List ℤ) → D b → v b ≡ worth_at op (nums b os)) → Yields W D n c size v → Yields W D n c (limit os) (λ b. worth_at op (nums b os))
  fit op c size v le same r = yields_as W D D n c size (limit os) v (λ b. worth_at op (nums b os)) (λ b d. d) same le r

  inside : (op : Op) (v : List ℤ → ℤ) → Input D n op w written os → ((b : List ℤ) → D b → v b ≡ worth_at op (nums b os)) → (b : List ℤ) → D b → IsWithin w (v b)
  inside op v i same b d = subst (IsWithin w) (sym (same b d)) (i.within b d)

  -- a function of the first operand, and of the first two
  first : (f : ℤ → ℤ) (b : List ℤ) → f (num b x) ≡ f (at (nums b os) 0)
  first f b = ap f (at_place b os 0)

  both : (f : ℤ → ℤ → ℤ) (b : List ℤ) → f (num b x) (num b y) ≡ f (at (nums b os) 0) (at (nums b os) 1)
  both f b = ap₂ f (at_place b os 0) (at_place b os 1)

  turned : (f : ℤ → ℤ → ℤ) (b : List ℤ) → f (num b y) (num b x) ≡ f (at (nums b os) 1) (at (nums b os) 0)
  turned f b = ap₂ f (at_place b os 1) (at_place b os 0)

  place_held : (op : Op) → Spanned D op w os → (k : ℕ) (b : List ℤ) → D b → IsHeld (operand_at os k).span (num b (term_at os k))
  place_held op s k b d =
      subst (λ (e : Bounds). IsHeld e (num b (term_at os k))) (sym (span_at os k)) (subst (IsHeld (operand (spans_of os) k)) (sym (at_place b os k)) (operand-held (spans_of os) (nums b os) k (s.held b d)))

  divides : (op : Op) → Spanned D op w os → is_divisible (operand (spans_of os) 0) (operand (spans_of os) 1) ≡ true → (b : List ℤ) → D b → num b y ≢ pos 0
  divides op s h b d e =
      let low = le_is (pos 1) (operand (spans_of os) 1).lo (both_true (int_le (pos 0) (operand (spans_of os) 0).lo) (int_le (pos 1) (operand (spans_of os) 1).lo) h).1 in
      let held = (operand-held (spans_of os) (nums b os) 1 (s.held b d)).within.from in
      absurd (omega (arith, ints, low, held, sym (at_place b os 1) ∙ e))

  first_bit : (op : Op) → Spanned D op w os → list_all is_truth (spans_of os) ≡ true → (b : List ℤ) → D b → IsBit (num b x)
  first_bit op s t b d = subst IsBit (sym (at_place b os 0)) (bit_at (nums b os) 0 (all_bits (spans_of os) (nums b os) (s.held b d) t))

  near : Spanned D Dist w os → (b : List ℤ) → D b → IsWithin (kept (sub_ends (operand_at os 0).span (operand_at os 1).span)) (num b x -ℤ num b y)
  near s b d =
      let e : Bounds = (operand_at os 0).span in
      let f : Bounds = (operand_at os 1).span in
      let u = (place_held Dist s 0 b d).within in
      let v = (place_held Dist s 1 b d).within in
      let g : Bounds = sub_ends e f in
      let within : IsWithin g (num b x -ℤ num b y) = (sub-IsHull e f (ordered e (num b x) u) (ordered f (num b y) v)).holds (num b x) (num b y) u v in
      let own : limited (abs_ends g) ≡ Ok w = ap₂ (λ (p q : Bounds). limited (abs_ends (sub_ends p q))) (span_at os 0) (span_at os 1) ∙ s.own in
      kept_held g g (num b x -ℤ num b y) (small_limited g (small_inside g (ordered g (num b x -ℤ num b y) within) (limited-is (abs_ends g) w own).1)) within

  number_yields : (op : Op) → Input D n op w written os → gives_truth op ≡ false → is_set_operator op ≡ false → Yields W D n (number_node op w n os) (limit os) (λ b. worth_at op (nums b os))
  number_yields Neg i h s =
      let same : (b : List ℤ) → D b → pos 0 -ℤ num b x ≡ worth_at Neg (nums b os) = λ b d. minus (num b x) ∙ first neg_ℤ b in
      fit Neg _ 6 (λ b. pos 0 -ℤ num b x) (omega arith) same (yields_left W D n w x (pos 0) (before_at n os 0 i.before) (inside Neg (λ b. pos 0 -ℤ num b x) i same))
  number_yields Abs i h s =
      let v : List ℤ → ℤ = λ b. absolute (num b x) in
      fit Abs _ 3 v (omega arith) (λ b d. first absolute b) (yields_absolute W D n w x (before_at n os 0 i.before) (λ b z d. inside Abs v i (λ c e. first absolute c) b d))
  number_yields Sqr i h s =
      let v : List ℤ → ℤ = λ b. num b x *ℤ num b x in
      let same : (b : List ℤ) → D b → v b ≡ worth_at Sqr (nums b os) = λ b d. first (λ z. z *ℤ z) b in
      fit Sqr _ 4 v (omega arith) same (yields_product W D n w x x (before_at n os 0 i.before) (before_at n os 0 i.before) (λ b z d. inside Sqr v i same b d))
  number_yields Add i h s = fit Add _ (4 + 2 * length os) (λ b. worth_at Add (nums b os)) (omega arith) (λ b d. refl) (yields_total W D n w os i.before i.within)
  number_yields Sub i h s =
      let v : List ℤ → ℤ = λ b. num b x -ℤ num b y in
      let same : (b : List ℤ) → D b → v b ≡ worth_at Sub (nums b os) = λ b d. both (λ p q. p -ℤ q) b in
      fit Sub _ 8 v (omega arith) same (yields_difference W D n w x y (before_at n os 0 i.before) (before_at n os 1 i.before) (inside Sub v i same))
  number_yields Dist i h s =
      let v : List ℤ → ℤ = λ b. absolute (num b x -ℤ num b y) in
      let same : (b : List ℤ) → D b → v b ≡ worth_at Dist (nums b os) = λ b d. both (λ p q. absolute (p -ℤ q)) b in
      fit Dist _ 11 v (omega arith) same (yields_distance W D n w (operand_at os 0) (operand_at os 1) (before_at n os 0 i.before) (before_at n os 1 i.before) (near i.spanned) (inside Dist v i same))
  number_yields Div i h s =
      let v : List ℤ → ℤ = λ b. apply Div (num b x ∷ num b y ∷ []) [] in
      let same : (b : List ℤ) → D b → v b ≡ worth_at Div (nums b os) = λ b d. both (λ p q. apply Div (p ∷ q ∷ []) []) b in
      let g = guarded (is_divisible (operand (spans_of os) 0) (operand (spans_of os) 1)) (limited (div_ends (operand (spans_of os) 0) (operand (spans_of os) 1))) w Division i.spanned.own in
      fit Div _ 4 v (omega arith) same (yields_quotient W D n w x y (before_at n os 0 i.before) (before_at n os 1 i.before) (λ b z d. divides Div i.spanned g.1 b d) (λ b z d. inside Div v i same b d))
  number_yields Mod i h s =
      let v : List ℤ → ℤ = λ b. apply Mod (num b x ∷ num b y ∷ []) [] in
      let same : (b : List ℤ) → D b → v b ≡ worth_at Mod (nums b os) = λ b d. both (λ p q. apply Mod (p ∷ q ∷ []) []) b in
      let g = guarded (is_divisible (operand (spans_of os) 0) (operand (spans_of os) 1)) (limited (rem_ends (operand (spans_of os) 0) (operand (spans_of os) 1))) w Division i.spanned.own in
      fit Mod _ 4 v (omega arith) same (yields_remainder W D n w x y (before_at n os 0 i.before) (before_at n os 1 i.before) (λ b z d. divides Mod i.spanned g.1 b d) (λ b z d. inside Mod v i same b d))
  number_yields Min i h s =
      fit Min _ (2 + length (terms_of os)) (λ b. worth_at Min (nums b os)) (omega (arith, mapped_long (λ (o : Operand). o.term) os)) (λ b d. refl) (yields_least W D n w (terms_of os) (some_terms os i.count) i.before (λ b z d. i.within b d))
  number_yields Max i h s =
      fit Max _ (2 + length (terms_of os)) (λ b. worth_at Max (nums b os)) (omega (arith, mapped_long (λ (o : Operand). o.term) os)) (λ b d. refl) (yields_greatest W D n w (terms_of os) (some_terms os i.count) i.before (λ b z d. i.within b d))
  number_yields If i h s =
      let z : Term = term_at os 2 in
      let v : List ℤ → ℤ = λ b. chosen (num b x) (num b y) (num b z) in
      let same : (b : List ℤ) → D b → v b ≡ worth_at If (nums b os) =
      λ b d. ap₂ (λ (p q : ℤ). chosen p q (num b z)) (at_place b os 0) (at_place b os 1) ∙ ap (chosen (at (nums b os) 0) (at (nums b os) 1)) (at_place b os 2) in
      let g = guarded (is_truth (operand (spans_of os) 0)) (limited (join_ends (operand (spans_of os) 1) (operand (spans_of os) 2))) w Logic i.spanned.own in
      let bit : (b : List ℤ) → D b → IsBit (num b x) =
      λ b d. subst IsBit (sym (at_place b os 0)) (within_bit (operand (spans_of os) 0) (at (nums b os) 0) g.1 (operand-held (spans_of os) (nums b os) 0 (i.spanned.held b d)).within) in
      fit If _ 14 v (omega arith) same (yields_choice W D n w x y z (before_at n os 0 i.before) (before_at n os 1 i.before) (before_at n os 2 i.before) bit (inside If v i same))
  number_yields Mul i h s = factors os i.before i.spanned.held i.spanned.own i.count
    where
      factors : (ps : List Operand) → AllBefore n (terms_of ps) → ((b : List ℤ) → D b → AreHeld (spans_of ps) (nums b ps)) → node_bounds Mul (spans_of ps) ≡ Ok w → 2 ≤ length ps
          → Yields W D n (number_node Mul w n ps) (limit ps) (λ b. worth_at Mul (nums b ps))
      factors [] before held own count = absurd (omega (arith, count))
      factors (p ∷ ps) before held own count =
          yields_as W D D n (product n p ps) (4 * length ps) (limit (p ∷ ps)) (λ b. product_from (num b p.term) (nums b ps)) (λ b. worth_at Mul (nums b (p ∷ ps))) (λ b d. d)
          (λ b d. ap (λ (z : ℤ). product_from z (nums b ps)) (omega (arith, ints))) (omega arith) (yields_factors W D n p ps w before.0 before.1 (λ b d. (held b d).0) (λ b d. (held b d).1) own)
  number_yields Pow i h s =
      let r = i.raised in
      let v : List ℤ → ℤ = λ b. apply Pow (num b x ∷ r.power ∷ []) [] in
      let same : (b : List ℤ) → D b → v b ≡ worth_at Pow (nums b os) =
      λ b d. ap₂ (λ (p q : ℤ). apply Pow (p ∷ q ∷ []) []) (at_place b os 0) (sym (number_is b) ∙ at_place b os 1) in
      let own : limited (pow_ends (operand_at os 0).span (exponent_of r.power)) ≡ Ok w =
      ap₂ (λ (c : Bounds) (z : ℤ). limited (pow_ends c (exponent_of z))) (span_at os 0) (sym r.span) ∙ i.spanned.own in
      fit Pow _ 252 v (omega (arith, i.count)) same (yields_power W D n (operand_at os 0) y r.power w (before_at n os 0 i.before) r.exponent r.term (place_held Pow i.spanned 0) own)
    where
      number_is : (b : List ℤ) → num b y ≡ i.raised.power
      number_is b = ap (num b) i.raised.term ∙ number-Int b i.raised.power
  number_yields Set i h s = no_truth s
  number_yields op i h s = no_truth h

  -- the value of an operator that gives a truth value is 0 or 1
  bit_of : (op : Op) → Input D n op w written os → gives_truth op ≡ true → (b : List ℤ) → D b → IsBit (worth_at op (nums b os))
  bit_of Lt i h b d = truth_bit (int_lt (at (nums b os) 0) (at (nums b os) 1))
  bit_of Le i h b d = truth_bit (int_le (at (nums b os) 0) (at (nums b os) 1))
  bit_of Gt i h b d = truth_bit (int_lt (at (nums b os) 1) (at (nums b os) 0))
  bit_of Ge i h b d = truth_bit (int_le (at (nums b os) 1) (at (nums b os) 0))
  bit_of Ne i h b d = truth_bit (not (int_eq (at (nums b os) 0) (at (nums b os) 1)))
  bit_of Eq i h b d = truth_bit (all_equal (nums b os))
  bit_of In i h b d = truth_bit (list_any (int_eq (at (nums b os) 0)) (drop 1 (nums b os)))
  bit_of NotIn i h b d = truth_bit (not (list_any (int_eq (at (nums b os) 0)) (drop 1 (nums b os))))
  bit_of And i h b d = truth_bit (list_all is_true (nums b os))
  bit_of Or i h b d = truth_bit (list_any is_true (nums b os))
  bit_of Xor i h b d = truth_bit (is_odd (nums b os))
  bit_of Iff i h b d = truth_bit (int_eq (at (nums b os) 0) (at (nums b os) 1))
  bit_of Imp i h b d = truth_bit (int_le (at (nums b os) 0) (at (nums b os) 1))
  bit_of Not i h b d =
      let bit = first_bit Not i.spanned (logic_is (spans_of os) w i.spanned.own) b d in
      subst IsBit (flipped (num b x) bit ∙ first (λ z. pos 1 -ℤ z) b) (truth_bit (not (is_one (num b x))))
  bit_of op i h b d = no_truth (sym h)

  truth_yields : (op : Op) → Input D n op w written os → gives_truth op ≡ true → Yields W D n (truth_node op written n os) (limit os) (λ b. worth_at op (nums b os))
  truth_yields Lt i h = fit Lt _ 4 _ (omega arith) (λ b d. both (λ p q. truth (int_lt p q)) b) (yields_lt W D n x y (before_at n os 0 i.before) (before_at n os 1 i.before))
  truth_yields Le i h = fit Le _ 4 _ (omega arith) (λ b d. both (λ p q. truth (int_le p q)) b) (yields_le W D n x y (before_at n os 0 i.before) (before_at n os 1 i.before))
  truth_yields Gt i h = fit Gt _ 4 _ (omega arith) (λ b d. turned (λ p q. truth (int_lt p q)) b) (yields_lt W D n y x (before_at n os 1 i.before) (before_at n os 0 i.before))
  truth_yields Ge i h = fit Ge _ 4 _ (omega arith) (λ b d. turned (λ p q. truth (int_le p q)) b) (yields_le W D n y x (before_at n os 1 i.before) (before_at n os 0 i.before))
  truth_yields Ne i h = fit Ne _ 4 _ (omega arith) (λ b d. both (λ p q. truth (not (int_eq p q))) b) (yields_ne W D n x y (before_at n os 0 i.before) (before_at n os 1 i.before))
  truth_yields Iff i h = fit Iff _ 4 _ (omega arith) (λ b d. both (λ p q. truth (int_eq p q)) b) (yields_iff W D n x y (before_at n os 0 i.before) (before_at n os 1 i.before))
  truth_yields Imp i h = fit Imp _ 4 _ (omega arith) (λ b d. both (λ p q. truth (int_le p q)) b) (yields_imp W D n x y (before_at n os 0 i.before) (before_at n os 1 i.before))
  truth_yields Eq i h = fit Eq _ (5 * length (terms_of os) + 4) _ (omega (arith, mapped_long (λ (o : Operand). o.term) os)) (λ b d. refl) (yields_equal W D n (terms_of os) i.before)
  truth_yields Not i h =
      let bit = first_bit Not i.spanned (logic_is (spans_of os) w i.spanned.own) in
      fit Not _ 3 _ (omega arith) (λ b d. flipped (num b x) (bit b d) ∙ first (λ z. pos 1 -ℤ z) b) (yields_not W D n x (before_at n os 0 i.before) bit)
  truth_yields And i h =
      fit And _ (2 + length (terms_of os)) _ (omega (arith, mapped_long (λ (o : Operand). o.term) os)) (λ b d. ap truth (all_ones (nums b os))) (yields_and W D n (terms_of os) i.before)
  truth_yields Or i h =
      fit Or _ (2 + length (terms_of os)) _ (omega (arith, mapped_long (λ (o : Operand). o.term) os)) (λ b d. ap truth (any_ones (nums b os))) (yields_or W D n (terms_of os) i.before)
  truth_yields Xor i h =
      fit Xor _ (4 * length (terms_of os)) _ (omega (arith, mapped_long (λ (o : Operand). o.term) os)) (λ b d. refl)
      (yields_parity_of W D n (terms_of os) i.before (λ b d. all_bits (spans_of os) (nums b os) (i.spanned.held b d) (logic_is (spans_of os) w i.spanned.own)))
  truth_yields In i h = among os i.before i.literal
    where
      among : (ps : List Operand) → AllBefore n (terms_of ps) → (written ≡ true → AllByRecursion IsWritten (drop 1 (terms_of ps))) → Yields W D n (member written n (terms_of ps)) (limit ps) (λ b. worth_at In (nums b ps))
      among [] before literal =
          yields_as W D D n (member written n []) 0 (limit []) (λ b. truth false) (λ b. worth_at In []) (λ b d. d) (λ b d. refl) (omega arith) (yields_standing W D n (Truth false) (λ b. truth false) tt (λ b d. number-Bool b false))
      among (p ∷ ps) before literal =
          yields_as W D D n (member written n (terms_of (p ∷ ps))) (5 * length (terms_of ps) + 4) (limit (p ∷ ps)) (λ b. worth_at In (nums b (p ∷ ps))) (λ b. worth_at In (nums b (p ∷ ps))) (λ b d. d) (λ b d. refl)
          (omega (arith, mapped_long (λ (o : Operand). o.term) ps)) (yields_member W D n written p.term (terms_of ps) before.0 before.1 literal)
  truth_yields NotIn i h = no_among os i.before i.literal
    where
      no_among : (ps : List Operand) → AllBefore n (terms_of ps) → (written ≡ true → AllByRecursion IsWritten (drop 1 (terms_of ps))) → Yields W D n (no_member written n (terms_of ps)) (limit ps) (λ b. worth_at NotIn (nums b ps))
      no_among [] before literal =
          yields_as W D D n (no_member written n []) 3 (limit []) (λ b. truth (not false)) (λ b. worth_at NotIn []) (λ b d. d) (λ b d. refl) (omega arith)
          (yields_denied W D n (λ b. false) (member written n []) 0 (yields_standing W D n (Truth false) (λ b. truth false) tt (λ b d. number-Bool b false)))
      no_among (p ∷ ps) before literal =
          yields_as W D D n (no_member written n (terms_of (p ∷ ps))) (5 * length (terms_of ps) + 4 + 3) (limit (p ∷ ps)) (λ b. worth_at NotIn (nums b (p ∷ ps))) (λ b. worth_at NotIn (nums b (p ∷ ps))) (λ b d. d) (λ b d. refl)
          (omega (arith, mapped_long (λ (o : Operand). o.term) ps)) (yields_no_member W D n written p.term (terms_of ps) before.0 before.1 literal)
  truth_yields op i h = no_truth (sym h)

  module _ (op : Op) (i : Input D n op w written os) (s : is_set_operator op ≡ false) where
    abbrev v : List ℤ → ℤ
    v b = worth_at op (nums b os)

    count_by : (t : Bool) → gives_truth op ≡ t → Yields W D n (if t then counted n (truth_node op written n os) else number_node op w n os) (limit os + 3) v
    count_by true e =
        let c : Out = truth_node op written n os in
        let k : ℕ = n + made c.items in
        let E : List ℤ → Type 0 = λ b. D b × (num b c.term ≡ v b) in
        let r = truth_yields op i e in
        yields_behind W D n v v c (λ j t. integer_of_one j truths Bool2Int t) (limit os) 3 r
        (yields_as W E E k (integer_of_one k truths Bool2Int c.term) 3 3 (λ b. num b c.term) v (λ b f. f) (λ b f. f.1) (omega arith) (yields_integer W E k c.term r.before (λ b f. subst IsBit (sym f.1) (bit_of op i e b f.0))))
    count_by false e = yields_as W D D n (number_node op w n os) (limit os) (limit os + 3) v v (λ b d. d) (λ b d. refl) (omega arith) (number_yields op i e s)

    pub yields_number : Yields W D n (as_number op w written n os) (limit os + 3) v
    yields_number = count_by (gives_truth op) refl

    test_by : ((b : List ℤ) → D b → IsBit (v b)) → (t : Bool) → gives_truth op ≡ t → Yields W D n (if t then truth_node op written n os else tested n (number_node op w n os)) (limit os + 3) v
    test_by bit true e = yields_as W D D n (truth_node op written n os) (limit os) (limit os + 3) v v (λ b d. d) (λ b d. refl) (omega arith) (truth_yields op i e)
    test_by bit false e =
        let c : Out = number_node op w n os in
        let k : ℕ = n + made c.items in
        let E : List ℤ → Type 0 = λ b. D b × (num b c.term ≡ v b) in
        let r = number_yields op i e s in
        let is : (b : List ℤ) → E b → IsBit (num b c.term) = λ b f. subst IsBit (sym f.1) (bit b f.0) in
        yields_behind W D n v v c truth_of_number (limit os) 3 r
        (yields_as W E E k (truth_of_number k c.term) 3 3 (λ b. truth (is_one (num b c.term))) v (λ b f. f) (λ b f. one_bit (num b c.term) (is b f) ∙ f.1) (omega arith) (yields_tested W E k c.term r.before is))

    pub yields_logic : ((b : List ℤ) → D b → IsBit (v b)) → Yields W D n (as_truth op w written n os) (limit os + 3) v
    yields_logic bit = test_by bit (gives_truth op) refl
