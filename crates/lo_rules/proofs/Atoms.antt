-- The judgement of one call that states, and of a new variable with the call that gives it its value.
use Rattle.std.proofs.Common.{◌≡◌, inl, inr, ℕ, ◌+◌, ◌<◌, ◌≤◌, ℤ, ◌≤ℤ◌, Bool, List, [], ◌∷◌, ◌++◌, length, map, refl, ap, ap₂, sym, subst, ◌∙◌, arith}
use Rattle.std.proofs.lemmas.List.{append_assoc, map-append}
use Rattle.std.specs.Ordering.{int_eq}
use Rattle.fz_model.specs.Calls.{call_of}
use Rattle.fz_model.specs.declared.builtin.Builtin.{Builtin}
use Rattle.fz_model.specs.declared.builtin.Builtin.TheVariants.{BoolNot}
use Rattle.fz_model.specs.declared.model.Arg.{Arg}
use Rattle.fz_model.specs.declared.model.Arg.TheVariants as arg
use Rattle.fz_model.specs.declared.model.Call.{Call}
use Rattle.fz_model.specs.Fixing.{Agree, AreBefore, IsLast, IsBit, Fixes, NotOfBits}
use Rattle.fz_model.specs.Meaning.{at, truth, number, Worth, worth, row_of, CallHolds}
use Rattle.fz_model.specs.Size.{call_leaves}
use Rattle.fz_model.proofs.Calls.{equal, equal_met, number-Var}
use Rattle.fz_model.proofs.Fixing.{is_var, worth_same}
use Rattle.lo_base.specs.Item.{Ranged, Boolean, Posted}
use Rattle.lo_base.proofs.Before.{fixes_before, arguments_longer}
use Rattle.lo_base.proofs.Solving.{at_front, at_new, truth_bit}
use Rattle.lo_emit.specs.declared.term.Term.TheVariants.{Var}
use Rattle.lo_rules.specs.Rule.{num, Always, Rule}
use Rattle.lo_rules.proofs.Rules.{sum_cons, known_more}

-- no items
pub rule_none : (W D G : List ℤ → Type 0) (n w : ℕ) → ((b : List ℤ) → D b → G b) → Rule W D n [] w G Always
rule_none W D G n w given = record {
  sound = λ b d h. (given b d, tt);
  total = λ a len within known. record { more = []; many = refl; known = known_more G a [] (λ d. given (a ++ d) (known d)); met = λ d p. tt };
  settled = λ k le lt. absurd (omega (arith, le, lt));
  before = tt;
  size = omega arith;
}

-- a call that states
pub rule_posted : (W D P : List ℤ → Type 0) (n w : ℕ) (call : Call) → AreBefore n call.args → ((b : List ℤ) → D b → CallHolds b call → P b)
    → ((b : List ℤ) → D b → P b → CallHolds b call) → call_leaves call ≤ w → Rule W D n (Posted call ∷ []) w Always P
rule_posted W D P n w call before says met le = record {
  sound = λ b d h. (tt, says b d h.0);
  total = λ a len within known. record { more = []; many = refl; known = λ d. tt; met = λ d p. (met (a ++ [] ++ d) (known_more D a [] known d) p, tt) };
  settled = λ k ge lt. absurd (omega (arith, ge, lt));
  before = (arguments_longer n (n + 0) (omega arith) call.args before, tt);
  size = omega (arith, sum_cons (call_leaves call) [], le);
}

new_at : (a : List ℤ) (v : ℤ) (d : List ℤ) (n : ℕ) → length a ≡ n → at ((a ++ v ∷ []) ++ d) n ≡ v
new_at a v d n len = ap (at ((a ++ v ∷ []) ++ d)) (sym len) ∙ at_new a v d

front_agrees : (a c d : List ℤ) (n : ℕ) → length a ≡ n → Agree n a (a ++ c ++ d)
front_agrees a c d n len j lt = sym (ap (λ (b : List ℤ). at b j) (append_assoc a c d) ∙ at_front a (c ++ d) j (omega (arith, len, lt)))

only_one : (k n : ℕ) → n ≤ k → k < n + 1 → k ≡ n
only_one k n h g = omega (arith, h, g)

-- a new Boolean
pub rule_truth : (W D : List ℤ → Type 0) (n w : ℕ) (call : Call) (t : List ℤ → Bool) → Fixes n call → ((b c : List ℤ) → Agree n b c → t b ≡ t c)
    → ((b : List ℤ) → D b → IsBit (at b n) → CallHolds b call → at b n ≡ truth (t b)) → ((b : List ℤ) → D b → at b n ≡ truth (t b) → CallHolds b call) → 1 + call_leaves call ≤ w
    → Rule W D n (Boolean ∷ Posted call ∷ []) w (λ b. num b (Var n) ≡ truth (t b)) Always
rule_truth W D n w call t fixes same says met le = record {
  sound = λ b d h. (number-Var b n ∙ says b d h.0 h.1.0, tt);
  total = λ a len within known.
      let v : ℤ = truth (t a) in
      let here : (d : List ℤ) → at ((a ++ v ∷ []) ++ d) n ≡ v = λ d. new_at a v d n len in
      let is : (d : List ℤ) → at ((a ++ v ∷ []) ++ d) n ≡ truth (t ((a ++ v ∷ []) ++ d)) = λ d. here d ∙ ap truth (same a ((a ++ v ∷ []) ++ d) (front_agrees a (v ∷ []) d n len)) in
      record {
        more = v ∷ [];
        many = refl;
        known = λ d. number-Var ((a ++ v ∷ []) ++ d) n ∙ is d;
        met = λ d p. (subst IsBit (sym (here d)) (truth_bit (t a)), (met ((a ++ v ∷ []) ++ d) (known_more D a (v ∷ []) known d) (is d), tt));
      };
  settled = λ k ge lt. inl (subst (λ (j : ℕ). Fixes j call) (sym (only_one k n ge lt)) fixes);
  before = (fixes_before n call fixes, tt);
  size = omega (arith, sum_cons (call_leaves call) [], le);
}

-- a new integer, whose call may ask for more
pub rule_integer : (W D ok : List ℤ → Type 0) (n w : ℕ) (lo hi : ℤ) (call : Call) (v : List ℤ → ℤ) → Fixes n call → ((b c : List ℤ) → Agree n b c → v b ≡ v c)
    → ((b : List ℤ) → D b → CallHolds b call → (at b n ≡ v b) × ok b) → ((b : List ℤ) → D b → ok b → at b n ≡ v b → CallHolds b call) → 1 + call_leaves call ≤ w
    → Rule W D n (Ranged lo hi ∷ Posted call ∷ []) w (λ b. num b (Var n) ≡ v b) (λ b. ok b × (lo ≤ℤ v b) × (v b ≤ℤ hi))
rule_integer W D ok n w lo hi call v fixes same says met le = record {
  sound = λ b d h.
      let s = says b d h.2.0 in
      (number-Var b n ∙ s.0, (s.1, subst (λ (z : ℤ). lo ≤ℤ z) s.0 h.0, subst (λ (z : ℤ). z ≤ℤ hi) s.0 h.1));
  total = λ a len within known.
      let z : ℤ = v a in
      let is : (d : List ℤ) → at ((a ++ z ∷ []) ++ d) n ≡ v ((a ++ z ∷ []) ++ d) = λ d. new_at a z d n len ∙ same a ((a ++ z ∷ []) ++ d) (front_agrees a (z ∷ []) d n len) in
      record {
        more = z ∷ [];
        many = refl;
        known = λ d. number-Var ((a ++ z ∷ []) ++ d) n ∙ is d;
        met = λ d p.
            (subst (λ (y : ℤ). lo ≤ℤ y) (sym (is d)) p.1, subst (λ (y : ℤ). y ≤ℤ hi) (sym (is d)) p.2, (met ((a ++ z ∷ []) ++ d) (known_more D a (z ∷ []) known d) p.0 (is d), tt));
      };
  settled = λ k ge lt. inr (inl (subst (λ (j : ℕ). Fixes j call) (sym (only_one k n ge lt)) fixes));
  before = (fixes_before n call fixes, tt);
  size = omega (arith, sum_cons (call_leaves call) [], le);
}

-- calls whose last argument is the new variable

pub last_is : (n : ℕ) (args : List Arg) → AreBefore n args → IsLast n (args ++ arg.Var n ∷ [])
last_is n [] h = is_var n
last_is n (x ∷ []) h = (h.0, is_var n)
last_is n (x ∷ y ∷ args) h = (h.0, last_is n (y ∷ args) h.1)

pub worths_same : (k : ℕ) (b c : List ℤ) (args : List Arg) → Agree k b c → AreBefore k args → map (worth b) args ≡ map (worth c) args
worths_same k b c [] agree h = refl
worths_same k b c (x ∷ args) agree h = ap₂ (λ (y : Worth) (ys : List Worth). y ∷ ys) (worth_same k b c x agree h.0) (worths_same k b c args agree h.1)

row_says : (b : List ℤ) (i : Builtin) (args : List Arg) (n : ℕ) (v : ℤ) → row_of i (map (worth b) args ++ worth b (arg.Var n) ∷ []) ≡ int_eq (number b (arg.Var n)) v
    → CallHolds b (call_of i (args ++ arg.Var n ∷ [])) → at b n ≡ v
unfolding CallHolds
row_says b i args n v row h =
    sym (number-Var b n) ∙ equal (number b (arg.Var n)) v (sym row ∙ ap (row_of i) (sym (map-append (worth b) args (arg.Var n ∷ []))) ∙ h)

row_met : (b : List ℤ) (i : Builtin) (args : List Arg) (n : ℕ) (v : ℤ) → row_of i (map (worth b) args ++ worth b (arg.Var n) ∷ []) ≡ int_eq (number b (arg.Var n)) v → at b n ≡ v
    → CallHolds b (call_of i (args ++ arg.Var n ∷ []))
unfolding CallHolds
row_met b i args n v row h = ap (row_of i) (map-append (worth b) args (arg.Var n ∷ [])) ∙ row ∙ equal_met (number b (arg.Var n)) v (number-Var b n ∙ h)

-- A new Boolean that the last argument is, with the truth of a test of the others. The row of the table says so.
pub rule_test : (W D : List ℤ → Type 0) (n w : ℕ) (i : Builtin) (args : List Arg) (test : List Worth → Bool) → Fixes n (call_of i (args ++ arg.Var n ∷ [])) → AreBefore n args
    → ((b : List ℤ) (r : Worth) → row_of i (map (worth b) args ++ r ∷ []) ≡ int_eq r.number (truth (test (map (worth b) args)))) → 1 + call_leaves (call_of i (args ++ arg.Var n ∷ [])) ≤ w
    → Rule W D n (Boolean ∷ Posted (call_of i (args ++ arg.Var n ∷ [])) ∷ []) w (λ b. num b (Var n) ≡ truth (test (map (worth b) args))) Always
rule_test W D n w i args test fixes before row le =
    let call : Call = call_of i (args ++ arg.Var n ∷ []) in
    rule_truth W D n w call (λ b. test (map (worth b) args)) fixes (λ b c agree. ap test (worths_same n b c args agree before))
    (λ b d bit h. row_says b i args n (truth (test (map (worth b) args))) (row b (worth b (arg.Var n))) h) (λ b d e. row_met b i args n (truth (test (map (worth b) args))) (row b (worth b (arg.Var n))) e) le

-- a new integer that the last argument is, with a value of the others
pub rule_value : (W D : List ℤ → Type 0) (n w : ℕ) (lo hi : ℤ) (i : Builtin) (args : List Arg) (value : List Worth → ℤ) → Fixes n (call_of i (args ++ arg.Var n ∷ [])) → AreBefore n args
    → ((b : List ℤ) (r : Worth) → row_of i (map (worth b) args ++ r ∷ []) ≡ int_eq (value (map (worth b) args)) r.number) → 1 + call_leaves (call_of i (args ++ arg.Var n ∷ [])) ≤ w
    → Rule W D n (Ranged lo hi ∷ Posted (call_of i (args ++ arg.Var n ∷ [])) ∷ []) w (λ b. num b (Var n) ≡ value (map (worth b) args))
    (λ b. Always b × (lo ≤ℤ value (map (worth b) args)) × (value (map (worth b) args) ≤ℤ hi))
unfolding CallHolds
rule_value W D n w lo hi i args value fixes before row le =
    let call : Call = call_of i (args ++ arg.Var n ∷ []) in
    let v : List ℤ → ℤ = λ b. value (map (worth b) args) in
    let is : (b : List ℤ) → row_of i (map (worth b) (args ++ arg.Var n ∷ [])) ≡ int_eq (v b) (number b (arg.Var n)) = λ b. ap (row_of i) (map-append (worth b) args (arg.Var n ∷ [])) ∙ row b (worth b (arg.Var n)) in
    rule_integer W D Always n w lo hi call v fixes (λ b c agree. ap value (worths_same n b c args agree before))
    (λ b d h. (sym (number-Var b n) ∙ sym (equal (v b) (number b (arg.Var n)) (sym (is b) ∙ h)), tt)) (λ b d o e. is b ∙ equal_met (v b) (number b (arg.Var n)) (sym (number-Var b n ∙ e))) le
