-- The law of objectives.
use Rattle.std.proofs.Common.{◌≡◌, ℕ, zero, suc, ◌+◌, ◌*◌, ◌-◌, ◌<◌, ◌≤◌, ℤ, Bool, true, false, List, [], ◌∷◌, ◌++◌, length, ap, sym, ◌∙◌, subst, arith, Result, Ok, Err, refl, slice_get, Some}
use Rattle.std.specs.Prelude.{IsOk}
use Rattle.std.proofs.lemmas.Int.{ints}
use Rattle.xf_num.specs.Span.{Bounds}
use Rattle.xf_text.specs.declared.fault.Kind.{Kind}
use Rattle.fz_model.specs.Limits.{IsSmall, exactly}
use Rattle.fz_model.proofs.Calls.{number-Int, number-Var}
use Rattle.xs_model.specs.declared.expr.Expr.{Expr}
use Rattle.xs_model.specs.declared.instance.Body.{Body}
use Rattle.xs_model.specs.declared.instance.Body.TheVariants as body
use Rattle.xs_model.specs.Accepted.{IsSoundBody}
use Rattle.xs_model.specs.Bounds.{bounds}
use Rattle.xs_model.specs.Fields.{body_fields}
use Rattle.xs_model.specs.Formed.{nodes, count_in}
use Rattle.xs_model.specs.Spans.{BeginsWithin}
use Rattle.xs_model.specs.Value.{val}
use Rattle.lo_base.specs.Formed.{AreFormed, AreIntegers, kinds_of}
use Rattle.lo_base.specs.Item.{Item, Ranged, made}
use Rattle.lo_base.proofs.Formed.{formed_join, kind_here}
use Rattle.lo_base.proofs.Solving.{meets_at}
use Rattle.lo_emit.specs.declared.term.Term.{Term}
use Rattle.lo_emit.specs.declared.term.Term.TheVariants.{Int, Truth, Var}
use Rattle.lo_emit.specs.Emitted.{Out, integer_of_value}
use Rattle.lo_formed.specs.Laws.{AreOrdered, IsFaultless}
use Rattle.lo_rules.specs.Formed.{IsInteger, Makes}
use Rattle.lo_rules.specs.Rule.{num, Always, Before, Known, Yields}
use Rattle.lo_rules.proofs.Chains.{yields_behind}
use Rattle.lo_rules.proofs.MakingLoops.{kinds_behind, makes_behind}
use Rattle.lo_rules.proofs.Terms.{yields_as}
use Rattle.lo_rules.proofs.Values.{yields_value}
use Rattle.lo_terms.specs.declared.term.Operand.{Operand}
use Rattle.lo_terms.specs.Rules.{term_at}
use Rattle.lo_terms_laws.specs.Laws.{number_out, IsNumber}
use Rattle.lo_terms_laws.proofs.Lowered.{number_lowered, small}
use Rattle.lo_terms_laws.proofs.Same.{begins_within_lasts}
use Rattle.lo_goals.specs.Goal.{named_by, named, low_body}
use Rattle.lo_goals.specs.Laws.{BodyLowered, IsNamed, square_of}

not_lowered : false ≡ true → ⊥
not_lowered e = cc

one_value : (n : ℕ) (z : ℤ) (bs : List Bool) → length bs ≡ n → IsSmall (exactly z) → Makes IsInteger bs (integer_of_value n z)
one_value n z bs here small = record { formed = (omega (arith, ints), small, tt); term = subst (λ (k : ℕ). slice_get (bs ++ false ∷ []) k ≡ Some false) here (kind_here bs false []) }

module _ (ss : List Bounds) (n : ℕ) (le : length ss ≤ n) (w : ℕ) (f : List ℤ → ℤ) where
  abbrev V : List ℤ → Type 0
  V = BeginsWithin ss

  abbrev IsMade : Out → Type 0
  IsMade c = (bs : List Bool) → length bs ≡ n → AreIntegers (length ss) bs → Makes IsInteger bs c

  stays : (a : List ℤ) → length a ≡ n → V a → Known V a
  stays a len within = λ d. begins_within_lasts ss n le a d (omega (arith, le, len)) within

  -- a variable is named
  by_variable : (c : Out) (v : ℕ) → c.term ≡ Var v → Yields V V n c w f → IsMade c → IsNamed ss n c w f
  by_variable c v is y m = record {
    lowered = record {
      means = record {
        sound = λ a d len room within h. tt;
        complete = λ a len within p.
            let r = y.rule.total a len (stays a len within) (stays a len within) in
            record { more = r.more; many = r.many; met = λ d. meets_at n (length a) c.items (a ++ r.more ++ d) (sym len) (r.met d tt) };
      };
      stepwise = record { each = y.rule.settled };
      before = y.rule.before;
      size = y.rule.size;
      formed = λ bs here ints. (m bs here ints).formed;
    };
    variable = v;
    named = is;
    before = subst (Before (n + made c.items)) is y.before;
    value = λ b within h. sym (number-Var b v) ∙ ap (num b) (sym is) ∙ (y.rule.sound b within h).0;
    integer = λ bs here ints. subst (IsInteger (bs ++ kinds_of c.items)) is (m bs here ints).term;
  }

abbrev NoTruth : Term → Type 0
NoTruth (Int z) = Unit {0}
NoTruth (Truth t) = ⊥
NoTruth (Var v) = Unit {0}

integer_no_truth : (bs : List Bool) (t : Term) → IsInteger bs t → NoTruth t
integer_no_truth bs (Int z) h = tt
integer_no_truth bs (Truth t) h = h
integer_no_truth bs (Var v) h = tt

module _ (ss : List Bounds) (n : ℕ) (le : length ss ≤ n) (w : ℕ) (f : List ℤ → ℤ) (c : Out) (y : Yields (BeginsWithin ss) (BeginsWithin ss) n c w f)
    (m : (bs : List Bool) → length bs ≡ n → AreIntegers (length ss) bs → Makes IsInteger bs c) where
  -- an integer is the value of a new variable
  by_integer : (z : ℤ) → c.term ≡ Int z → IsNamed ss n (named_by n c (Int z)) (w + 1) f
  by_integer z is =
      let k : ℕ = n + made c.items in
      let W : List ℤ → Type 0 = BeginsWithin ss in
      let E : List ℤ → Type 0 = λ b. W b × (num b c.term ≡ f b) in
      by_variable ss n le (w + 1) f (named_by n c (Int z)) k refl
      (yields_behind W W n f f c (λ j t. integer_of_value j z) w 1 y
      (yields_as W E E k (integer_of_value k z) 1 1 (λ b. z) f (λ b e. e) (λ b e. sym (number-Int b z) ∙ ap (num b) (sym is) ∙ e.1) (omega arith) (yields_value W E k z)))
      (λ bs here ints.
      let first = m bs here ints in
      let small : IsSmall (exactly z) = subst (IsInteger (bs ++ kinds_of c.items)) is first.term in
      makes_behind IsInteger IsInteger bs n c (λ j t. integer_of_value j z) first (one_value k z (bs ++ kinds_of c.items) (kinds_behind bs n c.items here) small))

  by_term : (t : Term) → c.term ≡ t → NoTruth t → IsNamed ss n (named_by n c t) (w + 1) f
  by_term (Int z) is h = by_integer z is
  by_term (Truth t) is h = absurd h
  by_term (Var v) is h = by_variable ss n le (w + 1) f c v is (yields_as (BeginsWithin ss) (BeginsWithin ss) (BeginsWithin ss) n c w (w + 1) f f (λ b d. d) (λ b d. refl) (omega arith) y) m

bounds_of : (r : Result Bounds Kind) → IsOk r → (b : Bounds) × (r ≡ Ok b)
bounds_of (Ok b) h = (b, refl)
bounds_of (Err k) h = cc

-- variables that are all integers

abbrev integers : ℕ → List Bool
integers zero = []
integers (suc n) = false ∷ integers n

length-integers : (n : ℕ) → length (integers n) ≡ n
length-integers zero = refl
length-integers (suc n) = ap (λ k. suc k) (length-integers n)

each_integer : (n v : ℕ) → v < n → slice_get (integers n) v ≡ Some false
each_integer zero v lt = absurd (omega (arith, lt))
each_integer (suc n) zero lt = refl
each_integer (suc n) (suc v) lt = each_integer n v (omega (arith, lt))

value_lowered : (ss : List Bounds) (n : ℕ) (e : Expr) → IsSoundBody ss (body.Value e) → AreOrdered ss → length ss ≤ n → IsNamed ss n (low_body ss n (body.Value e)) (256 * nodes e - 64 + 1) (λ a. val a e)
value_lowered ss n e s ordered le =
    let f = s.fields.0 in
    let r = bounds_of (bounds ss e) s.faultless in
    let i : IsNumber ss n e r.0 = number_lowered ss n e r.0 (record { ordered = ordered; shaped = f.shaped; variables = f.variables; bounded = r.1; no_set = f.no_set }) le in
    let c : Out = number_out ss n e i.operand.term in
    let m : ℕ = length ss in
    let some = i.makes (integers n) (length-integers n) (λ v lt. each_integer n v (omega (arith, lt, le))) in
    let plain : NoTruth i.operand.term = integer_no_truth (integers n ++ kinds_of c.items) i.operand.term some.term in
    let here : IsNamed ss n (named n c) (256 * nodes e - 64 + 1) (λ a. val a e) = by_term ss n le (256 * nodes e - 64) (λ a. val a e) c i.yields i.makes i.operand.term refl plain in
    subst (λ (os : List Operand). IsNamed ss n (named n (number_out ss n e (term_at os 0))) (256 * nodes e - 64 + 1) (λ a. val a e)) (sym i.alone) here

lighter : (ss : List Bounds) (n : ℕ) (c : Out) (w u : ℕ) (f : List ℤ → ℤ) → w ≤ u → IsNamed ss n c w f → IsNamed ss n c u f
lighter ss n c w u f le r = record {
  lowered = record { means = r.lowered.means; stepwise = r.lowered.stepwise; before = r.lowered.before; size = omega (arith, r.lowered.size, le); formed = r.lowered.formed };
  variable = r.variable;
  named = r.named;
  before = r.before;
  value = r.value;
  integer = r.integer;
}

at_items : (k i : ℕ) → i ≡ k → 256 * k ≤ 64 * ((1 + k) * (1 + k)) → 256 * k - 64 + 1 ≤ 64 * ((1 + i) * (1 + i))
at_items k i is h = subst (λ (j : ℕ). 256 * k - 64 + 1 ≤ 64 * ((1 + j) * (1 + j))) (sym is) (room k ((1 + k) * (1 + k)) (omega arith) h)
  where
    room : (k m : ℕ) → 1 ≤ m → 256 * k ≤ 64 * m → 256 * k - 64 + 1 ≤ 64 * m
    room k m some h = omega (arith, some, h)

pub body_lowered : BodyLowered
body_lowered ss n (body.Value e) s l ordered le =
    lighter ss n (low_body ss n (body.Value e)) (256 * nodes e - 64 + 1) (64 * square_of (body.Value e)) (λ a. val a e) (at_items (nodes e) (count_in (body_fields (body.Value e))) (omega arith) (small e)) (value_lowered ss n e s ordered le)
body_lowered ss n b s l ordered le = absurd (not_lowered l)
