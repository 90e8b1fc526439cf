-- Operands and what they are worth, place by place.
use Rattle.std.proofs.Common.{◌≡◌, ℕ, zero, suc, ℤ, pos, Bool, true, false, List, [], ◌∷◌, length, map, refl, ap, sym, ◌∙◌, subst, inl, arith, true≢false, neg_ℤ, if◌then◌else◌, Result, Ok, Err}
use Rattle.std.proofs.lemmas.Int.{ints}
use Rattle.std.specs.List.{list_all}
use Rattle.xf_num.specs.Span.{Bounds, IsWithin}
use Rattle.xf_text.specs.declared.fault.Kind.{Kind}
use Rattle.xf_text.specs.declared.fault.Kind.TheVariants.{Logic, Range}
use Rattle.fz_model.specs.Fixing.{IsBit}
use Rattle.fz_model.proofs.Calls.{number-Int}
use Rattle.xs_model.specs.Value.{at}
use Rattle.xs_model.specs.Bounds.{is_truth, is_within_limit, is_small, limited, logic, operand, truths}
use Rattle.xs_model.specs.Sound.{magnitudes}
use Rattle.xs_expr.proofs.Within.{AreHeld, AreSmall, IsSmall, guarded, limited-is}
use Rattle.lo_emit.specs.declared.term.Term.{Term}
use Rattle.lo_rules.specs.Rule.{num, Before, AllBefore}
use Rattle.lo_rules.proofs.Tests.{both_true, both_met, bit_between, le_is, le_met}
use Rattle.lo_terms.specs.declared.term.Operand.{Operand}
use Rattle.lo_terms.specs.Emitted.{ends, kept}
use Rattle.lo_terms.specs.Rules.{terms_of, operand_at, term_at}

abbrev pub spans_of : List Operand → List Bounds
spans_of os = map (λ o. o.span) os

-- the numbers that the operands stand for
abbrev pub nums : List ℤ → List Operand → List ℤ
nums b os = map (num b) (terms_of os)

pub at_place : (b : List ℤ) (os : List Operand) (k : ℕ) → num b (term_at os k) ≡ at (nums b os) k
at_place b [] k = number-Int b (pos 0)
at_place b (o ∷ os) zero = refl
at_place b (o ∷ os) (suc k) = at_place b os k

pub before_at : (n : ℕ) (os : List Operand) (k : ℕ) → AllBefore n (terms_of os) → Before n (term_at os k)
before_at n [] k h = tt
before_at n (o ∷ os) zero h = h.0
before_at n (o ∷ os) (suc k) h = before_at n os k h.1

pub span_at : (os : List Operand) (k : ℕ) → (operand_at os k).span ≡ operand (spans_of os) k
span_at [] k = refl
span_at (o ∷ os) zero = refl
span_at (o ∷ os) (suc k) = span_at os k

-- bounds within the limit are kept
pub kept_is : (e b : Bounds) → limited e ≡ Ok b → kept e ≡ e
kept_is e b h = ap ends h ∙ sym (limited-is e b h).0

pub kept_held : (e b : Bounds) (x : ℤ) → limited e ≡ Ok b → IsWithin e x → IsWithin (kept e) x
kept_held e b x h w = subst (λ (d : Bounds). IsWithin d x) (sym (kept_is e b h)) w

-- truth values
pub within_bit : (b : Bounds) (x : ℤ) → is_truth b ≡ true → IsWithin b x → IsBit x
within_bit b x h w =
    let ends = both_true _ _ h in
    let low = le_is (pos 0) b.lo ends.0 in
    let high = le_is b.hi (pos 1) ends.1 in
    bit_between x (omega (arith, ints, low, w.from)) (omega (arith, ints, high, w.to))

abbrev pub AllBits : List ℤ → Type 0
AllBits [] = Unit {0}
AllBits (x ∷ xs) = IsBit x × AllBits xs

pub all_bits : (bs : List Bounds) (xs : List ℤ) → AreHeld bs xs → list_all is_truth bs ≡ true → AllBits xs
all_bits [] [] h t = tt
all_bits [] (x ∷ xs) h t = absurd h
all_bits (b ∷ bs) [] h t = absurd h
all_bits (b ∷ bs) (x ∷ xs) h t =
    let ts = both_true (is_truth b) (list_all is_truth bs) t in
    (within_bit b x ts.0 h.0.within, all_bits bs xs h.1 ts.1)

pub logic_is : (bs : List Bounds) (b : Bounds) → logic bs ≡ Ok b → list_all is_truth bs ≡ true
logic_is bs b h = (guarded (list_all is_truth bs) (Ok truths) b Logic h).1

pub bit_at : (xs : List ℤ) (k : ℕ) → AllBits xs → IsBit (at xs k)
bit_at [] k h = inl refl
bit_at (x ∷ xs) zero h = h.0
bit_at (x ∷ xs) (suc k) h = bit_at xs k h.1

small_is : (z : ℤ) → IsSmall z → is_small z ≡ true
small_is z s = both_met _ _ (le_met (neg_ℤ (pos magnitudes)) z s.from) (le_met z (pos magnitudes) s.to)

pub small_limited : (e : Bounds) → AreSmall e → limited e ≡ Ok e
small_limited e s = by (is_within_limit e) (both_met (is_small e.lo) (is_small e.hi) (small_is e.lo s.lo) (small_is e.hi s.hi))
  where
    by : (t : Bool) → t ≡ true → if◌then◌else◌ {A = Result Bounds Kind} t (Ok e) (Err Range) ≡ Ok e
    by true h = refl
    by false h = absurd (true≢false (sym h))
