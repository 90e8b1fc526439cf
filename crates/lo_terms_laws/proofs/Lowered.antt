-- The laws of lowered expressions.
use Rattle.std.proofs.Common.{◌≡◌, ℕ, zero, suc, ◌+◌, ◌*◌, ◌-◌, ◌<◌, ◌≤◌, ℤ, pos, Bool, List, [], ◌∷◌, ◌++◌, length, map, ap, sym, ◌∙◌, subst, arith}
use Rattle.std.specs.List.{AllByRecursion}
use Rattle.std.proofs.lemmas.List.{append_assoc}
use Rattle.lo_base.specs.Formed.{kinds_of}
use Rattle.lo_base.specs.Item.{Item, made}
use Rattle.lo_base.proofs.Solving.{meets_at}
use Rattle.lo_emit.specs.declared.term.Term.{Term}
use Rattle.lo_formed.specs.Laws.{IsFaultless}
use Rattle.lo_formed.proofs.Expressions.{expression_formed, intension_formed}
use Rattle.lo_formed.proofs.Sets.{alone}
use Rattle.lo_rules.specs.Formed.{IsInteger}
use Rattle.lo_rules.specs.Rule.{num, AllBefore, Always, Known, Rule}
use Rattle.lo_rules.proofs.Rules.{rule_as}
use Rattle.lo_terms.specs.declared.term.Mode.TheVariants.{Number}
use Rattle.lo_terms.specs.Emitted.{ends}
use Rattle.lo_terms.specs.Lowering.{Low, low_expr, low_intension}
use Rattle.lo_terms.specs.Rules.{terms_of}
use Rattle.lo_terms_laws.specs.Laws.{IntensionLowered, NumberLowered, square_of}
use Rattle.lo_terms_laws.proofs.Operands.{nums}
use Rattle.lo_terms_laws.proofs.Same.{begins_within_lasts, value_front}
use Rattle.lo_terms_laws.proofs.Trees.{stated, counted}
use Rattle.xf_num.specs.Span.{Bounds}
use Rattle.xs_model.specs.Bounds.{HasSpans}
use Rattle.xs_model.specs.Formed.{nodes}
use Rattle.xs_model.specs.Spans.{BeginsWithin}
use Rattle.xs_model.specs.Value.{val}
use Rattle.xs_model.specs.declared.expr.Expr.{Expr}

-- what grows with the nodes lies within a square in their number
more_squares : (k : ℕ) → 1 ≤ k → 4 * k ≤ (1 + k) * (1 + k) → 4 * suc k ≤ (1 + suc k) * (1 + suc k)
more_squares k one h = grind arith

squares : (k : ℕ) → 4 * k ≤ (1 + k) * (1 + k)
squares zero = omega arith
squares (suc zero) = omega arith
squares (suc (suc k)) = more_squares (suc k) (omega arith) (squares (suc k))

within_square : (k s : ℕ) → 4 * k ≤ s → 256 * k ≤ 64 * s
within_square k s h = omega (arith, h)

pub small : (e : Expr) → 256 * nodes e ≤ square_of e
small e = within_square (nodes e) ((1 + nodes e) * (1 + nodes e)) (squares (nodes e))

-- values within the bounds stay so, whatever comes behind
stays : (ss : List Bounds) (n : ℕ) (a : List ℤ) → length ss ≤ n → length a ≡ n → BeginsWithin ss a → Known (BeginsWithin ss) a
stays ss n a le len within = λ d. begins_within_lasts ss n le a d (omega (arith, len)) within

pub intension_lowered : IntensionLowered
intension_lowered ss n e b f truths le =
    let xs : List Item = low_intension ss n e in
    let r = stated ss e b f.shaped f.variables f.bounded f.no_set truths n le in
    let same : (a d : List ℤ) → length a ≡ n → val (a ++ d) e ≡ val a e = λ a d len. value_front ss e a d f.variables (omega (arith, le, len)) in
    record {
      means = record {
        sound = λ a c len room within h. sym (same a c len) ∙ (r.sound (a ++ c) (stays ss n a le len within c) h).1;
        complete = λ a len within p.
            let c = r.total a len (stays ss n a le len within) (stays ss n a le len within) in
            record { more = c.more; many = c.many; met = λ d. meets_at n (length a) xs (a ++ c.more ++ d) (sym len) (c.met d (subst (λ (z : List ℤ). val z e ≡ pos 1) (sym (append_assoc a c.more d)) (same a (c.more ++ d) len ∙ p))) };
      };
      stepwise = record { each = r.settled };
      before = r.before;
      size = omega (arith, r.size, small e);
      formed = λ booleans here ints. intension_formed ss n e b f booleans here ints;
    }

first_value : (x y : ℤ) → x ∷ [] ≡ y ∷ [] → x ≡ y
first_value x y h = cc

pub number_lowered : NumberLowered
number_lowered ss n e b f le =
    let one = alone ss e f.no_set Number n in
    let l : Low = low_expr ss e Number n in
    let t : Term = one.operand.term in
    let V : List ℤ → Type 0 = BeginsWithin ss in
    let terms = ap terms_of one.is in
    let y = counted ss e b f.shaped f.variables f.bounded f.no_set n le in
    let shown : (c : List ℤ) → nums c l.operands ≡ val c e ∷ [] → num c t ≡ val c e = λ c g. first_value (num c t) (val c e) (sym (ap (λ (ts : List Term). map (num c) ts) terms) ∙ g) in
    let early : AllBefore (n + made l.items) (t ∷ []) = subst (AllBefore (n + made l.items)) terms y.before in
    record {
      operand = one.operand;
      alone = one.is;
      span = one.span ∙ ap ends f.bounded;
      yields = record {
        rule =
            rule_as V V V (λ c. nums c l.operands ≡ val c e ∷ []) (λ c. num c t ≡ val c e) Always Always n l.items (256 * nodes e - 64) (256 * nodes e - 64) (λ c w. w) (λ c w g. shown c g) (λ c w g p. tt) (λ c x w g p. tt) (omega arith) y.rule;
        before = early.0;
      };
      makes = λ booleans here ints.
          let low = expression_formed ss n e b f booleans here ints Number in
          record { formed = low.formed; term = (subst (AllByRecursion (IsInteger (booleans ++ kinds_of l.items))) terms low.terms).0 };
    }
