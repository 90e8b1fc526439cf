-- What an expression is lowered to yields its value, or states that it is 1, by induction over the tree.
use Rattle.std.proofs.Common.{◌≡◌, ◌≢◌, ℕ, suc, ◌+◌, ◌*◌, ◌-◌, ◌<◌, ◌≤◌, ℤ, pos, Bool, true, false, ◌&&◌, List, [], ◌∷◌, ◌++◌, length, map, drop, refl, ap, ap₂, sym, ◌∙◌, subst, arith, All, Result, Ok, Err}
use Rattle.std.specs.List.{AllByRecursion, list_all}
use Rattle.std.proofs.lemmas.Int.{ints}
use Rattle.std.proofs.lemmas.List.{length-append, append-nil, map-append}
use Rattle.std.proofs.lemmas.List.Elements.{All-tail}
use Rattle.xf_num.specs.Span.{Bounds, IsWithin, join_ends}
use Rattle.xf_text.specs.declared.fault.Kind.{Kind}
use Rattle.xf_text.specs.declared.fault.Kind.TheVariants.{Logic as Fault}
use Rattle.fz_model.specs.Fixing.{IsBit}
use Rattle.fz_model.proofs.Calls.{number-Var, equal, equal_met}
use Rattle.xs_model.specs.declared.expr.Op.{Op}
use Rattle.xs_model.specs.declared.expr.Op.TheVariants.{Pow, Set, In, NotIn, Not, And, Or, Xor, Iff, Imp, If}
use Rattle.xs_model.specs.declared.expr.Expr.{Expr, Int as int_expr, Var as var_expr, Node as node_expr, roll-Expr, out-Expr, map-Expr, ind-Expr}
use Rattle.xs_model.specs.declared.expr.Expr.TheVariants.{rolls-Int, rolls-Var, rolls-Node}
use Rattle.xs_model.specs.declared.expr.Expr.TheOpen.{Expr-F}
use Rattle.xs_model.specs.Value.{Worth, at, truth, is_true, val, worth, second_members}
use Rattle.xs_model.specs.Bounds.{bounds, all_ok, and_then, node_bounds, exactly, is_truth, limited, operand, HasSpan, HasSpans}
use Rattle.xs_model.specs.Formed.{nodes, nodes_of}
use Rattle.xs_model.specs.Spans.{BeginsWithin}
use Rattle.xs_model.specs.Shape.{IsCount, HasShape, IsShaped, IsExponent, IsExponentLayer, IsMembership, IsPower, AreNoSets, ArePlaced, is_set, is_set_layer, is_set_operator}
use Rattle.xs_expr.proofs.Every.{every-operands, every-node, every-var}
use Rattle.xs_expr.proofs.Exponents.{literal-is}
use Rattle.xs_expr.proofs.Layers.{bounds-Int, bounds-Node, worth-Int, worth-Var, val-Node, members-Set}
use Rattle.xs_expr.proofs.Sound.{prepended-is, second-bounds}
use Rattle.xs_expr.proofs.Within.{IsHeld, AreHeld, guarded, limited-is}
use Rattle.lo_base.specs.Item.{Item, made}
use Rattle.lo_base.proofs.Solving.{made-append}
use Rattle.lo_emit.specs.declared.term.Term.{Term}
use Rattle.lo_emit.specs.declared.term.Term.TheVariants.{Int, Var}
use Rattle.lo_emit.specs.Emitted.{Out, Outs}
use Rattle.lo_formed.proofs.Sets.{layer-Int, layer-Var, layer-Node, set-Int, set-Var, set-Node, set_only, clash}
use Rattle.lo_rules.specs.Rule.{num, AllBefore, Always, Rule, Yields, YieldsAll}
use Rattle.lo_rules.proofs.Rules.{rules_join, rule_as}
use Rattle.lo_rules.proofs.Atoms.{rule_none}
use Rattle.lo_rules.proofs.Chains.{states_behind_all, yields_behind_all}
use Rattle.lo_rules.proofs.Linear.{all_before_join, mapped_long}
use Rattle.lo_rules.proofs.Loops.{rule_under, rules_both}
use Rattle.lo_rules.proofs.Terms.{all_before_more, yields_as, yields_standing}
use Rattle.lo_rules.proofs.Tests.{both_true, both_met, truth_one}
use Rattle.lo_terms.specs.declared.term.Mode.{Mode}
use Rattle.lo_terms.specs.declared.term.Mode.TheVariants.{Number, Logic, Stated}
use Rattle.lo_terms.specs.declared.term.Operand.{Operand}
use Rattle.lo_terms.specs.Emitted.{ends}
use Rattle.lo_terms.specs.Rules.{terms_of, term_at, node, literal, variable, operand_mode}
use Rattle.lo_terms.specs.Lowering.{Low, low_expr, low_operands, single, own_low_of, finished, span_of, is_literal, is_literal_layer, is_written, is_written_layer, has_written, low_intension}
use Rattle.lo_terms.proofs.LowerLemmas.{low-Int, low-Var, low-Node, nodes-int, nodes-var, nodes-node}
use Rattle.lo_terms_laws.proofs.Operands.{spans_of, nums, within_bit, logic_is}
use Rattle.lo_terms_laws.proofs.Nodes.{worth_at, Spanned, AreSpanned, HasCount, AreWritten, HasPower, IsRaised, Input, limit, yields_number, yields_logic}
use Rattle.lo_terms_laws.proofs.Same.{value_held}
use Rattle.lo_terms_laws.proofs.Stated.{states_as, states_node, yields_literal, tests_literal, states_literal, tests_variable, states_variable}
use Rattle.lo_terms_laws.proofs.Truths.{IsWritten}

-- operands in a row
terms_join : (os ps : List Operand) → terms_of (os ++ ps) ≡ terms_of os ++ terms_of ps
terms_join os ps = map-append (λ (o : Operand). o.term) os ps

spans_join : (os ps : List Operand) → spans_of (os ++ ps) ≡ spans_of os ++ spans_of ps
spans_join os ps = map-append (λ (o : Operand). o.span) os ps

nums_join : (b : List ℤ) (os ps : List Operand) → nums b (os ++ ps) ≡ nums b os ++ nums b ps
nums_join b os ps = ap (map (num b)) (terms_join os ps) ∙ map-append (num b) (terms_of os) (terms_of ps)

behind_one : (os ps : List Operand) → length os ≡ 1 → terms_of ps ≡ drop 1 (terms_of (os ++ ps))
behind_one [] ps h = absurd (omega (arith, h))
behind_one (o ∷ []) ps h = refl
behind_one (o ∷ p ∷ os) ps h = absurd (omega (arith, h))

second_term : (os ps : List Operand) (z : ℤ) → length os ≡ 1 → terms_of ps ≡ Int z ∷ [] → term_at (os ++ (ps ++ [])) 1 ≡ Int z
second_term [] ps z h e = absurd (omega (arith, h))
second_term (o ∷ p ∷ os) ps z h e = absurd (omega (arith, h))
second_term (o ∷ []) [] z h e = cc
second_term (o ∷ []) (p ∷ ps) z h e = cc

written_join : (ts us : List Term) → AllByRecursion IsWritten ts → AllByRecursion IsWritten us → AllByRecursion IsWritten (ts ++ us)
written_join [] us h k = k
written_join (t ∷ ts) us h k = (h.0, written_join ts us h.1 k)

-- the bounds of operands, of which none is at fault
record Parts (r : Result Bounds Kind) (rs : List (Result Bounds Kind)) (bs : List Bounds) : Type 0 where
  head : Bounds
  tail : List Bounds
  head_is : r ≡ Ok head
  tail_is : all_ok rs ≡ Ok tail
  same : bs ≡ head ∷ tail

parts_of : (r : Result Bounds Kind) (rs : List (Result Bounds Kind)) (bs : List Bounds) → all_ok (r ∷ rs) ≡ Ok bs → Parts r rs bs
parts_of (Err k) rs bs h = cc
parts_of (Ok c) rs bs h = let p = prepended-is c (all_ok rs) bs h in record { head = c; tail = p.0; head_is = refl; tail_is = p.1; same = p.2 }

no_bounds : (bs : List Bounds) → all_ok [] ≡ Ok bs → [] ≡ bs
no_bounds bs h = cc

bounds_many : (rs : List (Result Bounds Kind)) (bs : List Bounds) → all_ok rs ≡ Ok bs → length bs ≡ length rs
bounds_many [] bs h = ap length (sym (no_bounds bs h))
bounds_many (r ∷ rs) bs h = let p = parts_of r rs bs h in ap length p.same ∙ ap suc (bounds_many rs p.tail p.tail_is)

record Own (op : Op) (r : Result (List Bounds) Kind) (b : Bounds) : Type 0 where
  below : List Bounds
  is : r ≡ Ok below
  own : node_bounds op below ≡ Ok b

own_of : (op : Op) (r : Result (List Bounds) Kind) (b : Bounds) → and_then r (node_bounds op) ≡ Ok b → Own op r b
own_of op (Err k) b h = cc
own_of op (Ok bs) b h = record { below = bs; is = refl; own = h }

-- literals
record IsLiteral (x : Expr-F Expr) : Type 0 where
  value : ℤ
  is : x ≡ Expr-F.Int value

literal_of : (x : Expr-F Expr) → is_literal_layer x ≡ true → IsLiteral x
literal_of (Expr-F.Int z) h = record { value = z; is = refl }
literal_of (Expr-F.Var v) h = cc
literal_of (Expr-F.Node op es) h = cc

exponent_of : (x : Expr-F Expr) → IsExponentLayer x → (z : ℤ) × (x ≡ Expr-F.Int z) × IsExponent z
exponent_of (Expr-F.Int z) h = (z, refl, h)
exponent_of (Expr-F.Var v) h = absurd h
exponent_of (Expr-F.Node op es) h = absurd h

exponent_no_set : (x : Expr-F Expr) → IsExponentLayer x → is_set_layer x ≡ false
exponent_no_set (Expr-F.Int z) h = refl
exponent_no_set (Expr-F.Var v) h = absurd h
exponent_no_set (Expr-F.Node op es) h = absurd h

power_no_sets : (es : List Expr) → IsPower es → AreNoSets es
power_no_sets [] h = absurd h
power_no_sets (e ∷ []) h = absurd h
power_no_sets (e ∷ k ∷ []) h = (h.0, (exponent_no_set (out-Expr k) h.1, tt))
power_no_sets (e ∷ k ∷ f ∷ es) h = absurd h

same_integer : (y z : ℤ) (x : Expr-F Expr) → x ≡ Expr-F.Int y → x ≡ Expr-F.Int z → y ≡ z
same_integer y z x h k = cc

abbrev is_and : Op → Bool
is_and And = true
is_and op = false

and_only : (op : Op) → is_and op ≡ true → op ≡ And
and_only And h = refl
and_only op h = cc

module _ (ss : List Bounds) where
  -- the variables have values within their bounds
  abbrev V : List ℤ → Type 0
  V = BeginsWithin ss

  abbrev offered_of : Bool → Worth → List ℤ
  offered_of true v = v.members
  offered_of false v = v.value ∷ []

  -- what the operands stand for that an expression is lowered to: of a set, its members
  abbrev offered : Expr → List ℤ → List ℤ
  offered e c = offered_of (is_set e) (worth c e)

  abbrev offers : List Expr → List ℤ → List ℤ
  offers [] c = []
  offers (e ∷ es) c = offered e c ++ offers es c

  abbrev outs : Low → Outs
  outs l = record { items = l.items; terms = terms_of l.operands }

  -- the operands stand for these numbers; with them the items weigh at most m
  record Gained (m n : ℕ) (l : Low) (vs : List ℤ → List ℤ) : Type 0 where
    w : ℕ
    light : w + 65 * length l.operands ≤ m
    yields : YieldsAll V V n (outs l) w vs

  -- what is claimed of an expression of these bounds
  record Says (e : Expr) (b : Bounds) (n : ℕ) : Type 0 where
    counts : Gained (256 * nodes e) n (low_expr ss e Number n) (offered e)
    tests : is_set e ≡ false → is_truth b ≡ true → Gained (256 * nodes e) n (low_expr ss e Logic n) (offered e)
    states : is_set e ≡ false → is_truth b ≡ true → Rule V V n (low_expr ss e Stated n).items (256 * nodes e) Always (λ c. val c e ≡ pos 1)
    spans : (mode : Mode) → is_set e ≡ false → spans_of (low_expr ss e mode n).operands ≡ b ∷ []
    known : (z : ℤ) → out-Expr e ≡ Expr-F.Int z → terms_of (low_expr ss e Number n).operands ≡ Int z ∷ []
    written : is_set e ≡ true → is_written e ≡ true → AllByRecursion IsWritten (terms_of (low_expr ss e Number n).operands)

  abbrev Claim : Expr → Type 0
  Claim e = IsShaped e → HasSpans ss e → (b : Bounds) → bounds ss e ≡ Ok b → (n : ℕ) → length ss ≤ n → Says e b n

  single_gained : (m n : ℕ) (v : List ℤ → ℤ) (vs : List ℤ → List ℤ) (s : Bounds) (c : Out) (w : ℕ) → w + 65 ≤ m → ((b : List ℤ) → V b → v b ∷ [] ≡ vs b) → Yields V V n c w v → Gained m n (single s c) vs
  single_gained m n v vs s c w le same r = record {
    w = w;
    light = omega (arith, le);
    yields = record {
      rule =
          rule_as V V V (λ b. num b c.term ≡ v b) (λ b. map (num b) (c.term ∷ []) ≡ vs b) Always Always n c.items w w (λ b d. d) (λ b d g. ap (λ (z : ℤ). z ∷ []) g ∙ same b d) (λ b d g p. tt) (λ b x d g p. tt) (omega arith) r.rule;
      before = (r.before, tt);
    };
  }

  abbrev joined : Low → Low → Low
  joined l r = record { items = l.items ++ r.items; operands = l.operands ++ r.operands }

  gained_join : (m k n : ℕ) (vs us : List ℤ → List ℤ) (l r : Low) → Gained m n l vs → Gained k (n + made l.items) r us → Gained (m + k) n (joined l r) (λ c. vs c ++ us c)
  gained_join m k n vs us l r g h =
      let end : ℕ = n + made (l.items ++ r.items) in
      let G : List ℤ → Type 0 = λ c. nums c l.operands ≡ vs c in
      let H : List ℤ → Type 0 = λ c. nums c r.operands ≡ us c in
      record {
        w = g.w + h.w;
        light = omega (arith, g.light, h.light, length-append l.operands r.operands);
        yields = record {
          rule =
              rule_as V V V (λ c. G c × H c) (λ c. nums c (l.operands ++ r.operands) ≡ vs c ++ us c) (λ c. Always c × Always c) Always n (l.items ++ r.items) (g.w + h.w) (g.w + h.w) (λ c d. d)
              (λ c d e. nums_join c l.operands r.operands ∙ ap₂ (λ (s t : List ℤ). s ++ t) e.0 e.1) (λ c d e p. tt) (λ c x d e p. (tt, tt)) (omega arith)
              (rules_join V V G H Always Always n l.items r.items g.w h.w g.yields.rule (rule_under V V (λ c. V c × G c) H Always (n + made l.items) r.items h.w (λ c d. d.0) h.yields.rule));
          before =
              subst (AllBefore end) (sym (terms_join l.operands r.operands))
              (all_before_join end (terms_of l.operands) (terms_of r.operands) (all_before_more (n + made l.items) end (terms_of l.operands) (omega (arith, made-append l.items r.items)) g.yields.before)
              (all_before_more (n + made l.items + made r.items) end (terms_of r.operands) (omega (arith, made-append l.items r.items)) h.yields.before));
        };
      }

  -- what is known behind the operands
  abbrev Behind : Low → (List ℤ → List ℤ) → List ℤ → Type 0
  Behind l vs c = V c × (nums c l.operands ≡ vs c)

  -- the operator behind its operands
  gained_node : (m n : ℕ) (vs us : List ℤ → List ℤ) (l : Low) (v : List ℤ → ℤ) (s : Bounds) (c : Out) → Gained m n l vs → ((b : List ℤ) → V b → v b ∷ [] ≡ us b) → Yields V (Behind l vs) (n + made l.items) c (limit l.operands + 3) v
      → Gained (256 + m) n (record { items = l.items ++ c.items; operands = record { term = c.term; span = s } ∷ [] }) us
  gained_node m n vs us l v s c g same r =
      let u : ℕ = limit l.operands + 3 in
      single_gained (256 + m) n v us s (record { items = l.items ++ c.items; term = c.term }) (g.w + u) (omega (arith, g.light)) same (yields_behind_all V V n vs v (outs l) (λ i ts. c) g.w u g.yields r)

  stated_node : (m n : ℕ) (vs : List ℤ → List ℤ) (l : Low) (P : List ℤ → Type 0) (xs : List Item) → Gained m n l vs → Rule V (Behind l vs) (n + made l.items) xs (limit l.operands + 4) Always P → Rule V V n (l.items ++ xs) (256 + m) Always P
  stated_node m n vs l P xs g r =
      let u : ℕ = limit l.operands + 4 in
      rule_as V V V (λ b. nums b l.operands ≡ vs b) Always P P n (l.items ++ xs) (g.w + u) (256 + m) (λ b d. d) (λ b d e. tt) (λ b d e p. p) (λ b x d e p. p) (omega (arith, g.light)) (states_behind_all V V n vs P (outs l) xs g.w u g.yields r)

  span_is : (e : Expr) (b : Bounds) → bounds ss e ≡ Ok b → span_of ss e ≡ b
  span_is e b is = ap ends is

  value_bit : (e : Expr) (b : Bounds) → IsShaped e → HasSpans ss e → bounds ss e ≡ Ok b → is_truth b ≡ true → (c : List ℤ) → V c → IsBit (val c e)
  value_bit e b d s is t c w = within_bit b (val c e) t (value_held ss e b d s is c w).within

  -- literals and variables

  claim-Int : (z : ℤ) → Claim (int_expr z)
  claim-Int z d s b is n le =
      let e = int_expr z in
      let one : nodes e ≡ 1 = nodes-int e z refl in
      let value : (c : List ℤ) → val c e ≡ z = λ c. ap (λ (v : Worth). v.value) (worth-Int c z) in
      let offer : (c : List ℤ) → V c → z ∷ [] ≡ offered e c = λ c w. sym (ap₂ offered_of (set-Int z) (worth-Int c z)) in
      let low : (mode : Mode) → single (span_of ss e) (literal mode n z) ≡ low_expr ss e mode n = λ mode. sym (low-Int ss e z mode n refl) in
      let F : Low → Type 0 = λ l. Gained (256 * nodes e) n l (offered e) in
      let S : Low → Type 0 = λ l. Rule V V n l.items (256 * nodes e) Always (λ c. val c e ≡ pos 1) in
      record {
        counts = subst F (low Number) (single_gained (256 * nodes e) n (λ c. z) (offered e) (span_of ss e) (literal Number n z) 0 (omega (arith, one)) offer (yields_literal V V n z));
        tests = λ plain t. subst F (low Logic) (single_gained (256 * nodes e) n (λ c. z) (offered e) (span_of ss e) (literal Logic n z) 3 (omega (arith, one)) offer (tests_literal V V n z (integer_bit z b t (sym (bounds-Int ss z) ∙ is))));
        states = λ plain t.
            subst S (low Stated)
            (states_as V V (λ c. z ≡ pos 1) (λ c. val c e ≡ pos 1) n (literal Stated n z).items 4 (256 * nodes e) (omega (arith, one)) (λ c w p. value c ∙ p) (λ c w p. sym (value c) ∙ p)
            (states_literal V V n z (integer_bit z b t (sym (bounds-Int ss z) ∙ is))));
        spans = λ mode plain. ap (λ (l : Low). spans_of l.operands) (sym (low mode)) ∙ ap (λ (c : Bounds). c ∷ []) (span_is e b is);
        known = λ y k. ap (λ (l : Low). terms_of l.operands) (sym (low Number)) ∙ ap (λ (u : ℤ). Int u ∷ []) (same_integer z y (out-Expr e) (layer-Int z) k);
        written = λ set wr. clash (is_set e) set (set-Int z);
      }
    where
      integer_bit : (z : ℤ) (b : Bounds) → is_truth b ≡ true → limited (exactly z) ≡ Ok b → IsBit z
      integer_bit z b t h = let same = (limited-is (exactly z) b h).0 in within_bit b z t (subst (λ (c : Bounds). IsWithin c z) same (record { from = omega (arith, ints); to = omega (arith, ints) }))

  claim-Var : (v : ℕ) → Claim (var_expr v)
  claim-Var v d s b is n le =
      let e = var_expr v in
      let one : nodes e ≡ 1 = nodes-var e v refl in
      let x : List ℤ → ℤ = λ c. num c (Var v) in
      let below : v < length ss = every-var (HasSpan ss) e v refl s in
      let lt : v < n = omega (arith, below, le) in
      let value : (c : List ℤ) → val c e ≡ x c = λ c. ap (λ (u : Worth). u.value) (worth-Var c v) ∙ sym (number-Var c v) in
      let offer : (c : List ℤ) → V c → x c ∷ [] ≡ offered e c = λ c w. ap (λ (z : ℤ). z ∷ []) (number-Var c v) ∙ sym (ap₂ offered_of (set-Var v) (worth-Var c v)) in
      let low : (mode : Mode) → single (span_of ss e) (variable mode n v) ≡ low_expr ss e mode n = λ mode. sym (low-Var ss e v mode n refl) in
      let bit : is_truth b ≡ true → (c : List ℤ) → V c → IsBit (x c) = λ t c w. subst IsBit (value c) (value_bit e b d s is t c w) in
      let F : Low → Type 0 = λ l. Gained (256 * nodes e) n l (offered e) in
      let S : Low → Type 0 = λ l. Rule V V n l.items (256 * nodes e) Always (λ c. val c e ≡ pos 1) in
      record {
        counts = subst F (low Number) (single_gained (256 * nodes e) n x (offered e) (span_of ss e) (variable Number n v) 0 (omega (arith, one)) offer (yields_standing V V n (Var v) x lt (λ c w. refl)));
        tests = λ plain t. subst F (low Logic) (single_gained (256 * nodes e) n x (offered e) (span_of ss e) (variable Logic n v) 3 (omega (arith, one)) offer (tests_variable V V n v lt (bit t)));
        states = λ plain t.
            subst S (low Stated)
            (states_as V V (λ c. x c ≡ pos 1) (λ c. val c e ≡ pos 1) n (variable Stated n v).items 4 (256 * nodes e) (omega (arith, one)) (λ c w p. value c ∙ p) (λ c w p. sym (value c) ∙ p) (states_variable V V n v lt (bit t)));
        spans = λ mode plain. ap (λ (l : Low). spans_of l.operands) (sym (low mode)) ∙ ap (λ (c : Bounds). c ∷ []) (span_is e b is);
        known = λ y k. clash (is_literal e) (ap is_literal_layer k) (ap is_literal_layer (layer-Var v));
        written = λ set wr. clash (is_set e) set (set-Var v);
      }

  -- what is asked of an operand in a mode
  abbrev Asked : Mode → Expr → Bounds → Type 0
  Asked Number e b = Unit {0}
  Asked Logic e b = (is_set e ≡ false) × (is_truth b ≡ true)
  Asked Stated e b = ⊥

  abbrev AllAsked : Op → Mode → ℕ → List Expr → List Bounds → Type 0
  AllAsked op mode k [] [] = Unit {0}
  AllAsked op mode k [] (b ∷ bs) = ⊥
  AllAsked op mode k (e ∷ es) [] = ⊥
  AllAsked op mode k (e ∷ es) (b ∷ bs) = Asked (operand_mode op mode k) e b × AllAsked op mode (k + 1) es bs

  gained_mode : (e : Expr) (b : Bounds) (n : ℕ) → Says e b n → (m : Mode) → Asked m e b → Gained (256 * nodes e) n (low_expr ss e m n) (offered e)
  gained_mode e b n says Number h = says.counts
  gained_mode e b n says Logic h = says.tests h.0 h.1
  gained_mode e b n says Stated h = absurd h

  number_asked : (op : Op) (mode : Mode) → ((j : ℕ) → operand_mode op mode j ≡ Number) → (k : ℕ) (es : List Expr) (bs : List Bounds) → length es ≡ length bs → AllAsked op mode k es bs
  number_asked op mode all k [] [] h = tt
  number_asked op mode all k [] (b ∷ bs) h = absurd (omega (arith, h))
  number_asked op mode all k (e ∷ es) [] h = absurd (omega (arith, h))
  number_asked op mode all k (e ∷ es) (b ∷ bs) h = (subst (λ (m : Mode). Asked m e b) (sym (all k)) tt, number_asked op mode all (k + 1) es bs (omega (arith, h)))

  logic_asked : (op : Op) (mode : Mode) → ((j : ℕ) → operand_mode op mode j ≡ Logic) → (k : ℕ) (es : List Expr) (bs : List Bounds) → length es ≡ length bs → AreNoSets es → list_all is_truth bs ≡ true → AllAsked op mode k es bs
  logic_asked op mode all k [] [] h plain t = tt
  logic_asked op mode all k [] (b ∷ bs) h plain t = absurd (omega (arith, h))
  logic_asked op mode all k (e ∷ es) [] h plain t = absurd (omega (arith, h))
  logic_asked op mode all k (e ∷ es) (b ∷ bs) h plain t =
      let ts = both_true (is_truth b) (list_all is_truth bs) t in
      (subst (λ (m : Mode). Asked m e b) (sym (all k)) (plain.0, ts.0), logic_asked op mode all (k + 1) es bs (omega (arith, h)) plain.1 ts.1)

  choice_asked : (mode : Mode) (es : List Expr) (bs : List Bounds) → length es ≡ length bs → length es ≡ 3 → AreNoSets es → is_truth (operand bs 0) ≡ true → AllAsked If mode 0 es bs
  choice_asked mode [] bs h three plain t = absurd (omega (arith, three))
  choice_asked mode (x ∷ []) bs h three plain t = absurd (omega (arith, three))
  choice_asked mode (x ∷ y ∷ []) bs h three plain t = absurd (omega (arith, three))
  choice_asked mode (x ∷ y ∷ z ∷ u ∷ es) bs h three plain t = absurd (omega (arith, three))
  choice_asked mode (x ∷ y ∷ z ∷ []) [] h three plain t = absurd (omega (arith, h))
  choice_asked mode (x ∷ y ∷ z ∷ []) (b ∷ []) h three plain t = absurd (omega (arith, h))
  choice_asked mode (x ∷ y ∷ z ∷ []) (b ∷ c ∷ []) h three plain t = absurd (omega (arith, h))
  choice_asked mode (x ∷ y ∷ z ∷ []) (b ∷ c ∷ d ∷ []) h three plain t = ((plain.0, t), (tt, (tt, tt)))
  choice_asked mode (x ∷ y ∷ z ∷ []) (b ∷ c ∷ d ∷ e ∷ bs) h three plain t = absurd (omega (arith, h))

  -- what each operator asks of its operands, other than a stated `and`
  asked_for : (op : Op) (mode : Mode) (es : List Expr) (bs : List Bounds) (b : Bounds) → (op ≡ And → mode ≡ Stated → ⊥) → length es ≡ length bs → IsCount op (length es) → ArePlaced op es → node_bounds op bs ≡ Ok b → AllAsked op mode 0 es bs
  asked_for Not mode es bs b other h count placed is = logic_asked Not mode (λ j. refl) 0 es bs h placed (logic_is bs b is)
  asked_for Or mode es bs b other h count placed is = logic_asked Or mode (λ j. refl) 0 es bs h placed (logic_is bs b is)
  asked_for Xor mode es bs b other h count placed is = logic_asked Xor mode (λ j. refl) 0 es bs h placed (logic_is bs b is)
  asked_for Iff mode es bs b other h count placed is = logic_asked Iff mode (λ j. refl) 0 es bs h placed (logic_is bs b is)
  asked_for Imp mode es bs b other h count placed is = logic_asked Imp mode (λ j. refl) 0 es bs h placed (logic_is bs b is)
  asked_for And Number es bs b other h count placed is = logic_asked And Number (λ j. refl) 0 es bs h placed (logic_is bs b is)
  asked_for And Logic es bs b other h count placed is = logic_asked And Logic (λ j. refl) 0 es bs h placed (logic_is bs b is)
  asked_for And Stated es bs b other h count placed is = absurd (other refl refl)
  asked_for If mode es bs b other h count placed is = choice_asked mode es bs h count placed (guarded (is_truth (operand bs 0)) (limited (join_ends (operand bs 1) (operand bs 2))) b Fault is).1
  asked_for op mode es bs b other h count placed is = number_asked op mode (λ j. refl) 0 es bs h

  -- the operands, from place k on
  record Below (op : Op) (mode : Mode) (k n : ℕ) (es : List Expr) (bs : List Bounds) : Type 0 where
    gained : Gained (256 * nodes_of es) n (low_operands ss op mode k n es) (offers es)
    spans : AreNoSets es → spans_of (low_operands ss op mode k n es).operands ≡ bs
    literals : ((j : ℕ) → operand_mode op mode j ≡ Number) → list_all is_literal es ≡ true → AllByRecursion IsWritten (terms_of (low_operands ss op mode k n es).operands)

  none_below : (op : Op) (mode : Mode) (k n : ℕ) → Below op mode k n [] []
  none_below op mode k n = record {
    gained = record { w = 0; light = omega arith; yields = record { rule = rule_none V V (λ b. map (num b) [] ≡ []) n 0 (λ b d. refl); before = tt } };
    spans = λ plain. refl;
    literals = λ all lit. tt;
  }

  one_below : (op : Op) (mode : Mode) (k n : ℕ) (e : Expr) (es : List Expr) (b : Bounds) (bs : List Bounds) → Says e b n → Asked (operand_mode op mode k) e b
      → Below op mode (k + 1) (n + made (low_expr ss e (operand_mode op mode k) n).items) es bs → Below op mode k n (e ∷ es) (b ∷ bs)
  one_below op mode k n e es b bs says asked rest =
      let m = operand_mode op mode k in
      let l = low_expr ss e m n in
      let r = low_operands ss op mode (k + 1) (n + made l.items) es in
      let g = gained_join (256 * nodes e) (256 * nodes_of es) n (offered e) (offers es) l r (gained_mode e b n says m asked) rest.gained in
      record {
        gained = record { w = g.w; light = omega (arith, g.light); yields = g.yields };
        spans = λ plain. spans_join l.operands r.operands ∙ ap₂ (λ (x y : List Bounds). x ++ y) (says.spans m plain.0) (rest.spans plain.1);
        literals = λ all lit.
            let parts = both_true (is_literal e) (list_all is_literal es) lit in
            let z = literal_of (out-Expr e) parts.0 in
            let terms : Int z.value ∷ [] ≡ terms_of l.operands = sym (ap (λ (i : Mode). terms_of (low_expr ss e i n).operands) (all k) ∙ says.known z.value z.is) in
            subst (AllByRecursion IsWritten) (sym (terms_join l.operands r.operands)) (written_join (terms_of l.operands) (terms_of r.operands) (subst (AllByRecursion IsWritten) terms (tt, tt)) (rest.literals all parts.1));
      }

  abbrev Pairs : Type 0
  Pairs = List ((e : Expr) × Claim e)

  abbrev firsts : Pairs → List Expr
  firsts ps = map (λ p. p.0) ps

  below : (ps : Pairs) (bs : List Bounds) → All IsShaped (firsts ps) → All (HasSpans ss) (firsts ps) → all_ok (map (bounds ss) (firsts ps)) ≡ Ok bs
      → (op : Op) (mode : Mode) (k n : ℕ) → length ss ≤ n → AllAsked op mode k (firsts ps) bs → Below op mode k n (firsts ps) bs
  below [] bs d s h op mode k n le asked = subst (Below op mode k n []) (no_bounds bs h) (none_below op mode k n)
  below (p ∷ ps) bs d s h op mode k n le asked =
      let parts = parts_of (bounds ss p.0) (map (bounds ss) (firsts ps)) bs h in
      let now : AllAsked op mode k (p.0 ∷ firsts ps) (parts.head ∷ parts.tail) = subst (AllAsked op mode k (p.0 ∷ firsts ps)) parts.same asked in
      let l = low_expr ss p.0 (operand_mode op mode k) n in
      subst (Below op mode k n (p.0 ∷ firsts ps)) (sym parts.same)
      (one_below op mode k n p.0 (firsts ps) parts.head parts.tail (p.1 (d 0 p.0 (omega arith)) (s 0 p.0 (omega arith)) parts.head parts.head_is n le) now.0
      (below ps parts.tail (All-tail IsShaped p.0 (firsts ps) d) (All-tail (HasSpans ss) p.0 (firsts ps) s) parts.tail_is op mode (k + 1) (n + made l.items) (omega (arith, le)) now.1))

  -- the operands of a stated `and`
  stated_below : (ps : Pairs) (bs : List Bounds) → All IsShaped (firsts ps) → All (HasSpans ss) (firsts ps) → all_ok (map (bounds ss) (firsts ps)) ≡ Ok bs → AreNoSets (firsts ps) → list_all is_truth bs ≡ true
      → (k n : ℕ) → length ss ≤ n → Rule V V n (low_operands ss And Stated k n (firsts ps)).items (256 * nodes_of (firsts ps)) Always (λ c. list_all is_true (map (val c) (firsts ps)) ≡ true)
  stated_below [] bs d s h plain t k n le = states_as V V Always (λ c. true ≡ true) n [] 0 (256 * nodes_of []) (omega arith) (λ c w p. refl) (λ c w p. tt) (rule_none V V Always n 0 (λ c w. tt))
  stated_below (p ∷ ps) bs d s h plain t k n le =
      let parts = parts_of (bounds ss p.0) (map (bounds ss) (firsts ps)) bs h in
      let ts = both_true (is_truth parts.head) (list_all is_truth parts.tail) (subst (λ (cs : List Bounds). list_all is_truth cs ≡ true) parts.same t) in
      let says = p.1 (d 0 p.0 (omega arith)) (s 0 p.0 (omega arith)) parts.head parts.head_is n le in
      let l = low_expr ss p.0 Stated n in
      let m = low_operands ss And Stated (k + 1) (n + made l.items) (firsts ps) in
      let first : List ℤ → Bool = λ c. is_true (val c p.0) in
      let rest : List ℤ → Bool = λ c. list_all is_true (map (val c) (firsts ps)) in
      let P : List ℤ → Type 0 = λ c. val c p.0 ≡ pos 1 in
      let Q : List ℤ → Type 0 = λ c. rest c ≡ true in
      states_as V V (λ c. P c × Q c) (λ c. (first c && rest c) ≡ true) n (l.items ++ m.items) (256 * nodes p.0 + 256 * nodes_of (firsts ps)) (256 * nodes_of (p.0 ∷ firsts ps)) (omega arith)
      (λ c w q. both_met (first c) (rest c) (equal_met (val c p.0) (pos 1) q.0) q.1) (λ c w q. let both = both_true (first c) (rest c) q in (equal (val c p.0) (pos 1) both.0, both.1))
      (rules_both V V P Q n l.items m.items (256 * nodes p.0) (256 * nodes_of (firsts ps)) (says.states plain.0 ts.0)
      (stated_below ps parts.tail (All-tail IsShaped p.0 (firsts ps) d) (All-tail (HasSpans ss) p.0 (firsts ps) s) parts.tail_is plain.1 ts.1 (k + 1) (n + made l.items) (omega (arith, le))))

  -- the values of the operands lie within their bounds
  held_below : (es : List Expr) (bs : List Bounds) → All IsShaped es → All (HasSpans ss) es → all_ok (map (bounds ss) es) ≡ Ok bs → (c : List ℤ) → V c → AreHeld bs (map (val c) es)
  held_below [] bs d s h c w = subst (λ (cs : List Bounds). AreHeld cs []) (no_bounds bs h) tt
  held_below (e ∷ es) bs d s h c w =
      let parts = parts_of (bounds ss e) (map (bounds ss) es) bs h in
      subst (λ (cs : List Bounds). AreHeld cs (val c e ∷ map (val c) es)) (sym parts.same) (
        value_held ss e parts.head (d 0 e (omega arith)) (s 0 e (omega arith)) parts.head_is c w,
        held_below es parts.tail (All-tail IsShaped e es d) (All-tail (HasSpans ss) e es s) parts.tail_is c w,
      )

  -- what is offered

  plain_offered : (e : Expr) (c : List ℤ) → is_set e ≡ false → offered e c ≡ val c e ∷ []
  plain_offered e c plain = ap (λ (t : Bool). offered_of t (worth c e)) plain

  set_offered : (e : Expr) (c : List ℤ) → is_set e ≡ true → offered e c ≡ (worth c e).members
  set_offered e c set = ap (λ (t : Bool). offered_of t (worth c e)) set

  plain_offers : (es : List Expr) (c : List ℤ) → AreNoSets es → offers es c ≡ map (val c) es
  plain_offers [] c plain = refl
  plain_offers (e ∷ es) c plain = ap₂ (λ (x y : List ℤ). x ++ y) (plain_offered e c plain.0) (plain_offers es c plain.1)

  member_offers : (es : List Expr) (c : List ℤ) → IsMembership es → offers es c ≡ at (map (val c) es) 0 ∷ second_members (map (worth c) es)
  member_offers [] c h = absurd h
  member_offers (e ∷ []) c h = absurd h
  member_offers (e ∷ s ∷ []) c h = ap₂ (λ (x y : List ℤ). x ++ (y ++ [])) (plain_offered e c h.0) (set_offered s c h.1) ∙ ap (λ (y : List ℤ). val c e ∷ y) (append-nil (worth c s).members)
  member_offers (e ∷ s ∷ f ∷ es) c h = absurd h

  worth_is : (op : Op) (es : List Expr) (c : List ℤ) → ArePlaced op es → worth_at op (offers es c) ≡ val c (node_expr op es)
  worth_is In es c placed = ap (worth_at In) (member_offers es c placed) ∙ sym (val-Node c In es)
  worth_is NotIn es c placed = ap (worth_at NotIn) (member_offers es c placed) ∙ sym (val-Node c NotIn es)
  worth_is Pow es c placed = ap (worth_at Pow) (plain_offers es c (power_no_sets es placed)) ∙ sym (val-Node c Pow es)
  worth_is op es c placed = ap (worth_at op) (plain_offers es c placed) ∙ sym (val-Node c op es)

  count_for : (op : Op) (es : List Expr) (m : ℕ) → ArePlaced op es → IsCount op (length es) → (AreNoSets es → length es ≡ m) → HasCount op m
  count_for In es m placed count many = tt
  count_for NotIn es m placed count many = tt
  count_for Pow es m placed count many = subst (IsCount Pow) (many (power_no_sets es placed)) count
  count_for op es m placed count many = subst (IsCount op) (many placed) count

  spanned_for : (op : Op) (es : List Expr) (l : Low) (bs : List Bounds) (b : Bounds) → ArePlaced op es → (AreNoSets es → spans_of l.operands ≡ bs) → ((c : List ℤ) → V c → AreHeld bs (map (val c) es)) → node_bounds op bs ≡ Ok b
      → AreSpanned (Behind l (offers es)) op b l.operands
  spanned_for op es l bs b placed spans held own = by op placed own
    where
      plainly : (op : Op) → AreNoSets es → node_bounds op bs ≡ Ok b → Spanned (Behind l (offers es)) op b l.operands
      plainly op plain own = record {
        held = λ c d. subst (λ (cs : List Bounds). AreHeld cs (nums c l.operands)) (sym (spans plain)) (subst (AreHeld bs) (sym (d.1 ∙ plain_offers es c plain)) (held c d.0));
        own = ap (node_bounds op) (spans plain) ∙ own;
      }

      by : (op : Op) → ArePlaced op es → node_bounds op bs ≡ Ok b → AreSpanned (Behind l (offers es)) op b l.operands
      by In placed own = tt
      by NotIn placed own = tt
      by Pow placed own = plainly Pow (power_no_sets es placed) own
      by op placed own = plainly op placed own

  -- one operand, where it is no set
  one_operand : (e : Expr) (b : Bounds) (n : ℕ) → Says e b n → is_set e ≡ false → length (low_expr ss e Number n).operands ≡ 1
  one_operand e b n says plain = let os = (low_expr ss e Number n).operands in sym (mapped_long (λ (o : Operand). o.span) os) ∙ ap length (says.spans Number plain)

  -- the members of a set that is written
  written_in : (ps : Pairs) (bs : List Bounds) → All IsShaped (firsts ps) → All (HasSpans ss) (firsts ps) → all_ok (map (bounds ss) (firsts ps)) ≡ Ok bs → IsMembership (firsts ps)
      → (op : Op) (mode : Mode) → ((j : ℕ) → operand_mode op mode j ≡ Number) → (n : ℕ) → length ss ≤ n → has_written (firsts ps) ≡ true
      → AllByRecursion IsWritten (drop 1 (terms_of (low_operands ss op mode 0 n (firsts ps)).operands))
  written_in [] bs d s h placed op mode all n le wr = absurd placed
  written_in (p ∷ []) bs d s h placed op mode all n le wr = absurd placed
  written_in (p ∷ q ∷ r ∷ ps) bs d s h placed op mode all n le wr = absurd placed
  written_in (p ∷ q ∷ []) bs d s h placed op mode all n le wr =
      let parts = parts_of (bounds ss p.0) (bounds ss q.0 ∷ []) bs h in
      let last = parts_of (bounds ss q.0) [] parts.tail parts.tail_is in
      let l = low_expr ss p.0 Number n in
      let m = low_expr ss q.0 Number (n + made l.items) in
      let says = p.1 (d 0 p.0 (omega arith)) (s 0 p.0 (omega arith)) parts.head parts.head_is n le in
      let more = q.1 (d 1 q.0 (omega arith)) (s 1 q.0 (omega arith)) last.head last.head_is (n + made l.items) (omega (arith, le)) in
      let two : Mode → Mode → List Operand = λ i j. (low_expr ss p.0 i n).operands ++ ((low_expr ss q.0 j (n + made (low_expr ss p.0 i n).items)).operands ++ []) in
      let here : AllByRecursion IsWritten (drop 1 (terms_of (two Number Number))) =
      subst (AllByRecursion IsWritten) (ap terms_of (sym (append-nil m.operands)) ∙ behind_one l.operands (m.operands ++ []) (one_operand p.0 parts.head n says placed.0)) (more.written placed.1 wr) in
      subst (λ (os : List Operand). AllByRecursion IsWritten (drop 1 (terms_of os))) (sym (ap₂ two (all 0) (all 1))) here

  written_for : (op : Op) (mode : Mode) (n : ℕ) (ps : Pairs) (bs : List Bounds) → All IsShaped (firsts ps) → All (HasSpans ss) (firsts ps) → all_ok (map (bounds ss) (firsts ps)) ≡ Ok bs → ArePlaced op (firsts ps) → length ss ≤ n
      → AreWritten op (has_written (firsts ps)) (low_operands ss op mode 0 n (firsts ps)).operands
  written_for In mode n ps bs d s h placed le = λ wr. written_in ps bs d s h placed In mode (λ j. refl) n le wr
  written_for NotIn mode n ps bs d s h placed le = λ wr. written_in ps bs d s h placed NotIn mode (λ j. refl) n le wr
  written_for op mode n ps bs d s h placed le = tt

  -- the exponent of a power
  raised_in : (ps : Pairs) (bs : List Bounds) → All IsShaped (firsts ps) → All (HasSpans ss) (firsts ps) → all_ok (map (bounds ss) (firsts ps)) ≡ Ok bs → IsPower (firsts ps)
      → (mode : Mode) (n : ℕ) → length ss ≤ n → spans_of (low_operands ss Pow mode 0 n (firsts ps)).operands ≡ bs → HasPower (low_operands ss Pow mode 0 n (firsts ps)).operands
  raised_in [] bs d s h placed mode n le spans = absurd placed
  raised_in (p ∷ []) bs d s h placed mode n le spans = absurd placed
  raised_in (p ∷ q ∷ r ∷ ps) bs d s h placed mode n le spans = absurd placed
  raised_in (p ∷ q ∷ []) bs d s h placed mode n le spans =
      let parts = parts_of (bounds ss p.0) (bounds ss q.0 ∷ []) bs h in
      let l = low_expr ss p.0 Number n in
      let z = exponent_of (out-Expr q.0) placed.1 in
      let exact : bounds ss q.0 ≡ Ok (exactly z.0) = literal-is ss q.0 z.0 z.1 z.2 in
      let says = p.1 (d 0 p.0 (omega arith)) (s 0 p.0 (omega arith)) parts.head parts.head_is n le in
      let more = q.1 (d 1 q.0 (omega arith)) (s 1 q.0 (omega arith)) (exactly z.0) exact (n + made l.items) (omega (arith, le)) in
      record {
        power = z.0;
        exponent = z.2;
        term = second_term l.operands (low_expr ss q.0 Number (n + made l.items)).operands z.0 (one_operand p.0 parts.head n says placed.0) (more.known z.0 z.1);
        span = ap (λ (cs : List Bounds). (operand cs 1).lo) spans ∙ second-bounds (bounds ss p.0) (bounds ss q.0) z.0 bs exact h;
      }

  raised_for : (op : Op) (mode : Mode) (n : ℕ) (ps : Pairs) (bs : List Bounds) → All IsShaped (firsts ps) → All (HasSpans ss) (firsts ps) → all_ok (map (bounds ss) (firsts ps)) ≡ Ok bs → ArePlaced op (firsts ps) → length ss ≤ n
      → Below op mode 0 n (firsts ps) bs → IsRaised op (low_operands ss op mode 0 n (firsts ps)).operands
  raised_for Pow mode n ps bs d s h placed le l = raised_in ps bs d s h placed mode n le (l.spans (power_no_sets (firsts ps) placed))
  raised_for op mode n ps bs d s h placed le l = tt

  -- a node that is no set, and no stated `and`
  module _ (op : Op) (ps : Pairs) (d : IsShaped (node_expr op (firsts ps))) (s : HasSpans ss (node_expr op (firsts ps))) (b : Bounds) (is : bounds ss (node_expr op (firsts ps)) ≡ Ok b) where
    abbrev es : List Expr
    es = firsts ps

    abbrev e : Expr
    e = node_expr op es

    shape : IsCount op (length es) × ArePlaced op es
    shape = every-node HasShape e op es refl d

    shapes : All IsShaped es
    shapes = every-operands HasShape e op es es refl refl d

    variables : All (HasSpans ss) es
    variables = every-operands (HasSpan ss) e op es es refl refl s

    own : Own op (all_ok (map (bounds ss) es)) b
    own = own_of op (all_ok (map (bounds ss) es)) b (sym (bounds-Node ss op es) ∙ is)

    many : length es ≡ length own.below
    many = sym (bounds_many (map (bounds ss) es) own.below own.is ∙ mapped_long (bounds ss) es)

    heavy : nodes e ≡ 1 + nodes_of es
    heavy = nodes-node e op es refl

    abbrev under : Mode → ℕ → Low
    under mode n = low_operands ss op mode 0 n es

    operands : (mode : Mode) (n : ℕ) → length ss ≤ n → (op ≡ And → mode ≡ Stated → ⊥) → Below op mode 0 n es own.below
    operands mode n le other = below ps own.below shapes variables own.is op mode 0 n le (asked_for op mode es own.below b other many shape.0 shape.1 own.own)

    -- the operator's value is that of the expression
    value : (mode : Mode) (n : ℕ) (c : List ℤ) → Behind (under mode n) (offers es) c → worth_at op (nums c (under mode n).operands) ≡ val c e
    value mode n c d = ap (worth_at op) d.1 ∙ worth_is op es c shape.1

    input : (mode : Mode) (n : ℕ) → length ss ≤ n → Below op mode 0 n es own.below → Input (Behind (under mode n) (offers es)) (n + made (under mode n).items) op b (has_written es) (under mode n).operands
    input mode n le l =
        let os = (under mode n).operands in
        record {
          before = l.gained.yields.before;
          spanned = spanned_for op es (under mode n) own.below b shape.1 l.spans (held_below es own.below shapes variables own.is) own.own;
          within = λ c k. subst (IsWithin b) (sym (value mode n c k)) (value_held ss e b d s is c k.0).within;
          count = count_for op es (length os) shape.1 shape.0 (λ plain. many ∙ ap length (sym (l.spans plain)) ∙ mapped_long (λ (o : Operand). o.span) os);
          literal = written_for op mode n ps own.below shapes variables own.is shape.1 le;
          raised = raised_for op mode n ps own.below shapes variables own.is shape.1 le l;
        }

    -- what the operator is lowered to
    abbrev made_of : Mode → ℕ → Out
    made_of mode n = node op mode b (has_written es) (n + made (under mode n).items) (under mode n).operands

    abbrev whole : Mode → ℕ → Low
    whole mode n = record { items = (under mode n).items ++ (made_of mode n).items; operands = record { term = (made_of mode n).term; span = b } ∷ [] }

    low_is : is_set_operator op ≡ false → (mode : Mode) (n : ℕ) → whole mode n ≡ low_expr ss e mode n
    low_is plain mode n =
        let l = under mode n in
        let last : Bool → Low = λ t. own_low_of t op mode b (has_written es) (n + made l.items) l.operands in
        sym
        (low-Node ss e op es mode n refl
        ∙ ap (λ (u : Bounds). finished op mode u (has_written es) n l) (span_is e b is)
        ∙ ap (λ (t : Bool). behind l (last t)) plain)
      where
        behind : Low → Low → Low
        behind l m = record { items = l.items ++ m.items; operands = m.operands }

    bit : is_truth b ≡ true → (mode : Mode) (n : ℕ) (c : List ℤ) → Behind (under mode n) (offers es) c → IsBit (worth_at op (nums c (under mode n).operands))
    bit t mode n c k = subst IsBit (sym (value mode n c k)) (value_bit e b d s is t c k.0)

    gained_as : is_set_operator op ≡ false → (mode : Mode) (n : ℕ) → length ss ≤ n → (l : Below op mode 0 n es own.below)
        → Yields V (Behind (under mode n) (offers es)) (n + made (under mode n).items) (made_of mode n) (limit (under mode n).operands + 3) (λ c. worth_at op (nums c (under mode n).operands)) → Gained (256 * nodes e) n (low_expr ss e mode n) (offered e)
    gained_as plain mode n le l r =
        let u = under mode n in
        let k : ℕ = n + made u.items in
        let B : List ℤ → Type 0 = Behind u (offers es) in
        let c : Out = made_of mode n in
        let size : ℕ = limit u.operands + 3 in
        let offer : (a : List ℤ) → V a → val a e ∷ [] ≡ offered e a = λ a w. sym (plain_offered e a (set-Node op es ∙ plain)) in
        let g =
        gained_node (256 * nodes_of es) n (offers es) (offered e) u (λ a. val a e) b c l.gained offer
        (yields_as V B B k c size size (λ a. worth_at op (nums a u.operands)) (λ a. val a e) (λ a x. x) (value mode n) (omega arith) r) in
        subst (λ (m : Low). Gained (256 * nodes e) n m (offered e)) (low_is plain mode n) (record { w = g.w; light = omega (arith, g.light, heavy); yields = g.yields })

    node_states : is_set_operator op ≡ false → op ≢ And → is_truth b ≡ true → (n : ℕ) → length ss ≤ n → Rule V V n (low_expr ss e Stated n).items (256 * nodes e) Always (λ c. val c e ≡ pos 1)
    node_states plain other t n le =
        let l = operands Stated n le (λ x y. other x) in
        let u = under Stated n in
        let k : ℕ = n + made u.items in
        let B : List ℤ → Type 0 = Behind u (offers es) in
        let P : List ℤ → Type 0 = λ c. val c e ≡ pos 1 in
        let v : List ℤ → ℤ = λ c. worth_at op (nums c u.operands) in
        let size : ℕ = limit u.operands + 4 in
        let r = states_node V B k b (has_written es) u.operands op (input Stated n le l) plain other (bit t Stated n) in
        let xs : List Item = (made_of Stated n).items in
        subst (λ (m : Low). Rule V V n m.items (256 * nodes e) Always P) (low_is plain Stated n)
        (states_as V V P P n (u.items ++ xs) (256 + 256 * nodes_of es) (256 * nodes e) (omega (arith, heavy)) (λ c w p. p) (λ c w p. p)
        (stated_node (256 * nodes_of es) n (offers es) u P xs l.gained (states_as V B (λ c. v c ≡ pos 1) P k xs size size (omega arith) (λ c w p. sym (value Stated n c w) ∙ p) (λ c w p. value Stated n c w ∙ p) r)))

    node_says : is_set_operator op ≡ false → (n : ℕ) → length ss ≤ n → (is_truth b ≡ true → Rule V V n (low_expr ss e Stated n).items (256 * nodes e) Always (λ c. val c e ≡ pos 1)) → Says e b n
    node_says plain n le stated =
        let count = operands Number n le (λ x y. cc) in
        let test = operands Logic n le (λ x y. cc) in
        record {
          counts = gained_as plain Number n le count (yields_number V (Behind (under Number n) (offers es)) (n + made (under Number n).items) b (has_written es) (under Number n).operands op (input Number n le count) plain);
          tests = λ p t.
              gained_as plain Logic n le test
              (yields_logic V (Behind (under Logic n) (offers es)) (n + made (under Logic n).items) b (has_written es) (under Logic n).operands op (input Logic n le test) plain (bit t Logic n));
          states = λ p t. stated t;
          spans = λ mode p. ap (λ (l : Low). spans_of l.operands) (sym (low_is plain mode n));
          known = λ z k. clash (is_literal e) (ap is_literal_layer k) (ap is_literal_layer (layer-Node op es));
          written = λ set wr. clash (is_set e) set (set-Node op es ∙ plain);
        }

  claim-Set : (ps : Pairs) → Claim (node_expr Set (firsts ps))
  claim-Set ps d s b is n le =
      let es = firsts ps in
      let e = node_expr Set es in
      let l = operands Set ps d s b is Number n le (λ x y. cc) in
      let c = low_operands ss Set Number 0 n es in
      let g = l.gained in
      let offer : (a : List ℤ) → offers es a ≡ offered e a = λ a. plain_offers es a (shape Set ps d s b is).1 ∙ sym (set_offered e a (set-Node Set es) ∙ members-Set a es) in
      let low : c ≡ low_expr ss e Number n = ap (with_items c.operands) (sym (append-nil c.items)) ∙ sym (low-Node ss e Set es Number n refl) in
      let here : Gained (256 * nodes e) n c (offered e) = record {
        w = g.w;
        light = omega (arith, g.light, heavy Set ps d s b is);
        yields = record {
          rule = rule_as V V V (λ a. nums a c.operands ≡ offers es a) (λ a. nums a c.operands ≡ offered e a) Always Always n c.items g.w g.w (λ a w. w) (λ a w h. h ∙ offer a) (λ a w h p. tt) (λ a x w h p. tt) (omega arith) g.yields.rule;
          before = g.yields.before;
        };
      } in
      record {
        counts = subst (λ (m : Low). Gained (256 * nodes e) n m (offered e)) low here;
        tests = λ plain t. clash (is_set e) (set-Node Set es) plain;
        states = λ plain t. clash (is_set e) (set-Node Set es) plain;
        spans = λ mode plain. clash (is_set e) (set-Node Set es) plain;
        known = λ z k. clash (is_literal e) (ap is_literal_layer k) (ap is_literal_layer (layer-Node Set es));
        written = λ set wr. subst (λ (m : Low). AllByRecursion IsWritten (terms_of m.operands)) low (l.literals (λ j. refl) (sym (ap is_written_layer (layer-Node Set es)) ∙ wr));
      }
    where
      with_items : List Operand → List Item → Low
      with_items os xs = record { items = xs; operands = os }

  claim-And : (ps : Pairs) → Claim (node_expr And (firsts ps))
  claim-And ps d s b is n le = node_says And ps d s b is refl n le stated
    where
      stated : is_truth b ≡ true → Rule V V n (low_expr ss (node_expr And (firsts ps)) Stated n).items (256 * nodes (node_expr And (firsts ps))) Always (λ c. val c (node_expr And (firsts ps)) ≡ pos 1)
      stated t =
          let es = firsts ps in
          let e = node_expr And es in
          let xs = (low_operands ss And Stated 0 n es).items in
          let o = own And ps d s b is in
          let all : List ℤ → Bool = λ c. list_all is_true (map (val c) es) in
          let value : (c : List ℤ) → val c e ≡ truth (all c) = λ c. val-Node c And es in
          subst (λ (l : Low). Rule V V n l.items (256 * nodes e) Always (λ c. val c e ≡ pos 1)) (low_is And ps d s b is refl Stated n)
          (subst (λ (ys : List Item). Rule V V n ys (256 * nodes e) Always (λ c. val c e ≡ pos 1)) (sym (append-nil xs))
          (states_as V V (λ c. all c ≡ true) (λ c. val c e ≡ pos 1) n xs (256 * nodes_of es) (256 * nodes e) (omega (arith, heavy And ps d s b is)) (λ c w p. value c ∙ ap truth p) (λ c w p. truth_one (all c) (sym (value c) ∙ p))
          (stated_below ps o.below (shapes And ps d s b is) (variables And ps d s b is) o.is (shape And ps d s b is).1 (logic_is o.below b o.own) 0 n le)))

  claim-Node : (op : Op) (ps : Pairs) → Claim (node_expr op (firsts ps))
  claim-Node op ps d s b is n le = by (is_set_operator op) refl (is_and op) refl
    where
      by : (t : Bool) → is_set_operator op ≡ t → (u : Bool) → is_and op ≡ u → Says (node_expr op (firsts ps)) b n
      by true set u h =
          let P : Op → Type 0 = λ o. Claim (node_expr o (firsts ps)) in
          subst P (sym (set_only op set)) (claim-Set ps) d s b is n le
      by false plain true h =
          let P : Op → Type 0 = λ o. Claim (node_expr o (firsts ps)) in
          subst P (sym (and_only op h)) (claim-And ps) d s b is n le
      by false plain false h = node_says op ps d s b is plain n le (λ t. node_states op ps d s b is plain (λ e. clash (is_and op) (ap is_and e) h) t n le)

  at-layer : (y : Expr-F ((e : Expr) × Claim e)) → Claim (roll-Expr (map-Expr ((e : Expr) × Claim e) Expr (λ p. p.0) y))
  at-layer (Expr-F.Int z) = subst Claim (sym (rolls-Int z)) (claim-Int z)
  at-layer (Expr-F.Var v) = subst Claim (sym (rolls-Var v)) (claim-Var v)
  at-layer (Expr-F.Node op ps) = subst Claim (sym (rolls-Node op (firsts ps))) (claim-Node op ps)

  says : (e : Expr) → Claim e
  says = ind-Expr Claim (λ x y is. subst (λ z. Claim (roll-Expr z)) is (at-layer y))

  -- what states an expression of truth values states that its value is 1
  pub stated : (e : Expr) (b : Bounds) → IsShaped e → HasSpans ss e → bounds ss e ≡ Ok b → is_set e ≡ false → is_truth b ≡ true → (n : ℕ) → length ss ≤ n
      → Rule V V n (low_intension ss n e) (256 * nodes e) Always (λ c. val c e ≡ pos 1)
  stated e b d s is plain t n le = (says e d s b is n le).states plain t

  -- what an expression is lowered to as a number stands for its value
  pub counted : (e : Expr) (b : Bounds) → IsShaped e → HasSpans ss e → bounds ss e ≡ Ok b → is_set e ≡ false → (n : ℕ) → length ss ≤ n → YieldsAll V V n (outs (low_expr ss e Number n)) (256 * nodes e - 64) (λ c. val c e ∷ [])
  counted e b d s is plain n le =
      let l = low_expr ss e Number n in
      let all = says e d s b is n le in
      let g = all.counts in
      let one : length l.operands ≡ 1 = one_operand e b n all plain in
      record {
        rule =
            rule_as V V V (λ c. nums c l.operands ≡ offered e c) (λ c. nums c l.operands ≡ val c e ∷ []) Always Always n l.items g.w (256 * nodes e - 64) (λ c w. w) (λ c w h. h ∙ plain_offered e c plain) (λ c w h p. tt) (λ c x w h p. tt)
            (omega (arith, g.light, one)) g.yields.rule;
        before = g.yields.before;
      }
