-- What an expression is lowered to is well formed, by induction over the tree.
use Rattle.std.proofs.Common.{◌≡◌, ℕ, zero, suc, ◌+◌, ◌<◌, ◌≤◌, ℤ, ◌≤ℤ◌, Bool, true, false, List, [], ◌∷◌, ◌++◌, length, map, refl, ap, sym, ◌∙◌, subst, arith, All, Result, Ok, Err, if◌then◌else◌}
use Rattle.std.specs.List.{AllByRecursion}
use borrow.Author.Tests.{ne_eqb}
use Rattle.std.proofs.lemmas.List.{length-append, append-nil, map-append}
use Rattle.std.proofs.lemmas.List.Elements.{All-tail}
use Rattle.xf_num.specs.Span.{Bounds}
use Rattle.xf_text.specs.declared.fault.Kind.{Kind}
use Rattle.fz_model.specs.Limits.{IsSmall}
use Rattle.fz_model.specs.Sound.{IsRange}
use Rattle.xs_model.specs.declared.expr.Op.{Op}
use Rattle.xs_model.specs.declared.expr.Op.TheVariants.{Neg, Abs, Sqr, Add, Mul, Sub, Dist, Div, Mod, Pow, Min, Max, Lt, Le, Gt, Ge, Ne, Eq, Set, In, NotIn, Not, And, Or, Xor, Iff, Imp, If}
use Rattle.xs_model.specs.declared.expr.Expr.{Expr, Int as int_expr, Var as var_expr, Node as node_expr, roll-Expr, map-Expr, ind-Expr}
use Rattle.xs_model.specs.declared.expr.Expr.TheVariants.{rolls-Int, rolls-Var, rolls-Node}
use Rattle.xs_model.specs.declared.expr.Expr.TheOpen.{Expr-F}
use Rattle.xs_model.specs.Bounds.{bounds, all_ok, and_then, node_bounds, limited, exactly, operand, HasSpan, HasSpans}
use Rattle.xs_model.specs.Shape.{IsCount, HasShape, IsShaped, AreNoSets, ArePlaced, is_set, is_set_operator}
use Rattle.xs_expr.proofs.Every.{every-operands, every-node, every-var}
use Rattle.xs_expr.proofs.Layers.{bounds-Int, bounds-Var, bounds-Node}
use Rattle.xs_expr.proofs.Sound.{prepended-is}
use Rattle.lo_base.specs.Formed.{AreFormed, AreIntegers, kinds_of}
use Rattle.lo_base.specs.Item.{Item, made}
use Rattle.lo_base.proofs.Formed.{formed_join, integers_kept, keeps_behind}
use Rattle.lo_emit.specs.declared.term.Term.{Term}
use Rattle.lo_emit.specs.Emitted.{Out}
use Rattle.lo_formed.proofs.Sets.{alone, clash, set_only, set-Node}
use Rattle.lo_rules.specs.Formed.{IsInteger, IsLogic, AreIntegerTerms, Makes}
use Rattle.lo_rules.proofs.Making.{all_join}
use Rattle.lo_rules.proofs.MakingLoops.{Stays, kinds_behind, kinds_in_a_row, integers_stay, logics_stay, all_stay}
use Rattle.lo_terms.specs.declared.term.Mode.{Mode}
use Rattle.lo_terms.specs.declared.term.Mode.TheVariants.{Number, Logic, Stated}
use Rattle.lo_terms.specs.declared.term.Operand.{Operand}
use Rattle.lo_terms.specs.Emitted.{ends}
use Rattle.lo_terms.specs.Rules.{terms_of, term_at, node, literal, variable, operand_mode}
use Rattle.lo_terms.specs.Lowering.{Low, low_expr, low_operands, single, own_low_of, span_of, has_written}
use Rattle.lo_terms.proofs.LowerLemmas.{low-Int, low-Var, low-Node}
use Rattle.lo_formed.specs.Laws.{IsInMode, IsLowFormed, AreOrdered, ExpressionFormed, IntensionFormed}
use Rattle.lo_formed.proofs.Ranges.{bounds_ordered, limited_small, written_small, node_small}
use Rattle.lo_formed.proofs.Numbers.{AreSpansOrdered, Inputs, integer_at}
use Rattle.lo_formed.proofs.Nodes.{literal_makes, variable_makes, node_makes}

mode_stays : (m : Mode) → Stays (IsInMode m)
mode_stays Number = integers_stay
mode_stays Logic = logics_stay
mode_stays Stated = logics_stay

terms_join : (os ps : List Operand) → terms_of (os ++ ps) ≡ terms_of os ++ terms_of ps
terms_join os ps = map-append (λ (o : Operand). o.term) os ps

-- well-formed items, and operands of a kind whose bounds have members
record Good (IsKind : List Bool → Term → Type 0) (bs : List Bool) (l : Low) : Type 0 where
  low : IsLowFormed IsKind bs l
  spans : AreSpansOrdered l.operands

abbrev joined : Low → Low → Low
joined l m = record { items = l.items ++ m.items; operands = l.operands ++ m.operands }

good_join : (IsKind : List Bool → Term → Type 0) → Stays IsKind → (bs : List Bool) (l m : Low) → Good IsKind bs l → Good IsKind (bs ++ kinds_of l.items) m → Good IsKind bs (joined l m)
good_join IsKind stays bs l m g h =
    let cs : List Bool = bs ++ kinds_of l.items in
    let ds : List Bool = bs ++ kinds_of (l.items ++ m.items) in
    let row : cs ++ kinds_of m.items ≡ ds = kinds_in_a_row bs l.items m.items in
    let first : AllByRecursion (IsKind ds) (terms_of l.operands) =
    subst (λ (ks : List Bool). AllByRecursion (IsKind ks) (terms_of l.operands)) row (all_stay IsKind stays cs (cs ++ kinds_of m.items) (terms_of l.operands) (keeps_behind cs (kinds_of m.items)) g.low.terms) in
    let second : AllByRecursion (IsKind ds) (terms_of m.operands) = subst (λ (ks : List Bool). AllByRecursion (IsKind ks) (terms_of m.operands)) row h.low.terms in
    record {
      low = record {
        formed = formed_join bs l.items m.items g.low.formed h.low.formed;
        terms = subst (AllByRecursion (IsKind ds)) (sym (terms_join l.operands m.operands)) (all_join (IsKind ds) (terms_of l.operands) (terms_of m.operands) first second);
      };
      spans = all_join (λ (o : Operand). o.span.lo ≤ℤ o.span.hi) l.operands m.operands g.spans h.spans;
    }

good_single : (IsKind : List Bool → Term → Type 0) (bs : List Bool) (w : Bounds) (c : Out) → w.lo ≤ℤ w.hi → Makes IsKind bs c → Good IsKind bs (single w c)
good_single IsKind bs w c o m = record { low = record { formed = m.formed; terms = (m.term, tt) }; spans = (o, tt) }

-- the first of the operands, where one comes first
head_term : (P : Term → Type 0) (os ps : List Operand) → length os ≡ 1 → AllByRecursion P (terms_of os) → P (term_at (os ++ ps) 0)
head_term P [] ps h t = absurd (omega (arith, h))
head_term P (o ∷ []) ps h t = t.0
head_term P (o ∷ q ∷ os) ps h t = absurd (omega (arith, h))

behind_head : (os ps : List Operand) (k : ℕ) → length os ≡ 1 → term_at ps k ≡ term_at (os ++ ps) (suc k)
behind_head [] ps k h = absurd (omega (arith, h))
behind_head (o ∷ []) ps k h = refl
behind_head (o ∷ q ∷ os) ps k h = absurd (omega (arith, h))

record Own (op : Op) (r : Result (List Bounds) Kind) (b : Bounds) : Type 0 where
  below : List Bounds
  is : r ≡ Ok below
  own : node_bounds op below ≡ Ok b

own_of : (op : Op) (r : Result (List Bounds) Kind) (b : Bounds) → and_then r (node_bounds op) ≡ Ok b → Own op r b
own_of op (Err k) b h = cc
own_of op (Ok bs) b h = record { below = bs; is = refl; own = h }

record Parts (r : Result Bounds Kind) (rs : List (Result Bounds Kind)) (bs : List Bounds) : Type 0 where
  head : Bounds
  tail : List Bounds
  head_is : r ≡ Ok head
  tail_is : all_ok rs ≡ Ok tail
  same : bs ≡ head ∷ tail

parts_of : (r : Result Bounds Kind) (rs : List (Result Bounds Kind)) (bs : List Bounds) → all_ok (r ∷ rs) ≡ Ok bs → Parts r rs bs
parts_of (Err k) rs bs h = cc
parts_of (Ok c) rs bs h = let p = prepended-is c (all_ok rs) bs h in record { head = c; tail = p.0; head_is = refl; tail_is = p.1; same = p.2 }

no_bounds : (bs : List Bounds) → all_ok [] ≡ Ok bs → [] ≡ bs
no_bounds bs h = cc

-- the operator, behind its operands
record Ready (op : Op) (bs : List Bool) (l : Low) : Type 0 where
  formed : AreFormed bs l.items
  inputs : Inputs op (bs ++ kinds_of l.items) l.operands
  spans : AreSpansOrdered l.operands

module _ (op : Op) (mode : Mode) (w : Bounds) (written : Bool) (n : ℕ) (l : Low) where
  abbrev finished_of : Bool → Low
  finished_of t = record {
    items = l.items ++ (own_low_of t op mode w written (n + made l.items) l.operands).items;
    operands = (own_low_of t op mode w written (n + made l.items) l.operands).operands;
  }

  good_node : (bs : List Bool) → length bs ≡ n → IsRange w → Ready op bs l → Good (IsInMode mode) bs (finished_of false)
  good_node bs here r ready =
      let k : ℕ = n + made l.items in
      let cs : List Bool = bs ++ kinds_of l.items in
      let c : Out = node op mode w written k l.operands in
      let m = node_makes cs k (kinds_behind bs n l.items here) w r written l.operands ready.spans op mode ready.inputs in
      record {
        low = record { formed = formed_join bs l.items c.items ready.formed m.formed; terms = (subst (λ (ks : List Bool). IsInMode mode ks c.term) (kinds_in_a_row bs l.items c.items) m.term, tt) };
        spans = (r.ordered, tt);
      }

module _ (ss : List Bounds) (ordered : AreOrdered ss) where
  -- an expression may be lowered in this mode: a set as numbers alone
  abbrev Fits : Mode → Expr → Type 0
  Fits Number e = Unit {0}
  Fits Logic e = is_set e ≡ false
  Fits Stated e = is_set e ≡ false

  -- what is claimed of an expression of these bounds
  record Says (e : Expr) (b : Bounds) : Type 0 where
    small : IsSmall b
    good : (mode : Mode) → Fits mode e → (bs : List Bool) (n : ℕ) → length bs ≡ n → AreIntegers (length ss) bs → Good (IsInMode mode) bs (low_expr ss e mode n)

  abbrev Claim : Expr → Type 0
  Claim e = IsShaped e → HasSpans ss e → (b : Bounds) → bounds ss e ≡ Ok b → Says e b

  span_range : (e : Expr) (b : Bounds) → IsShaped e → HasSpans ss e → bounds ss e ≡ Ok b → IsSmall b → IsRange (span_of ss e)
  span_range e b d s is small = subst IsRange (sym (ap ends is)) (record { ordered = bounds_ordered ss e b ordered d s is; small = small })

  claim-Int : (z : ℤ) → Claim (int_expr z)
  claim-Int z d s b is =
      let e = int_expr z in
      let own : limited (exactly z) ≡ Ok b = sym (bounds-Int ss z) ∙ is in
      let small = limited_small (exactly z) b own in
      record {
        small = small;
        good = λ mode fits bs n here ints.
            subst (Good (IsInMode mode) bs) (sym (low-Int ss e z mode n refl))
            (good_single (IsInMode mode) bs (span_of ss e) (literal mode n z) (span_range e b d s is small).ordered (literal_makes bs n here mode z (written_small (exactly z) b own)));
      }

  claim-Var : (v : ℕ) → Claim (var_expr v)
  claim-Var v d s b is =
      let e = var_expr v in
      let small = limited_small (operand ss v) b (sym (bounds-Var ss v) ∙ is) in
      let below : v < length ss = every-var (HasSpan ss) e v refl s in
      record {
        small = small;
        good = λ mode fits bs n here ints.
            subst (Good (IsInMode mode) bs) (sym (low-Var ss e v mode n refl))
            (good_single (IsInMode mode) bs (span_of ss e) (variable mode n v) (span_range e b d s is small).ordered (variable_makes bs n here mode v (ints v below)));
      }

  -- operands

  abbrev AllSay : List Expr → List Bounds → Type 0
  AllSay [] [] = Unit {0}
  AllSay [] (b ∷ bs) = ⊥
  AllSay (e ∷ es) [] = ⊥
  AllSay (e ∷ es) (b ∷ bs) = Says e b × AllSay es bs

  all_small : (es : List Expr) (bs : List Bounds) → AllSay es bs → AllByRecursion IsSmall bs
  all_small [] [] h = tt
  all_small [] (b ∷ bs) h = absurd h
  all_small (e ∷ es) [] h = absurd h
  all_small (e ∷ es) (b ∷ bs) h = (h.0.small, all_small es bs h.1)

  number_fits : (es : List Expr) → AllByRecursion (Fits Number) es
  number_fits [] = tt
  number_fits (e ∷ es) = (tt, number_fits es)

  logic_fits : (es : List Expr) → AreNoSets es → AllByRecursion (Fits Logic) es
  logic_fits [] h = tt
  logic_fits (e ∷ es) h = (h.0, logic_fits es h.1)

  stated_fits : (es : List Expr) → AreNoSets es → AllByRecursion (Fits Stated) es
  stated_fits [] h = tt
  stated_fits (e ∷ es) h = (h.0, stated_fits es h.1)

  one_operand : (e : Expr) → is_set e ≡ false → (mode : Mode) (n : ℕ) → length (low_expr ss e mode n).operands ≡ 1
  one_operand e plain mode n = ap length (alone ss e plain mode n).is

  as_many : (op : Op) (mode : Mode) (k n : ℕ) (es : List Expr) → AreNoSets es → length (low_operands ss op mode k n es).operands ≡ length es
  as_many op mode k n [] h = refl
  as_many op mode k n (e ∷ es) h =
      let l = low_expr ss e (operand_mode op mode k) n in
      let rest = low_operands ss op mode (k + 1) (n + made l.items) es in
      omega (arith, length-append l.operands rest.operands, one_operand e h.0 (operand_mode op mode k) n, as_many op mode (k + 1) (n + made l.items) es h.1)

  -- operands from place k on, all in one mode
  below : (es : List Expr) (cs : List Bounds) → AllSay es cs → (op : Op) (mode m : Mode) (k n : ℕ) → ((j : ℕ) → k ≤ j → operand_mode op mode j ≡ m) → AllByRecursion (Fits m) es
      → (bs : List Bool) → length bs ≡ n → AreIntegers (length ss) bs → Good (IsInMode m) bs (low_operands ss op mode k n es)
  below [] [] says op mode m k n all fits bs here ints = record { low = record { formed = tt; terms = tt }; spans = tt }
  below [] (c ∷ cs) says op mode m k n all fits bs here ints = absurd says
  below (e ∷ es) [] says op mode m k n all fits bs here ints = absurd says
  below (e ∷ es) (c ∷ cs) says op mode m k n all fits bs here ints =
      let l = low_expr ss e (operand_mode op mode k) n in
      let ds : List Bool = bs ++ kinds_of l.items in
      let first : Good (IsInMode m) bs l = subst (λ (i : Mode). Good (IsInMode m) bs (low_expr ss e i n)) (sym (all k (omega arith))) (says.0.good m fits.0 bs n here ints) in
      good_join (IsInMode m) (mode_stays m) bs l (low_operands ss op mode (k + 1) (n + made l.items) es) first
      (below es cs says.1 op mode m (k + 1) (n + made l.items) (λ j le. all j (omega (arith, le))) fits.1 ds (kinds_behind bs n l.items here) (integers_kept (length ss) bs ds (keeps_behind bs (kinds_of l.items)) ints))

  numbers_behind : (mode : Mode) (j : ℕ) → 1 ≤ j → operand_mode If mode j ≡ Number
  numbers_behind mode zero le = absurd (omega (arith, le))
  numbers_behind mode (suc j) le = ap (λ (t : Bool). if t then Logic else Number) (ne_eqb (suc j) 0 (λ e. absurd (omega (arith, e))))

  module _ (mode : Mode) (n : ℕ) (bs : List Bool) (here : length bs ≡ n) (ints : AreIntegers (length ss) bs) where
    choice_ready : (es : List Expr) (cs : List Bounds) → AllSay es cs → AreNoSets es → length es ≡ 3 → Ready If bs (low_operands ss If mode 0 n es)
    choice_ready [] cs says plain three = absurd (omega (arith, three))
    choice_ready (e ∷ es) [] says plain three = absurd says
    choice_ready (e ∷ es) (c ∷ cs) says plain three =
        let l = low_expr ss e Logic n in
        let r = low_operands ss If mode 1 (n + made l.items) es in
        let ds : List Bool = bs ++ kinds_of l.items in
        let all : List Bool = bs ++ kinds_of (l.items ++ r.items) in
        let row : ds ++ kinds_of r.items ≡ all = kinds_in_a_row bs l.items r.items in
        let first = says.0.good Logic plain.0 bs n here ints in
        let second : Good IsInteger ds r = below es cs says.1 If mode Number 1 (n + made l.items) (numbers_behind mode) (number_fits es) ds (kinds_behind bs n l.items here) (integers_kept (length ss) bs ds (keeps_behind bs (kinds_of l.items)) ints) in
        let one = one_operand e plain.0 Logic n in
        let test : AllByRecursion (IsLogic all) (terms_of l.operands) =
        subst (λ (ks : List Bool). AllByRecursion (IsLogic ks) (terms_of l.operands)) row (all_stay IsLogic logics_stay ds (ds ++ kinds_of r.items) (terms_of l.operands) (keeps_behind ds (kinds_of r.items)) first.low.terms) in
        let others : AreIntegerTerms all (terms_of r.operands) = subst (λ (ks : List Bool). AreIntegerTerms ks (terms_of r.operands)) row second.low.terms in
        record {
          formed = formed_join bs l.items r.items first.low.formed second.low.formed;
          inputs = (
            head_term (IsLogic all) l.operands r.operands one test,
            subst (IsInteger all) (behind_head l.operands r.operands 0 one) (integer_at all r.operands 0 others),
            subst (IsInteger all) (behind_head l.operands r.operands 1 one) (integer_at all r.operands 1 others),
          );
          spans = all_join (λ (o : Operand). o.span.lo ≤ℤ o.span.hi) l.operands r.operands first.spans second.spans;
        }

    module _ (es : List Expr) (cs : List Bounds) (says : AllSay es cs) where
      numbers : (op : Op) → ((j : ℕ) → operand_mode op mode j ≡ Number) → Good IsInteger bs (low_operands ss op mode 0 n es)
      numbers op all = below es cs says op mode Number 0 n (λ j le. all j) (number_fits es) bs here ints

      logics : (op : Op) → ((j : ℕ) → operand_mode op mode j ≡ Logic) → AreNoSets es → Good IsLogic bs (low_operands ss op mode 0 n es)
      logics op all plain = below es cs says op mode Logic 0 n (λ j le. all j) (logic_fits es plain) bs here ints

  conjuncts : (mode : Mode) (n : ℕ) (bs : List Bool) → length bs ≡ n → AreIntegers (length ss) bs → (es : List Expr) (cs : List Bounds) → AllSay es cs → AreNoSets es → Good IsLogic bs (low_operands ss And mode 0 n es)
  conjuncts Number n bs here ints es cs says plain = logics Number n bs here ints es cs says And (λ j. refl) plain
  conjuncts Logic n bs here ints es cs says plain = logics Logic n bs here ints es cs says And (λ j. refl) plain
  conjuncts Stated n bs here ints es cs says plain = below es cs says And Stated Stated 0 n (λ j le. refl) (stated_fits es plain) bs here ints

  module _ (mode : Mode) (n : ℕ) (bs : List Bool) (here : length bs ≡ n) (ints : AreIntegers (length ss) bs) (es : List Expr) (cs : List Bounds) (says : AllSay es cs) where
    -- what the operator asks of its operands
    ready : (op : Op) → IsCount op (length es) → ArePlaced op es → Ready op bs (low_operands ss op mode 0 n es)
    ready Neg count placed = let g = numbers mode n bs here ints es cs says Neg (λ j. refl) in record { formed = g.low.formed; inputs = g.low.terms; spans = g.spans }
    ready Abs count placed = let g = numbers mode n bs here ints es cs says Abs (λ j. refl) in record { formed = g.low.formed; inputs = g.low.terms; spans = g.spans }
    ready Sqr count placed = let g = numbers mode n bs here ints es cs says Sqr (λ j. refl) in record { formed = g.low.formed; inputs = g.low.terms; spans = g.spans }
    ready Add count placed = let g = numbers mode n bs here ints es cs says Add (λ j. refl) in record { formed = g.low.formed; inputs = g.low.terms; spans = g.spans }
    ready Mul count placed = let g = numbers mode n bs here ints es cs says Mul (λ j. refl) in record { formed = g.low.formed; inputs = g.low.terms; spans = g.spans }
    ready Sub count placed = let g = numbers mode n bs here ints es cs says Sub (λ j. refl) in record { formed = g.low.formed; inputs = g.low.terms; spans = g.spans }
    ready Dist count placed = let g = numbers mode n bs here ints es cs says Dist (λ j. refl) in record { formed = g.low.formed; inputs = g.low.terms; spans = g.spans }
    ready Div count placed = let g = numbers mode n bs here ints es cs says Div (λ j. refl) in record { formed = g.low.formed; inputs = g.low.terms; spans = g.spans }
    ready Mod count placed = let g = numbers mode n bs here ints es cs says Mod (λ j. refl) in record { formed = g.low.formed; inputs = g.low.terms; spans = g.spans }
    ready Pow count placed = let g = numbers mode n bs here ints es cs says Pow (λ j. refl) in record { formed = g.low.formed; inputs = g.low.terms; spans = g.spans }
    ready Min count placed = let g = numbers mode n bs here ints es cs says Min (λ j. refl) in record { formed = g.low.formed; inputs = g.low.terms; spans = g.spans }
    ready Max count placed = let g = numbers mode n bs here ints es cs says Max (λ j. refl) in record { formed = g.low.formed; inputs = g.low.terms; spans = g.spans }
    ready Lt count placed = let g = numbers mode n bs here ints es cs says Lt (λ j. refl) in record { formed = g.low.formed; inputs = g.low.terms; spans = g.spans }
    ready Le count placed = let g = numbers mode n bs here ints es cs says Le (λ j. refl) in record { formed = g.low.formed; inputs = g.low.terms; spans = g.spans }
    ready Gt count placed = let g = numbers mode n bs here ints es cs says Gt (λ j. refl) in record { formed = g.low.formed; inputs = g.low.terms; spans = g.spans }
    ready Ge count placed = let g = numbers mode n bs here ints es cs says Ge (λ j. refl) in record { formed = g.low.formed; inputs = g.low.terms; spans = g.spans }
    ready Ne count placed = let g = numbers mode n bs here ints es cs says Ne (λ j. refl) in record { formed = g.low.formed; inputs = g.low.terms; spans = g.spans }
    ready Eq count placed = let g = numbers mode n bs here ints es cs says Eq (λ j. refl) in record { formed = g.low.formed; inputs = g.low.terms; spans = g.spans }
    ready Set count placed = let g = numbers mode n bs here ints es cs says Set (λ j. refl) in record { formed = g.low.formed; inputs = g.low.terms; spans = g.spans }
    ready In count placed = let g = numbers mode n bs here ints es cs says In (λ j. refl) in record { formed = g.low.formed; inputs = g.low.terms; spans = g.spans }
    ready NotIn count placed = let g = numbers mode n bs here ints es cs says NotIn (λ j. refl) in record { formed = g.low.formed; inputs = g.low.terms; spans = g.spans }
    ready Not count placed = let g = logics mode n bs here ints es cs says Not (λ j. refl) placed in record { formed = g.low.formed; inputs = (g.low.terms, omega (arith, as_many Not mode 0 n es placed, count)); spans = g.spans }
    ready And count placed = let g = conjuncts mode n bs here ints es cs says placed in record { formed = g.low.formed; inputs = g.low.terms; spans = g.spans }
    ready Or count placed = let g = logics mode n bs here ints es cs says Or (λ j. refl) placed in record { formed = g.low.formed; inputs = g.low.terms; spans = g.spans }
    ready Xor count placed = let g = logics mode n bs here ints es cs says Xor (λ j. refl) placed in record { formed = g.low.formed; inputs = g.low.terms; spans = g.spans }
    ready Iff count placed = let g = logics mode n bs here ints es cs says Iff (λ j. refl) placed in record { formed = g.low.formed; inputs = (g.low.terms, omega (arith, as_many Iff mode 0 n es placed, count)); spans = g.spans }
    ready Imp count placed = let g = logics mode n bs here ints es cs says Imp (λ j. refl) placed in record { formed = g.low.formed; inputs = (g.low.terms, omega (arith, as_many Imp mode 0 n es placed, count)); spans = g.spans }
    ready If count placed = choice_ready mode n bs here ints es cs says placed count

  abbrev Pairs : Type 0
  Pairs = List ((e : Expr) × Claim e)

  abbrev firsts : Pairs → List Expr
  firsts ps = map (λ p. p.0) ps

  all_say : (ps : Pairs) (cs : List Bounds) → All IsShaped (firsts ps) → All (HasSpans ss) (firsts ps) → all_ok (map (bounds ss) (firsts ps)) ≡ Ok cs → AllSay (firsts ps) cs
  all_say [] cs d s h = subst (AllSay []) (no_bounds cs h) tt
  all_say (p ∷ ps) cs d s h =
      let parts = parts_of (bounds ss p.0) (map (bounds ss) (firsts ps)) cs h in
      subst (AllSay (p.0 ∷ firsts ps)) (sym parts.same)
      (p.1 (d 0 p.0 (omega arith)) (s 0 p.0 (omega arith)) parts.head parts.head_is, all_say ps parts.tail (All-tail IsShaped p.0 (firsts ps) d) (All-tail (HasSpans ss) p.0 (firsts ps) s) parts.tail_is)

  -- a set is its members
  set_good : (mode : Mode) (w : Bounds) (n : ℕ) (l : Low) (bs : List Bool) → Good IsInteger bs l → Good IsInteger bs (finished_of Set mode w false n l true)
  set_good mode w n l bs g =
      let F : List Item → Type 0 = λ xs. Good IsInteger bs (record { items = xs; operands = l.operands }) in
      subst F (sym (append-nil l.items)) g

  claim-Node : (op : Op) (ps : Pairs) → Claim (node_expr op (firsts ps))
  claim-Node op ps d s b is =
      let es = firsts ps in
      let e = node_expr op es in
      let shape : IsCount op (length es) × ArePlaced op es = every-node HasShape e op es refl d in
      let shapes : All IsShaped es = every-operands HasShape e op es es refl refl d in
      let spans : All (HasSpans ss) es = every-operands (HasSpan ss) e op es es refl refl s in
      let own = own_of op (all_ok (map (bounds ss) es)) b (sym (bounds-Node ss op es) ∙ is) in
      let says = all_say ps own.below shapes spans own.is in
      let small = node_small op own.below b (all_small es own.below says) own.own in
      let w = span_of ss e in
      let range = span_range e b d s is small in
      record {
        small = small;
        good = λ mode fits bs n here ints.
            let l = low_operands ss op mode 0 n es in
            let r = ready mode n bs here ints es own.below says op shape.0 shape.1 in
            subst (Good (IsInMode mode) bs) (sym (low-Node ss e op es mode n refl)) (by op es mode w n l bs here range r (is_set_operator op) refl (sets op es mode fits));
      }
    where
      -- only as numbers is a set lowered
      sets : (op : Op) (es : List Expr) (mode : Mode) → Fits mode (node_expr op es) → is_set_operator op ≡ true → mode ≡ Number
      sets op es Number fits set = refl
      sets op es Logic fits set = clash (is_set_operator op) set (sym (set-Node op es) ∙ fits)
      sets op es Stated fits set = clash (is_set_operator op) set (sym (set-Node op es) ∙ fits)

      members : (op : Op) (bs : List Bool) (l : Low) → is_set_operator op ≡ true → Ready op bs l → Good IsInteger bs l
      members op bs l set r = let q : Ready Set bs l = subst (λ (o : Op). Ready o bs l) (set_only op set) r in record { low = record { formed = q.formed; terms = q.inputs }; spans = q.spans }

      by : (op : Op) (es : List Expr) (mode : Mode) (w : Bounds) (n : ℕ) (l : Low) (bs : List Bool) → length bs ≡ n → IsRange w → Ready op bs l → (t : Bool) → is_set_operator op ≡ t → (is_set_operator op ≡ true → mode ≡ Number)
          → Good (IsInMode mode) bs (finished_of op mode w (has_written es) n l t)
      by op es mode w n l bs here range r false plain only = good_node op mode w (has_written es) n l bs here range r
      by op es mode w n l bs here range r true set only =
          subst (λ (m : Mode). Good (IsInMode m) bs (finished_of op mode w (has_written es) n l true)) (sym (only set)) (set_good mode w n l bs (members op bs l set r))

  at-layer : (y : Expr-F ((e : Expr) × Claim e)) → Claim (roll-Expr (map-Expr ((e : Expr) × Claim e) Expr (λ p. p.0) y))
  at-layer (Expr-F.Int z) = subst Claim (sym (rolls-Int z)) (claim-Int z)
  at-layer (Expr-F.Var v) = subst Claim (sym (rolls-Var v)) (claim-Var v)
  at-layer (Expr-F.Node op ps) = subst Claim (sym (rolls-Node op (firsts ps))) (claim-Node op ps)

  says : (e : Expr) → Claim e
  says = ind-Expr Claim (λ x y is. subst (λ z. Claim (roll-Expr z)) is (at-layer y))

fits_in : (ss : List Bounds) (o : AreOrdered ss) (e : Expr) → is_set e ≡ false → (mode : Mode) → Fits ss o mode e
fits_in ss o e plain Number = tt
fits_in ss o e plain Logic = plain
fits_in ss o e plain Stated = plain

pub expression_formed : ExpressionFormed
expression_formed ss n e b f bs here ints mode = ((says ss f.ordered e f.shaped f.variables b f.bounded).good mode (fits_in ss f.ordered e f.no_set mode) bs n here ints).low

pub intension_formed : IntensionFormed
intension_formed ss n e b f bs here ints = (expression_formed ss n e b f bs here ints Stated).formed
