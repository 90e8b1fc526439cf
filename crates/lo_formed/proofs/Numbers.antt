-- What each operator that gives a number is lowered to is well formed.
use Rattle.std.proofs.Common.{◌≡◌, ℕ, zero, suc, ◌+◌, ◌<◌, ◌≤◌, pos, ◌≤ℤ◌, Bool, List, [], ◌∷◌, ◌++◌, length, map, refl, ap, sym, ◌∙◌, subst, arith}
use Rattle.std.specs.List.{AllByRecursion}
use Rattle.std.proofs.lemmas.Int.{ints}
use Rattle.std.proofs.lemmas.List.{length-append, length-map}
use Rattle.xf_num.specs.Span.{Bounds, sub_ends, mul_ends, pow_ends}
use Rattle.fz_model.specs.declared.builtin.Builtin.TheVariants.{IntAbs, IntTimes, Bool2Int}
use Rattle.fz_model.specs.Limits.{IsSmall, exactly}
use Rattle.fz_model.specs.Sound.{IsRange}
use Rattle.xs_model.specs.declared.expr.Op.{Op}
use Rattle.xs_model.specs.declared.expr.Op.TheVariants.{Neg, Abs, Sqr, Add, Mul, Sub, Dist, Div, Mod, Pow, Min, Max, Lt, Le, Gt, Ge, Ne, Eq, Set, In, NotIn, Not, And, Or, Xor, Iff, Imp, If}
use Rattle.xs_model.specs.Bounds.{truths}
use Rattle.lo_base.specs.Formed.{kinds_of, AreFormed}
use Rattle.lo_base.specs.Item.{Item, made}
use Rattle.lo_base.proofs.Formed.{formed_join, keeps_behind}
use Rattle.lo_emit.specs.declared.term.Term.{Term}
use Rattle.lo_emit.specs.declared.term.Term.TheVariants.{Int, Var}
use Rattle.lo_emit.specs.Emitted.{Out, integer_of_one, integer_of_two, integer_of_sum, integer_of_place, after, standing}
use Rattle.lo_rules.specs.Formed.{IsInteger, IsLogic, AreIntegerTerms, AreLogicTerms, Makes}
use Rattle.lo_rules.proofs.Making.{integer_more, integers_more, all_join, small_one, small_minus_one, small_zero, small_ones, makes_counted, makes_absolute, makes_product, makes_quotient, makes_remainder, makes_least, makes_greatest, makes_sum, makes_place}
use Rattle.lo_rules.proofs.MakingLoops.{kinds_behind, kinds_in_a_row, integers_stay, makes_standing, makes_behind}
use Rattle.lo_terms.specs.declared.term.Operand.{Operand}
use Rattle.lo_terms.specs.Emitted.{kept}
use Rattle.lo_terms.specs.Rules.{terms_of, operand_at, term_at, minus_one, sum_coefficients, difference, distance, product, product_of, powers, steps_to, choice, number_node}
use Rattle.lo_formed.proofs.Ranges.{product_ordered, difference_ordered, power_ordered, kept_range}

-- each operand has bounds with members
abbrev pub AreSpansOrdered : List Operand → Type 0
AreSpansOrdered os = AllByRecursion (λ (o : Operand). o.span.lo ≤ℤ o.span.hi) os

-- what is known of the terms of an operator's operands
abbrev pub Inputs : Op → List Bool → List Operand → Type 0
Inputs Not bs os = AreLogicTerms bs (terms_of os) × (1 ≤ length os)
Inputs Iff bs os = AreLogicTerms bs (terms_of os) × (2 ≤ length os)
Inputs Imp bs os = AreLogicTerms bs (terms_of os) × (2 ≤ length os)
Inputs And bs os = AreLogicTerms bs (terms_of os)
Inputs Or bs os = AreLogicTerms bs (terms_of os)
Inputs Xor bs os = AreLogicTerms bs (terms_of os)
Inputs If bs os = IsLogic bs (term_at os 0) × IsInteger bs (term_at os 1) × IsInteger bs (term_at os 2)
Inputs op bs os = AreIntegerTerms bs (terms_of os)

pub integer_at : (bs : List Bool) (os : List Operand) (k : ℕ) → AreIntegerTerms bs (terms_of os) → IsInteger bs (term_at os k)
integer_at bs [] k h = small_zero
integer_at bs (o ∷ os) zero h = h.0
integer_at bs (o ∷ os) (suc k) h = integer_at bs os k h.1

pub logic_at : (bs : List Bool) (os : List Operand) (k : ℕ) → k < length os → AreLogicTerms bs (terms_of os) → IsLogic bs (term_at os k)
logic_at bs [] k lt h = absurd (omega (arith, lt))
logic_at bs (o ∷ os) zero lt h = h.0
logic_at bs (o ∷ os) (suc k) lt h = logic_at bs os k (omega (arith, lt)) h.1

ordered_at : (os : List Operand) (k : ℕ) → AreSpansOrdered os → (operand_at os k).span.lo ≤ℤ (operand_at os k).span.hi
ordered_at [] k h = omega (arith, ints)
ordered_at (o ∷ os) zero h = h.0
ordered_at (o ∷ os) (suc k) h = ordered_at os k h.1

-- what comes behind well-formed items
pub makes_then : (IsKind : List Bool → Term → Type 0) (bs : List Bool) (xs : List Item) (e : Out) → AreFormed bs xs → Makes IsKind (bs ++ kinds_of xs) e → Makes IsKind bs (record { items = xs ++ e.items; term = e.term })
makes_then IsKind bs xs e f m = record { formed = formed_join bs xs e.items f m.formed; term = subst (λ (ks : List Bool). IsKind ks e.term) (kinds_in_a_row bs xs e.items) m.term }

product_makes : (bs : List Bool) (n : ℕ) → length bs ≡ n → (o : Operand) (os : List Operand) → IsInteger bs o.term → o.span.lo ≤ℤ o.span.hi → AreIntegerTerms bs (terms_of os) → AreSpansOrdered os → Makes IsInteger bs (product n o os)
product_makes bs n here o [] h r g s = makes_standing IsInteger integers_stay bs o.term h
product_makes bs n here o (p ∷ os) h r g s =
    let w : Bounds = kept (mul_ends o.span p.span) in
    let range = kept_range (mul_ends o.span p.span) (product_ordered o.span p.span r s.0) in
    let c : Out = integer_of_two n w IntTimes o.term p.term in
    let cs : List Bool = bs ++ kinds_of c.items in
    let next : Operand = record { term = Var n; span = w } in
    let first = makes_product bs n here w range.ordered range.small o.term p.term h g.0 in
    makes_then IsInteger bs c.items (product (n + 1) next os) first.formed
    (product_makes cs (n + 1) (kinds_behind bs n c.items here) next os first.term range.ordered (integers_more bs cs (keeps_behind bs (kinds_of c.items)) (terms_of os) g.1) s.1)

product_of_makes : (bs : List Bool) (n : ℕ) → length bs ≡ n → (os : List Operand) → AreIntegerTerms bs (terms_of os) → AreSpansOrdered os → Makes IsInteger bs (product_of n os)
product_of_makes bs n here [] g s = makes_standing IsInteger integers_stay bs (Int (pos 0)) small_zero
product_of_makes bs n here (o ∷ os) g s = product_makes bs n here o os g.0 s.0 g.1 s.1

powers_make : (bs : List Bool) (n : ℕ) → length bs ≡ n → (w : Bounds) → w.lo ≤ℤ w.hi → (x so_far : Term) (j left : ℕ) → IsInteger bs x → IsInteger bs so_far → Makes IsInteger bs (powers n w x so_far j left)
powers_make bs n here w o x so_far j zero h g = makes_standing IsInteger integers_stay bs so_far g
powers_make bs n here w o x so_far j (suc left) h g =
    let v : Bounds = kept (pow_ends w j) in
    let range = kept_range (pow_ends w j) (power_ordered w j o) in
    let c : Out = integer_of_two n v IntTimes so_far x in
    let cs : List Bool = bs ++ kinds_of c.items in
    let first = makes_product bs n here v range.ordered range.small so_far x g h in
    makes_then IsInteger bs c.items (powers (n + 1) w x (Var n) (j + 1) left) first.formed
    (powers_make cs (n + 1) (kinds_behind bs n c.items here) w o x (Var n) (j + 1) left (integer_more bs cs (keeps_behind bs (kinds_of c.items)) x h) first.term)

module _ (bs : List Bool) (n : ℕ) (here : length bs ≡ n) where
  number_zero : Makes IsInteger bs (standing (Int (pos 0)))
  number_zero = makes_standing IsInteger integers_stay bs (Int (pos 0)) small_zero

  difference_makes : (w : Bounds) → IsRange w → (x y : Term) → IsInteger bs x → IsInteger bs y → Makes IsInteger bs (difference n w x y)
  difference_makes w r x y h g = makes_sum bs n here w r.ordered r.small (pos 1 ∷ minus_one ∷ minus_one ∷ []) (x ∷ y ∷ []) (pos 0) refl (small_one, (small_minus_one, (small_minus_one, tt))) (h, (g, tt)) small_zero

  distance_makes : (w : Bounds) → IsRange w → (x y : Operand) → x.span.lo ≤ℤ x.span.hi → y.span.lo ≤ℤ y.span.hi → IsInteger bs x.term → IsInteger bs y.term → Makes IsInteger bs (distance n w x y)
  distance_makes w r x y ox oy h g =
      let v : Bounds = kept (sub_ends x.span y.span) in
      let c : Out = difference n v x.term y.term in
      let first = difference_makes v (kept_range (sub_ends x.span y.span) (difference_ordered x.span y.span ox oy)) x.term y.term h g in
      makes_behind IsInteger IsInteger bs n c (λ k d. integer_of_one k w IntAbs d) first
      (makes_absolute (bs ++ kinds_of c.items) (n + made c.items) (kinds_behind bs n c.items here) w r.ordered r.small c.term first.term)

  choice_makes : (w : Bounds) → IsRange w → (g x y : Term) → IsLogic bs g → IsInteger bs x → IsInteger bs y → Makes IsInteger bs (choice n w g x y)
  choice_makes w r g x y hg hx hy =
      let z : Out = integer_of_one n truths Bool2Int g in
      let two : Bounds = record { lo = pos 1; hi = pos 2 } in
      let add : ℕ → Term → Out = λ k t. integer_of_sum k two (pos 1 ∷ pos 1 ∷ []) (t ∷ []) (pos 2) in
      let place : Out = after n z add in
      let first : Makes IsInteger bs z = makes_counted bs n here g hg in
      let small_two : IsSmall two = record { from = omega (arith, ints); to = omega (arith, ints) } in
      let exact_two : IsSmall (exactly (pos 2)) = record { from = omega (arith, ints); to = omega (arith, ints) } in
      let ones = makes_sum (bs ++ kinds_of z.items) (n + made z.items) (kinds_behind bs n z.items here) two (omega (arith, ints)) small_two (pos 1 ∷ pos 1 ∷ []) (z.term ∷ []) (pos 2) refl (small_one, (small_one, tt)) (first.term, tt) exact_two in
      let second : Makes IsInteger bs place = makes_behind IsInteger IsInteger bs n z add first ones in
      let cs : List Bool = bs ++ kinds_of place.items in
      makes_behind IsInteger IsInteger bs n place (λ k t. integer_of_place k w t (x ∷ y ∷ [])) second
      (makes_place cs (n + made place.items) (kinds_behind bs n place.items here) w r.ordered r.small place.term (x ∷ y ∷ []) second.term (integers_more bs cs (keeps_behind bs (kinds_of place.items)) (x ∷ y ∷ []) (hx, (hy, tt))))

  sum_makes : (w : Bounds) → IsRange w → (os : List Operand) → AreIntegerTerms bs (terms_of os) → Makes IsInteger bs (integer_of_sum n w (sum_coefficients os) (terms_of os) (pos 0))
  sum_makes w r os h =
      makes_sum bs n here w r.ordered r.small (sum_coefficients os) (terms_of os) (pos 0)
      (length-append (map (λ (o : Operand). pos 1) os) (minus_one ∷ []) ∙ ap (λ k. k + 1) (length-map os (λ (o : Operand). pos 1) ∙ sym (length-map os (λ (o : Operand). o.term))))
      (all_join (λ z. IsSmall (exactly z)) (map (λ (o : Operand). pos 1) os) (minus_one ∷ []) (small_ones os) (small_minus_one, tt)) h small_zero

  module _ (w : Bounds) (r : IsRange w) (os : List Operand) (spans : AreSpansOrdered os) where
    pub number_makes : (op : Op) → Inputs op bs os → Makes IsInteger bs (number_node op w n os)
    number_makes Neg h = makes_sum bs n here w r.ordered r.small (pos 1 ∷ pos 1 ∷ []) (term_at os 0 ∷ []) (pos 0) refl (small_one, (small_one, tt)) (integer_at bs os 0 h, tt) small_zero
    number_makes Abs h = makes_absolute bs n here w r.ordered r.small (term_at os 0) (integer_at bs os 0 h)
    number_makes Sqr h = makes_product bs n here w r.ordered r.small (term_at os 0) (term_at os 0) (integer_at bs os 0 h) (integer_at bs os 0 h)
    number_makes Add h = sum_makes w r os h
    number_makes Mul h = product_of_makes bs n here os h spans
    number_makes Sub h = difference_makes w r (term_at os 0) (term_at os 1) (integer_at bs os 0 h) (integer_at bs os 1 h)
    number_makes Dist h = distance_makes w r (operand_at os 0) (operand_at os 1) (ordered_at os 0 spans) (ordered_at os 1 spans) (integer_at bs os 0 h) (integer_at bs os 1 h)
    number_makes Div h = makes_quotient bs n here w r.ordered r.small (term_at os 0) (term_at os 1) (integer_at bs os 0 h) (integer_at bs os 1 h)
    number_makes Mod h = makes_remainder bs n here w r.ordered r.small (term_at os 0) (term_at os 1) (integer_at bs os 0 h) (integer_at bs os 1 h)
    number_makes Pow h = powers_make bs n here (operand_at os 0).span (ordered_at os 0 spans) (term_at os 0) (term_at os 0) 2 (steps_to (term_at os 1)) (integer_at bs os 0 h) (integer_at bs os 0 h)
    number_makes Min h = makes_least bs n here w r.ordered r.small (terms_of os) h
    number_makes Max h = makes_greatest bs n here w r.ordered r.small (terms_of os) h
    number_makes Lt h = number_zero
    number_makes Le h = number_zero
    number_makes Gt h = number_zero
    number_makes Ge h = number_zero
    number_makes Ne h = number_zero
    number_makes Eq h = number_zero
    number_makes Set h = number_zero
    number_makes In h = number_zero
    number_makes NotIn h = number_zero
    number_makes Not h = number_zero
    number_makes And h = number_zero
    number_makes Or h = number_zero
    number_makes Xor h = number_zero
    number_makes Iff h = number_zero
    number_makes Imp h = number_zero
    number_makes If h = choice_makes w r (term_at os 0) (term_at os 1) (term_at os 2) h.0 h.1 h.2
