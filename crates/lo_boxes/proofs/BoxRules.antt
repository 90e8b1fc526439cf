-- The judgement of the items of boxes.
use Rattle.std.proofs.Common.{◌≡◌, ℕ, ◌+◌, ◌*◌, ◌<◌, ◌≤◌, ℤ, pos, Bool, true, false, cond, List, [], ◌∷◌, ◌++◌, length, map, refl, ap, ap₂, sym, ◌∙◌, arith}
use Rattle.std.specs.List.{AllByRecursion, list_any}
use Rattle.std.proofs.lemmas.List.{append-nil, length-append, map-append}
use Rattle.std.proofs.lemmas.List.Elements.{filter-append}
use Rattle.fz_model.specs.Meaning.{truth, is_one, clause}
use Rattle.lo_base.specs.Item.{Posted, made}
use Rattle.lo_boxes.specs.Boxes.{sides, gaps, ends_before, separations, apart, variables_in, is_zero, asked, zero_truths, is_kept, place, place_step, all_apart}
use Rattle.lo_boxes.specs.declared.placed.Placed.{Placed}
use Rattle.lo_boxes.specs.declared.placed.Side.{Side}
use Rattle.lo_boxes.proofs.BoxValues.{ones, terms_in, ends, zero_is, zeros_are, seen, meant, told, IsTold, kept}
use Rattle.lo_boxes.proofs.Shared.{or_false, map_twice}
use Rattle.lo_emit.specs.Conditions.{term_of}
use Rattle.lo_emit.specs.declared.term.Term.{Term}
use Rattle.lo_emit.specs.declared.term.Term.TheVariants.{Int, Var}
use Rattle.lo_emit.specs.Emitted.{Outs, clause as clause_call}
use Rattle.lo_emit.specs.Loops.{for_pairs, Step, in_turn, Pairwise}
use Rattle.lo_rules.specs.Rule.{num, Before, AllBefore, Always, Rule, YieldsAll}
use Rattle.lo_rules.proofs.Atoms.{rule_none}
use Rattle.lo_rules.proofs.Chains.{states_behind_all}
use Rattle.lo_rules.proofs.Linear.{all_before_join}
use Rattle.lo_rules.proofs.LiteralRules.{all_more}
use Rattle.lo_rules.proofs.Loops.{yields_each, rules_for_pairs, kept_in_turn, gives_in_turn}
use Rattle.lo_rules.proofs.Pairs.{each_long}
use Rattle.lo_rules.proofs.Rules.{rules_join, rule_as}
use Rattle.lo_rules.proofs.Terms.{before_more, all_before_more, rule_clause, yields_eq}
use Rattle.lo_rules.proofs.Values.{yields_at_most}
use Rattle.xs_laws.specs.Boxes.{TermBox}
use Rattle.xs_model.specs.declared.term.Term.{Term as Operand}
use Rattle.xs_model.specs.declared.term.Term.TheVariants as operand
use Rattle.xs_model.specs.Fields.{Variable, item_of}
use Rattle.xs_model.specs.Formed.{IsFormedItem}

-- a box over variables below m, with d dimensions
pub record Fits (m d : ℕ) (x : TermBox) : Type 0 where
  pub origin : AllByRecursion (IsFormedItem m) (map Variable x.origin)
  pub lengths : AllByRecursion (IsFormedItem m) (map item_of x.lengths)
  pub wide : length x.origin ≡ d
  pub long : length x.lengths ≡ d

-- which variables the terms name

abbrev IsSideBefore : ℕ → Side → Type 0
IsSideBefore n s = Before n s.origin × Before n s.extent

abbrev IsGapBefore : ℕ → Side × Term → Type 0
IsGapBefore n g = AllBefore n (terms_in g)

-- a box of at most d sides and zeros, of variables before n
pub record IsReady (d n : ℕ) (p : Placed) : Type 0 where
  pub sides : AllByRecursion (IsSideBefore n) p.sides
  pub zeros : AllBefore n p.zeros
  pub narrow : length p.sides ≤ d
  pub few : length p.zeros ≤ d

sides_more : (n k : ℕ) → n ≤ k → (ss : List Side) → AllByRecursion (IsSideBefore n) ss → AllByRecursion (IsSideBefore k) ss
sides_more n k le [] h = tt
sides_more n k le (s ∷ ss) h = ((before_more n k s.origin le h.0.0, before_more n k s.extent le h.0.1), sides_more n k le ss h.1)

ready_more : (d n k : ℕ) → n ≤ k → (ps : List Placed) → AllByRecursion (IsReady d n) ps → AllByRecursion (IsReady d k) ps
ready_more d n k le [] h = tt
ready_more d n k le (p ∷ ps) h =
    (record { sides = sides_more n k le p.sides h.0.sides; zeros = all_before_more n k p.zeros le h.0.zeros; narrow = h.0.narrow; few = h.0.few }, ready_more d n k le ps h.1)

gaps_before : (n : ℕ) (ss ts : List Side) → AllByRecursion (IsSideBefore n) ss → AllByRecursion (IsSideBefore n) ts → AllByRecursion (IsGapBefore n) (gaps ss ts)
gaps_before n [] ts h k = tt
gaps_before n (s ∷ ss) [] h k = tt
gaps_before n (s ∷ ss) (t ∷ ts) h k = ((h.0.0, (h.0.1, (k.0.0, tt))), ((k.0.0, (k.0.1, (h.0.0, tt))), gaps_before n ss ts h.1 k.1))

gaps_few : (ss ts : List Side) → length (gaps ss ts) ≤ 2 * length ss
gaps_few [] ts = omega arith
gaps_few (s ∷ ss) [] = omega arith
gaps_few (s ∷ ss) (t ∷ ts) = let rest = gaps_few ss ts in omega (arith, rest)

-- two boxes

room_for_pair : (d g s z w c : ℕ) → g ≤ 2 * s → s ≤ d → z ≤ d → w ≤ d → c ≡ g + (z + w) → g * 9 + (c + 0) ≤ 22 * d
room_for_pair d g s z w c few narrow hz hw e = omega (arith, few, narrow, hz, hw, e)

pub pair_rule : (W D : List ℤ → Type 0) (d n k : ℕ) (p q : Placed) → n ≤ k → IsReady d n p → IsReady d n q → Rule W D k (apart k p q) (22 * d) Always (λ b. IsTold b (seen b p) (seen b q))
pair_rule W D d n k p q le hp hq =
    let gs : List (Side × Term) = gaps p.sides q.sides in
    let c : Outs = separations k p.sides q.sides in
    let zs : List Term = p.zeros ++ q.zeros in
    let V : List ℤ → List ℤ = λ b. map (λ g. truth (ends b g)) gs in
    let G : List ℤ → Type 0 = λ b. map (num b) c.terms ≡ V b in
    let P : List ℤ → Type 0 = λ b. clause (map (num b) (c.terms ++ zs)) [] ≡ true in
    let truths : YieldsAll W D k c (length gs * 9) V =
    yields_each W D (IsGapBefore n) n 9 ends_before (λ b g. truth (ends b g)) (λ j g ge h. yields_at_most W D j ones (terms_in g) (pos 0) (all_before_more n j (terms_in g) ge h)) k gs le (gaps_before n p.sides q.sides hp.sides hq.sides) in
    let after : k ≤ k + made c.items = omega arith in
    let behind : n ≤ k + made c.items = omega (arith, le) in
    let known : AllBefore (k + made c.items) (c.terms ++ zs) =
    all_before_join (k + made c.items) c.terms zs truths.before
    (all_before_join (k + made c.items) p.zeros q.zeros (all_before_more n (k + made c.items) p.zeros behind hp.zeros) (all_before_more n (k + made c.items) q.zeros behind hq.zeros)) in
    let is : (b : List ℤ) → G b → clause (map (num b) (c.terms ++ zs)) [] ≡ list_any is_one (told b (seen b p) (seen b q)) =
    λ b g. or_false (list_any is_one (map (num b) (c.terms ++ zs)))
    ∙ ap (list_any is_one) (map-append (num b) c.terms zs ∙ ap₂ (λ (us vs : List ℤ). us ++ vs) g (map-append (num b) p.zeros q.zeros)) in
    let many : length c.terms ≡ length gs = each_long ends_before k gs in
    let whole : length (c.terms ++ zs) ≡ length gs + (length p.zeros + length q.zeros) = length-append c.terms zs ∙ ap₂ (λ (x y : ℕ). x + y) many (length-append p.zeros q.zeros) in
    rule_as W D D G Always P (λ b. IsTold b (seen b p) (seen b q)) k (apart k p q) (length gs * 9 + (length (c.terms ++ zs) + 0)) (22 * d) (λ b x. x) (λ b x g. tt) (λ b x g h. sym (is b g) ∙ h) (λ b y x g h. is b g ∙ h)
    (room_for_pair d (length gs) (length p.sides) (length p.zeros) (length q.zeros) (length (c.terms ++ zs)) (gaps_few p.sides q.sides) hp.narrow hp.few hq.few whole)
    (states_behind_all W D k V P c (Posted (clause_call (c.terms ++ zs) []) ∷ []) (length gs * 9) (length (c.terms ++ zs) + 0) truths (rule_clause W (λ b. D b × G b) (k + made c.items) (c.terms ++ zs) [] known tt))

-- one box

sides_before : (m n : ℕ) → m ≤ n → (os : List ℕ) (ls : List Operand) → AllByRecursion (IsFormedItem m) (map Variable os) → AllByRecursion (IsFormedItem m) (map item_of ls) → AllByRecursion (IsSideBefore n) (sides os ls)
sides_before m n le [] ls h k = tt
sides_before m n le (o ∷ os) [] h k = tt
sides_before m n le (o ∷ os) (l ∷ ls) h k = ((omega (arith, le, h.0), operand_before l k.0), sides_before m n le os ls h.1 k.1)
  where
    operand_before : (t : Operand) → IsFormedItem m (item_of t) → Before n (term_of t)
    operand_before (operand.Int z) g = tt
    operand_before (operand.Var v) g = omega (arith, le, g)

sides_few : (os : List ℕ) (ls : List Operand) → length (sides os ls) ≤ length os
sides_few [] ls = omega arith
sides_few (o ∷ os) [] = omega arith
sides_few (o ∷ os) (l ∷ ls) = let rest = sides_few os ls in omega (arith, rest)

variables_few : (ls : List Operand) → length (variables_in ls) ≤ length ls
variables_few [] = omega arith
variables_few (operand.Int z ∷ ls) = let rest = variables_few ls in omega (arith, rest)
variables_few (operand.Var v ∷ ls) = let rest = variables_few ls in omega (arith, rest)

asked_few : (ignored : Bool) (ls : List Operand) → length (asked ignored ls) ≤ length ls
asked_few true ls = variables_few ls
asked_few false ls = omega arith

variables_below : (m : ℕ) (ls : List Operand) → AllByRecursion (IsFormedItem m) (map item_of ls) → AllByRecursion (λ v. v < m) (variables_in ls)
variables_below m [] h = tt
variables_below m (operand.Int z ∷ ls) h = variables_below m ls h.1
variables_below m (operand.Var v ∷ ls) h = (h.0, variables_below m ls h.1)

pub asked_below : (m : ℕ) (ignored : Bool) (ls : List Operand) → AllByRecursion (IsFormedItem m) (map item_of ls) → AllByRecursion (λ v. v < m) (asked ignored ls)
asked_below m true ls h = variables_below m ls h
asked_below m false ls h = tt

zeros_rule : (W D : List ℤ → Type 0) (m n : ℕ) (ignored : Bool) (ls : List Operand) → m ≤ n → AllByRecursion (IsFormedItem m) (map item_of ls)
    → YieldsAll W D n (zero_truths ignored n ls) (length (asked ignored ls) * 4) (λ b. map (λ v. truth (zero_is b v)) (asked ignored ls))
zeros_rule W D m n ignored ls le h =
    yields_each W D (λ v. v < m) m 4 is_zero (λ b v. truth (zero_is b v)) (λ k v ge lt. yields_eq W D k (Var v) (Int (pos 0)) (omega (arith, ge, lt)) tt) n (asked ignored ls) le (asked_below m ignored ls h)

-- the boxes so far

abbrev pub IsSoFar : ℕ → ℕ → List TermBox → List Placed → Type 0
IsSoFar d n done all = AllByRecursion (IsReady d n) all × (length all ≤ length done)

abbrev pub AreMeant : Bool → List TermBox → List Placed → List ℤ → Type 0
AreMeant ignored done all b = map (seen b) all ≡ map (meant ignored b) (kept ignored done)

-- one more box is kept, or is not
kept_more : (ignored : Bool) (done : List TermBox) (x : TermBox) → is_kept ignored x.lengths ≡ true → kept ignored (done ++ x ∷ []) ≡ kept ignored done ++ x ∷ []
kept_more ignored done x e = filter-append (λ b. is_kept ignored b.lengths) done (x ∷ []) ∙ ap (λ (t : Bool). kept ignored done ++ cond t (x ∷ []) []) e

kept_as : (ignored : Bool) (done : List TermBox) (x : TermBox) → is_kept ignored x.lengths ≡ false → kept ignored (done ++ x ∷ []) ≡ kept ignored done
kept_as ignored done x e = filter-append (λ b. is_kept ignored b.lengths) done (x ∷ []) ∙ ap (λ (t : Bool). kept ignored done ++ cond t (x ∷ []) []) e ∙ append-nil (kept ignored done)

module _ (m d : ℕ) (ignored : Bool) where
  place_ready : (n : ℕ) (done : List TermBox) (all : List Placed) (x : TermBox) (t : Bool) → m ≤ n → IsSoFar d n done all → Fits m d x
      → IsSoFar d (n + made (place t ignored n all x).items) (done ++ x ∷ []) (place t ignored n all x).state
  place_ready n done all x false le h fits = (ready_more d n (n + 0) (omega arith) all h.0, omega (arith, h.1, length-append done (x ∷ [])))
  place_ready n done all x true le h fits =
      let c : Outs = zero_truths ignored n x.lengths in
      let k : ℕ = n + made c.items in
      let p : Placed = record { sides = sides x.origin x.lengths; zeros = c.terms } in
      let many : length c.terms ≡ length (asked ignored x.lengths) = each_long is_zero n (asked ignored x.lengths) in
      let zeros = zeros_rule Always Always m n ignored x.lengths le fits.lengths in
      let one : IsReady d k p = record {
        sides = sides_before m k (omega (arith, le)) x.origin x.lengths fits.origin fits.lengths;
        zeros = zeros.before;
        narrow = omega (arith, sides_few x.origin x.lengths, fits.wide);
        few = omega (arith, many, asked_few ignored x.lengths, fits.long);
      } in
      (all_more (IsReady d k) all p (ready_more d n k (omega arith) all h.0) one, omega (arith, h.1, length-append all (p ∷ []), length-append done (x ∷ [])))

  place_rule : (W D : List ℤ → Type 0) (n : ℕ) (done : List TermBox) (all : List Placed) (x : TermBox) (t : Bool) → is_kept ignored x.lengths ≡ t → m ≤ n → Fits m d x
      → Rule W (λ b. D b × AreMeant ignored done all b) n (place t ignored n all x).items (d * 4) (λ b. AreMeant ignored (done ++ x ∷ []) (place t ignored n all x).state b) Always
  place_rule W D n done all x false is le fits =
      rule_none W (λ b. D b × AreMeant ignored done all b) (λ b. AreMeant ignored (done ++ x ∷ []) all b) n (d * 4) (λ b e. e.1 ∙ ap (map (meant ignored b)) (sym (kept_as ignored done x is)))
  place_rule W D n done all x true is le fits =
      let E : List ℤ → Type 0 = λ b. D b × AreMeant ignored done all b in
      let c : Outs = zero_truths ignored n x.lengths in
      let vs : List ℕ = asked ignored x.lengths in
      let ss : List Side = sides x.origin x.lengths in
      let p : Placed = record { sides = ss; zeros = c.terms } in
      let G : List ℤ → Type 0 = λ b. map (num b) c.terms ≡ map (λ v. truth (zero_is b v)) vs in
      let one : (b : List ℤ) → G b → seen b p ≡ meant ignored b x =
      λ b g. ap (λ (zs : List ℤ). (ss, zs)) (g ∙ map_twice truth (zero_is b) vs ∙ ap (map truth) (zeros_are b ignored x.lengths)) in
      rule_as W E E G (λ b. AreMeant ignored (done ++ x ∷ []) (all ++ p ∷ []) b) Always Always n c.items (length vs * 4) (d * 4) (λ b e. e)
      (λ b e g. map-append (seen b) all (p ∷ []) ∙ ap₂ (λ (us : List (List Side × List ℤ)) (u : List Side × List ℤ). us ++ u ∷ []) e.1 (one b g) ∙ sym (map-append (meant ignored b) (kept ignored done) (x ∷ []))
      ∙ ap (map (meant ignored b)) (sym (kept_more ignored done x is))) (λ b e g h. tt) (λ b y e g h. tt) (omega (arith, asked_few ignored x.lengths, fits.long)) (zeros_rule W E m n ignored x.lengths le fits.lengths).rule

  -- all boxes

  module _ (n : ℕ) (xs : List TermBox) (le : m ≤ n) (fits : AllByRecursion (Fits m d) xs) where
    abbrev boxes : Step (List Placed)
    boxes = in_turn (place_step ignored) n [] xs

    boxes_ready : IsSoFar d (n + made boxes.items) xs boxes.state
    boxes_ready = kept_in_turn (Fits m d) (IsSoFar d) (place_step ignored) m (λ k done all x ge h q. place_ready k done all x (is_kept ignored x.lengths) ge h q) n [] [] xs le (tt, omega arith) fits

    pub boxes_rule : (W D : List ℤ → Type 0)
        → Rule W D n (all_apart n boxes) (length xs * (d * 4) + (length boxes.state * length boxes.state) * (22 * d)) (λ b. AreMeant ignored xs boxes.state b) (λ b. Pairwise (λ p q. IsTold b (seen b p) (seen b q)) boxes.state)
    boxes_rule W D =
        let G : List ℤ → Type 0 = λ b. AreMeant ignored xs boxes.state b in
        let P : List ℤ → Type 0 = λ b. Pairwise (λ p q. IsTold b (seen b p) (seen b q)) boxes.state in
        let k : ℕ = n + made boxes.items in
        let w : ℕ = length xs * (d * 4) in
        let u : ℕ = (length boxes.state * length boxes.state) * (22 * d) in
        let first : Rule W D n boxes.items w G Always =
        gives_in_turn W D (Fits m d) (IsSoFar d) (AreMeant ignored) (place_step ignored) m (d * 4) (λ j done all x ge h q. place_ready j done all x (is_kept ignored x.lengths) ge h q)
        (λ j done all x ge so q. place_rule W D j done all x (is_kept ignored x.lengths) refl ge q) n [] xs le (tt, omega arith) (λ b x. refl) fits in
        let second : Rule W (λ b. D b × G b) k (for_pairs apart k boxes.state) u Always P =
        rules_for_pairs W (λ b. D b × G b) (IsReady d k) k (22 * d) apart (λ b p q. IsTold b (seen b p) (seen b q)) (λ j p q ge hp hq. pair_rule W (λ b. D b × G b) d k j p q ge hp hq) k boxes.state (omega arith) boxes_ready.0 in
        rule_as W D D (λ b. G b × Always b) G (λ b. Always b × P b) P n (all_apart n boxes) (w + u) (w + u) (λ b x. x) (λ b x g. g.0) (λ b x g h. h.1) (λ b y x g h. (tt, h)) (omega arith)
        (rules_join W D G Always Always P n boxes.items (for_pairs apart k boxes.state) w u first second)

    pub boxes_many : length boxes.state ≤ length xs
    boxes_many = boxes_ready.1
