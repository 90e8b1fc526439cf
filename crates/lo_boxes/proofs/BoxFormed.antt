-- Well-formed items of boxes.
use Rattle.std.proofs.Common.{◌≡◌, ℕ, ◌+◌, ◌<◌, pos, Bool, true, false, List, [], ◌∷◌, ◌++◌, length, map, refl}
use Rattle.std.specs.List.{AllByRecursion}
use Rattle.lo_base.specs.Formed.{kinds_of, AreFormed, AreIntegers, Keeps}
use Rattle.lo_base.specs.Item.{Posted, made}
use Rattle.lo_base.proofs.Formed.{formed_join, keeps_behind, integers_kept}
use Rattle.lo_boxes.specs.Boxes.{sides, gaps, ends_before, separations, apart, is_zero, asked, zero_truths, is_kept, place, place_step, all_apart}
use Rattle.lo_boxes.specs.declared.placed.Placed.{Placed}
use Rattle.lo_boxes.specs.declared.placed.Side.{Side}
use Rattle.lo_boxes.proofs.BoxRules.{Fits, asked_below}
use Rattle.lo_boxes.proofs.BoxValues.{ones, terms_in}
use Rattle.lo_boxes.proofs.Shared.{small_integer}
use Rattle.lo_emit.specs.Conditions.{term_of}
use Rattle.lo_emit.specs.declared.term.Term.{Term}
use Rattle.lo_emit.specs.declared.term.Term.TheVariants.{Int, Var}
use Rattle.lo_emit.specs.Emitted.{Outs, clause as clause_call}
use Rattle.lo_emit.specs.Loops.{for_pairs, Step, in_turn}
use Rattle.lo_rules.specs.Formed.{IsInteger, IsLogic, AreIntegerTerms, AreLogicTerms}
use Rattle.lo_rules.proofs.LiteralRules.{all_more}
use Rattle.lo_rules.proofs.Making.{integer_more, integers_more, logics_more, all_join, formed_clause, makes_at_most, makes_eq, small_one, small_minus_one, small_zero}
use Rattle.lo_rules.proofs.MakingLoops.{formed_each, formed_for_pairs, formed_in_turn, kinds_behind, logics_stay}
use Rattle.xs_laws.specs.Boxes.{TermBox}
use Rattle.xs_model.specs.declared.term.Term.{Term as Operand}
use Rattle.xs_model.specs.declared.term.Term.TheVariants as operand
use Rattle.xs_model.specs.Fields.{Variable, item_of}
use Rattle.xs_model.specs.Formed.{IsFormedItem}

abbrev IsSideFormed : List Bool → Side → Type 0
IsSideFormed bs s = IsInteger bs s.origin × IsInteger bs s.extent

abbrev IsGapFormed : List Bool → Side × Term → Type 0
IsGapFormed bs g = AreIntegerTerms bs (terms_in g)

-- behind variables of these kinds, the sides of a box are integers, and its zeros truth values
pub record IsBoxFormed (bs : List Bool) (p : Placed) : Type 0 where
  pub sides : AllByRecursion (IsSideFormed bs) p.sides
  pub zeros : AreLogicTerms bs p.zeros

sides_stay : (bs cs : List Bool) → Keeps bs cs → (ss : List Side) → AllByRecursion (IsSideFormed bs) ss → AllByRecursion (IsSideFormed cs) ss
sides_stay bs cs keeps [] h = tt
sides_stay bs cs keeps (s ∷ ss) h = ((integer_more bs cs keeps s.origin h.0.0, integer_more bs cs keeps s.extent h.0.1), sides_stay bs cs keeps ss h.1)

box_stays : (bs cs : List Bool) → Keeps bs cs → (p : Placed) → IsBoxFormed bs p → IsBoxFormed cs p
box_stays bs cs keeps p h = record { sides = sides_stay bs cs keeps p.sides h.sides; zeros = logics_more bs cs keeps p.zeros h.zeros }

boxes_stay : (bs cs : List Bool) → Keeps bs cs → (ps : List Placed) → AllByRecursion (IsBoxFormed bs) ps → AllByRecursion (IsBoxFormed cs) ps
boxes_stay bs cs keeps [] h = tt
boxes_stay bs cs keeps (p ∷ ps) h = (box_stays bs cs keeps p h.0, boxes_stay bs cs keeps ps h.1)

sides_formed : (m : ℕ) (bs : List Bool) → AreIntegers m bs → (os : List ℕ) (ls : List Operand) → AllByRecursion (IsFormedItem m) (map Variable os) → AllByRecursion (IsFormedItem m) (map item_of ls)
    → AllByRecursion (IsSideFormed bs) (sides os ls)
sides_formed m bs kinds [] ls h k = tt
sides_formed m bs kinds (o ∷ os) [] h k = tt
sides_formed m bs kinds (o ∷ os) (l ∷ ls) h k = ((kinds o h.0, operand_formed l k.0), sides_formed m bs kinds os ls h.1 k.1)
  where
    operand_formed : (t : Operand) → IsFormedItem m (item_of t) → IsInteger bs (term_of t)
    operand_formed (operand.Int z) g = small_integer z g
    operand_formed (operand.Var v) g = kinds v g

gaps_formed : (bs : List Bool) (ss ts : List Side) → AllByRecursion (IsSideFormed bs) ss → AllByRecursion (IsSideFormed bs) ts → AllByRecursion (IsGapFormed bs) (gaps ss ts)
gaps_formed bs [] ts h k = tt
gaps_formed bs (s ∷ ss) [] h k = tt
gaps_formed bs (s ∷ ss) (t ∷ ts) h k = ((h.0.0, (h.0.1, (k.0.0, tt))), ((k.0.0, (k.0.1, (h.0.0, tt))), gaps_formed bs ss ts h.1 k.1))

pub pair_formed : (bs : List Bool) (n : ℕ) (p q : Placed) → length bs ≡ n → IsBoxFormed bs p → IsBoxFormed bs q → AreFormed bs (apart n p q)
pair_formed bs n p q here hp hq =
    let gs : List (Side × Term) = gaps p.sides q.sides in
    let c : Outs = separations n p.sides q.sides in
    let cs : List Bool = bs ++ kinds_of c.items in
    let zs : List Term = p.zeros ++ q.zeros in
    let keeps : Keeps bs cs = keeps_behind bs (kinds_of c.items) in
    let all =
    formed_each bs (IsGapFormed bs) IsLogic logics_stay ends_before
    (λ k ds g long stays h. makes_at_most ds k long ones (terms_in g) (pos 0) refl (small_one, (small_one, (small_minus_one, tt))) (integers_more bs ds stays (terms_in g) h) small_zero) n bs gs here (λ v t e. e)
    (gaps_formed bs p.sides q.sides hp.sides hq.sides) in
    formed_join bs c.items (Posted (clause_call (c.terms ++ zs) []) ∷ []) all.formed (
      formed_clause cs (c.terms ++ zs) []
          (all_join (IsLogic cs) c.terms zs all.terms (all_join (IsLogic cs) p.zeros q.zeros (logics_more bs cs keeps p.zeros hp.zeros) (logics_more bs cs keeps q.zeros hq.zeros))) tt,
      tt,
    )

module _ (m d : ℕ) (ignored : Bool) (base : List Bool) (integers : AreIntegers m base) where
  step_formed : (n : ℕ) (bs : List Bool) (all : List Placed) (x : TermBox) (t : Bool) → length bs ≡ n → Keeps base bs → AllByRecursion (IsBoxFormed bs) all → Fits m d x
      → AreFormed bs (place t ignored n all x).items × AllByRecursion (IsBoxFormed (bs ++ kinds_of (place t ignored n all x).items)) (place t ignored n all x).state
  step_formed n bs all x false here keeps h fits = (tt, boxes_stay bs (bs ++ []) (keeps_behind bs []) all h)
  step_formed n bs all x true here keeps h fits =
      let c : Outs = zero_truths ignored n x.lengths in
      let cs : List Bool = bs ++ kinds_of c.items in
      let p : Placed = record { sides = sides x.origin x.lengths; zeros = c.terms } in
      let kinds : AreIntegers m bs = integers_kept m base bs keeps integers in
      let stays : Keeps bs cs = keeps_behind bs (kinds_of c.items) in
      let zeros =
      formed_each bs (λ v. v < m) IsLogic logics_stay is_zero (λ k ds v long more lt. makes_eq ds k long (Var v) (Int (pos 0)) (more v false (kinds v lt)) small_zero) n bs (asked ignored x.lengths) here (λ v t e. e)
      (asked_below m ignored x.lengths fits.lengths) in
      (zeros.formed, all_more (IsBoxFormed cs) all p (boxes_stay bs cs stays all h) (record { sides = sides_formed m cs (integers_kept m bs cs stays kinds) x.origin x.lengths fits.origin fits.lengths; zeros = zeros.terms }))

  pub boxes_formed : (n : ℕ) (xs : List TermBox) → length base ≡ n → AllByRecursion (Fits m d) xs → AreFormed base (all_apart n (in_turn (place_step ignored) n [] xs))
  boxes_formed n xs here fits =
      let s : Step (List Placed) = in_turn (place_step ignored) n [] xs in
      let k : ℕ = n + made s.items in
      let cs : List Bool = base ++ kinds_of s.items in
      let r =
      formed_in_turn base (Fits m d) (λ bs all. AllByRecursion (IsBoxFormed bs) all) (place_step ignored) (λ j bs all x long keeps so q. step_formed j bs all x (is_kept ignored x.lengths) long keeps so q) n base [] xs here (λ v t e. e) tt fits in
      formed_join base s.items (for_pairs apart k s.state) r.0
      (formed_for_pairs cs (IsBoxFormed cs) apart (λ j ds p q long keeps hp hq. pair_formed ds j p q long (box_stays cs ds keeps p hp) (box_stays cs ds keeps q hq)) k cs s.state (kinds_behind base n s.items here) (λ v t e. e) r.1)
