-- What `circuit` is lowered to is well formed.
use Rattle.std.proofs.Common.{◌≡◌, ℕ, zero, suc, ◌+◌, ◌-◌, ◌≤◌, ℤ, pos, negsuc, neg_ℤ, ◌+ℤ◌, ◌-ℤ◌, ◌≤ℤ◌, Bool, true, false, Option, None, Some, List, [], ◌∷◌, ◌++◌, length, map, drop, refl, ap, ◌∙◌, arith}
use Rattle.std.specs.Prelude.{slice_index_or, if◌then◌else◌}
use Rattle.std.specs.List.{range_with_len}
use Rattle.std.specs.Ordering.{int_eq}
use Rattle.std.proofs.lemmas.Int.{ints}
use Rattle.std.proofs.lemmas.List.{length-append}
use Rattle.fz_model.specs.declared.builtin.Builtin.TheVariants.{IntEqReif}
use Rattle.fz_model.specs.Limits.{IsSmall, exactly, limit}
use Rattle.fz_model.specs.Sound.{IsRange}
use Rattle.lo_base.specs.Formed.{kinds_of, AreFormed, Keeps}
use Rattle.lo_base.specs.Item.{Item, Posted, made}
use Rattle.lo_base.proofs.Formed.{formed_join, keeps_behind, keeps_all}
use Rattle.lo_emit.specs.declared.compare.Relation.TheVariants.{Eq, Ne}
use Rattle.lo_emit.specs.declared.term.Term.{Term}
use Rattle.lo_emit.specs.declared.term.Term.TheVariants.{Int, Truth}
use Rattle.lo_emit.specs.Conditions.{term_of as operand_term}
use Rattle.lo_emit.specs.Emitted.{Out, Outs, standing, integer_of_sum, integer_of_place, integer_of_truth, truth_of_two, clause as clause_call}
use Rattle.lo_emit.specs.Loops.{for_all, paired}
use Rattle.lo_circuits.specs.declared.nodes.Nodes.{Nodes}
use Rattle.lo_circuits.specs.Circuit.{chained, index_range, indices, low_inside, is_moved_one, moves, or_next, seen, bits, first_index, place_of, value_at, walk, meetings, low_met, low_size, low_meetings, low_walk, low_first, low_seen, low_moves, low_checks, low_nodes}
use Rattle.lo_circuits.proofs.Chained.{formed_chained}
use Rattle.lo_circuits.proofs.PartLemmas.{long_moves, long_seen}
use Rattle.lo_circuits.proofs.RuleLemmas.{any_such}
use Rattle.lo_forms.specs.Different.{differ}
use Rattle.lo_rules.specs.Conditions.{HasNeighbours}
use Rattle.lo_rules.specs.Formed.{IsInteger, IsLogic, AreIntegerTerms, AreLogicTerms, Makes, MakesAll}
use Rattle.lo_rules.proofs.Linear.{mapped_long}
use Rattle.lo_rules.proofs.Making.{integer_more, logic_more, integers_more, logics_more, all_join, small_one, small_minus_one, small_ones, formed_clause, formed_range, makes_eq, makes_ne, makes_or, makes_counted, makes_sum, makes_place}
use Rattle.lo_rules.proofs.MakingConditions.{formed_relation, formed_sum}
use Rattle.lo_rules.proofs.MakingLoops.{kinds_behind, integers_stay, logics_stay, makes_standing, makes_behind, formed_for_all, formed_each, formed_for_pairs, paired_kinds}
use Rattle.xf_num.specs.Span.{Bounds}
use Rattle.xs_laws.proofs.Places.{all_at}
use Rattle.xs_model.specs.declared.term.Term.{Term as Operand}

-- the indices, and one less and one more, are small, and so is how many there are
pub record Fits (c : Nodes) : Type 0 where
  pub from : neg_ℤ (pos limit) ≤ℤ (c.start -ℤ pos 1)
  pub to : (c.start +ℤ pos (length c.list)) ≤ℤ pos limit
  pub few : length c.list ≤ limit
  pub some : 1 ≤ length c.list

-- the size is an integer, and its neighbours are small
abbrev pub IsSizeFormed : List Bool → Option Operand → Type 0
IsSizeFormed bs None = Unit {0}
IsSizeFormed bs (Some t) = IsInteger bs (operand_term t) × HasNeighbours (operand_term t)

size_formed_more : (bs cs : List Bool) (size : Option Operand) → Keeps bs cs → IsSizeFormed bs size → IsSizeFormed cs size
size_formed_more bs cs None keeps h = tt
size_formed_more bs cs (Some t) keeps h = (integer_more bs cs keeps (operand_term t) h.0, h.1)

module _ (c : Nodes) (fits : Fits c) where
  ordered : c.start ≤ℤ (index_range c).hi
  ordered = omega (arith, ints, fits.some)

  small : IsSmall (index_range c)
  small = record { from = omega (arith, ints, fits.from); to = omega (arith, ints, fits.to) }

  range : IsRange (index_range c)
  range = record { ordered = ordered; small = small }

  small_end : IsSmall (exactly (c.start +ℤ pos (length c.list)))
  small_end = record { from = omega (arith, ints, fits.from, fits.some); to = fits.to }

  small_less : IsSmall (exactly (c.start -ℤ pos 1))
  small_less = record { from = fits.from; to = omega (arith, ints, fits.to, fits.some) }

  places : Bounds
  places = record { lo = pos 1; hi = pos (length c.list) }

  small_places : IsSmall (record { lo = pos 1; hi = pos (length c.list) })
  small_places = record { from = omega (arith, ints); to = omega (arith, ints, fits.few) }

  indices_small : (bs : List Bool) (a m : ℕ) → a + m ≤ length c.list → AreIntegerTerms bs (map (λ p. Int (c.start +ℤ pos p)) (range_with_len a m))
  indices_small bs a zero le = tt
  indices_small bs a (suc m) le =
      (record { from = omega (arith, ints, fits.from, le); to = omega (arith, ints, fits.to, le) }, indices_small bs (a + 1) m (omega (arith, le)))

  are_indices : (bs : List Bool) → AreIntegerTerms bs (indices c)
  are_indices bs = indices_small bs 0 (length c.list) (omega arith)

  module _ (n : ℕ) (bs : List Bool) (here : length bs ≡ n) where
    formed_checks : AreIntegerTerms bs c.list → AreFormed bs (low_checks n c)
    formed_checks h =
        let first : List Item = for_all (low_inside (index_range c)) n c.list in
        let cs : List Bool = bs ++ kinds_of first in
        formed_join bs first _ (formed_for_all bs (IsInteger bs) (low_inside (index_range c)) (λ m ds t long keeps ht. (formed_range ds t (index_range c) (integer_more bs ds keeps t ht) range, tt)) n bs c.list here (keeps_all bs) h)
        (formed_for_pairs cs (IsInteger cs) differ (λ m ds x y long keeps hx hy. (formed_relation ds Ne x y (integer_more cs ds keeps x hx) (integer_more cs ds keeps y hy), tt)) (n + made first) cs c.list (kinds_behind bs n first here) (keeps_all cs)
        (integers_more bs cs (keeps_behind bs (kinds_of first)) c.list h))

    formed_moves : AreIntegerTerms bs c.list → MakesAll IsLogic bs (moves n c)
    formed_moves h =
        formed_each bs (λ (p : Term × Term). IsInteger bs p.0 × IsInteger bs p.1) IsLogic logics_stay is_moved_one
        (λ m ds p long keeps q. makes_ne ds m long p.0 p.1 (integer_more bs ds keeps p.0 q.0) (integer_more bs ds keeps p.1 q.1)) n bs (paired c.list (indices c)) here (keeps_all bs)
        (paired_kinds (IsInteger bs) (IsInteger bs) c.list (indices c) h (are_indices bs))

    formed_seen : (ms : List Term) → AreLogicTerms bs ms → MakesAll IsLogic bs (seen n ms)
    formed_seen [] h = record { formed = tt; terms = tt }
    formed_seen (m ∷ ms) h =
        let rs : Outs = chained or_next n m ms in
        let rest =
        formed_chained bs (IsLogic bs) IsLogic logics_stay or_next (λ k ds u x long keeps hu hx. makes_or ds k long (u ∷ x ∷ []) (hu, (logic_more bs ds keeps x hx, tt))) n bs m ms here (keeps_all bs) h.0 h.1 in
        record { formed = rest.formed; terms = (logic_more bs (bs ++ kinds_of rs.items) (keeps_behind bs (kinds_of rs.items)) m h.0, rest.terms) }

    formed_bits : (ts : List Term) → AreLogicTerms bs ts → MakesAll IsInteger bs (bits n ts)
    formed_bits ts h = formed_each bs (IsLogic bs) IsInteger integers_stay integer_of_truth (λ k ds t long keeps ht. makes_counted ds k long t (logic_more bs ds keeps t ht)) n bs ts here (keeps_all bs) h

    formed_first : (zs : List Term) → AreIntegerTerms bs zs → Makes IsInteger bs (first_index n c zs)
    formed_first zs h =
        let ones : List ℤ = map (λ z. pos 1) zs in
        makes_sum bs n here (index_range c) ordered small (ones ++ pos 1 ∷ []) zs (c.start +ℤ pos (length c.list)) (length-append ones (pos 1 ∷ []) ∙ ap (λ (j : ℕ). j + 1) (mapped_long (λ z. pos 1) zs))
        (all_join (λ z. IsSmall (exactly z)) ones (pos 1 ∷ []) (small_ones zs) (small_one, tt)) h small_end

    place_by : (t : Bool) (i : Term) → IsInteger bs i → Makes IsInteger bs (if t then standing i else integer_of_sum n (record { lo = pos 1; hi = pos (length c.list) }) (pos 1 ∷ negsuc 0 ∷ []) (i ∷ []) (c.start -ℤ pos 1))
    place_by true i h = makes_standing IsInteger integers_stay bs i h
    place_by false i h =
        makes_sum bs n here (record { lo = pos 1; hi = pos (length c.list) }) (omega (arith, ints, fits.some)) small_places (pos 1 ∷ negsuc 0 ∷ []) (i ∷ []) (c.start -ℤ pos 1) refl (small_one, (small_minus_one, tt)) (h, tt) small_less

    formed_value_at : (i : Term) → AreIntegerTerms bs c.list → IsInteger bs i → Makes IsInteger bs (value_at c n i)
    formed_value_at i hs h =
        let p : Out = place_of n c i in
        let cs : List Bool = bs ++ kinds_of p.items in
        let first = place_by (int_eq c.start (pos 1)) i h in
        makes_behind IsInteger IsInteger bs n p (λ k q. integer_of_place k (index_range c) q c.list) first
        (makes_place cs (n + made p.items) (kinds_behind bs n p.items here) (index_range c) ordered small p.term c.list first.term (integers_more bs cs (keeps_behind bs (kinds_of p.items)) c.list hs))

  module _ (n : ℕ) (bs : List Bool) (here : length bs ≡ n) where
    formed_walk : (w : Term) → AreIntegerTerms bs c.list → IsInteger bs w → MakesAll IsInteger bs (walk n c w)
    formed_walk w hs h =
        let rs : Outs = chained (λ k i t. value_at c k i) n w (drop 1 c.list) in
        let rest =
        formed_chained bs (λ (x : Term). Unit {0}) IsInteger integers_stay (λ k i t. value_at c k i) (λ k ds i x long keeps hi q. formed_value_at k ds long i (integers_more bs ds keeps c.list hs) hi) n bs w (drop 1 c.list) here (keeps_all bs) h
        (any_such (drop 1 c.list)) in
        record { formed = rest.formed; terms = (integer_more bs (bs ++ kinds_of rs.items) (keeps_behind bs (kinds_of rs.items)) w h, rest.terms) }

    formed_met : (ws : List Term) (p : Term × Term) → AreIntegerTerms bs ws → IsLogic bs p.0 → IsInteger bs p.1 → AreFormed bs (low_met ws n p)
    formed_met ws p hw hm hi =
        let cs : Outs = meetings n ws p.1 in
        let all = formed_each bs (IsInteger bs) IsLogic logics_stay (λ k w. truth_of_two k IntEqReif w p.1) (λ k ds w long keeps h. makes_eq ds k long w p.1 (integer_more bs ds keeps w h) (integer_more bs ds keeps p.1 hi)) n bs ws here (keeps_all bs) hw in
        let ds : List Bool = bs ++ kinds_of cs.items in
        formed_join bs cs.items (Posted (clause_call cs.terms (p.0 ∷ [])) ∷ []) all.formed (formed_clause ds cs.terms (p.0 ∷ []) all.terms (logic_more bs ds (keeps_behind bs (kinds_of cs.items)) p.0 hm, tt), tt)

    formed_size : (ms : List Term) (size : Option Operand) → AreLogicTerms bs ms → IsSizeFormed bs size → AreFormed bs (low_size n ms size)
    formed_size ms None h k = tt
    formed_size ms (Some t) h k =
        let zs : Outs = bits n ms in
        let all = formed_bits n bs here ms h in
        let ds : List Bool = bs ++ kinds_of zs.items in
        let ones : List ℤ = map (λ z. pos 1) zs.terms in
        formed_join bs zs.items _ all.formed
        (formed_sum ds Eq ones zs.terms (operand_term t) (mapped_long (λ z. pos 1) zs.terms) (small_ones zs.terms) all.terms (integer_more bs ds (keeps_behind bs (kinds_of zs.items)) (operand_term t) k.0) k.1, tt)

  formed_meetings : (n : ℕ) (bs : List Bool) (ms ws : List Term) → length bs ≡ n → AreLogicTerms bs ms → AreIntegerTerms bs ws → IsSizeFormed bs c.size → AreFormed bs (low_meetings n c ms ws)
  formed_meetings n bs ms ws here hm hw hs =
      let ps : List (Term × Term) = paired ms (indices c) in
      let first : List Item = for_all (low_met ws) n ps in
      let cs : List Bool = bs ++ kinds_of first in
      let keeps : Keeps bs cs = keeps_behind bs (kinds_of first) in
      formed_join bs first _
      (formed_for_all bs (λ (p : Term × Term). IsLogic bs p.0 × IsInteger bs p.1) (low_met ws) (λ k ds p long kept q. formed_met k ds long ws p (integers_more bs ds kept ws hw) (logic_more bs ds kept p.0 q.0) (integer_more bs ds kept p.1 q.1)) n bs ps here (keeps_all bs)
      (paired_kinds (IsLogic bs) (IsInteger bs) ms (indices c) hm (are_indices bs)))
      (formed_size (n + made first) cs (kinds_behind bs n first here) ms c.size (logics_more bs cs keeps ms hm) (size_formed_more bs cs c.size keeps hs))

  formed_low_walk : (n : ℕ) (bs : List Bool) (ms : List Term) (w : Term) → length bs ≡ n → AreIntegerTerms bs c.list → AreLogicTerms bs ms → IsInteger bs w → IsSizeFormed bs c.size → AreFormed bs (low_walk n c ms w)
  formed_low_walk n bs ms w here ht hm hw hs =
      let ws : Outs = walk n c w in
      let cs : List Bool = bs ++ kinds_of ws.items in
      let keeps : Keeps bs cs = keeps_behind bs (kinds_of ws.items) in
      let all = formed_walk n bs here w ht hw in
      formed_join bs ws.items _ all.formed (formed_meetings (n + made ws.items) cs ms ws.terms (kinds_behind bs n ws.items here) (logics_more bs cs keeps ms hm) all.terms (size_formed_more bs cs c.size keeps hs))

  formed_low_first : (n : ℕ) (bs : List Bool) (ms zs : List Term) → length bs ≡ n → AreIntegerTerms bs c.list → AreLogicTerms bs ms → AreIntegerTerms bs zs → IsSizeFormed bs c.size → AreFormed bs (low_first n c ms zs)
  formed_low_first n bs ms zs here ht hm hz hs =
      let e : Out = first_index n c zs in
      let cs : List Bool = bs ++ kinds_of e.items in
      let keeps : Keeps bs cs = keeps_behind bs (kinds_of e.items) in
      let one = formed_first n bs here zs hz in
      formed_join bs e.items (low_walk (n + made e.items) c ms e.term) one.formed
      (formed_low_walk (n + made e.items) cs ms e.term (kinds_behind bs n e.items here) (integers_more bs cs keeps c.list ht) (logics_more bs cs keeps ms hm) one.term (size_formed_more bs cs c.size keeps hs))

  formed_low_seen : (n : ℕ) (bs : List Bool) (ms us : List Term) → length bs ≡ n → AreIntegerTerms bs c.list → AreLogicTerms bs ms → AreLogicTerms bs us → length us ≡ length c.list → IsSizeFormed bs c.size → AreFormed bs (low_seen n c ms us)
  formed_low_seen n bs ms us here ht hm hu long hs =
      let zs : Outs = bits n us in
      let cs : List Bool = bs ++ kinds_of zs.items in
      let keeps : Keeps bs cs = keeps_behind bs (kinds_of zs.items) in
      let all = formed_bits n bs here us hu in
      let last : IsLogic bs (slice_index_or us (length us - 1) (Truth false)) = all_at (IsLogic bs) us (length us - 1) (Truth false) hu (omega (arith, long, fits.some)) in (
        formed_clause bs (slice_index_or us (length us - 1) (Truth false) ∷ []) [] (last, tt) tt,
        formed_join bs zs.items _ all.formed
            (formed_low_first (n + made zs.items) cs ms zs.terms (kinds_behind bs n zs.items here) (integers_more bs cs keeps c.list ht) (logics_more bs cs keeps ms hm) all.terms (size_formed_more bs cs c.size keeps hs)),
      )

  formed_low_moves : (n : ℕ) (bs : List Bool) → length bs ≡ n → AreIntegerTerms bs c.list → IsSizeFormed bs c.size → AreFormed bs (low_moves n c)
  formed_low_moves n bs here ht hs =
      let ms : Outs = moves n c in
      let i : ℕ = n + made ms.items in
      let cs : List Bool = bs ++ kinds_of ms.items in
      let keeps : Keeps bs cs = keeps_behind bs (kinds_of ms.items) in
      let first = formed_moves n bs here ht in
      let us : Outs = seen i ms.terms in
      let ds : List Bool = cs ++ kinds_of us.items in
      let kept : Keeps cs ds = keeps_behind cs (kinds_of us.items) in
      let long : length cs ≡ i = kinds_behind bs n ms.items here in
      let second = formed_seen i cs long ms.terms first.terms in
      formed_join bs ms.items _ first.formed
      (formed_join cs us.items _ second.formed
      (formed_low_seen (i + made us.items) ds ms.terms us.terms (kinds_behind cs i us.items long) (integers_more cs ds kept c.list (integers_more bs cs keeps c.list ht)) (logics_more cs ds kept ms.terms first.terms) second.terms
      (long_seen i ms.terms ∙ long_moves n c) (size_formed_more cs ds c.size kept (size_formed_more bs cs c.size keeps hs))))

  pub formed_nodes : (n : ℕ) (bs : List Bool) → length bs ≡ n → AreIntegerTerms bs c.list → IsSizeFormed bs c.size → AreFormed bs (low_nodes n c)
  formed_nodes n bs here ht hs =
      let first : List Item = low_checks n c in
      let cs : List Bool = bs ++ kinds_of first in
      let keeps : Keeps bs cs = keeps_behind bs (kinds_of first) in
      formed_join bs first _ (formed_checks n bs here ht) (formed_low_moves (n + made first) cs (kinds_behind bs n first here) (integers_more bs cs keeps c.list ht) (size_formed_more bs cs c.size keeps hs))
