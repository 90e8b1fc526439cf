-- The order of faults.
use Rattle.std.proofs.Common.{◌≡◌, ℕ, ◌+◌, List, [], ◌∷◌, ◌++◌, Option, None, Some, Result, Ok, Err, refl, ap, sym, ◌∙◌, append_assoc, append-nil}
use Rattle.xf_text.specs.declared.fault.Fault.{Fault}
use Rattle.xf_text.specs.declared.fault.Kind.{Kind}
use Rattle.xs_fields.specs.Conditions.{first_missed}
use Rattle.xs_fields.specs.declared.condition.Condition.{Condition}
use Rattle.xs_units.specs.Order.{AreAlike, IsOneOrder, at_last, fed}
use Rattle.xs_units.specs.Units.{Unit, Holds, Makes, Ran, expansion_in, gathered, on_taken, proceed, ran_or, run, take_all, then_on, section_units}
use Rattle.xs_model.specs.declared.concrete.Concrete.{Concrete}
use Rattle.xs_units.specs.declared.known.Known.{Known}
use Rattle.xs_model.specs.Outline.{Outline}

abbrev at : {K : Type 0} → ℕ → K → Known K
at words state = record { words = words; state = state }

-- gathering takes all
all_gathered : (cs : List Concrete) (words : ℕ) (done : List Concrete) → take_all gathered cs (at words done) ≡ record { known = at words (done ++ cs); fault = None }
all_gathered [] words done = ap (λ ds. record { known = at words ds; fault = None }) (sym (append-nil done))
all_gathered (c ∷ cs) words done = all_gathered cs words (done ++ c ∷ []) ∙ ap (λ ds. record { known = at words ds; fault = None }) (append_assoc done (c ∷ []) cs)

-- what was gathered before stands before what is gathered then
pub record Shifted (done : List Concrete) (a b : Ran (List Concrete)) : Type 0 where
  pub made : a.known.state ≡ done ++ b.known.state
  pub fault : a.fault ≡ b.fault

by_missed : (done : List Concrete) (words place : ℕ) (missed : Option Condition) (a b : Ran (List Concrete)) → Shifted done a b → Shifted done (ran_or missed (at words done) place a) (ran_or missed (at words []) place b)
by_missed done words place None a b h = h
by_missed done words place (Some k) a b h = record { made = sym (append-nil done); fault = refl }

pub shifted : (us : List Unit) (words : ℕ) (done : List Concrete) → Shifted done (run gathered us (at words done)) (run gathered us (at words []))
shifted [] words done = record { made = sym (append-nil done); fault = refl }
shifted (Holds place meets ∷ us) words done = by_missed done words place (first_missed meets) (run gathered us (at words done)) (run gathered us (at words [])) (shifted us words done)
shifted (Makes place meets more made ∷ us) words done =
    let all : proceed (take_all gathered made (at (words + more) done)) (run gathered us) ≡ run gathered us (at (words + more) (done ++ made)) = ap (λ r. proceed r (run gathered us)) (all_gathered made (words + more) done) in
    let fresh : proceed (take_all gathered made (at (words + more) [])) (run gathered us) ≡ run gathered us (at (words + more) made) = ap (λ r. proceed r (run gathered us)) (all_gathered made (words + more) []) in
    let there = shifted us (words + more) (done ++ made) in
    let here = shifted us (words + more) made in
    let rest = (run gathered us (at (words + more) [])).known.state in
    by_missed done words place (first_missed (meets words)) (proceed (take_all gathered made (at (words + more) done)) (run gathered us)) (proceed (take_all gathered made (at (words + more) [])) (run gathered us))
    (record {
      made = ap (λ r. r.known.state) all ∙ there.made ∙ append_assoc done made rest ∙ ap (λ cs. done ++ cs) (sym here.made ∙ sym (ap (λ r. r.known.state) fresh));
      fault = ap (λ r. r.fault) all ∙ there.fault ∙ sym here.fault ∙ sym (ap (λ r. r.fault) fresh);
    })

-- taking does not look at the number of words
pub record Both {K : Type 0} (taken : K → Concrete → Result K Kind) (cs : List Concrete) (w v : ℕ) (s : K) : Type 0 where
  pub state : K
  pub fault : Option Fault
  pub left : take_all taken cs (at w s) ≡ record { known = at w state; fault = fault }
  pub right : take_all taken cs (at v s) ≡ record { known = at v state; fault = fault }

both_at : {K : Type 0} (taken : K → Concrete → Result K Kind) (c : Concrete) (cs : List Concrete) (w v : ℕ) (s : K) (r : Result K Kind) → taken s c ≡ r → ((t : K) → Both taken cs w v t) → Both taken (c ∷ cs) w v s
both_at taken c cs w v s (Ok t) is more =
    let b = more t in
    record { state = b.state; fault = b.fault; left = ap (λ r. on_taken (at w s) c.place r (take_all taken cs)) is ∙ b.left; right = ap (λ r. on_taken (at v s) c.place r (take_all taken cs)) is ∙ b.right }
both_at taken c cs w v s (Err k) is more =
    record { state = s; fault = Some (record { kind = k; place = c.place }); left = ap (λ r. on_taken (at w s) c.place r (take_all taken cs)) is; right = ap (λ r. on_taken (at v s) c.place r (take_all taken cs)) is }

both : {K : Type 0} (taken : K → Concrete → Result K Kind) (cs : List Concrete) (w v : ℕ) (s : K) → Both taken cs w v s
both taken [] w v s = record { state = s; fault = None; left = refl; right = refl }
both taken (c ∷ cs) w v s = both_at taken c cs w v s (taken s c) refl (λ t. both taken cs w v t)

taken_then : {K : Type 0} (taken : K → Concrete → Result K Kind) (known : Known K) (place : ℕ) (r : Result K Kind) (all first second : Known K → Ran K) → ((k : Known K) → all k ≡ proceed (first k) second) → on_taken known place r all ≡ proceed (on_taken known place r first) second
taken_then taken known place (Ok s) all first second h = h (record { words = known.words; state = s })
taken_then taken known place (Err k) all first second h = refl

take_append : {K : Type 0} (taken : K → Concrete → Result K Kind) (cs ds : List Concrete) (known : Known K) → take_all taken (cs ++ ds) known ≡ proceed (take_all taken cs known) (take_all taken ds)
take_append taken [] ds known = refl
take_append taken (c ∷ cs) ds known = taken_then taken known c.place (taken known.state c) (take_all taken (cs ++ ds)) (take_all taken cs) (take_all taken ds) (λ k. take_append taken cs ds k)

held : {K : Type 0} (taken : K → Concrete → Result K Kind) (w v place : ℕ) (s : K) (missed : Option Condition) (a : Ran K) (b : Ran (List Concrete)) → AreAlike a (fed taken (expansion_in b) (at v s)) → AreAlike (ran_or missed (at w s) place a) (fed taken (expansion_in (ran_or missed (at w []) place b)) (at v s))
held taken w v place s None a b h = h
held taken w v place s (Some k) a b h = record { state = refl; fault = refl }

behind : {K : Type 0} (taken : K → Concrete → Result K Kind) (us : List Unit) (w v : ℕ) (rest : Ran (List Concrete)) (fault : Option Fault) (s : K) → AreAlike (run taken us (at w s)) (fed taken (expansion_in rest) (at v s))
    → AreAlike (then_on fault (at w s) (run taken us)) (proceed (then_on fault (at v s) (take_all taken rest.known.state)) (at_last rest.fault))
behind taken us w v rest None s h = h
behind taken us w v rest (Some f) s h = record { state = refl; fault = refl }

alike_by : {K : Type 0} (a b c d : Ran K) → a ≡ b → c ≡ d → AreAlike b d → AreAlike a c
alike_by a b c d e f h = record { state = ap (λ r. r.known.state) e ∙ h.state ∙ sym (ap (λ r. r.known.state) f); fault = ap (λ r. r.fault) e ∙ h.fault ∙ sym (ap (λ r. r.fault) f) }

order : {K : Type 0} (taken : K → Concrete → Result K Kind) (us : List Unit) (w v : ℕ) (s : K) → AreAlike (run taken us (at w s)) (fed taken (expansion_in (run gathered us (at w []))) (at v s))
order taken [] w v s = record { state = refl; fault = refl }
order taken (Holds place meets ∷ us) w v s = held taken w v place s (first_missed meets) (run taken us (at w s)) (run gathered us (at w [])) (order taken us w v s)
order taken (Makes place meets more made ∷ us) w v s =
    let n = w + more in
    let rest = run gathered us (at n []) in
    let b = both taken made n v s in
    let ran = proceed (take_all gathered made (at n [])) (run gathered us) in
    let fresh : ran ≡ run gathered us (at n made) = ap (λ r. proceed r (run gathered us)) (all_gathered made n []) in
    let here = shifted us n made in
    let all_made : ran.known.state ≡ made ++ rest.known.state = ap (λ r. r.known.state) fresh ∙ here.made in
    let last : ran.fault ≡ rest.fault = ap (λ r. r.fault) fresh ∙ here.fault in
    let one : proceed (take_all taken made (at n s)) (run taken us) ≡ then_on b.fault (at n b.state) (run taken us) = ap (λ r. proceed r (run taken us)) b.left in
    let two : fed taken (expansion_in ran) (at v s) ≡ proceed (then_on b.fault (at v b.state) (take_all taken rest.known.state)) (at_last rest.fault) =
    ap (λ cs. proceed (take_all taken cs (at v s)) (at_last ran.fault)) all_made
    ∙ ap (λ f. proceed (take_all taken (made ++ rest.known.state) (at v s)) (at_last f)) last
    ∙ ap (λ r. proceed r (at_last rest.fault)) (take_append taken made rest.known.state (at v s) ∙ ap (λ r. proceed r (take_all taken rest.known.state)) b.right) in
    held taken w v place s (first_missed (meets w)) (proceed (take_all taken made (at n s)) (run taken us)) ran
    (alike_by (proceed (take_all taken made (at n s)) (run taken us)) (then_on b.fault (at n b.state) (run taken us)) (fed taken (expansion_in ran) (at v s)) (proceed (then_on b.fault (at v b.state) (take_all taken rest.known.state)) (at_last rest.fault)) one two
    (behind taken us n v rest b.fault b.state (order taken us n v b.state)))

pub one_order : (told : ℕ → ℕ) (os : List Outline) → {K : Type 0} (taken : K → Concrete → Result K Kind) → IsOneOrder told os taken
one_order told os taken n state = order taken (section_units told os n) 0 0 state
