-- What is accepted is reached from layer to layer, by a recursion over the values.
use Rattle.std.proofs.Common.{◌≡◌, ℕ, zero, suc, ◌+◌, inl, inr, ℤ, Bool, true, false, ◌&&◌, ◌||◌, List, [], ◌∷◌, map, refl, ap, ap₂, sym, ◌∙◌, subst, arith, eqb}
use Rattle.std.specs.Prelude.{filter, if◌then◌else◌}
use Rattle.std.specs.List.{list_any, range_with_len}
use Rattle.std.specs.Ordering.{int_eq}
use Rattle.std.proofs.lemmas.Bool.{true≢false, cases_Bool, and_parts, and_from, or_cases, eqb-true, eq-eqb}
use Rattle.std.proofs.lemmas.Bool.Decides.{Decides-int_eq}
use Rattle.xs_model.specs.declared.instance.Edge.{Edge}
use Rattle.xs_model.specs.Language.{Spells}
use Rattle.xs_model.specs.Lists.{SomeOf}
use Rattle.xs_laws.proofs.Somes.{some_map, some_with, some_from_any, any_from_some, any_as, any_filter}
use Rattle.xs_paths.specs.Layers.{once, targets, finals_of}
use Rattle.xs_paths.specs.Steps.{is_seen}
use Rattle.xs_paths.specs.Carried.{is_next, is_accepted_from, AcceptedFromLaw, reach_at, is_accepted_by, AcceptedByLaw, TargetsLaw, ArrivalsLaw, seen_from, SeenLaw}
use Rattle.xs_paths.proofs.Reach.{leads_by}
use Rattle.xs_paths.proofs.Layers.{any_map, any_at, any_with, once_is}

-- from one of the reached states the values lead to a final one
abbrev LeadsOn : List Edge → List ℕ → List ℕ → (ℕ → Bool) → List ℤ → Type 0
LeadsOn edges finals qs reached xs = (p : ℕ) × (list_any (eqb p) qs ≡ true) × (reached p ≡ true) × SomeOf (λ q. Spells edges p xs q) finals

module _ (edges : List Edge) (finals : List ℕ) where
  target_in : (qs : List ℕ) (q : ℕ) → list_any (eqb q) (targets edges qs) ≡ list_any (λ e. list_any (eqb e.from) qs && eqb q e.to) edges
  target_in qs q =
      let f : Edge → Bool = λ e. list_any (eqb e.from) qs in
      once_is q (map (λ e. e.to) (filter f edges)) ∙ any_map (λ (e : Edge). e.to) (eqb q) (filter f edges)
      ∙ any_filter f (λ (e : Edge). eqb q e.to) (λ (e : Edge). f e && eqb q e.to) (λ e. refl) edges

  next_is : (qs : List ℕ) (reached : ℕ → Bool) (x : ℤ) (q : ℕ) → is_next edges qs reached x q ≡ list_any (λ e. (eqb e.to q && list_any (eqb e.from) qs) && (reached e.from && int_eq x e.value)) edges
  next_is qs reached x q =
      any_filter (λ (e : Edge). eqb e.to q && list_any (eqb e.from) qs) (λ (e : Edge). reached e.from && int_eq x e.value)
      (λ (e : Edge). (eqb e.to q && list_any (eqb e.from) qs) && (reached e.from && int_eq x e.value)) (λ e. refl) edges

  on_of : (qs : List ℕ) (reached : ℕ → Bool) (xs : List ℤ) → is_accepted_from edges finals qs reached xs ≡ true → LeadsOn edges finals qs reached xs
  on_of qs reached [] h =
      let r = any_at (λ q. list_any (eqb q) finals && reached q) qs (sym (any_filter (λ q. list_any (eqb q) finals) reached (λ q. list_any (eqb q) finals && reached q) (λ q. refl) qs) ∙ h) in
      let b = and_parts (list_any (eqb r.0) finals) (reached r.0) r.2 in
      (r.0, r.1, b.1, some_map (λ q. eqb r.0 q ≡ true) (λ q. r.0 ≡ q) finals (λ q e. eqb-true r.0 q e) (some_from_any (eqb r.0) finals b.0))
  on_of qs reached (x ∷ xs) h =
      let r = on_of (targets edges qs) (is_next edges qs reached x) xs h in
      let test : Edge → Bool = λ e. (eqb e.to r.0 && list_any (eqb e.from) qs) && (reached e.from && int_eq x e.value) in
      let s = some_with (λ e. test e ≡ true) edges (some_from_any test edges (sym (next_is qs reached x r.0) ∙ r.2)) in
      let a = and_parts (eqb s.0.to r.0 && list_any (eqb s.0.from) qs) (reached s.0.from && int_eq x s.0.value) s.1 in
      let b = and_parts (eqb s.0.to r.0) (list_any (eqb s.0.from) qs) a.0 in
      let c = and_parts (reached s.0.from) (int_eq x s.0.value) a.1 in (
        s.0.from,
        b.1,
        c.0,
        some_map (λ q. Spells edges r.0 xs q) (λ q. Spells edges s.0.from (x ∷ xs) q) finals
            (λ q sp. (r.0, (leads_by edges s.0 x r.0 ((Decides-int_eq x s.0.value).0 c.1) (eqb-true s.0.to r.0 b.0) s.2, sp))) r.3,
      )

  of_on : (qs : List ℕ) (reached : ℕ → Bool) (xs : List ℤ) → LeadsOn edges finals qs reached xs → is_accepted_from edges finals qs reached xs ≡ true
  of_on qs reached [] h =
      any_filter (λ q. list_any (eqb q) finals) reached (λ q. list_any (eqb q) finals && reached q) (λ q. refl) qs
      ∙ any_with (λ q. list_any (eqb q) finals && reached q) qs h.0 h.1
      (and_from (list_any (eqb h.0) finals) (reached h.0) (any_from_some (eqb h.0) finals (some_map (λ q. h.0 ≡ q) (λ q. eqb h.0 q ≡ true) finals (λ q e. eq-eqb h.0 q e) h.3)) h.2)
  of_on qs reached (x ∷ xs) h =
      let s = some_with (λ q. Spells edges h.0 (x ∷ xs) q) finals h.3 in
      let r = s.1.0 in
      let leads = s.1.1.0 in
      let hit : (e : Edge) → e ≡ record { from = h.0; value = x; to = r } → (e.from ≡ h.0) × (e.value ≡ x) × (e.to ≡ r) = λ e is. (ap (λ (f : Edge). f.from) is, ap (λ (f : Edge). f.value) is, ap (λ (f : Edge). f.to) is) in
      of_on (targets edges qs) (is_next edges qs reached x) xs (
        r,
        target_in qs r ∙ any_from_some (λ e. list_any (eqb e.from) qs && eqb r e.to) edges
            (some_map (λ e. e ≡ record { from = h.0; value = x; to = r }) (λ e. (list_any (eqb e.from) qs && eqb r e.to) ≡ true) edges
            (λ e is. and_from (list_any (eqb e.from) qs) (eqb r e.to) (ap (λ (p : ℕ). list_any (eqb p) qs) (hit e is).0 ∙ h.1) (eq-eqb r e.to (sym (hit e is).2))) leads),
        next_is qs reached x r ∙ any_from_some (λ e. (eqb e.to r && list_any (eqb e.from) qs) && (reached e.from && int_eq x e.value)) edges
            (some_map (λ e. e ≡ record { from = h.0; value = x; to = r }) (λ e. ((eqb e.to r && list_any (eqb e.from) qs) && (reached e.from && int_eq x e.value)) ≡ true) edges
            (λ e is. and_from (eqb e.to r && list_any (eqb e.from) qs) (reached e.from && int_eq x e.value)
            (and_from (eqb e.to r) (list_any (eqb e.from) qs) (eq-eqb e.to r (hit e is).2) (ap (λ (p : ℕ). list_any (eqb p) qs) (hit e is).0 ∙ h.1))
            (and_from (reached e.from) (int_eq x e.value) (ap reached (hit e is).0 ∙ h.2) ((Decides-int_eq x e.value).1 (sym (hit e is).1)))) leads),
        some_map (λ q. q ≡ s.0) (λ q. Spells edges r xs q) finals (λ q e. subst (Spells edges r xs) (sym e) s.1.1.1) s.2,
      )

pub accepted_is_carried : AcceptedFromLaw
accepted_is_carried edges start finals xs = (
  λ h. of_on edges finals (start ∷ []) (λ q. true) xs (start, ap (λ (b : Bool). b || false) (eq-eqb start start refl), refl, h),
  λ h.
      let r = on_of edges finals (start ∷ []) (λ q. true) xs h in
      let e : r.0 ≡ start = elim (or_cases (eqb r.0 start) false r.1) [ inl t ↦ eqb-true r.0 start t | inr f ↦ absurd (true≢false (sym f)) ] in
      some_map (λ q. Spells edges r.0 xs q) (λ q. Spells edges start xs q) finals (λ q sp. subst (λ (p : ℕ). Spells edges p xs q) e sp) r.3,
)

-- what is reached matters at the states alone
module _ (edges : List Edge) (finals : List ℕ) where
  alike_next : (qs : List ℕ) (f g : ℕ → Bool) (x : ℤ) (q : ℕ) → ((p : ℕ) → list_any (eqb p) qs ≡ true → f p ≡ g p) → is_next edges qs f x q ≡ is_next edges qs g x q
  alike_next qs f g x q same =
      next_is edges finals qs f x q ∙ any_as (λ e. (eqb e.to q && list_any (eqb e.from) qs) && (f e.from && int_eq x e.value)) (λ e. (eqb e.to q && list_any (eqb e.from) qs) && (g e.from && int_eq x e.value))
      (λ e. by (eqb e.to q) (list_any (eqb e.from) qs) (f e.from) (g e.from) (int_eq x e.value) (same e.from)) edges ∙ sym (next_is edges finals qs g x q)
    where
      by : (a b s t c : Bool) → (b ≡ true → s ≡ t) → ((a && b) && (s && c)) ≡ ((a && b) && (t && c))
      by false b s t c h = refl
      by true true s t c h = ap (λ (r : Bool). r && c) (h refl)
      by true false s t c h = refl

  alike : (qs : List ℕ) (f g : ℕ → Bool) (xs : List ℤ) → ((p : ℕ) → list_any (eqb p) qs ≡ true → f p ≡ g p) → is_accepted_from edges finals qs f xs ≡ is_accepted_from edges finals qs g xs
  alike qs f g [] same = end qs (λ p m. same p m)
    where
      end : (ps : List ℕ) → ((p : ℕ) → list_any (eqb p) ps ≡ true → f p ≡ g p) → list_any f (finals_of finals ps) ≡ list_any g (finals_of finals ps)
      end [] h = refl
      end (p ∷ ps) h =
          let here : f p ≡ g p = h p (ap (λ (b : Bool). b || list_any (eqb p) ps) (eq-eqb p p refl)) in
          let rest = end ps (λ r m. h r (later (eqb r p) m)) in
          elim (cases_Bool (list_any (eqb p) finals)) [
            | inl e ↦ rw e (ap₂ (λ (a b : Bool). a || b) here rest)
            | inr e ↦ rw e rest
          ]
        where
          later : (a : Bool) {b : Bool} → b ≡ true → (a || b) ≡ true
          later true e = refl
          later false e = e
  alike qs f g (x ∷ xs) same = alike (targets edges qs) (is_next edges qs f x) (is_next edges qs g x) xs (λ p m. alike_next qs f g x p same)

reach_of_map : (f : ℕ → Bool) (qs : List ℕ) (q : ℕ) → list_any (eqb q) qs ≡ true → reach_at qs (map f qs) q ≡ f q
reach_of_map f [] q m = absurd (true≢false (sym m))
reach_of_map f (p ∷ qs) q m = by (eqb p q) refl (reach_of_map f qs q)
  where
    by : (t : Bool) → eqb p q ≡ t → (list_any (eqb q) qs ≡ true → reach_at qs (map f qs) q ≡ f q) → (if t then f p else reach_at qs (map f qs) q) ≡ f q
    by true e rest = ap f (eqb-true p q e)
    by false e rest = rest (elim (or_cases (eqb q p) (list_any (eqb q) qs) m) [ inl h ↦ absurd (true≢false (sym (eq-eqb p q (sym (eqb-true q p h))) ∙ e)) | inr later ↦ later ])

by_is_from : (edges : List Edge) (finals qs : List ℕ) (rs : List Bool) (xs : List ℤ) → is_accepted_by edges finals qs rs xs ≡ is_accepted_from edges finals qs (reach_at qs rs) xs
by_is_from edges finals qs rs [] = refl
by_is_from edges finals qs rs (x ∷ xs) =
    let ts = targets edges qs in
    let f = is_next edges qs (reach_at qs rs) x in
    by_is_from edges finals ts (map f ts) xs ∙ alike edges finals ts (reach_at ts (map f ts)) f xs (λ p m. reach_of_map f ts p m)

pub accepted_is_carried_by : AcceptedByLaw
accepted_is_carried_by edges start finals xs =
    let law = accepted_is_carried edges start finals xs in
    let e = by_is_from edges finals (start ∷ []) (true ∷ []) xs ∙ alike edges finals (start ∷ []) (reach_at (start ∷ []) (true ∷ [])) (λ q. true) xs at_start in
    (λ h. e ∙ law.0 h, λ h. law.1 (sym e ∙ h))
  where
    at_start : (p : ℕ) → list_any (eqb p) (start ∷ []) ≡ true → reach_at (start ∷ []) (true ∷ []) p ≡ true
    at_start p m = ap (λ (b : Bool). if b then true else false) (eq-eqb start p (sym (elim (or_cases (eqb p start) false m) [ inl t ↦ eqb-true p start t | inr f ↦ absurd (true≢false (sym f)) ])))

-- by arrivals
pub targets_are_arrivals : TargetsLaw
targets_are_arrivals edges qs rs x = ap once (each (filter (λ e. list_any (eqb e.from) qs) edges))
  where
    each : (es : List Edge) → map (λ e. e.to) es ≡ map (λ (r : ℕ × Bool). r.0) (map (λ e. (e.to, reach_at qs rs e.from && int_eq x e.value)) es)
    each [] = refl
    each (e ∷ es) = ap (λ (ps : List ℕ). e.to ∷ ps) (each es)

pub next_is_arrival : ArrivalsLaw
next_is_arrival edges qs rs x q = each edges
  where
    each : (es : List Edge) → list_any (λ e. reach_at qs rs e.from && int_eq x e.value) (filter (λ e. eqb e.to q && list_any (eqb e.from) qs) es)
        ≡ list_any (λ (r : ℕ × Bool). r.1) (filter (λ (r : ℕ × Bool). eqb r.0 q) (map (λ e. (e.to, reach_at qs rs e.from && int_eq x e.value)) (filter (λ e. list_any (eqb e.from) qs) es)))
    each [] = refl
    each (e ∷ es) = elim (cases_Bool (list_any (eqb e.from) qs)) [
      | inl from ↦ elim (cases_Bool (eqb e.to q)) [
        | inl to ↦ rw from (rw to (ap (λ (b : Bool). (reach_at qs rs e.from && int_eq x e.value) || b) (each es)))
        | inr to ↦ rw from (rw to (each es))
      ]
      | inr from ↦ elim (cases_Bool (eqb e.to q)) [
        | inl to ↦ rw from (rw to (each es))
        | inr to ↦ rw from (rw to (each es))
      ]
    ]

-- what is seen
seen_on : (f : ℕ → Bool) (a b n : ℕ) → b ≡ suc a → map (is_seen f) (range_with_len b n) ≡ seen_from (is_seen f a) (map f (range_with_len b n))
seen_on f a b zero e = refl
seen_on f a b (suc n) e =
    let here : is_seen f b ≡ (is_seen f a || f b) = ap (is_seen f) e ∙ ap (λ (c : ℕ). is_seen f a || f c) (sym e) in
    ap₂ (λ (t : Bool) (ts : List Bool). t ∷ ts) here (seen_on f b (b + 1) n (omega arith) ∙ ap (λ (t : Bool). seen_from t (map f (range_with_len (b + 1) n))) here)

pub seen_is_carried : SeenLaw
seen_is_carried f zero = refl
seen_is_carried f (suc n) = ap (λ (ts : List Bool). f 0 ∷ ts) (seen_on f 0 (0 + 1) n (omega arith))
