-- A path spells the values where a final state is reached.
use Rattle.std.proofs.Common.{◌≡◌, ◌↔◌, ℕ, zero, suc, ◌≤◌, ℤ, Bool, true, false, ◌&&◌, List, [], ◌∷◌, ◌++◌, length, take, refl, ap, sym, ◌∙◌, subst, arith, eqb}
use Rattle.std.specs.Prelude.{pos}
use Rattle.std.specs.List.{list_any}
use Rattle.std.specs.Ordering.{int_eq}
use Rattle.std.proofs.Math.Seq.{take-suc, take-length}
use Rattle.std.proofs.lemmas.Bool.{true≢false, and_parts, and_from, eqb-true, eq-eqb}
use Rattle.std.proofs.lemmas.Bool.Decides.{Decides-int_eq}
use Rattle.xs_model.specs.declared.instance.Edge.{Edge}
use Rattle.xs_model.specs.Language.{Leads, Spells}
use Rattle.xs_model.specs.Lists.{SomeOf}
use Rattle.xs_model.specs.Value.{at}
use Rattle.xs_laws.proofs.Somes.{some_map, some_with, some_from_any, any_from_some, any_filter}
use Rattle.xs_paths.specs.Reach.{is_live, is_reached, is_met, live_finals, ReachLaw, LiveReachLaw}

-- a path of one more transition
spells_then : (edges : List Edge) (p : ℕ) (xs : List ℤ) (x : ℤ) (q r : ℕ) → Spells edges p xs r → Leads edges r x q → Spells edges p (xs ++ x ∷ []) q
spells_then edges p [] x q r e l = (q, (subst (λ (s : ℕ). Leads edges s x q) (sym e) l, refl))
spells_then edges p (y ∷ ys) x q r h l = (h.0, (h.1.0, spells_then edges h.0 ys x q r h.1.1 l))

last_of : (edges : List Edge) (p : ℕ) (xs : List ℤ) (x : ℤ) (q : ℕ) → Spells edges p (xs ++ x ∷ []) q → (r : ℕ) × Spells edges p xs r × Leads edges r x q
last_of edges p [] x q h = (p, refl, subst (Leads edges p x) h.1.1 h.1.0)
last_of edges p (y ∷ ys) x q h = let r = last_of edges h.0 ys x q h.1.1 in (r.0, (h.0, (h.1.0, r.1)), r.2)

-- a transition that is among them leads
pub leads_by : (edges : List Edge) (e : Edge) (x : ℤ) (q : ℕ) → x ≡ e.value → e.to ≡ q → SomeOf (λ y. y ≡ e) edges → Leads edges e.from x q
leads_by edges e x q is to h = subst (Leads edges e.from x) to (subst (λ (v : ℤ). Leads edges e.from v e.to) (sym is) h)

implied : (a l r b : Bool) → (r ≡ true → l ≡ true) → (a && (r && b)) ≡ ((a && l) && (r && b))
implied false l r b f = refl
implied true true r b f = refl
implied true false true b f = absurd (true≢false (sym (f refl)))
implied true false false b f = refl

module _ (edges : List Edge) (start : ℕ) (xs : List ℤ) where
  abbrev reads : ℕ → ℕ → Edge → Bool
  reads i q e = eqb e.to q && (is_reached edges start xs i e.from && int_eq (at xs i) e.value)

  reads_parts : (i q : ℕ) (e : Edge) → reads i q e ≡ true → (e.to ≡ q) × (is_reached edges start xs i e.from ≡ true) × (at xs i ≡ e.value)
  reads_parts i q e h =
      let a = and_parts (eqb e.to q) (is_reached edges start xs i e.from && int_eq (at xs i) e.value) h in
      let b = and_parts (is_reached edges start xs i e.from) (int_eq (at xs i) e.value) a.1 in
      (eqb-true e.to q a.0, b.0, (Decides-int_eq (at xs i) e.value).0 b.1)

  reads_from : (i q : ℕ) (e : Edge) → e.to ≡ q → is_reached edges start xs i e.from ≡ true → at xs i ≡ e.value → reads i q e ≡ true
  reads_from i q e to from is =
      and_from (eqb e.to q) (is_reached edges start xs i e.from && int_eq (at xs i) e.value) (eq-eqb e.to q to)
      (and_from (is_reached edges start xs i e.from) (int_eq (at xs i) e.value) from ((Decides-int_eq (at xs i) e.value).1 is))

  path_of : (i q : ℕ) → i ≤ length xs → is_reached edges start xs i q ≡ true → Spells edges start (take i xs) q
  path_of zero q le h = sym (eqb-true q start h)
  path_of (suc i) q le h =
      let s = some_with (λ e. reads i q e ≡ true) edges (some_from_any (reads i q) edges h) in
      let r = reads_parts i q s.0 s.1 in
      subst (λ (ys : List ℤ). Spells edges start ys q) (sym (take-suc xs i (pos 0) le))
      (spells_then edges start (take i xs) (at xs i) q s.0.from (path_of i s.0.from (omega arith) r.1) (leads_by edges s.0 (at xs i) q r.2 r.0 s.2))

  reached_by : (i q : ℕ) → i ≤ length xs → Spells edges start (take i xs) q → is_reached edges start xs i q ≡ true
  reached_by zero q le h = eq-eqb q start (sym h)
  reached_by (suc i) q le h =
      let r = last_of edges start (take i xs) (at xs i) q (subst (λ (ys : List ℤ). Spells edges start ys q) (take-suc xs i (pos 0) le) h) in
      any_from_some (reads i q) edges (some_map (λ e. e ≡ record { from = r.0; value = at xs i; to = q }) (λ e. reads i q e ≡ true) edges
      (λ e is. reads_from i q e (ap (λ (f : Edge). f.to) is) (ap (λ (f : Edge). is_reached edges start xs i f.from) is ∙ reached_by i r.0 (omega arith) r.1) (sym (ap (λ (f : Edge). f.value) is)))
      r.2)

  -- what is reached is live
  pub reached_live : (i q : ℕ) → is_reached edges start xs i q ≡ true → is_live edges start i q ≡ true
  reached_live zero q h = h
  reached_live (suc i) q h =
      any_from_some (λ e. eqb e.to q && is_live edges start i e.from) edges
      (some_map (λ e. reads i q e ≡ true) (λ e. (eqb e.to q && is_live edges start i e.from) ≡ true) edges
      (λ e g. let r = reads_parts i q e g in and_from (eqb e.to q) (is_live edges start i e.from) (eq-eqb e.to q r.0) (reached_live i e.from r.1))
      (some_from_any (reads i q) edges h))

  -- so the transitions from other states change nothing
  pub met_is : (i q : ℕ) → is_met edges start xs i q ≡ is_reached edges start xs i q
  met_is zero q = refl
  met_is (suc i) q = any_filter (λ e. eqb e.to q && is_live edges start i e.from) (λ e. is_met edges start xs i e.from && int_eq (at xs i) e.value) (reads i q)
      (λ e. implied (eqb e.to q) (is_live edges start i e.from) (is_reached edges start xs i e.from) (int_eq (at xs i) e.value) (reached_live i e.from)
      ∙ ap (λ (r : Bool). (eqb e.to q && is_live edges start i e.from) && (r && int_eq (at xs i) e.value)) (sym (met_is i e.from))) edges

accepting_parts : (edges : List Edge) (start : ℕ) (finals : List ℕ) (xs : List ℤ) → SomeOf (λ q. Spells edges start xs q) finals ↔ (list_any (is_reached edges start xs (length xs)) finals ≡ true)
accepting_parts edges start finals xs = (
  λ h. any_from_some (is_reached edges start xs (length xs)) finals (some_map (λ q. Spells edges start xs q) (λ q. is_reached edges start xs (length xs) q ≡ true) finals
      (λ q g. reached_by edges start xs (length xs) q (omega arith) (subst (λ (ys : List ℤ). Spells edges start ys q) (sym (take-length xs)) g)) h),
  λ h. some_map (λ q. is_reached edges start xs (length xs) q ≡ true) (λ q. Spells edges start xs q) finals
      (λ q g. subst (λ (ys : List ℤ). Spells edges start ys q) (take-length xs) (path_of edges start xs (length xs) q (omega arith) g)) (some_from_any (is_reached edges start xs (length xs)) finals h),
)

pub accepted_is_reached : ReachLaw
accepted_is_reached edges start finals xs = accepting_parts edges start finals xs

-- the test on the live final states is that on all
live_is : (edges : List Edge) (start : ℕ) (finals : List ℕ) (xs : List ℤ) → list_any (is_met edges start xs (length xs)) (live_finals edges start finals (length xs)) ≡ list_any (is_reached edges start xs (length xs)) finals
live_is edges start finals xs =
    any_filter (is_live edges start (length xs)) (is_met edges start xs (length xs)) (is_reached edges start xs (length xs))
    (λ q. alone (is_live edges start (length xs) q) (is_reached edges start xs (length xs) q) (reached_live edges start xs (length xs) q) ∙ ap (λ (r : Bool). is_live edges start (length xs) q && r) (sym (met_is edges start xs (length xs) q)))
    finals
  where
    alone : (l r : Bool) → (r ≡ true → l ≡ true) → r ≡ (l && r)
    alone true r f = refl
    alone false true f = absurd (true≢false (sym (f refl)))
    alone false false f = refl

pub accepted_is_met : LiveReachLaw
accepted_is_met edges start finals xs =
    let law = accepting_parts edges start finals xs in
    let same = live_is edges start finals xs in
    (λ h. same ∙ law.0 h, λ h. law.1 (sym same ∙ h))
