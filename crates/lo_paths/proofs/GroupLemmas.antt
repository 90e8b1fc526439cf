-- Arrivals by their states, with one more.
use Rattle.std.proofs.Common.{◌≡◌, ℕ, zero, suc, ◌+◌, ◌≤◌, Bool, true, false, ◌||◌, if◌then◌else◌, Option, None, Some, List, [], ◌∷◌, ◌++◌, length, map, refl, ap, ap₂, sym, subst, ◌∙◌, arith}
use Rattle.std.specs.Prelude.{eqb, get_or, slice_get, slice_set}
use Rattle.std.specs.List.{list_any}
use Rattle.std.specs.Option.{option_map}
use Rattle.std.proofs.lemmas.Option.{get_or_from_slice_get}
use Rattle.std.proofs.lemmas.List.{append_assoc, append-nil, map-append}
use Rattle.fz_model.specs.declared.builtin.Builtin.TheVariants.{ArrayBoolOr}
use Rattle.lo_base.specs.Item.{made}
use Rattle.lo_emit.specs.declared.term.Term.{Term}
use Rattle.lo_emit.specs.Emitted.{Outs, truth_of_list}
use Rattle.lo_paths.specs.declared.groups.Groups.{Groups}
use Rattle.lo_paths.specs.declared.path.Arrival.{Arrival}
use Rattle.lo_paths.specs.Groups.{IsGrouped, any_of}
use Rattle.lo_paths.specs.Path.{with_one, arriving_one, arriving, targets_of, reached, final_one, final_truths}
use Rattle.lo_paths.specs.Places.{place}
use Rattle.lo_paths.proofs.PlaceLemmas.{absent, same_with, new_with}
use Rattle.lo_paths.proofs.Targets.{adds, adds_once, turned}
use Rattle.lo_paths.proofs.Totals.{one_if, times, none_of, once_then, once_only, targets_few}
use Rattle.xs_paths.specs.Layers.{once}
use Rattle.xs_paths.proofs.Layers.{once_is}

-- the targets

adds_end : (ts qs : List ℕ) (q : ℕ) → adds ts (qs ++ q ∷ []) ≡ with_one (adds ts qs) q
adds_end ts [] q = refl
adds_end ts (p ∷ qs) q = adds_end (with_one ts p) qs q

targets_end : (rs : List Arrival) (a : Arrival) → targets_of (rs ++ a ∷ []) ≡ with_one (targets_of rs) a.state
targets_end rs a =
    ap once (map-append (λ (b : Arrival). b.state) rs (a ∷ []))
    ∙ sym (adds_once (map (λ b. b.state) rs ++ a.state ∷ []))
    ∙ adds_end [] (map (λ b. b.state) rs) a.state
    ∙ ap (λ (ts : List ℕ). with_one ts a.state) (adds_once (map (λ b. b.state) rs))

-- a state that does not stand in a list

none_there : (rs : List Arrival) (s : ℕ) → list_any (eqb s) (map (λ a. a.state) rs) ≡ false → arriving s rs ≡ []
none_there [] s e = refl
none_there (a ∷ rs) s e = by (eqb s a.state) refl e (none_there rs s)
  where
    by : (t : Bool) → eqb s a.state ≡ t → (t || list_any (eqb s) (map (λ b. b.state) rs)) ≡ false → (list_any (eqb s) (map (λ b. b.state) rs) ≡ false → arriving s rs ≡ []) → arriving_one s a ++ arriving s rs ≡ []
    by true is h rest = absurd (cc h)
    by false is h rest = ap₂ (λ (t : Bool) (ts : List Term). (if t then a.truth ∷ [] else []) ++ ts) (turned a.state s ∙ is) (rest h)

none_arrive : (rs : List Arrival) (s : ℕ) → place (targets_of rs) s ≡ None → arriving s rs ≡ []
none_arrive rs s e = none_there rs s (sym (once_is s (map (λ a. a.state) rs)) ∙ absent (targets_of rs) s e)

-- one arrival more

arriving_end : (q : ℕ) (rs : List Arrival) (a : Arrival) → arriving q (rs ++ a ∷ []) ≡ arriving q rs ++ arriving_one q a
arriving_end q [] a = append-nil (arriving_one q a)
arriving_end q (b ∷ rs) a = ap (λ (ts : List Term). arriving_one q b ++ ts) (arriving_end q rs a) ∙ sym (append_assoc (arriving_one q b) (arriving q rs) (arriving_one q a))

module _ (f : ℕ → List Term) (a : Arrival) where
  more : ℕ → List Term
  more q = f q ++ arriving_one q a

  unmoved : (qs : List ℕ) → place qs a.state ≡ None → map more qs ≡ map f qs
  unfolding more
  unmoved [] e = refl
  unmoved (q ∷ qs) e = by (eqb a.state q) (place qs a.state) e (unmoved qs)
    where
      by : (t : Bool) (o : Option ℕ) → (if t then Some 0 else option_map suc o) ≡ None → (o ≡ None → map more qs ≡ map f qs) → (f q ++ (if t then a.truth ∷ [] else [])) ∷ map more qs ≡ f q ∷ map f qs
      by true o h rest = absurd (cc h)
      by false None h rest = ap₂ (λ (ts : List Term) (tss : List (List Term)). ts ∷ tss) (append-nil (f q)) (rest refl)
      by false (Some i) h rest = absurd (cc h)

  some_is : (i j : ℕ) → Some i ≡ Some j → i ≡ j
  some_is i j e = cc e

  set_at : List (List Term) → ℕ → List (List Term)
  set_at ways i = slice_set ways i (get_or ways i [] ++ a.truth ∷ [])

  moved : (qs : List ℕ) (i : ℕ) → place qs a.state ≡ Some i → times a.state qs ≤ 1 → set_at (map f qs) i ≡ map more qs
  unfolding more set_at
  moved [] i e once = absurd (cc e)
  moved (q ∷ qs) i e once = by (eqb a.state q) (place qs a.state) e (once_then a.state q qs once) (λ j at few. moved qs j at few)
    where
      by : (t : Bool) (o : Option ℕ) → (if t then Some 0 else option_map suc o) ≡ Some i → one_if t + times a.state qs ≤ 1 → ((j : ℕ) → o ≡ Some j → times a.state qs ≤ 1 → set_at (map f qs) j ≡ map more qs)
          → set_at (f q ∷ map f qs) i ≡ (f q ++ (if t then a.truth ∷ [] else [])) ∷ map more qs
      by true o h few rest = ap (λ (j : ℕ). set_at (f q ∷ map f qs) j) (sym (some_is 0 i h)) ∙ ap (λ (tss : List (List Term)). (f q ++ a.truth ∷ []) ∷ tss) (sym (unmoved qs (none_of a.state qs (omega (arith, few)))))
      by false None h few rest = absurd (cc h)
      by false (Some j) h few rest =
          ap (λ (k : ℕ). set_at (f q ∷ map f qs) k) (sym (some_is (suc j) i h)) ∙ ap₂ (λ (ts : List Term) (tss : List (List Term)). ts ∷ tss) (sym (append-nil (f q))) (rest j refl (omega (arith, few)))

  moved_is : (qs : List ℕ) (i : ℕ) → place qs a.state ≡ Some i → times a.state qs ≤ 1 → slice_set (map f qs) i (get_or (map f qs) i [] ++ a.truth ∷ []) ≡ map more qs
  unfolding set_at
  moved_is qs i e once = moved qs i e once

maps : (rs : List Arrival) (a : Arrival) (qs : List ℕ) → map (λ q. arriving q (rs ++ a ∷ [])) qs ≡ map (more (λ q. arriving q rs) a) qs
unfolding more
maps rs a [] = refl
maps rs a (q ∷ qs) = ap₂ (λ (ts : List Term) (tss : List (List Term)). ts ∷ tss) (arriving_end q rs a) (maps rs a qs)

first_way : (rs : List Arrival) (a : Arrival) → place (targets_of rs) a.state ≡ None → more (λ q. arriving q rs) a a.state ≡ a.truth ∷ []
unfolding more
first_way rs a at = ap₂ (λ (ts : List Term) (t : Bool). ts ++ (if t then a.truth ∷ [] else [])) (none_arrive rs a.state at) same_state
  where
    same_state : eqb a.state a.state ≡ true
    same_state = grind arith

-- an arrival at a state that is arrived at before
pub grouped_at : (rs : List Arrival) (a : Arrival) (g h : Groups) (i : ℕ) → IsGrouped rs g → place g.states a.state ≡ Some i → h.states ≡ g.states → h.ways ≡ slice_set g.ways i (get_or g.ways i [] ++ a.truth ∷ []) → IsGrouped (rs ++ a ∷ []) h
grouped_at rs a g h i is e states ways =
    let qs : List ℕ = targets_of rs in
    let f : ℕ → List Term = λ q. arriving q rs in
    let at : place qs a.state ≡ Some i = sym (ap (λ (ps : List ℕ). place ps a.state) is.states) ∙ e in
    let ends : targets_of (rs ++ a ∷ []) ≡ qs = targets_end rs a ∙ same_with qs a.state i at in
    record {
      states = states ∙ is.states ∙ sym ends;
      ways =
          ways ∙ ap (λ (tss : List (List Term)). slice_set tss i (get_or tss i [] ++ a.truth ∷ [])) is.ways ∙ moved_is f a qs i at (once_only a.state (map (λ b. b.state) rs))
          ∙ sym (maps rs a qs) ∙ ap (λ (ps : List ℕ). map (λ q. arriving q (rs ++ a ∷ [])) ps) (sym ends);
    }

-- an arrival at a new state
pub grouped_new : (rs : List Arrival) (a : Arrival) (g h : Groups) → IsGrouped rs g → place g.states a.state ≡ None → h.states ≡ g.states ++ a.state ∷ [] → h.ways ≡ g.ways ++ (a.truth ∷ []) ∷ [] → IsGrouped (rs ++ a ∷ []) h
grouped_new rs a g h is e states ways =
    let qs : List ℕ = targets_of rs in
    let f : ℕ → List Term = λ q. arriving q rs in
    let at : place qs a.state ≡ None = sym (ap (λ (ps : List ℕ). place ps a.state) is.states) ∙ e in
    let ends : targets_of (rs ++ a ∷ []) ≡ qs ++ a.state ∷ [] = targets_end rs a ∙ new_with qs a.state at in
    let last : more f a a.state ≡ a.truth ∷ [] = first_way rs a at in
    record {
      states = states ∙ ap (λ (ps : List ℕ). ps ++ a.state ∷ []) is.states ∙ sym ends;
      ways =
          ways ∙ ap (λ (tss : List (List Term)). tss ++ (a.truth ∷ []) ∷ []) is.ways
          ∙ ap₂ (λ (tss : List (List Term)) (ts : List Term). tss ++ ts ∷ []) (sym (unmoved f a qs at)) (sym last)
          ∙ sym (map-append (more f a) qs (a.state ∷ []))
          ∙ sym (maps rs a (qs ++ a.state ∷ [])) ∙ ap (λ (ps : List ℕ). map (λ q. arriving q (rs ++ a ∷ [])) ps) (sym ends);
    }

-- what tells of each target whether it is arrived at
pub any_reached : (rs : List Arrival) (n : ℕ) (qs : List ℕ) → any_of n (map (λ q. arriving q rs) qs) ≡ reached rs n qs
any_reached rs n [] = refl
any_reached rs n (q ∷ qs) =
    let out = truth_of_list n ArrayBoolOr (arriving q rs) in
    ap (λ (o : Outs). record { items = out.items ++ o.items; terms = out.term ∷ o.terms }) (any_reached rs (n + made out.items) qs)

pub any_grouped : (rs : List Arrival) (n : ℕ) (ways : List (List Term)) (g : Groups) → ways ≡ g.ways → IsGrouped rs g → any_of n ways ≡ reached rs n (targets_of rs)
any_grouped rs n ways g same is = ap (λ (tss : List (List Term)). any_of n tss) (same ∙ is.ways) ∙ any_reached rs n (targets_of rs)

ways_many : (rs : List Arrival) (qs : List ℕ) → length (map (λ q. arriving q rs) qs) ≡ length qs
ways_many rs [] = refl
ways_many rs (q ∷ qs) = ap suc (ways_many rs qs)

pub grouped_few : (rs : List Arrival) (g : Groups) → IsGrouped rs g → length g.ways ≤ length rs
grouped_few rs g is =
    let same = ap (λ (tss : List (List Term)). length tss) is.ways ∙ ways_many rs (targets_of rs) in
    let few = targets_few rs in
    omega (arith, same, few)

-- final states that are named once
pub finals_once : (finals qs : List ℕ) (ts : List Term) → final_truths (once finals) qs ts ≡ final_truths finals qs ts
finals_once finals [] ts = refl
finals_once finals (q ∷ qs) [] = refl
finals_once finals (q ∷ qs) (t ∷ ts) = ap₂ (λ (s : Bool) (us : List Term). (if s then t ∷ [] else []) ++ us) (once_is q finals) (finals_once finals qs ts)

-- a list that is taken out, gets one more and is put back

set_twice : (xs : List (List Term)) (i : ℕ) (y z : List Term) → slice_set (slice_set xs i y) i z ≡ slice_set xs i z
set_twice [] i y z = refl
set_twice (x ∷ xs) zero y z = refl
set_twice (x ∷ xs) (suc i) y z = ap (λ (zs : List (List Term)). x ∷ zs) (set_twice xs i y z)

pub put_back : (old mid new : List (List Term)) (i : ℕ) (x y z : List Term) (t : Term) → slice_get old i ≡ Some x → mid ≡ slice_set old i y → z ≡ x ++ t ∷ [] → new ≡ slice_set mid i z → new ≡ slice_set old i (get_or old i [] ++ t ∷ [])
put_back old mid new i x y z t got taken more put =
    put ∙ ap (λ (xs : List (List Term)). slice_set xs i z) taken ∙ set_twice old i y z
    ∙ ap (λ (ts : List Term). slice_set old i ts) (more ∙ ap (λ (us : List Term). us ++ t ∷ []) (sym (get_or_from_slice_get old i x [] got)))
