-- Places of states, and the table of them.
use Rattle.std.proofs.Common.{◌≡◌, ◌≢◌, ℕ, zero, suc, ◌+◌, ◌<◌, Bool, true, false, ◌||◌, if◌then◌else◌, Option, None, Some, List, [], ◌∷◌, ◌++◌, length, refl, ap, ap₂, sym, subst, ◌∙◌, arith, true≢false}
use Rattle.std.specs.Prelude.{eqb, get_or, slice_set, is_some, IfSome}
use Rattle.std.specs.List.{list_any}
use Rattle.std.specs.Option.{option_map}
use Rattle.std.proofs.lemmas.Bool.{eqb-true}
use Rattle.std.proofs.lemmas.List.{get_or-set_same, get_or-set_other}
use Rattle.lo_emit.specs.declared.term.Term.{Term}
use Rattle.lo_paths.specs.Path.{reach, with_one}
use Rattle.lo_paths.specs.Places.{place, ArePlaces}
use Rattle.lo_paths.proofs.Targets.{turned}

same_state : (q : ℕ) → eqb q q ≡ true
same_state q = grind arith

other_state : (q s : ℕ) → eqb q s ≡ false → q ≢ s
other_state q s e = grind arith

-- one state more

place_other : (qs : List ℕ) (s q : ℕ) → eqb q s ≡ false → place (qs ++ s ∷ []) q ≡ place qs q
place_other [] s q e = ap (λ (t : Bool). if t then Some 0 else None) e
place_other (p ∷ qs) s q e = ap (λ (o : Option ℕ). if eqb q p then Some 0 else option_map suc o) (place_other qs s q e)

place_new : (qs : List ℕ) (s : ℕ) → place qs s ≡ None → place (qs ++ s ∷ []) s ≡ Some (length qs)
place_new [] s e = ap (λ (t : Bool). if t then Some 0 else None) (same_state s)
place_new (p ∷ qs) s e = by (eqb s p) (place qs s) e (place_new qs s)
  where
    by : (t : Bool) (o : Option ℕ) → (if t then Some 0 else option_map suc o) ≡ None → (o ≡ None → place (qs ++ s ∷ []) s ≡ Some (length qs)) → (if t then Some 0 else option_map suc (place (qs ++ s ∷ []) s)) ≡ Some (suc (length qs))
    by true o h more = absurd (cc h)
    by false None h more = ap (λ (o : Option ℕ). option_map suc o) (more refl)
    by false (Some i) h more = absurd (cc h)

pub table_more : (qs : List ℕ) (table : List (Option ℕ)) (s : ℕ) → ArePlaces qs table → place qs s ≡ None → s < length table → ArePlaces (qs ++ s ∷ []) (slice_set table s (Some (length qs)))
table_more qs table s are new lt = λ q. by q (eqb q s) refl
  where
    by : (q : ℕ) (t : Bool) → eqb q s ≡ t → get_or (slice_set table s (Some (length qs))) q None ≡ place (qs ++ s ∷ []) q
    by q true e =
        let F : ℕ → Type 0 = λ p. get_or (slice_set table s (Some (length qs))) p None ≡ place (qs ++ s ∷ []) p in
        subst F (sym (eqb-true q s e)) (get_or-set_same table s (Some (length qs)) None lt ∙ sym (place_new qs s new))
    by q false e = get_or-set_other table s q (Some (length qs)) None (other_state q s e) ∙ are q ∙ sym (place_other qs s q e)

pub place_any : (qs : List ℕ) (q : ℕ) → is_some (place qs q) ≡ list_any (eqb q) qs
place_any [] q = refl
place_any (p ∷ qs) q = by (eqb q p) (place qs q) (place_any qs q)
  where
    by : (t : Bool) (o : Option ℕ) → is_some o ≡ list_any (eqb q) qs → is_some (if t then Some 0 else option_map suc o) ≡ (t || list_any (eqb q) qs)
    by true o h = refl
    by false None h = h
    by false (Some i) h = h

pub absent : (qs : List ℕ) (s : ℕ) → place qs s ≡ None → list_any (eqb s) qs ≡ false
absent qs s e = sym (place_any qs s) ∙ ap (λ (o : Option ℕ). is_some o) e

pub same_with : (qs : List ℕ) (s i : ℕ) → place qs s ≡ Some i → with_one qs s ≡ qs
same_with qs s i e = ap (λ (t : Bool). if t then qs else qs ++ s ∷ []) (sym (place_any qs s) ∙ ap (λ (o : Option ℕ). is_some o) e)

pub new_with : (qs : List ℕ) (s : ℕ) → place qs s ≡ None → with_one qs s ≡ qs ++ s ∷ []
new_with qs s e = ap (λ (t : Bool). if t then qs else qs ++ s ∷ []) (absent qs s e)

pub place_within : (qs : List ℕ) (q : ℕ) → IfSome (place qs q) (λ i. i < length qs)
place_within [] q = tt
place_within (p ∷ qs) q = by (eqb q p) (place qs q) (place_within qs q)
  where
    by : (t : Bool) (o : Option ℕ) → IfSome o (λ i. i < length qs) → IfSome (if t then Some 0 else option_map suc o) (λ i. i < suc (length qs))
    by true o h = omega arith
    by false None h = tt
    by false (Some i) h = omega (arith, h)

-- what tells of a state stands at its place

pub reach_none_at : (qs : List ℕ) (ts : List Term) (q : ℕ) → place qs q ≡ None → reach qs ts q ≡ None
reach_none_at [] ts q e = refl
reach_none_at (p ∷ qs) [] q e = refl
reach_none_at (p ∷ qs) (t ∷ ts) q e = by (eqb q p) refl (place qs q) e (reach_none_at qs ts q)
  where
    by : (s : Bool) → eqb q p ≡ s → (o : Option ℕ) → (if s then Some 0 else option_map suc o) ≡ None → (o ≡ None → reach qs ts q ≡ None) → (if eqb p q then Some t else reach qs ts q) ≡ None
    by true is o h rest = absurd (cc h)
    by false is None h rest = ap₂ (λ (s : Bool) (r : Option Term). if s then Some t else r) (turned p q ∙ is) (rest refl)
    by false is (Some i) h rest = absurd (cc h)

some_is : (i j : ℕ) → Some i ≡ Some j → i ≡ j
some_is i j e = cc e

pub reach_some_at : (qs : List ℕ) (ts : List Term) (q i : ℕ) (d : Term) → length ts ≡ length qs → place qs q ≡ Some i → reach qs ts q ≡ Some (get_or ts i d)
reach_some_at [] ts q i d even e = absurd (cc e)
reach_some_at (p ∷ qs) [] q i d even e = absurd (omega (arith, even))
reach_some_at (p ∷ qs) (t ∷ ts) q i d even e = by (eqb q p) refl (place qs q) e (λ j at. reach_some_at qs ts q j d (omega (arith, even)) at)
  where
    told : ℕ → Type 0
    told j = reach (p ∷ qs) (t ∷ ts) q ≡ Some (get_or (t ∷ ts) j d)

    by : (s : Bool) → eqb q p ≡ s → (o : Option ℕ) → (if s then Some 0 else option_map suc o) ≡ Some i → ((j : ℕ) → o ≡ Some j → reach qs ts q ≡ Some (get_or ts j d)) → told i
    by true is o h rest = subst told (some_is 0 i h) (ap (λ (s : Bool). if s then Some t else reach qs ts q) (turned p q ∙ is))
    by false is None h rest = absurd (cc h)
    by false is (Some j) h rest = subst told (some_is (suc j) i h) (ap₂ (λ (s : Bool) (r : Option Term). if s then Some t else r) (turned p q ∙ is) (rest j refl))

-- room for more states
pub padded : (table : List (Option ℕ)) (q : ℕ) → get_or (table ++ None ∷ []) q None ≡ get_or table q None
padded [] zero = refl
padded [] (suc q) = refl
padded (o ∷ table) zero = refl
padded (o ∷ table) (suc q) = padded table q

-- one state pushed, where the table was widened before
pub table_pushed : (qs rs : List ℕ) (old wide new : List (Option ℕ)) (s at : ℕ) → ArePlaces qs old → ((q : ℕ) → get_or wide q None ≡ get_or old q None) → place qs s ≡ None → s < length wide → at ≡ length qs → new ≡ slice_set wide s (Some at) → rs ≡ qs ++ s ∷ [] → ArePlaces rs new
table_pushed qs rs old wide new s at are same none lt long set push =
    let table : ArePlaces qs wide = λ q. same q ∙ are q in
    let more : ArePlaces (qs ++ s ∷ []) (slice_set wide s (Some (length qs))) = table_more qs wide s table none lt in
    λ q. ap (λ (ps : List (Option ℕ)). get_or ps q None) (set ∙ ap (λ (n : ℕ). slice_set wide s (Some n)) long) ∙ more q ∙ ap (λ (ps : List ℕ). place ps q) (sym push)
