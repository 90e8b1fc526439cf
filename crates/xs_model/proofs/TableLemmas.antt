-- What a map by texts says of the list of its names.
use Rattle.std.proofs.Common.{◌≡◌, ℕ, zero, suc, ◌<◌, ◌≤◌, List, [], ◌∷◌, ◌++◌, Option, None, Some, Bool, true, false, if◌then◌else◌, length, map, get_or, slice_get, position, refl, sym, ap, ◌∙◌, arith, true≢false, inl, inr}
use Rattle.std.specs.Prelude.{IfSome, nat_eq, ◌⊎◌}
use Rattle.std.specs.List.{IsDistinct, position_or_len}
use Rattle.std.specs.Option.{option_map}
use Rattle.std.specs.Cmp.Lexicographic.{pointwise, same_text, nat_list_eq_equiv}
use Rattle.std.proofs.lemmas.Bool.{cases_lt}
use Rattle.std.proofs.lemmas.Grind.{common_steps}
use Rattle.std.proofs.lemmas.List.Quantifiers.{position-Some}
use Rattle.std.proofs.lemmas.List.Sums.{fails_before_first}
use Rattle.std.proofs.lemmas.Map.Keys.{apart_from_distinct}
use Rattle.std.proofs.lemmas.Option.{slice_get-map, slice_get-get_or, slice_get_within, get_or_from_slice_get}
use Rattle.indexmap.specs.IndexMap.{insert_entry}

module _ {K : Type 0} (items : K → List ℕ) where
  -- a test for a name, and the equality of keys
  abbrev pub has : List ℕ → K → Bool
  has name k = pointwise nat_eq name (items k)

  abbrev pub same : K → K → Bool
  same x y = pointwise nat_eq (items x) (items y)

  same_self : (xs : List ℕ) → pointwise nat_eq xs xs ≡ true
  same_self xs = nat_list_eq_equiv.refl xs

  pub found_at : (ks : List K) (name : List ℕ) (r : Option ℕ) → r ≡ position (has name) ks → IfSome r (λ at. slice_get (map items ks) at ≡ Some name)
  found_at ks name None e = tt
  found_at [] name (Some i) e = cc
  found_at (k ∷ ks) name (Some i) e =
      let p = position-Some (has name) (k ∷ ks) i k (sym e) in
      slice_get-map items (k ∷ ks) i ∙ (ap (option_map items) (slice_get-get_or (k ∷ ks) i k p.0) ∙ ap (λ x. Some x) (sym (same_text name (items (get_or (k ∷ ks) i k)) (sym p.1))))

  -- the key with that name
  key_at : (ks : List K) (at : ℕ) (name : List ℕ) → slice_get (map items ks) at ≡ Some name → (k : K) × ((slice_get ks at ≡ Some k) × (items k ≡ name))
  key_at [] at name h = cc
  key_at (k ∷ ks) zero name h = (k, (refl, cc))
  key_at (k ∷ ks) (suc at) name h = key_at ks at name h

  only_some : (ks : List K) (name : List ℕ) (k : K) (i at : ℕ) → IsDistinct same ks → position (has name) ks ≡ Some i → at < length ks → items (get_or ks at k) ≡ name → i ≡ at
  only_some ks name k i at d e l n =
      let p = position-Some (has name) ks i k e in
      let t : has name (get_or ks at k) ≡ true = ap (λ x. pointwise nat_eq name x) n ∙ same_self name in
      by p t (cases_lt i at)
    where
      above : ((i < length ks) × (has name (get_or ks i k) ≡ true) × ((j : ℕ) → j < i → has name (get_or ks j k) ≡ false)) → has name (get_or ks at k) ≡ true → at ≤ i → (at < i) ⊎ (i ≤ at) → i ≡ at
      above p t le (inl lt) = absurd (true≢false (sym t ∙ p.2 at lt))
      above p t le (inr ge) = omega arith

      by : ((i < length ks) × (has name (get_or ks i k) ≡ true) × ((j : ℕ) → j < i → has name (get_or ks j k) ≡ false)) → has name (get_or ks at k) ≡ true → (i < at) ⊎ (at ≤ i) → i ≡ at
      by p t (inl lt) =
          let a = apart_from_distinct same ks i at k d lt l in
          let x : items (get_or ks i k) ≡ items (get_or ks at k) = sym (same_text name (items (get_or ks i k)) (sym p.1)) ∙ sym n in
          absurd (true≢false (sym (same_self (items (get_or ks at k))) ∙ (ap (λ y. pointwise nat_eq y (items (get_or ks at k))) (sym x) ∙ a)))
      by p t (inr le) = above p t le (cases_lt at i)

  none_passes : (ks : List K) (name : List ℕ) (at : ℕ) (k : K) → at < length ks → position (has name) ks ≡ None → has name (get_or ks at k) ≡ false
  none_passes ks name at k l e =
      let past : length ks ≤ position_or_len (has name) ks = grind (arith, common_steps) in
      fails_before_first (has name) ks at k (omega arith)

  pub only_at : (ks : List K) (name : List ℕ) (r : Option ℕ) → r ≡ position (has name) ks → IsDistinct same ks → (at : ℕ) → slice_get (map items ks) at ≡ Some name → r ≡ Some at
  only_at ks name None e d at h =
      let k = key_at ks at name h in
      let l = slice_get_within ks at k.0 k.1.0 in
      let t : has name (get_or ks at k.0) ≡ true = ap (λ x. pointwise nat_eq name x) (ap items (get_or_from_slice_get ks at k.0 k.0 k.1.0) ∙ k.1.1) ∙ same_self name in
      absurd (true≢false (sym t ∙ none_passes ks name at k.0 l (sym e)))
  only_at ks name (Some i) e d at h =
      let k = key_at ks at name h in
      ap (λ x. Some x) (only_some ks name k.0 i at d (sym e) (slice_get_within ks at k.0 k.1.0) (ap items (get_or_from_slice_get ks at k.0 k.0 k.1.0) ∙ k.1.1))

  module _ {X : Type 0} where
    abbrev pub row : K × X → List ℕ × X
    row e = (items e.0, e.1)

    -- the names are those of the keys
    pub names_are : (es : List (K × X)) → map (λ r. r.0) (map row es) ≡ map items (map (λ e. e.0) es)
    names_are [] = refl
    names_are (e ∷ es) = ap (λ xs. items e.0 ∷ xs) (names_are es)

    pub value_at : (es : List (K × X)) (at : ℕ) (e : K × X) → slice_get es at ≡ Some e → slice_get (map (λ r. r.1) (map row es)) at ≡ Some e.1
    value_at [] at e h = cc
    value_at (x ∷ es) zero e h = let s : x ≡ e = cc in ap (λ y. Some y.1) s
    value_at (x ∷ es) (suc at) e h = value_at es at e h

    chosen : (t : Bool) (x y : List (K × X)) → t ≡ false → (if t then x else y) ≡ y
    chosen true x y h = cc
    chosen false x y h = refl

    -- a new name goes last
    pub inserted : (es : List (K × X)) (k : K) (v : X) → ((at : ℕ) → ¬ (slice_get (map (λ r. r.0) (map row es)) at ≡ Some (items k))) → map row (insert_entry same es k v) ≡ map row es ++ (items k, v) ∷ []
    inserted [] k v h = refl
    inserted (e ∷ es) k v h =
        ap (map row) (chosen (same k e.0) ((e.0, v) ∷ es) (e ∷ insert_entry same es k v) (other (same k e.0) refl)) ∙ ap (λ xs. row e ∷ xs) (inserted es k v (λ at. h (suc at)))
      where
        other : (t : Bool) → same k e.0 ≡ t → same k e.0 ≡ false
        other true s = absurd (h 0 (ap (λ x. Some x) (sym (same_text (items k) (items e.0) (sym s)))))
        other false s = s
