-- Flags of reached states.
use Rattle.std.proofs.Common.{◌≡◌, ℕ, ◌<◌, inl, inr, ℤ, Bool, true, false, ◌&&◌, ◌||◌, List, [], ◌∷◌, length, set, replicate, refl, ap, sym, ◌∙◌, subst, arith, eqb}
use Rattle.std.specs.Prelude.{fold}
use Rattle.std.specs.List.{AllByRecursion, list_any}
use Rattle.std.specs.Ordering.{int_eq}
use Rattle.std.proofs.lemmas.Bool.{true≢false, cases_Bool, cases_eq, cases_lt, and_parts, and_from, or_cases, or_left, eqb-true, eq-eqb, ne_eqb}
use Rattle.std.proofs.lemmas.Bool.Decides.{Decides-int_eq}
use Rattle.std.proofs.lemmas.List.{get_or-set_same, get_or-set_other, get_or-replicate, get_or_past, length-set, length-replicate}
use Rattle.xs_model.specs.declared.instance.Edge.{Edge}
use Rattle.xs_model.specs.Language.{Spells}
use Rattle.xs_laws.proofs.Somes.{some_map, some_with, some_from_any, any_from_some}
use Rattle.xs_paths.specs.Flags.{flag, marked, flags_after, start_flags, FlagsLaw, LeafLaw, EmptyLaw}
use Rattle.xs_paths.proofs.Reach.{leads_by}

unset : (n q : ℕ) → flag (replicate n false) q ≡ false
unset n q = elim (cases_lt q n) [ inl lt ↦ get_or-replicate n q false false lt | inr ge ↦ get_or_past (replicate n false) q false (let long = length-replicate n false in omega (arith, long)) ]

flag_set : (fs : List Bool) (p q : ℕ) → p < length fs → flag (set fs p true) q ≡ (eqb p q || flag fs q)
flag_set fs p q lt = elim (cases_eq q p) [
  | inl e ↦ ap (flag (set fs p true)) e ∙ get_or-set_same fs p true false lt ∙ ap (λ (b : Bool). b || flag fs q) (sym (eq-eqb p q (sym e)))
  | inr ne ↦ get_or-set_other fs p q true false ne ∙ ap (λ (b : Bool). b || flag fs q) (sym (ne_eqb p q (λ e. ne (sym e))))
]

-- what is marked is what was, and the targets
module _ (fs : List Bool) (x : ℤ) where
  abbrev reads : ℕ → Edge → Bool
  reads q e = eqb e.to q && (flag fs e.from && int_eq x e.value)

  kept_length : (next : List Bool) (e : Edge) → length (marked fs x next e) ≡ length next
  kept_length next e = elim (cases_Bool (flag fs e.from && int_eq x e.value)) [ inl t ↦ rw t (length-set next e.to true) | inr f ↦ rw f refl ]

  marked_once : (next : List Bool) (e : Edge) (q : ℕ) → e.to < length next → flag (marked fs x next e) q ≡ (reads q e || flag next q)
  marked_once next e q lt = elim (cases_Bool (flag fs e.from && int_eq x e.value)) [
    | inl t ↦ rw t (flag_set next e.to q lt ∙ ap (λ (b : Bool). b || flag next q) (alone (eqb e.to q)))
    | inr f ↦ rw f (ap (λ (b : Bool). b || flag next q) (none (eqb e.to q)))
  ]
    where
      alone : (b : Bool) → b ≡ (b && true)
      alone true = refl
      alone false = refl

      none : (b : Bool) → false ≡ (b && false)
      none true = refl
      none false = refl

  marked_all : (next : List Bool) (edges : List Edge) (q : ℕ) → AllByRecursion (λ e. e.to < length next) edges → flag (fold (marked fs x) next edges) q ≡ (list_any (reads q) edges || flag next q)
  marked_all next [] q h = refl
  marked_all next (e ∷ edges) q h =
      marked_all (marked fs x next e) edges q (longer edges h.1) ∙ ap (λ (b : Bool). list_any (reads q) edges || b) (marked_once next e q h.0) ∙ moved (list_any (reads q) edges) (reads q e) (flag next q)
    where
      longer : (es : List Edge) → AllByRecursion (λ f. f.to < length next) es → AllByRecursion (λ f. f.to < length (marked fs x next e)) es
      longer [] g = tt
      longer (f ∷ es) g = (subst (λ (n : ℕ). f.to < n) (sym (kept_length next e)) g.0, longer es g.1)

      moved : (a b c : Bool) → (a || (b || c)) ≡ ((b || a) || c)
      moved true true c = refl
      moved true false c = refl
      moved false true c = refl
      moved false false c = refl

module _ (n : ℕ) (edges : List Edge) (inside : AllByRecursion (λ e. e.to < n) edges) where
  after_is : (fs : List Bool) (x : ℤ) (q : ℕ) → flag (flags_after n edges fs x) q ≡ list_any (reads fs x q) edges
  after_is fs x q =
      marked_all fs x (replicate n false) edges q (subst (λ (m : ℕ). AllByRecursion (λ e. e.to < m) edges) (sym (length-replicate n false)) inside)
      ∙ ap (λ (b : Bool). list_any (reads fs x q) edges || b) (unset n q) ∙ last (list_any (reads fs x q) edges)
    where
      last : (b : Bool) → (b || false) ≡ b
      last true = refl
      last false = refl

  -- a state is flagged in the end where a path leads to it from one that is flagged before
  path_to : (fs : List Bool) (xs : List ℤ) (q : ℕ) → flag (fold (flags_after n edges) fs xs) q ≡ true → (p : ℕ) × (flag fs p ≡ true) × Spells edges p xs q
  path_to fs [] q h = (q, h, refl)
  path_to fs (x ∷ xs) q h =
      let r = path_to (flags_after n edges fs x) xs q h in
      let s = some_with (λ e. reads fs x r.0 e ≡ true) edges (some_from_any (reads fs x r.0) edges (sym (after_is fs x r.0) ∙ r.1)) in
      let a = and_parts (eqb s.0.to r.0) (flag fs s.0.from && int_eq x s.0.value) s.1 in
      let b = and_parts (flag fs s.0.from) (int_eq x s.0.value) a.1 in
      (s.0.from, b.0, (r.0, (leads_by edges s.0 x r.0 ((Decides-int_eq x s.0.value).0 b.1) (eqb-true s.0.to r.0 a.0) s.2, r.2)))

  to_flag : (fs : List Bool) (xs : List ℤ) (p q : ℕ) → flag fs p ≡ true → Spells edges p xs q → flag (fold (flags_after n edges) fs xs) q ≡ true
  to_flag fs [] p q h s = ap (flag fs) (sym s) ∙ h
  to_flag fs (x ∷ xs) p q h s =
      let r = s.0 in
      to_flag (flags_after n edges fs x) xs r q (after_is fs x r ∙ any_from_some (reads fs x r) edges (some_map (λ e. e ≡ record { from = p; value = x; to = r }) (λ e. reads fs x r e ≡ true) edges
      (λ e is. and_from (eqb e.to r) (flag fs e.from && int_eq x e.value) (eq-eqb e.to r (ap (λ (f : Edge). f.to) is))
      (and_from (flag fs e.from) (int_eq x e.value) (ap (λ (f : Edge). flag fs f.from) is ∙ h) ((Decides-int_eq x e.value).1 (sym (ap (λ (f : Edge). f.value) is))))) s.1.0)) s.1.1

pub accepted_is_flagged : FlagsLaw
accepted_is_flagged n edges start finals xs lt inside =
    let ends : ℕ → Bool = flag (fold (flags_after n edges) (start_flags n start) xs) in
    let at_start : (q : ℕ) → flag (start_flags n start) q ≡ (eqb start q || flag (replicate n false) q) = λ q. flag_set (replicate n false) start q (let long = length-replicate n false in omega (arith, long)) in (
      λ h. any_from_some ends finals (some_map (λ q. Spells edges start xs q) (λ q. ends q ≡ true) finals
          (λ q s. to_flag n edges inside (start_flags n start) xs start q (at_start start ∙ or_left (eqb start start) (flag (replicate n false) start) (eq-eqb start start refl)) s) h),
      λ h. some_map (λ q. ends q ≡ true) (λ q. Spells edges start xs q) finals
          (λ q e.
          let r = path_to n edges inside (start_flags n start) xs q e in
          let same : start ≡ r.0 = elim (or_cases (eqb start r.0) (flag (replicate n false) r.0) (sym (at_start r.0) ∙ r.1)) [
            | inl t ↦ eqb-true start r.0 t
            | inr f ↦ absurd (true≢false (sym f ∙ unset n r.0))
          ] in
          subst (λ (p : ℕ). Spells edges p xs q) (sym same) r.2) (some_from_any ends finals h),
    )

pub leaf_is_final : LeafLaw
leaf_is_final edges root leaf xs = (λ h. inl h, λ h. elim h [ inl s ↦ s | inr f ↦ absurd f ])

pub empty_leads_nowhere : EmptyLaw
empty_leads_nowhere edges root leaf ne h = ne h
