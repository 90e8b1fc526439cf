-- The type that is written of a domain is read as it.
use Rattle.std.proofs.Common.{◌≡◌, ℕ, zero, suc, ℤ, pos, ◌+ℤ◌, ◌≤ℤ◌, ◌<ℤ◌, Bool, true, false, ◌&&◌, Option, List, [], ◌∷◌, ◌++◌, map, refl, ap, sym, subst, ◌∙◌, arith, if◌then◌else◌}
use Rattle.std.specs.Prelude.{int_le, int_lt}
use Rattle.std.specs.Int.{int_gap, int_min, int_max}
use Rattle.std.specs.List.{flat_map}
use Rattle.std.specs.Fmt.{signed_decimal}
use Rattle.std.proofs.lemmas.Bool.Decides.{nat_tests}
use Rattle.std.proofs.lemmas.Int.{ints, clamps}
use Rattle.xf_num.specs.Domain.{Ascends}
use Rattle.xf_num.specs.Span.{Bounds, join_ends}
use Rattle.xf_merged.specs.Merged.{inserted, with_range, merged}
use Rattle.fz_model.specs.Limits.{exactly}
use Rattle.fz_model.specs.Sound.{HasOwnDomain}
use Rattle.fz_file.specs.Layout.{integers_from, integers_of}
use Rattle.fz_grammar.specs.declared.tree.VarType.{VarType}
use Rattle.fz_values.specs.Integers.{is_small, int_of}
use Rattle.fz_items.specs.Items.{is_bool, type_small, has_member, is_bounded, span, range_domain, set_domain, domain_of}
use Rattle.fz_again.specs.Tree.{type_of}
use Rattle.fz_again.proofs.Arguments.{gap_end, low_end, high_end}
use Rattle.fz_again.proofs.Lines.{ranges, small_members}
use Rattle.fz_again.proofs.Numbers.{int_again, ints_again, small_again, all_small}

is_true : (t : Bool) → (t ≡ false → ⊥) → t ≡ true
is_true true f = refl
is_true false f = absurd (f refl)

is_false : (t : Bool) → (t ≡ true → ⊥) → t ≡ false
is_false true f = absurd (f refl)
is_false false f = refl

pub le_true : (a b : ℤ) → a ≤ℤ b → int_le a b ≡ true
le_true a b h = is_true (int_le a b) (λ e. omega (arith, ints, e, h))

lt_true : (a b : ℤ) → a <ℤ b → int_lt a b ≡ true
lt_true a b h = is_true (int_lt a b) (λ e. omega (arith, ints, e, h))

lt_false : (a b : ℤ) → b ≤ℤ a → int_lt a b ≡ false
lt_false a b h = is_false (int_lt a b) (λ e. omega (arith, ints, e, h))

-- the ranges begin past a and the integer after it
abbrev Begins : ℤ → List Bounds → Type 0
Begins a [] = Unit {0}
Begins a (c ∷ cs) = (a +ℤ pos 1) <ℤ c.lo

alone : (b : Bounds) (ds : List Bounds) → Begins b.hi ds → inserted b ds ≡ b ∷ ds
alone b [] far = refl
alone b (c ∷ cs) far =
    ap (λ t. if t then b ∷ (c ∷ cs) else (if int_lt (c.hi +ℤ pos 1) b.lo then c ∷ inserted b cs else inserted (join_ends b c) cs)) (lt_true (b.hi +ℤ pos 1) c.lo far)

joined : (b c : Bounds) (cs : List Bounds) → c.lo ≤ℤ (b.hi +ℤ pos 1) → b.lo ≤ℤ (c.hi +ℤ pos 1) → inserted b (c ∷ cs) ≡ inserted (join_ends b c) cs
joined b c cs e d =
    ap (λ t. if t then b ∷ (c ∷ cs) else (if int_lt (c.hi +ℤ pos 1) b.lo then c ∷ inserted b cs else inserted (join_ends b c) cs)) (lt_false (b.hi +ℤ pos 1) c.lo e)
    ∙ ap (λ t. if t then c ∷ inserted b cs else inserted (join_ends b c) cs) (lt_false (c.hi +ℤ pos 1) b.lo d)

with_one : (z : ℤ) (ds : List Bounds) → with_range (int_le z z) (exactly z) ds ≡ inserted (exactly z) ds
with_one z ds = ap (λ t. with_range t (exactly z) ds) (le_true z z (omega (arith, ints)))

bounds_as : (lo hi : ℤ) (b : Bounds) → lo ≡ b.lo → hi ≡ b.hi → span lo hi ≡ b
bounds_as lo hi b e f = rw (e, f) refl

join_is : (z : ℤ) (n : ℕ) → join_ends (exactly z) (span (z +ℤ pos 1) ((z +ℤ pos 1) +ℤ pos n)) ≡ span z (z +ℤ pos (suc n))
join_is z n =
    let low : int_min z (z +ℤ pos 1) ≡ z = omega (arith, ints, clamps) in
    let high : int_max z ((z +ℤ pos 1) +ℤ pos n) ≡ z +ℤ pos (suc n) = omega (arith, ints, clamps) in
    rw (low, high) refl

-- integers one after the other before ranges that begin past them
range_on : (n : ℕ) (z : ℤ) (zs : List ℤ) (ds : List Bounds) → merged (map exactly zs) ≡ ds → Begins (z +ℤ pos n) ds → merged (map exactly (z ∷ (integers_from (z +ℤ pos 1) n ++ zs))) ≡ span z (z +ℤ pos n) ∷ ds
range_on zero z zs ds e far =
    let same : exactly z ≡ span z (z +ℤ pos 0) = ap (λ k. span z k) (omega (arith, ints)) in
    with_one z (merged (map exactly zs)) ∙ (ap (inserted (exactly z)) e ∙ (ap (λ b. inserted b ds) same ∙ alone (span z (z +ℤ pos 0)) ds far))
range_on (suc n) z zs ds e far =
    let end : (z +ℤ pos 1) +ℤ pos n ≡ z +ℤ pos (suc n) = omega (arith, ints) in
    let later = range_on n (z +ℤ pos 1) zs ds e (subst (λ k. Begins k ds) (sym end) far) in
    let next : Bounds = span (z +ℤ pos 1) ((z +ℤ pos 1) +ℤ pos n) in
    with_one z (merged (map exactly ((z +ℤ pos 1) ∷ (integers_from ((z +ℤ pos 1) +ℤ pos 1) n ++ zs))))
    ∙ (ap (inserted (exactly z)) later ∙ (joined (exactly z) next ds (omega (arith, ints)) (omega (arith, ints)) ∙ (ap (λ b. inserted b ds) (join_is z n) ∙ alone (span z (z +ℤ pos (suc n))) ds far)))

past : (b : Bounds) (bs : List Bounds) → Ascends b bs → Begins b.hi bs
past b [] h = tt
past b (c ∷ cs) h = h.1

valid : (b : Bounds) (bs : List Bounds) → Ascends b bs → b.lo ≤ℤ b.hi
valid b [] h = h
valid b (c ∷ cs) h = h.0

gap_is : (b : Bounds) → b.lo ≤ℤ b.hi → b.lo +ℤ pos (int_gap b.lo b.hi) ≡ b.hi
gap_is b h = omega (arith, ints, gap_end b.lo b.hi h)

one_range : (b : Bounds) (zs : List ℤ) (ds : List Bounds) → b.lo ≤ℤ b.hi → merged (map exactly zs) ≡ ds → Begins b.hi ds → merged (map exactly (integers_of b ++ zs)) ≡ b ∷ ds
one_range b zs ds le e far =
    range_on (int_gap b.lo b.hi) b.lo zs ds e (subst (λ k. Begins k ds) (sym (gap_is b le)) far)
    ∙ ap (λ c. c ∷ ds) (bounds_as b.lo (b.lo +ℤ pos (int_gap b.lo b.hi)) b refl (gap_is b le))

-- the members of ascending ranges, no two of which touch, make these ranges
pub members_again : (b : Bounds) (bs : List Bounds) → Ascends b bs → merged (map exactly (integers_of b ++ flat_map integers_of bs)) ≡ b ∷ bs
members_again b [] h = one_range b [] [] h refl tt
members_again b (c ∷ cs) h = one_range b (integers_of c ++ flat_map integers_of cs) (c ∷ cs) h.0 (members_again c cs h.2) h.1

-- a type is read as the domain of which it is written
pub record IsDomainOf (bound : Option ℤ) (t : VarType) (boolean : Bool) (domain : List Bounds) : Type 0 where
  pub sort : is_bool t ≡ boolean
  pub small : type_small t ≡ true
  pub member : has_member t ≡ true
  pub bounded : is_bounded bound t ≡ true
  pub is : domain_of bound t ≡ domain

range_again : (b : Bounds) → b.lo ≤ℤ b.hi → range_domain b.lo b.hi ≡ b ∷ []
range_again b h = ap (λ t. if t then span b.lo b.hi ∷ [] else exactly b.lo ∷ []) (le_true b.lo b.hi h)

pub both : (a b : Bool) → a ≡ true → b ≡ true → (a && b) ≡ true
both a b e f = ap (λ t. t && b) e ∙ f

pub domain_again : (bound : Option ℤ) (boolean : Bool) (domain : List Bounds) → HasOwnDomain boolean domain → IsDomainOf bound (type_of boolean domain) boolean domain
domain_again bound true domain h = record { sort = refl; small = refl; member = refl; bounded = refl; is = sym h }
domain_again bound false [] h = absurd h.0
domain_again bound false (b ∷ []) h =
    let r = (ranges b [] h.0 h.1).0 in
    let low = int_again b.lo (low_end b r) in
    let high = int_again b.hi (high_end b r) in
    record {
      sort = refl;
      small = both (is_small (signed_decimal b.lo)) (is_small (signed_decimal b.hi)) (small_again b.lo (low_end b r)) (small_again b.hi (high_end b r));
      member = ap (λ x. int_le x (int_of (signed_decimal b.hi))) low ∙ (ap (λ y. int_le b.lo y) high ∙ le_true b.lo b.hi h.0);
      bounded = refl;
      is = ap (λ x. range_domain x (int_of (signed_decimal b.hi))) low ∙ (ap (λ y. range_domain b.lo y) high ∙ range_again b h.0);
    }
domain_again bound false (b ∷ c ∷ bs) h =
    let zs : List ℤ = integers_of b ++ flat_map integers_of (c ∷ bs) in
    let small = small_members (b ∷ c ∷ bs) (ranges b (c ∷ bs) h.0 h.1) in
    record {
      sort = refl;
      small = all_small zs small;
      member = grind (arith, nat_tests);
      bounded = refl;
      is = ap set_domain (ints_again zs small) ∙ members_again b (c ∷ bs) h.0;
    }
