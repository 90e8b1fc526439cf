-- Sums and products at one value of each variable.
use Rattle.std.proofs.Common.{◌≡◌, ℕ, ◌+◌, ◌<◌, ◌≤◌, min, ℤ, pos, ◌+ℤ◌, ◌*ℤ◌, Bool as Truth, true, false, cond, List, [], ◌∷◌, length, map, drop, get_or, refl, ap, sym, subst, ◌∙◌, arith, FitsSigned, to_z, of_z, to_z-of_z, ◌⊎◌, inl, inr, ◌↔◌}
use Rattle.std.proofs.lemmas.Int.{ints}
use Rattle.std.proofs.lemmas.List.{drop_more, drop_all}
use Rattle.std.proofs.Math.ListN.{get_or-map}
use Rattle.std.specs.Prelude.{int_lt}
use Rattle.std.specs.Int.{w128, int_min, int_max}
use Rattle.xf_num.specs.Span.{Bounds, add_ends, mul_ends}
use Rattle.fz_model.specs.declared.model.Arg.{Arg, out-Arg}
use Rattle.fz_model.specs.declared.model.Arg.TheOpen.{Arg-F, Int, Bool, Var, Range, Set, List as Listed}
use Rattle.fz_model.specs.Meaning.{number_of, number, numbers, members, dot}
use Rattle.fz_model.specs.Limits.{IsSmall, exactly}
use Rattle.fz_calls.specs.Fits.{ends_of_arg, ends, SumsFit, ListsFit, ValuesFit}

exactly_of : (b : List ℤ) (l : Arg-F Arg) → ends_of_arg (map exactly b) l ≡ exactly (number_of b l)
exactly_of b (Int k) = refl
exactly_of b (Bool t) = refl
exactly_of b (Var v) = get_or-map exactly b v (pos 0)
exactly_of b (Range s) = refl
exactly_of b (Set s) = refl
exactly_of b (Listed xs) = refl

-- an argument lies between its number and its number
pub ends_exactly : (b : List ℤ) (a : Arg) → ends (map exactly b) a ≡ exactly (number b a)
ends_exactly b a = exactly_of b (out-Arg a)

either : (t : Truth) (p : ℤ) → cond t p p ≡ p
either true p = refl
either false p = refl

mul_exactly : (x y : ℤ) → mul_ends (exactly x) (exactly y) ≡ exactly (x *ℤ y)
mul_exactly x y =
    let p : ℤ = x *ℤ y in
    let low : int_min p p ≡ p = either (int_lt p p) p in
    let high : int_max p p ≡ p = either (int_lt p p) p in
    ap (λ (z : ℤ). record { lo = z; hi = int_max (int_max p p) (int_max p p) }) (ap (λ (z : ℤ). int_min z z) low ∙ low)
    ∙ ap (λ (z : ℤ). record { lo = p; hi = z }) (ap (λ (z : ℤ). int_max z z) high ∙ high)

pub product_exactly : (b : List ℤ) (x y : Arg) → mul_ends (ends (map exactly b) x) (ends (map exactly b) y) ≡ exactly (number b x *ℤ number b y)
product_exactly b x y =
    ap (λ (e : Bounds). mul_ends e (ends (map exactly b) y)) (ends_exactly b x)
    ∙ ap (λ (e : Bounds). mul_ends (exactly (number b x)) e) (ends_exactly b y)
    ∙ mul_exactly (number b x) (number b y)

pub sum_exactly : (b : List ℤ) (x y : Arg) → add_ends (ends (map exactly b) x) (ends (map exactly b) y) ≡ exactly (number b x +ℤ number b y)
sum_exactly b x y =
    ap (λ (e : Bounds). add_ends e (ends (map exactly b) y)) (ends_exactly b x) ∙ ap (λ (e : Bounds). add_ends (exactly (number b x)) e) (ends_exactly b y)

small_fits : (z : ℤ) → IsSmall (exactly z) → FitsSigned w128 z
small_fits z h = omega (arith, ints, h.from, h.to)

pub product_fits : (b : List ℤ) (x y : Arg) → IsSmall (mul_ends (ends (map exactly b) x) (ends (map exactly b) y)) → FitsSigned w128 (number b x *ℤ number b y)
product_fits b x y h = small_fits _ (subst IsSmall (product_exactly b x y) h)

pub sum_fits : (b : List ℤ) (x y : Arg) → IsSmall (add_ends (ends (map exactly b) x) (ends (map exactly b) y)) → FitsSigned w128 (number b x +ℤ number b y)
sum_fits b x y h = small_fits _ (subst IsSmall (sum_exactly b x y) h)

sums_fit : (b : List ℤ) (sum : ℤ) (cs xs : List Arg) → SumsFit (exactly sum) (map (ends (map exactly b)) cs) (map (ends (map exactly b)) xs) → ValuesFit sum (map (number b) cs) (map (number b) xs)
sums_fit b sum [] xs h = tt
sums_fit b sum (c ∷ cs) [] h = tt
sums_fit b sum (c ∷ cs) (x ∷ xs) h =
    let s : List Bounds = map exactly b in
    let p : ℤ = number b c *ℤ number b x in
    let g : IsSmall (exactly p) × IsSmall (exactly (sum +ℤ p)) × SumsFit (exactly (sum +ℤ p)) (map (ends s) cs) (map (ends s) xs) =
    subst (λ (m : Bounds). IsSmall m × IsSmall (add_ends (exactly sum) m) × SumsFit (add_ends (exactly sum) m) (map (ends s) cs) (map (ends s) xs)) (product_exactly b c x) h in
    (small_fits p g.0, small_fits (sum +ℤ p) g.1, sums_fit b (sum +ℤ p) cs xs g.2)

pub lists_fit : (b : List ℤ) (cs xs : Arg) → ListsFit (map exactly b) cs xs → ValuesFit (pos 0) (numbers b cs) (numbers b xs)
lists_fit b cs xs h = sums_fit b (pos 0) (members cs) (members xs) h

-- what is left of a sum of products, and what is to come fits
pub record SumGoes (b : List ℤ) (cs xs : List Arg) (sum : ℤ) (i : ℕ) : Type 0 where
  pub total : (sum +ℤ dot (map (number b) (drop i cs)) (map (number b) (drop i xs))) ≡ dot (map (number b) cs) (map (number b) xs)
  pub fits : ValuesFit sum (map (number b) (drop i cs)) (map (number b) (drop i xs))

-- the same, with the next product in front
pub record SumMeets (b : List ℤ) (cs xs : List Arg) (sum p : ℤ) (i : ℕ) (all : ℤ) : Type 0 where
  pub total : (sum +ℤ (p +ℤ dot (map (number b) (drop (i + 1) cs)) (map (number b) (drop (i + 1) xs)))) ≡ all
  pub product : FitsSigned w128 p
  pub whole : FitsSigned w128 (sum +ℤ p)
  pub fits : ValuesFit (sum +ℤ p) (map (number b) (drop (i + 1) cs)) (map (number b) (drop (i + 1) xs))

meets : (b : List ℤ) (cs xs dc dx : List Arg) (sum : ℤ) (i : ℕ) (c x : Arg) (all : ℤ) → dc ≡ c ∷ drop (i + 1) cs → dx ≡ x ∷ drop (i + 1) xs
    → (sum +ℤ dot (map (number b) dc) (map (number b) dx)) ≡ all → ValuesFit sum (map (number b) dc) (map (number b) dx) → SumMeets b cs xs sum (number b c *ℤ number b x) i all
meets b cs xs dc dx sum i c x all e g total fits =
    let t = subst (λ (l : List Arg). (sum +ℤ dot (map (number b) (c ∷ drop (i + 1) cs)) (map (number b) l)) ≡ all) g (subst (λ (l : List Arg). (sum +ℤ dot (map (number b) l) (map (number b) dx)) ≡ all) e total) in
    let f = subst (λ (l : List Arg). ValuesFit sum (map (number b) (c ∷ drop (i + 1) cs)) (map (number b) l)) g (subst (λ (l : List Arg). ValuesFit sum (map (number b) l) (map (number b) dx)) e fits) in
    record { total = t; product = f.0; whole = f.1; fits = f.2 }

pub sum_meets : (b : List ℤ) (cs xs : List Arg) (sum : ℤ) (i : ℕ) (c x : Arg) → i < length cs → i < length xs → c ≡ get_or cs i c → x ≡ get_or xs i x
    → SumGoes b cs xs sum i → SumMeets b cs xs sum (number b c *ℤ number b x) i (dot (map (number b) cs) (map (number b) xs))
sum_meets b cs xs sum i c x p q cis xis goes =
    meets b cs xs (drop i cs) (drop i xs) sum i c x (dot (map (number b) cs) (map (number b) xs))
    (drop_more cs i c p ∙ ap (λ (a : Arg). a ∷ drop (i + 1) cs) (sym cis))
    (drop_more xs i x q ∙ ap (λ (a : Arg). a ∷ drop (i + 1) xs) (sym xis))
    goes.total goes.fits

pub sum_goes_on : (b : List ℤ) (cs xs : List Arg) (sum new p : ℤ) (i : ℕ) → SumMeets b cs xs sum p i (dot (map (number b) cs) (map (number b) xs)) → new ≡ sum +ℤ p → SumGoes b cs xs new (i + 1)
sum_goes_on b cs xs sum new p i m e = record {
  total = subst (λ (z : ℤ). (z +ℤ dot (map (number b) (drop (i + 1) cs)) (map (number b) (drop (i + 1) xs))) ≡ dot (map (number b) cs) (map (number b) xs)) (sym e) (omega (arith, ints, m.total));
  fits = subst (λ (z : ℤ). ValuesFit z (map (number b) (drop (i + 1) cs)) (map (number b) (drop (i + 1) xs))) (sym e) m.fits;
}

dot_nil : (cs : List ℤ) → dot cs [] ≡ pos 0
dot_nil [] = refl
dot_nil (c ∷ cs) = refl

min_within : (m n i : ℕ) → min m n ≤ i → (m ≤ i) ⊎ (n ≤ i)
min_within m n i le = grind arith

-- the same of spans: the next product in front
pub record FitsMeets (f : Arg → Bounds) (cs xs : List Arg) (sum p : Bounds) (i : ℕ) : Type 0 where
  pub to : SumsFit sum (map f (drop i cs)) (map f (drop i xs)) → IsSmall p × IsSmall (add_ends sum p) × SumsFit (add_ends sum p) (map f (drop (i + 1) cs)) (map f (drop (i + 1) xs))
  pub from : IsSmall p → IsSmall (add_ends sum p) → SumsFit (add_ends sum p) (map f (drop (i + 1) cs)) (map f (drop (i + 1) xs)) → SumsFit sum (map f (drop i cs)) (map f (drop i xs))

meets_spans : (f : Arg → Bounds) (cs xs dc dx : List Arg) (sum : Bounds) (i : ℕ) (c x : Arg) → dc ≡ c ∷ drop (i + 1) cs → dx ≡ x ∷ drop (i + 1) xs
    → (SumsFit sum (map f dc) (map f dx) → IsSmall (mul_ends (f c) (f x)) × IsSmall (add_ends sum (mul_ends (f c) (f x))) × SumsFit (add_ends sum (mul_ends (f c) (f x))) (map f (drop (i + 1) cs)) (map f (drop (i + 1) xs)))
    × (IsSmall (mul_ends (f c) (f x)) → IsSmall (add_ends sum (mul_ends (f c) (f x))) → SumsFit (add_ends sum (mul_ends (f c) (f x))) (map f (drop (i + 1) cs)) (map f (drop (i + 1) xs)) → SumsFit sum (map f dc) (map f dx))
meets_spans f cs xs dc dx sum i c x e g = (
  λ h. subst (λ (l : List Arg). SumsFit sum (map f (c ∷ drop (i + 1) cs)) (map f l)) g (subst (λ (l : List Arg). SumsFit sum (map f l) (map f dx)) e h),
  λ p q r. subst (λ (l : List Arg). SumsFit sum (map f l) (map f dx)) (sym e) (subst (λ (l : List Arg). SumsFit sum (map f (c ∷ drop (i + 1) cs)) (map f l)) (sym g) (p, q, r)),
)

pub fits_meets : (f : Arg → Bounds) (cs xs : List Arg) (sum : Bounds) (i : ℕ) (c x : Arg) → i < length cs → i < length xs → c ≡ get_or cs i c → x ≡ get_or xs i x → FitsMeets f cs xs sum (mul_ends (f c) (f x)) i
fits_meets f cs xs sum i c x p q cis xis =
    let m = meets_spans f cs xs (drop i cs) (drop i xs) sum i c x (drop_more cs i c p ∙ ap (λ (a : Arg). a ∷ drop (i + 1) cs) (sym cis)) (drop_more xs i x q ∙ ap (λ (a : Arg). a ∷ drop (i + 1) xs) (sym xis)) in
    record { to = m.0; from = m.1 }

pub fits_step : {All : Type 0} (f : Arg → Bounds) (cs xs : List Arg) (sum next low high : Bounds) (i : ℕ) (c x : Arg) → low ≡ f c → high ≡ f x → FitsMeets f cs xs sum (mul_ends (f c) (f x)) i
    → IsSmall (mul_ends low high) × IsSmall (add_ends sum (mul_ends low high)) → next ≡ add_ends sum (mul_ends low high)
    → (SumsFit sum (map f (drop i cs)) (map f (drop i xs)) ↔ All) → (SumsFit next (map f (drop (i + 1) cs)) (map f (drop (i + 1) xs)) ↔ All)
fits_step f cs xs sum next low high i c x e g m small is all =
    let p : Bounds = mul_ends (f c) (f x) in
    let same : mul_ends low high ≡ p = ap (λ (z : Bounds). mul_ends z high) e ∙ ap (mul_ends (f c)) g in
    let product : IsSmall p = subst IsSmall same small.0 in
    let whole : IsSmall (add_ends sum p) = subst (λ (z : Bounds). IsSmall (add_ends sum z)) same small.1 in
    let now : next ≡ add_ends sum p = is ∙ ap (add_ends sum) same in (
      λ h. all.0 (m.from product whole (subst (λ (z : Bounds). SumsFit z (map f (drop (i + 1) cs)) (map f (drop (i + 1) xs))) now h)),
      λ h. subst (λ (z : Bounds). SumsFit z (map f (drop (i + 1) cs)) (map f (drop (i + 1) xs))) (sym now) (m.to (all.1 h)).2,
    )

fits_nil : (sum : Bounds) (cs : List Bounds) → SumsFit sum cs []
fits_nil sum [] = tt
fits_nil sum (c ∷ cs) = tt

pub fits_done : (f : Arg → Bounds) (cs xs : List Arg) (sum : Bounds) (i : ℕ) → min (length cs) (length xs) ≤ i → SumsFit sum (map f (drop i cs)) (map f (drop i xs))
fits_done f cs xs sum i le =
    elim (min_within (length cs) (length xs) i le) [
      | inl p ↦ subst (λ (l : List Arg). SumsFit sum (map f l) (map f (drop i xs))) (sym (drop_all i cs p)) tt
      | inr p ↦ subst (λ (l : List Arg). SumsFit sum (map f (drop i cs)) (map f l)) (sym (drop_all i xs p)) (fits_nil sum (map f (drop i cs)))
    ]

-- where one of the lists is at its end, nothing is to come
pub sum_done : (b : List ℤ) (cs xs : List Arg) (sum : ℤ) (i : ℕ) → min (length cs) (length xs) ≤ i → SumGoes b cs xs sum i → sum ≡ dot (map (number b) cs) (map (number b) xs)
sum_done b cs xs sum i le goes =
    let none : dot (map (number b) (drop i cs)) (map (number b) (drop i xs)) ≡ pos 0 =
    elim (min_within (length cs) (length xs) i le) [
      | inl p ↦ ap (λ (l : List Arg). dot (map (number b) l) (map (number b) (drop i xs))) (drop_all i cs p)
      | inr p ↦ ap (λ (l : List Arg). dot (map (number b) (drop i cs)) (map (number b) l)) (drop_all i xs p) ∙ dot_nil (map (number b) (drop i cs))
    ] in
    omega (arith, ints, none, goes.total)

-- what the code computes of numbers that fit
pub exact_product : (r s x y : ℤ) → FitsSigned w128 r → FitsSigned w128 s → r ≡ x → s ≡ y → (to_z w128 (of_z w128 r) *ℤ to_z w128 (of_z w128 s)) ≡ x *ℤ y
exact_product r s x y f g e h =
    ap (λ (z : ℤ). z *ℤ to_z w128 (of_z w128 s)) (to_z-of_z f ∙ e) ∙ ap (λ (z : ℤ). x *ℤ z) (to_z-of_z g ∙ h)

pub exact_sum : (sum q p : ℤ) → q ≡ p → FitsSigned w128 p → (sum +ℤ to_z w128 (of_z w128 q)) ≡ sum +ℤ p
exact_sum sum q p e f = ap (λ (z : ℤ). sum +ℤ z) (to_z-of_z (subst (FitsSigned w128) (sym e) f) ∙ e)

pub exact_total : (sum q p : ℤ) → q ≡ p → FitsSigned w128 p → FitsSigned w128 (sum +ℤ p) → to_z w128 (of_z w128 (sum +ℤ to_z w128 (of_z w128 q))) ≡ sum +ℤ p
exact_total sum q p e f g =
    let same = exact_sum sum q p e f in
    ap (λ (z : ℤ). to_z w128 (of_z w128 z)) same ∙ to_z-of_z g

-- the next step of the code's loop, by the numbers that it read
pub record NextSum (b : List ℤ) (cs xs : List Arg) (r s sum : ℤ) (i : ℕ) : Type 0 where
  pub product : FitsSigned w128 (to_z w128 (of_z w128 r) *ℤ to_z w128 (of_z w128 s))
  pub whole : FitsSigned w128 (sum +ℤ to_z w128 (of_z w128 (to_z w128 (of_z w128 r) *ℤ to_z w128 (of_z w128 s))))
  pub goes : SumGoes b cs xs (to_z w128 (of_z w128 (sum +ℤ to_z w128 (of_z w128 (to_z w128 (of_z w128 r) *ℤ to_z w128 (of_z w128 s)))))) (i + 1)

pub next_sum : (b : List ℤ) (cs xs : List Arg) (r s sum : ℤ) (i : ℕ) (c x : Arg) → FitsSigned w128 r → FitsSigned w128 s → r ≡ number b c → s ≡ number b x → i < length cs → i < length xs → c ≡ get_or cs i c → x ≡ get_or xs i x
    → SumGoes b cs xs sum i → NextSum b cs xs r s sum i
next_sum b cs xs r s sum i c x fr fs e h p q cis xis goes =
    let m = sum_meets b cs xs sum i c x p q cis xis goes in
    let same = exact_product r s (number b c) (number b x) fr fs e h in
    let product = number b c *ℤ number b x in
    let coded = to_z w128 (of_z w128 r) *ℤ to_z w128 (of_z w128 s) in
    record {
      product = subst (FitsSigned w128) (sym same) m.product;
      whole = subst (FitsSigned w128) (sym (exact_sum sum coded product same m.product)) m.whole;
      goes = sum_goes_on b cs xs sum _ product i m (exact_total sum coded product same m.product m.whole);
    }
