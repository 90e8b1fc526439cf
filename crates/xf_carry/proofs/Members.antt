-- Values of variables: of named ones and of those that items make.
use Rattle.std.proofs.Common.{◌≡◌, ℕ, zero, suc, ◌+◌, inl, inr, ⊎_elim, ℤ, pos, negsuc, ◌≤ℤ◌, Option, None, List, [], ◌∷◌, ◌++◌, length, refl, sym, subst, arith, append_assoc}
use Rattle.std.proofs.lemmas.Int.{ints}
use Rattle.std.proofs.lemmas.List.{get_or_at, length-append}
use Rattle.std.specs.List.{AllByRecursion}
use Rattle.xf_num.specs.Span.{Bounds, IsWithin}
use Rattle.xs_model.specs.Instance as xcsp
use Rattle.fz_model.specs.declared.model.Arg.{Arg}
use Rattle.fz_model.specs.declared.model.FzVar.{FzVar}
use Rattle.fz_model.specs.Fixing.{IsBit}
use Rattle.fz_model.specs.Meaning.{at, CallHolds}
use Rattle.fz_model.specs.Solved as flat
use Rattle.lo_names.specs.Shown.{shown_each}
use Rattle.lo_base.specs.Item.{Item, Ranged, Boolean, Posted, made}
use Rattle.lo_base.specs.Lowered.{vars_of, calls_of}
use Rattle.lo_base.specs.Solved.{Meets}

pub members_split : (vs ws : List FzVar) (a c : List ℤ) → length a ≡ length vs → flat.AreMembers (vs ++ ws) (a ++ c) → flat.AreMembers vs a × flat.AreMembers ws c
members_split [] ws [] c len h = (tt, h)
members_split [] ws (z ∷ a) c len h = absurd (omega arith)
members_split (v ∷ vs) ws [] c len h = absurd (omega arith)
members_split (v ∷ vs) ws (z ∷ a) c len h = let r = members_split vs ws a c (omega arith) h.1 in ((h.0, r.0), r.1)

pub members_join : (vs ws : List FzVar) (a c : List ℤ) → flat.AreMembers vs a → flat.AreMembers ws c → flat.AreMembers (vs ++ ws) (a ++ c)
members_join [] ws [] c h k = k
members_join [] ws (z ∷ a) c h k = absurd h
members_join (v ∷ vs) ws [] c h k = absurd h
members_join (v ∷ vs) ws (z ∷ a) c h k = (h.0, members_join vs ws a c h.1 k)

pub members_length : (vs : List FzVar) (a : List ℤ) → flat.AreMembers vs a → length a ≡ length vs
members_length [] [] h = refl
members_length [] (z ∷ a) h = absurd h
members_length (v ∷ vs) [] h = absurd h
members_length (v ∷ vs) (z ∷ a) h = omega (arith, members_length vs a h.1)

pub shown_members : (ws : List (List ℕ)) (ds : List (List Bounds)) (a : List ℤ) → length ws ≡ length ds → xcsp.AreMembers ds a → flat.AreMembers (shown_each ws ds) a
shown_members [] [] [] len h = tt
shown_members [] [] (z ∷ a) len h = absurd h
shown_members [] (d ∷ ds) a len h = absurd (omega arith)
shown_members (w ∷ ws) [] a len h = absurd (omega arith)
shown_members (w ∷ ws) (d ∷ ds) [] len h = absurd h
shown_members (w ∷ ws) (d ∷ ds) (z ∷ a) len h = (h.0, shown_members ws ds a (omega arith) h.1)

pub members_shown : (ws : List (List ℕ)) (ds : List (List Bounds)) (a : List ℤ) → length ws ≡ length ds → flat.AreMembers (shown_each ws ds) a → xcsp.AreMembers ds a
members_shown [] [] [] len h = tt
members_shown [] [] (z ∷ a) len h = absurd h
members_shown [] (d ∷ ds) a len h = absurd (omega arith)
members_shown (w ∷ ws) [] a len h = absurd (omega arith)
members_shown (w ∷ ws) (d ∷ ds) [] len h = absurd h
members_shown (w ∷ ws) (d ∷ ds) (z ∷ a) len h = (h.0, members_shown ws ds a (omega arith) h.1)

bit_within : (v : ℤ) → IsBit v → IsWithin (record { lo = pos 0; hi = pos 1 }) v
bit_within v h = ⊎_elim (λ e. record { from = omega (arith, ints, e); to = omega (arith, ints, e) }) (λ e. record { from = omega (arith, ints, e); to = omega (arith, ints, e) }) h

within_bit : (v : ℤ) → pos 0 ≤ℤ v → v ≤ℤ pos 1 → IsBit v
within_bit (pos zero) h k = inl refl
within_bit (pos (suc zero)) h k = inr refl
within_bit (pos (suc (suc n))) h k = absurd (omega (arith, ints))
within_bit (negsuc n) h k = absurd (omega (arith, ints))

value_at : (n : ℕ) (pre : List ℤ) (v : ℤ) (more : List ℤ) → length pre ≡ n → at (pre ++ v ∷ more) n ≡ v
value_at n pre v more len = get_or_at pre v more (pos 0) n len

one_longer : (n : ℕ) (pre : List ℤ) (v : ℤ) → length pre ≡ n → length (pre ++ v ∷ []) ≡ n + 1
one_longer n pre v len = omega (arith, length-append pre (v ∷ []))

-- values that meet the items are members of the domains of the variables that these make
pub made_members : (n k : ℕ) (xs : List Item) (pre more : List ℤ) → length pre ≡ n → length more ≡ made xs → Meets n xs (pre ++ more) → flat.AreMembers (vars_of k xs) more
made_members n k [] pre [] len many h = tt
made_members n k [] pre (v ∷ more) len many h = absurd (omega arith)
made_members n k (Ranged lo hi ∷ xs) pre [] len many h = absurd (omega arith)
made_members n k (Ranged lo hi ∷ xs) pre (v ∷ more) len many h =
    let here = value_at n pre v more len in (
      inl (record { from = subst (λ (z : ℤ). lo ≤ℤ z) here h.0; to = subst (λ (z : ℤ). z ≤ℤ hi) here h.1 }),
      made_members (n + 1) (k + 1) xs (pre ++ v ∷ []) more (one_longer n pre v len) (omega arith) (subst (Meets (n + 1) xs) (sym (append_assoc pre (v ∷ []) more)) h.2),
    )
made_members n k (Boolean ∷ xs) pre [] len many h = absurd (omega arith)
made_members n k (Boolean ∷ xs) pre (v ∷ more) len many h =
    let here = value_at n pre v more len in (
      inl (bit_within v (subst IsBit here h.0)),
      made_members (n + 1) (k + 1) xs (pre ++ v ∷ []) more (one_longer n pre v len) (omega arith) (subst (Meets (n + 1) xs) (sym (append_assoc pre (v ∷ []) more)) h.1),
    )
made_members n k (Posted call ∷ xs) pre more len many h = made_members n k xs pre more len (omega arith) h.1

pub meets_calls : (n : ℕ) (xs : List Item) (b : List ℤ) → Meets n xs b → AllByRecursion (CallHolds b) (calls_of xs)
meets_calls n [] b h = tt
meets_calls n (Ranged lo hi ∷ xs) b h = meets_calls (n + 1) xs b h.2
meets_calls n (Boolean ∷ xs) b h = meets_calls (n + 1) xs b h.1
meets_calls n (Posted call ∷ xs) b h = (h.0, meets_calls n xs b h.1)

-- members of the domains that make the calls true meet the items
pub members_meet : (n k : ℕ) (xs : List Item) (pre more : List ℤ) → length pre ≡ n → flat.AreMembers (vars_of k xs) more → AllByRecursion (CallHolds (pre ++ more)) (calls_of xs) → Meets n xs (pre ++ more)
members_meet n k [] pre more len h calls = tt
members_meet n k (Ranged lo hi ∷ xs) pre [] len h calls = absurd h
members_meet n k (Ranged lo hi ∷ xs) pre (v ∷ more) len h calls =
    let here = value_at n pre v more len in
    let same = append_assoc pre (v ∷ []) more in
    let one : IsWithin (record { lo = lo; hi = hi }) v = ⊎_elim (λ w. w) (λ e. absurd e) h.0 in
    let rest = members_meet (n + 1) (k + 1) xs (pre ++ v ∷ []) more (one_longer n pre v len) h.1 (subst (λ (b : List ℤ). AllByRecursion (CallHolds b) (calls_of xs)) (sym same) calls) in
    (subst (λ (z : ℤ). lo ≤ℤ z) (sym here) one.from, subst (λ (z : ℤ). z ≤ℤ hi) (sym here) one.to, subst (Meets (n + 1) xs) same rest)
members_meet n k (Boolean ∷ xs) pre [] len h calls = absurd h
members_meet n k (Boolean ∷ xs) pre (v ∷ more) len h calls =
    let here = value_at n pre v more len in
    let same = append_assoc pre (v ∷ []) more in
    let one : IsWithin (record { lo = pos 0; hi = pos 1 }) v = ⊎_elim (λ w. w) (λ e. absurd e) h.0 in
    let rest = members_meet (n + 1) (k + 1) xs (pre ++ v ∷ []) more (one_longer n pre v len) h.1 (subst (λ (b : List ℤ). AllByRecursion (CallHolds b) (calls_of xs)) (sym same) calls) in
    (subst IsBit (sym here) (within_bit v one.from one.to), subst (Meets (n + 1) xs) same rest)
members_meet n k (Posted call ∷ xs) pre more len h calls = (calls.0, members_meet n k xs pre more len h calls.1)

-- variables that are declared to equal nothing
abbrev pub AreFree : List FzVar → Type 0
AreFree vs = AllByRecursion (λ (v : FzVar). v.equal ≡ None) vs

pub free_equal : (b : List ℤ) (vs : List FzVar) (zs : List ℤ) → AreFree vs → flat.AreEqual b vs zs
free_equal b [] zs h = tt
free_equal b (v ∷ vs) [] h = tt
free_equal b (v ∷ vs) (z ∷ zs) h = (subst (λ (e : Option Arg). flat.IsEqual b e z) (sym h.0) tt, free_equal b vs zs h.1)

pub free_join : (vs ws : List FzVar) → AreFree vs → AreFree ws → AreFree (vs ++ ws)
free_join [] ws h k = k
free_join (v ∷ vs) ws h k = (h.0, free_join vs ws h.1 k)

pub shown_free : (ws : List (List ℕ)) (ds : List (List Bounds)) → AreFree (shown_each ws ds)
shown_free [] ds = tt
shown_free (w ∷ ws) [] = tt
shown_free (w ∷ ws) (d ∷ ds) = (refl, shown_free ws ds)

pub made_free : (k : ℕ) (xs : List Item) → AreFree (vars_of k xs)
made_free k [] = tt
made_free k (Ranged lo hi ∷ xs) = (refl, made_free (k + 1) xs)
made_free k (Boolean ∷ xs) = (refl, made_free (k + 1) xs)
made_free k (Posted call ∷ xs) = made_free k xs
