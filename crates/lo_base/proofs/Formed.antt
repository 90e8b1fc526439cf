-- Well-formed items: with more variables before, in a row, and what their calls and variables are.
use Rattle.std.proofs.Common.{◌≡◌, ◌⊎◌, inl, inr, ℕ, ◌+◌, ◌<◌, ◌≤◌, ℤ, pos, ◌≤ℤ◌, Bool, true, false, List, [], ◌∷◌, ◌++◌, length, map, get_or, refl, ap, ap₂, sym, ◌∙◌, subst, arith, slice_get, Some}
use Rattle.std.specs.List.{AllByRecursion}
use Rattle.std.proofs.lemmas.List.{append_assoc, append-nil, length-append, get_or_append_left}
use Rattle.std.proofs.lemmas.Option.{slice_get_within, get_or_from_slice_get, slice_get-get_or}
use Rattle.std.proofs.Math.Seq.{get_or-append_seam}
use Rattle.fz_model.specs.declared.builtin.Builtin.{Builtin}
use Rattle.fz_model.specs.declared.builtin.Builtin.TheVariants.{BoolNot}
use Rattle.fz_model.specs.declared.model.Arg.{Arg, out-Arg}
use Rattle.fz_model.specs.declared.model.Arg.TheOpen.{Arg-F, Int, Bool as Logic, Var, Range, Set, List as Listed}
use Rattle.fz_model.specs.declared.model.Call.{Call}
use Rattle.fz_model.specs.declared.model.FzVar.{FzVar}
use Rattle.fz_model.specs.Fixing.{IsBit, NotOfBits}
use Rattle.fz_model.specs.Meaning.{at, number_of, number}
use Rattle.fz_model.specs.declared.kind.Asked.{Asked}
use Rattle.fz_model.specs.declared.kind.Asked.TheVariants as asked
use Rattle.fz_model.specs.declared.kind.Kind.{Kind}
use Rattle.fz_model.specs.declared.kind.Kind.TheVariants as kind
use Rattle.fz_model.specs.Kinds.{kinds_at}
use Rattle.fz_model.specs.Sound.{IsSingle, AreSingles, IsOfKind, AreOfKinds, IsCall, HasOwnDomain, booleans_of}
use Rattle.lo_base.specs.Item.{Item, Ranged, Boolean, Posted, made}
use Rattle.lo_base.specs.Formed.{kinds_of, AreFormed, Keeps, AreIntegers, HasBits, FormedBits}
use Rattle.lo_base.specs.Lowered.{vars_of, calls_of}
use Rattle.lo_base.specs.Solved.{Meets}
use Rattle.lo_base.specs.Stepwise.{AreBits}
use Rattle.lo_base.proofs.Solving.{meets_at, truth_bit}

-- kinds of variables

pub keeps_behind : (bs cs : List Bool) → Keeps bs (bs ++ cs)
keeps_behind bs cs v t h =
    let lt = slice_get_within bs v t h in
    slice_get-get_or (bs ++ cs) v t (omega (arith, lt, length-append bs cs)) ∙ ap Some (get_or_append_left bs cs t v lt ∙ get_or_from_slice_get bs v t t h)

pub keeps_all : (bs : List Bool) → Keeps bs bs
keeps_all bs v t h = h

pub keeps_through : (bs cs ds : List Bool) → Keeps bs cs → Keeps cs ds → Keeps bs ds
keeps_through bs cs ds h k v t e = k v t (h v t e)

pub kind_here : (bs : List Bool) (t : Bool) (cs : List Bool) → slice_get (bs ++ t ∷ cs) (length bs) ≡ Some t
kind_here bs t cs = slice_get-get_or (bs ++ t ∷ cs) (length bs) t (omega (arith, length-append bs (t ∷ cs))) ∙ ap Some (get_or-append_seam bs t cs t)

pub integers_kept : (m : ℕ) (bs cs : List Bool) → Keeps bs cs → AreIntegers m bs → AreIntegers m cs
integers_kept m bs cs k h v lt = k v false (h v lt)

some_is : (t u : Bool) → Some t ≡ Some u → t ≡ u
some_is t u e = cc e

before_or_last : (k m : ℕ) → k < m + 1 → (k < m) ⊎ (k ≡ m)
before_or_last k m h = grind (arith, h)

-- a variable of a list with one more is in the list, or the last
kind_of_each : (bs : List Bool) (t : Bool) (v : ℕ) (u : Bool) → slice_get (bs ++ t ∷ []) v ≡ Some u → (slice_get bs v ≡ Some u) ⊎ ((v ≡ length bs) × (t ≡ u))
kind_of_each bs t v u h =
    let within = slice_get_within (bs ++ t ∷ []) v u h in
    elim (before_or_last v (length bs) (omega (arith, within, length-append bs (t ∷ [])))) [
      | inl l ↦ inl (slice_get-get_or bs v u l ∙ ap Some (sym (get_or_append_left bs (t ∷ []) u v l) ∙ get_or_from_slice_get (bs ++ t ∷ []) v u u h))
      | inr e ↦ inr (e, some_is t u (sym (kind_here bs t []) ∙ ap (slice_get (bs ++ t ∷ [])) (sym e) ∙ h))
    ]

-- calls, with more variables before

module _ (bs cs : List Bool) (keeps : Keeps bs cs) where
  single_more : (s : Asked) (l : Arg-F Arg) → IsSingle bs s l → IsSingle cs s l
  single_more asked.Int (Int k) h = h
  single_more asked.Int (Logic t) h = absurd h
  single_more asked.Int (Var v) h = keeps v false h
  single_more asked.Int (Range r) h = absurd h
  single_more asked.Int (Set r) h = absurd h
  single_more asked.Int (Listed xs) h = absurd h
  single_more asked.Bool (Int k) h = absurd h
  single_more asked.Bool (Logic t) h = tt
  single_more asked.Bool (Var v) h = keeps v true h
  single_more asked.Bool (Range r) h = absurd h
  single_more asked.Bool (Set r) h = absurd h
  single_more asked.Bool (Listed xs) h = absurd h
  single_more asked.IntConstant (Int k) h = h
  single_more asked.IntConstant (Logic t) h = absurd h
  single_more asked.IntConstant (Var v) h = absurd h
  single_more asked.IntConstant (Range r) h = absurd h
  single_more asked.IntConstant (Set r) h = absurd h
  single_more asked.IntConstant (Listed xs) h = absurd h
  single_more asked.BoolConstant (Int k) h = absurd h
  single_more asked.BoolConstant (Logic t) h = tt
  single_more asked.BoolConstant (Var v) h = absurd h
  single_more asked.BoolConstant (Range r) h = absurd h
  single_more asked.BoolConstant (Set r) h = absurd h
  single_more asked.BoolConstant (Listed xs) h = absurd h

  singles_more : (s : Asked) (xs : List Arg) → AreSingles bs s xs → AreSingles cs s xs
  singles_more s [] h = tt
  singles_more s (x ∷ xs) h = (single_more s (out-Arg x) h.0, singles_more s xs h.1)

  kind_more : (k : Kind) (l : Arg-F Arg) → IsOfKind bs k l → IsOfKind cs k l
  kind_more (kind.One s) l h = single_more s l h
  kind_more (kind.Many s) (Listed xs) h = singles_more s xs h
  kind_more (kind.Many s) (Int k) h = absurd h
  kind_more (kind.Many s) (Logic t) h = absurd h
  kind_more (kind.Many s) (Var v) h = absurd h
  kind_more (kind.Many s) (Range r) h = absurd h
  kind_more (kind.Many s) (Set r) h = absurd h
  kind_more kind.Set (Range r) h = h
  kind_more kind.Set (Set r) h = h
  kind_more kind.Set (Int k) h = absurd h
  kind_more kind.Set (Logic t) h = absurd h
  kind_more kind.Set (Var v) h = absurd h
  kind_more kind.Set (Listed xs) h = absurd h

  kinds_more : (ks : List Kind) (xs : List Arg) → AreOfKinds bs ks xs → AreOfKinds cs ks xs
  kinds_more [] [] h = tt
  kinds_more [] (x ∷ xs) h = absurd h
  kinds_more (k ∷ ks) [] h = absurd h
  kinds_more (k ∷ ks) (x ∷ xs) h = (kind_more k (out-Arg x) h.0, kinds_more ks xs h.1)

  pub call_more : (call : Call) → IsCall bs call → IsCall cs call
  call_more call h = record { kinds = kinds_more (kinds_at call.builtin (length call.args)) call.args h.kinds; lengths = h.lengths }

  pub calls_more : (calls : List Call) → AllByRecursion (IsCall bs) calls → AllByRecursion (IsCall cs) calls
  calls_more [] h = tt
  calls_more (call ∷ calls) h = (call_more call h.0, calls_more calls h.1)

-- truth values

module _ (bs : List Bool) (b : List ℤ) (bits : HasBits bs b) where
  logic_bit : (l : Arg-F Arg) → IsSingle bs asked.Bool l → IsBit (number_of b l)
  logic_bit (Int k) h = absurd h
  logic_bit (Logic t) h = truth_bit t
  logic_bit (Var v) h = bits v h
  logic_bit (Range r) h = absurd h
  logic_bit (Set r) h = absurd h
  logic_bit (Listed xs) h = absurd h

  two_bits : (xs : List Arg) → AreOfKinds bs (kind.One asked.Bool ∷ kind.One asked.Bool ∷ []) xs → AllByRecursion (λ x. IsBit (number b x)) xs
  two_bits [] h = absurd h
  two_bits (x ∷ []) h = absurd h.1
  two_bits (x ∷ y ∷ []) h = (logic_bit (out-Arg x) h.0, (logic_bit (out-Arg y) h.1.0, tt))
  two_bits (x ∷ y ∷ z ∷ xs) h = absurd h.1.1

  -- a call of the right kinds has 0 or 1 for each argument that has to be a truth value
  pub call_bits : (call : Call) → IsCall bs call → NotOfBits b call
  call_bits call h e = two_bits call.args (subst (λ (i : Builtin). AreOfKinds bs (kinds_at i (length call.args)) call.args) e h.kinds)

bits_of_integer : (bs : List Bool) (b : List ℤ) → HasBits bs b → HasBits (bs ++ false ∷ []) b
bits_of_integer bs b h v e = elim (kind_of_each bs false v true e) [ inl old ↦ h v old | inr new ↦ cc new.1 ]

bits_of_boolean : (bs : List Bool) (b : List ℤ) → HasBits bs b → IsBit (at b (length bs)) → HasBits (bs ++ true ∷ []) b
bits_of_boolean bs b h bit v e = elim (kind_of_each bs true v true e) [ inl old ↦ h v old | inr new ↦ subst (λ (k : ℕ). IsBit (at b k)) (sym new.0) bit ]

one_longer : (bs : List Bool) (t : Bool) → length bs + 1 ≡ length (bs ++ t ∷ [])
one_longer bs t = sym (length-append bs (t ∷ []))

pub formed_bits : FormedBits
formed_bits bs [] b f h m = tt
formed_bits bs (Ranged lo hi ∷ xs) b f h m = formed_bits (bs ++ false ∷ []) xs b f.2 (bits_of_integer bs b h) (meets_at (length bs + 1) (length (bs ++ false ∷ [])) xs b (one_longer bs false) m.2)
formed_bits bs (Boolean ∷ xs) b f h m = formed_bits (bs ++ true ∷ []) xs b f (bits_of_boolean bs b h m.0) (meets_at (length bs + 1) (length (bs ++ true ∷ [])) xs b (one_longer bs true) m.1)
formed_bits bs (Posted call ∷ xs) b f h m = (call_bits bs b h call f.0, formed_bits bs xs b f.1 h m.1)

-- items in a row

pub length-kinds_of : (xs : List Item) → length (kinds_of xs) ≡ made xs
length-kinds_of [] = refl
length-kinds_of (Ranged lo hi ∷ xs) = omega (arith, length-kinds_of xs)
length-kinds_of (Boolean ∷ xs) = omega (arith, length-kinds_of xs)
length-kinds_of (Posted call ∷ xs) = omega (arith, length-kinds_of xs)

pub kinds_of-append : (xs ys : List Item) → kinds_of (xs ++ ys) ≡ kinds_of xs ++ kinds_of ys
kinds_of-append [] ys = refl
kinds_of-append (Ranged lo hi ∷ xs) ys = ap (λ (ks : List Bool). false ∷ ks) (kinds_of-append xs ys)
kinds_of-append (Boolean ∷ xs) ys = ap (λ (ks : List Bool). true ∷ ks) (kinds_of-append xs ys)
kinds_of-append (Posted call ∷ xs) ys = kinds_of-append xs ys

pub formed_join : (bs : List Bool) (xs ys : List Item) → AreFormed bs xs → AreFormed (bs ++ kinds_of xs) ys → AreFormed bs (xs ++ ys)
formed_join bs [] ys h k = subst (λ (ks : List Bool). AreFormed ks ys) (append-nil bs) k
formed_join bs (Ranged lo hi ∷ xs) ys h k = (h.0, h.1, formed_join (bs ++ false ∷ []) xs ys h.2 (subst (λ (ks : List Bool). AreFormed ks ys) (sym (append_assoc bs (false ∷ []) (kinds_of xs))) k))
formed_join bs (Boolean ∷ xs) ys h k = formed_join (bs ++ true ∷ []) xs ys h (subst (λ (ks : List Bool). AreFormed ks ys) (sym (append_assoc bs (true ∷ []) (kinds_of xs))) k)
formed_join bs (Posted call ∷ xs) ys h k = (h.0, formed_join bs xs ys h.1 k)

-- the calls are of the right kinds, once all variables are there
pub formed_calls : (bs : List Bool) (xs : List Item) → AreFormed bs xs → AllByRecursion (IsCall (bs ++ kinds_of xs)) (calls_of xs)
formed_calls bs [] h = tt
formed_calls bs (Ranged lo hi ∷ xs) h = subst (λ (ks : List Bool). AllByRecursion (IsCall ks) (calls_of xs)) (append_assoc bs (false ∷ []) (kinds_of xs)) (formed_calls (bs ++ false ∷ []) xs h.2)
formed_calls bs (Boolean ∷ xs) h = subst (λ (ks : List Bool). AllByRecursion (IsCall ks) (calls_of xs)) (append_assoc bs (true ∷ []) (kinds_of xs)) (formed_calls (bs ++ true ∷ []) xs h)
formed_calls bs (Posted call ∷ xs) h = (call_more bs (bs ++ kinds_of xs) (keeps_behind bs (kinds_of xs)) call h.0, formed_calls bs xs h.1)

-- the variables that the items make

pub booleans_made : (k : ℕ) (xs : List Item) → booleans_of (vars_of k xs) ≡ kinds_of xs
booleans_made k [] = refl
booleans_made k (Ranged lo hi ∷ xs) = ap (λ (ks : List Bool). false ∷ ks) (booleans_made (k + 1) xs)
booleans_made k (Boolean ∷ xs) = ap (λ (ks : List Bool). true ∷ ks) (booleans_made (k + 1) xs)
booleans_made k (Posted call ∷ xs) = booleans_made k xs

pub formed_domains : (k : ℕ) (bs : List Bool) (xs : List Item) → AreFormed bs xs → AllByRecursion (λ (v : FzVar). HasOwnDomain v.boolean v.domain) (vars_of k xs)
formed_domains k bs [] h = tt
formed_domains k bs (Ranged lo hi ∷ xs) h = ((h.0, (h.1, tt)), formed_domains (k + 1) (bs ++ false ∷ []) xs h.2)
formed_domains k bs (Boolean ∷ xs) h = (refl, formed_domains (k + 1) (bs ++ true ∷ []) xs h)
formed_domains k bs (Posted call ∷ xs) h = formed_domains k bs xs h.1
