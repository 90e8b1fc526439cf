-- What is sound stays so behind one variable more.
use Rattle.std.proofs.Common.{◌≡◌, ℕ, zero, suc, Bool, true, false, List, [], ◌∷◌, ◌++◌, length, slice_get, Some, refl, sym, ap, subst, append_assoc}
use Rattle.std.proofs.lemmas.List.{map-append}
use Rattle.std.specs.List.{AllByRecursion}
use Rattle.fz_model.specs.declared.kind.Asked.{Asked}
use Rattle.fz_model.specs.declared.kind.Asked.TheVariants as asked
use Rattle.fz_model.specs.declared.kind.Kind.{Kind}
use Rattle.fz_model.specs.declared.kind.Kind.TheVariants as kind
use Rattle.fz_model.specs.declared.model.Arg.{Arg, out-Arg}
use Rattle.fz_model.specs.declared.model.Arg.TheOpen.{Arg-F, Int, Bool as Truth, Var, Range, Set, List as Listed}
use Rattle.fz_model.specs.declared.model.Call.{Call}
use Rattle.fz_model.specs.declared.model.FzVar.{FzVar}
use Rattle.fz_model.specs.declared.model.Output.{Output}
use Rattle.fz_model.specs.Kinds.{kinds_at}
use Rattle.fz_model.specs.Sound.{IsSingle, AreSingles, IsOfKind, AreOfKinds, IsCall, IsVar, AreVars, IsOutput, booleans_of, asked_of}
use Rattle.fz_values.specs.declared.meaning.Single.{Single}
use Rattle.fz_values.specs.declared.meaning.Single.TheVariants as single
use Rattle.fz_values.specs.declared.meaning.Meaning.{Meaning}
use Rattle.fz_values.specs.declared.meaning.Meaning.TheVariants as meaning
use Rattle.fz_sound.proofs.SoundValues.{IsValue, IsMeaning, AreMeanings}

pub all_more : {X : Type 0} (P : X → Type 0) (xs : List X) (x : X) → AllByRecursion P xs → P x → AllByRecursion P (xs ++ x ∷ [])
all_more P [] x h g = (g, tt)
all_more P (y ∷ ys) x h g = (h.0, all_more P ys x h.1 g)

pub all_weaker : {X : Type 0} (P Q : X → Type 0) (xs : List X) → ((x : X) → P x → Q x) → AllByRecursion P xs → AllByRecursion Q xs
all_weaker P Q [] f h = tt
all_weaker P Q (x ∷ xs) f h = (f x h.0, all_weaker P Q xs f h.1)

module _ (bs : List Bool) (b : Bool) where
  abbrev more : List Bool
  more = bs ++ b ∷ []

  get_on : (xs : List Bool) (v : ℕ) (t : Bool) → slice_get xs v ≡ Some t → slice_get (xs ++ b ∷ []) v ≡ Some t
  get_on [] v t h = cc
  get_on (x ∷ xs) zero t h = h
  get_on (x ∷ xs) (suc v) t h = get_on xs v t h

  get_more : (v : ℕ) (t : Bool) → slice_get bs v ≡ Some t → slice_get more v ≡ Some t
  get_more v t h = get_on bs v t h

  value_more : (x : Single) → IsValue bs x → IsValue more x
  value_more (single.Int z) h = h
  value_more (single.Bool t) h = tt
  value_more (single.IntVar v) h = get_more v false h
  value_more (single.BoolVar v) h = get_more v true h

  meaning_more : (m : Meaning) → IsMeaning bs m → IsMeaning more m
  meaning_more (meaning.One x) h = value_more x h
  meaning_more (meaning.Set s) h = h
  meaning_more (meaning.Array s xs) h = all_weaker (IsValue bs) (IsValue more) xs value_more h

  pub meanings_more : (names : List (List ℕ × Meaning)) → AreMeanings bs names → AreMeanings more names
  meanings_more names h = all_weaker (λ e. IsMeaning bs e.1) (λ e. IsMeaning more e.1) names (λ e g. meaning_more e.1 g) h

  single_more : (a : Asked) (x : Arg-F Arg) → IsSingle bs a x → IsSingle more a x
  single_more asked.Int (Int k) h = h
  single_more asked.Int (Truth t) h = absurd h
  single_more asked.Int (Var v) h = get_more v false h
  single_more asked.Int (Range s) h = absurd h
  single_more asked.Int (Set zs) h = absurd h
  single_more asked.Int (Listed xs) h = absurd h
  single_more asked.Bool (Int k) h = absurd h
  single_more asked.Bool (Truth t) h = tt
  single_more asked.Bool (Var v) h = get_more v true h
  single_more asked.Bool (Range s) h = absurd h
  single_more asked.Bool (Set zs) h = absurd h
  single_more asked.Bool (Listed xs) h = absurd h
  single_more asked.IntConstant (Int k) h = h
  single_more asked.IntConstant (Truth t) h = absurd h
  single_more asked.IntConstant (Var v) h = absurd h
  single_more asked.IntConstant (Range s) h = absurd h
  single_more asked.IntConstant (Set zs) h = absurd h
  single_more asked.IntConstant (Listed xs) h = absurd h
  single_more asked.BoolConstant (Int k) h = absurd h
  single_more asked.BoolConstant (Truth t) h = tt
  single_more asked.BoolConstant (Var v) h = absurd h
  single_more asked.BoolConstant (Range s) h = absurd h
  single_more asked.BoolConstant (Set zs) h = absurd h
  single_more asked.BoolConstant (Listed xs) h = absurd h

  singles_more : (a : Asked) (xs : List Arg) → AreSingles bs a xs → AreSingles more a xs
  singles_more a xs h = all_weaker (λ x. IsSingle bs a (out-Arg x)) (λ x. IsSingle more a (out-Arg x)) xs (λ x g. single_more a (out-Arg x) g) h

  of_kind_more : (k : Kind) (x : Arg-F Arg) → IsOfKind bs k x → IsOfKind more k x
  of_kind_more (kind.One a) x h = single_more a x h
  of_kind_more (kind.Many a) (Int k) h = absurd h
  of_kind_more (kind.Many a) (Truth t) h = absurd h
  of_kind_more (kind.Many a) (Var v) h = absurd h
  of_kind_more (kind.Many a) (Range s) h = absurd h
  of_kind_more (kind.Many a) (Set zs) h = absurd h
  of_kind_more (kind.Many a) (Listed xs) h = singles_more a xs h
  of_kind_more kind.Set (Int k) h = absurd h
  of_kind_more kind.Set (Truth t) h = absurd h
  of_kind_more kind.Set (Var v) h = absurd h
  of_kind_more kind.Set (Range s) h = h
  of_kind_more kind.Set (Set zs) h = h
  of_kind_more kind.Set (Listed xs) h = absurd h

  of_kinds_more : (ks : List Kind) (xs : List Arg) → AreOfKinds bs ks xs → AreOfKinds more ks xs
  of_kinds_more [] [] h = tt
  of_kinds_more [] (x ∷ xs) h = absurd h
  of_kinds_more (k ∷ ks) [] h = absurd h
  of_kinds_more (k ∷ ks) (x ∷ xs) h = (of_kind_more k (out-Arg x) h.0, of_kinds_more ks xs h.1)

  call_more : (c : Call) → IsCall bs c → IsCall more c
  call_more c h = record { kinds = of_kinds_more (kinds_at c.builtin (length c.args)) c.args h.kinds; lengths = h.lengths }

  pub calls_more : (cs : List Call) → AllByRecursion (IsCall bs) cs → AllByRecursion (IsCall more) cs
  calls_more cs h = all_weaker (IsCall bs) (IsCall more) cs call_more h

  output_more : (o : Output) → IsOutput bs o → IsOutput more o
  output_more o h = record { some = h.some; dims = h.dims; sized = h.sized; few = h.few; each = singles_more (asked_of o.boolean) o.members h.each }

  pub outputs_more : (os : List Output) → AllByRecursion (IsOutput bs) os → AllByRecursion (IsOutput more) os
  outputs_more os h = all_weaker (IsOutput bs) (IsOutput more) os output_more h

-- the last one is at the place of its number
pub get_last : (bs : List Bool) (b : Bool) → slice_get (bs ++ b ∷ []) (length bs) ≡ Some b
get_last [] b = refl
get_last (c ∷ cs) b = get_last cs b

pub booleans_more : (vs : List FzVar) (v : FzVar) → booleans_of (vs ++ v ∷ []) ≡ booleans_of vs ++ v.boolean ∷ []
booleans_more vs v = map-append (λ (w : FzVar). w.boolean) vs (v ∷ [])

pub vars_more : (earlier : List Bool) (vs : List FzVar) (v : FzVar) → AreVars earlier vs → IsVar (earlier ++ booleans_of vs) v → AreVars earlier (vs ++ v ∷ [])
vars_more earlier [] v h g = (subst (λ bs. IsVar bs v) (no_more earlier) g, tt)
  where
    no_more : (bs : List Bool) → bs ++ [] ≡ bs
    no_more [] = refl
    no_more (c ∷ cs) = ap (λ ds. c ∷ ds) (no_more cs)
vars_more earlier (w ∷ ws) v h g =
    (h.0, vars_more (earlier ++ w.boolean ∷ []) ws v h.1 (subst (λ bs. IsVar bs v) (sym (append_assoc earlier (w.boolean ∷ []) (booleans_of ws))) g))
