-- Well-formed pieces: calls that state, and new variables with the calls that give them their values.
use Rattle.std.proofs.Common.{◌≡◌, ℕ, suc, ◌+◌, ◌≤◌, ℤ, pos, negsuc, neg_ℤ, ◌≤ℤ◌, Bool, true, false, List, [], ◌∷◌, ◌++◌, length, map, refl, ap, sym, ◌∙◌, subst, arith, slice_get, Some}
use Rattle.std.specs.List.{AllByRecursion}
use Rattle.std.proofs.lemmas.Int.{ints}
use Rattle.std.proofs.lemmas.List.{map-append, length-append}
use Rattle.fz_model.specs.Calls.{call_of}
use Rattle.fz_model.specs.declared.builtin.Builtin.{Builtin}
use Rattle.fz_model.specs.declared.builtin.Builtin.TheVariants.{IntLinEq, IntLinNe, IntLinLe, IntLinLeReif, IntEq, IntNe, IntLe, IntLt, IntEqReif, IntNeReif, IntLeReif, IntLtReif, IntAbs, IntTimes, IntDiv, IntMod, ArrayIntMinimum, ArrayIntMaximum, ArrayIntElement, ArrayVarIntElement, Bool2Int, BoolEq, BoolEqReif, BoolLeReif, BoolNot, BoolXor, BoolClause, ArrayBoolAnd, ArrayBoolOr, SetIn, SetInReif}
use Rattle.fz_model.specs.declared.model.Arg.{Arg, out-Arg, out-roll-Arg}
use Rattle.fz_model.specs.declared.model.Arg.TheOpen.{Arg-F, List as Listed}
use Rattle.fz_model.specs.declared.model.Arg.TheVariants as arg
use Rattle.fz_model.specs.declared.model.Call.{Call}
use Rattle.fz_model.specs.Meaning.{members}
use Rattle.fz_model.specs.declared.kind.Asked.{Asked}
use Rattle.fz_model.specs.declared.kind.Asked.TheVariants as asked
use Rattle.fz_model.specs.declared.kind.Kind.TheVariants as kind
use Rattle.fz_model.specs.Limits.{IsSmall, exactly}
use Rattle.fz_model.specs.Sound.{IsRange, IsSingle, AreSingles, IsOfKind, IsCall}
use Rattle.fz_model.proofs.Calls.{members-List}
use Rattle.lo_base.specs.Formed.{kinds_of, AreFormed, Keeps}
use Rattle.lo_base.specs.Item.{Item, Ranged, Boolean, Posted, made}
use Rattle.lo_base.proofs.Formed.{keeps_behind, kind_here}
use Rattle.lo_emit.specs.declared.term.Term.{Term}
use Rattle.lo_emit.specs.declared.term.Term.TheVariants.{Int, Truth, Var}
use Rattle.lo_emit.specs.Emitted.{Out, arg_of, list_of, constants_of, standing, integer, boolean, integer_of_one, integer_of_two, integer_of_list, integer_of_sum, integer_of_place, integer_of_constants, integer_of_value, truth_values, integer_of_truth, truth_of_one, truth_of_two, truth_of_list, truth_of_set, truth_of_range, truth_of_sum, truth_of_number, clause}
use Rattle.lo_rules.specs.Formed.{IsInteger, IsLogic, AreIntegerTerms, AreLogicTerms, Makes}
use Rattle.xf_num.specs.Span.{Bounds}

-- arguments

module _ (bs : List Bool) where
  pub integer_single : (t : Term) → IsInteger bs t → IsSingle bs asked.Int (out-Arg (arg_of t))
  unfolding out-Arg denote.Hole.Carrier.out
  integer_single (Int z) h = h
  integer_single (Truth t) h = absurd h
  integer_single (Var v) h = h

  pub logic_single : (t : Term) → IsLogic bs t → IsSingle bs asked.Bool (out-Arg (arg_of t))
  unfolding out-Arg denote.Hole.Carrier.out
  logic_single (Int z) h = absurd h
  logic_single (Truth t) h = tt
  logic_single (Var v) h = h

  pub constant_single : (z : ℤ) → IsSmall (exactly z) → IsSingle bs asked.IntConstant (out-Arg (arg.Int z))
  unfolding out-Arg denote.Hole.Carrier.out
  constant_single z h = h

  pub range_kind : (w : Bounds) → IsRange w → IsOfKind bs kind.Set (out-Arg (arg.Range w))
  unfolding out-Arg denote.Hole.Carrier.out
  range_kind w h = h

  pub set_kind : (zs : List ℤ) → AllByRecursion (λ z. IsSmall (exactly z)) zs → IsOfKind bs kind.Set (out-Arg (arg.Set zs))
  unfolding out-Arg denote.Hole.Carrier.out
  set_kind zs h = h

  list_is : (xs : List Arg) → out-Arg (arg.List xs) ≡ Listed xs
  list_is xs = ap out-Arg (sym (arg.rolls-List xs)) ∙ out-roll-Arg (Listed xs)

  many : (s : Asked) (xs : List Arg) → AllByRecursion (λ x. IsSingle bs s (out-Arg x)) xs → IsOfKind bs (kind.Many s) (out-Arg (arg.List xs))
  many s xs h = subst (λ (l : Arg-F Arg). IsOfKind bs (kind.Many s) l) (sym (list_is xs)) h

  integer_singles : (ts : List Term) → AreIntegerTerms bs ts → AllByRecursion (λ x. IsSingle bs asked.Int (out-Arg x)) (map arg_of ts)
  integer_singles [] h = tt
  integer_singles (t ∷ ts) h = (integer_single t h.0, integer_singles ts h.1)

  logic_singles : (ts : List Term) → AreLogicTerms bs ts → AllByRecursion (λ x. IsSingle bs asked.Bool (out-Arg x)) (map arg_of ts)
  logic_singles [] h = tt
  logic_singles (t ∷ ts) h = (logic_single t h.0, logic_singles ts h.1)

  constant_singles : (zs : List ℤ) → AllByRecursion (λ z. IsSmall (exactly z)) zs → AllByRecursion (λ x. IsSingle bs asked.IntConstant (out-Arg x)) (map arg.Int zs)
  constant_singles [] h = tt
  constant_singles (z ∷ zs) h = (constant_single z h.0, constant_singles zs h.1)

  pub integers_kind : (ts : List Term) → AreIntegerTerms bs ts → IsOfKind bs (kind.Many asked.Int) (out-Arg (list_of ts))
  integers_kind ts h = many asked.Int (map arg_of ts) (integer_singles ts h)

  pub logics_kind : (ts : List Term) → AreLogicTerms bs ts → IsOfKind bs (kind.Many asked.Bool) (out-Arg (list_of ts))
  logics_kind ts h = many asked.Bool (map arg_of ts) (logic_singles ts h)

  pub constants_kind : (zs : List ℤ) → AllByRecursion (λ z. IsSmall (exactly z)) zs → IsOfKind bs (kind.Many asked.IntConstant) (out-Arg (constants_of zs))
  constants_kind zs h = many asked.IntConstant (map arg.Int zs) (constant_singles zs h)

mapped_long : {X Y : Type 0} (f : X → Y) (xs : List X) → length (map f xs) ≡ length xs
mapped_long f [] = refl
mapped_long f (x ∷ xs) = ap suc (mapped_long f xs)

pub one_length : (cs : List ℤ) (ts : List Term) → length cs ≡ length ts → length (members (constants_of cs)) ≡ length (members (list_of ts))
one_length cs ts e =
    ap length (members-List (map arg.Int cs)) ∙ mapped_long arg.Int cs ∙ e ∙ sym (ap length (members-List (map arg_of ts)) ∙ mapped_long arg_of ts)

-- with more variables before

module _ (bs cs : List Bool) (keeps : Keeps bs cs) where
  pub integer_more : (t : Term) → IsInteger bs t → IsInteger cs t
  integer_more (Int z) h = h
  integer_more (Truth t) h = absurd h
  integer_more (Var v) h = keeps v false h

  pub logic_more : (t : Term) → IsLogic bs t → IsLogic cs t
  logic_more (Int z) h = absurd h
  logic_more (Truth t) h = tt
  logic_more (Var v) h = keeps v true h

  pub integers_more : (ts : List Term) → AreIntegerTerms bs ts → AreIntegerTerms cs ts
  integers_more [] h = tt
  integers_more (t ∷ ts) h = (integer_more t h.0, integers_more ts h.1)

  pub logics_more : (ts : List Term) → AreLogicTerms bs ts → AreLogicTerms cs ts
  logics_more [] h = tt
  logics_more (t ∷ ts) h = (logic_more t h.0, logics_more ts h.1)

pub all_join : {X : Type 0} (P : X → Type 0) (xs ys : List X) → AllByRecursion P xs → AllByRecursion P ys → AllByRecursion P (xs ++ ys)
all_join P [] ys h k = k
all_join P (x ∷ xs) ys h k = (h.0, all_join P xs ys h.1 k)

-- small integers

pub small_negated : (z : ℤ) → IsSmall (exactly z) → IsSmall (exactly (neg_ℤ z))
small_negated z h = record { from = omega (arith, ints, h.to); to = omega (arith, ints, h.from) }

pub small_one : IsSmall (exactly (pos 1))
small_one = record { from = omega (arith, ints); to = omega (arith, ints) }

pub small_minus_one : IsSmall (exactly (negsuc 0))
small_minus_one = record { from = omega (arith, ints); to = omega (arith, ints) }

pub small_zero : IsSmall (exactly (pos 0))
small_zero = record { from = omega (arith, ints); to = omega (arith, ints) }

pub small_truths : IsSmall truth_values
small_truths = record { from = omega (arith, ints); to = omega (arith, ints) }

pub small_ones : {X : Type 0} (xs : List X) → AllByRecursion (λ z. IsSmall (exactly z)) (map (λ (x : X). pos 1) xs)
small_ones [] = tt
small_ones (x ∷ xs) = (small_one, small_ones xs)

-- the kind of a clause's, a relation's and a set's arguments

module _ (bs : List Bool) where
  pub formed_posted : (call : Call) → IsCall bs call → AreFormed bs (Posted call ∷ [])
  formed_posted call h = (h, tt)

  pub formed_clause : (ps ns : List Term) → AreLogicTerms bs ps → AreLogicTerms bs ns → IsCall bs (clause ps ns)
  formed_clause ps ns h k = record { kinds = (logics_kind bs ps h, (logics_kind bs ns k, tt)); lengths = tt }

  pub formed_set : (t : Term) (zs : List ℤ) → IsInteger bs t → AllByRecursion (λ z. IsSmall (exactly z)) zs → IsCall bs (call_of SetIn (arg_of t ∷ arg.Set zs ∷ []))
  formed_set t zs h k = record { kinds = (integer_single bs t h, (set_kind bs zs k, tt)); lengths = tt }

  pub formed_range : (t : Term) (w : Bounds) → IsInteger bs t → IsRange w → IsCall bs (call_of SetIn (arg_of t ∷ arg.Range w ∷ []))
  formed_range t w h k = record { kinds = (integer_single bs t h, (range_kind bs w k, tt)); lengths = tt }

  pub formed_member : (k : Term) (ts : List Term) (t : Term) → IsInteger bs k → AreIntegerTerms bs ts → IsInteger bs t → IsCall bs (call_of ArrayVarIntElement (arg_of k ∷ list_of ts ∷ arg_of t ∷ []))
  formed_member k ts t hk h ht = record { kinds = (integer_single bs k hk, (integers_kind bs ts h, (integer_single bs t ht, tt))); lengths = tt }

  pub formed_constant_member : (k : Term) (zs : List ℤ) (t : Term) → IsInteger bs k → AllByRecursion (λ z. IsSmall (exactly z)) zs → IsInteger bs t
      → IsCall bs (call_of ArrayIntElement (arg_of k ∷ constants_of zs ∷ arg_of t ∷ []))
  formed_constant_member k zs t hk h ht = record { kinds = (integer_single bs k hk, (constants_kind bs zs h, (integer_single bs t ht, tt))); lengths = tt }

  pub formed_equal_truths : (t u : Term) → IsLogic bs t → IsLogic bs u → IsCall bs (call_of BoolEq (arg_of t ∷ arg_of u ∷ []))
  formed_equal_truths t u h k = record { kinds = (logic_single bs t h, (logic_single bs u k, tt)); lengths = tt }

  pub formed_linear : (cs : List ℤ) (ts : List Term) (k : ℤ) → length cs ≡ length ts → AllByRecursion (λ z. IsSmall (exactly z)) cs → AreIntegerTerms bs ts → IsSmall (exactly k)
      → IsCall bs (call_of IntLinEq (constants_of cs ∷ list_of ts ∷ arg.Int k ∷ []))
  formed_linear cs ts k e hc h hk = record { kinds = (constants_kind bs cs hc, (integers_kind bs ts h, (constant_single bs k hk, tt))); lengths = one_length cs ts e }

-- new variables, the first of which is n

module _ (bs : List Bool) (n : ℕ) (here : length bs ≡ n) where
  pub is_new : (t : Bool) → slice_get (bs ++ t ∷ []) n ≡ Some t
  is_new t = ap (slice_get (bs ++ t ∷ [])) (sym here) ∙ kind_here bs t []

  pub makes_boolean : (call : Call) → IsCall (bs ++ true ∷ []) call → Makes IsLogic bs (boolean n call)
  makes_boolean call h = record { formed = (h, tt); term = is_new true }

  pub makes_ranged : (w : Bounds) (call : Call) → w.lo ≤ℤ w.hi → IsSmall w → IsCall (bs ++ false ∷ []) call → Makes IsInteger bs (integer n w call)
  makes_ranged w call le small h = record { formed = (le, small, (h, tt)); term = is_new false }

  -- a lone integer of one value
  pub makes_value : (z : ℤ) → IsSmall (exactly z) → Makes IsInteger bs (integer_of_value n z)
  makes_value z h = record { formed = (omega (arith, ints), h, tt); term = is_new false }

  behind : (t : Bool) → Keeps bs (bs ++ t ∷ [])
  behind t = keeps_behind bs (t ∷ [])

  int_in : (t : Bool) (x : Term) → IsInteger bs x → IsSingle (bs ++ t ∷ []) asked.Int (out-Arg (arg_of x))
  int_in t x h = integer_single (bs ++ t ∷ []) x (integer_more bs (bs ++ t ∷ []) (behind t) x h)

  logic_in : (t : Bool) (x : Term) → IsLogic bs x → IsSingle (bs ++ t ∷ []) asked.Bool (out-Arg (arg_of x))
  logic_in t x h = logic_single (bs ++ t ∷ []) x (logic_more bs (bs ++ t ∷ []) (behind t) x h)

  new_int : IsSingle (bs ++ false ∷ []) asked.Int (out-Arg (arg.Var n))
  new_int = integer_single (bs ++ false ∷ []) (Var n) (is_new false)

  new_logic : IsSingle (bs ++ true ∷ []) asked.Bool (out-Arg (arg.Var n))
  new_logic = logic_single (bs ++ true ∷ []) (Var n) (is_new true)

  ints_in : (t : Bool) (ts : List Term) → AreIntegerTerms bs ts → IsOfKind (bs ++ t ∷ []) (kind.Many asked.Int) (out-Arg (list_of ts))
  ints_in t ts h = integers_kind (bs ++ t ∷ []) ts (integers_more bs (bs ++ t ∷ []) (behind t) ts h)

  logics_in : (t : Bool) (ts : List Term) → AreLogicTerms bs ts → IsOfKind (bs ++ t ∷ []) (kind.Many asked.Bool) (out-Arg (list_of ts))
  logics_in t ts h = logics_kind (bs ++ t ∷ []) ts (logics_more bs (bs ++ t ∷ []) (behind t) ts h)

  -- truth values

  pub makes_eq : (x y : Term) → IsInteger bs x → IsInteger bs y → Makes IsLogic bs (truth_of_two n IntEqReif x y)
  makes_eq x y h k = makes_boolean _ (record { kinds = (int_in true x h, (int_in true y k, (new_logic, tt))); lengths = tt })

  pub makes_ne : (x y : Term) → IsInteger bs x → IsInteger bs y → Makes IsLogic bs (truth_of_two n IntNeReif x y)
  makes_ne x y h k = makes_boolean _ (record { kinds = (int_in true x h, (int_in true y k, (new_logic, tt))); lengths = tt })

  pub makes_le : (x y : Term) → IsInteger bs x → IsInteger bs y → Makes IsLogic bs (truth_of_two n IntLeReif x y)
  makes_le x y h k = makes_boolean _ (record { kinds = (int_in true x h, (int_in true y k, (new_logic, tt))); lengths = tt })

  pub makes_lt : (x y : Term) → IsInteger bs x → IsInteger bs y → Makes IsLogic bs (truth_of_two n IntLtReif x y)
  makes_lt x y h k = makes_boolean _ (record { kinds = (int_in true x h, (int_in true y k, (new_logic, tt))); lengths = tt })

  pub makes_iff : (x y : Term) → IsLogic bs x → IsLogic bs y → Makes IsLogic bs (truth_of_two n BoolEqReif x y)
  makes_iff x y h k = makes_boolean _ (record { kinds = (logic_in true x h, (logic_in true y k, (new_logic, tt))); lengths = tt })

  pub makes_imp : (x y : Term) → IsLogic bs x → IsLogic bs y → Makes IsLogic bs (truth_of_two n BoolLeReif x y)
  makes_imp x y h k = makes_boolean _ (record { kinds = (logic_in true x h, (logic_in true y k, (new_logic, tt))); lengths = tt })

  pub makes_xor : (x y : Term) → IsLogic bs x → IsLogic bs y → Makes IsLogic bs (truth_of_two n BoolXor x y)
  makes_xor x y h k = makes_boolean _ (record { kinds = (logic_in true x h, (logic_in true y k, (new_logic, tt))); lengths = tt })

  pub makes_not : (x : Term) → IsLogic bs x → Makes IsLogic bs (truth_of_one n BoolNot x)
  makes_not x h = makes_boolean _ (record { kinds = (logic_in true x h, (new_logic, tt)); lengths = tt })

  pub makes_and : (ts : List Term) → AreLogicTerms bs ts → Makes IsLogic bs (truth_of_list n ArrayBoolAnd ts)
  makes_and ts h = makes_boolean _ (record { kinds = (logics_in true ts h, (new_logic, tt)); lengths = tt })

  pub makes_or : (ts : List Term) → AreLogicTerms bs ts → Makes IsLogic bs (truth_of_list n ArrayBoolOr ts)
  makes_or ts h = makes_boolean _ (record { kinds = (logics_in true ts h, (new_logic, tt)); lengths = tt })

  pub makes_among : (x : Term) (zs : List ℤ) → IsInteger bs x → AllByRecursion (λ z. IsSmall (exactly z)) zs → Makes IsLogic bs (truth_of_set n x zs)
  makes_among x zs h k = makes_boolean _ (record { kinds = (int_in true x h, (set_kind (bs ++ true ∷ []) zs k, (new_logic, tt))); lengths = tt })

  pub makes_within : (x : Term) (w : Bounds) → IsInteger bs x → IsRange w → Makes IsLogic bs (truth_of_range n x w)
  makes_within x w h k = makes_boolean _ (record { kinds = (int_in true x h, (range_kind (bs ++ true ∷ []) w k, (new_logic, tt))); lengths = tt })

  pub makes_at_most : (cs : List ℤ) (ts : List Term) (k : ℤ) → length cs ≡ length ts → AllByRecursion (λ z. IsSmall (exactly z)) cs → AreIntegerTerms bs ts → IsSmall (exactly k) → Makes IsLogic bs (truth_of_sum n cs ts k)
  makes_at_most cs ts k e hc h hk =
      makes_boolean _ (record { kinds = (constants_kind (bs ++ true ∷ []) cs hc, (ints_in true ts h, (constant_single (bs ++ true ∷ []) k hk, (new_logic, tt)))); lengths = one_length cs ts e })

  pub makes_tested : (x : Term) → IsInteger bs x → Makes IsLogic bs (truth_of_number n x)
  makes_tested x h = makes_boolean _ (record { kinds = (new_logic, (int_in true x h, tt)); lengths = tt })

  -- integers

  pub makes_counted : (x : Term) → IsLogic bs x → Makes IsInteger bs (integer_of_truth n x)
  makes_counted x h = makes_ranged truth_values _ (omega (arith, ints)) small_truths (record { kinds = (logic_in false x h, (new_int, tt)); lengths = tt })

  module _ (w : Bounds) (le : w.lo ≤ℤ w.hi) (small : IsSmall w) where
    pub makes_absolute : (x : Term) → IsInteger bs x → Makes IsInteger bs (integer_of_one n w IntAbs x)
    makes_absolute x h = makes_ranged w _ le small (record { kinds = (int_in false x h, (new_int, tt)); lengths = tt })

    pub makes_product : (x y : Term) → IsInteger bs x → IsInteger bs y → Makes IsInteger bs (integer_of_two n w IntTimes x y)
    makes_product x y h k = makes_ranged w _ le small (record { kinds = (int_in false x h, (int_in false y k, (new_int, tt))); lengths = tt })

    pub makes_quotient : (x y : Term) → IsInteger bs x → IsInteger bs y → Makes IsInteger bs (integer_of_two n w IntDiv x y)
    makes_quotient x y h k = makes_ranged w _ le small (record { kinds = (int_in false x h, (int_in false y k, (new_int, tt))); lengths = tt })

    pub makes_remainder : (x y : Term) → IsInteger bs x → IsInteger bs y → Makes IsInteger bs (integer_of_two n w IntMod x y)
    makes_remainder x y h k = makes_ranged w _ le small (record { kinds = (int_in false x h, (int_in false y k, (new_int, tt))); lengths = tt })

    pub makes_least : (ts : List Term) → AreIntegerTerms bs ts → Makes IsInteger bs (integer_of_list n w ArrayIntMinimum ts)
    makes_least ts h = makes_ranged w _ le small (record { kinds = (new_int, (ints_in false ts h, tt)); lengths = tt })

    pub makes_greatest : (ts : List Term) → AreIntegerTerms bs ts → Makes IsInteger bs (integer_of_list n w ArrayIntMaximum ts)
    makes_greatest ts h = makes_ranged w _ le small (record { kinds = (new_int, (ints_in false ts h, tt)); lengths = tt })

    pub makes_sum : (cs : List ℤ) (ts : List Term) (c : ℤ) → length cs ≡ length ts + 1 → AllByRecursion (λ z. IsSmall (exactly z)) cs → AreIntegerTerms bs ts → IsSmall (exactly c) → Makes IsInteger bs (integer_of_sum n w cs ts c)
    makes_sum cs ts c e hc h hk =
        let more : List Bool = bs ++ false ∷ [] in
        makes_ranged w _ le small
        (formed_linear more cs (ts ++ Var n ∷ []) c (e ∙ sym (length-append ts (Var n ∷ []))) hc (all_join (IsInteger more) ts (Var n ∷ []) (integers_more bs more (behind false) ts h) (is_new false, tt)) hk)

    pub makes_place : (k : Term) (ts : List Term) → IsInteger bs k → AreIntegerTerms bs ts → Makes IsInteger bs (integer_of_place n w k ts)
    makes_place k ts hk h = makes_ranged w _ le small (record { kinds = (int_in false k hk, (ints_in false ts h, (new_int, tt))); lengths = tt })

    pub makes_constant_place : (k : Term) (zs : List ℤ) → IsInteger bs k → AllByRecursion (λ z. IsSmall (exactly z)) zs → Makes IsInteger bs (integer_of_constants n w k zs)
    makes_constant_place k zs hk h = makes_ranged w _ le small (record { kinds = (int_in false k hk, (constants_kind (bs ++ false ∷ []) zs h, (new_int, tt))); lengths = tt })
