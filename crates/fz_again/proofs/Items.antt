-- Each item of a sound model misses nothing, and leaves what it is written of.
use Rattle.std.proofs.Common.{◌≡◌, ℕ, ◌+◌, ◌-◌, ◌≤◌, ℤ, Bool as Truth, true, false, ◌&&◌, not, List, [], ◌∷◌, length, map, Option, None, Some, is_some, refl, ap, sym, ◌∙◌, arith, if◌then◌else◌, ◌++◌}
use Rattle.std.specs.Prelude.{int_le, nat_eq, nat_le, nat_lt}
use Rattle.std.specs.List.{AllByRecursion, list_all}
use Rattle.std.specs.Fmt.{decimal, signed_decimal}
use Rattle.std.proofs.lemmas.Bool.Decides.{nat_tests}
use Rattle.std.proofs.lemmas.List.{length-append}
use Rattle.xf_num.specs.Span.{Bounds}
use Rattle.fz_model.specs.declared.builtin.Builtin.{Builtin}
use Rattle.fz_model.specs.declared.builtin.Builtin.TheVariants.{IntLinEq, IntLinNe, IntLinLe, IntLinEqReif, IntLinNeReif, IntLinLeReif, BoolLinEq, BoolLinLe}
use Rattle.fz_model.specs.declared.kind.Asked.{Asked}
use Rattle.fz_model.specs.declared.kind.Asked.TheVariants as asked
use Rattle.fz_model.specs.declared.kind.Kind.{Kind}
use Rattle.fz_model.specs.declared.kind.Kind.TheVariants as kind
use Rattle.fz_model.specs.declared.model.Arg.{Arg}
use Rattle.fz_model.specs.declared.model.Call.{Call}
use Rattle.fz_model.specs.declared.model.FzVar.{FzVar}
use Rattle.fz_model.specs.declared.model.Goal as flat
use Rattle.fz_model.specs.declared.model.Goal.TheVariants as goal
use Rattle.fz_model.specs.declared.model.Output.{Output}
use Rattle.fz_model.specs.Builtins.{name_of, by_name}
use Rattle.fz_model.specs.Kinds.{kinds_at, is_linear}
use Rattle.fz_model.specs.Meaning.{members}
use Rattle.fz_model.specs.Limits.{most_variables}
use Rattle.fz_model.specs.Size.{call_leaves as leaves_of_call}
use Rattle.fz_model.specs.Sound.{IsRange, IsVar, IsEqualTo, IsOutput, IsCall, IsGoal, AreOfKinds, AreAsMany, asked_of, places}
use Rattle.fz_model.proofs.Calls.{members-List}
use Rattle.fz_model.proofs.Names.{by_name-name_of}
use Rattle.fz_file.specs.Layout.{name_at}
use Rattle.fz_grammar.specs.Items.{solve}
use Rattle.fz_grammar.specs.declared.tree.Expr.{Expr, out-Expr}
use Rattle.fz_grammar.specs.declared.tree.Expr.TheVariants as expr
use Rattle.fz_grammar.specs.declared.tree.Item.{Item}
use Rattle.fz_grammar.specs.declared.tree.VarType.{VarType}
use Rattle.fz_values.specs.declared.meaning.Single.TheVariants as single
use Rattle.fz_values.specs.declared.meaning.Meaning.{Meaning}
use Rattle.fz_values.specs.declared.meaning.Meaning.TheVariants as meaning
use Rattle.fz_values.specs.Integers.{is_small, int_of}
use Rattle.fz_values.specs.Names.{look_up}
use Rattle.fz_values.specs.Values.{named, is_known, are_small}
use Rattle.fz_values.specs.Kinds.{is_within, fits, all_fit, reaches, all_reach, members_in, arg_of, args_in, all_leaves}
use Rattle.fz_items.specs.declared.condition.Meets.{Meets}
use Rattle.fz_items.specs.declared.progress.Progress.{Progress}
use Rattle.fz_items.specs.Conditions.{first_missed, lasting}
use Rattle.fz_items.specs.Progress.{is_new, with_name, with_var, with_output, with_call}
use Rattle.fz_items.specs.Notes.{notes_small, is_shown, span_step, onto, spans_of, dims_step, or_else, shown_as}
use Rattle.fz_items.specs.Items.{has_length, is_bool, var_kind, type_small, has_member, type_leaves, value_known, value_fits, value_small, value_reaches, value_arg, is_int_var, var_at, member_sort, array_kind, dims_fit, shown_output, with_shown, call_kinds, is_linear_call, first_two, lengths_fit, with_builtin, item_meets, item_behind, objective, access_meets, domain_of}
use Rattle.fz_items.specs.Items as read
use Rattle.fz_again.specs.Tree.{expr_of, type_of, member_type, shown_notes, value_of, output_notes, var_item, output_item, call_item, goal_of, range_of}
use Rattle.fz_again.specs.Counts.{var_members}
use Rattle.fz_again.proofs.Arguments.{low_end, high_end}
use Rattle.fz_again.proofs.Domains.{both, le_true, IsDomainOf, domain_again}
use Rattle.fz_again.proofs.Folds.{out-Range, out-List, small-Range, small-List}
use Rattle.fz_again.proofs.Names.{Names, var_is, Knows}
use Rattle.fz_again.proofs.Numbers.{int_again, small_again, length_small, length_again}
use Rattle.fz_again.proofs.Trees.{length_mapped}
use Rattle.fz_again.proofs.Values.{IsRead, one_read, members_back, members_count, many_read, one_again, ones_again, kind_again, kinds_again, AreRead}

all_met : (a b c d e f g : Truth) → a ≡ true → b ≡ true → c ≡ true → d ≡ true → e ≡ true → g ≡ true
    → first_missed lasting (record { known = a; naming = b; kinds = c; magnitude = d; shape = e; counting = f; bounded = g }) ≡ None
all_met true true true true true f true h i j k l n = refl
all_met true true true true true f false h i j k l n = cc
all_met true true true true false f g h i j k l n = cc
all_met true true true false e f g h i j k l n = cc
all_met true true false d e f g h i j k l n = cc
all_met true false c d e f g h i j k l n = cc
all_met false b c d e f g h i j k l n = cc

-- where each condition is met, but for that on the counts, none of the others is missed
met : (m : Meets) → m.known ≡ true → m.naming ≡ true → m.kinds ≡ true → m.magnitude ≡ true → m.shape ≡ true → m.bounded ≡ true → first_missed lasting m ≡ None
met m h i j k l n = all_met m.known m.naming m.kinds m.magnitude m.shape m.counting m.bounded h i j k l n

new_is : (p : Progress) (w : List ℕ) → look_up p.names w ≡ None → is_new p w ≡ true
new_is p w h = ap (λ o. not (is_some o)) h

same_number : (a b : ℕ) → a ≡ b → nat_eq a b ≡ true
same_number a b e = grind (arith, nat_tests, e)

asked_is : (b : Truth) → (if b then asked.Bool else asked.Int) ≡ asked_of b
asked_is true = refl
asked_is false = refl

-- calls

abbrev two_lists : List Kind → Truth
two_lists (kind.Many a ∷ kind.Many c ∷ ks) = true
two_lists _ = false

-- a linear builtin is given two lists
linear_lists : (b : Builtin) (n : ℕ) → is_linear b ≡ true → two_lists (kinds_at b n) ≡ true
linear_lists IntLinEq n h = refl
linear_lists IntLinNe n h = refl
linear_lists IntLinLe n h = refl
linear_lists IntLinEqReif n h = refl
linear_lists IntLinNeReif n h = refl
linear_lists IntLinLeReif n h = refl
linear_lists BoolLinEq n h = refl
linear_lists BoolLinLe n h = refl
linear_lists _ n h = cc

module _ (names : List (List ℕ)) (booleans : List Truth) (known : Names) (knows : Knows names booleans known) where
  -- what is declared to equal a variable

  record IsValueRead (k : Kind) (equal : Option Arg) : Type 0 where
    pub known_too : value_known known (value_of names equal) ≡ true
    pub fit : value_fits known k (value_of names equal) ≡ true
    pub small : value_small (value_of names equal) ≡ true
    pub reach : value_reaches known k (value_of names equal) ≡ true
    pub back : value_arg known k (value_of names equal) ≡ equal

  value_read : (b : Truth) (equal : Option Arg) → IsEqualTo booleans (asked_of b) equal → IsValueRead (kind.One (asked_of b)) equal
  value_read b None h = record { known_too = refl; fit = refl; small = refl; reach = refl; back = refl }
  value_read b (Some y) h =
      let r = one_read known (asked_of b) (expr_of names y) y (one_again names booleans known knows (asked_of b) y h) in
      record { known_too = r.names; fit = r.fit; small = r.small; reach = r.reach; back = ap (λ z. Some z) r.back }

  -- calls

  counted : (a : Asked) (x : Expr) (y : Arg) → IsRead known (kind.Many a) x y → length (members_in known x) ≡ length (members y)
  counted a x y h =
      sym (length_mapped arg_of (members_in known x)) ∙ (ap length (sym (members-List (map arg_of (members_in known x)))) ∙ ap (λ z. length (members z)) h.back)

  two_as_many : (ks : List Kind) (ys : List Arg) → two_lists ks ≡ true → AreOfKinds booleans ks ys → AreAsMany true ys → first_two known (map (expr_of names) ys) ≡ true
  two_as_many ks [] e h same = refl
  two_as_many ks (y ∷ []) e h same = refl
  two_as_many [] (y ∷ z ∷ zs) e h same = absurd h
  two_as_many (kind.One a ∷ ks) (y ∷ z ∷ zs) e h same = cc
  two_as_many (kind.Set ∷ ks) (y ∷ z ∷ zs) e h same = cc
  two_as_many (kind.Many a ∷ []) (y ∷ z ∷ zs) e h same = cc
  two_as_many (kind.Many a ∷ kind.One c ∷ ks) (y ∷ z ∷ zs) e h same = cc
  two_as_many (kind.Many a ∷ kind.Set ∷ ks) (y ∷ z ∷ zs) e h same = cc
  two_as_many (kind.Many a ∷ kind.Many c ∷ ks) (y ∷ z ∷ zs) e h same =
      let first = counted a (expr_of names y) y (kind_again names booleans known knows (kind.Many a) y h.0) in
      let second = counted c (expr_of names z) z (kind_again names booleans known knows (kind.Many c) z h.1.0) in
      same_number (length (members_in known (expr_of names y))) (length (members_in known (expr_of names z))) (first ∙ (same ∙ sym second))

  lengths_again : (linear : Truth) (ks : List Kind) (ys : List Arg) → (linear ≡ true → two_lists ks ≡ true) → AreOfKinds booleans ks ys → AreAsMany linear ys → lengths_fit known linear (map (expr_of names) ys) ≡ true
  lengths_again true ks ys f h same = two_as_many ks ys (f refl) h same
  lengths_again false ks ys f h same = refl

-- an item misses nothing and leaves this, with so many leaves and variables more; and it is counted, where these are few
pub record Leaves (bound : Option ℤ) (p : Progress) (x : Item) (place : ℕ) (q : Progress) (leaves more : ℕ) : Type 0 where
  pub none : first_missed lasting (item_meets bound p x) ≡ None
  pub behind : item_behind bound p x place ≡ q
  pub counting : leaves ≤ p.room → length p.vars + more ≤ most_variables → (item_meets bound p x).counting ≡ true
  pub room : q.room ≡ p.room - leaves
  pub vars : length q.vars ≡ length p.vars + more

few : (a n : ℕ) → a ≤ n → nat_le a n ≡ true
few a n h = grind (arith, nat_tests, h)

some_left : (n : ℕ) → n + 1 ≤ most_variables → nat_lt n most_variables ≡ true
some_left n h = grind (arith, nat_tests, h)

pushed : {X : Type 0} (xs : List X) (x : X) → length (xs ++ x ∷ []) ≡ length xs + 1
pushed xs x = length-append xs (x ∷ [])

none_more : (n : ℕ) → n ≡ n + 0
none_more n = omega arith

abbrev pub placed_call : Call → ℕ → Call
placed_call c place = record { builtin = c.builtin; args = c.args; place = place }

-- the room behind a call
abbrev pub room_behind : List (List ℕ) → Progress → Call → ℕ
room_behind names p c =
    let xs : List Expr = map (expr_of names) c.args in p.room - all_leaves p.names (kinds_at c.builtin (length xs)) xs

pub call_leaves : (bound : Option ℤ) (names : List (List ℕ)) (booleans : List Truth) (p : Progress) → Knows names booleans p.names → (c : Call) → IsCall booleans c → (place : ℕ)
    → Leaves bound p (call_item names c) place (with_call p (placed_call c place) (room_behind names p c)) (leaves_of_call c) 0
call_leaves bound names booleans p knows c h place =
    let w : List ℕ = name_of c.builtin in
    let xs : List Expr = map (expr_of names) c.args in
    let ks : List Kind = kinds_at c.builtin (length c.args) in
    let r : AreRead names booleans p.names knows ks c.args = kinds_again names booleans p.names knows ks c.args h.kinds in
    let row : by_name w ≡ Some c.builtin = by_name-name_of c.builtin in
    let as_many : length xs ≡ length c.args = length_mapped (expr_of names) c.args in
    let kinds : call_kinds (by_name w) (length xs) ≡ ks = ap (λ o. call_kinds o (length xs)) row ∙ ap (λ n. kinds_at c.builtin n) as_many in
    let args : args_in p.names (kinds_at c.builtin (length xs)) xs ≡ c.args = ap (λ n. args_in p.names (kinds_at c.builtin n) xs) as_many ∙ r.back in
    let leaves : all_leaves p.names (kinds_at c.builtin (length xs)) xs ≡ leaves_of_call c = ap (λ n. all_leaves p.names (kinds_at c.builtin n) xs) as_many ∙ r.leaves in
    let counted : all_leaves p.names (call_kinds (by_name w) (length xs)) xs ≡ leaves_of_call c = ap (λ z. all_leaves p.names z xs) kinds ∙ r.leaves in
    let fit : lengths_fit p.names (is_linear_call (by_name w)) xs ≡ true =
    ap (λ o. lengths_fit p.names (is_linear_call o) xs) row
    ∙ lengths_again names booleans p.names knows (is_linear c.builtin) ks c.args (linear_lists c.builtin (length c.args)) h.kinds h.lengths in
    record {
      none =
          met (item_meets bound p (call_item names c)) (ap is_some row) r.known_all (ap (λ z. all_fit p.names z xs) kinds ∙ r.fit) r.small
          (both (all_reach p.names (call_kinds (by_name w) (length xs)) xs) (lengths_fit p.names (is_linear_call (by_name w)) xs) (ap (λ z. all_reach p.names z xs) kinds ∙ r.reach) fit) refl;
      behind =
          ap (λ o. with_builtin p o xs place) row
          ∙ ap (λ ys. with_call p (record { builtin = c.builtin; args = ys; place = place }) (room_behind names p c)) args;
      counting = λ le many. ap (λ n. nat_le n p.room) counted ∙ few (leaves_of_call c) p.room le;
      room = ap (λ n. p.room - n) leaves;
      vars = none_more (length p.vars);
    }

-- variables

shown_small : (t : Truth) → notes_small (shown_notes t) ≡ true
shown_small true = refl
shown_small false = refl

shown_again : (t : Truth) → is_shown (shown_notes t) ≡ t
shown_again true = refl
shown_again false = refl

meaning_is : (b : Truth) (n : ℕ) → meaning.One (if b then single.BoolVar n else single.IntVar n) ≡ var_is b n
meaning_is true n = refl
meaning_is false n = refl

var_as : (v : FzVar) (b : Truth) (d : List Bounds) (e : Option Arg) (t : Truth) → b ≡ v.boolean → d ≡ v.domain → e ≡ v.equal → t ≡ v.shown → record { name = v.name; boolean = b; domain = d; equal = e; shown = t } ≡ v
var_as v b d e t h i j k = rw (h, i, j, k) refl

pub var_leaves : (bound : Option ℤ) (names : List (List ℕ)) (booleans : List Truth) (p : Progress) → Knows names booleans p.names → (v : FzVar) → IsVar booleans v → look_up p.names v.name ≡ None → (place : ℕ)
    → Leaves bound p (var_item names v) place (with_var (with_name p v.name (var_is v.boolean (length p.vars)) (type_leaves (type_of v.boolean v.domain))) v) (var_members v) 1
var_leaves bound names booleans p knows v h new place =
    let t : VarType = type_of v.boolean v.domain in
    let x : Option Expr = value_of names v.equal in
    let d : IsDomainOf bound t v.boolean v.domain = domain_again bound v.boolean v.domain h.domain in
    let r = value_read names booleans p.names knows v.boolean v.equal h.equal in
    let k : var_kind t ≡ kind.One (asked_of v.boolean) = ap (λ b. kind.One (if b then asked.Bool else asked.Int)) d.sort ∙ ap (λ a. kind.One a) (asked_is v.boolean) in
    let m : read.var_meaning t (length p.vars) ≡ var_is v.boolean (length p.vars) =
    ap (λ b. meaning.One (if b then single.BoolVar (length p.vars) else single.IntVar (length p.vars))) d.sort ∙ meaning_is v.boolean (length p.vars) in
    let same : read.var_of bound p t v.name (shown_notes v.shown) x ≡ v =
    var_as v (is_bool t) (domain_of bound t) (value_arg p.names (var_kind t) x) (is_shown (shown_notes v.shown)) d.sort d.is (ap (λ z. value_arg p.names z x) k ∙ r.back) (shown_again v.shown) in
    record {
      none =
          met (item_meets bound p (var_item names v)) refl (both (is_new p v.name) (value_known p.names x) (new_is p v.name new) r.known_too) (ap (λ z. value_fits p.names z x) k ∙ r.fit)
          (both (type_small t) (notes_small (shown_notes v.shown) && value_small x) d.small (both (notes_small (shown_notes v.shown)) (value_small x) (shown_small v.shown) r.small))
          (both (has_member t) (value_reaches p.names (var_kind t) x) d.member (ap (λ z. value_reaches p.names z x) k ∙ r.reach)) d.bounded;
      behind =
          ap (λ z. with_var (with_name p v.name z (type_leaves t)) (read.var_of bound p t v.name (shown_notes v.shown) x)) m
          ∙ ap (λ z. with_var (with_name p v.name (var_is v.boolean (length p.vars)) (type_leaves t)) z) same;
      counting = λ le many. both (nat_lt (length p.vars) most_variables) (nat_le (type_leaves t) p.room) (some_left (length p.vars) many) (few (type_leaves t) p.room le);
      room = refl;
      vars = pushed p.vars v;
    }

-- output arrays

abbrev step : ℤ → ℤ → Option Bounds
step x y = if int_le x y then Some (record { lo = x; hi = y }) else None

span_again : (s : Bounds) → IsRange s → span_step (out-Expr (range_of s)) ≡ Some s
span_again s h =
    let low : List ℕ = signed_decimal s.lo in
    let high : List ℕ = signed_decimal s.hi in
    ap span_step (out-Range low high)
    ∙ (ap (λ x. step x (int_of high)) (int_again s.lo (low_end s h)) ∙ (ap (λ y. step s.lo y) (int_again s.hi (high_end s h)) ∙ ap (λ t. if t then Some s else None) (le_true s.lo s.hi h.ordered)))

spans_again : (ss : List Bounds) → AllByRecursion IsRange ss → spans_of (map range_of ss) ≡ Some ss
spans_again [] h = refl
spans_again (s ∷ ss) h = ap (λ o. onto o (spans_of (map range_of ss))) (span_again s h.0) ∙ ap (λ o. onto (Some s) o) (spans_again ss h.1)

dims_again : (ss : List Bounds) → 1 ≤ length ss → AllByRecursion IsRange ss → shown_as (output_notes ss) ≡ Some ss
dims_again [] some h = absurd (omega (arith, some))
dims_again (s ∷ ss) some h = ap (λ e. or_else (dims_step e) None) (out-List (map range_of (s ∷ ss))) ∙ ap (λ o. or_else o None) (spans_again (s ∷ ss) h)

ranges_small : (ss : List Bounds) → AllByRecursion IsRange ss → list_all (λ b. b) (map are_small (map range_of ss)) ≡ true
ranges_small [] h = refl
ranges_small (s ∷ ss) h =
    let low : List ℕ = signed_decimal s.lo in
    let high : List ℕ = signed_decimal s.hi in
    let here : are_small (range_of s) ≡ true = small-Range low high ∙ both (is_small low) (is_small high) (small_again s.lo (low_end s h.0)) (small_again s.hi (high_end s h.0)) in
    both (are_small (range_of s)) (list_all (λ b. b) (map are_small (map range_of ss))) here (ranges_small ss h.1)

dims_small : (ss : List Bounds) → AllByRecursion IsRange ss → notes_small (output_notes ss) ≡ true
dims_small ss h = ap (λ t. (t && true) && true) (small-List (map range_of ss) ∙ ranges_small ss h)

kind_is : (b : Truth) → array_kind (member_type b) ≡ kind.Many (asked_of b)
kind_is true = refl
kind_is false = refl

member_small : (b : Truth) → type_small (member_type b) ≡ true
member_small true = refl
member_small false = refl

member_is : (b : Truth) → is_bool (member_type b) ≡ b
member_is true = refl
member_is false = refl

output_as : (o : Output) (b : Truth) (ys : List Arg) → b ≡ o.boolean → ys ≡ o.members → record { name = o.name; boolean = b; dims = o.dims; members = ys } ≡ o
output_as o b ys h i = rw (h, i) refl

-- what the name of an output array stands for
abbrev pub array_is : List (List ℕ) → Progress → Output → Meaning
array_is names p o = meaning.Array (member_sort (member_type o.boolean)) (members_in p.names (expr.List (map (expr_of names) o.members)))

abbrev pub array_leaves : List (List ℕ) → Progress → Output → ℕ
array_leaves names p o = length (members_in p.names (expr.List (map (expr_of names) o.members)))

pub output_leaves : (bound : Option ℤ) (names : List (List ℕ)) (booleans : List Truth) (p : Progress) → Knows names booleans p.names → (o : Output) → IsOutput booleans o → look_up p.names o.name ≡ None → (place : ℕ)
    → Leaves bound p (output_item names o) place (with_output (with_name p o.name (array_is names p o) (array_leaves names p o)) o) (length o.members) 0
output_leaves bound names booleans p knows o h new place =
    let n : List ℕ = decimal (length o.members) in
    let t : VarType = member_type o.boolean in
    let x : Expr = expr.List (map (expr_of names) o.members) in
    let ones = ones_again names booleans p.names knows (asked_of o.boolean) o.members h.each in
    let r = many_read p.names (asked_of o.boolean) (expr_of names) o.members ones in
    let back : map arg_of (members_in p.names x) ≡ o.members = members_back p.names (asked_of o.boolean) (expr_of names) o.members ones in
    let count : length (members_in p.names x) ≡ length o.members = members_count p.names (asked_of o.boolean) (expr_of names) o.members ones in
    let shown : shown_as (output_notes o.dims) ≡ Some o.dims = dims_again o.dims h.some h.dims in
    let long : has_length n (length (members_in p.names x)) ≡ true = ap (λ k. has_length n k) count ∙ length_again (length o.members) h.few in
    let fits_dims : dims_fit (shown_as (output_notes o.dims)) (length (members_in p.names x)) ≡ true =
    ap (λ s. dims_fit s (length (members_in p.names x))) shown ∙ same_number (places o.dims) (length (members_in p.names x)) (h.sized ∙ sym count) in
    let within : reaches p.names (array_kind t) x ≡ true = ap (λ k. reaches p.names k x) (kind_is o.boolean) ∙ r.reach in
    record {
      none =
          met (item_meets bound p (output_item names o)) refl (both (is_new p o.name) (is_known p.names x) (new_is p o.name new) r.names) (ap (λ k. fits p.names k x) (kind_is o.boolean) ∙ r.fit)
          (both (is_small n && type_small t) (notes_small (output_notes o.dims) && are_small x) (both (is_small n) (type_small t) (length_small (length o.members) h.few) (member_small o.boolean))
          (both (notes_small (output_notes o.dims)) (are_small x) (dims_small o.dims h.dims) r.small))
          (both (has_length n (length (members_in p.names x)) && reaches p.names (array_kind t) x) (dims_fit (shown_as (output_notes o.dims)) (length (members_in p.names x)))
          (both (has_length n (length (members_in p.names x))) (reaches p.names (array_kind t) x) long within) fits_dims)
          refl;
      behind =
          ap (λ s. with_shown (with_name p o.name (array_is names p o) (array_leaves names p o)) (shown_output t o.name s (members_in p.names x))) shown
          ∙ ap (λ z. with_output (with_name p o.name (array_is names p o) (array_leaves names p o)) z) (output_as o (is_bool t) (map arg_of (members_in p.names x)) (member_is o.boolean) back);
      counting = λ le many. ap (λ n. nat_le n p.room) count ∙ few (length o.members) p.room le;
      room = ap (λ n. p.room - n) count;
      vars = none_more (length p.vars);
    }

-- the goal

module _ (names : List (List ℕ)) (booleans : List Truth) (p : Progress) (knows : Knows names booleans p.names) where
  objective_met : (k : ℕ) → look_up p.names (name_at names k) ≡ Some (var_is false k) → first_missed lasting (access_meets p.names [] (objective (goal_of names (goal.Minimize k)))) ≡ None
  objective_met k h =
      met (access_meets p.names [] (objective (goal_of names (goal.Minimize k)))) refl (ap is_some h) (ap (λ o. is_int_var (named o)) h) refl (ap (λ o. is_within (named o)) h) refl

  pub goal_met : (g : flat.Goal) → IsGoal booleans g → first_missed lasting (read.solve_meets p (solve [] (goal_of names g))) ≡ None
  goal_met goal.Satisfy h = refl
  goal_met (goal.Minimize k) h = objective_met k (knows k false h)
  goal_met (goal.Maximize k) h = objective_met k (knows k false h)

  pub goal_again : (g : flat.Goal) → IsGoal booleans g → read.goal_of p (goal_of names g) ≡ g
  goal_again goal.Satisfy h = refl
  goal_again (goal.Minimize k) h = ap (λ o. goal.Minimize (var_at (named o))) (knows k false h)
  goal_again (goal.Maximize k) h = ap (λ o. goal.Maximize (var_at (named o))) (knows k false h)
