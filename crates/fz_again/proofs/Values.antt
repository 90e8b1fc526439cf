-- An argument's expression is read as it.
use Rattle.std.proofs.Common.{◌≡◌, ℕ, ℤ, Bool as Truth, true, false, List, [], ◌∷◌, map, Some, is_some, refl, ap, sym, subst, ◌∙◌, if◌then◌else◌, length, arith}
use Rattle.std.specs.List.{AllByRecursion, list_all, sum}
use Rattle.std.proofs.lemmas.List.Sums.{sum_by-cons}
use Rattle.std.specs.Fmt.{signed_decimal}
use Rattle.xf_num.specs.Span.{Bounds}
use Rattle.fz_model.specs.declared.kind.Kind.{Kind}
use Rattle.fz_model.specs.declared.kind.Kind.TheVariants as kind
use Rattle.fz_model.specs.declared.kind.Asked.{Asked}
use Rattle.fz_model.specs.declared.kind.Asked.TheVariants as asked
use Rattle.fz_model.specs.declared.model.Arg.{Arg, out-Arg, roll-Arg, roll-out-Arg, fold-roll-Arg, map-Arg}
use Rattle.fz_model.specs.declared.model.Arg.TheOpen.{Arg-F, Int, Bool, Var, Range, Set, List as Listed}
use Rattle.fz_model.specs.declared.model.Arg.TheVariants as args
use Rattle.fz_model.specs.Size.{leaves_of, leaves_step}
use Rattle.fz_model.specs.Limits.{IsSmall, exactly}
use Rattle.fz_model.specs.Sound.{IsRange, IsSingle, AreSingles, IsOfKind, AreOfKinds}
use Rattle.fz_file.specs.Layout.{name_at, numbers}
use Rattle.fz_grammar.specs.declared.tree.Expr.{Expr}
use Rattle.fz_grammar.specs.declared.tree.Expr.TheVariants as expr
use Rattle.fz_values.specs.declared.meaning.Single.{Single}
use Rattle.fz_values.specs.declared.meaning.Single.TheVariants as single
use Rattle.fz_values.specs.declared.meaning.Sort.TheVariants as sort
use Rattle.fz_values.specs.declared.meaning.SetOf.TheVariants as sets
use Rattle.fz_values.specs.declared.meaning.Found.TheVariants.{Here}
use Rattle.fz_values.specs.Integers.{is_small, int_of}
use Rattle.fz_values.specs.Names.{look_up}
use Rattle.fz_values.specs.Values.{named, one_step, one_in, is_known, are_small}
use Rattle.fz_values.specs.Kinds.{sort_of, suits, suits_found, is_within, single_of, all_step, set_step, fits, all_fit, members_within_step, reaches, all_reach, set_leaves, leaves_in, all_leaves, members_step, members_in, range_of as range_set, set_in_step, arg_of, set_arg, arg_in, args_in}
use Rattle.fz_again.specs.Tree.{expr_step, expr_of}
use Rattle.fz_again.proofs.Arguments.{low_end, high_end}
use Rattle.fz_again.proofs.Domains.{both, le_true}
use Rattle.fz_again.proofs.Folds.{out-Bool, out-Int, out-Range, out-Set, out-Name, out-List, known-Bool, known-Int, known-Range, known-Set, known-Name, known-List, small-Bool, small-Int, small-Range, small-Set, small-Name, small-List}
use Rattle.fz_again.proofs.Names.{Names, var_is, Knows}
use Rattle.fz_again.proofs.Trees.{length_mapped}
use Rattle.fz_again.proofs.Numbers.{int_again, ints_again, small_again, all_small}

-- the expression stands for one value, as asked, which makes this argument
pub record IsOne (known : Names) (a : Asked) (x : Expr) (y : Arg) : Type 0 where
  pub one : Single
  pub here : one_in known x ≡ Here one
  pub suits : suits a (sort_of one) ≡ true
  pub back : arg_of one ≡ y
  pub names : is_known known x ≡ true
  pub small : are_small x ≡ true
  pub leaf : leaves_of y ≡ 1

-- the expression is of the kind, and makes this argument
pub record IsRead (known : Names) (k : Kind) (x : Expr) (y : Arg) : Type 0 where
  pub fit : fits known k x ≡ true
  pub reach : reaches known k x ≡ true
  pub back : arg_in known k x ≡ y
  pub names : is_known known x ≡ true
  pub small : are_small x ≡ true
  pub leaves : leaves_in known k x ≡ leaves_of y

module _ (known : Names) where
  abbrev One : Asked → Expr → Arg → Type 0
  One a x y = IsOne known a x y

  int_one : (a : Asked) (z : ℤ) → suits a sort.Int ≡ true → IsSmall (exactly z) → One a (expr.Int (signed_decimal z)) (roll-Arg (Int z))
  int_one a z s h = record {
    one = single.Int z;
    here = ap (one_step known) (out-Int (signed_decimal z)) ∙ ap (λ k. Here (single.Int k)) (int_again z h);
    suits = s;
    back = sym (args.rolls-Int z);
    names = known-Int known (signed_decimal z);
    small = small-Int (signed_decimal z) ∙ small_again z h;
    leaf = fold-roll-Arg ℕ leaves_step (Int z);
  }

  bool_one : (a : Asked) (t : Truth) → suits a sort.Bool ≡ true → One a (expr.Bool t) (roll-Arg (Bool t))
  bool_one a t s = record {
    one = single.Bool t;
    here = ap (one_step known) (out-Bool t);
    suits = s;
    back = sym (args.rolls-Bool t);
    names = known-Bool known t;
    small = small-Bool t;
    leaf = fold-roll-Arg ℕ leaves_step (Bool t);
  }

  int_var_one : (a : Asked) (w : List ℕ) (v : ℕ) → suits a sort.IntVar ≡ true → look_up known w ≡ Some (var_is false v) → One a (expr.Name w) (roll-Arg (Var v))
  int_var_one a w v s h = record {
    one = single.IntVar v;
    here = ap (one_step known) (out-Name w) ∙ ap named h;
    suits = s;
    back = sym (args.rolls-Var v);
    names = known-Name known w ∙ ap is_some h;
    small = small-Name w;
    leaf = fold-roll-Arg ℕ leaves_step (Var v);
  }

  bool_var_one : (a : Asked) (w : List ℕ) (v : ℕ) → suits a sort.BoolVar ≡ true → look_up known w ≡ Some (var_is true v) → One a (expr.Name w) (roll-Arg (Var v))
  bool_var_one a w v s h = record {
    one = single.BoolVar v;
    here = ap (one_step known) (out-Name w) ∙ ap named h;
    suits = s;
    back = sym (args.rolls-Var v);
    names = known-Name known w ∙ ap is_some h;
    small = small-Name w;
    leaf = fold-roll-Arg ℕ leaves_step (Var v);
  }

  -- what is true of one value where an array or one value is asked
  found_fits : (a : Asked) (x : Expr) (y : Arg) → One a x y → suits_found a (one_in known x) ≡ true
  found_fits a x y h = ap (suits_found a) h.here ∙ h.suits

  found_within : (a : Asked) (x : Expr) (y : Arg) → One a x y → is_within (one_in known x) ≡ true
  found_within a x y h = ap is_within h.here

  found_back : (a : Asked) (x : Expr) (y : Arg) → One a x y → arg_of (single_of (one_in known x)) ≡ y
  found_back a x y h = ap (λ f. arg_of (single_of f)) h.here ∙ h.back

  pub one_read : (a : Asked) (x : Expr) (y : Arg) → One a x y → IsRead known (kind.One a) x y
  one_read a x y h = record { fit = found_fits a x y h; reach = found_within a x y h; back = found_back a x y h; names = h.names; small = h.small; leaves = sym h.leaf }

  abbrev AreOnes : Asked → (Arg → Expr) → List Arg → Type 0
  AreOnes a f ys = AllByRecursion (λ y. One a (f y) y) ys

  module _ (a : Asked) (f : Arg → Expr) where
    all_suit : (ys : List Arg) → AreOnes a f ys → list_all (λ x. suits_found a (one_in known x)) (map f ys) ≡ true
    all_suit [] h = refl
    all_suit (y ∷ ys) h = both (suits_found a (one_in known (f y))) (list_all (λ x. suits_found a (one_in known x)) (map f ys)) (found_fits a (f y) y h.0) (all_suit ys h.1)

    all_within : (ys : List Arg) → AreOnes a f ys → list_all (λ x. is_within (one_in known x)) (map f ys) ≡ true
    all_within [] h = refl
    all_within (y ∷ ys) h = both (is_within (one_in known (f y))) (list_all (λ x. is_within (one_in known x)) (map f ys)) (found_within a (f y) y h.0) (all_within ys h.1)

    all_back : (ys : List Arg) → AreOnes a f ys → map arg_of (map (λ x. single_of (one_in known x)) (map f ys)) ≡ ys
    all_back [] h = refl
    all_back (y ∷ ys) h =
        ap (λ z. z ∷ map arg_of (map (λ x. single_of (one_in known x)) (map f ys))) (found_back a (f y) y h.0) ∙ ap (λ zs. y ∷ zs) (all_back ys h.1)

    all_known : (ys : List Arg) → AreOnes a f ys → list_all (λ b. b) (map (is_known known) (map f ys)) ≡ true
    all_known [] h = refl
    all_known (y ∷ ys) h = both (is_known known (f y)) (list_all (λ b. b) (map (is_known known) (map f ys))) h.0.names (all_known ys h.1)

    ones_small : (ys : List Arg) → AreOnes a f ys → list_all (λ b. b) (map are_small (map f ys)) ≡ true
    ones_small [] h = refl
    ones_small (y ∷ ys) h = both (are_small (f y)) (list_all (λ b. b) (map are_small (map f ys))) h.0.small (ones_small ys h.1)

    ones_leaves : (ys : List Arg) → AreOnes a f ys → sum (map leaves_of ys) ≡ length ys
    ones_leaves [] h = refl
    ones_leaves (y ∷ ys) h = omega (arith, sum_by-cons (λ n. n) (leaves_of y) (map leaves_of ys), h.0.leaf, ones_leaves ys h.1)

    pub members_back : (ys : List Arg) → AreOnes a f ys → map arg_of (members_in known (expr.List (map f ys))) ≡ ys
    members_back ys h = ap (λ e. map arg_of (members_step known e)) (out-List (map f ys)) ∙ all_back ys h

    pub members_count : (ys : List Arg) → AreOnes a f ys → length (members_in known (expr.List (map f ys))) ≡ length ys
    members_count ys h = sym (length_mapped arg_of (members_in known (expr.List (map f ys)))) ∙ ap length (members_back ys h)

    pub many_read : (ys : List Arg) → AreOnes a f ys → IsRead known (kind.Many a) (expr.List (map f ys)) (roll-Arg (Listed ys))
    many_read ys h = record {
      fit = ap (all_step known a) (out-List (map f ys)) ∙ all_suit ys h;
      reach = ap (members_within_step known) (out-List (map f ys)) ∙ all_within ys h;
      back = ap args.List (members_back ys h) ∙ sym (args.rolls-List ys);
      names = known-List known (map f ys) ∙ all_known ys h;
      small = small-List (map f ys) ∙ ones_small ys h;
      leaves = members_count ys h ∙ sym (fold-roll-Arg ℕ leaves_step (Listed ys) ∙ ones_leaves ys h);
    }

  range_again : (s : Bounds) → IsRange s → range_set (int_of (signed_decimal s.lo)) (int_of (signed_decimal s.hi)) ≡ sets.Range s
  range_again s h =
      ap (λ x. range_set x (int_of (signed_decimal s.hi))) (int_again s.lo (low_end s h))
      ∙ (ap (λ y. range_set s.lo y) (int_again s.hi (high_end s h)) ∙ ap (λ t. if t then sets.Range s else sets.Members []) (le_true s.lo s.hi h.ordered))

  range_read : (s : Bounds) → IsRange s → IsRead known kind.Set (expr.Range (signed_decimal s.lo) (signed_decimal s.hi)) (roll-Arg (Range s))
  range_read s h =
      let low : List ℕ = signed_decimal s.lo in
      let high : List ℕ = signed_decimal s.hi in
      record {
        fit = ap (set_step known) (out-Range low high);
        reach = refl;
        back = ap (λ e. set_arg (set_in_step known e)) (out-Range low high) ∙ (ap set_arg (range_again s h) ∙ sym (args.rolls-Range s));
        names = known-Range known low high;
        small = small-Range low high ∙ both (is_small low) (is_small high) (small_again s.lo (low_end s h)) (small_again s.hi (high_end s h));
        leaves = ap (λ e. set_leaves (set_in_step known e)) (out-Range low high) ∙ (ap set_leaves (range_again s h) ∙ sym (fold-roll-Arg ℕ leaves_step (Range s)));
      }

  set_read : (zs : List ℤ) → AllByRecursion (λ k. IsSmall (exactly k)) zs → IsRead known kind.Set (expr.Set (numbers zs)) (roll-Arg (Set zs))
  set_read zs h = record {
    fit = ap (set_step known) (out-Set (numbers zs));
    reach = refl;
    back = ap (λ e. set_arg (set_in_step known e)) (out-Set (numbers zs)) ∙ (ap (λ ks. args.Set ks) (ints_again zs h) ∙ sym (args.rolls-Set zs));
    names = known-Set known (numbers zs);
    small = small-Set (numbers zs) ∙ all_small zs h;
    leaves = ap (λ e. set_leaves (set_in_step known e)) (out-Set (numbers zs)) ∙ (ap length (ints_again zs h) ∙ sym (fold-roll-Arg ℕ leaves_step (Set zs)));
  }

-- arguments of a sound model

pub expr_out : (names : List (List ℕ)) (y : Arg) → expr_of names y ≡ expr_step names (map-Arg Arg Expr (expr_of names) (out-Arg y))
expr_out names y = ap (expr_of names) (sym (roll-out-Arg y)) ∙ fold-roll-Arg Expr (expr_step names) (out-Arg y)

module _ (names : List (List ℕ)) (booleans : List Truth) (known : Names) (knows : Knows names booleans known) where
  abbrev OneLayer : Asked → Arg-F Arg → Type 0
  OneLayer a l = IsOne known a (expr_step names (map-Arg Arg Expr (expr_of names) l)) (roll-Arg l)

  one_layer : (a : Asked) (l : Arg-F Arg) → IsSingle booleans a l → OneLayer a l
  one_layer asked.Int (Int k) h = int_one known asked.Int k refl h
  one_layer asked.Int (Bool t) h = absurd h
  one_layer asked.Int (Var v) h = int_var_one known asked.Int (name_at names v) v refl (knows v false h)
  one_layer asked.Int (Range s) h = absurd h
  one_layer asked.Int (Set zs) h = absurd h
  one_layer asked.Int (Listed xs) h = absurd h
  one_layer asked.Bool (Int k) h = absurd h
  one_layer asked.Bool (Bool t) h = bool_one known asked.Bool t refl
  one_layer asked.Bool (Var v) h = bool_var_one known asked.Bool (name_at names v) v refl (knows v true h)
  one_layer asked.Bool (Range s) h = absurd h
  one_layer asked.Bool (Set zs) h = absurd h
  one_layer asked.Bool (Listed xs) h = absurd h
  one_layer asked.IntConstant (Int k) h = int_one known asked.IntConstant k refl h
  one_layer asked.IntConstant (Bool t) h = absurd h
  one_layer asked.IntConstant (Var v) h = absurd h
  one_layer asked.IntConstant (Range s) h = absurd h
  one_layer asked.IntConstant (Set zs) h = absurd h
  one_layer asked.IntConstant (Listed xs) h = absurd h
  one_layer asked.BoolConstant (Int k) h = absurd h
  one_layer asked.BoolConstant (Bool t) h = bool_one known asked.BoolConstant t refl
  one_layer asked.BoolConstant (Var v) h = absurd h
  one_layer asked.BoolConstant (Range s) h = absurd h
  one_layer asked.BoolConstant (Set zs) h = absurd h
  one_layer asked.BoolConstant (Listed xs) h = absurd h

  pub one_again : (a : Asked) (y : Arg) → IsSingle booleans a (out-Arg y) → IsOne known a (expr_of names y) y
  one_again a y h =
      subst (λ (z : Arg). IsOne known a (expr_of names y) z) (roll-out-Arg y)
      (subst (λ (x : Expr). IsOne known a x (roll-Arg (out-Arg y))) (sym (expr_out names y)) (one_layer a (out-Arg y) h))

  pub ones_again : (a : Asked) (ys : List Arg) → AreSingles booleans a ys → AllByRecursion (λ y. IsOne known a (expr_of names y) y) ys
  ones_again a [] h = tt
  ones_again a (y ∷ ys) h = (one_again a y h.0, ones_again a ys h.1)

  abbrev KindLayer : Kind → Arg-F Arg → Type 0
  KindLayer k l = IsRead known k (expr_step names (map-Arg Arg Expr (expr_of names) l)) (roll-Arg l)

  kind_layer : (k : Kind) (l : Arg-F Arg) → IsOfKind booleans k l → KindLayer k l
  kind_layer (kind.One a) l h = one_read known a (expr_step names (map-Arg Arg Expr (expr_of names) l)) (roll-Arg l) (one_layer a l h)
  kind_layer (kind.Many a) (Int k) h = absurd h
  kind_layer (kind.Many a) (Bool t) h = absurd h
  kind_layer (kind.Many a) (Var v) h = absurd h
  kind_layer (kind.Many a) (Range s) h = absurd h
  kind_layer (kind.Many a) (Set zs) h = absurd h
  kind_layer (kind.Many a) (Listed ys) h = many_read known a (expr_of names) ys (ones_again a ys h)
  kind_layer kind.Set (Int k) h = absurd h
  kind_layer kind.Set (Bool t) h = absurd h
  kind_layer kind.Set (Var v) h = absurd h
  kind_layer kind.Set (Range s) h = range_read known s h
  kind_layer kind.Set (Set zs) h = set_read known zs h
  kind_layer kind.Set (Listed xs) h = absurd h

  pub kind_again : (k : Kind) (y : Arg) → IsOfKind booleans k (out-Arg y) → IsRead known k (expr_of names y) y
  kind_again k y h =
      subst (λ (z : Arg). IsRead known k (expr_of names y) z) (roll-out-Arg y)
      (subst (λ (x : Expr). IsRead known k x (roll-Arg (out-Arg y))) (sym (expr_out names y)) (kind_layer k (out-Arg y) h))

  -- the arguments of a call
  pub record AreRead (ks : List Kind) (ys : List Arg) : Type 0 where
    pub fit : all_fit known ks (map (expr_of names) ys) ≡ true
    pub reach : all_reach known ks (map (expr_of names) ys) ≡ true
    pub back : args_in known ks (map (expr_of names) ys) ≡ ys
    pub known_all : list_all (λ b. b) (map (is_known known) (map (expr_of names) ys)) ≡ true
    pub small : list_all (λ b. b) (map are_small (map (expr_of names) ys)) ≡ true
    pub leaves : all_leaves known ks (map (expr_of names) ys) ≡ sum (map leaves_of ys)

  pub kinds_again : (ks : List Kind) (ys : List Arg) → AreOfKinds booleans ks ys → AreRead ks ys
  kinds_again [] [] h = record { fit = refl; reach = refl; back = refl; known_all = refl; small = refl; leaves = refl }
  kinds_again [] (y ∷ ys) h = absurd h
  kinds_again (k ∷ ks) [] h = absurd h
  kinds_again (k ∷ ks) (y ∷ ys) h =
      let first = kind_again k y h.0 in
      let later = kinds_again ks ys h.1 in
      let x : Expr = expr_of names y in
      let xs : List Expr = map (expr_of names) ys in
      record {
        fit = both (fits known k x) (all_fit known ks xs) first.fit later.fit;
        reach = both (reaches known k x) (all_reach known ks xs) first.reach later.reach;
        back = ap (λ z. z ∷ args_in known ks xs) first.back ∙ ap (λ zs. y ∷ zs) later.back;
        known_all = both (is_known known x) (list_all (λ b. b) (map (is_known known) xs)) first.names later.known_all;
        small = both (are_small x) (list_all (λ b. b) (map are_small xs)) first.small later.small;
        leaves = omega (arith, first.leaves, later.leaves, sum_by-cons (λ n. n) (leaves_of y) (map leaves_of ys));
      }
