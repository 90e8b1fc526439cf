-- The tokens of an argument are those of its expression.
use Rattle.std.proofs.Common.{◌≡◌, inl, inr, ℕ, zero, suc, ◌<◌, ◌≤◌, ℤ, pos, negsuc, ◌+ℤ◌, ◌≤ℤ◌, Bool as Truth, true, false, ◌&&◌, Some, List, [], ◌∷◌, ◌++◌, length, map, get_or, refl, ap, sym, subst, ◌∙◌, arith, append_assoc, codes}
use Rattle.std.specs.Prelude.{slice_get, neg_ℤ}
use Rattle.std.specs.Int.{int_gap}
use Rattle.std.specs.List.{AllByRecursion, list_all}
use Rattle.std.specs.Fmt.{signed_decimal}
use Rattle.std.proofs.lemmas.Bool.{lt-ltb, and_parts}
use Rattle.std.proofs.lemmas.Int.{ints}
use Rattle.std.proofs.lemmas.Option.{slice_get_within}
use Rattle.std.proofs.lemmas.Simd.{map-map}
use Rattle.xf_num.specs.Span.{Bounds}
use Rattle.fz_model.specs.declared.kind.Kind.{Kind}
use Rattle.fz_model.specs.declared.kind.Kind.TheVariants as kind
use Rattle.fz_model.specs.declared.kind.Asked.{Asked}
use Rattle.fz_model.specs.declared.kind.Asked.TheVariants as asked
use Rattle.fz_model.specs.declared.model.Arg.{Arg, out-Arg, roll-out-Arg, fold-roll-Arg, map-Arg}
use Rattle.fz_model.specs.declared.model.Arg.TheOpen.{Arg-F, Int, Bool, Var, Range, Set, List as Listed}
use Rattle.fz_model.specs.Limits.{limit, IsSmall, exactly}
use Rattle.fz_model.specs.Sound.{IsName, IsRange, IsSingle, AreSingles, IsOfKind, AreOfKinds}
use Rattle.fz_file.specs.Layout.{arg_text, arg_step, name_at, truth_text, range_text, set_text, numbers, integers_from, integers_of}
use Rattle.fz_file.specs.Layout as layout
use Rattle.fz_tokens.specs.Tokens.{Token}
use Rattle.fz_grammar.specs.Parts.{key}
use Rattle.fz_grammar.specs.Expressions.{flat, is_plain, listed, number}
use Rattle.fz_grammar.specs.declared.tree.Expr.{Expr}
use Rattle.fz_grammar.specs.declared.tree.Expr.TheVariants as expr
use Rattle.fz_grammar.proofs.Flats.{flat-Bool, flat-Int, flat-Range, flat-Set, flat-Name, flat-List, plain-Bool, plain-Int, plain-Range, plain-Set, plain-Name, plain-List}
use Rattle.fz_again.specs.Tree.{expr_step, expr_of, range_of}
use Rattle.fz_again.proofs.Cuts.{Cuts, join, Any, NoSpace, EndsWord, IsWord, keyword, name, named_word, letter_no_space, integer, integer_first, dots}
use Rattle.fz_again.proofs.Ends.{Ends, ends_word, ends_number, dots_end, before, open_square, close_square, open_curly, close_curly, separated, AreCut}

pub letter_first : (w rest : List ℕ) → IsWord w → NoSpace (w ++ rest)
letter_first [] rest h = absurd h
letter_first (c ∷ cs) rest h = letter_no_space c h.0

pub name_first : (w rest : List ℕ) → IsName w → NoSpace (w ++ rest)
name_first w rest h = letter_first w rest (named_word w h)

-- a text has the tokens of an expression, and begins with no space
pub record Spells (text : List ℕ) (x : Expr) : Type 0 where
  pub cut : Cuts text (flat x) Ends
  pub plain : is_plain x ≡ true
  pub first : (rest : List ℕ) → NoSpace (text ++ rest)

cut_as : (text : List ℕ) (ts us : List Token) → ts ≡ us → Cuts text us Ends → Cuts text ts Ends
cut_as text ts us e c = subst (λ (z : List Token). Cuts text z Ends) (sym e) c

pub integer_spells : (z : ℤ) → IsSmall (exactly z) → Spells (signed_decimal z) (expr.Int (signed_decimal z))
integer_spells z small = record { cut = cut_as (signed_decimal z) _ _ (flat-Int (signed_decimal z)) (before ends_number (integer z small)); plain = plain-Int (signed_decimal z); first = λ rest. integer_first z rest small }

truth_cuts : (t : Truth) → Cuts (truth_text t) (key (truth_text t) ∷ []) EndsWord
truth_cuts true = keyword (codes "true") (refl, refl) refl
truth_cuts false = keyword (codes "false") (refl, refl) refl

truth_flat : (t : Truth) → flat (expr.Bool t) ≡ key (truth_text t) ∷ []
truth_flat true = flat-Bool true
truth_flat false = flat-Bool false

truth_first : (t : Truth) (rest : List ℕ) → NoSpace (truth_text t ++ rest)
truth_first true rest = refl
truth_first false rest = refl

truth_spells : (t : Truth) → Spells (truth_text t) (expr.Bool t)
truth_spells t = record { cut = cut_as (truth_text t) _ _ (truth_flat t) (before ends_word (truth_cuts t)); plain = plain-Bool t; first = truth_first t }

pub name_spells : (w : List ℕ) → IsName w → Spells w (expr.Name w)
name_spells w h = record { cut = cut_as w _ _ (flat-Name w) (before ends_word (name w h)); plain = plain-Name w; first = λ rest. name_first w rest h }

pub low_end : (s : Bounds) → IsRange s → IsSmall (exactly s.lo)
low_end s h = record { from = h.small.from; to = omega (arith, ints, h.ordered, h.small.to) }

pub high_end : (s : Bounds) → IsRange s → IsSmall (exactly s.hi)
high_end s h = record { from = omega (arith, ints, h.ordered, h.small.from); to = h.small.to }

pub range_cuts : (s : Bounds) → IsRange s → Cuts (range_text s) (number (signed_decimal s.lo) ∷ key (codes "..") ∷ number (signed_decimal s.hi) ∷ []) Ends
range_cuts s h =
    join (integer s.lo (low_end s h)) (join dots (before ends_number (integer s.hi (high_end s h))) (λ rest o. tt)) (λ rest o. dots_end (signed_decimal s.hi ++ rest))

pub range_first : (s : Bounds) → IsRange s → (rest : List ℕ) → NoSpace (range_text s ++ rest)
range_first s h rest = subst NoSpace (sym (append_assoc (signed_decimal s.lo) (codes ".." ++ signed_decimal s.hi) rest)) (integer_first s.lo ((codes ".." ++ signed_decimal s.hi) ++ rest) (low_end s h))

pub range_spells : (s : Bounds) → IsRange s → Spells (range_text s) (range_of s)
range_spells s h = record { cut = cut_as (range_text s) _ _ (flat-Range (signed_decimal s.lo) (signed_decimal s.hi)) (range_cuts s h); plain = plain-Range (signed_decimal s.lo) (signed_decimal s.hi); first = range_first s h }

abbrev one_number : List ℕ → List Token
one_number n = number n ∷ []

integers_cut : (zs : List ℤ) → AllByRecursion (λ k. IsSmall (exactly k)) zs → AllByRecursion (λ n. Cuts n (one_number n) Ends) (numbers zs)
integers_cut [] h = tt
integers_cut (z ∷ zs) h = (before ends_number (integer z h.0), integers_cut zs h.1)

map_self : (xs : List (List ℕ)) → map (λ x. x) xs ≡ xs
map_self [] = refl
map_self (x ∷ xs) = ap (λ ys. x ∷ ys) (map_self xs)

pub set_cuts : (zs : List ℤ) → AllByRecursion (λ k. IsSmall (exactly k)) zs → Cuts (set_text zs) (key (codes "{") ∷ (listed (map one_number (numbers zs)) ++ key (codes "}") ∷ [])) Ends
set_cuts zs h =
    let inner : Cuts (layout.listed (numbers zs)) (listed (map one_number (numbers zs))) Ends =
    subst (λ (ts : List (List ℕ)). Cuts (layout.listed ts) (listed (map one_number (numbers zs))) Ends) (map_self (numbers zs)) (separated (λ n. n) one_number (numbers zs) (integers_cut zs h)) in
    before (λ rest o. tt) (join open_curly (join inner close_curly (λ rest o. inr (inr (inr (inl refl))))) (λ rest o. tt))

pub set_spells : (zs : List ℤ) → AllByRecursion (λ k. IsSmall (exactly k)) zs → Spells (set_text zs) (expr.Set (numbers zs))
set_spells zs h = record { cut = cut_as (set_text zs) _ _ (flat-Set (numbers zs)) (set_cuts zs h); plain = plain-Set (numbers zs); first = λ rest. refl }

module _ {X : Type 0} (f : X → List ℕ) (g : X → Expr) where
  abbrev pub AllSpell : List X → Type 0
  AllSpell xs = AllByRecursion (λ x. Spells (f x) (g x)) xs

  all_cut : (xs : List X) → AllSpell xs → AreCut f (λ x. flat (g x)) xs
  all_cut [] h = tt
  all_cut (x ∷ xs) h = (h.0.cut, all_cut xs h.1)

  pub all_plain : (xs : List X) → AllSpell xs → list_all is_plain (map g xs) ≡ true
  all_plain [] h = refl
  all_plain (x ∷ xs) h = ap (λ t. t && list_all is_plain (map g xs)) h.0.plain ∙ all_plain xs h.1

  pub all_listed : (xs : List X) → AllSpell xs → Cuts (layout.listed (map f xs)) (listed (map flat (map g xs))) Ends
  all_listed xs h = subst (λ (z : List (List Token)). Cuts (layout.listed (map f xs)) (listed z) Ends) (sym (map-map flat g xs)) (separated f (λ x. flat (g x)) xs (all_cut xs h))

  pub list_cuts : (xs : List X) → AllSpell xs → Cuts (codes "[" ++ (layout.listed (map f xs) ++ codes "]")) (key (codes "[") ∷ (listed (map flat (map g xs)) ++ key (codes "]") ∷ [])) Any
  list_cuts xs h = join open_square (join (all_listed xs h) close_square (λ rest o. inr (inl refl))) (λ rest o. tt)

  plain_list : (ys : List Expr) → list_all is_plain ys ≡ true → list_all (λ b. b) (map is_plain ys) ≡ true
  plain_list [] h = refl
  plain_list (y ∷ ys) h = let parts = and_parts (is_plain y) (list_all is_plain ys) h in ap (λ t. t && list_all (λ b. b) (map is_plain ys)) parts.0 ∙ plain_list ys parts.1

  pub list_spells : (xs : List X) → AllSpell xs → Spells (codes "[" ++ (layout.listed (map f xs) ++ codes "]")) (expr.List (map g xs))
  list_spells xs h = record {
    cut = cut_as _ _ _ (flat-List (map g xs)) (before (λ rest o. tt) (list_cuts xs h));
    plain = plain-List (map g xs) ∙ plain_list (map g xs) (all_plain xs h);
    first = λ rest. refl;
  }

-- the integers of a range

pub gap_end : (lo hi : ℤ) → lo ≤ℤ hi → (lo +ℤ pos 1) +ℤ pos (int_gap lo hi) ≡ hi +ℤ pos 1
gap_end (pos a) (pos b) le = omega (arith, ints)
gap_end (pos a) (negsuc b) le = absurd (omega (arith, ints))
gap_end (negsuc a) (pos b) le = omega (arith, ints)
gap_end (negsuc a) (negsuc b) le = omega (arith, ints)

small_from : (z : ℤ) (n : ℕ) → neg_ℤ (pos limit) ≤ℤ z → (z +ℤ pos n) ≤ℤ (pos limit +ℤ pos 1) → AllByRecursion (λ k. IsSmall (exactly k)) (integers_from z n)
small_from z zero from to = tt
small_from z (suc n) from to = (record { from = from; to = omega (arith, ints, to) }, small_from (z +ℤ pos 1) n (omega (arith, ints, from)) (omega (arith, ints, to)))

pub small_integers : (s : Bounds) → IsRange s → AllByRecursion (λ k. IsSmall (exactly k)) (integers_of s)
small_integers s h = (low_end s h, small_from (s.lo +ℤ pos 1) (int_gap s.lo s.hi) (omega (arith, ints, h.small.from)) (omega (arith, ints, gap_end s.lo s.hi h.ordered, h.small.to)))

-- arguments

named_at : (names : List (List ℕ)) (k : ℕ) → AllByRecursion IsName names → k < length names → IsName (get_or names k [])
named_at [] k h lt = absurd (omega arith)
named_at (n ∷ ns) zero h lt = h.0
named_at (n ∷ ns) (suc k) h lt = named_at ns k h.1 (omega arith)

pub named : (names : List (List ℕ)) (k : ℕ) → AllByRecursion IsName names → k < length names → IsName (name_at names k)
named names k h lt =
    let here : name_at names k ≡ get_or names k [] = (let t = lt-ltb k (length names) lt in rw t refl) in
    subst IsName (sym here) (named_at names k h lt)

module _ (names : List (List ℕ)) (good : AllByRecursion IsName names) where
  text_out : (a : Arg) → arg_text names a ≡ arg_step names (map-Arg Arg (List ℕ) (arg_text names) (out-Arg a))
  text_out a = ap (arg_text names) (sym (roll-out-Arg a)) ∙ fold-roll-Arg (List ℕ) (arg_step names) (out-Arg a)

  expr_out : (a : Arg) → expr_of names a ≡ expr_step names (map-Arg Arg Expr (expr_of names) (out-Arg a))
  expr_out a = ap (expr_of names) (sym (roll-out-Arg a)) ∙ fold-roll-Arg Expr (expr_step names) (out-Arg a)

  abbrev Layer : Arg-F Arg → Type 0
  Layer l = Spells (arg_step names (map-Arg Arg (List ℕ) (arg_text names) l)) (expr_step names (map-Arg Arg Expr (expr_of names) l))

  module _ (booleans : List Truth) (same : length booleans ≤ length names) where
    var_spells : (v : ℕ) (t : Truth) → slice_get booleans v ≡ Some t → Layer (Var v)
    var_spells v t e = name_spells (name_at names v) (named names v good (omega (arith, slice_get_within booleans v t e)))

    single_layer : (a : Asked) (l : Arg-F Arg) → IsSingle booleans a l → Layer l
    single_layer asked.Int (Int k) h = integer_spells k h
    single_layer asked.Int (Bool t) h = absurd h
    single_layer asked.Int (Var v) h = var_spells v false h
    single_layer asked.Int (Range s) h = absurd h
    single_layer asked.Int (Set zs) h = absurd h
    single_layer asked.Int (Listed xs) h = absurd h
    single_layer asked.Bool (Int k) h = absurd h
    single_layer asked.Bool (Bool t) h = truth_spells t
    single_layer asked.Bool (Var v) h = var_spells v true h
    single_layer asked.Bool (Range s) h = absurd h
    single_layer asked.Bool (Set zs) h = absurd h
    single_layer asked.Bool (Listed xs) h = absurd h
    single_layer asked.IntConstant (Int k) h = integer_spells k h
    single_layer asked.IntConstant (Bool t) h = absurd h
    single_layer asked.IntConstant (Var v) h = absurd h
    single_layer asked.IntConstant (Range s) h = absurd h
    single_layer asked.IntConstant (Set zs) h = absurd h
    single_layer asked.IntConstant (Listed xs) h = absurd h
    single_layer asked.BoolConstant (Int k) h = absurd h
    single_layer asked.BoolConstant (Bool t) h = truth_spells t
    single_layer asked.BoolConstant (Var v) h = absurd h
    single_layer asked.BoolConstant (Range s) h = absurd h
    single_layer asked.BoolConstant (Set zs) h = absurd h
    single_layer asked.BoolConstant (Listed xs) h = absurd h

    by_layer : (a : Arg) → Layer (out-Arg a) → Spells (arg_text names a) (expr_of names a)
    by_layer a h =
        subst (λ (t : List ℕ). Spells t (expr_of names a)) (sym (text_out a)) (subst (λ (x : Expr). Spells (arg_step names (map-Arg Arg (List ℕ) (arg_text names) (out-Arg a))) x) (sym (expr_out a)) h)

    pub single_spells : (a : Asked) (x : Arg) → IsSingle booleans a (out-Arg x) → Spells (arg_text names x) (expr_of names x)
    single_spells a x h = by_layer x (single_layer a (out-Arg x) h)

    pub singles_spell : (a : Asked) (xs : List Arg) → AreSingles booleans a xs → AllSpell (arg_text names) (expr_of names) xs
    singles_spell a [] h = tt
    singles_spell a (x ∷ xs) h = (single_spells a x h.0, singles_spell a xs h.1)

    kind_layer : (k : Kind) (l : Arg-F Arg) → IsOfKind booleans k l → Layer l
    kind_layer (kind.One a) l h = single_layer a l h
    kind_layer (kind.Many a) (Int k) h = absurd h
    kind_layer (kind.Many a) (Bool t) h = absurd h
    kind_layer (kind.Many a) (Var v) h = absurd h
    kind_layer (kind.Many a) (Range s) h = absurd h
    kind_layer (kind.Many a) (Set zs) h = absurd h
    kind_layer (kind.Many a) (Listed xs) h = list_spells (arg_text names) (expr_of names) xs (singles_spell a xs h)
    kind_layer kind.Set (Int k) h = absurd h
    kind_layer kind.Set (Bool t) h = absurd h
    kind_layer kind.Set (Var v) h = absurd h
    kind_layer kind.Set (Range s) h = range_spells s h
    kind_layer kind.Set (Set zs) h = set_spells zs h
    kind_layer kind.Set (Listed xs) h = absurd h

    pub kinds_spell : (ks : List Kind) (xs : List Arg) → AreOfKinds booleans ks xs → AllSpell (arg_text names) (expr_of names) xs
    kinds_spell [] [] h = tt
    kinds_spell [] (x ∷ xs) h = absurd h
    kinds_spell (k ∷ ks) [] h = absurd h
    kinds_spell (k ∷ ks) (x ∷ xs) h = (by_layer x (kind_layer k (out-Arg x) h.0), kinds_spell ks xs h.1)
