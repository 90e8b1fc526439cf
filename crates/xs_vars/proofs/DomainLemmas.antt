-- A domain that is read has small ends.
use Rattle.std.proofs.Common.{◌≡◌, ℕ, Bool, true, false, cond, if◌then◌else◌, int_le, pos, ◌+ℤ◌, List, [], ◌∷◌, ◌++◌, Option, None, Some, IfSome, refl}
use Rattle.std.specs.List.{AllByRecursion, find, flat_map, list_all}
use Rattle.std.specs.Prelude.{Ok, Err, codes, int_lt}
use Rattle.std.proofs.lemmas.Bool.{leb-true}
use Rattle.xf_markup.specs.declared.tree.Node.{Node}
use Rattle.xf_num.specs.Span.{Bounds, join_ends}
use Rattle.xs_fields.proofs.IntegerLemmas.{and_left, and_right}
use Rattle.xs_fields.specs.Conditions.{first_missed, judged}
use Rattle.xs_fields.specs.Integers.{is_small}
use Rattle.xs_fields.specs.Lists.{has_small_ends, piece_list, piece_of, pieces_in, pieces_meet, pieces_of}
use Rattle.xs_fields.specs.Words.{words_of}
use Rattle.xs_fields.specs.declared.condition.Condition.{Condition}
use Rattle.xs_fields.specs.declared.condition.Condition.TheVariants.{Magnitude}
use Rattle.xs_model.specs.Names.{defined}
use Rattle.xs_model.specs.Sound.{HasSmallEnds, IsSmall, IsSoundDecl, IsSoundDomain}
use Rattle.xs_model.specs.declared.decl.Decl.{Decl}
use Rattle.xs_model.specs.declared.decl.Decl.TheVariants.{One, Array}
use Rattle.xs_var.specs.Elements.{text_in, value_in}
use Rattle.xs_var.specs.Like.{declaration, has_domain, one_domain, single_domain, single_in}
use Rattle.xs_var.specs.Merged.{domain_of, inserted, merged, with_range}
use Rattle.xs_var.specs.VarDomain.{domain_in, var_domain}
use Rattle.xs_var.specs.VarUnit.{domain_for}

-- each end is small
abbrev AreSmall : List Bounds → Type 0
AreSmall ds = AllByRecursion HasSmallEnds ds

either : {A : Type 0} (P : A → Type 0) (t : Bool) (x y : A) → P x → P y → P (if t then x else y)
either P true x y f g = f
either P false x y f g = g

join_small : (b c : Bounds) → HasSmallEnds b → HasSmallEnds c → HasSmallEnds (join_ends b c)
join_small b c h k = (either IsSmall (int_lt c.lo b.lo) c.lo b.lo k.0 h.0, either IsSmall (int_lt c.hi b.hi) b.hi c.hi h.1 k.1)

inserted_small : (b : Bounds) (cs : List Bounds) → HasSmallEnds b → AreSmall cs → AreSmall (inserted b cs)
inserted_small b [] h k = (h, tt)
inserted_small b (c ∷ cs) h k =
    either AreSmall (int_lt (b.hi +ℤ pos 1) c.lo) (b ∷ (c ∷ cs)) (if int_lt (c.hi +ℤ pos 1) b.lo then c ∷ inserted b cs else inserted (join_ends b c) cs) (h, k)
    (either AreSmall (int_lt (c.hi +ℤ pos 1) b.lo) (c ∷ inserted b cs) (inserted (join_ends b c) cs) (k.0, inserted_small b cs h k.1) (inserted_small (join_ends b c) cs (join_small b c h k.0) k.1))

with_range_small : (t : Bool) (b : Bounds) (ds : List Bounds) → HasSmallEnds b → AreSmall ds → AreSmall (with_range t b ds)
with_range_small true b ds h k = inserted_small b ds h k
with_range_small false b ds h k = k

merged_small : (bs : List Bounds) → AreSmall bs → AreSmall (merged bs)
merged_small [] h = tt
merged_small (b ∷ bs) h = with_range_small (int_le b.lo b.hi) b (merged bs) h.0 (merged_small bs h.1)

domain_small : (bs : List Bounds) → AreSmall bs → IfSome (domain_of bs) AreSmall
domain_small [] h = tt
domain_small (b ∷ bs) h = merged_small (b ∷ bs) h

all_append : {A : Type 0} (P : A → Type 0) (xs ys : List A) → AllByRecursion P xs → AllByRecursion P ys → AllByRecursion P (xs ++ ys)
all_append P [] ys h k = k
all_append P (x ∷ xs) ys h k = (h.0, all_append P xs ys h.1 k)

piece_small : (o : Option Bounds) → AreSmall (piece_list (judged has_small_ends o))
piece_small None = tt
piece_small (Some b) = by (has_small_ends b) refl
  where
    by : (t : Bool) → has_small_ends b ≡ t → AreSmall (piece_list (if t then Ok b else Err Magnitude))
    by true e = ((leb-true _ _ (and_left (is_small b.lo) (is_small b.hi) e), leb-true _ _ (and_right (is_small b.lo) (is_small b.hi) e)), tt)
    by false e = tt

words_small : (ws : List (List ℕ)) → AreSmall (flat_map pieces_in ws)
words_small [] = tt
words_small (w ∷ ws) = all_append HasSmallEnds (pieces_in w) (flat_map pieces_in ws) (piece_small (piece_of w)) (words_small ws)

text_small : (m : Option Condition) (bs : List Bounds) → AreSmall bs → IfSome (domain_in m bs) AreSmall
text_small None bs h = domain_small bs h
text_small (Some k) bs h = tt

-- the domain of an earlier declaration
one_small : (cells : List (Option (List Bounds))) → AllByRecursion IsSoundDomain (defined cells) → IfSome (one_domain cells) AreSmall
one_small [] h = tt
one_small (None ∷ cells) h = tt
one_small (Some d ∷ cells) h = by (list_all (has_domain d) cells)
  where
    by : (t : Bool) → IfSome (if t then Some d else None) AreSmall
    by true = h.0.1
    by false = tt

single_small : (d : Decl) → IsSoundDecl d → IfSome (single_domain d) AreSmall
single_small (One name domain) h = h.1.1
single_small (Array name sizes cells) h = one_small cells h.5

single_in_small : (o : Option Decl) → IfSome o IsSoundDecl → IfSome (single_in o) AreSmall
single_in_small None h = tt
single_in_small (Some d) h = single_small d h

pub found : {A : Type 0} (P : A → Type 0) (test : A → Bool) (xs : List A) → AllByRecursion P xs → IfSome (find test xs) P
found P test [] h = tt
found P test (x ∷ xs) h = by (test x) (found P test xs h.1)
  where
    by : (t : Bool) → IfSome (find test xs) P → IfSome (cond t (Some x) (find test xs)) P
    by true more = h.0
    by false more = more

like_small : (ds : List Decl) (like : Option (List ℕ)) (text : List ℕ) → AllByRecursion IsSoundDecl ds → IfSome (var_domain ds like text) AreSmall
like_small ds None text h = text_small (first_missed (pieces_meet text)) (pieces_of text) (words_small (words_of text))
like_small ds (Some name) text h = single_in_small (declaration ds name) (found IsSoundDecl _ ds h)

-- the domain of a `var` beside sound declarations
pub ends_small : (ds : List Decl) (n : Node) → AllByRecursion IsSoundDecl ds → IfSome (domain_for ds n) (λ d. AllByRecursion HasSmallEnds d)
ends_small ds n h = like_small ds (value_in (codes "as") n.attrs) (text_in n.pieces) h
