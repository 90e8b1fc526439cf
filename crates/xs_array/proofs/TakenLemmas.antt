-- An array whose element and names miss nothing: its counts, its cells, and what it declares.
use Rattle.std.proofs.Common.{◌≡◌, ℕ, ◌+◌, ◌≤◌, ◌≤ℤ◌, Bool, true, false, not, ◌&&◌, nat_le, List, [], ◌∷◌, map, sum, replicate, ℤ, Option, None, Some, is_some, Result, Ok, Err, IfOk, codes, cond, refl, ap, sym, subst, ◌∙◌, arith, rules, if◌then◌else◌, bytes_eq}
use Rattle.std.specs.Prelude.{int_le, pos}
use Rattle.std.specs.Ordering.{int_eq}
use Rattle.std.specs.List.{AllByRecursion, list_any, range_with_len}
use Rattle.std.proofs.lemmas.Bool.{false≢true}
use Rattle.std.proofs.lemmas.Bool.Decides.{Decides-int_eq}
use Rattle.std.proofs.lemmas.Int.{ints}
use borrow.Author.Tests.{leb-true, le-leb}
use Rattle.xf_markup.specs.declared.tree.Node.{Node}
use Rattle.xf_num.specs.Span.{Bounds}
use Rattle.xs_fields.specs.Conditions.{earlier_of, first_missed, rank}
use Rattle.xs_fields.specs.declared.condition.Condition.{Condition}
use Rattle.xs_fields.specs.declared.condition.Condition.TheVariants.{Known, Nesting, Spelling, Magnitude, Naming, Counting, Fitting}
use Rattle.xs_fields.proofs.OrderLemmas.{earlier_assoc, first_missed-both}
use Rattle.xs_fields.proofs.IntegerLemmas.{and_left, and_right}
use Rattle.xs_model.specs.declared.decl.Decl.{Decl}
use Rattle.xs_model.specs.declared.decl.Decl.TheVariants.{One, Array}
use Rattle.xs_model.specs.Sound.{IsSize, IsSoundDecl, cell_count, most_cells, most_items, name_of, names_of}
use Rattle.xs_var.specs.declared.counted.Counted.{Counted}
use Rattle.xs_var.specs.Elements.{text_in, text_or_none, value_in}
use Rattle.xs_var.specs.Like.{declaration, single_domain}
use Rattle.xs_var.specs.Taken.{IsTaken}
use Rattle.xs_var.specs.VarDomain.{counting_meets, fitting_meets, text_domain, values_in}
use Rattle.xs_var.specs.VarUnit.{Declared}
use Rattle.xs_var.specs.Variable.{names_meet}
use Rattle.xs_array.specs.ArrayUnit.{array_fields_meet, array_meets, array_unit, is_array_counted, values_among, with_cells}
use Rattle.xs_array.specs.Cells.{are_positive, array_cells, cells_by, cells_from, cells_like, cells_named, does_fit, has_cell, is_content_full, is_same_list, named_in, one_for_all, stated_sizes}
use Rattle.xs_array.specs.DomainChild.{Named, cell_at}
use Rattle.xs_array.specs.Reading.{with_content}
use Rattle.xs_array.proofs.CountLemmas.{no_cells}
use Rattle.xs_array.proofs.FieldLemmas.{fields_fit}

-- nothing is missed of the element and the names
pub record IsClear (s : Declared) (n : Node) : Type 0 where
  pub fields : first_missed (array_fields_meet n) ≡ None
  pub named : first_missed (names_meet (names_of s.decls) n) ≡ None

none_first : (o : Option Condition) → earlier_of None o ≡ o
none_first o = refl

-- then what is missed first is of the counts and the cells
left_missed : (s : Declared) (n : Node) → IsClear s n → first_missed (array_meets s n) ≡ first_missed (λ k. counting_meets (is_array_counted s n) k && fitting_meets (does_fit s.decls n) k)
left_missed s n c =
    sym (first_missed-both (array_fields_meet n) (λ k. names_meet (names_of s.decls) n k && (counting_meets (is_array_counted s n) k && fitting_meets (does_fit s.decls n) k)))
    ∙ ap (λ o. earlier_of o (first_missed (λ k. names_meet (names_of s.decls) n k && (counting_meets (is_array_counted s n) k && fitting_meets (does_fit s.decls n) k)))) c.fields
    ∙ sym (first_missed-both (names_meet (names_of s.decls) n) (λ k. counting_meets (is_array_counted s n) k && fitting_meets (does_fit s.decls n) k))
    ∙ ap (λ o. earlier_of o (first_missed (λ k. counting_meets (is_array_counted s n) k && fitting_meets (does_fit s.decls n) k))) c.named

pub miss_counting : (s : Declared) (n : Node) → IsClear s n → is_array_counted s n ≡ false → IsTaken s (array_unit n) (Err Counting)
miss_counting s n c e = left_missed s n c ∙ ap (λ b. first_missed (λ k. counting_meets b k && fitting_meets (does_fit s.decls n) k)) e

pub miss_fitting : (s : Declared) (n : Node) → IsClear s n → is_array_counted s n ≡ true → does_fit s.decls n ≡ false → IsTaken s (array_unit n) (Err Fitting)
miss_fitting s n c e f = left_missed s n c ∙ ap (λ b. first_missed (λ k. counting_meets b k && fitting_meets (does_fit s.decls n) k)) e ∙ ap (λ b. first_missed (λ k. counting_meets true k && fitting_meets b k)) f

miss_none : (s : Declared) (n : Node) → IsClear s n → is_array_counted s n ≡ true → does_fit s.decls n ≡ true → first_missed (array_meets s n) ≡ None
miss_none s n c e f = left_missed s n c ∙ ap (λ b. first_missed (λ k. counting_meets b k && fitting_meets (does_fit s.decls n) k)) e ∙ ap (λ b. first_missed (λ k. counting_meets true k && fitting_meets b k)) f

-- a unit whose element or names miss a condition
pub miss_early : (s : Declared) (n : Node) (k : Condition) → first_missed (λ k. array_fields_meet n k && names_meet (names_of s.decls) n k) ≡ Some k → first_missed (array_meets s n) ≡ Some k
miss_early s n k e =
    let rest : Condition → Bool = λ (k : Condition). counting_meets (is_array_counted s n) k && fitting_meets (does_fit s.decls n) k in
    let t : Condition → Bool = λ (k : Condition). array_fields_meet n k && names_meet (names_of s.decls) n k in
    sym (first_missed-both (array_fields_meet n) (λ k. names_meet (names_of s.decls) n k && rest k))
    ∙ ap (earlier_of (first_missed (array_fields_meet n))) (sym (first_missed-both (names_meet (names_of s.decls) n) rest))
    ∙ sym (earlier_assoc (first_missed (array_fields_meet n)) (first_missed (names_meet (names_of s.decls) n)) (first_missed rest))
    ∙ ap (λ o. earlier_of o (first_missed rest)) (first_missed-both (array_fields_meet n) (names_meet (names_of s.decls) n) ∙ e)
    ∙ before (is_array_counted s n) (does_fit s.decls n) k (λ g. fit_met n (names_meet (names_of s.decls) n) refl (e ∙ ap (λ k. Some k) g))
  where
    never : (u : Condition → Bool) → u Fitting ≡ true → first_missed u ≡ Some Fitting → ⊥
    never u h g = by (u Known) (u Nesting) (u Spelling) (u Magnitude) (u Naming) (u Counting) (u Fitting) h g
      where
        by : (a b c d e f v : Bool) → v ≡ true → cond (not a) (Some Known) (cond (not b) (Some Nesting) (cond (not c) (Some Spelling) (cond (not d) (Some Magnitude) (cond (not e) (Some Naming) (cond (not f) (Some Counting) (cond (not v) (Some Fitting) None)))))) ≡ Some Fitting → ⊥
        by false b c d e f v h g = cc
        by true false c d e f v h g = cc
        by true true false d e f v h g = cc
        by true true true false e f v h g = cc
        by true true true true false f v h g = cc
        by true true true true true false v h g = cc
        by true true true true true true false h g = cc
        by true true true true true true true h g = cc

    fit_met : (n : Node) (u : Condition → Bool) → u Fitting ≡ true → first_missed (λ k. array_fields_meet n k && u k) ≡ Some Fitting → ⊥
    fit_met n u h g = never (λ k. array_fields_meet n k && u k) (ap (λ v. v && u Fitting) (fields_fit n) ∙ h) g

    before : (b d : Bool) (k : Condition) → (k ≡ Fitting → ⊥) → earlier_of (Some k) (first_missed (λ k. counting_meets b k && fitting_meets d k)) ≡ Some k
    before true true k h = refl
    before true false Known h = refl
    before true false Nesting h = refl
    before true false Spelling h = refl
    before true false Magnitude h = refl
    before true false Naming h = refl
    before true false Counting h = refl
    before true false Fitting h = refl
    before false d Known h = refl
    before false d Nesting h = refl
    before false d Spelling h = refl
    before false d Magnitude h = refl
    before false d Naming h = refl
    before false d Counting h = refl
    before false d Fitting h = absurd (h refl)

pub same_sizes : (ys zs : List ℤ) → is_same_list ys zs ≡ true → ys ≡ zs
same_sizes [] [] h = refl
same_sizes [] (z ∷ zs) h = cc
same_sizes (y ∷ ys) [] h = cc
same_sizes (y ∷ ys) (z ∷ zs) h =
    let one : int_eq y z ≡ true = and_left (int_eq y z) (is_same_list ys zs) h in
    let same : y ≡ z = (Decides-int_eq y z).0 one in
    ap (λ x. x ∷ ys) same ∙ ap (λ xs. z ∷ xs) (same_sizes ys zs (and_right (int_eq y z) (is_same_list ys zs) h))

positive_sizes : (ns : List ℤ) → AllByRecursion IsSize ns → are_positive ns ≡ true
positive_sizes [] h = refl
positive_sizes (n ∷ ns) h =
    let low : pos 1 ≤ℤ n = h.0 in
    let one : int_le (pos 1) n ≡ true = search (rules, ints) in
    ap (λ v. v && are_positive ns) one ∙ positive_sizes ns h.1

pub declared_sound : (ds : List Decl) (name : List ℕ) (d : Decl) → AllByRecursion IsSoundDecl ds → declaration ds name ≡ Some d → IsSoundDecl d
declared_sound [] name d h e = cc
declared_sound (x ∷ xs) name d h e = by (bytes_eq (name_of x) name) (declared_sound xs name d h.1) e
  where
    by : (v : Bool) → (declaration xs name ≡ Some d → IsSoundDecl d) → cond v (Some x) (declaration xs name) ≡ Some d → IsSoundDecl d
    by true more g = let same : x ≡ d = cc in subst IsSoundDecl same h.0
    by false more g = more g

none_counted : (sizes : List ℤ) (domain : Option (List Bounds)) → cell_count sizes ≡ 0 → sum (map values_in (replicate (cell_count sizes) domain)) ≡ 0
none_counted sizes domain e = ap (λ k. sum (map values_in (replicate k domain))) e

named_none : (sizes : List ℤ) (cs : List Named) (text : List ℕ) → cell_count sizes ≡ 0 → sum (map values_in (cells_named sizes cs text)) ≡ 0
named_none sizes [] text e = none_counted sizes (text_domain text) e
named_none sizes (c ∷ cs) text e = ap (λ k. sum (map values_in (map (cell_at (c ∷ cs)) (range_with_len 0 k)))) e

one_none : (sizes : List ℤ) (o : Option (List Bounds)) → cell_count sizes ≡ 0 → values_among (one_for_all sizes o) ≡ 0
one_none sizes None e = refl
one_none sizes (Some d) e = none_counted sizes (Some d) e

like_none : (sizes : List ℤ) (d : Decl) → are_positive sizes ≡ false → IsSoundDecl d → values_among (cells_like sizes d) ≡ 0
like_none sizes (One name domain) e h = none_counted sizes (Some domain) (no_cells sizes e)
like_none sizes (Array name others cells) e h = by (is_same_list sizes others) refl
  where
    by : (v : Bool) → is_same_list sizes others ≡ v → values_among (if v then Some cells else one_for_all sizes (single_domain (Array name others cells))) ≡ 0
    by true g =
        let right : are_positive sizes ≡ true = ap are_positive (same_sizes sizes others g) ∙ positive_sizes others h.2 in
        absurd (false≢true (sym e ∙ right))
    by false g = one_none sizes (single_domain (Array name others cells)) (no_cells sizes e)

by_none : (ds : List Decl) (like : Option (List ℕ)) (n : Node) → AllByRecursion IsSoundDecl ds → are_positive (stated_sizes n) ≡ false → values_among (cells_by ds like n) ≡ 0
by_none ds None n h e = named_none (stated_sizes n) (named_in n) (text_in n.pieces) (no_cells (stated_sizes n) e)
by_none ds (Some like) n h e = by (declaration ds like) refl
  where
    by : (o : Option Decl) → declaration ds like ≡ o → values_among (cells_from (stated_sizes n) o) ≡ 0
    by None g = refl
    by (Some d) g = like_none (stated_sizes n) d e (declared_sound ds like d h g)

both_within : (a b c d : ℕ) → a ≤ b → c ≤ d → (nat_le a b && nat_le c d) ≡ true
both_within a b c d h g = ap (λ v. v && nat_le c d) (le-leb a b h) ∙ le-leb c d g

-- sizes that are not all at least 1
pub not_positive : (s : Declared) (n : Node) → IsClear s n → AllByRecursion IsSoundDecl s.decls → s.cells ≤ most_cells → s.values ≤ most_items → are_positive (stated_sizes n) ≡ false → IsTaken s (array_unit n) (Err Fitting)
not_positive s n c h few less e =
    let values : values_among (array_cells s.decls n) ≡ 0 = by_none s.decls (value_in (codes "as") n.attrs) n h e in
    let counted : is_array_counted s n ≡ true = both_within (s.cells + cell_count (stated_sizes n)) most_cells (s.values + values_among (array_cells s.decls n)) most_items (omega (arith, no_cells (stated_sizes n) e, few)) (omega (arith, values, less)) in
    miss_fitting s n c counted (ap (λ v. (v && is_content_full (value_in (codes "as") n.attrs) n) && has_cell (array_cells s.decls n)) e)

-- too many cells
pub too_many_cells : (s : Declared) (n : Node) → IsClear s n → (s.cells + cell_count (stated_sizes n) ≤ most_cells → ⊥) → IsTaken s (array_unit n) (Err Counting)
too_many_cells s n c h = miss_counting s n c (ap (λ v. v && nat_le (s.values + values_among (array_cells s.decls n)) most_items) (by (nat_le (s.cells + cell_count (stated_sizes n)) most_cells) refl))
  where
    by : (v : Bool) → nat_le (s.cells + cell_count (stated_sizes n)) most_cells ≡ v → nat_le (s.cells + cell_count (stated_sizes n)) most_cells ≡ false
    by true e = absurd (h (leb-true (s.cells + cell_count (stated_sizes n)) most_cells e))
    by false e = e

-- the array with its cells
pub taken_with : (s : Declared) (n : Node) (r : Result Counted Condition) → IsClear s n → are_positive (stated_sizes n) ≡ true → s.cells + cell_count (stated_sizes n) ≤ most_cells → s.values ≤ most_items → r ≡ with_content (text_or_none (value_in (codes "id") n.attrs)) (stated_sizes n) (array_cells s.decls n) (is_content_full (value_in (codes "as") n.attrs) n) (s.cells + cell_count (stated_sizes n)) s.values → IsTaken s (array_unit n) r
taken_with s n r c positive few less is = subst (IsTaken s (array_unit n)) (sym is) (by (array_cells s.decls n) refl)
  where
    full : Bool
    full = is_content_full (value_in (codes "as") n.attrs) n

    enough : nat_le (s.cells + cell_count (stated_sizes n)) most_cells ≡ true
    enough = le-leb (s.cells + cell_count (stated_sizes n)) most_cells few

    counted : (o : Option (List (Option (List Bounds)))) → array_cells s.decls n ≡ o → is_array_counted s n ≡ nat_le (s.values + values_among o) most_items
    counted o e = ap (λ v. v && nat_le (s.values + values_among (array_cells s.decls n)) most_items) enough ∙ ap (λ o. nat_le (s.values + values_among o) most_items) e

    fits : (o : Option (List (Option (List Bounds)))) → array_cells s.decls n ≡ o → does_fit s.decls n ≡ (full && has_cell o)
    fits o e = ap (λ v. (v && full) && has_cell (array_cells s.decls n)) positive ∙ ap (λ o. full && has_cell o) e

    none_full : (v : Bool) → (v && false) ≡ false
    none_full true = refl
    none_full false = refl

    name : List ℕ
    name = text_or_none (value_in (codes "id") n.attrs)

    items_by : (items : List (Option (List Bounds))) → array_cells s.decls n ≡ Some items → (v w : Bool) → nat_le (s.values + sum (map values_in items)) most_items ≡ v → (full && list_any is_some items) ≡ w → IsTaken s (array_unit n) (if v then (if w then Ok (record { decl = Array name (stated_sizes n) items; cells = s.cells + cell_count (stated_sizes n); values = s.values + sum (map values_in items) }) else Err Fitting) else Err Counting)
    items_by items e false w g h = miss_counting s n c (counted (Some items) e ∙ g)
    items_by items e true false g h = miss_fitting s n c (counted (Some items) e ∙ g) (fits (Some items) e ∙ h)
    items_by items e true true g h = (miss_none s n c (counted (Some items) e ∙ g) (fits (Some items) e ∙ h), ap (with_cells s name (stated_sizes n)) e)

    by : (o : Option (List (Option (List Bounds)))) → array_cells s.decls n ≡ o → IsTaken s (array_unit n) (with_content name (stated_sizes n) o full (s.cells + cell_count (stated_sizes n)) s.values)
    by None e = miss_fitting s n c (counted None e ∙ le-leb (s.values + 0) most_items (omega (arith, less))) (fits None e ∙ none_full full)
    by (Some items) e = items_by items e (nat_le (s.values + sum (map values_in items)) most_items) (full && list_any is_some items) refl refl

earlier_none : (a b : Option Condition) → earlier_of a b ≡ None → (a ≡ None) × (b ≡ None)
earlier_none None None h = (refl, refl)
earlier_none None (Some k) h = cc
earlier_none (Some j) None h = cc
earlier_none (Some j) (Some k) h = by (nat_le (rank j) (rank k)) h
  where
    by : (v : Bool) → (if v then Some j else Some k) ≡ None → (Some j ≡ None) × (Some k ≡ None)
    by true g = cc
    by false g = cc

pub clear_of : (s : Declared) (n : Node) (a b r : Option Condition) → a ≡ first_missed (array_fields_meet n) → b ≡ first_missed (names_meet (names_of s.decls) n) → r ≡ earlier_of a b → r ≡ None → IsClear s n
clear_of s n a b r fields named is none = let both = earlier_none a b (sym is ∙ none) in record { fields = sym fields ∙ both.0; named = sym named ∙ both.1 }

pub ok_with : {A E : Type 0} (r : Result A E) (P Q : A → Type 0) → ((x : A) → P x → Q x) → IfOk r P → IfOk r Q
ok_with (Ok x) P Q h g = h x g
ok_with (Err e) P Q h g = tt
