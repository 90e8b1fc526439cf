-- What a `var` that misses nothing declares.
use Rattle.std.proofs.Common.{◌≡◌, ◌≤◌, ◌+◌, ℕ, Bool, true, false, not, ◌&&◌, cond, List, [], ◌∷◌, Option, None, Some, IfSome, IfOk, refl, ap, sym, subst, ◌∙◌, arith, codes}
use Rattle.std.specs.List.{AllByRecursion, find, list_all}
use Rattle.std.proofs.lemmas.Bool.{leb-true}
use Rattle.std.proofs.lemmas.List.Sums.{sum-map, sum_by-cons}
use Rattle.std.specs.Prelude.{Result, is_some, nat_le}
use Rattle.xf_markup.specs.declared.tree.Node.{Node}
use Rattle.xf_num.specs.Domain.{IsDomain}
use Rattle.xf_num.specs.Span.{Bounds}
use Rattle.xs_fields.proofs.IntegerLemmas.{and_left, and_right}
use Rattle.xs_fields.specs.Conditions.{first_missed, in_order}
use Rattle.xs_fields.specs.Identifiers.{is_identifier}
use Rattle.xs_fields.specs.declared.condition.Condition.{Condition}
use Rattle.xs_fields.specs.declared.condition.Condition.TheVariants.{Known, Nesting, Spelling, Magnitude, Naming, Counting, Fitting}
use Rattle.xs_model.specs.Identifier.{IsIdentifier, is_letter, is_word}
use Rattle.xs_model.specs.Sound.{IsSoundDecl, HasSmallEnds, most_cells, most_items, names_of, values_of}
use Rattle.xs_var.specs.Elements.{is_one_of, text_in, value_in}
use Rattle.xs_var.specs.Taken.{IsSoundTaken, IsTaken}
use Rattle.xs_var.specs.VarDomain.{counts_meet, is_counted, values_in}
use Rattle.xs_var.specs.VarUnit.{Declared, domain_for, var_meets, var_unit, with_one}
use Rattle.xs_var.specs.Variable.{as_meets, domain_meets, id_meets, is_earlier, is_new, names_meet, var_fields_meet}
use Rattle.xs_var.specs.declared.counted.Counted.{Counted}
use Rattle.xs_vars.specs.Kept.{counted_of}
use Rattle.xs_vars.proofs.DomainLemmas.{ends_small}

none_found : {A : Type 0} (test : A → Bool) (xs : List A) → find test xs ≡ None → AllByRecursion (λ x. test x ≡ false) xs
none_found test [] h = tt
none_found test (x ∷ xs) h = by (test x) refl h (λ g. none_found test xs g)
  where
    by : (t : Bool) → test x ≡ t → cond t (Some x) (find test xs) ≡ None → (find test xs ≡ None → AllByRecursion (λ x. test x ≡ false) xs) → AllByRecursion (λ x. test x ≡ false) (x ∷ xs)
    by true e g more = cc
    by false e g more = (e, more g)

allowed : (b : Bool) → not b ≡ false → b ≡ true
allowed true h = refl
allowed false h = cc

-- where no condition is missed each is met
pub met : (test : Condition → Bool) → first_missed test ≡ None → (k : Condition) → test k ≡ true
met test h = by (none_found (λ k. not (test k)) in_order h)
  where
    by : AllByRecursion (λ k. not (test k) ≡ false) in_order → (k : Condition) → test k ≡ true
    by g Known = allowed (test Known) g.0
    by g Nesting = allowed (test Nesting) g.1.0
    by g Spelling = allowed (test Spelling) g.1.1.0
    by g Magnitude = allowed (test Magnitude) g.1.1.1.0
    by g Naming = allowed (test Naming) g.1.1.1.1.0
    by g Counting = allowed (test Counting) g.1.1.1.1.1.0
    by g Fitting = allowed (test Fitting) g.1.1.1.1.1.1.0

-- what a `var` that misses nothing has, of this name and this domain
pub record IsMet (s : Declared) (id : Option (List ℕ)) (domain : Option (List Bounds)) : Type 0 where
  pub named : id_meets id Spelling ≡ true
  pub new : is_new (names_of s.decls) id ≡ true
  pub cells : s.cells + 1 ≤ most_cells
  pub values : s.values + values_in domain ≤ most_items
  pub fits : is_some domain ≡ true

pub all_met : (s : Declared) (n : Node) → first_missed (var_meets s n) ≡ None → IsMet s (value_in (codes "id") n.attrs) (domain_for s.decls n)
all_met s n h =
    let id : Option (List ℕ) = value_in (codes "id") n.attrs in
    let like : Option (List ℕ) = value_in (codes "as") n.attrs in
    let d : Option (List Bounds) = domain_for s.decls n in
    let fields = λ (k : Condition). and_left (var_fields_meet n k) (names_meet (names_of s.decls) n k && counts_meet s.cells s.values d k) (met (var_meets s n) h k) in
    let others = λ (k : Condition). and_right (var_fields_meet n k) (names_meet (names_of s.decls) n k && counts_meet s.cells s.values d k) (met (var_meets s n) h k) in
    let counted : is_counted s.cells s.values d ≡ true = and_left (is_counted s.cells s.values d) true (others Counting) in
    record {
      named = and_left (id_meets id Spelling) (as_meets like Spelling && domain_meets like (text_in n.pieces) Spelling) (fields Spelling);
      new = and_left (is_new (names_of s.decls) id) (is_earlier (names_of s.decls) like) (and_left (is_new (names_of s.decls) id && is_earlier (names_of s.decls) like) true (others Naming));
      cells = leb-true (s.cells + 1) most_cells (and_left (nat_le (s.cells + 1) most_cells) (nat_le (s.values + values_in d) most_items) counted);
      values = leb-true (s.values + values_in d) most_items (and_right (nat_le (s.cells + 1) most_cells) (nat_le (s.values + values_in d) most_items) counted);
      fits = others Fitting;
    }

identifier : (text : List ℕ) → is_identifier text ≡ true → IsIdentifier text
identifier [] h = cc
identifier (b ∷ bs) h = (and_left (is_letter b) (list_all is_word bs) h, and_right (is_letter b) (list_all is_word bs) h)

denied : (b : Bool) → not b ≡ true → b ≡ false
denied false h = refl
denied true h = cc

sound_counted : (s : Declared) (id : Option (List ℕ)) (d : Option (List Bounds)) → IsMet s id d → IfSome d IsDomain → IfSome d (λ x. AllByRecursion HasSmallEnds x) → IfOk (counted_of s.cells s.values d id) (λ c. IsSoundTaken s c)
sound_counted s id None m h k = tt
sound_counted s None (Some d) m h k = tt
sound_counted s (Some name) (Some d) m h k = record {
  decl = (identifier name m.named, (h, k));
  new = denied (is_one_of (names_of s.decls) name) m.new;
  cells = refl;
  values = ap (λ v. s.values + v) (omega (arith, sum-map values_of (d ∷ []), sum_by-cons values_of d []));
  few_cells = m.cells;
  few_values = m.values;
}

taken_counted : (s : Declared) (n : Node) (id : Option (List ℕ)) (d : Option (List Bounds)) → first_missed (var_meets s n) ≡ None → IsMet s id d → (var_unit n).behind s ≡ with_one s id d → IsTaken s (var_unit n) (counted_of s.cells s.values d id)
taken_counted s n id None h m e = let bad : false ≡ true = m.fits in cc
taken_counted s n None (Some d) h m e = let bad : false ≡ true = m.named in cc
taken_counted s n (Some name) (Some d) h m e = (h, e)

-- a `var` that misses nothing, and its domain
pub record IsJudged (s : Declared) (n : Node) (domain : Option (List Bounds)) : Type 0 where
  pub none : first_missed (var_meets s n) ≡ None
  pub same : domain ≡ domain_for s.decls n

pub judged : (s : Declared) (n : Node) (domain found : Option (List Bounds)) (missed : Option Condition) → missed ≡ first_missed (var_meets s n) → missed ≡ None → domain ≡ found → found ≡ domain_for s.decls n → IsJudged s n domain
judged s n domain found missed is none kept same = record { none = sym is ∙ none; same = kept ∙ same }

pub has_met : (s : Declared) (n : Node) (domain : Option (List Bounds)) → IsJudged s n domain → IsMet s (value_in (codes "id") n.attrs) domain
has_met s n domain j = subst (λ d. IsMet s (value_in (codes "id") n.attrs) d) (sym j.same) (all_met s n j.none)

pub is_taken : (s : Declared) (n : Node) (domain : Option (List Bounds)) (r : Result Counted Condition) → IsJudged s n domain → r ≡ counted_of s.cells s.values domain (value_in (codes "id") n.attrs) → IsTaken s (var_unit n) r
is_taken s n domain r j e =
    let id : Option (List ℕ) = value_in (codes "id") n.attrs in
    subst (λ r. IsTaken s (var_unit n) r) (sym e) (taken_counted s n id domain j.none (has_met s n domain j) (ap (λ d. with_one s id d) (sym j.same)))

pub is_sound : (s : Declared) (n : Node) (domain : Option (List Bounds)) (r : Result Counted Condition) → IsJudged s n domain → AllByRecursion IsSoundDecl s.decls → IfSome domain IsDomain → r ≡ counted_of s.cells s.values domain (value_in (codes "id") n.attrs) → IfOk r (λ c. IsSoundTaken s c)
is_sound s n domain r j decls ascends e =
    let small : IfSome domain (λ x. AllByRecursion HasSmallEnds x) = subst (λ d. IfSome d (λ x. AllByRecursion HasSmallEnds x)) (sym j.same) (ends_small s.decls n decls) in
    subst (λ r. IfOk r (λ c. IsSoundTaken s c)) (sym e) (sound_counted s (value_in (codes "id") n.attrs) domain (has_met s n domain j) ascends small)
