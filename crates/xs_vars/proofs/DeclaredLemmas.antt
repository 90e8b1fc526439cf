-- Sound declarations with one more.
use Rattle.std.proofs.Common.{◌≡◌, ◌≢◌, ◌<◌, ◌≤◌, ◌+◌, ◌^◌, ◌||◌, ℕ, zero, suc, Bool, true, false, List, [], ◌∷◌, ◌++◌, Option, None, Some, length, map, get_or, bytes_eq, ap, sym, subst, ◌∙◌, arith}
use Rattle.std.specs.Option.{is_some}
use Rattle.std.specs.List.{AllByRecursion, AllPairs, sum}
use Rattle.std.proofs.lemmas.Grind.{flat_map-append}
use Rattle.std.proofs.lemmas.List.{append-nil, map-append, length-append}
use Rattle.std.proofs.lemmas.List.Quantifiers.{all_pairs_push}
use Rattle.std.proofs.lemmas.List.Sums.{sum-map, sum_by-append, sum_by-cons}
use Rattle.std.proofs.lemmas.Slice.Eq.{bytes_eq-Decides}
use Rattle.xf_num.specs.Span.{Bounds}
use Rattle.xs_model.specs.Names.{cell_words, domains, domains_of, row_major, words, words_of}
use Rattle.xs_model.specs.Outline.{Outline, defined_count, outline_of, outlines_of, variables_in}
use Rattle.xs_model.specs.Sound.{IsSoundDecl, cells_of, name_of, names_of, values_of}
use Rattle.xs_model.specs.declared.decl.Decl.{Decl}
use Rattle.xs_model.specs.declared.decl.Decl.TheVariants.{One, Array}
use Rattle.xs_var.specs.Elements.{is_one_of}
use Rattle.xs_var.specs.Taken.{IsSoundTaken, with_decl}
use Rattle.xs_var.specs.VarUnit.{Declared}
use Rattle.xs_var.specs.declared.counted.Counted.{Counted}
use Rattle.xs_vars.specs.Declarations.{AreSound, IsSoundDeclared, declared_of}
use Rattle.xs_vars.specs.Kept.{IsKept}
use Rattle.xs_vars.specs.declared.declarations.Declarations.{Declarations}

-- no more variables than cells
cells_few : (cells : List (Option (List Bounds))) → defined_count (map is_some cells) ≤ length cells
cells_few [] = omega arith
cells_few (None ∷ cells) = let more = cells_few cells in omega arith
cells_few (Some d ∷ cells) = let more = cells_few cells in omega arith

count_few : (d : Decl) → defined_count (outline_of d).cells ≤ cells_of d
count_few (One name domain) = omega arith
count_few (Array name sizes cells) = cells_few cells

sum_both : {A : Type 0} (f : A → ℕ) (xs ys : List A) → sum (map f (xs ++ ys)) ≡ sum (map f xs) + sum (map f ys)
sum_both f xs ys = omega (arith, sum-map f (xs ++ ys), sum-map f xs, sum-map f ys, sum_by-append f xs ys)

sum_one : {A : Type 0} (f : A → ℕ) (x : A) → sum (map f (x ∷ [])) ≡ f x
sum_one f x = omega (arith, sum-map f (x ∷ []), sum_by-cons f x [])

sum_first : {A : Type 0} (f : A → ℕ) (x : A) (xs : List A) → sum (map f (x ∷ xs)) ≡ f x + sum (map f xs)
sum_first f x xs = omega (arith, sum-map f (x ∷ xs), sum-map f xs, sum_by-cons f x xs)

variables_few : (ds : List Decl) → variables_in (outlines_of ds) ≤ sum (map cells_of ds)
variables_few [] = omega arith
variables_few (d ∷ ds) = omega (arith, sum_first cells_of d ds, count_few d, variables_few ds)

-- there is room for the variables of one declaration more
pub room : (s : Declared) (c : Counted) (os : List Outline) → os ≡ outlines_of s.decls → IsSoundDeclared s → IsSoundTaken s c → variables_in os + defined_count (outline_of c.decl).cells < 2 ^ 32
room s c os e h k = let same = ap variables_in e in omega (arith, same, variables_few s.decls, h.cells, count_few c.decl, k.cells, k.few_cells)

-- the words of the defined cells
cell_words_few : (name : List ℕ) (ts : List (List ℕ)) (cells : List (Option (List Bounds))) → length (cell_words name ts cells) ≤ length cells
cell_words_few name [] cells = omega arith
cell_words_few name (t ∷ ts) [] = omega arith
cell_words_few name (t ∷ ts) (None ∷ cells) = omega (arith, cell_words_few name ts cells)
cell_words_few name (t ∷ ts) (Some d ∷ cells) = omega (arith, cell_words_few name ts cells)

decl_words_few : (d : Decl) → length (words_of d) ≤ cells_of d
decl_words_few (One name domain) = omega arith
decl_words_few (Array name sizes cells) = cell_words_few name (row_major sizes) cells

words_few : (ds : List Decl) → length (words ds) ≤ sum (map cells_of ds)
words_few [] = omega arith
words_few (d ∷ ds) = omega (arith, sum_first cells_of d ds, decl_words_few d, words_few ds, length-append (words_of d) (words ds))

pub few : (s : Declared) → IsSoundDeclared s → length (words s.decls) < 2 ^ 32
few s h = omega (arith, words_few s.decls, h.cells, h.few_cells)

-- a name that is none of a list stands nowhere in it
unlisted : (names : List (List ℕ)) (name : List ℕ) → is_one_of names name ≡ false → (k : ℕ) (d : List ℕ) → k < length names → get_or names k d ≢ name
unlisted [] name h k d lt e = absurd (omega (arith, lt))
unlisted (n ∷ ns) name h zero d lt e = let hit : bytes_eq name n ≡ true = (bytes_eq-Decides name n).1 (sym e) in absurd (both (bytes_eq name n) (is_one_of ns name) hit h)
  where
    both : (a b : Bool) → a ≡ true → (a || b) ≡ false → ⊥
    both true b p q = cc
    both false b p q = cc
unlisted (n ∷ ns) name h (suc k) d lt e = unlisted ns name (right (bytes_eq name n) (is_one_of ns name) h) k d (omega (arith, lt)) e
  where
    right : (a b : Bool) → (a || b) ≡ false → b ≡ false
    right true b p = cc
    right false b p = p

all_more : {A : Type 0} (P : A → Type 0) (xs : List A) (x : A) → AllByRecursion P xs → P x → AllByRecursion P (xs ++ x ∷ [])
all_more P [] x h k = (k, tt)
all_more P (y ∷ xs) x h k = (h.0, all_more P xs x h.1 k)

domains_more : (ds : List Decl) (d : Decl) → domains (ds ++ d ∷ []) ≡ domains ds ++ domains_of d
domains_more ds d = flat_map-append domains_of ds (d ∷ []) ∙ ap (λ xs. domains ds ++ xs) (append-nil (domains_of d))

pub grown : (s : Declared) (c : Counted) → IsSoundDeclared s → IsSoundTaken s c → IsSoundDeclared (with_decl s c)
grown s c h k = record {
  distinct = subst (λ names. AllPairs (λ a b. a ≢ b) names) (sym (map-append name_of s.decls (c.decl ∷ []))) (all_pairs_push (λ a b. a ≢ b) (names_of s.decls) (name_of c.decl) h.distinct (unlisted (names_of s.decls) (name_of c.decl) k.new));
  decls = all_more IsSoundDecl s.decls c.decl h.decls k.decl;
  cells = omega (arith, k.cells, h.cells, sum_both cells_of s.decls (c.decl ∷ []), sum_one cells_of c.decl);
  values = omega (arith, k.values, h.values, ap (λ ds. sum (map values_of ds)) (domains_more s.decls c.decl), sum_both values_of (domains s.decls) (domains_of c.decl));
  few_cells = k.few_cells;
  few_values = k.few_values;
}

pub named : (ds : List Decl) (d : Decl) (os : List Outline) → os ≡ outlines_of ds → os ++ outline_of d ∷ [] ≡ outlines_of (ds ++ d ∷ [])
named ds d os e = ap (λ os. os ++ outline_of d ∷ []) e ∙ sym (map-append outline_of ds (d ∷ []))

pub kept_with : (known : Declarations) (c : Counted) (ds : List Decl) (os : List Outline) → IsKept known → IsSoundTaken (declared_of known) c → ds ≡ known.decls ++ c.decl ∷ [] → os ≡ known.names ++ outline_of c.decl ∷ [] → IsKept (record { decls = ds; names = os; cells = c.cells; values = c.values })
kept_with known c ds os h k e f = record {
  names = f ∙ named known.decls c.decl known.names h.names ∙ ap outlines_of (sym e);
  sound = subst (λ ds. IsSoundDeclared (record { decls = ds; cells = c.cells; values = c.values })) (sym e) (grown (declared_of known) c h.sound k);
}

-- sound declarations, without what is counted beside them
pub are_sound : (d : Declarations) → IsKept d → AreSound d.decls
are_sound d k = record {
  distinct = k.sound.distinct;
  decls = k.sound.decls;
  few_cells = omega (arith, k.sound.cells, k.sound.few_cells);
  few_values = omega (arith, k.sound.values, k.sound.few_values);
}
