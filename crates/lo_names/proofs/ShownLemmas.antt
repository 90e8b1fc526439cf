-- Variables beside their words and domains.
use Rattle.std.proofs.Common.{◌≡◌, ℕ, List, [], ◌∷◌, ◌++◌, Option, None, Some, length, map, refl, ap, arith}
use Rattle.std.proofs.lemmas.List.{length-append}
use Rattle.std.specs.List.{AllByRecursion}
use Rattle.xf_num.specs.Span.{Bounds}
use Rattle.xs_model.specs.declared.decl.Decl.{Decl}
use Rattle.xs_model.specs.declared.decl.Decl.TheVariants.{One, Array}
use Rattle.xs_model.specs.Names.{words, domains, words_of, domains_of, cell_words, defined, row_major}
use Rattle.xs_model.specs.Sound.{IsSoundDecl}
use Rattle.fz_model.specs.declared.model.FzVar.{FzVar}
use Rattle.lo_names.specs.Spelling.{spelled}
use Rattle.lo_names.specs.Shown.{shown_var, shown_each, shown_vars, ShowsAll}
use Rattle.lo_names.proofs.RowMajor.{length-row_major}

pub shown_each-append : (ws : List (List ℕ)) (ds : List (List Bounds)) (vs : List (List ℕ)) (es : List (List Bounds)) → length ws ≡ length ds → shown_each (ws ++ vs) (ds ++ es) ≡ shown_each ws ds ++ shown_each vs es
shown_each-append [] [] vs es h = refl
shown_each-append [] (d ∷ ds) vs es h = absurd (omega arith)
shown_each-append (w ∷ ws) [] vs es h = absurd (omega arith)
shown_each-append (w ∷ ws) (d ∷ ds) vs es h = ap (λ xs. shown_var w d ∷ xs) (shown_each-append ws ds vs es (omega arith))

cells_same : (name : List ℕ) (ts : List (List ℕ)) (cells : List (Option (List Bounds))) → length cells ≡ length ts → length (cell_words name ts cells) ≡ length (defined cells)
cells_same name [] [] h = refl
cells_same name [] (cell ∷ cells) h = absurd (omega arith)
cells_same name (t ∷ ts) [] h = absurd (omega arith)
cells_same name (t ∷ ts) (None ∷ cells) h = cells_same name ts cells (omega arith)
cells_same name (t ∷ ts) (Some d ∷ cells) h = omega (arith, cells_same name ts cells (omega arith))

-- a sound declaration has as many words as domains
pub same_count : (d : Decl) → IsSoundDecl d → length (words_of d) ≡ length (domains_of d)
same_count (One name domain) h = refl
same_count (Array name sizes cells) h = cells_same name (row_major sizes) cells (omega (arith, h.3, length-row_major sizes))

pub same_counts : (ds : List Decl) → AllByRecursion IsSoundDecl ds → length (words ds) ≡ length (domains ds)
same_counts [] h = refl
same_counts (d ∷ ds) h = omega (arith, length-append (words_of d) (words ds), length-append (domains_of d) (domains ds), same_count d h.0, same_counts ds h.1)

-- the variables of one declaration more
pub shown_more : (d : Decl) (ds : List Decl) → IsSoundDecl d → shown_vars (d ∷ ds) ≡ shown_each (words_of d) (domains_of d) ++ shown_vars ds
shown_more d ds h = shown_each-append (words_of d) (domains_of d) (words ds) (domains ds) (same_count d h)

names_each : (ws : List (List ℕ)) (ds : List (List Bounds)) → length ws ≡ length ds → map (λ (v : FzVar). v.name) (shown_each ws ds) ≡ map spelled ws
names_each [] [] h = refl
names_each [] (d ∷ ds) h = absurd (omega arith)
names_each (w ∷ ws) [] h = absurd (omega arith)
names_each (w ∷ ws) (d ∷ ds) h = ap (λ xs. spelled w ∷ xs) (names_each ws ds (omega arith))

domains_each : (ws : List (List ℕ)) (ds : List (List Bounds)) → length ws ≡ length ds → map (λ (v : FzVar). v.domain) (shown_each ws ds) ≡ ds
domains_each [] [] h = refl
domains_each [] (d ∷ ds) h = absurd (omega arith)
domains_each (w ∷ ws) [] h = absurd (omega arith)
domains_each (w ∷ ws) (d ∷ ds) h = ap (λ xs. d ∷ xs) (domains_each ws ds (omega arith))

pub shows_all : ShowsAll
shows_all ds h = (names_each (words ds) (domains ds) (same_counts ds h), domains_each (words ds) (domains ds) (same_counts ds h))
