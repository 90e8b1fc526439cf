-- The bounds of variables: how many there are, and that the values of the domains lie within them.
use Rattle.std.proofs.Common.{◌≡◌, ◌++◌, ℤ, List, [], ◌∷◌, Option, None, Some, length, map, refl, ◌∙◌, arith}
use Rattle.std.proofs.lemmas.List.{length-append, length-map}
use Rattle.std.specs.List.{AllByRecursion}
use Rattle.xf_num.proofs.Members.{least_bound, greatest_bound}
use Rattle.xf_num.specs.Span.{Bounds}
use Rattle.xs_model.specs.declared.decl.Decl.{Decl}
use Rattle.xs_model.specs.declared.decl.Decl.TheVariants.{One, Array}
use Rattle.xs_model.specs.Instance.{AreMembers}
use Rattle.xs_model.specs.Names.{words, domains, words_of, domains_of, defined}
use Rattle.xs_model.specs.Outline.{outline_of, outlines_of, variables_in, defined_count}
use Rattle.xs_model.specs.Sound.{IsSoundDecl, IsSoundDomain}
use Rattle.xs_model.specs.Spans.{AreWithin, span_in, spans_of}
use Rattle.xs_model.proofs.WordLemmas.{count_is}
use Rattle.std.specs.Prelude.{is_some}

defined_counted : (cells : List (Option (List Bounds))) → length (defined cells) ≡ defined_count (map is_some cells)
defined_counted [] = refl
defined_counted (None ∷ cells) = defined_counted cells
defined_counted (Some d ∷ cells) = omega (arith, defined_counted cells)

domains_counted : (d : Decl) → length (domains_of d) ≡ defined_count (outline_of d).cells
domains_counted (One name domain) = refl
domains_counted (Array name sizes cells) = defined_counted cells

domains_variables : (ds : List Decl) → length (domains ds) ≡ variables_in (outlines_of ds)
domains_variables [] = refl
domains_variables (d ∷ ds) = omega (arith, length-append (domains_of d) (domains ds), domains_counted d, domains_variables ds)

pub spans_variables : (ds : List Decl) → length (spans_of ds) ≡ variables_in (outlines_of ds)
spans_variables ds = length-map (domains ds) span_in ∙ domains_variables ds

-- each variable has a word
pub words_counted : (ds : List Decl) → AllByRecursion IsSoundDecl ds → variables_in (outlines_of ds) ≡ length (words ds)
words_counted [] h = refl
words_counted (d ∷ ds) h = omega (arith, count_is d h.0, words_counted ds h.1, length-append (words_of d) (words ds))

pub spans_words : (ds : List Decl) → AllByRecursion IsSoundDecl ds → length (spans_of ds) ≡ length (words ds)
spans_words ds h = spans_variables ds ∙ words_counted ds h

cells_sound : (cells : List (List Bounds)) (a : List ℤ) → AllByRecursion IsSoundDomain cells → AreMembers cells a → AreWithin (map span_in cells) a
cells_sound [] [] s h = tt
cells_sound [] (x ∷ a) s h = absurd h
cells_sound (d ∷ ds) [] s h = absurd h
cells_sound (d ∷ ds) (x ∷ a) s h = (record { from = least_bound d s.0.0 x h.0; to = greatest_bound d s.0.0 x h.0 }, cells_sound ds a s.1 h.1)

all_join : {A : Type 0} (P : A → Type 0) (xs ys : List A) → AllByRecursion P xs → AllByRecursion P ys → AllByRecursion P (xs ++ ys)
all_join P [] ys h k = k
all_join P (x ∷ xs) ys h k = (h.0, all_join P xs ys h.1 k)

decl_sound : (d : Decl) → IsSoundDecl d → AllByRecursion IsSoundDomain (domains_of d)
decl_sound (One name domain) h = (h.1, tt)
decl_sound (Array name sizes cells) h = h.5

domains_sound : (ds : List Decl) → AllByRecursion IsSoundDecl ds → AllByRecursion IsSoundDomain (domains ds)
domains_sound [] h = tt
domains_sound (d ∷ ds) h = all_join IsSoundDomain (domains_of d) (domains ds) (decl_sound d h.0) (domains_sound ds h.1)

-- values of the domains lie within the bounds
pub members_within : (ds : List Decl) (a : List ℤ) → AllByRecursion IsSoundDecl ds → AreMembers (domains ds) a → AreWithin (spans_of ds) a
members_within ds a s h = cells_sound (domains ds) a (domains_sound ds s) h
