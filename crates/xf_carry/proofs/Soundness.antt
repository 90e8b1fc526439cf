-- The model of an accepted instance is a sound model of FlatZinc.
use Rattle.std.proofs.Common.{◌≡◌, ◌≢◌, ℕ, zero, suc, ◌+◌, ◌<◌, ◌≤◌, ◌^◌, ℤ, pos, negsuc, neg_ℤ, ◌≤ℤ◌, ◌+ℤ◌, Bool, true, false, List, [], ◌∷◌, ◌++◌, Option, None, Some, length, map, get_or, slice_get, refl, ap, ap₂, sym, ◌∙◌, subst, arith, append-nil, inl, inr}
use Rattle.std.specs.Prelude.{◌⊎◌, AllPairs, sum, nat_abs}
use Rattle.std.specs.List.{AllByRecursion, range_with_len}
use Rattle.std.proofs.lemmas.Int.{ints}
use Rattle.std.proofs.lemmas.List.{map-append, length-map}
use Rattle.std.proofs.lemmas.List.Sums.{sum-map, sum_by-cons}
use Rattle.xf_num.specs.Domain.{IsDomain, Ascends, least_of, greatest_of}
use Rattle.xf_num.specs.Span.{Bounds}
use Rattle.xs_model.specs.declared.decl.Decl.{Decl}
use Rattle.xs_model.specs.declared.decl.Decl.TheVariants.{One, Array}
use Rattle.xs_model.specs.declared.instance.Instance.{Instance}
use Rattle.xs_model.specs.Accepted.{IsSound, IsAccepted}
use Rattle.xs_model.specs.Denotes.{Denotes}
use Rattle.xs_model.specs.Names.{words, domains, domains_of}
use Rattle.xs_model.specs.Outline.{Outline, outlines_of}
use Rattle.xs_model.specs.Sound.{IsSoundDecl, IsSoundDomain, HasSmallEnds, IsSmall as IsSmallInteger, magnitudes, cells_of, most_cells}
use Rattle.xs_model.specs.Spans.{span_in, spans_of}
use Rattle.xs_model.proofs.SpanLemmas.{spans_words}
use Rattle.xs_fields.specs.Cells.{variables_of}
use Rattle.xs_fields.specs.Law.{AreNames}
use Rattle.xs_fields.proofs.DistinctNames.{one_denotation}
use Rattle.xs_notation.proofs.Declared.{denotes, sound-all, few-all, distinct-all}
use Rattle.fz_model.specs.declared.model.FzVar.{FzVar}
use Rattle.fz_model.specs.declared.model.Output.{Output}
use Rattle.fz_model.specs.Limits.{IsSmall}
use Rattle.fz_model.specs.Sound as flat
use Rattle.fz_model.specs.Sound.{HasOwnDomain, AreVars, IsCall, booleans_of}
use Rattle.lo_names.specs.LowNames.{auxiliary_name, low_names}
use Rattle.lo_names.specs.Shown.{shown_each, shown_vars}
use Rattle.lo_names.specs.Spelling.{spelled}
use Rattle.lo_names.proofs.LowLemmas.{are_low_names}
use Rattle.lo_names.proofs.ShownLemmas.{same_counts, shows_all}
use Rattle.lo_names.proofs.WordsLemmas.{words_direct}
use Rattle.lo_base.specs.Formed.{AreFormed, AreIntegers, kinds_of}
use Rattle.lo_base.specs.Item.{Item, Ranged, Boolean, Posted, made}
use Rattle.lo_base.specs.Lowered.{vars_of, calls_of}
use Rattle.lo_base.proofs.Formed.{booleans_made, formed_calls, formed_domains}
use Rattle.lo_instance.proofs.FormLemmas.{all_lowered}
use Rattle.xf_carry.specs.Lowered.{low, low_items, LowSound}
use Rattle.xf_carry.proofs.Extension.{shown_count}
use Rattle.xf_carry.proofs.Ordered.{all_domains, all_join, ordered_spans}
use Rattle.xf_carry.proofs.Members.{AreFree, free_join, shown_free, made_free}
use Rattle.xf_carry.proofs.Room.{room_for_all}

-- declarations

cells_few : (ds : List Decl) → sum (map cells_of ds) ≤ most_cells → AllByRecursion (λ d. cells_of d < 2 ^ 64) ds
cells_few [] h = tt
cells_few (d ∷ ds) h =
    let split : sum (map cells_of (d ∷ ds)) ≡ cells_of d + sum (map cells_of ds) = omega (arith, sum-map cells_of ds, sum-map cells_of (d ∷ ds), sum_by-cons cells_of d ds) in
    (omega (arith, split, h), cells_few ds (omega (arith, split, h)))

one_number : (i j : ℕ) → i ∷ [] ≡ j ∷ [] → i ≡ j
one_number i j h = cc

-- two variables have two words: each word denotes one variable
words_differ : (ds : List Decl) → AllByRecursion IsSoundDecl ds → AllByRecursion (λ d. cells_of d < 2 ^ 64) ds → AreNames (outlines_of ds) → (i j : ℕ) → i < j → j < length (words ds) → get_or (words ds) i [] ≡ get_or (words ds) j [] → ⊥
words_differ ds s f names i j below lt e =
    let os : List Outline = outlines_of ds in
    let w : List ℕ = get_or (words ds) i [] in
    let first : Denotes os w i = denotes ds i s f (omega (arith, below, lt)) in
    let second : Denotes os w j = subst (λ (v : List ℕ). Denotes os v j) (sym e) (denotes ds j s f lt) in
    let same : i ≡ j = one_number i j (sym (one_denotation.same os names w i first) ∙ one_denotation.same os names w j second) in
    absurd (omega (arith, below, same))

within_or : (xs : List (List ℕ)) (k : ℕ) (d : List ℕ) → k < length xs → get_or xs k d ≡ get_or xs k []
within_or [] k d lt = absurd (omega (arith, lt))
within_or (x ∷ xs) zero d lt = refl
within_or (x ∷ xs) (suc k) d lt = within_or xs k d (omega (arith, lt))

pub words_distinct : (i : Instance) → IsAccepted i → AllPairs (λ v w. v ≢ w) (words i.decls)
words_distinct i h =
    let ds : List Decl = i.decls in
    let f = cells_few ds h.cells in
    let names : AreNames (outlines_of ds) = record { sound = sound-all ds h.sound.decls; few = few-all ds f; distinct = distinct-all ds h.sound.distinct } in
    λ j k d below lt e. words_differ ds h.sound.decls f names j k below lt (sym (within_or (words ds) j d (omega (arith, below, lt))) ∙ e ∙ within_or (words ds) k d lt)

-- domains

ends_small : (z : ℤ) → IsSmallInteger z → (neg_ℤ (pos magnitudes) ≤ℤ z) × (z ≤ℤ pos magnitudes)
ends_small (pos n) h = (omega (arith, ints, h), omega (arith, ints, h))
ends_small (negsuc n) h = (omega (arith, ints, h), omega (arith, ints, h))

all_small : (bs : List Bounds) → AllByRecursion HasSmallEnds bs → AllByRecursion IsSmall bs
all_small [] h = tt
all_small (b ∷ bs) h = (record { from = (ends_small b.lo h.0.0).0; to = (ends_small b.hi h.0.1).1 }, all_small bs h.1)

abbrev HasDomain : FzVar → Type 0
HasDomain v = HasOwnDomain v.boolean v.domain

shown_domains : (ws : List (List ℕ)) (ds : List (List Bounds)) → AllByRecursion IsSoundDomain ds → AllByRecursion HasDomain (shown_each ws ds)
shown_domains [] ds h = tt
shown_domains (w ∷ ws) [] h = tt
shown_domains (w ∷ ws) (d ∷ ds) h = ((h.0.0, all_small d h.0.1), shown_domains ws ds h.1)

-- the shown variables are integers
shown_integers : (ws : List (List ℕ)) (ds : List (List Bounds)) (k : ℕ) → k < length (shown_each ws ds) → slice_get (booleans_of (shown_each ws ds)) k ≡ Some false
shown_integers [] ds k lt = absurd (omega (arith, lt))
shown_integers (w ∷ ws) [] k lt = absurd (omega (arith, lt))
shown_integers (w ∷ ws) (d ∷ ds) zero lt = refl
shown_integers (w ∷ ws) (d ∷ ds) (suc k) lt = shown_integers ws ds k (omega (arith, lt))

-- variables with domains of their own that equal nothing
free_vars : (earlier : List Bool) (vs : List FzVar) → AllByRecursion HasDomain vs → AreFree vs → AreVars earlier vs
free_vars earlier [] h f = tt
free_vars earlier (v ∷ vs) h f =
    (record { domain = h.0; equal = subst (λ o. flat.IsEqualTo earlier (flat.asked_of v.boolean) o) (sym f.0) tt }, free_vars (earlier ++ v.boolean ∷ []) vs h.1 f.1)

-- names

names_made : (k : ℕ) (xs : List Item) → map (λ (v : FzVar). v.name) (vars_of k xs) ≡ map auxiliary_name (range_with_len k (made xs))
names_made k [] = refl
names_made k (Ranged lo hi ∷ xs) =
    let one : suc (made xs) ≡ made (Ranged lo hi ∷ xs) = omega arith in
    ap (λ ws. auxiliary_name k ∷ ws) (names_made (k + 1) xs) ∙ ap (λ m. map auxiliary_name (range_with_len k m)) one
names_made k (Boolean ∷ xs) =
    let one : suc (made xs) ≡ made (Boolean ∷ xs) = omega arith in
    ap (λ ws. auxiliary_name k ∷ ws) (names_made (k + 1) xs) ∙ ap (λ m. map auxiliary_name (range_with_len k m)) one
names_made k (Posted call ∷ xs) =
    let none : made xs ≡ made (Posted call ∷ xs) = omega arith in
    names_made k xs ∙ ap (λ m. map auxiliary_name (range_with_len k m)) none

all_names : (i : Instance) → IsSound i → low_names (words i.decls) (made (low_items i)) ≡ flat.all_names (low i)
all_names i s =
    let xs : List Item = low_items i in
    let ns : FzVar → List ℕ = λ v. v.name in
    sym
    (append-nil (map ns (shown_vars i.decls ++ vars_of 0 xs))
    ∙ map-append ns (shown_vars i.decls) (vars_of 0 xs)
    ∙ ap₂ (λ (vs ws : List (List ℕ)). vs ++ ws) ((shows_all i.decls s.decls).0) (names_made 0 xs))

pub low_sound : LowSound
low_sound i h =
    let s : IsSound i = h.sound in
    let ds : List Decl = i.decls in
    let xs : List Item = low_items i in
    let shown : List FzVar = shown_vars ds in
    let booleans : List Bool = booleans_of shown in
    let n : ℕ = length (words ds) in
    let ss : List Bounds = spans_of ds in
    let sound_domains = all_domains ds s.decls in
    let room = room_for_all i h in
    let few : made xs ≤ 2 ^ 64 = omega (arith, room) in
    let names = are_low_names (words ds) (made xs) (words_direct ds s.decls (cells_few ds h.cells)) (words_distinct i h) few in
    let same = all_names i s in
    let spans : length ss ≡ n = spans_words ds s.decls in
    let here : length booleans ≡ n = length-map shown (λ (v : FzVar). v.boolean) ∙ shown_count i s in
    let integers : AreIntegers (length ss) booleans = λ v lt. shown_integers (words ds) (domains ds) v (omega (arith, lt, spans, shown_count i s)) in
    let formed : AreFormed booleans xs = (all_lowered ss n i.constraints s.constraints (ordered_spans i s) (omega (arith, spans))).formed booleans here integers in
    let all : booleans ++ kinds_of xs ≡ booleans_of (shown ++ vars_of 0 xs) =
    ap (λ (bs : List Bool). booleans ++ bs) (sym (booleans_made 0 xs)) ∙ sym (map-append (λ (v : FzVar). v.boolean) shown (vars_of 0 xs)) in
    record {
      names = subst (AllByRecursion flat.IsName) same names.0;
      distinct = subst (AllPairs (λ a b. a ≢ b)) same names.1;
      vars =
          free_vars [] (shown ++ vars_of 0 xs)
          (all_join HasDomain shown (vars_of 0 xs) (shown_domains (words ds) (domains ds) sound_domains) (formed_domains 0 booleans xs formed))
          (free_join shown (vars_of 0 xs) (shown_free (words ds) (domains ds)) (made_free 0 xs));
      outputs = tt;
      calls = subst (λ (bs : List Bool). AllByRecursion (IsCall bs) (calls_of xs)) all (formed_calls booleans xs formed);
      goal = tt;
    }
