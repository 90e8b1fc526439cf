-- The table of the children that name each cell first, child after child.
use Rattle.std.proofs.Common.{◌≡◌, ℕ, zero, suc, ◌+◌, ◌*◌, ◌<◌, ◌≤◌, Bool, true, false, not, ◌&&◌, nat_eq, List, [], ◌∷◌, ◌++◌, length, map, take, replicate, get_or, slice_index, ℤ, pos, ◌≤ℤ◌, Option, None, is_some, refl, ap, sym, subst, ◌∙◌, arith, rules, append_assoc, append-nil, length-append, if◌then◌else◌}
use Rattle.std.specs.List.{AllByRecursion, flat_map, list_all, range_with_len}
use Rattle.std.proofs.lemmas.List.FromFn.{fill_by_all, length-map-range_with_len}
use Rattle.std.proofs.Math.Nat.{mul-le-mul_right, mul_assoc}
use Rattle.xf_markup.specs.declared.tree.Node.{Node}
use Rattle.xf_num.specs.Span.{Bounds}
use Rattle.xs_fields.specs.Cells.{are_inside, covered, first_index, index_count, indices, is_inside, place_from}
use Rattle.xs_fields.specs.Variables.{word_of}
use Rattle.xs_fields.specs.Words.{words_of}
use Rattle.xs_fields.specs.declared.variable.Bracket.{Bracket}
use Rattle.xs_fields.specs.declared.variable.Bracket.TheVariants.{At, Between, Every}
use Rattle.xs_fields.proofs.IntegerLemmas.{and_left, and_right}
use Rattle.xs_model.specs.Names.{places_of}
use Rattle.xs_model.specs.Sound.{IsSize, cell_count}
use Rattle.xs_array.specs.DomainChild.{Named, are_apart, cell_at, is_others, named_by, names_place, word_places}
use Rattle.xs_array.specs.Owners.{AreClaimed, HasCells, IsCellWord, are_free, child_domain, claimed, for_text, is_free, owner_from, picked}
use Rattle.xs_array.proofs.FieldLemmas.{all_true}

-- what holds of each of a list that is made from another
pub all_map : {A B : Type 0} (P : B → Type 0) (f : A → B) (xs : List A) → AllByRecursion (λ x. P (f x)) xs → AllByRecursion P (map f xs)
all_map P f [] h = tt
all_map P f (x ∷ xs) h = (h.0, all_map P f xs h.1)

all_append : {A : Type 0} (P : A → Type 0) (xs ys : List A) → AllByRecursion P xs → AllByRecursion P ys → AllByRecursion P (xs ++ ys)
all_append P [] ys h g = g
all_append P (x ∷ xs) ys h g = (h.0, all_append P xs ys h.1 g)

pub all_flat : {A B : Type 0} (P : B → Type 0) (f : A → List B) (xs : List A) → AllByRecursion (λ x. AllByRecursion P (f x)) xs → AllByRecursion P (flat_map f xs)
all_flat P f [] h = tt
all_flat P f (x ∷ xs) h = all_append P (f x) (flat_map f xs) h.0 (all_flat P f xs h.1)

pub all_more : {A : Type 0} (P Q : A → Type 0) → ((x : A) → P x → Q x) → (xs : List A) → AllByRecursion P xs → AllByRecursion Q xs
all_more P Q h [] g = tt
all_more P Q h (x ∷ xs) g = (h x g.0, all_more P Q h xs g.1)

pub all_given : {A : Type 0} (P : A → Type 0) → ((x : A) → P x) → (xs : List A) → AllByRecursion P xs
all_given P h [] = tt
all_given P h (x ∷ xs) = (h x, all_given P h xs)

pub all_range : (P : ℕ → Type 0) (a n : ℕ) → ((i : ℕ) → i < a + n → P i) → AllByRecursion P (range_with_len a n)
all_range P a zero h = tt
all_range P a (suc n) h = (h a (omega arith), all_range P (a + 1) n (λ i g. h i (omega (arith, g))))

extent_within : (n : ℤ) (b : Bracket) → pos 1 ≤ℤ n → is_inside n b ≡ true → first_index b + index_count n b ≤ places_of n
extent_within n (At k) h e = search rules
extent_within n (Between s) h e = search rules
extent_within n Every h e = search rules

-- a covered cell stands below the number of cells
covered_below : (before : ℕ) (ns : List ℤ) (bs : List Bracket) → AllByRecursion IsSize ns → are_inside ns bs ≡ true → AllByRecursion (λ t. place_from before ns t < (before + 1) * cell_count ns) (covered ns bs)
covered_below before [] [] h e = (omega arith, tt)
covered_below before [] (b ∷ bs) h e = cc
covered_below before (n ∷ ns) [] h e = cc
covered_below before (n ∷ ns) (b ∷ bs) h e =
    all_flat (λ t. place_from before (n ∷ ns) t < (before + 1) * (places_of n * cell_count ns)) (λ i. map (λ t. i ∷ t) (covered ns bs)) (indices n b)
    (all_range (λ i. AllByRecursion (λ t. place_from before (n ∷ ns) t < (before + 1) * (places_of n * cell_count ns)) (map (λ t. i ∷ t) (covered ns bs))) (first_index b) (index_count n b)
    (λ i g.
    let within : i < places_of n = omega (arith, g, extent_within n b h.0 (and_left (is_inside n b) (are_inside ns bs) e)) in
    let room : (before * places_of n + i) + 1 ≤ (before + 1) * places_of n = omega (arith, within) in
    let most : ((before * places_of n + i) + 1) * cell_count ns ≤ ((before + 1) * places_of n) * cell_count ns = mul-le-mul_right (cell_count ns) room in
    let regroup : ((before + 1) * places_of n) * cell_count ns ≡ (before + 1) * (places_of n * cell_count ns) = mul_assoc (before + 1) (places_of n) (cell_count ns) in
    all_map (λ t. place_from before (n ∷ ns) t < (before + 1) * (places_of n * cell_count ns)) (λ t. i ∷ t) (covered ns bs)
    (all_more (λ t. place_from (before * places_of n + i) ns t < ((before * places_of n + i) + 1) * cell_count ns) (λ t. place_from (before * places_of n + i) ns t < (before + 1) * (places_of n * cell_count ns)) (λ t k. omega (arith, k, most, regroup)) (covered ns bs)
    (covered_below (before * places_of n + i) ns bs h.1 (and_right (is_inside n b) (are_inside ns bs) e)))))

word_below : (sizes : List ℤ) (w : List ℕ) → AllByRecursion IsSize sizes → IsCellWord sizes w → AllByRecursion (λ p. p < cell_count sizes) (word_places sizes w)
word_below sizes w h g =
    all_map (λ p. p < cell_count sizes) (place_from 0 sizes) (covered sizes (word_of w).brackets)
    (all_more (λ t. place_from 0 sizes t < (0 + 1) * cell_count sizes) (λ t. place_from 0 sizes t < cell_count sizes) (λ t k. omega (arith, k)) (covered sizes (word_of w).brackets)
    (covered_below 0 sizes (word_of w).brackets h g.1))

pub words_below : (sizes : List ℤ) (ws : List (List ℕ)) → AllByRecursion IsSize sizes → AllByRecursion (IsCellWord sizes) ws → AllByRecursion (λ p. p < cell_count sizes) (flat_map (word_places sizes) ws)
words_below sizes ws h g = all_flat (λ p. p < cell_count sizes) (word_places sizes) ws (all_more (IsCellWord sizes) (λ w. AllByRecursion (λ p. p < cell_count sizes) (word_places sizes w)) (λ w k. word_below sizes w h k) ws g)

-- the places that a child names stand below the number of cells
places_below : (sizes : List ℤ) (n : Node) → AllByRecursion IsSize sizes → HasCells sizes n → AllByRecursion (λ p. p < cell_count sizes) (named_by sizes n).places
places_below sizes n h g = by (is_others (for_text n)) refl
  where
    by : (v : Bool) → is_others (for_text n) ≡ v → AllByRecursion (λ p. p < cell_count sizes) (if v then [] else flat_map (word_places sizes) (words_of (for_text n)))
    by true e = tt
    by false e = words_below sizes (words_of (for_text n)) h (g e)

zeros : (n p : ℕ) → slice_index (replicate n 0) p ≡ 0
zeros zero p = refl
zeros (suc n) zero = refl
zeros (suc n) (suc p) = zeros n p

-- an entry, or what comes where it is free
abbrev pub settled : ℕ → ℕ → ℕ
settled zero later = later
settled (suc o) later = suc o

abbrev pub named_all : List ℤ → List Node → List Named
named_all sizes ns = map (named_by sizes) ns

-- the table and the domains after some children, of all
pub record Claiming (sizes : List ℤ) (domains : List (Option (List Bounds))) (apart : Bool) (owners : List ℕ) (rest all : List Node) : Type 0 where
  pub same : length owners ≡ cell_count sizes
  pub cells : AllByRecursion (HasCells sizes) rest
  pub domains_are : domains ++ map child_domain rest ≡ map child_domain all
  pub apart_is : (apart && (list_all (λ d. are_free owners d.places) (named_all sizes rest) && are_apart (named_all sizes rest))) ≡ are_apart (named_all sizes all)
  pub owned : (p : ℕ) → p < cell_count sizes → settled (slice_index owners p) (owner_from (length domains) (named_all sizes rest) p) ≡ owner_from 0 (named_all sizes all) p

pub claiming_first : (sizes : List ℤ) (owners : List ℕ) (all : List Node) → length owners ≡ cell_count sizes → owners ≡ replicate (cell_count sizes) 0 → AllByRecursion (HasCells sizes) all → Claiming sizes [] true owners all all
claiming_first sizes owners all same is cells = record {
  same = same;
  cells = cells;
  domains_are = refl;
  apart_is = ap (λ v. v && are_apart (named_all sizes all)) (all_true (λ d. are_free owners d.places) (λ d. all_true (is_free owners) (λ p. ap (λ o. nat_eq o 0) (free p)) d.places) (named_all sizes all));
  owned = λ p h. ap (λ o. settled o (owner_from 0 (named_all sizes all) p)) (free p);
}
  where
    free : (p : ℕ) → slice_index owners p ≡ 0
    free p = ap (λ (os : List ℕ). slice_index os p) is ∙ zeros (cell_count sizes) p

free_after : (o k : ℕ) (named : Bool) → nat_eq (claimed o named (suc k)) 0 ≡ (nat_eq o 0 && not named)
free_after zero k true = search rules
free_after zero k false = refl
free_after (suc o) k named = search rules

both_all : {A : Type 0} (f g : A → Bool) (xs : List A) → list_all (λ x. f x && g x) xs ≡ (list_all f xs && list_all g xs)
both_all f g [] = refl
both_all f g (x ∷ xs) = ap (λ v. (f x && g x) && v) (both_all f g xs) ∙ swap (f x) (g x) (list_all f xs) (list_all g xs)
  where
    swap : (a b c d : Bool) → ((a && b) && (c && d)) ≡ ((a && c) && (b && d))
    swap false b c d = refl
    swap true true c d = refl
    swap true false true d = refl
    swap true false false d = refl

all_same_on : {A : Type 0} (P : A → Type 0) (f g : A → Bool) → ((x : A) → P x → f x ≡ g x) → (xs : List A) → AllByRecursion P xs → list_all f xs ≡ list_all g xs
all_same_on P f g h [] k = refl
all_same_on P f g h (x ∷ xs) k = ap (λ v. v && list_all f xs) (h x k.0) ∙ ap (λ v. g x && v) (all_same_on P f g h xs k.1)

settle : (o k later : ℕ) (named : Bool) → settled (claimed o named (suc k)) later ≡ settled o (if named then suc k else later)
settle zero k later true = refl
settle zero k later false = refl
settle (suc o) k later named = refl

regroup : (a f x y z : Bool) → ((a && f) && ((x && y) && z)) ≡ (a && ((f && x) && (y && z)))
regroup false f x y z = refl
regroup true false x y z = refl
regroup true true true y z = refl
regroup true true false y z = refl

-- one child more
pub claiming_next : (sizes : List ℤ) (domains more : List (Option (List Bounds))) (apart free : Bool) (owners next : List ℕ) (n : Node) (ns all : List Node) (number : ℕ) → AllByRecursion IsSize sizes → more ≡ domains ++ child_domain n ∷ [] → number ≡ length more → free ≡ are_free owners (named_by sizes n).places → AreClaimed owners next (names_place (named_by sizes n)) number → Claiming sizes domains apart owners (n ∷ ns) all → Claiming sizes more (apart && free) next ns all
claiming_next sizes domains more apart free owners next n ns all number positive more_is number_is free_is claims s = record {
  same = claims.same ∙ s.same;
  cells = s.cells.1;
  domains_are = ap (λ ds. ds ++ map child_domain ns) more_is ∙ append_assoc domains (child_domain n ∷ []) (map child_domain ns) ∙ s.domains_are;
  apart_is =
      ap (λ v. (apart && v) && (list_all (λ d. are_free next d.places) (named_all sizes ns) && are_apart (named_all sizes ns))) free_is
      ∙ ap (λ v. (apart && are_free owners (named_by sizes n).places) && (v && are_apart (named_all sizes ns))) freed
      ∙ regroup apart (are_free owners (named_by sizes n).places) (list_all (λ d. are_free owners d.places) (named_all sizes ns)) (list_all (λ d. list_all (λ p. not (names_place (named_by sizes n) p)) d.places) (named_all sizes ns)) (are_apart (named_all sizes ns))
      ∙ s.apart_is;
  owned = λ p h.
      ap (λ o. settled o (owner_from (length more) (named_all sizes ns) p)) (entry p h)
      ∙ settle (slice_index owners p) (length domains) (owner_from (length more) (named_all sizes ns) p) (names_place (named_by sizes n) p)
      ∙ ap (λ k. settled (slice_index owners p) (if names_place (named_by sizes n) p then suc (length domains) else owner_from k (named_all sizes ns) p)) count
      ∙ s.owned p h;
}
  where
    count : length more ≡ suc (length domains)
    count = ap length more_is ∙ length-append domains (child_domain n ∷ []) ∙ omega arith

    entry : (p : ℕ) → p < cell_count sizes → slice_index next p ≡ claimed (slice_index owners p) (names_place (named_by sizes n) p) (suc (length domains))
    entry p h = claims.each p (omega (arith, h, s.same)) ∙ ap (λ k. claimed (slice_index owners p) (names_place (named_by sizes n) p) k) (number_is ∙ count)

    free_at : (p : ℕ) → p < cell_count sizes → is_free next p ≡ (is_free owners p && not (names_place (named_by sizes n) p))
    free_at p h = ap (λ o. nat_eq o 0) (entry p h) ∙ free_after (slice_index owners p) (length domains) (names_place (named_by sizes n) p)

    child_freed : (d : Named) → AllByRecursion (λ p. p < cell_count sizes) d.places → are_free next d.places ≡ (are_free owners d.places && list_all (λ p. not (names_place (named_by sizes n) p)) d.places)
    child_freed d h = all_same_on (λ p. p < cell_count sizes) (is_free next) (λ p. is_free owners p && not (names_place (named_by sizes n) p)) free_at d.places h ∙ both_all (is_free owners) (λ p. not (names_place (named_by sizes n) p)) d.places

    freed : list_all (λ d. are_free next d.places) (named_all sizes ns) ≡ (list_all (λ d. are_free owners d.places) (named_all sizes ns) && list_all (λ d. list_all (λ p. not (names_place (named_by sizes n) p)) d.places) (named_all sizes ns))
    freed =
        all_same_on (λ d. AllByRecursion (λ p. p < cell_count sizes) d.places) (λ d. are_free next d.places) (λ d. are_free owners d.places && list_all (λ p. not (names_place (named_by sizes n) p)) d.places) child_freed (named_all sizes ns)
        (all_map (λ d. AllByRecursion (λ p. p < cell_count sizes) d.places) (named_by sizes) ns (all_more (HasCells sizes) (λ m. AllByRecursion (λ p. p < cell_count sizes) (named_by sizes m).places) (λ m k. places_below sizes m positive k) ns s.cells.1))
        ∙ both_all (λ d. are_free owners d.places) (λ d. list_all (λ p. not (names_place (named_by sizes n) p)) d.places) (named_all sizes ns)

settled_end : (o : ℕ) → settled o 0 ≡ o
settled_end zero = refl
settled_end (suc o) = refl

pub claiming_cons : (sizes : List ℤ) (domains : List (Option (List Bounds))) (apart : Bool) (owners : List ℕ) (rest ns all : List Node) → rest ≡ ns → Claiming sizes domains apart owners rest all → Claiming sizes domains apart owners ns all
claiming_cons sizes domains apart owners rest ns all e s = subst (λ (ms : List Node). Claiming sizes domains apart owners ms all) e s

pub claiming_as : (sizes : List ℤ) (domains more : List (Option (List Bounds))) (apart still : Bool) (owners next : List ℕ) (rest all : List Node) → domains ≡ more → apart ≡ still → owners ≡ next → Claiming sizes more still next rest all → Claiming sizes domains apart owners rest all
claiming_as sizes domains more apart still owners next rest all e f g s =
    subst (λ (ds : List (Option (List Bounds))). Claiming sizes ds apart owners rest all) (sym e)
    (subst (λ (a : Bool). Claiming sizes more a owners rest all) (sym f) (subst (λ (os : List ℕ). Claiming sizes more still os rest all) (sym g) s))

-- what is known after all
pub record Claims (sizes : List ℤ) (domains : List (Option (List Bounds))) (apart : Bool) (owners : List ℕ) (all : List Node) : Type 0 where
  pub domains_are : domains ≡ map child_domain all
  pub apart_is : apart ≡ are_apart (named_all sizes all)
  pub owners_are : owners ≡ map (owner_from 0 (named_all sizes all)) (range_with_len 0 (cell_count sizes))

pub claiming_done : (sizes : List ℤ) (domains : List (Option (List Bounds))) (apart : Bool) (owners : List ℕ) (rest all : List Node) → rest ≡ [] → Claiming sizes domains apart owners rest all → Claims sizes domains apart owners all
claiming_done sizes domains apart owners rest all none s = done (claiming_cons sizes domains apart owners rest [] all none s)
  where
    simple : (a : Bool) → a ≡ (a && true)
    simple true = refl
    simple false = refl

    done : Claiming sizes domains apart owners [] all → Claims sizes domains apart owners all
    done c = record {
      domains_are = sym (append-nil domains) ∙ c.domains_are;
      apart_is = simple apart ∙ c.apart_is;
      owners_are = fill_by_all (owner_from 0 (named_all sizes all)) owners (cell_count sizes) 0 c.same (λ p h. sym (settled_end (get_or owners p 0)) ∙ c.owned p h);
    }

pub claimed_as : (before after : List ℕ) (f g : ℕ → Bool) (k : ℕ) → ((p : ℕ) → f p ≡ g p) → AreClaimed before after f k → AreClaimed before after g k
claimed_as before after f g k h c = record { same = c.same; each = λ p l. c.each p l ∙ ap (λ b. claimed (slice_index before p) b k) (h p) }

-- the cells by the table
picked_from : (before : List (Option (List Bounds))) (cs : List Named) (p : ℕ) → picked (before ++ map (λ c. c.domain) cs) (owner_from (length before) cs p) ≡ cell_at cs p
picked_from before [] p = refl
picked_from before (c ∷ cs) p = by (names_place c p) (picked_from (before ++ c.domain ∷ []) cs p)
  where
    one : (before ++ c.domain ∷ []) ++ map (λ d. d.domain) cs ≡ before ++ c.domain ∷ map (λ d. d.domain) cs
    one = append_assoc before (c.domain ∷ []) (map (λ d. d.domain) cs)

    len : length (before ++ c.domain ∷ []) ≡ suc (length before)
    len = length-append before (c.domain ∷ []) ∙ omega arith

    at_end : (xs : List (Option (List Bounds))) (d : Option (List Bounds)) (ys : List (Option (List Bounds))) → get_or (xs ++ d ∷ ys) (length xs) None ≡ d
    at_end [] d ys = refl
    at_end (x ∷ xs) d ys = at_end xs d ys

    by : (v : Bool) → picked ((before ++ c.domain ∷ []) ++ map (λ d. d.domain) cs) (owner_from (length (before ++ c.domain ∷ [])) cs p) ≡ cell_at cs p → picked (before ++ c.domain ∷ map (λ d. d.domain) cs) (if v then suc (length before) else owner_from (suc (length before)) cs p) ≡ (if v then c.domain else cell_at cs p)
    by true rest = at_end before c.domain (map (λ d. d.domain) cs)
    by false rest =
        ap (λ ds. picked ds (owner_from (suc (length before)) cs p)) (sym one)
        ∙ ap (λ k. picked ((before ++ c.domain ∷ []) ++ map (λ d. d.domain) cs) (owner_from k cs p)) (sym len)
        ∙ rest

owner_within : (k : ℕ) (cs : List Named) (p : ℕ) → owner_from k cs p ≤ k + length cs
owner_within k [] p = omega arith
owner_within k (c ∷ cs) p = by (names_place c p) (owner_within (suc k) cs p)
  where
    by : (v : Bool) → owner_from (suc k) cs p ≤ suc k + length cs → (if v then suc k else owner_from (suc k) cs p) ≤ k + length (c ∷ cs)
    by true h = omega arith
    by false h = omega (arith, h)

domains_named : (sizes : List ℤ) (ns : List Node) → map child_domain ns ≡ map (λ c. c.domain) (named_all sizes ns)
domains_named sizes [] = refl
domains_named sizes (n ∷ ns) = ap (λ ds. child_domain n ∷ ds) (domains_named sizes ns)

length_map : {A B : Type 0} (f : A → B) (xs : List A) → length (map f xs) ≡ length xs
length_map f [] = refl
length_map f (x ∷ xs) = omega (arith, length_map f xs)

pub owners_within : (sizes : List ℤ) (domains : List (Option (List Bounds))) (apart : Bool) (owners : List ℕ) (all : List Node) → Claims sizes domains apart owners all → AllByRecursion (λ k. k ≤ length domains) owners
owners_within sizes domains apart owners all c =
    subst (λ (os : List ℕ). AllByRecursion (λ k. k ≤ length domains) os) (sym c.owners_are)
    (all_map (λ k. k ≤ length domains) (owner_from 0 (named_all sizes all)) (range_with_len 0 (cell_count sizes))
    (all_range (λ p. owner_from 0 (named_all sizes all) p ≤ length domains) 0 (cell_count sizes)
    (λ p h. omega (arith, owner_within 0 (named_all sizes all) p, length_map (named_by sizes) all, length_map child_domain all, ap length c.domains_are))))

map_same : {A B : Type 0} (f g : A → B) → ((x : A) → f x ≡ g x) → (xs : List A) → map f xs ≡ map g xs
map_same f g h [] = refl
map_same f g h (x ∷ xs) = ap (λ y. y ∷ map f xs) (h x) ∙ ap (λ ys. g x ∷ ys) (map_same f g h xs)

map_twice : {A B C : Type 0} (h : B → C) (g : A → B) (xs : List A) → map h (map g xs) ≡ map (λ x. h (g x)) xs
map_twice h g [] = refl
map_twice h g (x ∷ xs) = ap (λ ys. h (g x) ∷ ys) (map_twice h g xs)

pub cells_are : (sizes : List ℤ) (domains : List (Option (List Bounds))) (apart : Bool) (owners : List ℕ) (all : List Node) → Claims sizes domains apart owners all → map (picked domains) owners ≡ map (cell_at (named_all sizes all)) (range_with_len 0 (cell_count sizes))
cells_are sizes domains apart owners all c =
    ap (map (picked domains)) c.owners_are
    ∙ map_twice (picked domains) (owner_from 0 (named_all sizes all)) (range_with_len 0 (cell_count sizes))
    ∙ map_same (λ p. picked domains (owner_from 0 (named_all sizes all) p)) (cell_at (named_all sizes all)) (λ p. ap (λ ds. picked ds (owner_from 0 (named_all sizes all) p)) (c.domains_are ∙ domains_named sizes all) ∙ picked_from [] (named_all sizes all) p) (range_with_len 0 (cell_count sizes))

pub defined_are : (sizes : List ℤ) (ns : List Node) → list_all is_some (map child_domain ns) ≡ list_all (λ d. is_some d.domain) (named_all sizes ns)
defined_are sizes [] = refl
defined_are sizes (n ∷ ns) = ap (λ v. is_some (child_domain n) && v) (defined_are sizes ns)

pub front_all : (xs ys : List ℕ) → take (length xs) (xs ++ ys) ≡ xs
front_all [] ys = refl
front_all (x ∷ xs) ys = ap (λ zs. x ∷ zs) (front_all xs ys)

pub owners_len : (sizes : List ℤ) (domains : List (Option (List Bounds))) (apart : Bool) (owners : List ℕ) (all : List Node) → Claims sizes domains apart owners all → length owners ≡ cell_count sizes
owners_len sizes domains apart owners all c = ap length c.owners_are ∙ length-map-range_with_len (owner_from 0 (named_all sizes all)) 0 (cell_count sizes)
