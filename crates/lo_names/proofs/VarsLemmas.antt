-- One step of each loop that makes variables.
use Rattle.std.proofs.Common.{◌≡◌, ℕ, zero, suc, ◌+◌, ◌*◌, ◌/◌, ◌%◌, ◌<◌, ◌≤◌, ℤ, pos, negsuc, ◌≤ℤ◌, List, [], ◌∷◌, ◌++◌, Option, None, Some, length, get_or, drop, ap, sym, subst, ◌∙◌, arith, append_assoc}
use Rattle.std.specs.List.{AllByRecursion, flat_map}
use Rattle.std.proofs.lemmas.Int.{ints}
use Rattle.std.proofs.lemmas.List.{drop_more, at_drop_more}
use Rattle.std.proofs.Math.ListN.{drop_of_length-le}
use Rattle.std.proofs.Math.Nat.{mul-div_cancel_left, mul-le-mul_left}
use Rattle.xf_num.specs.Span.{Bounds}
use Rattle.xs_model.specs.Names.{bracket, places_of, cell_word, cell_words, defined, row_major}
use Rattle.xs_model.specs.Sound.{cell_count}
use Rattle.fz_model.specs.declared.model.FzVar.{FzVar}
use Rattle.lo_names.specs.Indices.{indices_at}
use Rattle.lo_names.specs.Shown.{shown_var, shown_each}
use Rattle.lo_names.proofs.RowMajor.{length-row_major, row_at}

abbrev pub ArePositive : List ℤ → Type 0
ArePositive = AllByRecursion (λ n. pos 1 ≤ℤ n)

-- what holds of all of a list holds of what is left of it
pub left_all : {X : Type 0} (P : X → Type 0) (xs : List X) (k : ℕ) → AllByRecursion P xs → AllByRecursion P (drop k xs)
left_all P xs zero h = h
left_all P [] (suc k) h = tt
left_all P (x ∷ xs) (suc k) h = left_all P xs k h.1

pub all_at : {X : Type 0} (P : X → Type 0) (xs : List X) (k : ℕ) (d : X) → k < length xs → AllByRecursion P xs → P (get_or xs k d)
all_at P xs k d lt h = let left : AllByRecursion P (get_or xs k d ∷ drop (k + 1) xs) = subst (AllByRecursion P) (drop_more xs k d lt) (left_all P xs k h) in left.0

positive_places : (n : ℤ) → pos 1 ≤ℤ n → 0 < places_of n
positive_places (pos n) h = omega (arith, ints)
positive_places (negsuc n) h = absurd (omega (arith, ints))

pub positive_count : (ns : List ℤ) → ArePositive ns → 0 < cell_count ns
positive_count [] h = omega arith
positive_count (n ∷ ns) h = let p = positive_places n h.0 in let q = positive_count ns h.1 in omega (arith, mul-le-mul_left (places_of n) q)

-- of the sizes from k on: what one index covers
pub stride_at : (ns : List ℤ) (k stride : ℕ) → k < length ns → ArePositive ns → stride ≡ cell_count (drop k ns)
    → (places_of (get_or ns k (pos 0)) ≤ stride) × (stride / places_of (get_or ns k (pos 0)) ≡ cell_count (drop (k + 1) ns)) × (0 < cell_count (drop (k + 1) ns))
stride_at ns k stride lt all is =
    let n : ℤ = get_or ns k (pos 0) in
    let p : ℕ = places_of n in
    let c : ℕ = cell_count (drop (k + 1) ns) in
    let product : stride ≡ p * c = is ∙ at_drop_more cell_count ns k (pos 0) lt in
    let some : 0 < c = positive_count (drop (k + 1) ns) (left_all (λ z. pos 1 ≤ℤ z) ns (k + 1) all) in
    let one : 0 < p = positive_places n (all_at (λ z. pos 1 ≤ℤ z) ns k (pos 0) lt all) in
    (omega (arith, mul-le-mul_left p some, product), ap (λ z. z / p) product ∙ mul-div_cancel_left c one, some)

pub indices_more : (ns : List ℤ) (k rest stride : ℕ) (word new target : List ℕ) → k < length ns → stride ≡ cell_count (drop (k + 1) ns)
    → new ≡ word ++ bracket (rest / stride) → word ++ flat_map bracket (indices_at (drop k ns) rest) ≡ target
    → new ++ flat_map bracket (indices_at (drop (k + 1) ns) (rest % stride)) ≡ target
indices_more ns k rest stride word new target lt is written whole =
    let ms : List ℤ = drop (k + 1) ns in
    let c : ℕ = cell_count ms in
    let F : List ℤ → List ℕ = λ ls. flat_map bracket (indices_at ls rest) in
    ap (λ s. new ++ flat_map bracket (indices_at ms (rest % s))) is
    ∙ ap (λ w. w ++ flat_map bracket (indices_at ms (rest % c))) (written ∙ ap (λ s. word ++ bracket (rest / s)) is)
    ∙ append_assoc word (bracket (rest / c)) (flat_map bracket (indices_at ms (rest % c)))
    ∙ ap (λ z. word ++ z) (sym (at_drop_more F ns k (pos 0) lt))
    ∙ whole

-- the variables of the cells from k on
abbrev pub due_cells : List ℕ → List ℤ → List (Option (List Bounds)) → ℕ → List FzVar
due_cells name sizes cells k = shown_each (cell_words name (drop k (row_major sizes)) (drop k cells)) (defined (drop k cells))

cells_more : (name : List ℕ) (sizes : List ℤ) (cells : List (Option (List Bounds))) (k : ℕ) (cell other : Option (List Bounds)) → k < length cells → length cells ≡ cell_count sizes → cell ≡ get_or cells k cell → cell ≡ other
    → due_cells name sizes cells k ≡ shown_each (cell_words name (indices_at sizes k ∷ drop (k + 1) (row_major sizes)) (other ∷ drop (k + 1) cells)) (defined (other ∷ drop (k + 1) cells))
cells_more name sizes cells k cell other lt same is which =
    ap (λ rows. shown_each (cell_words name rows (drop k cells)) (defined (drop k cells))) (row_at sizes k (omega arith))
    ∙ ap (λ left. shown_each (cell_words name (indices_at sizes k ∷ drop (k + 1) (row_major sizes)) left) (defined left)) (drop_more cells k cell lt ∙ ap (λ x. x ∷ drop (k + 1) cells) (sym is ∙ which))

pub none_more : (name : List ℕ) (sizes : List ℤ) (cells : List (Option (List Bounds))) (k : ℕ) (cell : Option (List Bounds)) → k < length cells → length cells ≡ cell_count sizes → cell ≡ get_or cells k cell → cell ≡ None
    → due_cells name sizes cells k ≡ due_cells name sizes cells (k + 1)
none_more name sizes cells k cell lt same is which = cells_more name sizes cells k cell None lt same is which

pub some_more : (name : List ℕ) (sizes : List ℤ) (cells : List (Option (List Bounds))) (k : ℕ) (cell : Option (List Bounds)) (d : List Bounds) → k < length cells → length cells ≡ cell_count sizes → cell ≡ get_or cells k cell → cell ≡ Some d
    → due_cells name sizes cells k ≡ shown_var (cell_word name (indices_at sizes k)) d ∷ due_cells name sizes cells (k + 1)
some_more name sizes cells k cell d lt same is which = cells_more name sizes cells k cell (Some d) lt same is which

pub none_due : (name : List ℕ) (sizes : List ℤ) (cells : List (Option (List Bounds))) (k : ℕ) → length cells ≤ k → length cells ≡ cell_count sizes → due_cells name sizes cells k ≡ []
none_due name sizes cells k le same =
    ap (λ rows. shown_each (cell_words name rows (drop k cells)) (defined (drop k cells))) (drop_of_length-le (row_major sizes) (omega (arith, length-row_major sizes)))
