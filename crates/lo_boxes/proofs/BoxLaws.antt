-- The laws of the items of boxes.
use Rattle.std.proofs.Common.{◌≡◌, ℕ, suc, ◌+◌, ◌*◌, ◌^◌, ◌<◌, ◌≤◌, ℤ, Bool, List, [], ◌∷◌, ◌++◌, length, map, ap, ap₂, sym, subst, ◌∙◌, arith}
use Rattle.std.specs.List.{AllByRecursion}
use Rattle.std.proofs.lemmas.List.{length-map, map-append}
use Rattle.lo_base.specs.Formed.{AreIntegers}
use Rattle.lo_base.specs.Item.{Item}
use Rattle.lo_boxes.specs.Boxes.{placed, low_no_overlap}
use Rattle.lo_boxes.specs.declared.placed.Placed.{Placed}
use Rattle.lo_boxes.specs.Laws.{NoOverlapLowered, AreBounded, SoundNoOverlapLowered}
use Rattle.lo_boxes.proofs.BoxFormed.{boxes_formed}
use Rattle.lo_boxes.proofs.BoxRules.{Fits, boxes_rule, boxes_many, AreMeant}
use Rattle.lo_boxes.proofs.BoxValues.{seen, IsTold, placed_mean, rows_front, term_rows_front}
use Rattle.lo_boxes.proofs.Shared.{all_left, all_right}
use Rattle.lo_emit.specs.Loops.{Pairwise}
use Rattle.lo_rules.specs.Laws.{IsLowered, IsSteady}
use Rattle.lo_rules.specs.Rule.{Always}
use Rattle.lo_rules.proofs.Pairs.{all_unmapped}
use Rattle.lo_rules.proofs.Rules.{rule_as, rules_lower}
use Rattle.xf_num.specs.Span.{Bounds}
use Rattle.xs_laws.specs.Boxes.{TermBox, term_boxes}
use Rattle.xs_model.specs.Accepted.{items_of}
use Rattle.xs_model.specs.declared.instance.Constraint.TheVariants.{NoOverlap}
use Rattle.xs_model.specs.declared.term.Term.{Term as Operand}
use Rattle.xs_model.specs.Fields.{Variable, item_of, members, terms}
use Rattle.xs_model.specs.Fitting.{HaveLength, AreBoxes}
use Rattle.xs_model.specs.Formed.{IsFormedField, IsFormedItem, count_of, total}
use Rattle.xs_model.specs.Instance.{rows_of, term_rows}
use Rattle.xs_model.specs.Lists.{width}
use Rattle.xs_model.specs.Schedule.{IsNoOverlap}
use Rattle.xs_model.specs.Spans.{BeginsWithin}

-- the boxes of a well-formed constraint

boxes_fit : (m d : ℕ) (origins : List (List ℕ)) (lengths : List (List Operand)) → AllByRecursion (λ r. AllByRecursion (IsFormedItem m) (map Variable r)) origins
    → AllByRecursion (λ r. AllByRecursion (IsFormedItem m) (map item_of r)) lengths → HaveLength d origins → HaveLength d lengths → AllByRecursion (Fits m d) (term_boxes origins lengths)
boxes_fit m d [] ls h k e f = tt
boxes_fit m d (o ∷ os) [] h k e f = tt
boxes_fit m d (o ∷ os) (l ∷ ls) h k e f = (record { origin = h.0; lengths = k.0; wide = e.0; long = f.0 }, boxes_fit m d os ls h.1 k.1 e.1 f.1)

boxes_few : (origins : List (List ℕ)) (lengths : List (List Operand)) → length (term_boxes origins lengths) ≤ length origins
boxes_few [] ls = omega arith
boxes_few (o ∷ os) [] = omega arith
boxes_few (o ∷ os) (l ∷ ls) = let rest = boxes_few os ls in omega (arith, rest)

-- how many items they have

one_row : (k d : ℕ) → suc k * d ≡ d + k * d
one_row k d = grind arith

total-append : (xs ys : List ℕ) → total (xs ++ ys) ≡ total xs + total ys
total-append [] ys = omega arith
total-append (x ∷ xs) ys = let rest = total-append xs ys in omega (arith, rest)

members_count : (d : ℕ) (rows : List (List ℕ)) → HaveLength d rows → total (map count_of (map members rows)) ≡ length rows * d
members_count d [] h = omega arith
members_count d (r ∷ rs) h = let rest = members_count d rs h.1 in let more = one_row (length rs) d in let long = length-map r Variable in omega (arith, rest, more, long, h.0)

terms_count : (d : ℕ) (rows : List (List Operand)) → HaveLength d rows → total (map count_of (map terms rows)) ≡ length rows * d
terms_count d [] h = omega arith
terms_count d (r ∷ rs) h = let rest = terms_count d rs h.1 in let more = one_row (length rs) d in let long = length-map r item_of in omega (arith, rest, more, long, h.0)

filled : (k d : ℕ) → 0 < d → k ≤ k * d
filled k d some = grind arith

rows_filled : (d : ℕ) (rows : List (List ℕ)) → HaveLength d rows → AllByRecursion (λ r. 0 < length r) rows → length rows ≤ length rows * d
rows_filled d [] h some = omega arith
rows_filled d (r ∷ rs) h some = let at_least : 0 < d = omega (arith, h.0, some.0) in filled (length (r ∷ rs)) d at_least

pub product : (a b x y : ℕ) → a ≤ x → b ≤ y → a * b ≤ x * y
product a b x y h k = grind arith

regroup : (k j d : ℕ) → k * (d * 4) + (j * j) * (22 * d) ≡ 4 * (k * d) + 22 * (j * (j * d))
regroup k j d = grind arith

squared : (t : ℕ) → 4 * t + 22 * (t * t) ≤ 64 * ((1 + (t + t)) * (1 + (t + t)))
squared t = grind arith

room_for_boxes : (k j r d i : ℕ) → j ≤ k → k ≤ r → r ≤ r * d → i ≡ r * d + r * d → k * (d * 4) + (j * j) * (22 * d) ≤ 64 * ((1 + i) * (1 + i))
room_for_boxes k j r d i fewer few some is =
    let t : ℕ = r * d in
    let one : k * d ≤ t = product k d r d few (omega arith) in
    let two : j * d ≤ t = product j d r d (omega (arith, fewer, few)) (omega arith) in
    let three : j * (j * d) ≤ t * t = product j (j * d) t t (omega (arith, fewer, few, some)) two in
    let w : 4 * (k * d) + 22 * (j * (j * d)) ≤ 64 * ((1 + (t + t)) * (1 + (t + t))) = omega (arith, one, three, squared t) in
    subst (λ (y : ℕ). k * (d * 4) + (j * j) * (22 * d) ≤ 64 * ((1 + y) * (1 + y))) (sym is) (subst (λ (y : ℕ). y ≤ 64 * ((1 + (t + t)) * (1 + (t + t)))) (sym (regroup k j d)) w)

-- how many variables are made for them

few_pairs : (r d i : ℕ) → r ≤ r * d → i ≡ r * d + r * d → i < 2 ^ 30 → (r * d ≤ 2 ^ 29) × (r * (r * (2 * d)) ≤ 2 ^ 59)
few_pairs r d i some is few =
    let t : ℕ = r * d in
    let half : t ≤ 536870912 = omega (arith, is, few) in
    let two : r * (r * d) ≤ 536870912 * 536870912 = product r (r * d) 536870912 536870912 (omega (arith, some, half)) half in
    (half, omega (arith, two, doubled r d))
  where
    doubled : (r d : ℕ) → r * (r * (2 * d)) ≡ 2 * (r * (r * d))
    doubled r d = grind arith

pub items_count : (origins : List (List ℕ)) (lengths : List (List Operand)) (ignored : Bool) → AreBoxes origins lengths → items_of (NoOverlap origins lengths ignored) ≡ length origins * width origins + length origins * width origins
items_count origins lengths ignored fitting =
    let d : ℕ = width origins in
    let even : HaveLength d lengths = subst (λ (k : ℕ). HaveLength k lengths) fitting.as_wide fitting.of_lengths.even in
    ap total (map-append count_of (map members origins) (map terms lengths)) ∙ total-append (map count_of (map members origins)) (map count_of (map terms lengths))
    ∙ ap₂ (λ (x y : ℕ). x + y) (members_count d origins fitting.of_origins.even) (terms_count d lengths even ∙ ap (λ (k : ℕ). k * d) fitting.as_many)

pub few_boxes : (origins : List (List ℕ)) (lengths : List (List Operand)) (ignored : Bool) → AreBoxes origins lengths → items_of (NoOverlap origins lengths ignored) < 2 ^ 30
    → (length origins * width origins ≤ 2 ^ 29) × (length origins * (length origins * (2 * width origins)) ≤ 2 ^ 59)
few_boxes origins lengths ignored fitting few =
    few_pairs (length origins) (width origins) (items_of (NoOverlap origins lengths ignored)) (rows_filled (width origins) origins fitting.of_origins.even fitting.of_origins.filled) (items_count origins lengths ignored fitting) few

-- the laws

pub no_overlap_lowered : NoOverlapLowered
no_overlap_lowered m n origins lengths ignored formed le =
    let d : ℕ = width origins in
    let fitting : AreBoxes origins lengths = formed.fitting in
    let of_origins : AllByRecursion (λ r. AllByRecursion (IsFormedItem m) (map Variable r)) origins =
    all_unmapped members (IsFormedField m) origins (all_left (IsFormedField m) (map members origins) (map terms lengths) formed.fields) in
    let of_lengths : AllByRecursion (λ r. AllByRecursion (IsFormedItem m) (map item_of r)) lengths =
    all_unmapped terms (IsFormedField m) lengths (all_right (IsFormedField m) (map members origins) (map terms lengths) formed.fields) in
    let even : HaveLength d lengths = subst (λ (k : ℕ). HaveLength k lengths) fitting.as_wide fitting.of_lengths.even in
    let bs : List TermBox = term_boxes origins lengths in
    let fits : AllByRecursion (Fits m d) bs = boxes_fit m d origins lengths of_origins of_lengths fitting.of_origins.even even in
    let all : List Placed = (placed ignored n origins lengths).state in
    let i : ℕ = items_of (NoOverlap origins lengths ignored) in
    let w : ℕ = 64 * ((1 + i) * (1 + i)) in
    let u : ℕ = length bs * (d * 4) + (length all * length all) * (22 * d) in
    let G : List ℤ → Type 0 = λ b. AreMeant ignored bs all b in
    let T : List ℤ → Type 0 = λ b. Pairwise (λ p q. IsTold b (seen b p) (seen b q)) all in
    let P : List ℤ → Type 0 = λ b. IsNoOverlap ignored (rows_of b origins) (term_rows b lengths) in
    let count : i ≡ length origins * d + length origins * d = items_count origins lengths ignored fitting in
    let few : length bs ≤ length origins = boxes_few origins lengths in
    let room : u ≤ w =
    room_for_boxes (length bs) (length all) (length origins) d i (boxes_many m d ignored n bs le fits) few (rows_filled d origins fitting.of_origins.even fitting.of_origins.filled) count in
    let steady : IsSteady n P =
    λ a c len.
    let below : m ≤ length a = omega (arith, le, len) in
    let e = rows_front m a c below origins of_origins in
    let f = term_rows_front m a c below lengths of_lengths in (
      λ p. subst (IsNoOverlap ignored (rows_of a origins)) f (subst (λ (rs : List (List ℤ)). IsNoOverlap ignored rs (term_rows (a ++ c) lengths)) e p),
      λ p. subst (λ (rs : List (List ℤ)). IsNoOverlap ignored rs (term_rows (a ++ c) lengths)) (sym e) (subst (IsNoOverlap ignored (rows_of a origins)) (sym f) p),
    ) in
    rules_lower Always G P (AreIntegers m) n (low_no_overlap n origins lengths ignored) w (λ a len x c. tt) steady (λ booleans here kinds. boxes_formed m d ignored booleans kinds n bs here fits)
    (rule_as Always Always Always G G T P n (low_no_overlap n origins lengths ignored) u w (λ b x. x) (λ b x g. g) (λ b x g p. (placed_mean ignored b origins lengths all g).0 p) (λ b y x g p. (placed_mean ignored b origins lengths all g).1 p) room
    (boxes_rule m d ignored n bs le fits Always Always))

-- what holds of any values does of those within bounds
within : (ss : List Bounds) (P : List ℤ → Type 0) (n : ℕ) (xs : List Item) (w : ℕ) → IsLowered Always P (AreIntegers (length ss)) n xs w → IsLowered (BeginsWithin ss) P (AreBounded ss) n xs w
within ss P n xs w r = record {
  means = record { sound = λ a c len room inside h. r.means.sound a c len room tt h; complete = λ a len inside p. r.means.complete a len tt p };
  stepwise = r.stepwise;
  before = r.before;
  size = r.size;
  formed = λ booleans long kinds. r.formed booleans long kinds.0;
}

pub sound_no_overlap_lowered : SoundNoOverlapLowered
sound_no_overlap_lowered ss n origins lengths ignored sound le = within ss _ n _ _ (no_overlap_lowered (length ss) n origins lengths ignored sound.formed le)
