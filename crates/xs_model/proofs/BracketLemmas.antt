-- Brackets at the front of a text.
use Rattle.std.proofs.Common.{◌≡◌, ℕ, zero, suc, ◌+◌, ◌*◌, ◌<◌, ◌≤◌, List, [], ◌∷◌, ◌++◌, None, Some, Bool, true, false, cond, not, length, get_or, take, drop, position, refl, sym, ap, ◌∙◌, subst, arith, true≢false, inl, inr, length-append, append_assoc, ℤ, pos, negsuc, ◌<ℤ◌, ◌≤ℤ◌}
use Rattle.std.specs.Prelude.{◌==◌, ◌⊎◌, ◌&&◌}
use Rattle.std.specs.Str.{IsUtf8}
use Rattle.std.specs.Str.Parse.{AllDigits, IsNumeral, without_leading_sign, signed_digits_value}
use Rattle.std.specs.List.{position_or_len, list_all}
use Rattle.std.specs.List.{AllByRecursion}
use Rattle.std.proofs.lemmas.Int.{ints}
use Rattle.std.proofs.lemmas.Nat.{mul-le}
use Rattle.std.proofs.Math.Nat.{le-mul_of_pos_right, add-mul, mul_assoc}
use Rattle.xs_model.specs.Names.{places_of}
use Rattle.xs_model.specs.Sound.{IsSize, cell_count}
use Rattle.xs_model.proofs.Places.{cell_count-pos}
use Rattle.xs_model.specs.Places.{is_close, IsCut, HasFront, BeginsWith}
use Rattle.std.proofs.lemmas.Str.{IsUtf8-from_ascii}
use Rattle.std.proofs.lemmas.Str.Parse.{digit_at}
use Rattle.std.proofs.lemmas.Bool.{cases_lt, eqb-true}
use Rattle.std.proofs.lemmas.List.{get_or_past, drop_more, take-append-drop}
use Rattle.std.proofs.Math.Seq.{get_or-append_seam}
use Rattle.std.proofs.lemmas.Grind.{common_steps}
use Rattle.std.proofs.lemmas.List.Quantifiers.{position-Some}
use Rattle.std.proofs.lemmas.List.Sums.{fails_before_first}

-- each byte of digits is below 58
digits_low : (ds : List ℕ) → AllDigits 10 ds → (k : ℕ) → get_or ds k 0 < 58
digits_low ds h k = by (cases_lt k (length ds))
  where
    by : (k < length ds) ⊎ (length ds ≤ k) → get_or ds k 0 < 58
    by (inl l) = let d = digit_at ds k h l in omega arith
    by (inr l) = let e = get_or_past ds k 0 l in omega arith

after_first : (b : ℕ) (bs : List ℕ) → b < 58 → ((k : ℕ) → get_or bs k 0 < 58) → (k : ℕ) → get_or (b ∷ bs) k 0 < 58
after_first b bs h hs zero = h
after_first b bs h hs (suc k) = hs k

-- each byte of an integer is below 58
pub integer_low : (t : List ℕ) → IsNumeral 10 (without_leading_sign t) → (k : ℕ) → get_or t k 0 < 58
integer_low [] h = absurd (omega (arith, h.0))
integer_low (b ∷ bs) h = minus (b == 45) refl h
  where
    plus : (s : Bool) → (b == 43) ≡ s → IsNumeral 10 (drop (cond s 1 0) (b ∷ bs)) → (k : ℕ) → get_or (b ∷ bs) k 0 < 58
    plus true e g = after_first b bs (omega (arith, eqb-true b 43 e)) (digits_low bs g.1)
    plus false e g = digits_low (b ∷ bs) g.1

    minus : (s : Bool) → (b == 45) ≡ s → IsNumeral 10 (cond s (drop 1 (b ∷ bs)) (drop (cond (b == 43) 1 0) (b ∷ bs))) → (k : ℕ) → get_or (b ∷ bs) k 0 < 58
    minus true e g = after_first b bs (omega (arith, eqb-true b 45 e)) (digits_low bs g.1)
    minus false e g = plus (b == 43) refl g

pub integer_utf8 : (t : List ℕ) → IsNumeral 10 (without_leading_sign t) → IsUtf8 t
integer_utf8 t h = IsUtf8-from_ascii t (λ k. let l = integer_low t h k in omega arith)

-- an integer has no `]`
pub integer_open : (t : List ℕ) → ((k : ℕ) → get_or t k 0 < 58) → list_all (λ b. not (is_close b)) t ≡ true
integer_open [] h = refl
integer_open (b ∷ bs) h = by (b == 93) refl (integer_open bs (λ k. h (suc k)))
  where
    by : (s : Bool) → (b == 93) ≡ s → list_all (λ x. not (is_close x)) bs ≡ true → list_all (λ x. not (is_close x)) (b ∷ bs) ≡ true
    by true e r = absurd (omega (arith, eqb-true b 93 e, h 0))
    by false e r = ap (λ s. not s && list_all (λ x. not (is_close x)) bs) e ∙ r

open_head : (b : ℕ) (bs : List ℕ) → list_all (λ x. not (is_close x)) (b ∷ bs) ≡ true → ¬ (b ≡ 93)
open_head b bs h e = absurd (true≢false (sym h ∙ ap (λ x. not (is_close x) && list_all (λ y. not (is_close y)) bs) e))

open_tail : (b : ℕ) (bs : List ℕ) → list_all (λ x. not (is_close x)) (b ∷ bs) ≡ true → list_all (λ x. not (is_close x)) bs ≡ true
open_tail b bs h = by (is_close b) refl
  where
    by : (s : Bool) → is_close b ≡ s → list_all (λ x. not (is_close x)) bs ≡ true
    by true e = absurd (true≢false (sym h ∙ ap (λ s. not s && list_all (λ y. not (is_close y)) bs) e))
    by false e = sym (ap (λ s. not s && list_all (λ y. not (is_close y)) bs) e) ∙ h

-- a text is cut in one way
pub one_cut : (xs ys us vs : List ℕ) → list_all (λ b. not (is_close b)) xs ≡ true → list_all (λ b. not (is_close b)) us ≡ true → xs ++ 93 ∷ ys ≡ us ++ 93 ∷ vs → (xs ≡ us) × (ys ≡ vs)
one_cut [] ys [] vs h g e = (refl, cc)
one_cut [] ys (u ∷ us) vs h g e = absurd (open_head u us g (cc))
one_cut (x ∷ xs) ys [] vs h g e = absurd (open_head x xs h (cc))
one_cut (x ∷ xs) ys (u ∷ us) vs h g e =
    let rest : xs ++ 93 ∷ ys ≡ us ++ 93 ∷ vs = cc in
    let r = one_cut xs ys us vs (open_tail x xs h) (open_tail u us g) rest in
    (cc r.0, r.1)

-- a bracket with an index at the front, as a bracket
pub front_of : (text : List ℕ) (size : ℤ) (index : ℕ) (more : List ℕ) (b : BeginsWith text size index more) → HasFront text b.inner more
front_of text size index more b = record {
  whole = b.cut ∙ ap (λ xs. 91 ∷ xs) (append_assoc b.inner (93 ∷ []) more);
  open_yet = integer_open b.inner (integer_low b.inner b.spells.0);
}

pub one_front : (text inner more inner' more' : List ℕ) → HasFront text inner more → HasFront text inner' more' → (inner ≡ inner') × (more ≡ more')
one_front text inner more inner' more' h g =
    let e = sym h.whole ∙ g.whole in
    let rest : inner ++ 93 ∷ more ≡ inner' ++ 93 ∷ more' = cc in
    one_cut inner more inner' more' h.open_yet g.open_yet rest

-- where the first `]` stands, the text is cut
open_before : (xs : List ℕ) (i : ℕ) → i ≤ length xs → ((k : ℕ) → k < i → is_close (get_or xs k 0) ≡ false) → list_all (λ b. not (is_close b)) (take i xs) ≡ true
open_before xs zero l h = refl
open_before [] (suc i) l h = refl
open_before (x ∷ xs) (suc i) l h = ap (λ s. not s && list_all (λ b. not (is_close b)) (take i xs)) (h 0 (omega arith)) ∙ open_before xs i (omega arith) (λ k q. h (suc k) (omega arith))

pub cut_at : (xs : List ℕ) (i : ℕ) → position is_close xs ≡ Some i → IsCut xs (take i xs) (drop (i + 1) xs)
cut_at xs i e =
    let p = position-Some is_close xs i 0 e in
    let c : get_or xs i 0 ≡ 93 = eqb-true (get_or xs i 0) 93 p.1 in
    record {
      whole = sym (take-append-drop i xs) ∙ ap (λ ys. take i xs ++ ys) (drop_more xs i 0 p.0 ∙ ap (λ b. b ∷ drop (i + 1) xs) c);
      open_yet = open_before xs i (omega (arith, p.0)) p.2;
    }

-- where no `]` stands, it is not
pub no_cut : (xs inner more : List ℕ) → position is_close xs ≡ None → ¬ (IsCut xs inner more)
no_cut xs inner more e h =
    let past : length xs ≤ position_or_len is_close xs = grind (arith, common_steps) in
    let l : length inner < length xs = omega (arith, ap length h.whole, length-append inner (93 ∷ more)) in
    let f = fails_before_first is_close xs (length inner) 0 (omega arith) in
    let t : get_or xs (length inner) 0 ≡ 93 = ap (λ ys. get_or ys (length inner) 0) h.whole ∙ get_or-append_seam inner 93 more 0 in
    absurd (true≢false (sym (ap is_close t) ∙ f))

-- one more index: the room that is left for those after it
pub room_step : (place index total : ℕ) (n : ℤ) (ns : List ℤ) → IsSize n → (place + 1) * cell_count (n ∷ ns) ≤ total → pos index <ℤ n → (place * places_of n + index + 1) * cell_count ns ≤ total
room_step place index total (pos m) ns h r l =
    let a : place * m + index + 1 ≤ (place + 1) * m = omega (arith, ints, add-mul place 1 m) in
    let b = mul-le (place * m + index + 1) (cell_count ns) ((place + 1) * m) (cell_count ns) a (omega arith) in
    let e = mul_assoc (place + 1) m (cell_count ns) in
    omega arith
room_step place index total (negsuc m) ns h r l = absurd (omega (arith, ints))

-- a size is at most the number of cells
pub size_le : (place total : ℕ) (n : ℤ) (ns : List ℤ) → AllByRecursion IsSize ns → (place + 1) * cell_count (n ∷ ns) ≤ total → places_of n ≤ total
size_le place total n ns h r =
    let a = le-mul_of_pos_right (places_of n) (cell_count-pos ns h) in
    let b = mul-le 1 (cell_count (n ∷ ns)) (place + 1) (cell_count (n ∷ ns)) (omega arith) (omega arith) in
    omega arith

-- what the loop over the sizes knows, at its next size
pub record Turn (sizes : List ℤ) (k place total : ℕ) : Type 0 where
  pub size : IsSize (get_or sizes k (pos 0))
  pub rest : AllByRecursion IsSize (drop (k + 1) sizes)
  pub is : drop k sizes ≡ get_or sizes k (pos 0) ∷ drop (k + 1) sizes
  pub room : (place + 1) * cell_count (get_or sizes k (pos 0) ∷ drop (k + 1) sizes) ≤ total
  pub few : places_of (get_or sizes k (pos 0)) ≤ total

pub turn : (sizes : List ℤ) (k place total : ℕ) → k < length sizes → AllByRecursion IsSize (drop k sizes) → (place + 1) * cell_count (drop k sizes) ≤ total → Turn sizes k place total
turn sizes k place total l h r =
    let e = drop_more sizes k (pos 0) l in
    let s = subst (AllByRecursion IsSize) e h in
    let m = subst (λ ns. (place + 1) * cell_count ns ≤ total) e r in
    record { size = s.0; rest = s.1; is = e; room = m; few = size_le place total (get_or sizes k (pos 0)) (drop (k + 1) sizes) s.1 m }

pub size_bound : (n : ℤ) (total : ℕ) → IsSize n → places_of n ≤ total → n ≤ℤ pos total
size_bound (pos m) total h l = omega (arith, ints)
size_bound (negsuc m) total h l = omega (arith, ints)

-- the place with one more index is below the number of cells
pub place_fits : (place index total : ℕ) (n : ℤ) (ns : List ℤ) → IsSize n → AllByRecursion IsSize ns → (place + 1) * cell_count (n ∷ ns) ≤ total → pos index <ℤ n → place * places_of n + index < total
place_fits place index total n ns h hs r l =
    let a = room_step place index total n ns h r l in
    let b = le-mul_of_pos_right (place * places_of n + index + 1) (cell_count-pos ns hs) in
    omega arith

pub one_begin : (text : List ℕ) (size : ℤ) (i : ℕ) (more : List ℕ) (i' : ℕ) (more' : List ℕ) → BeginsWith text size i more → BeginsWith text size i' more' → (i ≡ i') × (more ≡ more')
one_begin text size i more i' more' b g =
    let same = one_front text b.inner more g.inner more' (front_of text size i more b) (front_of text size i' more' g) in
    let value : pos i ≡ pos i' = sym b.spells.1 ∙ (ap (signed_digits_value 10) same.0 ∙ g.spells.1) in
    (cc value, same.1)
