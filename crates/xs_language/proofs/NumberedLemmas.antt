-- The names of states that are written by their numbers, and that they are numbered alike when they are read.
use Rattle.std.proofs.Common.{◌≡◌, ℕ, zero, suc, ◌+◌, ◌<◌, ◌≤◌, ◌⊎◌, inl, inr, ◌^◌, pos, Bool, true, false, cond, ◌||◌, eqb, nat_le, if◌then◌else◌, List, [], ◌∷◌, ◌++◌, length, map, drop, Some, refl, ap, sym, ◌∙◌, subst, arith, length-append}
use Rattle.std.specs.Fmt.{decimal}
use Rattle.std.specs.List.{AllByRecursion, list_all, list_any, position_or_len}
use Rattle.std.specs.Str.{bytes_eq}
use Rattle.std.specs.Str.Parse.{AllDigits}
use Rattle.std.proofs.lemmas.Bool.{cases_lt, eq-eqb, ne_eqb}
use Rattle.std.proofs.lemmas.Fmt.{decimal_is_IsNumeral_wide}
use Rattle.std.proofs.lemmas.List.Folds.{list_any-append, position_or_len_push}
use Rattle.std.proofs.lemmas.Slice.Eq.{bytes_eq-Decides}
use Rattle.std.proofs.lemmas.Str.Parse.{digit_from_value}
use borrow.Author.Tests.{le-leb}
use Rattle.xs_automata.specs.Numbers.{edge_of, edges_from, number_of, numbers_from, with_name, with_step, with_steps}
use Rattle.xs_automata.specs.Transitions.{Step}
use Rattle.xs_automata.proofs.NumberLemmas.{none_at_end}
use Rattle.xs_expr.specs.Tokens.{is_in_word}
use Rattle.xs_fields.specs.Identifiers.{is_identifier}
use Rattle.xs_fields.specs.Integers.{integer_of}
use Rattle.xs_language.specs.Written.{state_text}
use Rattle.xs_language.proofs.CutLemmas.{both}
use Rattle.xs_language.proofs.WrittenLemmas.{integer_word, read_integer}
use Rattle.xs_model.specs.Fitting.{AreNumberedFrom, ends_of}
use Rattle.xs_model.specs.Identifier.{is_digit, is_letter, is_word}
use Rattle.xs_model.specs.Sound.{IsSmall}
use Rattle.xs_model.specs.declared.instance.Edge.{Edge}

-- numbers of 32 bits
abbrev pub IsNumber : ℕ → Type 0
IsNumber q = q < 2 ^ 32

small_number : (q : ℕ) → IsNumber q → IsSmall (pos q)
small_number q h = omega (arith, h)

pub state_bytes : (q : ℕ) → IsNumber q → list_all is_in_word (state_text q) ≡ true
state_bytes q h = integer_word (pos q) (small_number q h)

digits_word : (ds : List ℕ) → AllDigits 10 ds → list_all is_word ds ≡ true
digits_word [] d = refl
digits_word (c ∷ cs) d =
    let r = digit_from_value c d.0 in
    let digit : is_digit c ≡ true = both (nat_le 48 c) (nat_le c 57) (le-leb 48 c r.0) (le-leb c 57 r.1) in
    both (is_word c) (list_all is_word cs) (or_right (is_letter c) (is_digit c) digit) (digits_word cs d.1)
  where
    or_right : (a b : Bool) → b ≡ true → (a || b) ≡ true
    or_right true b e = refl
    or_right false b e = e

pub state_identifier : (q : ℕ) → IsNumber q → is_identifier (state_text q) ≡ true
state_identifier q h = digits_word (decimal q) (decimal_is_IsNumeral_wide q (omega (arith, h))).0.1

-- states of different numbers are named differently
state_same : (p q : ℕ) → IsNumber p → IsNumber q → state_text p ≡ state_text q → p ≡ q
state_same p q h g e =
    let both_read : Some (pos p) ≡ Some (pos q) = sym (read_integer (pos p) (small_number p h)) ∙ ap (λ w. integer_of (drop 1 w)) e ∙ read_integer (pos q) (small_number q g) in cc

apart : (p q : ℕ) → IsNumber p → IsNumber q → (p ≡ q → ⊥) → bytes_eq (state_text p) (state_text q) ≡ false
apart p q h g ne = by (bytes_eq (state_text p) (state_text q)) refl
  where
    by : (v : Bool) → bytes_eq (state_text p) (state_text q) ≡ v → v ≡ false
    by true e = absurd (ne (state_same p q h g ((bytes_eq-Decides (state_text p) (state_text q)).0 e)))
    by false e = refl

alike : (w : List ℕ) → bytes_eq w w ≡ true
alike w = (bytes_eq-Decides w w).1 refl

-- the names of the first n states
abbrev pub names_to : ℕ → List (List ℕ)
names_to zero = []
names_to (suc n) = names_to n ++ state_text n ∷ []

many_names : (n : ℕ) → length (names_to n) ≡ n
many_names zero = refl
many_names (suc n) = omega (arith, length-append (names_to n) (state_text n ∷ []), many_names n)

absent : (n q : ℕ) → n ≤ q → IsNumber q → list_any (bytes_eq (state_text q)) (names_to n) ≡ false
absent zero q le h = refl
absent (suc n) q le h =
    list_any-append (bytes_eq (state_text q)) (names_to n) (state_text n ∷ [])
    ∙ ap (λ (b : Bool). b || (bytes_eq (state_text q) (state_text n) || false)) (absent n q (omega (arith, le)) h)
    ∙ ap (λ (b : Bool). b || false) (apart q n h (omega (arith, le, h)) (λ e. omega (arith, le, e)))

last_place : (n : ℕ) → IsNumber n → position_or_len (bytes_eq (state_text n)) (names_to n) ≡ length (names_to n)
last_place n h = none_at_end (bytes_eq (state_text n)) (names_to n) (absent n n (omega arith) h)

present : (n q : ℕ) → q < n → n ≤ 2 ^ 32 → (list_any (bytes_eq (state_text q)) (names_to n) ≡ true) × (position_or_len (bytes_eq (state_text q)) (names_to n) ≡ q)
present zero q lt le = absurd (omega (arith, lt))
present (suc n) q lt le = by (λ below. present n q below (omega (arith, le))) (cases_lt q n)
  where
    by : (q < n → (list_any (bytes_eq (state_text q)) (names_to n) ≡ true) × (position_or_len (bytes_eq (state_text q)) (names_to n) ≡ q)) → (q < n) ⊎ (n ≤ q) → (list_any (bytes_eq (state_text q)) (names_to (suc n)) ≡ true) × (position_or_len (bytes_eq (state_text q)) (names_to (suc n)) ≡ q)
    by earlier (inl below) =
        let p = earlier below in (
          list_any-append (bytes_eq (state_text q)) (names_to n) (state_text n ∷ []) ∙ ap (λ (b : Bool). b || (bytes_eq (state_text q) (state_text n) || false)) p.0,
          position_or_len_push (bytes_eq (state_text q)) (names_to n) (state_text n)
              ∙ ap (λ (m : ℕ). cond (eqb m (length (names_to n))) (length (names_to n) + cond (bytes_eq (state_text q) (state_text n)) 0 1) m) p.1
              ∙ ap (λ (b : Bool). cond b (length (names_to n) + cond (bytes_eq (state_text q) (state_text n)) 0 1) q) (ne_eqb q (length (names_to n)) (λ e. omega (arith, e, below, many_names n))),
        )
    by earlier (inr above) =
        let same : q ≡ n = omega (arith, lt, above) in
        subst (λ (r : ℕ). (list_any (bytes_eq (state_text r)) (names_to (suc n)) ≡ true) × (position_or_len (bytes_eq (state_text r)) (names_to (suc n)) ≡ r)) (sym same) (
          list_any-append (bytes_eq (state_text n)) (names_to n) (state_text n ∷ []) ∙ ap (λ (b : Bool). list_any (bytes_eq (state_text n)) (names_to n) || (b || false)) (alike (state_text n)) ∙ or_true (list_any (bytes_eq (state_text n)) (names_to n)),
          position_or_len_push (bytes_eq (state_text n)) (names_to n) (state_text n)
              ∙ ap (λ (m : ℕ). cond (eqb m (length (names_to n))) (length (names_to n) + cond (bytes_eq (state_text n) (state_text n)) 0 1) m) (last_place n (omega (arith, le)))
              ∙ ap (λ (b : Bool). cond b (length (names_to n) + cond (bytes_eq (state_text n) (state_text n)) 0 1) (length (names_to n))) (eq-eqb (length (names_to n)) (length (names_to n)) refl)
              ∙ ap (λ (b : Bool). length (names_to n) + cond b 0 1) (alike (state_text n)) ∙ omega (arith, many_names n),
        )
      where
        or_true : (v : Bool) → (v || true) ≡ true
        or_true true = refl
        or_true false = refl

-- one state is numbered as it is named
pub record IsNumbered (n q : ℕ) (more : List ℕ) : Type 0 where
  pub after : ℕ
  pub few : after ≤ 2 ^ 32
  pub number : number_of (names_to n) (state_text q) ≡ q
  pub grows : with_name (names_to n) (state_text q) ≡ names_to after
  pub rest : AreNumberedFrom after more

pub numbered : (n q : ℕ) (more : List ℕ) → n ≤ 2 ^ 32 → IsNumber q → AreNumberedFrom n (q ∷ more) → IsNumbered n q more
numbered n q more le h (inl k) =
    let p = present n q k.0 le in
    record { after = n; few = le; number = p.1; grows = ap (λ (b : Bool). if b then names_to n else names_to n ++ state_text q ∷ []) p.0; rest = k.1 }
numbered n q more le h (inr k) =
    let none : list_any (bytes_eq (state_text q)) (names_to n) ≡ false = absent n q (omega (arith, k.0)) h in
    record {
      after = n + 1;
      few = omega (arith, k.0, h);
      number = none_at_end (bytes_eq (state_text q)) (names_to n) none ∙ many_names n ∙ sym k.0;
      grows = ap (λ (b : Bool). if b then names_to n else names_to n ++ state_text q ∷ []) none ∙ ap (λ (m : ℕ). names_to n ++ state_text m ∷ []) k.0 ∙ ap names_to (one_more n);
      rest = k.1;
    }
  where
    one_more : (m : ℕ) → suc m ≡ m + 1
    one_more m = omega arith

-- so are all states of transitions
abbrev pub named_step : Edge → Step
named_step e = record { from = state_text e.from; value = e.value; to = state_text e.to }

abbrev pub AreNumbers : List ℕ → Type 0
AreNumbers qs = AllByRecursion IsNumber qs

pub record AreBack (n : ℕ) (es : List Edge) (more : List ℕ) : Type 0 where
  pub after : ℕ
  pub few : after ≤ 2 ^ 32
  pub same : edges_from (names_to n) (map named_step es) ≡ es
  pub grows : with_steps (names_to n) (map named_step es) ≡ names_to after
  pub rest : AreNumberedFrom after more

pub edges_back : (n : ℕ) (es : List Edge) (more : List ℕ) → n ≤ 2 ^ 32 → AreNumbers (ends_of es ++ more) → AreNumberedFrom n (ends_of es ++ more) → AreBack n es more
edges_back n [] more le h g = record { after = n; few = le; same = refl; grows = refl; rest = g }
edges_back n (e ∷ es) more le h g =
    let from = numbered n e.from (e.to ∷ (ends_of es ++ more)) le h.0 g in
    let to = numbered from.after e.to (ends_of es ++ more) from.few h.1.0 from.rest in
    let later = edges_back to.after es more to.few h.1.1 to.rest in
    let known : with_step (names_to n) (named_step e) ≡ names_to to.after = ap (λ ks. with_name ks (state_text e.to)) from.grows ∙ to.grows in
    let first : edge_of (names_to n) (named_step e) ≡ e =
    ap (λ (q : ℕ). record { from = q; value = e.value; to = number_of (with_name (names_to n) (state_text e.from)) (state_text e.to) }) from.number
    ∙ ap (λ (q : ℕ). record { from = e.from; value = e.value; to = q }) (ap (λ ks. number_of ks (state_text e.to)) from.grows ∙ to.number) in
    record {
      after = later.after;
      few = later.few;
      same = ap (λ x. x ∷ edges_from (with_step (names_to n) (named_step e)) (map named_step es)) first ∙ ap (λ xs. e ∷ xs) (ap (λ ks. edges_from ks (map named_step es)) known ∙ later.same);
      grows = ap (λ ks. with_steps ks (map named_step es)) known ∙ later.grows;
      rest = later.rest;
    }

pub states_back : (n : ℕ) (qs : List ℕ) → n ≤ 2 ^ 32 → AreNumbers qs → AreNumberedFrom n qs → numbers_from (names_to n) (map state_text qs) ≡ qs
states_back n [] le h g = refl
states_back n (q ∷ qs) le h g =
    let one = numbered n q qs le h.0 g in
    ap (λ x. x ∷ numbers_from (with_name (names_to n) (state_text q)) (map state_text qs)) one.number
    ∙ ap (λ xs. q ∷ xs) (ap (λ ks. numbers_from ks (map state_text qs)) one.grows ∙ states_back one.after qs one.few h.1 one.rest)
