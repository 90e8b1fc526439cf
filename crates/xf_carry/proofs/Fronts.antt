-- Fronts of what was written, part after part.
use Rattle.std.proofs.Common.{◌≡◌, ℕ, ◌+◌, ◌<◌, Option, List, [], ◌++◌, length, get_or, take, drop, ap, sym, subst, ◌∙◌}
use Rattle.std.specs.Prelude.{Result, Ok, Err, OnOk, OnErr}
use Rattle.std.specs.List.{flat_map}
use Rattle.std.proofs.lemmas.Grind.{flat_map-append}
use Rattle.std.proofs.lemmas.List.{append_assoc, at_drop_more, take-append-drop}
use Rattle.std.proofs.Math.Seq.{take-append_seam, take-append-add}
use Rattle.xf_text.specs.Outside.{Appended, AppendedFront}
use Rattle.xf_text.proofs.OutsideLemmas.{appended_then}
use Rattle.xf_carry.specs.Writing.{appended_nil}

pub front_from : (o n : Option (List ℕ)) (front rest all : List ℕ) → front ++ rest ≡ all → Appended o n front → AppendedFront o n all
front_from o n front rest all is h = (length front, subst (Appended o n) (sym (ap (take (length front)) (sym is) ∙ take-append_seam front rest)) h)

pub front_longer : (o n : Option (List ℕ)) (xs ys : List ℕ) → AppendedFront o n xs → AppendedFront o n (xs ++ ys)
front_longer o n xs ys h =
    let k = h.0 in
    front_from o n (take k xs) (drop k xs ++ ys) (xs ++ ys) (sym (append_assoc (take k xs) (drop k xs) ys) ∙ ap (λ zs. zs ++ ys) (take-append-drop k xs)) h.1

pub front_then : (o m n : Option (List ℕ)) (xs ys : List ℕ) → Appended o m xs → AppendedFront m n ys → AppendedFront o n (xs ++ ys)
front_then o m n xs ys h g = (length xs + g.0, subst (Appended o n) (sym (take-append-add xs ys g.0)) (appended_then o m n xs (take g.0 ys) h g.1))

pub front_none : (o : Option (List ℕ)) (xs : List ℕ) → AppendedFront o o xs
front_none o xs = (0, appended_nil o)

-- a front of the text that a cleared buffer was given
pub front_line : (o n : Option (List ℕ)) (bs written cleared text : List ℕ) → bs ≡ written → written ≡ cleared ++ text → cleared ≡ [] → AppendedFront o n bs → AppendedFront o n text
front_line o n bs written cleared text e f z h = subst (AppendedFront o n) (e ∙ f ∙ ap (λ zs. zs ++ text) z) h

module _ {X : Type 0} (f : X → List ℕ) (xs : List X) (k : ℕ) where
  -- stopped between two items
  pub front_taken : (o n : Option (List ℕ)) → Appended o n (flat_map f (take k xs)) → AppendedFront o n (flat_map f xs)
  front_taken o n h =
      front_from o n (flat_map f (take k xs)) (flat_map f (drop k xs)) (flat_map f xs) (sym (flat_map-append f (take k xs) (drop k xs)) ∙ ap (flat_map f) (take-append-drop k xs)) h

  -- stopped within an item
  pub front_within : (o m n : Option (List ℕ)) (x : X) → k < length xs → x ≡ get_or xs k x → Appended o m (flat_map f (take k xs)) → AppendedFront m n (f x) → AppendedFront o n (flat_map f xs)
  front_within o m n x lt is h g =
      let after : List ℕ = flat_map f (drop (k + 1) xs) in
      let left : flat_map f (drop k xs) ≡ f x ++ after = at_drop_more (flat_map f) xs k x lt ∙ ap (λ y. f y ++ after) (sym is) in
      let all : (flat_map f (take k xs) ++ f x) ++ after ≡ flat_map f xs =
      append_assoc (flat_map f (take k xs)) (f x) after ∙ ap (λ bs. flat_map f (take k xs) ++ bs) (sym left) ∙ sym (flat_map-append f (take k xs) (drop k xs)) ∙ ap (flat_map f) (take-append-drop k xs) in
      subst (AppendedFront o n) all (front_longer o n (flat_map f (take k xs) ++ f x) after (front_then o m n (flat_map f (take k xs)) (f x) h g))

-- what holds of a result

module _ {T E : Type 0} (r : Result T E) where
  pub err_maps : {A B : Type 0} → (A → B) → OnErr r A → OnErr r B
  err_maps {A} {B} f h = elim r as (λ (q : Result T E). OnErr q A → OnErr q B) [ Ok x ↦ λ _. tt | Err e ↦ f ] h

  pub err_both : {A B C : Type 0} → (A → B → C) → OnErr r A → OnErr r B → OnErr r C
  err_both {A} {B} {C} f h k = elim r as (λ (q : Result T E). OnErr q A → OnErr q B → OnErr q C) [ Ok x ↦ λ _ _. tt | Err e ↦ f ] h k

  pub ok_maps : {A B : Type 0} → (A → B) → OnOk r A → OnOk r B
  ok_maps {A} {B} f h = elim r as (λ (q : Result T E). OnOk q A → OnOk q B) [ Ok x ↦ f | Err e ↦ λ _. tt ] h

  pub ok_both : {A B C : Type 0} → (A → B → C) → OnOk r A → OnOk r B → OnOk r C
  ok_both {A} {B} {C} f h k = elim r as (λ (q : Result T E). OnOk q A → OnOk q B → OnOk q C) [ Ok x ↦ f | Err e ↦ λ _ _. tt ] h k

  pub ok_at : {A : Type 0} (x : T) → r ≡ Ok x → OnOk r A → A
  ok_at {A} x is h = subst (λ (q : Result T E). OnOk q A) is h

  pub err_at : {A : Type 0} (e : E) → r ≡ Err e → OnErr r A → A
  err_at {A} e is h = subst (λ (q : Result T E). OnErr q A) is h

-- the same between the same states
pub moved : (o n p q : Option (List ℕ)) (xs : List ℕ) → o ≡ p → n ≡ q → Appended o n xs → Appended p q xs
moved o n p q xs e f h = subst (λ (z : Option (List ℕ)). Appended z q xs) e (subst (λ (z : Option (List ℕ)). Appended o z xs) f h)

pub moved_front : (o n p q : Option (List ℕ)) (xs : List ℕ) → o ≡ p → n ≡ q → AppendedFront o n xs → AppendedFront p q xs
moved_front o n p q xs e f h = subst (λ (z : Option (List ℕ)). AppendedFront z q xs) e (subst (λ (z : Option (List ℕ)). AppendedFront o z xs) f h)
