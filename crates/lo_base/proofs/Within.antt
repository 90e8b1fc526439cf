-- Lists of items in a row, among values before of which something is known.
use Rattle.std.proofs.Common.{◌≡◌, ℕ, ◌+◌, ◌≤◌, ℤ, List, ◌++◌, length, take, drop, ap, sym, ◌∙◌, subst, arith}
use Rattle.std.proofs.lemmas.List.{append_assoc, length-append, length-drop, length-take-le, take-append-drop}
use Rattle.lo_base.specs.Item.{Item, made}
use Rattle.lo_base.specs.Solved.{Meets, Means, MeansWithin}
use Rattle.lo_base.proofs.Solving.{made-append, meets_split, extends_join}

-- what is known of the values before stays so, whatever comes behind
abbrev pub Lasts : ℕ → (List ℤ → Type 0) → Type 0
Lasts n D = (a c : List ℤ) → n ≤ length a → D a → D (a ++ c)

-- what is said of the values before does not hang on later ones
abbrev pub IsSteady : ℕ → (List ℤ → Type 0) → Type 0
IsSteady n Q = (a c : List ℤ) → length a ≡ n → (Q (a ++ c) → Q a) × (Q a → Q (a ++ c))

-- what means P means it of any of them
pub within_any : (D P : List ℤ → Type 0) (n : ℕ) (xs : List Item) → Means P n xs → MeansWithin D P n xs
within_any D P n xs m = record { sound = λ a c len room d h. m.sound a c len room h; complete = λ a len d p. m.complete a len p }

-- two lists of items in a row mean both
pub means_within_join : (D P Q : List ℤ → Type 0) (n : ℕ) (xs ys : List Item) → Lasts n D → IsSteady n Q → MeansWithin D P n xs → MeansWithin D Q (n + made xs) ys → MeansWithin D (λ a. P a × Q a) n (xs ++ ys)
means_within_join D P Q n xs ys lasts steady first second = record {
  sound = λ a d len room within h.
      let parts = meets_split n xs ys (a ++ d) h in
      let k = made xs in
      let enough : k ≤ length d = omega (arith, made-append xs ys, room) in
      let c : List ℤ = take k d in
      let e : List ℤ = drop k d in
      let same : (a ++ c) ++ e ≡ a ++ d = append_assoc a c e ∙ ap (λ zs. a ++ zs) (take-append-drop k d) in
      let long : length (a ++ c) ≡ n + k = length-append a c ∙ ap (λ m. m + length c) len ∙ ap (λ m. n + m) (length-take-le k d enough) in
      let left : made ys ≤ length e = omega (arith, length-drop k d, made-append xs ys, room) in (
        first.sound a d len (omega (arith, made-append xs ys, room)) within parts.0,
        (steady a c len).0 (second.sound (a ++ c) e long left (lasts a c (omega (arith, len)) within) (subst (Meets (n + k) ys) (sym same) parts.1)),
      );
  complete = λ a len within pq.
      extends_join a xs ys (first.complete a len within pq.0) (λ c many met.
      second.complete (a ++ c) (length-append a c ∙ ap (λ m. m + length c) len ∙ ap (λ m. n + m) many) (lasts a c (omega (arith, len)) within) ((steady a c len).1 pq.1));
}
