-- How items are met, one after the other.
use Rattle.std.proofs.Common.{◌≡◌, ℕ, ◌+◌, ◌<◌, ◌≤◌, ℤ, pos, ◌≤ℤ◌, Bool as Truth, true, false, List, [], ◌∷◌, ◌++◌, length, map, take, drop, refl, inl, inr, ap, sym, subst, ◌∙◌, arith}
use Rattle.std.proofs.lemmas.List.{append_assoc, length-append, length-drop, length-take-le, take-append-drop, get_or_append_left, get_or_at}
use Rattle.std.specs.List.{AllByRecursion}
use Rattle.fz_model.specs.declared.model.Call.{Call}
use Rattle.fz_model.specs.Meaning.{at, truth, CallHolds}
use Rattle.lo_base.specs.Item.{Item, Ranged, Boolean, Posted, made}
use Rattle.fz_model.specs.Fixing.{IsBit}
use Rattle.lo_base.specs.Solved.{Meets, Extends, Means}

-- the numbers are below n
abbrev pub Below : ℕ → List ℕ → Type 0
Below n = AllByRecursion (λ x. x < n)

pub below_longer : (m n : ℕ) (xs : List ℕ) → m ≤ n → Below m xs → Below n xs
below_longer m n [] le h = tt
below_longer m n (x ∷ xs) le h = (omega arith, below_longer m n xs le h.1)

pub at_front : (a d : List ℤ) (k : ℕ) → k < length a → at (a ++ d) k ≡ at a k
at_front a d k lt = get_or_append_left a d (pos 0) k lt

pub at_new : (a : List ℤ) (v : ℤ) (d : List ℤ) → at ((a ++ v ∷ []) ++ d) (length a) ≡ v
at_new a v d = ap (λ b. at b (length a)) (append_assoc a (v ∷ []) d) ∙ get_or_at a v d (pos 0) (length a) refl

pub map_at_front : (a d : List ℤ) (xs : List ℕ) → Below (length a) xs → map (at (a ++ d)) xs ≡ map (at a) xs
map_at_front a d [] h = refl
map_at_front a d (x ∷ xs) h = ap (λ v. v ∷ map (at (a ++ d)) xs) (at_front a d x h.0) ∙ ap (λ vs. at a x ∷ vs) (map_at_front a d xs h.1)

pub made-append : (xs ys : List Item) → made (xs ++ ys) ≡ made xs + made ys
made-append [] ys = omega arith
made-append (x ∷ xs) ys = omega (arith, made-append xs ys)

pub meets_at : (m n : ℕ) (xs : List Item) (b : List ℤ) → m ≡ n → Meets m xs b → Meets n xs b
meets_at m n xs b e h = subst (λ (k : ℕ). Meets k xs b) e h

pub meets_join : (n : ℕ) (xs ys : List Item) (b : List ℤ) → Meets n xs b → Meets (n + made xs) ys b → Meets n (xs ++ ys) b
meets_join n [] ys b h k = meets_at (n + 0) n ys b (omega arith) k
meets_join n (Ranged lo hi ∷ xs) ys b h k = (h.0, h.1, meets_join (n + 1) xs ys b h.2 (meets_at (n + (1 + made xs)) (n + 1 + made xs) ys b (omega arith) k))
meets_join n (Boolean ∷ xs) ys b h k = (h.0, meets_join (n + 1) xs ys b h.1 (meets_at (n + (1 + made xs)) (n + 1 + made xs) ys b (omega arith) k))
meets_join n (Posted call ∷ xs) ys b h k = (h.0, meets_join n xs ys b h.1 (meets_at (n + (0 + made xs)) (n + made xs) ys b (omega arith) k))

pub meets_split : (n : ℕ) (xs ys : List Item) (b : List ℤ) → Meets n (xs ++ ys) b → Meets n xs b × Meets (n + made xs) ys b
meets_split n [] ys b h = (tt, meets_at n (n + 0) ys b (omega arith) h)
meets_split n (Ranged lo hi ∷ xs) ys b h = let r = meets_split (n + 1) xs ys b h.2 in ((h.0, h.1, r.0), meets_at (n + 1 + made xs) (n + (1 + made xs)) ys b (omega arith) r.1)
meets_split n (Boolean ∷ xs) ys b h = let r = meets_split (n + 1) xs ys b h.1 in ((h.0, r.0), meets_at (n + 1 + made xs) (n + (1 + made xs)) ys b (omega arith) r.1)
meets_split n (Posted call ∷ xs) ys b h = let r = meets_split n xs ys b h.1 in ((h.0, r.0), meets_at (n + made xs) (n + (0 + made xs)) ys b (omega arith) r.1)

pub extends_nil : (a : List ℤ) → Extends a []
extends_nil a = record { more = []; many = refl; met = λ d. tt }

pub extends_posted : (a : List ℤ) (call : Call) (xs : List Item) → ((d : List ℤ) → CallHolds (a ++ d) call) → Extends a xs → Extends a (Posted call ∷ xs)
extends_posted a call xs h e = record {
  more = e.more;
  many = omega (arith, e.many);
  met = λ d. (subst (λ (b : List ℤ). CallHolds b call) (sym (append_assoc a e.more d)) (h (e.more ++ d)), e.met d);
}

-- the new value, and what comes behind it
regroup : (a : List ℤ) (v : ℤ) (more d : List ℤ) → ((a ++ v ∷ []) ++ more) ++ d ≡ (a ++ (v ∷ more)) ++ d
regroup a v more d = ap (λ b. b ++ d) (append_assoc a (v ∷ []) more)

length_new : (a : List ℤ) (v : ℤ) → length (a ++ v ∷ []) ≡ length a + 1
length_new a v = length-append a (v ∷ [])

at_it : (a : List ℤ) (v : ℤ) (more d : List ℤ) → at ((a ++ (v ∷ more)) ++ d) (length a) ≡ v
at_it a v more d = ap (λ b. at b (length a)) (append_assoc a (v ∷ more) d) ∙ get_or_at a v (more ++ d) (pos 0) (length a) refl

behind : (a : List ℤ) (v : ℤ) (more d : List ℤ) (xs : List Item) → Meets (length (a ++ v ∷ [])) xs (((a ++ v ∷ []) ++ more) ++ d) → Meets (length a + 1) xs ((a ++ (v ∷ more)) ++ d)
behind a v more d xs h = meets_at (length (a ++ v ∷ [])) (length a + 1) xs ((a ++ (v ∷ more)) ++ d) (length_new a v) (subst (Meets (length (a ++ v ∷ [])) xs) (regroup a v more d) h)

pub truth_bit : (t : Truth) → IsBit (truth t)
truth_bit true = inr refl
truth_bit false = inl refl

pub extends_boolean : (a : List ℤ) (t : Truth) (xs : List Item) → Extends (a ++ truth t ∷ []) xs → Extends a (Boolean ∷ xs)
extends_boolean a t xs e = record {
  more = truth t ∷ e.more;
  many = omega (arith, e.many);
  met = λ d. (subst IsBit (sym (at_it a (truth t) e.more d)) (truth_bit t), behind a (truth t) e.more d xs (e.met d));
}

pub extends_ranged : (a : List ℤ) (v lo hi : ℤ) (xs : List Item) → lo ≤ℤ v → v ≤ℤ hi → Extends (a ++ v ∷ []) xs → Extends a (Ranged lo hi ∷ xs)
extends_ranged a v lo hi xs low high e = record {
  more = v ∷ e.more;
  many = omega (arith, e.many);
  met = λ d. (subst (λ (w : ℤ). lo ≤ℤ w) (sym (at_it a v e.more d)) low, subst (λ (w : ℤ). w ≤ℤ hi) (sym (at_it a v e.more d)) high, behind a v e.more d xs (e.met d));
}

-- one list of items, and then another, which may know that the first is met
pub extends_join : (a : List ℤ) (xs ys : List Item) → Extends a xs
    → ((c : List ℤ) → length c ≡ made xs → ((d : List ℤ) → Meets (length a) xs (a ++ c ++ d)) → Extends (a ++ c) ys)
    → Extends a (xs ++ ys)
extends_join a xs ys e f =
    let r = f e.more e.many e.met in
    let len : length (a ++ e.more) ≡ length a + made xs = length-append a e.more ∙ ap (λ n. length a + n) e.many in
    record {
      more = e.more ++ r.more;
      many = length-append e.more r.more ∙ ap (λ n. n + length r.more) e.many ∙ ap (λ n. made xs + n) r.many ∙ sym (made-append xs ys);
      met = λ d.
          let same : ((a ++ e.more) ++ r.more) ++ d ≡ (a ++ (e.more ++ r.more)) ++ d = ap (λ b. b ++ d) (append_assoc a e.more r.more) in
          let first : Meets (length a) xs ((a ++ (e.more ++ r.more)) ++ d) = subst (Meets (length a) xs) (sym (append_assoc (a ++ e.more) r.more d) ∙ same) (e.met (r.more ++ d)) in
          let second : Meets (length a + made xs) ys ((a ++ (e.more ++ r.more)) ++ d) = meets_at _ _ ys _ len (subst (Meets (length (a ++ e.more)) ys) same (r.met d)) in
          meets_join (length a) xs ys ((a ++ (e.more ++ r.more)) ++ d) first second;
    }

-- Two lists of items in a row mean both, where what the second means does not hang on later values.
pub means_join : (P Q : List ℤ → Type 0) (n : ℕ) (xs ys : List Item) → ((a c : List ℤ) → length a ≡ n → (Q (a ++ c) → Q a) × (Q a → Q (a ++ c)))
    → Means P n xs → Means Q (n + made xs) ys → Means (λ a. P a × Q a) n (xs ++ ys)
means_join P Q n xs ys steady first second = record {
  sound = λ a d len room h.
      let parts = meets_split n xs ys (a ++ d) h in
      let k = made xs in
      let enough : k ≤ length d = omega (arith, made-append xs ys) in
      let c : List ℤ = take k d in
      let e : List ℤ = drop k d in
      let same : (a ++ c) ++ e ≡ a ++ d = append_assoc a c e ∙ ap (λ zs. a ++ zs) (take-append-drop k d) in
      let long : length (a ++ c) ≡ n + k = length-append a c ∙ ap (λ m. m + length c) len ∙ ap (λ m. n + m) (length-take-le k d enough) in
      let left : made ys ≤ length e = omega (arith, length-drop k d, made-append xs ys) in (
        first.sound a d len (omega (arith, made-append xs ys)) parts.0,
        (steady a c len).0 (second.sound (a ++ c) e long left (subst (Meets (n + k) ys) (sym same) parts.1)),
      );
  complete = λ a len pq.
      extends_join a xs ys (first.complete a len pq.0) (λ c many met.
      second.complete (a ++ c) (length-append a c ∙ ap (λ m. m + length c) len ∙ ap (λ m. n + m) many) ((steady a c len).1 pq.1));
}

pub ruleset made_laws = (made-append)
