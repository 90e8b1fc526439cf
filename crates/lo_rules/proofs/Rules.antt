-- The judgement of two lists of items in a row, of less that is said of them, and what follows from it.
use Rattle.std.proofs.Common.{◌≡◌, ◌⊎◌, inl, inr, ℕ, ◌+◌, ◌<◌, ◌≤◌, ℤ, Bool, List, [], ◌∷◌, ◌++◌, length, map, sum, refl, ap, ap₂, sym, subst, ◌∙◌, arith}
use Rattle.std.proofs.lemmas.List.{append_assoc, length-append}
use Rattle.std.proofs.lemmas.List.Sums.{sum_by-append}
use Rattle.fz_model.specs.Meaning.{at}
use Rattle.fz_model.specs.Size.{call_leaves}
use Rattle.lo_base.specs.Item.{Item, Ranged, Boolean, Posted, made}
use Rattle.lo_base.specs.Lowered.{calls_of}
use Rattle.lo_base.specs.Solved.{Meets}
use Rattle.lo_base.proofs.Before.{joined_before, before_longer}
use Rattle.lo_base.proofs.Solving.{at_front, Below, below_longer, map_at_front, made-append, meets_at, meets_join, meets_split}
use Rattle.lo_base.proofs.Steps.{settles_left, settles_right}
use Rattle.fz_model.proofs.Calls.{number-Int, number-Bool, number-Var}
use Rattle.lo_emit.specs.declared.term.Term.{Term}
use Rattle.lo_emit.specs.declared.term.Term.TheVariants.{Int, Truth, Var}
use Rattle.lo_rules.specs.Rule.{leaves, num, Before, AllBefore, Known, Always, Chosen, Rule}
use Rattle.lo_base.specs.Formed.{AreFormed}
use Rattle.lo_rules.specs.Laws.{IsSteady, IsLowered, IsLoweredUnder}

pub sum_cons : (x : ℕ) (xs : List ℕ) → sum (x ∷ xs) ≡ x + sum xs
sum_cons x xs = let h : sum (x ∷ xs) ≡ (0 + x) + sum xs = sum_by-append (λ n. n) (x ∷ []) xs in omega (arith, h)

pub leaves-append : (xs ys : List Item) → leaves (xs ++ ys) ≡ leaves xs + leaves ys
leaves-append [] ys = omega arith
leaves-append (Ranged lo hi ∷ xs) ys = leaves-append xs ys
leaves-append (Boolean ∷ xs) ys = leaves-append xs ys
leaves-append (Posted call ∷ xs) ys =
    omega (arith, leaves-append xs ys, sum_cons (call_leaves call) (map call_leaves (calls_of (xs ++ ys))), sum_cons (call_leaves call) (map call_leaves (calls_of xs)))

-- what is known stays so with more values
pub known_more : (D : List ℤ → Type 0) (a c : List ℤ) → Known D a → Known D (a ++ c)
known_more D a c k d = subst D (sym (append_assoc a c d)) (k (c ++ d))

chosen_join : (G H P Q : List ℤ → Type 0) (a : List ℤ) (n : ℕ) (xs ys : List Item) (first : Chosen G P a n xs) → Chosen H Q (a ++ first.more) (n + made xs) ys
    → Chosen (λ b. G b × H b) (λ b. P b × Q b) a n (xs ++ ys)
chosen_join G H P Q a n xs ys first second =
    let c : List ℤ = first.more in
    let e : List ℤ = second.more in
    let back : (d : List ℤ) → ((a ++ c) ++ e) ++ d ≡ (a ++ (c ++ e)) ++ d = λ d. ap (λ (b : List ℤ). b ++ d) (append_assoc a c e) in
    let near : (d : List ℤ) → (a ++ c) ++ (e ++ d) ≡ (a ++ (c ++ e)) ++ d = λ d. sym (append_assoc (a ++ c) e d) ∙ back d in
    record {
      more = c ++ e;
      many = length-append c e ∙ ap (λ m. m + length e) first.many ∙ ap (λ m. made xs + m) second.many ∙ sym (made-append xs ys);
      known = λ d. (subst G (near d) (first.known (e ++ d)), subst H (back d) (second.known d));
      met = λ d pq.
          meets_join n xs ys ((a ++ (c ++ e)) ++ d) (subst (Meets n xs) (near d) (first.met (e ++ d) (subst P (sym (near d)) pq.0)))
          (subst (Meets (n + made xs) ys) (back d) (second.met d (subst Q (sym (back d)) pq.1)));
    }

below_or_not : (k m : ℕ) → (k < m) ⊎ (m ≤ k)
below_or_not k m = grind arith

pub rules_join : (W D G H P Q : List ℤ → Type 0) (n : ℕ) (xs ys : List Item) (w u : ℕ) → Rule W D n xs w G P → Rule W (λ b. D b × G b) (n + made xs) ys u H Q
    → Rule W D n (xs ++ ys) (w + u) (λ b. G b × H b) (λ b. P b × Q b)
rules_join W D G H P Q n xs ys w u first second = record {
  sound = λ b d h.
      let parts = meets_split n xs ys b h in
      let r = first.sound b d parts.0 in
      let s = second.sound b (d, r.0) parts.1 in
      ((r.0, s.0), (r.1, s.1));
  total = λ a len within known.
      let c = first.total a len within known in
      let long : length (a ++ c.more) ≡ n + made xs = length-append a c.more ∙ ap (λ m. m + length c.more) len ∙ ap (λ m. n + m) c.many in
      chosen_join G H P Q a n xs ys c (second.total (a ++ c.more) long (known_more W a c.more within) (λ d. (known_more D a c.more known d, c.known d)));
  settled = λ k le lt.
      elim (below_or_not k (n + made xs)) [
        | inl l ↦ settles_left k n xs ys (first.settled k le l)
        | inr l ↦ settles_right k n xs ys (second.settled k l (omega (arith, made-append xs ys, lt)))
      ];
  before =
      let k : ℕ = n + made (xs ++ ys) in
      joined_before k xs ys (before_longer (n + made xs) k (omega (arith, made-append xs ys)) (calls_of xs) first.before)
      (before_longer (n + made xs + made ys) k (omega (arith, made-append xs ys)) (calls_of ys) second.before);
  size = omega (arith, made-append xs ys, leaves-append xs ys, first.size, second.size);
}

-- other words for what is known, given and stated
pub rule_as : (W D D' G G' P P' : List ℤ → Type 0) (n : ℕ) (xs : List Item) (w w' : ℕ) → ((b : List ℤ) → D' b → D b) → ((b : List ℤ) → D' b → G b → G' b)
    → ((b : List ℤ) → D' b → G b → P b → P' b) → ((b : List ℤ) → W b → D' b → G b → P' b → P b) → w ≤ w' → Rule W D n xs w G P → Rule W D' n xs w' G' P'
rule_as W D D' G G' P P' n xs w w' before shown said back le r = record {
  sound = λ b d h. let s = r.sound b (before b d) h in (shown b d s.0, said b d s.0 s.1);
  total = λ a len within known.
      let c = r.total a len within (λ d. before (a ++ d) (known d)) in
      let here : (d : List ℤ) → D' (a ++ c.more ++ d) = known_more D' a c.more known in
      let inside : (d : List ℤ) → W (a ++ c.more ++ d) = known_more W a c.more within in
      record {
        more = c.more;
        many = c.many;
        known = λ d. shown (a ++ c.more ++ d) (here d) (c.known d);
        met = λ d p. c.met d (back (a ++ c.more ++ d) (inside d) (here d) (c.known d) p);
      };
  settled = r.settled;
  before = r.before;
  size = omega (arith, r.size, le);
}

-- The laws of a list of items whose statement may lean on what is known of the values before.
pub rules_lower_within : (W G P : List ℤ → Type 0) (K : List Bool → Type 0) (n : ℕ) (xs : List Item) (w : ℕ) → ((a : List ℤ) → length a ≡ n → W a → Known W a) → IsSteady n P
    → ((bs : List Bool) → length bs ≡ n → K bs → AreFormed bs xs) → Rule W Always n xs w G (λ b. W b → P b) → IsLowered W P K n xs w
rules_lower_within W G P K n xs w lasts steady formed r = record {
  means = record {
    sound = λ a c len room within h. (steady a c len).0 ((r.sound (a ++ c) tt h).1 (lasts a len within c));
    complete = λ a len within p.
        let c = r.total a len (lasts a len within) (λ d. tt) in
        record {
          more = c.more;
          many = c.many;
          met = λ d. meets_at n (length a) xs (a ++ c.more ++ d) (sym len) (c.met d (λ x. subst P (sym (append_assoc a c.more d)) ((steady a (c.more ++ d) len).1 p)));
        };
  };
  stepwise = record { each = r.settled };
  before = r.before;
  size = r.size;
  formed = formed;
}

pub rules_lower : (W G P : List ℤ → Type 0) (K : List Bool → Type 0) (n : ℕ) (xs : List Item) (w : ℕ) → ((a : List ℤ) → length a ≡ n → W a → Known W a) → IsSteady n P
    → ((bs : List Bool) → length bs ≡ n → K bs → AreFormed bs xs) → Rule W Always n xs w G P → IsLowered W P K n xs w
rules_lower W G P K n xs w lasts steady formed r =
    rules_lower_within W G P K n xs w lasts steady formed
    (rule_as W Always Always G G P (λ b. W b → P b) n xs w w (λ b d. d) (λ b d g. g) (λ b d g p x. p) (λ b x d g p. p x) (omega arith) r)

-- The same where something is told of the variables before, as by literals that are there: D says it, and what comes
-- behind is told by G.
pub rules_lower_under : (W D G P : List ℤ → Type 0) (K : List Bool → Type 0) (n : ℕ) (xs : List Item) (w : ℕ) → ((a : List ℤ) → length a ≡ n → W a → Known W a) → ((a : List ℤ) → length a ≡ n → D a → Known D a)
    → IsSteady n P → ((bs : List Bool) → length bs ≡ n → K bs → AreFormed bs xs) → Rule W D n xs w G (λ b. W b → P b) → IsLoweredUnder W D G P K n xs w
rules_lower_under W D G P K n xs w lasts stays steady formed r = record {
  means = record {
    sound = λ a c len room within h. (steady a c len).0 ((r.sound (a ++ c) (stays a len within.1 c) h).1 (lasts a len within.0 c));
    complete = λ a len within p.
        let c = r.total a len (lasts a len within.0) (stays a len within.1) in
        record {
          more = c.more;
          many = c.many;
          met = λ d. meets_at n (length a) xs (a ++ c.more ++ d) (sym len) (c.met d (λ x. subst P (sym (append_assoc a c.more d)) ((steady a (c.more ++ d) len).1 p)));
        };
  };
  tells = λ b d h. (r.sound b d h).0;
  stepwise = record { each = r.settled };
  before = r.before;
  size = r.size;
  formed = formed;
}

-- what is said of the values of variables before n
pub steady_values : (P : List ℤ → Type 0) (n : ℕ) (xs : List ℕ) → Below n xs → IsSteady n (λ b. P (map (at b) xs))
steady_values P n xs h a d len =
    let same = map_at_front a d xs (below_longer n (length a) xs (omega (arith, len)) h) in
    (λ p. subst P same p, λ p. subst P (sym same) p)

-- what comes behind does not change a term's number
pub num_front : (a d : List ℤ) (t : Term) → Before (length a) t → num (a ++ d) t ≡ num a t
num_front a d (Int z) h = number-Int (a ++ d) z ∙ sym (number-Int a z)
num_front a d (Truth t) h = number-Bool (a ++ d) t ∙ sym (number-Bool a t)
num_front a d (Var k) h = number-Var (a ++ d) k ∙ at_front a d k h ∙ sym (number-Var a k)

pub nums_front : (a d : List ℤ) (n : ℕ) (ts : List Term) → length a ≡ n → AllBefore n ts → map (num (a ++ d)) ts ≡ map (num a) ts
nums_front a d n [] len h = refl
nums_front a d n (t ∷ ts) len h = ap₂ (λ (z : ℤ) (zs : List ℤ). z ∷ zs) (num_front a d t (subst (λ (m : ℕ). Before m t) (sym len) h.0)) (nums_front a d n ts len h.1)

-- what is said of the numbers of terms before n
pub steady_terms : (P : List ℤ → ℤ → Type 0) (n : ℕ) (ts : List Term) (t : Term) → AllBefore n ts → Before n t → IsSteady n (λ b. P (map (num b) ts) (num b t))
steady_terms P n ts t hs h a d len =
    let all = nums_front a d n ts len hs in
    let one = num_front a d t (subst (λ (m : ℕ). Before m t) (sym len) h) in
    (λ p. subst (λ (zs : List ℤ). P zs (num a t)) all (subst (P (map (num (a ++ d)) ts)) one p), λ p. subst (P (map (num (a ++ d)) ts)) (sym one) (subst (λ (zs : List ℤ). P zs (num a t)) (sym all) p))

-- what is said of the numbers of terms before n
pub steady_numbers : (P : List ℤ → Type 0) (n : ℕ) (ts : List Term) → AllBefore n ts → IsSteady n (λ b. P (map (num b) ts))
steady_numbers P n ts hs a d len = let all = nums_front a d n ts len hs in (λ p. subst P all p, λ p. subst P (sym all) p)
