-- The root and the leaf of a diagram, found by flags, and what they are.
use Rattle.std.proofs.Common.{◌≡◌, ℕ, ◌<◌, ◌⊎◌, inl, inr, Bool, true, false, ◌&&◌, ◌||◌, nat_eq, if◌then◌else◌, List, [], ◌∷◌, length, map, set, Option, None, Some, refl, ap, sym, ◌∙◌}
use Rattle.std.specs.Prelude.{filter, not}
use Rattle.std.specs.List.{AllByRecursion, list_all}
use Rattle.std.proofs.lemmas.Bool.{true≢false, eqb-true, eq-eqb, and_from}
use Rattle.xs_automata.specs.Ends.{is_source, is_target, leaf_of, only_of, root_of}
use Rattle.xs_automata.proofs.FlagLemmas.{flag_set}
use Rattle.xs_laws.proofs.Somes.{any_from_some, some_from_any, some_map}
use Rattle.xs_model.specs.Fitting.{IsOnly, IsSource, IsTarget, ends_of}
use Rattle.xs_model.specs.Lists.{SomeOf}
use Rattle.xs_model.specs.declared.instance.Edge.{Edge}
use Rattle.xs_paths.specs.Flags.{flag}

-- the one state of some that were met, if any, and of a list
abbrev pub only_with : Option ℕ → List ℕ → Option ℕ
only_with None qs = only_of qs
only_with (Some q) qs = if list_all (nat_eq q) qs then Some q else None

-- one flag more
pub marked_more : (fs new : List Bool) (p : ℕ) (rest all : ℕ → Bool) (test : ℕ → Bool) → p < length fs → new ≡ set fs p true → ((q : ℕ) → test q ≡ (nat_eq p q || rest q)) → ((q : ℕ) → (flag fs q || test q) ≡ all q) → (q : ℕ) → (flag new q || rest q) ≡ all q
marked_more fs new p rest all test lt is more so_far q =
    ap (λ bs. flag bs q || rest q) is ∙ ap (λ b. b || rest q) (flag_set fs p q lt) ∙ moved (nat_eq p q) (flag fs q) (rest q) ∙ ap (λ b. flag fs q || b) (sym (more q)) ∙ so_far q
  where
    moved : (a b c : Bool) → ((a || b) || c) ≡ (b || (a || c))
    moved true true c = refl
    moved true false c = refl
    moved false true c = refl
    moved false false c = refl

pub filter_same : (f g : ℕ → Bool) → ((q : ℕ) → f q ≡ g q) → (qs : List ℕ) → filter (λ q. not (f q)) qs ≡ filter (λ q. not (g q)) qs
filter_same f g h [] = refl
filter_same f g h (q ∷ qs) = by (filter_same f g h qs) (f q) (g q) (h q)
  where
    by : filter (λ p. not (f p)) qs ≡ filter (λ p. not (g p)) qs → (v w : Bool) → v ≡ w → (if not v then q ∷ filter (λ p. not (f p)) qs else filter (λ p. not (f p)) qs) ≡ (if not w then q ∷ filter (λ p. not (g p)) qs else filter (λ p. not (g p)) qs)
    by rest true true e = rest
    by rest true false e = cc
    by rest false true e = cc
    by rest false false e = ap (λ ps. q ∷ ps) rest

-- a target, and a source, by their tests
pub target_is : (edges : List Edge) (q : ℕ) → is_target edges q ≡ true → IsTarget edges q
target_is edges q h = some_map (λ e. nat_eq e.to q ≡ true) (λ e. e.to ≡ q) edges (λ e t. eqb-true e.to q t) (some_from_any (λ e. nat_eq e.to q) edges h)

pub is_a_target : (edges : List Edge) (q : ℕ) → IsTarget edges q → is_target edges q ≡ true
is_a_target edges q h = any_from_some (λ e. nat_eq e.to q) edges (some_map (λ e. e.to ≡ q) (λ e. nat_eq e.to q ≡ true) edges (λ e t. eq-eqb e.to q t) h)

pub source_is : (edges : List Edge) (q : ℕ) → is_source edges q ≡ true → IsSource edges q
source_is edges q h = some_map (λ e. nat_eq e.from q ≡ true) (λ e. e.from ≡ q) edges (λ e t. eqb-true e.from q t) (some_from_any (λ e. nat_eq e.from q) edges h)

pub is_a_source : (edges : List Edge) (q : ℕ) → IsSource edges q → is_source edges q ≡ true
is_a_source edges q h = any_from_some (λ e. nat_eq e.from q) edges (some_map (λ e. e.from ≡ q) (λ e. nat_eq e.from q ≡ true) edges (λ e t. eq-eqb e.from q t) h)

-- the one state of a list
all_equal : (q r : ℕ) (xs : List ℕ) → r ≡ q → list_all (nat_eq r) xs ≡ true → AllByRecursion (λ x. x ≡ q) xs
all_equal q r [] e g = tt
all_equal q r (x ∷ xs) e g = on (λ a. all_equal q r xs e a) (nat_eq r x) refl g
  where
    on : (list_all (nat_eq r) xs ≡ true → AllByRecursion (λ y. y ≡ q) xs) → (v : Bool) → nat_eq r x ≡ v → (v && list_all (nat_eq r) xs) ≡ true → (x ≡ q) × AllByRecursion (λ y. y ≡ q) xs
    on rest true t a = (sym (eqb-true r x t) ∙ e, rest a)
    on rest false t a = cc

only_found : (qs : List ℕ) (q : ℕ) → only_of qs ≡ Some q → SomeOf (λ p. p ≡ q) qs × AllByRecursion (λ p. p ≡ q) qs
only_found [] q h = cc
only_found (p ∷ ps) q h = by (list_all (nat_eq p) ps) refl h
  where
    by : (v : Bool) → list_all (nat_eq p) ps ≡ v → (if v then Some p else None) ≡ Some q → SomeOf (λ x. x ≡ q) (p ∷ ps) × AllByRecursion (λ x. x ≡ q) (p ∷ ps)
    by true e g = let same : p ≡ q = cc in (inl same, (same, all_equal q p ps same e))
    by false e g = cc

equal_all : (p q : ℕ) (xs : List ℕ) → p ≡ q → AllByRecursion (λ x. x ≡ q) xs → list_all (nat_eq p) xs ≡ true
equal_all p q [] e h = refl
equal_all p q (x ∷ xs) e h = and_from (nat_eq p x) (list_all (nat_eq p) xs) (eq-eqb p x (e ∙ sym h.0)) (equal_all p q xs e h.1)

only_is : (qs : List ℕ) (q : ℕ) → SomeOf (λ p. p ≡ q) qs → AllByRecursion (λ p. p ≡ q) qs → only_of qs ≡ Some q
only_is [] q s a = absurd s
only_is (p ∷ ps) q s a = ap (λ (v : Bool). if v then Some p else None) (equal_all p q ps a.0 a.1) ∙ ap (λ x. Some x) a.0

-- what a filter keeps
module _ (test : ℕ → Bool) where
  kept_some : (q : ℕ) (qs : List ℕ) → SomeOf (λ p. p ≡ q) (filter test qs) → SomeOf (λ p. p ≡ q) qs × (test q ≡ true)
  kept_some q [] h = absurd h
  kept_some q (p ∷ ps) h = by (λ s. let r = kept_some q ps s in (inr r.0, r.1)) (test p) refl h
    where
      by : (SomeOf (λ x. x ≡ q) (filter test ps) → SomeOf (λ x. x ≡ q) (p ∷ ps) × (test q ≡ true)) → (v : Bool) → test p ≡ v → SomeOf (λ x. x ≡ q) (if v then p ∷ filter test ps else filter test ps)
          → SomeOf (λ x. x ≡ q) (p ∷ ps) × (test q ≡ true)
      by rest true e (inl s) = (inl s, ap test (sym s) ∙ e)
      by rest true e (inr s) = rest s
      by rest false e s = rest s

  some_kept : (q : ℕ) (qs : List ℕ) → test q ≡ true → SomeOf (λ p. p ≡ q) qs → SomeOf (λ p. p ≡ q) (filter test qs)
  some_kept q [] t h = h
  some_kept q (p ∷ ps) t h = by (λ s. some_kept q ps t s) (test p) refl h
    where
      by : (SomeOf (λ x. x ≡ q) ps → SomeOf (λ x. x ≡ q) (filter test ps)) → (v : Bool) → test p ≡ v → SomeOf (λ x. x ≡ q) (p ∷ ps) → SomeOf (λ x. x ≡ q) (if v then p ∷ filter test ps else filter test ps)
      by rest true e (inl s) = inl s
      by rest true e (inr s) = inr (rest s)
      by rest false e (inl s) = absurd (true≢false (sym t ∙ ap test (sym s) ∙ e))
      by rest false e (inr s) = rest s

  kept_all : (q : ℕ) (qs : List ℕ) → AllByRecursion (λ p. p ≡ q) (filter test qs) → AllByRecursion (λ p. test p ≡ true → p ≡ q) qs
  kept_all q [] h = tt
  kept_all q (p ∷ ps) h = by (λ a. kept_all q ps a) (test p) refl h
    where
      by : (AllByRecursion (λ x. x ≡ q) (filter test ps) → AllByRecursion (λ x. test x ≡ true → x ≡ q) ps) → (v : Bool) → test p ≡ v → AllByRecursion (λ x. x ≡ q) (if v then p ∷ filter test ps else filter test ps)
          → AllByRecursion (λ x. test x ≡ true → x ≡ q) (p ∷ ps)
      by rest true e a = (λ t. a.0, rest a.1)
      by rest false e a = (λ t. absurd (true≢false (sym t ∙ e)), rest a)

  all_kept : (q : ℕ) (qs : List ℕ) → AllByRecursion (λ p. test p ≡ true → p ≡ q) qs → AllByRecursion (λ p. p ≡ q) (filter test qs)
  all_kept q [] h = tt
  all_kept q (p ∷ ps) h = by (all_kept q ps h.1) (test p) refl
    where
      by : AllByRecursion (λ x. x ≡ q) (filter test ps) → (v : Bool) → test p ≡ v → AllByRecursion (λ x. x ≡ q) (if v then p ∷ filter test ps else filter test ps)
      by rest true e = (h.0 e, rest)
      by rest false e = rest

-- the states of transitions: where they lead from, and where they lead to
module _ (P : ℕ → Type 0) where
  ends_all : (es : List Edge) → AllByRecursion P (map (λ e. e.from) es) → AllByRecursion P (map (λ e. e.to) es) → AllByRecursion P (ends_of es)
  ends_all [] f t = tt
  ends_all (e ∷ es) f t = (f.0, (t.0, ends_all es f.1 t.1))

  from_all : (es : List Edge) → AllByRecursion P (ends_of es) → AllByRecursion P (map (λ e. e.from) es)
  from_all [] h = tt
  from_all (e ∷ es) h = (h.0, from_all es h.1.1)

  to_all : (es : List Edge) → AllByRecursion P (ends_of es) → AllByRecursion P (map (λ e. e.to) es)
  to_all [] h = tt
  to_all (e ∷ es) h = (h.1.0, to_all es h.1.1)

  targets_all : (es : List Edge) → ((q : ℕ) → IsTarget es q → P q) → AllByRecursion P (map (λ e. e.to) es)
  targets_all [] f = tt
  targets_all (e ∷ es) f = (f e.to (inl refl), targets_all es (λ q s. f q (inr s)))

  sources_all : (es : List Edge) → ((q : ℕ) → IsSource es q → P q) → AllByRecursion P (map (λ e. e.from) es)
  sources_all [] f = tt
  sources_all (e ∷ es) f = (f e.from (inl refl), sources_all es (λ q s. f q (inr s)))

  some_from : (es : List Edge) → SomeOf P (map (λ e. e.from) es) → SomeOf P (ends_of es)
  some_from [] h = h
  some_from (e ∷ es) (inl h) = inl h
  some_from (e ∷ es) (inr h) = inr (inr (some_from es h))

  some_to : (es : List Edge) → SomeOf P (map (λ e. e.to) es) → SomeOf P (ends_of es)
  some_to [] h = h
  some_to (e ∷ es) (inl h) = inr (inl h)
  some_to (e ∷ es) (inr h) = inr (inr (some_to es h))

  from_or_to : (es : List Edge) → SomeOf P (ends_of es) → SomeOf P (map (λ e. e.from) es) ⊎ SomeOf P (map (λ e. e.to) es)
  from_or_to [] h = inl h
  from_or_to (e ∷ es) (inl h) = inl (inl h)
  from_or_to (e ∷ es) (inr (inl h)) = inr (inl h)
  from_or_to (e ∷ es) (inr (inr h)) = elim (from_or_to es h) [ inl s ↦ inl (inr s) | inr s ↦ inr (inr s) ]

target_some : (es : List Edge) (q : ℕ) → SomeOf (λ p. p ≡ q) (map (λ e. e.to) es) → IsTarget es q
target_some [] q h = h
target_some (e ∷ es) q (inl h) = inl h
target_some (e ∷ es) q (inr h) = inr (target_some es q h)

source_some : (es : List Edge) (q : ℕ) → SomeOf (λ p. p ≡ q) (map (λ e. e.from) es) → IsSource es q
source_some [] q h = h
source_some (e ∷ es) q (inl h) = inl h
source_some (e ∷ es) q (inr h) = inr (source_some es q h)

all_as : (P Q : ℕ → Type 0) → ((q : ℕ) → P q → Q q) → (qs : List ℕ) → AllByRecursion P qs → AllByRecursion Q qs
all_as P Q f [] h = tt
all_as P Q f (q ∷ qs) h = (f q h.0, all_as P Q f qs h.1)

not_false : (b : Bool) → b ≡ false → not b ≡ true
not_false true h = cc
not_false false h = refl

not_true : (b : Bool) → not b ≡ true → b ≡ false
not_true true h = cc
not_true false h = refl

none_is : (b : Bool) (P : Type 0) → (b ≡ true → P) → ¬ P → b ≡ false
none_is true P f n = absurd (n (f refl))
none_is false P f n = refl

module _ (edges : List Edge) (q : ℕ) where
  unreached : (p : ℕ) → ¬ (IsTarget edges p) → not (is_target edges p) ≡ true
  unreached p h = not_false (is_target edges p) (none_is (is_target edges p) (IsTarget edges p) (target_is edges p) h)

  unleft : (p : ℕ) → ¬ (IsSource edges p) → not (is_source edges p) ≡ true
  unleft p h = not_false (is_source edges p) (none_is (is_source edges p) (IsSource edges p) (source_is edges p) h)

  pub root_only : root_of edges ≡ Some q → IsOnly edges (λ p. ¬ (IsTarget edges p)) q
  root_only h =
      let r = only_found (filter (λ p. not (is_target edges p)) (map (λ e. e.from) edges)) q h in
      let s = kept_some (λ p. not (is_target edges p)) q (map (λ e. e.from) edges) r.0 in
      record {
        state = some_from (λ p. p ≡ q) edges s.0;
        is = λ t. true≢false (sym (is_a_target edges q t) ∙ not_true (is_target edges q) s.1);
        only =
            ends_all (λ p. ¬ (IsTarget edges p) → p ≡ q) edges
            (all_as (λ p. not (is_target edges p) ≡ true → p ≡ q) (λ p. ¬ (IsTarget edges p) → p ≡ q) (λ p f n. f (unreached p n)) (map (λ e. e.from) edges)
            (kept_all (λ p. not (is_target edges p)) q (map (λ e. e.from) edges) r.1))
            (targets_all (λ p. ¬ (IsTarget edges p) → p ≡ q) edges (λ p t n. absurd (n t)));
      }

  pub leaf_only : leaf_of edges ≡ Some q → IsOnly edges (λ p. ¬ (IsSource edges p)) q
  leaf_only h =
      let r = only_found (filter (λ p. not (is_source edges p)) (map (λ e. e.to) edges)) q h in
      let s = kept_some (λ p. not (is_source edges p)) q (map (λ e. e.to) edges) r.0 in
      record {
        state = some_to (λ p. p ≡ q) edges s.0;
        is = λ t. true≢false (sym (is_a_source edges q t) ∙ not_true (is_source edges q) s.1);
        only =
            ends_all (λ p. ¬ (IsSource edges p) → p ≡ q) edges
            (sources_all (λ p. ¬ (IsSource edges p) → p ≡ q) edges (λ p t n. absurd (n t)))
            (all_as (λ p. not (is_source edges p) ≡ true → p ≡ q) (λ p. ¬ (IsSource edges p) → p ≡ q) (λ p f n. f (unleft p n)) (map (λ e. e.to) edges)
            (kept_all (λ p. not (is_source edges p)) q (map (λ e. e.to) edges) r.1));
      }

  -- the same the other way
  pub only_root : IsOnly edges (λ p. ¬ (IsTarget edges p)) q → root_of edges ≡ Some q
  only_root h =
      only_is (filter (λ p. not (is_target edges p)) (map (λ e. e.from) edges)) q
      (some_kept (λ p. not (is_target edges p)) q (map (λ e. e.from) edges) (unreached q h.is)
      (elim (from_or_to (λ p. p ≡ q) edges h.state) [ inl s ↦ s | inr s ↦ absurd (h.is (target_some edges q s)) ]))
      (all_kept (λ p. not (is_target edges p)) q (map (λ e. e.from) edges)
      (all_as (λ p. ¬ (IsTarget edges p) → p ≡ q) (λ p. not (is_target edges p) ≡ true → p ≡ q) (λ p f n. f (λ t. true≢false (sym (is_a_target edges p t) ∙ not_true (is_target edges p) n))) (map (λ e. e.from) edges)
      (from_all (λ p. ¬ (IsTarget edges p) → p ≡ q) edges h.only)))

  pub only_leaf : IsOnly edges (λ p. ¬ (IsSource edges p)) q → leaf_of edges ≡ Some q
  only_leaf h =
      only_is (filter (λ p. not (is_source edges p)) (map (λ e. e.to) edges)) q
      (some_kept (λ p. not (is_source edges p)) q (map (λ e. e.to) edges) (unleft q h.is)
      (elim (from_or_to (λ p. p ≡ q) edges h.state) [ inl s ↦ absurd (h.is (source_some edges q s)) | inr s ↦ s ]))
      (all_kept (λ p. not (is_source edges p)) q (map (λ e. e.to) edges)
      (all_as (λ p. ¬ (IsSource edges p) → p ≡ q) (λ p. not (is_source edges p) ≡ true → p ≡ q) (λ p f n. f (λ t. true≢false (sym (is_a_source edges p t) ∙ not_true (is_source edges p) n))) (map (λ e. e.to) edges)
      (to_all (λ p. ¬ (IsSource edges p) → p ≡ q) edges h.only)))
