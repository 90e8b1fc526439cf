-- Well-formed items: in a row, behind a term, and in loops.
use Rattle.std.proofs.Common.{◌≡◌, ℕ, ◌+◌, ◌≤◌, Bool, List, [], ◌∷◌, ◌++◌, length, refl, ap, sym, ◌∙◌, subst, arith}
use Rattle.std.specs.List.{AllByRecursion}
use Rattle.std.proofs.lemmas.List.{append_assoc, append-nil, length-append}
use Rattle.lo_base.specs.Formed.{kinds_of, AreFormed, Keeps}
use Rattle.lo_base.specs.Item.{Item, made}
use Rattle.lo_base.proofs.Formed.{formed_join, kinds_of-append, length-kinds_of, keeps_behind, keeps_through}
use Rattle.lo_emit.specs.declared.term.Term.{Term}
use Rattle.lo_emit.specs.Emitted.{Out, Outs, after, after_all, standing}
use Rattle.lo_emit.specs.Loops.{for_all, each, for_pairs, Step, in_turn, paired}
use Rattle.lo_rules.specs.Formed.{IsInteger, IsLogic, Makes, MakesAll}
use Rattle.lo_rules.proofs.Making.{integer_more, logic_more}

-- as many variables as kinds
pub kinds_behind : (bs : List Bool) (n : ℕ) (xs : List Item) → length bs ≡ n → length (bs ++ kinds_of xs) ≡ n + made xs
kinds_behind bs n xs here = length-append bs (kinds_of xs) ∙ ap (λ k. k + length (kinds_of xs)) here ∙ ap (λ k. n + k) (length-kinds_of xs)

pub kinds_in_a_row : (bs : List Bool) (xs ys : List Item) → (bs ++ kinds_of xs) ++ kinds_of ys ≡ bs ++ kinds_of (xs ++ ys)
kinds_in_a_row bs xs ys = append_assoc bs (kinds_of xs) (kinds_of ys) ∙ ap (λ (ks : List Bool). bs ++ ks) (sym (kinds_of-append xs ys))

-- a kind of terms that more variables before do not change
abbrev pub Stays : (List Bool → Term → Type 0) → Type 0
Stays IsKind = (bs cs : List Bool) (t : Term) → Keeps bs cs → IsKind bs t → IsKind cs t

pub integers_stay : Stays IsInteger
integers_stay bs cs t keeps h = integer_more bs cs keeps t h

pub logics_stay : Stays IsLogic
logics_stay bs cs t keeps h = logic_more bs cs keeps t h

pub all_stay : (IsKind : List Bool → Term → Type 0) → Stays IsKind → (bs cs : List Bool) (ts : List Term) → Keeps bs cs → AllByRecursion (IsKind bs) ts → AllByRecursion (IsKind cs) ts
all_stay IsKind stays bs cs [] keeps h = tt
all_stay IsKind stays bs cs (t ∷ ts) keeps h = (stays bs cs t keeps h.0, all_stay IsKind stays bs cs ts keeps h.1)

-- what stands already
pub makes_standing : (IsKind : List Bool → Term → Type 0) → Stays IsKind → (bs : List Bool) (t : Term) → IsKind bs t → Makes IsKind bs (standing t)
makes_standing IsKind stays bs t h = record { formed = tt; term = stays bs (bs ++ []) t (keeps_behind bs []) h }

module _ (IsKind IsOther : List Bool → Term → Type 0) (bs : List Bool) (n : ℕ) where
  -- what comes behind a term, and behind the terms of a loop
  pub makes_behind : (c : Out) (f : ℕ → Term → Out) → Makes IsKind bs c → Makes IsOther (bs ++ kinds_of c.items) (f (n + made c.items) c.term) → Makes IsOther bs (after n c f)
  makes_behind c f first second =
      let e : Out = f (n + made c.items) c.term in
      record { formed = formed_join bs c.items e.items first.formed second.formed; term = subst (λ (ks : List Bool). IsOther ks e.term) (kinds_in_a_row bs c.items e.items) second.term }

  pub makes_behind_all : (c : Outs) (f : ℕ → List Term → Out) → MakesAll IsKind bs c → Makes IsOther (bs ++ kinds_of c.items) (f (n + made c.items) c.terms) → Makes IsOther bs (after_all n c f)
  makes_behind_all c f first second =
      let e : Out = f (n + made c.items) c.terms in
      record { formed = formed_join bs c.items e.items first.formed second.formed; term = subst (λ (ks : List Bool). IsOther ks e.term) (kinds_in_a_row bs c.items e.items) second.term }

-- Loops: base has the kinds of the variables before the loop, by which Q says what a member is.
module _ (base : List Bool) {X : Type 0} (Q : X → Type 0) where
  pub formed_for_all : (f : ℕ → X → List Item) → ((n : ℕ) (bs : List Bool) (x : X) → length bs ≡ n → Keeps base bs → Q x → AreFormed bs (f n x)) → (n : ℕ) (bs : List Bool) (xs : List X) → length bs ≡ n → Keeps base bs → AllByRecursion Q xs
      → AreFormed bs (for_all f n xs)
  formed_for_all f one n bs [] here keeps q = tt
  formed_for_all f one n bs (x ∷ xs) here keeps q =
      let k : ℕ = n + made (f n x) in
      let cs : List Bool = bs ++ kinds_of (f n x) in
      formed_join bs (f n x) (for_all f k xs) (one n bs x here keeps q.0) (formed_for_all f one k cs xs (kinds_behind bs n (f n x) here) (keeps_through base bs cs keeps (keeps_behind bs (kinds_of (f n x)))) q.1)

  pub formed_each : (IsKind : List Bool → Term → Type 0) → Stays IsKind → (f : ℕ → X → Out) → ((n : ℕ) (bs : List Bool) (x : X) → length bs ≡ n → Keeps base bs → Q x → Makes IsKind bs (f n x)) → (n : ℕ) (bs : List Bool) (xs : List X)
      → length bs ≡ n → Keeps base bs → AllByRecursion Q xs → MakesAll IsKind bs (each f n xs)
  formed_each IsKind stays f one n bs [] here keeps q = record { formed = tt; terms = tt }
  formed_each IsKind stays f one n bs (x ∷ xs) here keeps q =
      let c : Out = f n x in
      let k : ℕ = n + made c.items in
      let cs : List Bool = bs ++ kinds_of c.items in
      let first = one n bs x here keeps q.0 in
      let rest = formed_each IsKind stays f one k cs xs (kinds_behind bs n c.items here) (keeps_through base bs cs keeps (keeps_behind bs (kinds_of c.items))) q.1 in
      let es : Outs = each f k xs in
      let row : cs ++ kinds_of es.items ≡ bs ++ kinds_of (c.items ++ es.items) = kinds_in_a_row bs c.items es.items in
      record {
        formed = formed_join bs c.items es.items first.formed rest.formed;
        terms = (subst (λ (ks : List Bool). IsKind ks c.term) row (stays cs (cs ++ kinds_of es.items) c.term (keeps_behind cs (kinds_of es.items)) first.term), subst (λ (ks : List Bool). AllByRecursion (IsKind ks) es.terms) row rest.terms);
      }

  pub formed_for_pairs : (f : ℕ → X → X → List Item) → ((n : ℕ) (bs : List Bool) (x y : X) → length bs ≡ n → Keeps base bs → Q x → Q y → AreFormed bs (f n x y)) → (n : ℕ) (bs : List Bool) (xs : List X) → length bs ≡ n
      → Keeps base bs → AllByRecursion Q xs → AreFormed bs (for_pairs f n xs)
  formed_for_pairs f one n bs [] here keeps q = tt
  formed_for_pairs f one n bs (x ∷ xs) here keeps q =
      let first : List Item = for_all (λ m y. f m x y) n xs in
      let k : ℕ = n + made first in
      let cs : List Bool = bs ++ kinds_of first in
      formed_join bs first (for_pairs f k xs) (formed_for_all (λ m y. f m x y) (λ m ds y long stays qy. one m ds x y long stays q.0 qy) n bs xs here keeps q.1)
      (formed_for_pairs f one k cs xs (kinds_behind bs n first here) (keeps_through base bs cs keeps (keeps_behind bs (kinds_of first))) q.1)

  -- a state that goes from one member to the next, of which K says that its terms are of the right kinds
  module _ {S : Type 0} (K : List Bool → S → Type 0) (f : ℕ → S → X → Step S)
      (one : (n : ℕ) (bs : List Bool) (s : S) (x : X) → length bs ≡ n → Keeps base bs → K bs s → Q x → AreFormed bs (f n s x).items × K (bs ++ kinds_of (f n s x).items) (f n s x).state) where
    pub formed_in_turn : (n : ℕ) (bs : List Bool) (s : S) (xs : List X) → length bs ≡ n → Keeps base bs → K bs s → AllByRecursion Q xs
        → AreFormed bs (in_turn f n s xs).items × K (bs ++ kinds_of (in_turn f n s xs).items) (in_turn f n s xs).state
    formed_in_turn n bs s [] here keeps k q = (tt, subst (λ (ks : List Bool). K ks s) (sym (append-nil bs)) k)
    formed_in_turn n bs s (x ∷ xs) here keeps k q =
        let c : Step S = f n s x in
        let m : ℕ = n + made c.items in
        let cs : List Bool = bs ++ kinds_of c.items in
        let r : Step S = in_turn f m c.state xs in
        let first = one n bs s x here keeps k q.0 in
        let rest = formed_in_turn m cs c.state xs (kinds_behind bs n c.items here) (keeps_through base bs cs keeps (keeps_behind bs (kinds_of c.items))) first.1 q.1 in
        (formed_join bs c.items r.items first.0 rest.0, subst (λ (ks : List Bool). K ks r.state) (kinds_in_a_row bs c.items r.items) rest.1)

module _ {X : Type 0} where
  -- terms beside the members for which they stand
  pub paired_kinds : (P : Term → Type 0) (Q : X → Type 0) (ts : List Term) (xs : List X) → AllByRecursion P ts → AllByRecursion Q xs → AllByRecursion (λ (p : Term × X). P p.0 × Q p.1) (paired ts xs)
  paired_kinds P Q [] xs h q = tt
  paired_kinds P Q (t ∷ ts) [] h q = tt
  paired_kinds P Q (t ∷ ts) (x ∷ xs) h q = ((h.0, q.0), paired_kinds P Q ts xs h.1 q.1)
