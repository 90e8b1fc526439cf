-- A growth on its way: what has been appended, and what is still due.
use Rattle.std.specs.Prelude.{Result, Ok, Err, OnErr, ◌≡◌, ℕ, ◌≤◌, List, [], ◌∷◌, ◌++◌, refl}
use Rattle.std.proofs.Common.{ap, sym, ◌∙◌, subst, append_assoc, append-nil}
use Rattle.lo_base.specs.Item.{Item}
use Rattle.lo_base.specs.Emit.{EmitLaws, Begins}

-- something was appended, which with what is due is all
pub record Partway {E : Type 0} (grew : E → E → List Item → Type 0) (old now : E) (due all : List Item) : Type 0 where
  pub done : List Item
  pub whole : done ++ due ≡ all
  pub held : grew old now done

module _ {E : Type 0} {named count faults : E → ℕ} {grew began : E → E → List Item → Type 0} (laws : EmitLaws named count faults grew began) where
  pub starts : (e : E) (all : List Item) → Partway grew e e all all
  starts e all = record { done = []; whole = refl; held = laws.nothing e }

  pub goes_on : {a b c : E} {due all : List Item} (xs due' : List Item) → Partway grew a b due all → due ≡ xs ++ due' → grew b c xs → Partway grew a c due' all
  goes_on {a} {b} {c} {due} {all} xs due' p e g = record {
    done = p.done ++ xs;
    whole = append_assoc p.done xs due' ∙ ap (λ zs. p.done ++ zs) (sym e) ∙ p.whole;
    held = laws.joined a b c p.done xs p.held g;
  }

  pub stops : {a b c : E} {due all : List Item} (xs due' : List Item) → Partway grew a b due all → due ≡ xs ++ due' → began b c xs → began a c all
  stops {a} {b} {c} {due} {all} xs due' p e g =
      let F : List Item → Type 0 = λ zs. began a c zs in
      subst F (append_assoc p.done xs due' ∙ ap (λ zs. p.done ++ zs) (sym e) ∙ p.whole) (laws.longer a c (p.done ++ xs) due' (laws.then_began a b c p.done xs p.held g))

  pub interrupted : {a b : E} {due all : List Item} → Partway grew a b due all → began a b all
  interrupted {a} {b} {due} {all} p =
      let F : List Item → Type 0 = λ zs. began a b zs in
      subst F p.whole (laws.longer a b p.done due (laws.whole a b p.done p.held))

  pub ends : {a b : E} {all : List Item} → Partway grew a b [] all → grew a b all
  ends {a} {b} {all} p =
      let F : List Item → Type 0 = λ zs. grew a b zs in
      subst F (sym (append-nil p.done) ∙ p.whole) p.held

  pub faults_kept : {a b : E} {due all : List Item} → Partway grew a b due all → faults a ≤ faults b
  faults_kept {a} {b} p = laws.began_faults a b p.done (laws.whole a b p.done p.held)

-- a front of a list, and what comes behind it
pub Begins-rest : (xs zs : List Item) → Begins xs zs → (ys : List Item) × (xs ++ ys ≡ zs)
Begins-rest [] zs h = (zs, refl)
Begins-rest (x ∷ xs) [] h = absurd h
Begins-rest (x ∷ xs) (z ∷ zs) h = let r = Begins-rest xs zs h.1 in (r.0, ap (λ y. y ∷ (xs ++ r.0)) h.0 ∙ ap (λ ys. z ∷ ys) r.1)

-- The laws in the form in which a search applies them: what a list is stands in a premise.
module _ {E : Type 0} {named count faults : E → ℕ} {grew began : E → E → List Item → Type 0} (laws : EmitLaws named count faults grew began) where
  pub joined_is : {a b c : E} (xs ys zs : List Item) → grew a b xs → grew b c ys → xs ++ ys ≡ zs → grew a c zs
  joined_is {a} {b} {c} xs ys zs g h e = let F : List Item → Type 0 = λ l. grew a c l in subst F e (laws.joined a b c xs ys g h)

  pub longer_is : {a b : E} (xs zs : List Item) → began a b xs → Begins xs zs → began a b zs
  longer_is {a} {b} xs zs g h = let r = Begins-rest xs zs h in let F : List Item → Type 0 = λ l. began a b l in subst F r.1 (laws.longer a b xs r.0 g)

  pub then_began_is : {a b c : E} (xs ys zs : List Item) → grew a b xs → began b c ys → Begins (xs ++ ys) zs → began a c zs
  then_began_is {a} {b} {c} xs ys zs g k h = longer_is (xs ++ ys) zs (laws.then_began a b c xs ys g k) h

  pub whole_is : {a b : E} (xs zs : List Item) → grew a b xs → Begins xs zs → began a b zs
  whole_is {a} {b} xs zs g h = longer_is xs zs (laws.whole a b xs g) h

-- an error leaves what holds anyway
pub on_err : {T X : Type 0} {P : Type 0} (r : Result T X) → P → OnErr r P
on_err (Ok x) p = tt
on_err (Err e) p = p
