-- What it means that a kept list of items grew.
use Rattle.std.specs.Prelude.{◌≡◌, ℕ, ◌+◌, ◌-◌, pos, true, false, List, [], ◌∷◌, ◌++◌, length, refl}
use Rattle.std.proofs.Common.{arith, ap, sym, ◌∙◌, append_assoc, append-nil, length-append}
use Rattle.lo_base.specs.declared.held.Held.{Held}
use Rattle.lo_base.specs.Item.{Item, Ranged, Boolean, Posted, made}
use Rattle.lo_base.specs.Lowered.{auxiliary, vars_of, calls_of}
use Rattle.lo_base.specs.Emit.{EmitLaws}

-- how many auxiliaries were made
abbrev pub auxiliaries : Held → ℕ
auxiliaries h = length h.vars - h.named

-- exactly these items were appended
pub record HeldGrew (old new : Held) (xs : List Item) : Type 0 where
  pub same_named : new.named ≡ old.named
  pub vars : new.vars ≡ old.vars ++ vars_of (auxiliaries old) xs
  pub calls : new.calls ≡ old.calls ++ calls_of xs

-- some front of the items was appended
pub record HeldBegan (old new : Held) (xs : List Item) : Type 0 where
  pub front : List Item
  pub rest : List Item
  pub all : front ++ rest ≡ xs
  pub grew : HeldGrew old new front

vars_of_at : (j k : ℕ) (xs : List Item) → j ≡ k → vars_of j xs ≡ vars_of k xs
vars_of_at j k xs e = ap (λ n. vars_of n xs) e

pub vars_of-append : (k : ℕ) (xs ys : List Item) → vars_of k (xs ++ ys) ≡ vars_of k xs ++ vars_of (k + made xs) ys
vars_of-append k [] ys = vars_of_at k (k + 0) ys (omega arith)
vars_of-append k (Ranged lo hi ∷ xs) ys =
    ap (λ vs. auxiliary k false (record { lo = lo; hi = hi }) ∷ vs)
    (vars_of-append (k + 1) xs ys ∙ ap (λ vs. vars_of (k + 1) xs ++ vs) (vars_of_at (k + 1 + made xs) (k + (1 + made xs)) ys (omega arith)))
vars_of-append k (Boolean ∷ xs) ys =
    ap (λ vs. auxiliary k true (record { lo = pos 0; hi = pos 1 }) ∷ vs)
    (vars_of-append (k + 1) xs ys ∙ ap (λ vs. vars_of (k + 1) xs ++ vs) (vars_of_at (k + 1 + made xs) (k + (1 + made xs)) ys (omega arith)))
vars_of-append k (Posted call ∷ xs) ys = vars_of-append k xs ys ∙ ap (λ vs. vars_of k xs ++ vs) (vars_of_at (k + made xs) (k + (0 + made xs)) ys (omega arith))

pub calls_of-append : (xs ys : List Item) → calls_of (xs ++ ys) ≡ calls_of xs ++ calls_of ys
calls_of-append [] ys = refl
calls_of-append (Ranged lo hi ∷ xs) ys = calls_of-append xs ys
calls_of-append (Boolean ∷ xs) ys = calls_of-append xs ys
calls_of-append (Posted call ∷ xs) ys = ap (λ cs. call ∷ cs) (calls_of-append xs ys)

pub length-vars_of : (k : ℕ) (xs : List Item) → length (vars_of k xs) ≡ made xs
length-vars_of k [] = refl
length-vars_of k (Ranged lo hi ∷ xs) = omega (arith, length-vars_of (k + 1) xs)
length-vars_of k (Boolean ∷ xs) = omega (arith, length-vars_of (k + 1) xs)
length-vars_of k (Posted call ∷ xs) = omega (arith, length-vars_of k xs)

pub grew_count : (a b : Held) (xs : List Item) → HeldGrew a b xs → length b.vars ≡ length a.vars + made xs
grew_count a b xs g =
    ap length g.vars ∙ length-append a.vars (vars_of (auxiliaries a) xs) ∙ ap (λ n. length a.vars + n) (length-vars_of (auxiliaries a) xs)

grew_auxiliaries : (a b : Held) (xs : List Item) → HeldGrew a b xs → auxiliaries b ≡ auxiliaries a + made xs
grew_auxiliaries a b xs g = omega (arith, grew_count a b xs g, g.same_named, a.enough)

pub joined : (a b c : Held) (xs ys : List Item) → HeldGrew a b xs → HeldGrew b c ys → HeldGrew a c (xs ++ ys)
joined a b c xs ys g h =
    let k = auxiliaries a in
    record {
      same_named = h.same_named ∙ g.same_named;
      vars =
          h.vars ∙ ap (λ vs. vs ++ vars_of (auxiliaries b) ys) g.vars ∙ append_assoc a.vars (vars_of k xs) (vars_of (auxiliaries b) ys)
          ∙ ap (λ vs. a.vars ++ (vars_of k xs ++ vs)) (vars_of_at (auxiliaries b) (k + made xs) ys (grew_auxiliaries a b xs g))
          ∙ ap (λ vs. a.vars ++ vs) (sym (vars_of-append k xs ys));
      calls = h.calls ∙ ap (λ cs. cs ++ calls_of ys) g.calls ∙ append_assoc a.calls (calls_of xs) (calls_of ys) ∙ ap (λ cs. a.calls ++ cs) (sym (calls_of-append xs ys));
    }

pub held_laws : EmitLaws (λ (h : Held). h.named) (λ h. length h.vars) (λ h. 0) HeldGrew HeldBegan
held_laws = record {
  enough = λ e. e.enough;
  nothing = λ e. record { same_named = refl; vars = sym (append-nil e.vars); calls = sym (append-nil e.calls) };
  joined = joined;
  then_began = λ a b c xs ys g h. record { front = xs ++ h.front; rest = h.rest; all = append_assoc xs h.front h.rest ∙ ap (λ zs. xs ++ zs) h.all; grew = joined a b c xs h.front g h.grew };
  longer = λ a b xs ys g. record { front = g.front; rest = g.rest ++ ys; all = sym (append_assoc g.front g.rest ys) ∙ ap (λ zs. zs ++ ys) g.all; grew = g.grew };
  whole = λ a b xs g. record { front = xs; rest = []; all = append-nil xs; grew = g };
  grew_count = grew_count;
  began_count = λ a b xs g. omega (arith, grew_count a b g.front g.grew);
  began_named = λ a b xs g. g.grew.same_named;
  began_faults = λ a b xs g. omega arith;
}
