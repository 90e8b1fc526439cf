-- The fields of a constraint without fault, and products of magnitudes.
use Rattle.std.proofs.Common.{◌≡◌, ℕ, zero, suc, ◌+◌, ◌*◌, ◌<◌, ◌≤◌, List, [], ◌∷◌, ◌++◌, length, map, take, refl, sym, ◌∙◌, ap, arith, Option, None, Some, Ok, Result, IsOk, subst, ◌⊎◌, inl, inr}
use Rattle.std.specs.Prelude.{get_or}
use Rattle.xf_num.specs.Span.{Bounds}
use Rattle.xf_text.specs.declared.fault.Kind.{Kind}
use Rattle.xs_model.specs.declared.instance.Constraint.{Constraint}
use Rattle.xs_model.specs.declared.instance.Constraint.TheVariants.{Intension, Extension, Unary, Regular, Mdd, AllDifferent, DifferentLists, DifferentMatrix, AllEqual, Ordered, Lex, LexMatrix, Sum, Count, NValues, Cardinality, Minimum, Maximum, Element, ElementMatrix, Channel, ChannelTwo, ChannelValue, NoOverlap, Cumulative, Circuit, Instantiation}
use Rattle.xs_model.specs.declared.term.Term.{Term}
use Rattle.xs_model.specs.declared.expr.Expr.{Expr}
use Rattle.xs_model.specs.Accepted.{IsFaultless}
use Rattle.xs_model.specs.Bounds.{bounds}
use Rattle.xs_model.specs.Fields.{Item, Field, Items, Variable, item_of, entry_item, fields_of, optional}
use Rattle.xs_model.specs.Magnitude.{IsBoundedField, AreBounded, item_magnitude, product_magnitudes}
use Rattle.xs_judge.proofs.FieldWeights.{all-both}

bounded_rows : {X : Type 0} (f : X → Item) (ss : List Bounds) (rows : List (List X)) → AreBounded ss (map (λ row. Items (map f row)) rows)
bounded_rows f ss [] = tt
bounded_rows f ss (row ∷ rows) = (tt, bounded_rows f ss rows)

bounded_option : {X : Type 0} (f : X → List Item) (ss : List Bounds) (o : Option X) (fs : List Field) → AreBounded ss fs → AreBounded ss (optional (λ x. Items (f x)) o ++ fs)
bounded_option f ss None fs h = h
bounded_option f ss (Some x) fs h = (tt, h)

ok : {r : Result Bounds Kind} {b : Bounds} → r ≡ Ok b → IsOk r
ok e = subst IsOk (sym e) refl

-- the fields of a constraint whose expression is without fault, if it is one
pub are_bounded : (ss : List Bounds) (c : Constraint) → ((e : Expr) → c ≡ Intension e → IsOk (bounds ss e)) → AreBounded ss (fields_of c)
are_bounded ss (Intension e) h = (h e refl, tt)
are_bounded ss (Extension list tuples positive) h = (tt, bounded_rows entry_item ss tuples)
are_bounded ss (Unary v spans positive) h = (tt, (tt, tt))
are_bounded ss (Regular list edges start finals) h = (tt, (tt, (tt, (tt, tt))))
are_bounded ss (Mdd list edges root leaf) h = (tt, (tt, tt))
are_bounded ss (AllDifferent list except) h = (tt, (tt, tt))
are_bounded ss (DifferentLists lists) h = bounded_rows Variable ss lists
are_bounded ss (DifferentMatrix rows) h = bounded_rows Variable ss rows
are_bounded ss (AllEqual list) h = (tt, tt)
are_bounded ss (Ordered list lengths rel) h = (tt, (tt, tt))
are_bounded ss (Lex lists rel) h = bounded_rows Variable ss lists
are_bounded ss (LexMatrix rows rel) h = bounded_rows Variable ss rows
are_bounded ss (Sum list coeffs cond) h = (tt, (tt, tt))
are_bounded ss (Count list vs cond) h = (tt, (tt, (tt, tt)))
are_bounded ss (NValues list except cond) h = (tt, (tt, (tt, tt)))
are_bounded ss (Cardinality list vs occurs closed) h = (tt, (tt, (tt, tt)))
are_bounded ss (Minimum list cond) h = (tt, (tt, tt))
are_bounded ss (Maximum list cond) h = (tt, (tt, tt))
are_bounded ss (Element list start index cond) h = (tt, (tt, bounded_option (λ t. item_of t ∷ []) ss index _ (tt, tt)))
are_bounded ss (ElementMatrix rows s t row col cond) h = all-both (IsBoundedField ss) _ _ (bounded_rows item_of ss rows) (tt, (tt, (tt, (tt, (tt, tt)))))
are_bounded ss (Channel list start) h = (tt, (tt, tt))
are_bounded ss (ChannelTwo first s second t) h = (tt, (tt, (tt, (tt, tt))))
are_bounded ss (ChannelValue list start v) h = (tt, (tt, (tt, tt)))
are_bounded ss (NoOverlap origins lengths zero_ignored) h = all-both (IsBoundedField ss) _ _ (bounded_rows Variable ss origins) (bounded_rows item_of ss lengths)
are_bounded ss (Cumulative origins lengths heights ends cond) h = (tt, (tt, (tt, bounded_option (λ vs. map Variable vs) ss ends _ (tt, tt))))
are_bounded ss (Circuit list start None) h = (tt, (tt, tt))
are_bounded ss (Circuit list start (Some t)) h = (tt, (tt, (tt, tt)))
are_bounded ss (Instantiation list vs) h = (tt, (tt, tt))

-- a constraint without fault has no expression that is at fault
pub faultless_bounded : (ss : List Bounds) (c : Constraint) → IsFaultless ss c → AreBounded ss (fields_of c)
faultless_bounded ss c h = are_bounded ss c (λ e is. ok (subst (IsFaultless ss) is h).bounded)

-- one product more
product-suc : (ss : List Bounds) (cs : List Term) (vs : List ℕ) (k : ℕ) (d : Term) (e : ℕ) → k < length cs → k < length vs
    → product_magnitudes ss (take (suc k) cs) (take (suc k) vs) ≡ product_magnitudes ss (take k cs) (take k vs) ++ (item_magnitude ss (item_of (get_or cs k d)) * item_magnitude ss (Variable (get_or vs k e))) ∷ []
product-suc ss [] vs k d e h g = absurd (omega (arith, h))
product-suc ss (c ∷ cs) [] k d e h g = absurd (omega (arith, g))
product-suc ss (c ∷ cs) (v ∷ vs) zero d e h g = refl
product-suc ss (c ∷ cs) (v ∷ vs) (suc k) d e h g = ap (λ (ms : List ℕ). (item_magnitude ss (item_of c) * item_magnitude ss (Variable v)) ∷ ms) (product-suc ss cs vs k d e (omega (arith, h)) (omega (arith, g)))

pub product-next : (ss : List Bounds) (cs : List Term) (vs : List ℕ) (k : ℕ) (d : Term) (e : ℕ) → k < length cs → k < length vs
    → product_magnitudes ss (take (k + 1) cs) (take (k + 1) vs) ≡ product_magnitudes ss (take k cs) (take k vs) ++ (item_magnitude ss (item_of (get_or cs k d)) * item_magnitude ss (Variable (get_or vs k e))) ∷ []
product-next ss cs vs k d e h g = let place : k + 1 ≡ suc k = omega arith in ap (λ (n : ℕ). product_magnitudes ss (take n cs) (take n vs)) place ∙ product-suc ss cs vs k d e h g

-- all of them
pub product-all : (ss : List Bounds) (cs : List Term) (vs : List ℕ) (n : ℕ) → (length cs ≤ n) ⊎ (length vs ≤ n) → product_magnitudes ss (take n cs) (take n vs) ≡ product_magnitudes ss cs vs
product-all ss [] vs n h = nil n
  where
    nil : (k : ℕ) → product_magnitudes ss (take k []) (take k vs) ≡ []
    nil zero = refl
    nil (suc k) = refl
product-all ss (c ∷ cs) [] n h = nil n
  where
    nil : (k : ℕ) → product_magnitudes ss (take k (c ∷ cs)) (take k []) ≡ []
    nil zero = refl
    nil (suc k) = refl
product-all ss (c ∷ cs) (v ∷ vs) zero h = elim h [ inl p ↦ absurd (omega (arith, p)) | inr p ↦ absurd (omega (arith, p)) ]
product-all ss (c ∷ cs) (v ∷ vs) (suc n) h = ap (λ (ms : List ℕ). (item_magnitude ss (item_of c) * item_magnitude ss (Variable v)) ∷ ms) (product-all ss cs vs n (elim h [ inl p ↦ inl (omega (arith, p)) | inr p ↦ inr (omega (arith, p)) ]))
