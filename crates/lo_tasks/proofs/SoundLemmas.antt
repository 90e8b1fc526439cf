-- What a well-formed constraint whose magnitude is in order has that its lowering asks for.
use Rattle.std.proofs.Common.{◌≡◌, ℕ, ◌≤◌, Option, List, [], ◌∷◌, length, map, sym, subst, arith}
use Rattle.std.specs.List.{All, AllByRecursion}
use Rattle.std.proofs.lemmas.Int.{ints}
use Rattle.fz_model.specs.Limits.{limit as greatest}
use Rattle.lo_rules.proofs.Pairs.{places_of_all}
use Rattle.lo_tasks.specs.Bounded.{IsBounded}
use Rattle.lo_tasks.proofs.MeasuredLemmas.{ends_within}
use Rattle.xf_num.specs.Span.{Bounds}
use Rattle.xs_model.specs.declared.instance.Constraint.{Constraint}
use Rattle.xs_model.specs.declared.instance.Constraint.TheVariants.{Cumulative}
use Rattle.xs_model.specs.declared.term.Cond.{Cond}
use Rattle.xs_model.specs.declared.term.Term.{Term}
use Rattle.xs_model.specs.declared.term.Term.TheVariants.{Var}
use Rattle.xs_model.specs.Accepted.{IsFormed, IsMeasured}
use Rattle.xs_model.specs.Fields.{Variable, item_of}
use Rattle.xs_model.specs.Formed.{IsFormedItem, total}
use Rattle.xs_model.specs.Magnitude.{item_magnitude}

-- the bounds of the terms are small
pub record AreBounded (ss : List Bounds) (origins : List ℕ) (lengths heights : List Term) : Type 0 where
  pub starts : All (λ start. IsBounded ss (Var start)) origins
  pub long : All (IsBounded ss) lengths
  pub high : All (IsBounded ss) heights

bounded : (ss : List Bounds) (t : Term) → IsFormedItem (length ss) (item_of t) → item_magnitude ss (item_of t) ≤ greatest → IsBounded ss t
bounded ss t h le =
    let e = ends_within ss t in
    let from = e.0 in
    let to = e.1 in
    record { inside = h; small = record { from = omega (arith, ints, from, le); to = omega (arith, ints, to, le) } }

bounded_terms : (ss : List Bounds) (ts : List Term) → AllByRecursion (IsFormedItem (length ss)) (map item_of ts) → total (map (item_magnitude ss) (map item_of ts)) ≤ greatest → AllByRecursion (IsBounded ss) ts
bounded_terms ss [] h le = tt
bounded_terms ss (t ∷ ts) h le = (bounded ss t h.0 (omega (arith, le)), bounded_terms ss ts h.1 (omega (arith, le)))

bounded_starts : (ss : List Bounds) (vs : List ℕ) → AllByRecursion (IsFormedItem (length ss)) (map Variable vs) → total (map (item_magnitude ss) (map Variable vs)) ≤ greatest → AllByRecursion (λ start. IsBounded ss (Var start)) vs
bounded_starts ss [] h le = tt
bounded_starts ss (v ∷ vs) h le = (bounded ss (Var v) h.0 (omega (arith, le)), bounded_starts ss vs h.1 (omega (arith, le)))

terms_bounded : (ss : List Bounds) (origins : List ℕ) (lengths heights : List Term) (ends : Option (List ℕ)) (cond : Cond) → IsFormed (length ss) (Cumulative origins lengths heights ends cond)
    → IsMeasured ss (Cumulative origins lengths heights ends cond) → AreBounded ss origins lengths heights
terms_bounded ss origins lengths heights ends cond formed measured =
    let f = formed.fields in
    record {
      starts = places_of_all (λ start. IsBounded ss (Var start)) origins (bounded_starts ss origins f.0 (omega (arith, measured)));
      long = places_of_all (IsBounded ss) lengths (bounded_terms ss lengths f.1.0 (omega (arith, measured)));
      high = places_of_all (IsBounded ss) heights (bounded_terms ss heights f.1.1.0 (omega (arith, measured)));
    }

-- the same of a constraint that is so, and of lists that are its own
pub bounded_at : (ss : List Bounds) (c : Constraint) (origins : List ℕ) (lengths heights : List Term) (ends : Option (List ℕ)) (cond : Cond) (os : List ℕ) (ls hs : List Term) → c ≡ Cumulative origins lengths heights ends cond
    → os ≡ origins → ls ≡ lengths → hs ≡ heights → IsFormed (length ss) c → IsMeasured ss c → AreBounded ss os ls hs
bounded_at ss c origins lengths heights ends cond os ls hs is e f g formed measured =
    let r = terms_bounded ss origins lengths heights ends cond (subst (IsFormed (length ss)) is formed) (subst (IsMeasured ss) is measured) in
    subst (λ (xs : List ℕ). AreBounded ss xs ls hs) (sym e) (subst (λ (xs : List Term). AreBounded ss origins xs hs) (sym f) (subst (λ (xs : List Term). AreBounded ss origins lengths xs) (sym g) r))
