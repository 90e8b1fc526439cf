-- How many cells a table has at most.
use Rattle.std.proofs.Common.{◌≡◌, ℕ, suc, ◌+◌, ◌*◌, ◌<◌, ◌≤◌, ◌^◌, ℤ, Bool, List, [], ◌∷◌, Option, length, map, refl, ap, ap₂, sym, subst, ◌∙◌, arith}
use Rattle.std.proofs.lemmas.List.{length-map}
use Rattle.xs_model.specs.declared.instance.Constraint.{Constraint}
use Rattle.xs_model.specs.declared.instance.Constraint.TheVariants.{Extension}
use Rattle.xs_model.specs.Accepted.{items_of}
use Rattle.xs_model.specs.Fields.{Variable}
use Rattle.xs_model.specs.Fitting.{IsFitting}
use Rattle.lo_tables.proofs.TableLemmas.{entries_of}

-- a table of tuples over at least one variable
pub few_cells : (list : List ℕ) (tuples : List (List (Option ℤ))) (positive : Bool) → IsFitting (Extension list tuples positive) → items_of (Extension list tuples positive) < 2 ^ 40 → length tuples * (length list + 1) ≤ 2 ^ 60
few_cells list tuples positive fitting few =
    room (length tuples) (length list) (items_of (Extension list tuples positive)) fitting.0 (ap₂ (λ (p q : ℕ). p + q) (length-map list Variable) (entries_of (length list) tuples fitting.1)) few
  where
    spread : (k l : ℕ) → 0 < l → k * (l + 1) ≤ 2 * (k * l)
    spread k l some = grind arith

    room : (k l i : ℕ) → 0 < l → i ≡ l + k * l → i < 2 ^ 40 → k * (l + 1) ≤ 2 ^ 60
    room k l i some is few = omega (arith, spread k l some, is, few)

-- the same of a constraint that is such a table, and of lists that are its own
pub few_at : (d : Constraint) (list : List ℕ) (tuples : List (List (Option ℤ))) (positive : Bool) (xs : List ℕ) (rows : List (List (Option ℤ))) → d ≡ Extension list tuples positive → IsFitting d → items_of d < 2 ^ 40 → xs ≡ list → rows ≡ tuples
    → length rows * (length xs + 1) ≤ 2 ^ 60
few_at d list tuples positive xs rows is fitting few e f =
    let r = few_cells list tuples positive (subst IsFitting is fitting) (subst (λ (k : Constraint). items_of k < 2 ^ 40) is few) in
    subst (λ (ys : List ℕ). length rows * (length ys + 1) ≤ 2 ^ 60) (sym e) (subst (λ (rs : List (List (Option ℤ))). length rs * (length list + 1) ≤ 2 ^ 60) (sym f) r)
