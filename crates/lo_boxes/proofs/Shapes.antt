-- Rows of one length that are boxes.
use Rattle.std.proofs.Common.{◌≡◌, ℕ, ◌^◌, ◌<◌, ◌≤◌, Bool, List, [], ◌∷◌, length, sym, ◌∙◌, subst, arith}
use Rattle.std.specs.List.{All, AllByRecursion}
use Rattle.lo_boxes.proofs.BoxLaws.{items_count, product}
use Rattle.lo_rules.proofs.Pairs.{all_of_places}
use Rattle.xs_model.specs.Accepted.{items_of}
use Rattle.xs_model.specs.declared.instance.Constraint.TheVariants.{NoOverlap}
use Rattle.xs_model.specs.declared.term.Term.{Term}
use Rattle.xs_model.specs.Fitting.{HaveLength, IsMatrix, AreBoxes}
use Rattle.xs_model.specs.Lists.{width}

module _ {X : Type 0} (w : ℕ) where
  even_rows : (rows : List (List X)) → HaveLength w rows → HaveLength (width rows) rows
  even_rows [] h = tt
  even_rows (r ∷ rs) h = subst (λ (k : ℕ). HaveLength k (r ∷ rs)) (sym h.0) h

  filled_rows : 0 < w → (rows : List (List X)) → HaveLength w rows → AllByRecursion (λ r. 0 < length r) rows
  filled_rows some [] h = tt
  filled_rows some (r ∷ rs) h = (omega (arith, some, h.0), filled_rows some rs h.1)

  matrix : 0 < w → (rows : List (List X)) → HaveLength w rows → IsMatrix rows
  matrix some rows h = record { even = even_rows rows h; filled = filled_rows some rows h }

  narrow : (rows : List (List X)) → HaveLength w rows → width rows ≤ w
  narrow [] h = omega arith
  narrow (r ∷ rs) h = omega (arith, h.0)

one_width : {X Y : Type 0} (w : ℕ) (rows : List (List X)) (others : List (List Y)) → HaveLength w rows → HaveLength w others → length others ≡ length rows → width others ≡ width rows
one_width w [] [] h k e = omega arith
one_width w [] (o ∷ os) h k e = absurd (omega (arith, e))
one_width w (r ∷ rs) [] h k e = absurd (omega (arith, e))
one_width w (r ∷ rs) (o ∷ os) h k e = k.0 ∙ sym h.0

pub boxes_fitting : (w : ℕ) (origins : List (List ℕ)) (lengths : List (List Term)) → 0 < w → length lengths ≡ length origins → All (λ r. length r ≡ w) origins → All (λ r. length r ≡ w) lengths → AreBoxes origins lengths
boxes_fitting w origins lengths some as_many h k =
    let hs : HaveLength w origins = all_of_places (λ r. length r ≡ w) origins h in
    let ks : HaveLength w lengths = all_of_places (λ r. length r ≡ w) lengths k in
    record { of_origins = matrix w some origins hs; of_lengths = matrix w some lengths ks; as_many = as_many; as_wide = one_width w origins lengths hs ks as_many }

pub boxes_counted : (w : ℕ) (origins : List (List ℕ)) (lengths : List (List Term)) (ignored : Bool) → AreBoxes origins lengths → All (λ r. length r ≡ w) origins → length origins ≤ 8 → w ≤ 8 → items_of (NoOverlap origins lengths ignored) < 2 ^ 30
boxes_counted w origins lengths ignored fitting h few less =
    let narrow_rows : width origins ≤ 8 = omega (arith, narrow w origins (all_of_places (λ r. length r ≡ w) origins h), less) in
    omega (arith, items_count origins lengths ignored fitting, product (length origins) (width origins) 8 8 few narrow_rows)
