use Rattle.std.proofs.Common.{◌≡◌, ◌≤◌, false, List, [], ◌∷◌, length, map, refl, arith}
use Rattle.fz_model.specs.declared.builtin.Builtin.{Builtin}
use Rattle.fz_model.specs.Meaning.{Worth, worth, row_of}
use Rattle.fz_calls.proofs.rows.holds_at.Goals as goal

too_many : {X : Type 0} (i : Builtin) (f : X → Worth) (xs : List X) → 5 ≤ length xs → false ≡ row_of i (map f xs)
too_many i f [] le = absurd (omega arith)
too_many i f (v ∷ []) le = absurd (omega arith)
too_many i f (v ∷ w ∷ []) le = absurd (omega arith)
too_many i f (v ∷ w ∷ x ∷ []) le = absurd (omega arith)
too_many i f (v ∷ w ∷ x ∷ y ∷ []) le = absurd (omega arith)
too_many i f (v ∷ w ∷ x ∷ y ∷ z ∷ rest) le = refl

pub returns-in_default-2 : goal.returns-in_default-2
returns-in_default-2 c = too_many c.args.builtin (worth c.args.b.now) c.args.args.now c.in_default.len_at_least
