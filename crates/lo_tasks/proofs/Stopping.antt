-- What began a list of items began the same list in other words.
use Rattle.std.proofs.Common.{◌≡◌, Result, Ok, Err, OnErr, List, [], ◌∷◌, refl, subst}
use Rattle.lo_base.specs.Emit.{Begins}
use Rattle.lo_base.specs.Item.{Item}

begins_same : (xs : List Item) → Begins xs xs
begins_same [] = tt
begins_same (x ∷ xs) = (refl, begins_same xs)

pub begins_as : (xs zs : List Item) → xs ≡ zs → Begins xs zs
begins_as xs zs e = subst (Begins xs) e (begins_same xs)

pub on_error : {T X P Q : Type 0} (r : Result T X) → (P → Q) → OnErr r P → OnErr r Q
on_error (Ok x) f h = tt
on_error (Err e) f h = f h
