-- What `allDifferent` is lowered to (XCSP3-core, "Constraint allDifferent"; MiniZinc Handbook, "FlatZinc": int_ne).
use Rattle.std.specs.Prelude.{ℕ, List, [], ◌∷◌}
use Rattle.lo_base.specs.Item.{Item, Posted}
use Rattle.lo_emit.specs.declared.compare.Relation.TheVariants.{Ne}
use Rattle.lo_emit.specs.declared.term.Term.{Term}
use Rattle.lo_emit.specs.Compare.{compare_call}
use Rattle.lo_emit.specs.Loops.{for_pairs}

-- two terms differ
abbrev pub differ : ℕ → Term → Term → List Item
differ n x y = Posted (compare_call Ne x y) ∷ []

-- each two differ
abbrev pub low_different : ℕ → List Term → List Item
low_different n terms = for_pairs differ n terms
