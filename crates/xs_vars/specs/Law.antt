-- What `variables` declares is sound.
use Rattle.std.specs.Prelude.{◌≡◌, ◌<◌, ◌^◌, length, Ok}
use Rattle.xf_markup.specs.declared.tree.Node.{Node}
use Rattle.xs_model.specs.Names.{words}
use Rattle.xs_var.specs.VarUnit.{Declared}
use Rattle.xs_vars.specs.Declarations.{IsSoundDeclared, variables_outcome}

-- what the units of `variables` declare, where none is at fault, is sound, of fewer than 2^32 variables
pub record AreSoundOutcomes : Type 0 where
  pub sound : (n : Node) (s : Declared) → variables_outcome n ≡ Ok s → IsSoundDeclared s
  pub few : (n : Node) (s : Declared) → variables_outcome n ≡ Ok s → length (words s.decls) < 2 ^ 32
