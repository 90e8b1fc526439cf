use Rattle.std.proofs.lemmas.Result.{IfOk-weaker}
use Rattle.xs_vars.specs.Declarations.{declared_of}
use Rattle.xs_vars.proofs.DeclaredLemmas.{few}
use Rattle.xs_vars.proofs.declarations.read_declarations.Goals as goal

pub returns-in-None-clause-few : goal.returns-in-None-clause-few
returns-in-None-clause-few c = IfOk-weaker c.read_children.result _ _ (λ d k. few (declared_of d) k.sound) c.read_children.ensures.kept
