use Rattle.std.proofs.Common.{arith}
use Rattle.xs_forms.proofs.FieldLemmas.{length-edges}
use Rattle.xs_forms.proofs.items.count_edges.Goals as goal

pub returns : goal.returns
returns c = omega (arith, length-edges c.args.edges.now, c.requires)
