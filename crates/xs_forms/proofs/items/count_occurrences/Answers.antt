use Rattle.std.proofs.Common.{arith}
use Rattle.xs_forms.proofs.FieldLemmas.{length-occurrences}
use Rattle.xs_forms.proofs.items.count_occurrences.Goals as goal

pub count_each-requires : goal.count_each-requires
count_each-requires c = omega (arith, c.requires, length-occurrences c.args.occurrences.now)

pub returns : goal.returns
returns c = omega (arith, c.count_each.ensures, length-occurrences c.args.occurrences.now)
