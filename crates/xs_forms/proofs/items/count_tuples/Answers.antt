use Rattle.std.proofs.Common.{arith}
use Rattle.xs_model.specs.Fields.{entry_item}
use Rattle.xs_forms.proofs.FieldLemmas.{count_in-rows}
use Rattle.xs_forms.proofs.items.count_tuples.Goals as goal

pub count_rows-requires : goal.count_rows-requires
count_rows-requires c = omega (arith, c.requires, count_in-rows entry_item c.args.tuples.now)

pub returns : goal.returns
returns c = omega (arith, c.count_rows.ensures, count_in-rows entry_item c.args.tuples.now)
