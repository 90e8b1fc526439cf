use Rattle.lo_tables.proofs.FormLemmas.{few_at}
use Rattle.lo_tables.proofs.form.lower_table.Goals as goal

pub lower_extension-requires-clause-few : goal.lower_extension-requires-clause-few
lower_extension-requires-clause-few g c =
    few_at c.args.c.now c.in-Extension.list c.in-Extension.tuples c.in-Extension.positive _ _ c.in-Extension.is c.requires.fitting c.requires.few c.as_slice.ensures c.as_slice-in-Extension.ensures
