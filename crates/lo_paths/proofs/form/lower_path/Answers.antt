use Rattle.lo_paths.proofs.SoundLemmas.{regular_at, mdd_at}
use Rattle.lo_paths.proofs.form.lower_path.Goals as goal

pub lower_regular-requires-clause-few : goal.lower_regular-requires-clause-few
lower_regular-requires-clause-few g c =
    regular_at c.args.c.now c.in-Regular.list c.in-Regular.edges c.in-Regular.start c.in-Regular.finals _ _ c.in-Regular.is c.requires.few c.as_slice.ensures c.as_slice-in-Regular.ensures

pub lower_mdd-requires-clause-few : goal.lower_mdd-requires-clause-few
lower_mdd-requires-clause-few g c = mdd_at c.args.c.now c.in-Mdd.list c.in-Mdd.edges c.in-Mdd.root c.in-Mdd.leaf _ _ c.in-Mdd.is c.requires.few c.as_slice-in-Mdd.ensures c.as_slice-in-Mdd-2.ensures
