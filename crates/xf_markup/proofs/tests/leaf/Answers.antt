use Rattle.std.proofs.Common.{refl}
use Rattle.xf_markup.proofs.RoundTrip.{leaf_spelt}
use Rattle.xf_markup.proofs.tests.leaf.Goals as goal

pub returns : goal.returns
returns c = leaf_spelt _ 97 c.in_ok-name.ensures refl c.new.ensures c.new-2.ensures
