use Rattle.xf_carry.proofs.Extension.{low_extends, low_extends_once, low_size}
use Rattle.xf_carry.proofs.laws.low_extends.Goals as goal

pub returns : goal.returns
returns c = record { extends = low_extends; once = low_extends_once; size = low_size }
