use Rattle.lo_base.proofs.Formed.{formed_bits}
use Rattle.lo_base.proofs.laws.formed_bits.Goals as goal

pub returns : goal.returns
returns c = formed_bits
