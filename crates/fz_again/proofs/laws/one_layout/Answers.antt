use Rattle.fz_again.proofs.Once as once
use Rattle.fz_again.proofs.laws.one_layout.Goals as goal

pub returns : goal.returns
returns c = record { alone = once.written_alone; layouts = once.one_layout }
