use Rattle.xs_laws.proofs.Channels.{channel_of_value_is_sum}
use Rattle.xs_laws.proofs.laws.channel_of_value_is_sum.Goals as goal

pub returns : goal.returns
returns c = channel_of_value_is_sum
