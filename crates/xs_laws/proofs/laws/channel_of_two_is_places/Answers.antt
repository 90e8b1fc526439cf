use Rattle.xs_laws.proofs.Channels.{channel_of_two_is_places}
use Rattle.xs_laws.proofs.laws.channel_of_two_is_places.Goals as goal

pub returns : goal.returns
returns c = channel_of_two_is_places
