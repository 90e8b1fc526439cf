use Rattle.xs_laws.proofs.Channels.{channel_is_places}
use Rattle.xs_laws.proofs.laws.channel_is_places.Goals as goal

pub returns : goal.returns
returns c = channel_is_places
