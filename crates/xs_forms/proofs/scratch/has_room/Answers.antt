use Rattle.xs_forms.proofs.RoomLemmas.{room_laws}
use Rattle.xs_forms.proofs.scratch.has_room.Goals as goal

pub returns : goal.returns
returns c = room_laws
