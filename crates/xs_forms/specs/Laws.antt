-- What room for an instance is enough for.
use Rattle.std.specs.Prelude.{ℕ, ℤ, ◌<◌, List, Bool}
use Rattle.std.specs.List.{AllByRecursion}
use Rattle.xs_model.specs.declared.instance.Constraint.{Constraint}
use Rattle.xs_model.specs.declared.instance.Instance.{Instance}
use Rattle.xs_forms.specs.Room.{Room, IsAsLong, IsRoomFor, IsRoomForGoal, room_for, states_in, states_of, with_flag, with_values}

-- the room that is made for an instance is room for each of its constraints and for its objective; what is as long is
-- room for the same; and each state that a constraint mentions is below the number of its states
pub record RoomLaws : Type 0 where
  pub each : (i : Instance) → AllByRecursion (λ c. IsRoomFor c (room_for i)) i.constraints
  pub goal : (i : Instance) → IsRoomForGoal i.objective (room_for i)
  pub stays : (c : Constraint) (r s : Room) → IsAsLong r s → IsRoomFor c r → IsRoomFor c s
  pub flagged : (r : Room) (second : Bool) (at : ℕ) (flag : Bool) → IsAsLong r (with_flag r second at flag)
  pub valued : (r : Room) (zs : List ℤ) → IsAsLong r (with_values r zs)
  pub states : (c : Constraint) → AllByRecursion (λ q. q < states_in c) (states_of c)
