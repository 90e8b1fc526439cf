-- Room for an instance is enough for each of its constraints.
use Rattle.std.proofs.Common.{◌≡◌, ℕ, zero, suc, ℤ, ◌+◌, ◌<◌, ◌≤◌, max, List, [], ◌∷◌, ◌++◌, length, replicate, Bool, true, false, refl, ◌∙◌, ap, arith, rules}
use Rattle.std.specs.Prelude.{slice_set}
use Rattle.std.specs.List.{AllByRecursion}
use Rattle.xs_model.specs.declared.instance.Constraint.{Constraint}
use Rattle.xs_model.specs.declared.instance.Instance.{Instance}
use Rattle.xs_forms.specs.Laws.{RoomLaws}
use Rattle.xs_forms.specs.Room.{IsAsLong, IsRoomFor, Room, empty_room, goal_length, longest_in, most_longest, most_states, past_states, room_for, states_in, states_of, with_flag, with_values}

pub past-append : (ps qs : List ℕ) → past_states (ps ++ qs) ≡ max (past_states ps) (past_states qs)
past-append [] qs = omega arith
past-append (p ∷ ps) qs = omega (arith, past-append ps qs)

pub past-all : (ps qs : List ℕ) (start edges first all past : ℕ) → edges ≡ past_states ps → first ≡ max edges (start + 1) → past ≡ past_states qs → all ≡ max first past → all ≡ past_states (ps ++ start ∷ qs)
past-all ps qs start edges first all past e f p a = omega (arith, past-append ps (start ∷ qs), e, f, p, a)

pub past-two : (ps : List ℕ) (root leaf edges first all : ℕ) → edges ≡ past_states ps → first ≡ max edges (root + 1) → all ≡ max first (leaf + 1) → all ≡ past_states (ps ++ root ∷ leaf ∷ [])
past-two ps root leaf edges first all e f a = omega (arith, past-append ps (root ∷ leaf ∷ []), e, f, a)

-- each state is below one more than the greatest
higher : (m k : ℕ) (qs : List ℕ) → m ≤ k → AllByRecursion (λ q. q < m) qs → AllByRecursion (λ q. q < k) qs
higher m k [] le h = tt
higher m k (q ∷ qs) le h = (omega (arith, le, h.0), higher m k qs le h.1)

pub below_past : (qs : List ℕ) → AllByRecursion (λ q. q < past_states qs) qs
below_past [] = tt
below_past (q ∷ qs) = (omega arith, higher (past_states qs) (max (q + 1) (past_states qs)) qs (omega arith) (below_past qs))

length-replicate : (n : ℕ) (b : Bool) → length (replicate n b) ≡ n
length-replicate zero b = refl
length-replicate (suc n) b = ap suc (length-replicate n b)

-- so much room is enough for each constraint, and more is too
abbrev IsEnough : ℕ → ℕ → Constraint → Type 0
IsEnough n m c = (states_in c ≤ n) × (longest_in c ≤ m)

more : (n m k l : ℕ) (cs : List Constraint) → n ≤ k → m ≤ l → AllByRecursion (IsEnough n m) cs → AllByRecursion (IsEnough k l) cs
more n m k l [] p q h = tt
more n m k l (c ∷ cs) p q h = ((omega (arith, p, h.0.0), omega (arith, q, h.0.1)), more n m k l cs p q h.1)

enough : (cs : List Constraint) → AllByRecursion (IsEnough (most_states cs) (most_longest cs)) cs
enough [] = tt
enough (c ∷ cs) = ((omega arith, omega arith), more (most_states cs) (most_longest cs) (max (states_in c) (most_states cs)) (max (longest_in c) (most_longest cs)) cs (omega arith) (omega arith) (enough cs))

roomy : (n m : ℕ) (cs : List Constraint) → AllByRecursion (IsEnough n m) cs → AllByRecursion (λ c. IsRoomFor c (empty_room n m)) cs
roomy n m [] h = tt
roomy n m (c ∷ cs) h = (record { first = omega (arith, length-replicate n false, h.0.0); second = omega (arith, length-replicate n false, h.0.0); most = h.0.1 }, roomy n m cs h.1)

each : (i : Instance) → AllByRecursion (λ c. IsRoomFor c (room_for i)) i.constraints
each i =
    let m = max (most_longest i.constraints) (goal_length i.objective) in
    roomy (most_states i.constraints) m i.constraints (more (most_states i.constraints) (most_longest i.constraints) (most_states i.constraints) m i.constraints (omega arith) (omega arith) (enough i.constraints))

pub stays : (c : Constraint) (r s : Room) → IsAsLong r s → IsRoomFor c r → IsRoomFor c s
stays c r s l h = record { first = omega (arith, l.first, h.first); second = omega (arith, l.second, h.second); most = omega (arith, l.most, h.most) }

length-set : (bs : List Bool) (at : ℕ) (b : Bool) → length (slice_set bs at b) ≡ length bs
length-set bs at b = search rules

pub flagged : (r : Room) (second : Bool) (at : ℕ) (flag : Bool) → IsAsLong r (with_flag r second at flag)
flagged r true at flag = record { first = refl; second = length-set r.second at flag; most = refl }
flagged r false at flag = record { first = length-set r.first at flag; second = refl; most = refl }

pub valued : (r : Room) (zs : List ℤ) → IsAsLong r (with_values r zs)
valued r zs = record { first = refl; second = refl; most = refl }

pub as_long : (r : Room) → IsAsLong r r
as_long r = record { first = refl; second = refl; most = refl }

pub as_long-trans : (r s t : Room) → IsAsLong r s → IsAsLong s t → IsAsLong r t
as_long-trans r s t h k = record { first = k.first ∙ h.first; second = k.second ∙ h.second; most = k.most ∙ h.most }

pub room_laws : RoomLaws
room_laws = record {
  each = each;
  goal = λ i. omega arith;
  stays = stays;
  flagged = flagged;
  valued = valued;
  states = λ c. below_past (states_of c);
}
