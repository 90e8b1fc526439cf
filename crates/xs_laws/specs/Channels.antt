-- Channels (XCSP3-core, "channel") as tests of pairs of places, and a value channel by a sum.
use Rattle.std.specs.Prelude.{◌≡◌, ◌≢◌, ◌↔◌, ℕ, ◌<◌, ℤ, pos, ◌+ℤ◌, List, length, Bool, true, not, ◌⊎◌}
use Rattle.std.specs.List.{AllByRecursion, list_all}
use Rattle.std.specs.Ordering.{int_eq}
use Rattle.xs_model.specs.Counting.{PointsTo, IsChannel, IsChannelOfTwo, IsChannelOfValue}
use Rattle.xs_model.specs.Lists.{is_among}
use Rattle.xs_model.specs.Value.{at, sum_of}
use Rattle.xs_laws.specs.Indices.{IsIndex, place_of}

-- whether place p points to the place q of a list that is counted from start
abbrev pub points : ℤ → List ℤ → ℕ → ℕ → Bool
points start xs p q = int_eq (at xs p) (start +ℤ pos q)

-- of two places, where the first points to the second, that one points to it
abbrev pub IsChannelByPairs : ℤ → List ℤ → Type 0
IsChannelByPairs start xs = (p q : ℕ) → p < length xs → q < length xs → p ≢ q → points start xs p q ≡ true → points start xs q p ≡ true

-- the law: this is a channel of one list
abbrev pub ChannelLaw : Type 0
ChannelLaw = (start : ℤ) (xs : List ℤ) → IsChannel start xs ↔ IsChannelByPairs start xs

-- each place of one list points to a place of the other exactly where that one points to it
abbrev pub IsChannelBothWays : ℤ → List ℤ → ℤ → List ℤ → Type 0
IsChannelBothWays s xs t ys = (p q : ℕ) → p < length xs → q < length ys → points t xs p q ≡ points s ys q p

-- where a place of the first list points to one of the second, that one points to it
abbrev pub IsChannelOneWay : ℤ → List ℤ → ℤ → List ℤ → Type 0
IsChannelOneWay s xs t ys = (p q : ℕ) → p < length xs → q < length ys → points t xs p q ≡ true → points s ys q p ≡ true

-- the law: the first is a channel of two lists of one length, the second of two lists of others
abbrev pub ChannelOfTwoLaw : Type 0
ChannelOfTwoLaw = (s : ℤ) (xs : List ℤ) (t : ℤ) (ys : List ℤ)
    → (length xs ≡ length ys → IsChannelOfTwo s xs t ys ↔ IsChannelBothWays s xs t ys) × (length xs ≢ length ys → IsChannelOfTwo s xs t ys ↔ IsChannelOneWay s xs t ys)

-- all are 0 or 1, each is 1 exactly where the value is its index, and the sum is 1
abbrev pub IsChannelBySum : ℤ → ℤ → List ℤ → Type 0
IsChannelBySum start v xs =
    AllByRecursion (λ x. (x ≡ pos 0) ⊎ (x ≡ pos 1)) xs × ((p : ℕ) → p < length xs → int_eq (at xs p) (pos 1) ≡ int_eq v (start +ℤ pos p)) × (sum_of xs ≡ pos 1)

-- the law: this is a channel of a value
abbrev pub ChannelOfValueLaw : Type 0
ChannelOfValueLaw = (start v : ℤ) (xs : List ℤ) → IsChannelOfValue start v xs ↔ IsChannelBySum start v xs

-- where the value of a place of the first list is an index of the second, counted from t, the member at that index is the
-- index of the place, counted from s
abbrev pub ArePointedBack : ℤ → List ℤ → ℤ → List ℤ → Type 0
ArePointedBack s xs t ys = (p : ℕ) → p < length xs → IsIndex t (length ys) (at xs p) → PointsTo s ys (place_of t (at xs p)) p

-- the laws: channels by one test for each place
abbrev pub ChannelByPlacesLaw : Type 0
ChannelByPlacesLaw = (start : ℤ) (xs : List ℤ) → IsChannel start xs ↔ ArePointedBack start xs start xs

abbrev pub ChannelOfTwoByPlacesLaw : Type 0
ChannelOfTwoByPlacesLaw = (s : ℤ) (xs : List ℤ) (t : ℤ) (ys : List ℤ)
    → (length xs ≡ length ys → IsChannelOfTwo s xs t ys ↔ (ArePointedBack s xs t ys × ArePointedBack t ys s xs)) × (length xs ≢ length ys → IsChannelOfTwo s xs t ys ↔ ArePointedBack s xs t ys)

-- the law: none of them is x where all differ from it
abbrev pub NoneLaw : Type 0
NoneLaw = (x : ℤ) (vs : List ℤ) → not (is_among vs x) ≡ list_all (λ v. not (int_eq v x)) vs
