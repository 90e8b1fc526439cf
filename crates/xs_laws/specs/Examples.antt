-- Small cases, so that the definitions are seen to say what they should.
use Rattle.std.specs.Prelude.{◌≡◌, pos, [], ◌∷◌}
use Rattle.xs_model.specs.Counting.{distinct_count}
use Rattle.xs_model.specs.Schedule.{load}
use Rattle.xs_model.specs.Value.{sum_of}
use Rattle.xs_laws.specs.Firsts.{firsts}

-- a task does not run at its end
abbrev pub Loads : Type 0
Loads = (load (pos 2) (pos 0 ∷ []) (pos 3 ∷ []) (pos 5 ∷ []) ≡ pos 5) × (load (pos 3) (pos 0 ∷ []) (pos 3 ∷ []) (pos 5 ∷ []) ≡ pos 0)

-- of 4 0 4 7 0 7, where 0 is excepted, two places have a value for the first time
abbrev pub Distinct : Type 0
Distinct = (distinct_count (pos 0 ∷ []) (pos 4 ∷ pos 0 ∷ pos 4 ∷ pos 7 ∷ pos 0 ∷ pos 7 ∷ []) ≡ 2) × (sum_of (firsts (pos 0 ∷ []) [] (pos 4 ∷ pos 0 ∷ pos 4 ∷ pos 7 ∷ pos 0 ∷ pos 7 ∷ [])) ≡ pos 2)
