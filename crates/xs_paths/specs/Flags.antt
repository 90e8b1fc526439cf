-- What an automaton accepts (XCSP3-core, "regular" and "mdd"), by flags of the states that are reached.
use Rattle.std.specs.Prelude.{◌≡◌, ◌≢◌, ◌↔◌, ℕ, ◌<◌, ℤ, List, [], ◌∷◌, slice_index_or, slice_set, replicate, fold, Bool, true, false, ◌&&◌, if◌then◌else◌}
use Rattle.std.specs.List.{AllByRecursion, list_any}
use Rattle.std.specs.Ordering.{int_eq}
use Rattle.xs_model.specs.declared.instance.Edge.{Edge}
use Rattle.xs_model.specs.Language.{IsAccepting, Spells}

-- whether the flag of a state is set
abbrev pub flag : List Bool → ℕ → Bool
flag fs q = slice_index_or fs q false

-- the flags, and that of the target of a transition which reads x from a state whose flag is set in fs
abbrev pub marked : List Bool → ℤ → List Bool → Edge → List Bool
marked fs x next e = if flag fs e.from && int_eq x e.value then slice_set next e.to true else next

-- the flags of n states after a value
abbrev pub flags_after : ℕ → List Edge → List Bool → ℤ → List Bool
flags_after n edges fs x = fold (marked fs x) (replicate n false) edges

-- the flags of n states of which the start alone is reached
abbrev pub start_flags : ℕ → ℕ → List Bool
start_flags n start = slice_set (replicate n false) start true

-- the flags after all values
abbrev pub end_flags : ℕ → List Edge → ℕ → List ℤ → List Bool
end_flags n edges start xs = fold (flags_after n edges) (start_flags n start) xs

-- whether the flag of a final state is set in the end
abbrev pub is_flagged : ℕ → List Edge → ℕ → List ℕ → List ℤ → Bool
is_flagged n edges start finals xs = list_any (flag (end_flags n edges start xs)) finals

-- the law: then the values are accepted, where the states are below n
abbrev pub FlagsLaw : Type 0
FlagsLaw = (n : ℕ) (edges : List Edge) (start : ℕ) (finals : List ℕ) (xs : List ℤ) → start < n → AllByRecursion (λ e. e.to < n) edges
    → IsAccepting edges start finals xs ↔ (is_flagged n edges start finals xs ≡ true)

-- the laws of a diagram: it accepts what leads to its leaf, and no empty list where that is not its root
abbrev pub LeafLaw : Type 0
LeafLaw = (edges : List Edge) (root leaf : ℕ) (xs : List ℤ) → Spells edges root xs leaf ↔ IsAccepting edges root (leaf ∷ []) xs

abbrev pub EmptyLaw : Type 0
EmptyLaw = (edges : List Edge) (root leaf : ℕ) → root ≢ leaf → Spells edges root [] leaf → ⊥
