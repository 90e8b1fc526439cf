-- What is read of a model before an item.
use Rattle.std.specs.Prelude.{ℕ, ◌-◌, List, [], ◌∷◌, ◌++◌, Bool, not, is_some}
use Rattle.fz_model.specs.declared.model.FzVar.{FzVar}
use Rattle.fz_model.specs.declared.model.Output.{Output}
use Rattle.fz_model.specs.declared.model.Call.{Call}
use Rattle.fz_model.specs.Limits.{most_leaves}
use Rattle.fz_values.specs.declared.meaning.Meaning.{Meaning}
use Rattle.fz_values.specs.Names.{look_up}
use Rattle.fz_items.specs.declared.progress.Progress.{Progress}

-- the name is not declared
abbrev pub is_new : Progress → List ℕ → Bool
is_new p w = not (is_some (look_up p.names w))

-- a name, and that many leaves more
abbrev pub with_name : Progress → List ℕ → Meaning → ℕ → Progress
with_name p w m n = record { names = p.names ++ (w, m) ∷ []; vars = p.vars; outputs = p.outputs; calls = p.calls; room = p.room - n }

abbrev pub with_var : Progress → FzVar → Progress
with_var p v = record { names = p.names; vars = p.vars ++ v ∷ []; outputs = p.outputs; calls = p.calls; room = p.room }

abbrev pub with_output : Progress → Output → Progress
with_output p o = record { names = p.names; vars = p.vars; outputs = p.outputs ++ o ∷ []; calls = p.calls; room = p.room }

-- a call, behind which there is so much room
abbrev pub with_call : Progress → Call → ℕ → Progress
with_call p c room = record { names = p.names; vars = p.vars; outputs = p.outputs; calls = p.calls ++ c ∷ []; room = room }

-- nothing is read
abbrev pub begun : Progress
begun = record { names = []; vars = []; outputs = []; calls = []; room = most_leaves }
