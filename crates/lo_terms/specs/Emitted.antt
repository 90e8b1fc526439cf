-- The bounds of a step.
use Rattle.std.specs.Prelude.{pos, Result, Ok, Err}
use Rattle.xf_num.specs.Span.{Bounds}
use Rattle.xf_text.specs.declared.fault.Kind.{Kind}
use Rattle.xs_model.specs.Bounds.{exactly, limited}

-- the bounds, where there is no fault; no value has those of a fault, for which 0 stands
abbrev pub ends : Result Bounds Kind → Bounds
ends (Ok b) = b
ends (Err k) = exactly (pos 0)

-- the bounds of a step, where they are within the limit
abbrev pub kept : Bounds → Bounds
kept b = ends (limited b)
