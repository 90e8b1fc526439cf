use Rattle.std.proofs.Common.{length}
use Rattle.xs_fields.specs.Cells.{variable_meets, variables_of}
use Rattle.xs_fields.specs.Words.{words_of}
use Rattle.xs_fields.proofs.ScanLemmas.{Stands}
use Rattle.xs_fields.proofs.variables.scan_vars.Given as goal

abbrev pub invariant-loop-word : goal.invariant-loop-word
invariant-loop-word l = Stands (variables_of l.names) (variable_meets l.names) l.left (words_of l.text) l.missed l.vars (words_of l.rest)

abbrev pub decreases-loop-word : goal.decreases-loop-word
decreases-loop-word l = length l.rest
