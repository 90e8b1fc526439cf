use Rattle.std.proofs.Common.{length}
use Rattle.xs_fields.specs.Lists.{members_of, run_meets}
use Rattle.xs_fields.specs.Words.{words_of}
use Rattle.xs_fields.proofs.ScanLemmas.{Stands}
use Rattle.xs_fields.proofs.runs.scan_ints.Given as goal

abbrev pub invariant-loop-word : goal.invariant-loop-word
invariant-loop-word l = Stands members_of run_meets l.left (words_of l.text) l.missed l.ints (words_of l.rest)

abbrev pub decreases-loop-word : goal.decreases-loop-word
decreases-loop-word l = length l.rest
