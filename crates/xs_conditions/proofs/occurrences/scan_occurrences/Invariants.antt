use Rattle.std.proofs.Common.{length}
use Rattle.xs_fields.specs.Words.{words_of}
use Rattle.xs_fields.proofs.ScanLemmas.{Stands}
use Rattle.xs_conditions.specs.Occurrences.{occurrence_meets, word_occurrences}
use Rattle.xs_conditions.proofs.occurrences.scan_occurrences.Given as goal

abbrev pub invariant-loop-word : goal.invariant-loop-word
invariant-loop-word l = Stands (word_occurrences l.names) (occurrence_meets l.names) l.left (words_of l.text) l.missed l.occurrences (words_of l.rest)

abbrev pub decreases-loop-word : goal.decreases-loop-word
decreases-loop-word l = length l.rest
