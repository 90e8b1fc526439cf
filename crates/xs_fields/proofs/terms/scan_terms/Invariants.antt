use Rattle.std.proofs.Common.{length}
use Rattle.xs_fields.specs.Terms.{term_meets, word_terms}
use Rattle.xs_fields.specs.Words.{words_of}
use Rattle.xs_fields.proofs.ScanLemmas.{Stands}
use Rattle.xs_fields.proofs.terms.scan_terms.Given as goal

abbrev pub invariant-loop-word : goal.invariant-loop-word
invariant-loop-word l = Stands (word_terms l.names) (term_meets l.names) l.left (words_of l.text) l.missed l.terms (words_of l.rest)

abbrev pub decreases-loop-word : goal.decreases-loop-word
decreases-loop-word l = length l.rest
