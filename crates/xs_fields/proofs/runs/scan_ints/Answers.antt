use Rattle.std.proofs.Common.{ap}
use Rattle.std.specs.Result.{result_err}
use Rattle.xs_fields.specs.Lists.{members_in, members_of, run_meets}
use Rattle.xs_fields.specs.Words.{words_of}
use Rattle.xs_fields.proofs.ScanLemmas.{next}
use Rattle.xs_fields.proofs.WordLemmas.{run_fits, run_judged}
use Rattle.xs_fields.proofs.runs.scan_ints.Goals as goal

pub loop-word-preserved : goal.loop-word-preserved
loop-word-preserved c =
    next members_of run_meets c.args.left (words_of c.args.text.now) run_fits
    c.loop-word.missed (result_err c.read_run.result) c.in_ok-missed.missed c.loop-word.ints (members_in c.read_run.result) c.take_run.new.ints
    c.in-Some.word.now (words_of c.in-Some.more.now) (words_of c.loop-word.rest.now) c.in-Some.ensures.value
    (run_judged c.in-Some.word.now c.read_run.result c.read_run.ensures) (ap members_in c.read_run.ensures)
    c.in_ok-missed.ensures.missed c.in_ok-missed.ensures.value c.loop-word.invariant
