use Rattle.std.proofs.Common.{sym, ◌∙◌, ap, subst, map, string_bytes, ℕ}
use Rattle.xf_course.specs.Answers.{line_of, Says, status_of}
use Rattle.xf_course.specs.Ends.{Completes, Ends}
use Rattle.xf_course.proofs.EndLemmas.{complete_of, done_of, front_of, limited_of, memory_of, not_read_of, quiet_of, refused_of, says_of, six_of, unmet_of, write_fault_of}
use Rattle.xf_words.specs.Files.{file_by, solution_by}
use Rattle.xf_words.specs.Words.{call_of}
use Rattle.xf_top.specs.Runs.{course, promise}
use Rattle.xf_top.proofs.RowLemmas.{Laws, nothing_of, single_of}
use Rattle.xf_top.proofs.engine.run.Goals as goal

-- all clauses, over the one course of the words
pub returns : goal.returns
returns g c =
    let files = g.S.Shelf.files c.args.files.now in
    let ws = map string_bytes c.args.words.now in
    let k = course files ws in
    let p = promise files ws in
    let read = g.S.Shelf.faults c.args.files.now in
    let read' = g.S.Shelf.faults c.answer_call-answer.new.files in
    let write = g.W.Sink.faults c.args.out in
    let write' = g.W.Sink.faults c.answer_call-answer.result.1 in
    let old = g.W.Sink.holds c.args.out in
    let new = g.W.Sink.holds c.answer_call-answer.result.1 in
    let answer = c.answer_call-answer.result.0 in
    let ends : Ends k p read read' write write' old new answer = rw c.read_call-call.ensures at c.answer_call-answer.ensures.ends in
    let e = g.E.Sink.faults c.args.err.now in
    let e' = g.E.Sink.faults c.tell.new.err in
    let said = g.E.Sink.holds c.args.err.now in
    let said' = g.E.Sink.holds c.tell.new.err in
    let file = file_by (call_of ws) ws in
    let solution = solution_by (call_of ws) ws in
    let says : Says e e' said said' (line_of answer file solution) =
    rw (c.file_word.ensures, c.file_word-2.ensures, c.read_call-call.ensures) at (says_of e e' said said' _ _ c.tell.ensures.ok c.tell.ensures.cause) in
    let laws : Laws = record { instances = c.one_reading.ensures; models = c.one_reading-2.ensures } in
    let is = sym c.status.ensures in
    record {
      no_command = (
        (λ six. sym c.read_call-call.ensures ∙ c.answer_call-answer.ensures.no_command.0 (six_of answer (is ∙ six))),
        (λ none. c.status.ensures ∙ ap status_of (c.answer_call-answer.ensures.no_command.1 (c.read_call-call.ensures ∙ none))),
      );
      untouched = λ six. c.answer_call-answer.ensures.untouched (six_of answer (is ∙ six));
      refused = λ two. refused_of k p read read' write write' e e' old new said said' file solution answer ends says (is ∙ two);
      unmet = λ one. unmet_of k p read read' write write' e e' old new said said' file solution answer ends says (is ∙ one);
      read_fault = λ three. not_read_of k p read read' write write' e e' old new said said' file solution answer ends says (is ∙ three);
      write_fault = λ four. write_fault_of k p read read' write write' e e' old new said said' file solution answer ends (is ∙ four);
      front = λ four. front_of k p read read' write write' e e' old new said said' file solution answer ends (is ∙ four);
      memory = λ five. memory_of k p read read' write write' e e' old new said said' file solution answer ends (is ∙ five);
      quiet = λ some. quiet_of k p read read' write write' e e' old new said said' file solution answer ends (rw c.status.ensures at some);
      done = λ zero. let h = done_of k p read read' write write' e e' old new said said' file solution answer ends (is ∙ zero) in (h.0, h.1, h.3);
      limited = λ seven. limited_of k p read read' write write' e e' old new said said' file solution answer ends (is ∙ seven);
      single = λ told. single_of laws files told (call_of ws) ws;
      complete = λ told o comes. subst (λ (n : ℕ). Completes n read read' write write' o) is
          (complete_of k p read read' write write' e e' old new said said' file solution (single_of laws files told (call_of ws) ws) answer ends
          (λ none. nothing_of files (call_of ws) ws (sym c.read_call-call.ensures ∙ c.answer_call-answer.ensures.no_command.0 none)) o comes);
      promised = λ zero. let h = done_of k p read read' write write' e e' old new said said' file solution answer ends (is ∙ zero) in (h.0, h.2, h.3);
      line = (answer, c.status.ensures, says);
    }
