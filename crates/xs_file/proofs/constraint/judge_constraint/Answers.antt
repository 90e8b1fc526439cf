use Rattle.std.proofs.Common.{List, length, ap, sym, subst, ◌∙◌}
use Rattle.std.specs.Prelude.{OnOk}
use Rattle.std.specs.Result.{result_err}
use Rattle.xs_model.specs.Magnitude.{judged}
use Rattle.xs_model.specs.Spans.{spans_of}
use Rattle.xf_num.specs.Span.{Bounds}
use Rattle.xs_file.proofs.ConstraintLemmas.{formed_spans, judged_fault, judged_sound}
use Rattle.xs_model.specs.Accepted.{IsFaultless, IsFormed, IsMeasured}
use Rattle.xs_file.proofs.constraint.judge_constraint.Goals as goal

pub judge-requires : goal.judge-requires
judge-requires c =
    let ds = c.args.held.now.declared.decls in
    subst (λ (ss : List Bounds). IsFormed (length ss) c.args.constraint.now) (sym c.spans.ensures) (formed_spans ds c.args.constraint.now c.requires.formed)

pub returns-clause-sound : goal.returns-clause-sound
returns-clause-sound c =
    let ds = c.args.held.now.declared.decls in
    let r = c.judge.result in
    judged_sound ds c.args.constraint.now r c.requires.formed c.requires.built
    (subst (λ (ss : List Bounds). OnOk r (IsFaultless ss c.args.constraint.now)) c.spans.ensures c.judge.ensures.faultless)
    (subst (λ (ss : List Bounds). OnOk r (IsMeasured ss c.args.constraint.now)) c.spans.ensures c.judge.ensures.measured)

pub returns-clause-measured : goal.returns-clause-measured
returns-clause-measured c = subst (λ (ss : List Bounds). OnOk c.judge.result (IsMeasured ss c.args.constraint.now)) c.spans.ensures c.judge.ensures.measured

pub returns-clause-value : goal.returns-clause-value
returns-clause-value c =
    let ss = spans_of c.args.held.now.declared.decls in
    ap result_err c.judge.ensures.value ∙ ap (λ (bs : List Bounds). result_err (judged bs c.args.constraint.now)) c.spans.ensures ∙ judged_fault ss c.args.constraint.now
