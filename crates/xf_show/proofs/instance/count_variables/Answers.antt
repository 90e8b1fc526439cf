use Rattle.std.proofs.Common.{◌∙◌, ap, length}
use Rattle.xs_model.proofs.SpanLemmas.{spans_words}
use Rattle.xf_show.proofs.instance.count_variables.Goals as goal

pub returns : goal.returns
returns c = c.len.ensures ∙ ap length c.in_ok-spans.ensures ∙ spans_words c.args.decls.now c.requires
