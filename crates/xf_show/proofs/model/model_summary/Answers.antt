use Rattle.std.specs.List.{flat_map}
use Rattle.fz_model.specs.Builtins.{all}
use Rattle.xf_show.specs.Summary.{builtin_line, model_head}
use Rattle.xf_show.proofs.TextLemmas.{joined}
use Rattle.xf_show.proofs.model.model_summary.Goals as goal

pub returns : goal.returns
returns c =
    joined (λ calls. flat_map (builtin_line calls) all) c.in_ok-text.text c.push_builtins.new.text (model_head c.args.model.now) c.as_slice.result.now c.args.model.now.calls
    c.in_ok-push_builtins.ensures c.in_ok-text.ensures c.as_slice.ensures
