use Rattle.std.specs.List.{flat_map}
use Rattle.xs_forms.specs.Forms.{all_forms}
use Rattle.xf_show.specs.Summary.{form_line, instance_head}
use Rattle.xf_show.proofs.TextLemmas.{joined}
use Rattle.xf_show.proofs.instance.instance_summary.Goals as goal

pub returns : goal.returns
returns c =
    joined (λ cs. flat_map (form_line cs) all_forms) c.in_ok-text.text c.push_forms.new.text (instance_head c.args.instance.now) c.as_slice.result.now c.args.instance.now.constraints
    c.in_ok-push_forms.ensures c.in_ok-text.ensures c.as_slice.ensures
