use Rattle.std.proofs.Common.{◌≡◌, ◌++◌, drop}
use Rattle.std.specs.List.{flat_map}
use Rattle.xf_show.specs.Summary.{form_line}
use Rattle.xf_show.proofs.instance.push_forms.Given as goal

abbrev pub invariant-loop-form : goal.invariant-loop-form
invariant-loop-form l = l.text ++ flat_map (form_line l.constraints) (drop l.form-index l.forms) ≡ l.fn.text ++ flat_map (form_line l.constraints) l.forms
