use Rattle.std.proofs.Common.{◌≡◌, drop}
use Rattle.xs_forms.specs.Forms.{look_up}
use Rattle.xs_forms.proofs.form.find.Given as goal

abbrev pub invariant-loop-form : goal.invariant-loop-form
invariant-loop-form l = look_up (drop l.form-index l.all) l.name ≡ look_up l.all l.name
