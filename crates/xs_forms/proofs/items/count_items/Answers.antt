use Rattle.std.proofs.Common.{◌<◌, ◌^◌, ℕ, subst, sym, ◌∙◌, ap}
use Rattle.xs_model.specs.Formed.{count_in}
use Rattle.xs_forms.proofs.FieldLemmas.{count_in-seen}
use Rattle.xs_forms.proofs.items.count_items.Goals as goal

pub count_fields-requires : goal.count_fields-requires
count_fields-requires c = subst (λ (n : ℕ). n < 2 ^ 64) (ap count_in (sym c.fields.ensures) ∙ count_in-seen c.fields.result) c.requires

pub returns : goal.returns
returns c = c.count_fields.ensures ∙ sym (count_in-seen c.fields.result) ∙ ap count_in c.fields.ensures
