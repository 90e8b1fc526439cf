use Rattle.std.proofs.Common.{◌∙◌, ap, sym}
use Rattle.xs_model.specs.Fitting.{ends_of}
use Rattle.xs_forms.specs.Room.{past_states, states_in}
use Rattle.xs_forms.proofs.RoomLemmas.{past-all, past-two}
use Rattle.xs_forms.proofs.sizes.states_in.Goals as goal

pub returns-in-Regular-clause-value : goal.returns-in-Regular-clause-value
returns-in-Regular-clause-value c =
    let known = past-all (ends_of c.in-Regular.edges) c.in-Regular.finals c.in-Regular.start c.past_edges.result c.max.result c.max-in-Regular.result c.past_states.result
    (c.past_edges.ensures.value ∙ ap (λ es. past_states (ends_of es)) c.as_slice.ensures) c.max.ensures (c.past_states.ensures.value ∙ ap past_states c.as_slice-in-Regular.ensures) c.max-in-Regular.ensures in
    known ∙ ap states_in (sym c.in-Regular.is)

pub returns-in-Mdd-clause-value : goal.returns-in-Mdd-clause-value
returns-in-Mdd-clause-value c =
    let known = past-two (ends_of c.in-Mdd.edges) c.in-Mdd.root c.in-Mdd.leaf _ _ _
    (c.past_edges-in-Mdd.ensures.value ∙ ap (λ es. past_states (ends_of es)) c.as_slice-in-Mdd.ensures) c.max-in-Mdd.ensures c.max-in-Mdd-2.ensures in
    known ∙ ap states_in (sym c.in-Mdd.is)
