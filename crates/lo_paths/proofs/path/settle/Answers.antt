use Rattle.std.proofs.Common.{◌+◌, ℕ, List, ap, ap₂, subst, ◌∙◌}
use Rattle.lo_base.specs.Item.{made}
use Rattle.lo_base.specs.Partway.{on_err}
use Rattle.lo_emit.specs.declared.term.Term.{Term}
use Rattle.lo_emit.specs.Emitted.{Outs}
use Rattle.lo_paths.proofs.GroupLemmas.{any_grouped}
use Rattle.lo_paths.proofs.path.settle.Goals as goal

pub returns-in_err-truths-clause-stopped : goal.returns-in_err-truths-clause-stopped
returns-in_err-truths-clause-stopped g c =
    let same = any_grouped c.args.arrivals.now (g.E.Emit.count c.args.out.now) c.as_slice.result.now c.in_ok-states.field-0 c.as_slice.ensures c.in_ok-states.ensures.value in
    on_err _ (subst (λ (o : Outs). g.E.Emit.began c.args.out.now c.reached.new.out o.items) same c.in_err-truths.ensures.stopped)

pub returns-clause-value : goal.returns-clause-value
returns-clause-value g c =
    let same = any_grouped c.args.arrivals.now (g.E.Emit.count c.args.out.now) c.as_slice.result.now c.in_ok-states.field-0 c.as_slice.ensures c.in_ok-states.ensures.value in
    ap₂ (λ (qs : List ℕ) (ts : List Term). record { states = qs; truths = ts }) c.in_ok-states.ensures.value.states (c.in_ok-truths.ensures.value ∙ ap (λ (o : Outs). o.terms) same)

pub returns-clause-ok : goal.returns-clause-ok
returns-clause-ok g c =
    let same = any_grouped c.args.arrivals.now (g.E.Emit.count c.args.out.now) c.as_slice.result.now c.in_ok-states.field-0 c.as_slice.ensures c.in_ok-states.ensures.value in
    subst (λ (o : Outs). g.E.Emit.grew c.args.out.now c.reached.new.out o.items) same c.in_ok-truths.ensures.ok

pub returns-clause-count : goal.returns-clause-count
returns-clause-count g c =
    let n : ℕ = g.E.Emit.count c.args.out.now in
    let same = any_grouped c.args.arrivals.now n c.as_slice.result.now c.in_ok-states.field-0 c.as_slice.ensures c.in_ok-states.ensures.value in
    c.in_ok-truths.ensures.count ∙ ap (λ (o : Outs). n + made o.items) same
