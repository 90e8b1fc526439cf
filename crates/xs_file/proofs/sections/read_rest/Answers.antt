use Rattle.std.proofs.Common.{◌∙◌, true, Result, Err, Ok, sym, ap, subst}
use Rattle.xf_text.specs.declared.fault.Fault.{Fault}
use Rattle.xs_file.specs.Sections.{Progress, sections_behind}
use Rattle.xs_var.specs.Elements.{children_of}
use Rattle.xs_var.specs.Taken.{IsRead}
use Rattle.xs_file.proofs.RunLemmas.{rest_err}
use Rattle.xs_file.proofs.sections.read_rest.Goals as goal

pub returns-in-Err : goal.returns-in-Err
returns-in-Err c =
    let s = c.loop-node.held in
    let more = children_of c.in-Some.more.now in
    let whole = ap (λ ns. sections_behind true (Ok s) ns) (sym c.in-Some.ensures.value) ∙ c.loop-node.invariant.so_far in
    subst (λ (r : Result Progress Fault). IsRead {A = Progress} (λ h. h) (Err c.in-Err.stop) r) whole (rest_err s c.in-Err.stop c.in-Some.node.now more c.in-Err.ensures.outcome)
