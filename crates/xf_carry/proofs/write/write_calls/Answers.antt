use Rattle.std.proofs.Common.{ap, sym, subst, ◌∙◌, length, List}
use Rattle.fz_model.specs.declared.model.FzVar.{FzVar}
use Rattle.xf_text.specs.Outside.{Appended, AppendedFront}
use Rattle.xf_carry.specs.Lines.{end_lines}
use Rattle.xf_carry.specs.Lowered.{low_items}
use Rattle.xf_carry.proofs.Extension.{shown_count}
use Rattle.xf_carry.proofs.Fronts.{moved, moved_front, err_maps, ok_maps}
use Rattle.xf_carry.proofs.write.write_calls.Goals as goal

pub emit_calls-result-requires-clause-named : goal.emit_calls-result-requires-clause-named
emit_calls-result-requires-clause-named g c = ap length (c.new-emit.ensures.named ∙ c.requires.named) ∙ shown_count c.args.inst.now c.requires.accepted.sound

pub emit_calls-result-requires-clause-room : goal.emit_calls-result-requires-clause-room
emit_calls-result-requires-clause-room g c = c.new-emit.ensures.count ∙ ap length c.requires.named ∙ shown_count c.args.inst.now c.requires.accepted.sound

pub returns-clause-ok : goal.returns-clause-ok
returns-clause-ok g c =
    let h = g.W.Sink.holds in
    let e = c.new-emit.ensures in
    let n = c.emit_calls-result.new.emit.out in
    let items = low_items c.args.inst.now in
    let A = Appended (h c.new-emit.result.out) (h n) in
    ok_maps c.emit_calls-result.result
    (λ t. moved _ _ _ _ _ (ap h e.out) (ap h (sym c.into_sink.ensures)) (subst (λ (vs : List FzVar). A (end_lines vs items)) e.named t))
    c.emit_calls-result.ensures.ok

pub returns-clause-front : goal.returns-clause-front
returns-clause-front g c =
    let h = g.W.Sink.holds in
    let e = c.new-emit.ensures in
    let n = c.emit_calls-result.new.emit.out in
    let items = low_items c.args.inst.now in
    let A = AppendedFront (h c.new-emit.result.out) (h n) in
    err_maps c.emit_calls-result.result
    (λ t. moved_front _ _ _ _ _ (ap h e.out) (ap h (sym c.into_sink.ensures)) (subst (λ (vs : List FzVar). A (end_lines vs items)) e.named t))
    c.emit_calls-result.ensures.front
