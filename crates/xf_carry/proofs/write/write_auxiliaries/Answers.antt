use Rattle.std.proofs.Common.{ap, sym, ◌∙◌}
use Rattle.xf_carry.specs.Lowered.{low_items}
use Rattle.xf_carry.proofs.Fronts.{moved, moved_front}
use Rattle.xf_carry.proofs.Steps.{decls_grew, decls_began}
use Rattle.xf_carry.proofs.write.write_auxiliaries.Goals as goal

pub returns-in-Ok-clause-ok : goal.returns-in-Ok-clause-ok
returns-in-Ok-clause-ok g c =
    let h = g.W.Sink.holds in
    let e = c.new-emit.ensures in
    moved _ _ _ _ _ (ap h e.out) (ap h (sym c.into_sink.ensures)) (decls_grew h g.W.Sink.faults c.new-emit.result c.lower_all.new.out (low_items c.args.inst.now) (e.count ∙ sym e.named) c.in-Ok.ensures.ok)

pub returns-in-Err-clause-front : goal.returns-in-Err-clause-front
returns-in-Err-clause-front g c =
    let h = g.W.Sink.holds in
    let e = c.new-emit.ensures in
    moved_front _ _ _ _ _ (ap h e.out) (ap h (sym c.into_sink-in-Err.ensures)) (decls_began h g.W.Sink.faults c.new-emit.result c.lower_all.new.out (low_items c.args.inst.now) (e.count ∙ sym e.named) c.in-Err.ensures.stopped)
