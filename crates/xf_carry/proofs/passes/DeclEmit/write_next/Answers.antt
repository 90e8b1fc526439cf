use Rattle.std.proofs.Common.{subst, []}
use Rattle.fz_file.specs.Layout.{var_line}
use Rattle.fz_model.specs.declared.model.FzVar.{FzVar}
use Rattle.xf_text.specs.Outside.{AppendedFront}
use Rattle.lo_base.specs.Partway.{on_err}
use Rattle.xf_carry.proofs.Fronts.{front_none, front_line}
use Rattle.xf_carry.proofs.passes.DeclEmit.write_next.Goals as goal

pub returns-in_err-push_var-clause-front : goal.returns-in_err-push_var-clause-front
returns-in_err-push_var-clause-front g c = on_err _ (front_none _ _)

pub returns-in_err-write_line-clause-front : goal.returns-in_err-write_line-clause-front
returns-in_err-write_line-clause-front g c =
    let h = g.W.Sink.holds in
    on_err _ (subst (λ (v : FzVar). AppendedFront (h c.args.self.now.out) (h c.write_line.new.out) (var_line [] v)) c.in_ok-var.ensures
    (front_line _ _ _ _ _ _ c.deref.ensures.value c.in_ok-push_var.ensures c.clear.ensures.items c.in_err-write_line.ensures.front))
