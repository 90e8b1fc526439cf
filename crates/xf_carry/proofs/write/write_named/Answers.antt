use Rattle.std.specs.Prelude.{[]}
use Rattle.fz_file.specs.Layout.{var_line}
use Rattle.lo_base.specs.Partway.{on_err}
use Rattle.xf_carry.proofs.Fronts.{front_taken, front_within, front_line}
use Rattle.xf_carry.proofs.write.write_named.Goals as goal

pub returns-in_err-push_var-clause-front : goal.returns-in_err-push_var-clause-front
returns-in_err-push_var-clause-front g c = on_err _ (front_taken (var_line []) c.args.named.now c.loop-var.var-index _ _ c.loop-var.invariant.told)

pub returns-in_err-write_line-clause-front : goal.returns-in_err-write_line-clause-front
returns-in_err-write_line-clause-front g c =
    on_err _ (front_within (var_line []) c.args.named.now c.loop-var.var-index _ _ _ c.var-item.result c.loop-var-test.true c.var-item.is c.loop-var.invariant.told
    (front_line _ _ _ _ _ _ c.deref.ensures.value c.in_ok-push_var.ensures c.clear.ensures.items c.in_err-write_line.ensures.front))
