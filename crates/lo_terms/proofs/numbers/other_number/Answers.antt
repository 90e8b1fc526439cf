use Rattle.std.proofs.Common.{OnOk, OnErr, sym, subst}
use Rattle.lo_terms.specs.Rules.{other_number}
use Rattle.xs_model.specs.declared.expr.Op.{Op}
use Rattle.lo_terms.proofs.numbers.other_number.Goals as goal

pub returns-in-If-clause-ok : goal.returns-in-If-clause-ok
returns-in-If-clause-ok g c =
    subst
    (λ (op : Op). OnOk c.choice_of.result (g.E.Emit.grew c.args.out.now c.choice_of.new.out (other_number op c.args.span (g.E.Emit.count c.args.out.now) c.args.operands.now).items))
    (sym c.in-If.is) c.choice_of.ensures.ok

pub returns-in-If-clause-stopped : goal.returns-in-If-clause-stopped
returns-in-If-clause-stopped g c =
    subst
    (λ (op : Op). OnErr c.choice_of.result (g.E.Emit.began c.args.out.now c.choice_of.new.out (other_number op c.args.span (g.E.Emit.count c.args.out.now) c.args.operands.now).items))
    (sym c.in-If.is) c.choice_of.ensures.stopped
