use Rattle.std.proofs.Common.{arith}
use Rattle.std.proofs.lemmas.Result.{IfOk-weaker}
use Rattle.xs_vars.proofs.VarLemmas.{has_met, is_sound, is_taken, judged}
use Rattle.xs_var.specs.VarUnit.{Declared}
use Rattle.xs_vars.proofs.variable.read_variable.Goals as goal

pub counted-requires-clause-cells : goal.counted-requires-clause-cells
counted-requires-clause-cells c =
    let s : Declared = record { decls = c.args.decls.now; cells = c.args.cells; values = c.args.values } in
    let j = judged s c.args.node.now c.kept-domain.result _ _ c.judge_var.ensures c.in-None.is c.kept-domain.ensures.value c.in_ok-reading.ensures.value in
    let m = has_met s c.args.node.now c.kept-domain.result j in
    omega (arith, m.cells)

pub counted-requires-clause-values : goal.counted-requires-clause-values
counted-requires-clause-values c =
    let s : Declared = record { decls = c.args.decls.now; cells = c.args.cells; values = c.args.values } in
    let j = judged s c.args.node.now c.kept-domain.result _ _ c.judge_var.ensures c.in-None.is c.kept-domain.ensures.value c.in_ok-reading.ensures.value in
    (has_met s c.args.node.now c.kept-domain.result j).values

pub returns-in-None-clause-value : goal.returns-in-None-clause-value
returns-in-None-clause-value c =
    let s : Declared = record { decls = c.args.decls.now; cells = c.args.cells; values = c.args.values } in
    let j = judged s c.args.node.now c.kept-domain.result _ _ c.judge_var.ensures c.in-None.is c.kept-domain.ensures.value c.in_ok-reading.ensures.value in
    IfOk-weaker c.counted.result _ _ (λ r e. is_taken s c.args.node.now c.kept-domain.result r j e) c.counted.ensures

pub returns-in-None-clause-sound : goal.returns-in-None-clause-sound
returns-in-None-clause-sound c =
    let s : Declared = record { decls = c.args.decls.now; cells = c.args.cells; values = c.args.values } in
    let j = judged s c.args.node.now c.kept-domain.result _ _ c.judge_var.ensures c.in-None.is c.kept-domain.ensures.value c.in_ok-reading.ensures.value in
    IfOk-weaker c.counted.result _ _ (λ r e. is_sound s c.args.node.now c.kept-domain.result r j c.requires.decls c.kept-domain.ensures.ascends e) c.counted.ensures
