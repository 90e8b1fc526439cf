use Rattle.std.proofs.Common.{◌≡◌, ◌+◌, ◌-◌, take, drop, length, sym, subst, arith}
use Rattle.std.proofs.lemmas.Grind.{common_steps}
use Rattle.xs_model.specs.Places.{IsCut}
use Rattle.xs_model.proofs.BracketLemmas.{cut_at, no_cut}
use Rattle.xs_model.proofs.brackets.cut_at_close.Goals as goal

pub returns-in-Some-clause-found : goal.returns-in-Some-clause-found
returns-in-Some-clause-found c =
    let text = c.args.text.now in
    let rest : take (length text - (c.in-Some.end + 1)) (drop (c.in-Some.end + 1) text) ≡ drop (c.in-Some.end + 1) text = grind (arith, common_steps) in
    subst (λ more. IsCut text (take c.in-Some.end text) more) (sym rest) (cut_at text c.in-Some.end (sym c.in-Some.ensures))

pub returns-in-None-clause-none : goal.returns-in-None-clause-none
returns-in-None-clause-none c = λ inner more h. no_cut c.args.text.now inner more (sym c.in-None.ensures) h
