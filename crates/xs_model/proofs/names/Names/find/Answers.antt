use Rattle.std.proofs.Common.{◌≡◌, ◌-◌, sym, subst, take, drop, length, arith}
use Rattle.std.proofs.lemmas.Grind.{common_steps}
use Rattle.std.proofs.lemmas.Option.{IfSome_then}
use Rattle.xs_model.specs.Outline.{IsNamed}
use Rattle.xs_model.specs.Places.{DenotesCell}
use Rattle.xs_model.proofs.FindLemmas.{declared_is, cell_is, denotes_from}
use Rattle.xs_model.proofs.names.Names.find.Goals as goal

pub returns-in-Some-clause-found : goal.returns-in-Some-clause-found
returns-in-Some-clause-found c =
    let os = c.args.self.now in
    let word = c.args.word.now in
    let end = c.identifier_end-end.result in
    let rest : take (length word - end) (drop end word) ≡ drop end word = grind (arith, common_steps) in
    IfSome_then c.find_cell.result c.find_cell.ensures.found (λ k h. denotes_from os word end c.in-Some.at k c.in-Some.ensures.found (subst (λ xs. DenotesCell os c.in-Some.at xs k) rest h))

pub returns-in-Some-clause-only : goal.returns-in-Some-clause-only
returns-in-Some-clause-only c = λ k d.
    let os = c.args.self.now in
    let word = c.args.word.now in
    let end = c.identifier_end-end.result in
    let rest : take (length word - end) (drop end word) ≡ drop end word = grind (arith, common_steps) in
    let sound = c.position.ensures.sound in
    let there = subst (λ n. IsNamed os d.at (take n word)) (sym c.identifier_end-end.ensures) (declared_is os sound word k d) in
    let same = c.in-Some.ensures.only d.at there in
    let at : d.at ≡ c.in-Some.at = cc in
    let cell = subst (λ n. DenotesCell os d.at (drop n word) k) (sym c.identifier_end-end.ensures) (cell_is os sound word k d) in
    c.find_cell.ensures.only k (subst (λ xs. DenotesCell os c.in-Some.at xs k) (sym rest) (subst (λ a. DenotesCell os a (drop end word) k) at cell))

pub returns-in-None-clause-only : goal.returns-in-None-clause-only
returns-in-None-clause-only c = λ k d.
    let os = c.args.self.now in
    let word = c.args.word.now in
    let there = subst (λ n. IsNamed os d.at (take n word)) (sym c.identifier_end-end.ensures) (declared_is os c.position.ensures.sound word k d) in
    absurd (cc (c.in-None.ensures.only d.at there))
