use Rattle.std.proofs.Common.{rules, sym, subst, pos, ◌<ℤ◌}
use Rattle.std.proofs.lemmas.Int.{to_z-of_z}
use Rattle.std.specs.Int.{w128}
use Rattle.xs_model.specs.Denotes.{SpellsIndex}
use Rattle.xs_model.proofs.BracketLemmas.{front_of, one_front}
use Rattle.xs_model.proofs.brackets.front_index.Goals as goal

pub returns-in-None-index_below-clause-none : goal.returns-in-None-index_below-clause-none
returns-in-None-index_below-clause-none c = λ index more b.
    let same = one_front _ _ _ _ _ (front_of _ _ _ _ b) c.in-Some.ensures.found in
    let size = to_z-of_z w128 c.args.size (search rules) in
    let said = c.in-None-index_below.ensures.only index (subst (λ inner. SpellsIndex inner index) same.0 b.spells) (subst (λ n. pos index <ℤ n) (sym size) b.below) in
    cc

pub returns-in-None-clause-none : goal.returns-in-None-clause-none
returns-in-None-clause-none c = λ index more b. c.in-None.ensures.none b.inner more (front_of _ _ _ _ b)
