use Rattle.std.proofs.Common.{◌≡◌, ◌≤◌, ◌+◌, ◌∙◌, length, length-drop, arith, rules, sym, ap, subst, Some}
use Rattle.xf_markup.specs.Tokens.{cut_at, size}
use Rattle.xf_markup.specs.Reading.{Answers}
use Rattle.xf_markup.specs.Growing.{SoFar}
use Rattle.xf_markup.proofs.ReadLemmas.{went_on, stopped, at_end}
use Rattle.xf_markup.proofs.read.scan.Goals as goal

pub returns-in-Err : goal.returns-in-Err
returns-in-Err c =
    let inv = c.loop-at.invariant in
    let is : cut_at c.rest_of-rest.result.now ≡ Some c.in-Some.cut = sym c.in_ok-found.ensures.value ∙ c.in-Some.is in
    stopped (Unit {0}) c.args.text.now c.rest_of-rest.result.now c.loop-at.at c.loop-at.growing c.take.new.self c.in-Some.cut c.in-Err.stop inv.so_far inv.within c.rest_of-rest.ensures is c.in-Err.ensures

pub loop-at-preserved : goal.loop-at-preserved
loop-at-preserved c =
    let inv = c.loop-at.invariant in
    let is : cut_at c.rest_of-rest.result.now ≡ Some c.in-Some.cut = sym c.in_ok-found.ensures.value ∙ c.in-Some.is in
    let le : size c.in-Some.cut ≤ length c.rest_of-rest.result.now = search rules in
    let on = went_on c.args.text.now c.rest_of-rest.result.now c.loop-at.at c.loop-at.growing c.take.new.self c.in-Some.cut c.in-Ok.field-0 inv.so_far inv.within c.rest_of-rest.ensures is c.in-Ok.ensures in
    record {
      within = omega (arith, le, ap length c.rest_of-rest.ensures, length-drop c.loop-at.at c.args.text.now);
      so_far = subst (λ n. SoFar c.args.text.now (c.loop-at.at + n) c.take.new.self) (sym c.size-size.ensures) on;
    }

pub returns : goal.returns
returns c =
    let inv = c.loop-at.invariant in
    let whole : c.loop-at.at ≡ length c.args.text.now = omega arith in
    subst (λ r. Answers r c.args.text.now) (sym c.finish.ensures) (at_end c.args.text.now c.loop-at.at c.loop-at.growing inv.so_far whole)
