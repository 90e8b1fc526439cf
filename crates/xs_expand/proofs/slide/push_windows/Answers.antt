use Rattle.std.proofs.Common.{◌≡◌, ◌+◌, ◌%◌, ℕ, List, length, map, sym, ap, ◌∙◌, arith, rules}
use Rattle.xs_template.specs.Concrete.{made_from}
use Rattle.xs_template.specs.Template.{filled}
use Rattle.xs_units.specs.Units.{take_all, then_on}
use Rattle.xs_template.specs.Windows.{made_at, multiples_from, room}
use Rattle.xs_expand.proofs.SlideLemmas.{all_windows, window_on, windows_done}
use Rattle.xs_template.proofs.WindowLemmas.{first}
use Rattle.xs_expand.proofs.slide.push_windows.Goals as goal

pub returns-in-Some-clause-run : goal.returns-in-Some-clause-run
returns-in-Some-clause-run g c =
    let taken = g.T.Take.taken in
    let over = λ (w : List (List ℕ)). made_from (λ spots. filled w c.args.asked spots) c.args.place c.args.template.now in
    let made = made_at over c.args.asked c.args.list.now in
    let start = c.loop-start.start in
    let end = c.room-end.result in
    let told = take_all taken (map made (multiples_from c.args.offset 0 end)) c.args.known.now in
    let multiple : start % c.args.offset ≡ 0 = c.loop-start.invariant.multiple c.loop-start-test.true in
    let on = window_on taken c.loop-start.known c.take_window.new.known c.in_ok-fault.fault made c.args.offset start (start + 1) end told (first c.args.offset start end multiple c.loop-start-test.true) c.in_ok-fault.ensures.run c.loop-start.invariant.so_far in
    let is : end ≡ room c.args.circular c.args.asked (length c.args.list.now) = search rules in
    sym (ap (λ n. take_all taken (map made (multiples_from c.args.offset 0 n)) c.args.known.now) is ∙ ap (λ cs. take_all taken cs c.args.known.now) (all_windows over c.args.circular c.args.offset c.args.asked c.args.list.now))
    ∙ sym on ∙ ap (λ f. then_on f c.take_window.new.known (take_all taken (map made (multiples_from c.args.offset (start + 1) end)))) c.in-Some.is

pub returns-clause-run : goal.returns-clause-run
returns-clause-run g c =
    let taken = g.T.Take.taken in
    let over = λ (w : List (List ℕ)). made_from (λ spots. filled w c.args.asked spots) c.args.place c.args.template.now in
    let made = made_at over c.args.asked c.args.list.now in
    let end = c.room-end.result in
    let told = take_all taken (map made (multiples_from c.args.offset 0 end)) c.args.known.now in
    let done = windows_done taken c.loop-start.known made c.args.offset c.loop-start.start end told (omega (arith, c.loop-start-test.false)) c.loop-start.invariant.so_far in
    let is : end ≡ room c.args.circular c.args.asked (length c.args.list.now) = search rules in
    sym (done ∙ ap (λ n. take_all taken (map made (multiples_from c.args.offset 0 n)) c.args.known.now) is ∙ ap (λ cs. take_all taken cs c.args.known.now) (all_windows over c.args.circular c.args.offset c.args.asked c.args.list.now))
