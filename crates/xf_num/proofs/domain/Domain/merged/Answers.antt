use Rattle.std.proofs.Common.{◌≡◌, [], ◌∷◌, ◌++◌, ◌+◌, List, drop, subst, sym, ◌∙◌, rules, pos, ◌+ℤ◌, ◌<ℤ◌, ◌↔◌, arith, length}
use Rattle.std.proofs.lemmas.Int.{ints}
use Rattle.std.proofs.Math.ListN.{drop_of_length-le}
use Rattle.xf_num.specs.Domain.{IsMember}
use Rattle.xf_num.specs.Span.{Bounds}
use Rattle.xf_num.proofs.Merging.{Standing, stands, next_of, meets_next, begins_next, ends}
use Rattle.xf_num.proofs.domain.Domain.merged.Goals as goal
use Rattle.xf_num.proofs.domain.Domain.merged.Goals.{then-meets, else-meets+in_ok-push}

pub loop-next-preserved : goal.loop-next-preserved
loop-next-preserved c =
    let left : List Bounds = drop (c.loop-next.next-index + 1) c.args.rest.now in
    let e = next_of c.args.rest.now c.loop-next.next-index c.next-item.result c.loop-next-test.true c.next-item.is in
    let s = subst (Standing c.loop-next.spans c.loop-next.last c.args.first c.args.rest.now) e c.loop-next.invariant in
    elim c.if-meets.branch [
      | then-meets w ↦
          let m = meets_next c.loop-next.spans c.loop-next.last c.args.first c.next-item.result c.args.rest.now left s (search rules) c.meets.ensures.ordered in
          stands _ _ _ _ _ _ _ w.spans-is (w.last-is ∙ w.hull_with-last.ensures.value) m
      | else-meets+in_ok-push w ↦
          let past : (c.loop-next.last.hi +ℤ pos 1) <ℤ c.next-item.result.lo = grind (arith, ints, c.meets.ensures.value, w.if-meets.false) in
          let m = begins_next c.loop-next.spans c.loop-next.last c.args.first c.next-item.result c.args.rest.now left s past c.meets.ensures.next_ordered in
          stands _ _ _ _ _ _ _ (w.spans-is ∙ w.in_ok-push.ensures.ok) w.last-is m
    ]

pub returns : goal.returns
returns c = λ v.
    let nil : drop c.loop-next.next-index c.args.rest.now ≡ [] = drop_of_length-le _ c.loop-next-test.false in
    let s = subst (Standing c.loop-next.spans c.loop-next.last c.args.first c.args.rest.now) nil c.loop-next.invariant in
    subst (λ ds. IsMember ds v ↔ IsMember (c.args.first ∷ c.args.rest.now) v) (sym (c.shrink_to_fit.ensures ∙ c.in_ok-push-2.ensures.ok)) (ends _ _ _ _ v c.requires s)
