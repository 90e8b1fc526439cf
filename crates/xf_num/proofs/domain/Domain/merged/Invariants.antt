use Rattle.std.proofs.Common.{drop}
use Rattle.xf_num.proofs.Merging.{Standing}
use Rattle.xf_num.proofs.domain.Domain.merged.Given as goal

abbrev pub invariant-loop-next : goal.invariant-loop-next
invariant-loop-next l = Standing l.spans l.last l.fn.first l.rest (drop l.next-index l.rest)
