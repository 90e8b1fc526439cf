use Rattle.std.proofs.Common.{arith}
use Rattle.xf_num.specs.Span.{width_of}
use Rattle.fz_items.proofs.PlaceLemmas.{product_some, width_some, turned, too_many}
use Rattle.fz_items.proofs.notes.has_places.Goals as goal

pub returns-in-None : goal.returns-in-None
returns-in-None c = too_many c.args.dims.now c.loop-span.span-index c.span-item.result c.loop-span.product c.args.count _ c.loop-span-test.true c.span-item.is c.in-None.ensures c.loop-span.invariant.so_far

pub loop-span-preserved : goal.loop-span-preserved
loop-span-preserved c =
    let p = product_some c.loop-span.product (width_of c.span-item.result) c.loop-span.invariant.some (width_some c.span-item.result) in
    record {
      some = omega (arith, p, c.in-Some.ensures.1);
      so_far = turned c.args.dims.now c.loop-span.span-index c.span-item.result c.loop-span.product c.in-Some.more _ c.loop-span-test.true c.span-item.is c.in-Some.ensures.1 c.loop-span.invariant.so_far;
    }
