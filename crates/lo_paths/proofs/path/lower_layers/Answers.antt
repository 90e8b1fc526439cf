use Rattle.std.proofs.Common.{◌≡◌, ℕ, ◌+◌, ◌*◌, ◌≤◌, arith}
use Rattle.std.proofs.lemmas.List.{at_drop_more}
use Rattle.lo_paths.specs.Path.{low_layers}
use Rattle.lo_paths.proofs.path.lower_layers.Goals as goal

one_more : (i e k n m : ℕ) → m ≤ k + 3 * e → k ≤ n + i * (3 * e) → m ≤ n + (i + 1) * (3 * e)
one_more i e k n m h g = grind arith

pub loop-x-preserved : goal.loop-x-preserved
loop-x-preserved g c =
    let counted = c.in_ok-layer-2.ensures.count in
    let value = c.in_ok-layer-2.ensures.value in
    let more = at_drop_more (low_layers c.args.edges.now c.args.finals.now (g.E.Emit.count c.loop-x.out) c.loop-x.layer) c.args.list.now c.loop-x.x-index _ (omega arith) in
    record {
      due = rw value (rw counted (g.met.E.Emit.goes_on _ _ _ _ _ _ _ c.loop-x.invariant.due c.in_ok-layer-2.ensures.ok more));
      even = c.in_ok-layer-2.ensures.even;
      room = one_more c.loop-x.x-index _ _ _ _ c.in_ok-layer-2.ensures.few c.loop-x.invariant.room;
    }
