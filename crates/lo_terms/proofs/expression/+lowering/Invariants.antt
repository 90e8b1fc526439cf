use Rattle.std.proofs.Common.{◌≡◌, ◌≤◌, ◌+◌, ◌*◌, ◌++◌, drop, length, map}
use Rattle.lo_base.specs.Partway.{Partway}
use Rattle.lo_terms.specs.Gathered.{with_all}
use Rattle.lo_terms.specs.Lowering.{low_operands}
use Rattle.xs_expr.specs.Operands.{gathered_of, none}
use Rattle.xs_model.specs.Bounds.{bounds, all_ok}
use Rattle.xs_model.specs.Formed.{nodes_of}
use Rattle.lo_terms.proofs.expression.+lowering.Given as goal

abbrev pub invariant-lower_operands-loop-place : goal.invariant-lower_operands-loop-place
invariant-lower_operands-loop-place g l =
    let e = g.E.Emit in
    record {
      due : Partway e.grew l.fn.out l.out (low_operands l.spans l.op l.mode l.place (e.count l.out) (drop l.place l.items)).items (low_operands l.spans l.op l.mode 0 (e.count l.fn.out) l.items).items;
      told : l.operands ++ (low_operands l.spans l.op l.mode l.place (e.count l.out) (drop l.place l.items)).operands ≡ l.fn.operands ++ (low_operands l.spans l.op l.mode 0 (e.count l.fn.out) l.items).operands;
      ends : with_all l.op l.place l.gathered (all_ok (map (bounds l.spans) (drop l.place l.items))) ≡ gathered_of l.op 0 none (all_ok (map (bounds l.spans) l.items));
      longer : length l.fn.operands ≤ length l.operands;
      room : e.count l.out + length l.operands + 68 * nodes_of (drop l.place l.items) ≤ e.count l.fn.out + length l.fn.operands + 68 * nodes_of l.items;
    }
