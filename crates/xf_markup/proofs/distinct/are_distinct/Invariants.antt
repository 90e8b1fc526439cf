use Rattle.std.proofs.Common.{◌≡◌, List, ℕ, not, take, true, Bor}
use Rattle.std.specs.BTreeSet.{contains}
use Rattle.std.specs.Ordering.{nat_cmp}
use Rattle.std.specs.Cmp.Lexicographic.{slice_cmp}
use Rattle.xf_markup.specs.Tag.{is_new, are_distinct}
use Rattle.xf_markup.proofs.distinct.are_distinct.Given as goal

abbrev pub invariant-loop-attr : goal.invariant-loop-attr
invariant-loop-attr l = record {
  seen : (q : Bor (List ℕ)) → contains (λ (x y : Bor (List ℕ)). slice_cmp nat_cmp x.now y.now) l.names q ≡ not (is_new (take l.attr-index l.attrs) q.now);
  distinct : are_distinct (take l.attr-index l.attrs) ≡ true;
}
