use Rattle.std.proofs.Common.{◌≡◌, ◌≤◌, ◌<◌, ◌-◌, ◌%◌, map}
use Rattle.xs_template.specs.Concrete.{made_from}
use Rattle.xs_template.specs.Template.{filled}
use Rattle.xs_units.specs.Units.{take_all}
use Rattle.xs_template.specs.Windows.{made_at, multiples_from}
use Rattle.xs_expand.proofs.slide.push_windows.Given as goal

abbrev pub invariant-loop-start : goal.invariant-loop-start
invariant-loop-start g l = record {
  within : l.start ≤ l.end;
  multiple : l.start < l.end → l.start % l.offset ≡ 0;
  words : l.known.words ≡ l.initial.known.words;
  so_far : take_all g.T.Take.taken (map (made_at (λ w. made_from (λ spots. filled w l.asked spots) l.place l.template) l.asked l.list) (multiples_from l.offset l.start l.end)) l.known
      ≡ take_all g.T.Take.taken (map (made_at (λ w. made_from (λ spots. filled w l.asked spots) l.place l.template) l.asked l.list) (multiples_from l.offset 0 l.end)) l.initial.known;
}

abbrev pub decreases-loop-start : goal.decreases-loop-start
decreases-loop-start g l = l.end - l.start
