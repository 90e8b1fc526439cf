use Rattle.std.proofs.Common.{◌≡◌, ◌++◌, drop}
use Rattle.std.specs.List.{flat_map}
use Rattle.xs_template.specs.Template.{filled, spot_text}
use Rattle.xs_template.specs.Windows.{window}
use Rattle.xs_template.proofs.windows.fill_window.Given as goal

abbrev pub invariant-loop-spot : goal.invariant-loop-spot
invariant-loop-spot l = l.text ++ flat_map (spot_text (window l.wide l.list l.start) l.wide) (drop l.spot-index l.spots) ≡ filled (window l.wide l.list l.start) l.wide l.spots
