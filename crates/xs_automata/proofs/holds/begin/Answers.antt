use Rattle.std.proofs.Common.{Bool, List, true, set, take, ap, ◌∙◌}
use Rattle.std.proofs.Math.Seq.{take-set-lt}
use Rattle.xs_forms.specs.Room.{Room}
use Rattle.xs_automata.proofs.holds.begin.Goals as goal

pub returns-clause-value : goal.returns-clause-value
returns-clause-value c =
    ap (λ (r : Room). take c.args.count r.first) c.mark.ensures ∙ take-set-lt c.args.count c.clear.new.scratch.first c.args.start true c.requires.start
    ∙ ap (λ (bs : List Bool). set bs c.args.start true) c.clear.ensures.value
