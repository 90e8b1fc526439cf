use Rattle.std.proofs.Common.{◌≡◌, ◌↔◌, Bool, true, sym, subst}
use Rattle.xs_model.specs.Language.{IsInSpans}
use Rattle.xs_model.specs.Value.{at}
use Rattle.xs_tables.proofs.HoldLemmas.{ranges_hold}
use Rattle.xs_tables.proofs.holds.holds_ranges.Goals as goal

pub returns : goal.returns
returns c =
    subst (λ (v : Bool). (v ≡ true) ↔ IsInSpans c.args.positive c.args.spans.now (at c.args.a.now c.args.variable)) (sym c.is_asked.ensures)
    (ranges_hold c.args.spans.now c.args.positive (at c.args.a.now c.args.variable) c.is_held-some.result c.is_held-some.ensures)
