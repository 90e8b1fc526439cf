use Rattle.std.proofs.Common.{◌∙◌, sym}
use Rattle.xs_circuits.proofs.TextLemmas.{start_shown}
use Rattle.xs_circuits.proofs.write.write_start.Goals as goal

pub returns-in_ok-extend_from_slice-2 : goal.returns-in_ok-extend_from_slice-2
returns-in_ok-extend_from_slice-2 c =
    start_shown c.extend_from_slice-then-not-is_zero.new.self.items c.write_int.new.out.items c.extend_from_slice.new.self.items c.args.out.now.items c.args.start.now
    (sym c.is_zero.ensures ∙ c.if-not-is_zero.true) c.in_ok-extend_from_slice-2.ensures.items c.in_ok-write_int.ensures c.in_ok-extend_from_slice.ensures.items
