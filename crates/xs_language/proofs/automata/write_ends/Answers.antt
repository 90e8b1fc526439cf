use Rattle.std.proofs.Common.{[], ◌∷◌, codes}
use Rattle.xs_language.specs.Written.{states_text}
use Rattle.xs_language.proofs.ShapeLemmas.{five_behind}
use Rattle.xs_language.proofs.automata.write_ends.Goals as goal

pub returns : goal.returns
returns c =
    five_behind c.extend_from_slice-3.new.self.items c.write_states-2.new.out.items c.extend_from_slice-2.new.self.items c.write_states.new.out.items c.extend_from_slice.new.self.items c.args.out.now.items
    (codes "</transitions> <start>") (states_text (c.args.start ∷ [])) (codes "</start> <final>") (states_text c.args.finals.now) (codes "</final> </regular>")
    c.in_ok-extend_from_slice-3.ensures.items c.in_ok-write_states-2.ensures c.in_ok-extend_from_slice-2.ensures.items c.in_ok-write_states.ensures c.in_ok-extend_from_slice.ensures.items
