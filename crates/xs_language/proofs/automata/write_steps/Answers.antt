use Rattle.std.proofs.Common.{codes}
use Rattle.xs_language.specs.Written.{list_text, transitions_text}
use Rattle.xs_model.specs.Names.{words}
use Rattle.xs_language.proofs.ShapeLemmas.{three_behind}
use Rattle.xs_language.proofs.automata.write_steps.Goals as goal

pub returns : goal.returns
returns c =
    three_behind c.write_edges.new.out.items c.extend_from_slice.new.self.items c.write_list.new.out.items c.args.out.now.items
    (list_text (words c.args.decls.now) c.args.list.now) (codes "</list> <transitions>") (transitions_text c.args.edges.now)
    c.in_ok-write_edges.ensures c.in_ok-extend_from_slice.ensures.items c.in_ok-write_list.ensures
