use Rattle.std.proofs.Common.{codes}
use Rattle.xs_language.specs.Written.{list_text, opening}
use Rattle.xs_model.specs.Names.{words}
use Rattle.xs_language.proofs.ShapeLemmas.{three_more}
use Rattle.xs_language.proofs.write.write_head.Goals as goal

pub returns : goal.returns
returns c =
    three_more c.extend_from_slice-2.new.self.items c.write_list.new.out.items c.extend_from_slice.new.self.items c.args.out.now.items
    (codes "<extension> <list>") (list_text (words c.args.decls.now) c.args.list.now) c.opening.result.now (opening c.args.positive)
    c.in_ok-extend_from_slice-2.ensures.items c.in_ok-write_list.ensures c.in_ok-extend_from_slice.ensures.items c.opening.ensures
