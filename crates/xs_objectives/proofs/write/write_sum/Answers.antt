use Rattle.std.proofs.Common.{codes}
use Rattle.xs_model.specs.Names.{words}
use Rattle.xs_objectives.specs.Written.{terms_text, vars_text}
use Rattle.xs_objectives.proofs.TextLemmas.{five_more}
use Rattle.xs_objectives.proofs.write.write_sum.Goals as goal

pub returns : goal.returns
returns c =
    five_more c.extend_from_slice-3.new.self.items c.write_terms.new.out.items c.extend_from_slice-2.new.self.items c.write_vars.new.out.items c.extend_from_slice.new.self.items c.args.out.now.items
    (codes " <list>") (vars_text (words c.args.decls.now) c.args.list.now) (codes "</list> <coeffs>") (terms_text (words c.args.decls.now) c.args.coeffs.now) (codes "</coeffs> ")
    c.in_ok-extend_from_slice-3.ensures.items c.in_ok-write_terms.ensures c.in_ok-extend_from_slice-2.ensures.items c.in_ok-write_vars.ensures c.in_ok-extend_from_slice.ensures.items
