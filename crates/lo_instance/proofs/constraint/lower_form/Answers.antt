use Rattle.std.proofs.Common.{rules}
use Rattle.lo_instance.proofs.Counts.{few_tuples_of, few_edges_of, few_branches_of}
use Rattle.lo_instance.proofs.constraint.lower_form.Goals as goal

pub lower_extension-requires-clause-few : goal.lower_extension-requires-clause-few
lower_extension-requires-clause-few g c =
    let p = c.in-Extension in
    few_tuples_of c.args.spans.now c.args.c.now p.list p.tuples p.positive _ _ p.is (search rules) (search rules) c.requires.sound c.requires.few

pub lower_mdd-requires-clause-few : goal.lower_mdd-requires-clause-few
lower_mdd-requires-clause-few g c =
    let p = c.in-Mdd in
    few_branches_of c.args.c.now p.list p.edges p.root p.leaf _ _ p.is (search rules) (search rules) c.requires.few

pub lower_regular-requires-clause-few : goal.lower_regular-requires-clause-few
lower_regular-requires-clause-few g c =
    let p = c.in-Regular in
    few_edges_of c.args.c.now p.list p.edges p.start p.finals _ _ p.is (search rules) (search rules) c.requires.few
