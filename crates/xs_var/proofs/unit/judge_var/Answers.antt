use Rattle.std.proofs.Common.{◌≡◌, ◌&&◌, ◌∙◌, ap}
use Rattle.xs_fields.specs.Conditions.{first_missed}
use Rattle.xs_model.specs.Outline.{names_in}
use Rattle.xs_model.specs.Sound.{names_of}
use Rattle.xs_var.specs.VarDomain.{counts_meet}
use Rattle.xs_var.specs.VarUnit.{domain_for}
use Rattle.xs_var.specs.Variable.{names_meet, var_fields_meet}
use Rattle.xs_var.proofs.LikeLemmas.{names_known}
use Rattle.xs_var.proofs.unit.judge_var.Goals as goal

pub returns : goal.returns
returns c =
    let node = c.args.node.now in
    let ds = c.args.decls.now in
    let d = domain_for ds node in
    let counts_is : c.judge_counts-counts.result ≡ first_missed (counts_meet c.args.cells c.args.values d) = c.judge_counts-counts.ensures ∙ ap (λ o. first_missed (counts_meet c.args.cells c.args.values o)) c.requires.domain in
    let names_is : c.judge_names.result ≡ first_missed (names_meet (names_of ds) node) = c.judge_names.ensures ∙ ap (λ ns. first_missed (names_meet ns node)) (ap names_in c.requires.names ∙ names_known ds) in
    let others = c.earlier-others.ensures.joins (names_meet (names_of ds) node) (counts_meet c.args.cells c.args.values d) names_is counts_is in
    c.earlier.ensures.joins (var_fields_meet node) (λ k. names_meet (names_of ds) node k && counts_meet c.args.cells c.args.values d k) c.requires.fields others
