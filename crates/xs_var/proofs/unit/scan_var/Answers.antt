use Rattle.std.proofs.Common.{◌≡◌, ◌&&◌, ◌∙◌, ap, codes, Option, List, ℕ}
use Rattle.xs_fields.specs.Conditions.{first_missed}
use Rattle.xs_var.specs.Elements.{text_in, value_in}
use Rattle.xs_var.specs.VarDomain.{var_domain}
use Rattle.xs_var.specs.Variable.{as_meets, domain_meets, id_meets, is_var_known, known_meets}
use Rattle.xs_var.proofs.unit.scan_var.Goals as goal

pub returns-clause-missed : goal.returns-clause-missed
returns-clause-missed c =
    let node = c.args.node.now in
    let id : Option (List ℕ) = value_in (codes "id") node.attrs in
    let like : Option (List ℕ) = value_in (codes "as") node.attrs in
    let like_is = c.attribute-like.ensures ∙ ap (λ x. value_in (codes "as") x) c.as_slice-attrs.ensures in
    let id_found = c.attribute.ensures ∙ ap (λ x. value_in (codes "id") x) c.as_slice-attrs.ensures in
    let as_is : c.judge_as.result ≡ first_missed (as_meets like) = c.judge_as.ensures ∙ ap (λ o. first_missed (as_meets o)) like_is in
    let domain_is : c.in_ok-text.text.missed ≡ first_missed (domain_meets like (text_in node.pieces)) =
    c.in_ok-text.ensures.missed ∙ ap (λ o. first_missed (domain_meets o (text_in node.pieces))) like_is in
    let id_is : c.judge_id.result ≡ first_missed (id_meets id) = c.judge_id.ensures ∙ ap (λ o. first_missed (id_meets o)) id_found in
    let known_is : c.judge_known.result ≡ first_missed (known_meets (is_var_known node)) = c.judge_known.ensures ∙ ap (λ b. first_missed (known_meets b)) c.is_var_known.ensures in
    let spelt = c.earlier-spelt.ensures.joins (as_meets like) (domain_meets like (text_in node.pieces)) as_is domain_is in
    let named = c.earlier-named.ensures.joins (id_meets id) (λ k. as_meets like k && domain_meets like (text_in node.pieces) k) id_is spelt in
    c.earlier-missed.ensures.joins (known_meets (is_var_known node)) (λ k. id_meets id k && (as_meets like k && domain_meets like (text_in node.pieces) k)) known_is named

pub returns-clause-value : goal.returns-clause-value
returns-clause-value c =
    let node = c.args.node.now in
    let like_is = c.attribute-like.ensures ∙ ap (λ x. value_in (codes "as") x) c.as_slice-attrs.ensures in
    c.in_ok-text.ensures.value ∙ ap (λ o. var_domain c.args.decls.now o (text_in node.pieces)) like_is
