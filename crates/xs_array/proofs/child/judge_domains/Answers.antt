use Rattle.std.proofs.Common.{◌≡◌, ◌∙◌, ap, sym}
use Rattle.std.specs.List.{list_all}
use Rattle.xs_fields.specs.Conditions.{first_missed}
use Rattle.xs_fields.specs.Words.{words_of}
use Rattle.xs_var.specs.Elements.{children_of}
use Rattle.xs_var.specs.Variable.{is_blank, spelling_meets}
use Rattle.xs_array.specs.ArrayUnit.{domains_meet}
use Rattle.xs_array.specs.DomainChild.{domain_child_meets}
use Rattle.xs_array.proofs.FieldLemmas.{blank_is, domains_more, no_children, some_children}
use Rattle.xs_array.proofs.child.judge_domains.Goals as goal

pub returns-then-has_no_child : goal.returns-then-has_no_child
returns-then-has_no_child c =
    let none = no_children c.args.pieces.now (sym c.has_no_child.ensures ∙ c.if-has_no_child.true) in
    c.judge_pieces.ensures ∙ ap (λ cs. first_missed (domains_meet c.args.name.now c.args.sizes.now cs c.args.text.now)) (sym none)

pub returns-in_ok-children : goal.returns-in_ok-children
returns-in_ok-children c =
    let name = c.args.name.now in
    let sizes = c.args.sizes.now in
    let text = c.args.text.now in
    let cs = children_of c.args.pieces.now in
    let blank : c.is_blank.result ≡ is_blank text = blank_is c.is_blank.result (words_of text) c.is_blank.ensures.0 c.is_blank.ensures.1 in
    let spelt : c.judge_spelling.result ≡ first_missed (spelling_meets (is_blank text)) = c.judge_spelling.ensures ∙ ap (λ b. first_missed (spelling_meets b)) blank in
    c.earlier.ensures.joins (spelling_meets (is_blank text)) (λ k. list_all (λ d. domain_child_meets name sizes d k) cs) spelt c.in_ok-children.ensures
    ∙ domains_more name sizes cs text (some_children c.args.pieces.now (sym c.has_no_child.ensures ∙ c.if-has_no_child.false))
