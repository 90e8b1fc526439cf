use Rattle.std.proofs.Common.{◌++◌, ◌+◌, ap, sym, subst, ◌∙◌, append_assoc, drop, ◌∷◌}
use Rattle.std.proofs.lemmas.List.{at_drop_more}
use Rattle.xs_model.specs.declared.decl.Decl.{Decl}
use Rattle.xs_model.specs.Names.{words_of, domains_of}
use Rattle.xs_model.specs.Sound.{IsSoundDecl}
use Rattle.lo_names.specs.Shown.{shown_vars, shown_each}
use Rattle.lo_names.proofs.ShownLemmas.{shown_more}
use Rattle.lo_names.proofs.VarsLemmas.{all_at}
use Rattle.lo_names.proofs.vars.named_vars.Goals as goal

pub push_decl-requires : goal.push_decl-requires
push_decl-requires c = subst IsSoundDecl (sym c.decl-item.is) (all_at IsSoundDecl c.args.decls.now c.loop-decl.decl-index c.decl-item.result c.loop-decl-test.true c.requires)

pub loop-decl-preserved : goal.loop-decl-preserved
loop-decl-preserved c =
    let d : Decl = c.decl-item.result in
    let ds = c.args.decls.now in
    let k = c.loop-decl.decl-index in
    let sound : IsSoundDecl d = subst IsSoundDecl (sym c.decl-item.is) (all_at IsSoundDecl ds k d c.loop-decl-test.true c.requires) in
    let step = at_drop_more shown_vars ds k d c.loop-decl-test.true ∙ ap (λ (x : Decl). shown_vars (x ∷ drop (k + 1) ds)) (sym c.decl-item.is) ∙ shown_more d (drop (k + 1) ds) sound in
    ap (λ vs. vs ++ shown_vars (drop (k + 1) ds)) c.in_ok-push_decl.ensures
    ∙ append_assoc c.loop-decl.vars (shown_each (words_of d) (domains_of d)) (shown_vars (drop (k + 1) ds))
    ∙ ap (λ vs. c.loop-decl.vars ++ vs) (sym step)
    ∙ c.loop-decl.invariant
