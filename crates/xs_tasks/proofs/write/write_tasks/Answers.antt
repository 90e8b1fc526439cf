use Rattle.std.proofs.Common.{◌++◌, ◌∙◌, ◌<◌, List, ℕ, ap, sym, subst, length, codes}
use Rattle.std.specs.List.{AllByRecursion}
use Rattle.xs_model.specs.Names.{words}
use Rattle.xs_model.specs.declared.term.Term.{Term}
use Rattle.xs_tasks.specs.Written.{ends_text, limit_text, terms_text, vars_text}
use Rattle.xs_tasks.proofs.TextLemmas.{ends_declared, five_texts, origins_declared}
use Rattle.xs_tasks.proofs.write.write_tasks.Goals as goal

pub write_list-requires-clause-declared : goal.write_list-requires-clause-declared
write_list-requires-clause-declared c =
    let n = length (words c.args.decls.now) in
    subst (λ (vs : List ℕ). AllByRecursion (λ v. v < n) vs) (sym c.as_slice.ensures) (origins_declared n c.args.origins.now c.args.lengths.now c.args.heights.now c.args.cond.now c.args.ends.now c.requires.formed)

pub write_ends-requires-clause-declared : goal.write_ends-requires-clause-declared
write_ends-requires-clause-declared c =
    let n = length (words c.args.decls.now) in
    ends_declared n c.args.origins.now c.args.lengths.now c.args.heights.now c.args.cond.now c.args.ends.now c.requires.formed

pub returns : goal.returns
returns c =
    let ws = words c.args.decls.now in
    five_texts c.write_condition.new.out.items c.write_ends.new.out.items c.write_child-2.new.out.items c.write_child.new.out.items c.write_list.new.out.items
    (codes "<cumulative> <origins>" ++ (vars_text ws c.args.origins.now ++ codes "</origins>")) (codes " <lengths>" ++ (terms_text ws c.args.lengths.now ++ codes "</lengths>"))
    (codes " <heights>" ++ (terms_text ws c.args.heights.now ++ codes "</heights>")) (ends_text ws c.args.ends.now) (codes " <condition>" ++ (limit_text ws c.args.cond.now ++ codes "</condition> </cumulative>"))
    c.in_ok-write_condition.ensures c.in_ok-write_ends.ensures
    (c.in_ok-write_child-2.ensures ∙ ap (λ (ts : List Term). c.write_child.new.out.items ++ (codes " <heights>" ++ (terms_text ws ts ++ codes "</heights>"))) c.as_slice-heights.ensures)
    (c.in_ok-write_child.ensures ∙ ap (λ (ts : List Term). c.write_list.new.out.items ++ (codes " <lengths>" ++ (terms_text ws ts ++ codes "</lengths>"))) c.as_slice-lengths.ensures)
    (c.in_ok-write_list.ensures ∙ ap (λ (xs : List ℕ). xs ++ (codes "<cumulative> <origins>" ++ (vars_text ws c.as_slice.result.now ++ codes "</origins>"))) c.new-out.ensures.items
    ∙ ap (λ (vs : List ℕ). codes "<cumulative> <origins>" ++ (vars_text ws vs ++ codes "</origins>")) c.as_slice.ensures)
