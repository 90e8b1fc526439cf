use Rattle.std.proofs.Common.{◌++◌, ◌∙◌, List, ℕ, ap, sym, codes}
use Rattle.xs_model.specs.Names.{words}
use Rattle.xs_tasks.specs.Written.{limit_word}
use Rattle.xs_tasks.proofs.TextLemmas.{spaced_word, three_more}
use Rattle.xs_tasks.proofs.write.write_condition.Goals as goal

pub returns : goal.returns
returns c =
    let w = limit_word (words c.args.decls.now) c.args.cond.now in
    three_more c.extend_from_slice-2.new.self.items c.write_limit.new.out.items c.extend_from_slice.new.self.items c.args.out.now.items (codes " <condition> ") w (codes " </condition> </cumulative>")
    c.in_ok-extend_from_slice-2.ensures.items c.in_ok-write_limit.ensures c.in_ok-extend_from_slice.ensures.items
    ∙ ap (λ (t : List ℕ). c.args.out.now.items ++ (codes " <condition> " ++ t)) (sym (spaced_word w (codes "</condition> </cumulative>")))
