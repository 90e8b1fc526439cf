use Rattle.std.proofs.Common.{◌++◌, List, ℕ, codes, ap, ◌∙◌, append_assoc}
use Rattle.xs_language.specs.Written.{list_text, transitions_text}
use Rattle.xs_model.specs.Names.{words}
use Rattle.xs_language.proofs.ElementLemmas.{mdd_bytes}
use Rattle.xs_language.proofs.ShapeLemmas.{three_behind}
use Rattle.xs_language.proofs.automata.write_diagram.Goals as goal

pub returns : goal.returns
returns c =
    let list = list_text (words c.args.decls.now) c.args.list.now in
    let steps = transitions_text c.args.edges.now in
    let head : List ℕ = codes "<mdd> <list>" in
    let end : List ℕ = codes "</transitions> </mdd>" in
    three_behind c.extend_from_slice-2.new.self.items c.write_steps.new.out.items c.extend_from_slice.new.self.items c.new-out.result.items
    head (list ++ (codes "</list> <transitions>" ++ steps)) end c.in_ok-extend_from_slice-2.ensures.items c.in_ok-write_steps.ensures c.in_ok-extend_from_slice.ensures.items
    ∙ ap (λ xs. xs ++ (head ++ ((list ++ (codes "</list> <transitions>" ++ steps)) ++ end))) c.new-out.ensures.items
    ∙ ap (λ xs. head ++ xs) (append_assoc list (codes "</list> <transitions>" ++ steps) end) ∙ mdd_bytes list steps
