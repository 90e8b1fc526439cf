use Rattle.std.proofs.Common.{◌++◌, ◌∷◌, [], List, ℕ, codes, ap, ◌∙◌, append_assoc}
use Rattle.xs_language.specs.Written.{list_text, states_text, transitions_text}
use Rattle.xs_model.specs.Names.{words}
use Rattle.xs_language.proofs.ElementLemmas.{regular_bytes}
use Rattle.xs_language.proofs.ShapeLemmas.{three_behind}
use Rattle.xs_language.proofs.automata.write_automaton.Goals as goal

pub returns : goal.returns
returns c =
    let list = list_text (words c.args.decls.now) c.args.list.now in
    let steps = transitions_text c.args.edges.now in
    let start = states_text (c.args.start ∷ []) in
    let finals = states_text c.args.finals.now in
    let head : List ℕ = codes "<regular> <list>" in
    let ends : List ℕ = codes "</transitions> <start>" ++ (start ++ (codes "</start> <final>" ++ (finals ++ codes "</final> </regular>"))) in
    three_behind c.write_ends.new.out.items c.write_steps.new.out.items c.extend_from_slice.new.self.items c.new-out.result.items
    head (list ++ (codes "</list> <transitions>" ++ steps)) ends c.in_ok-write_ends.ensures c.in_ok-write_steps.ensures c.in_ok-extend_from_slice.ensures.items
    ∙ ap (λ xs. xs ++ (head ++ ((list ++ (codes "</list> <transitions>" ++ steps)) ++ ends))) c.new-out.ensures.items
    ∙ ap (λ xs. head ++ xs) (append_assoc list (codes "</list> <transitions>" ++ steps) ends) ∙ regular_bytes list steps start finals
