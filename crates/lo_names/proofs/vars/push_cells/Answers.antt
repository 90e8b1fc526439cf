use Rattle.std.proofs.Common.{◌≡◌, ◌++◌, ◌+◌, ◌∷◌, [], ap, sym, ◌∙◌, append_assoc, append-nil, take, length}
use Rattle.std.proofs.Math.Seq.{take-append_seam}
use Rattle.std.specs.List.{flat_map}
use Rattle.xs_model.specs.Names.{bracket, cell_word}
use Rattle.lo_names.specs.Indices.{indices_at}
use Rattle.lo_names.specs.Shown.{shown_var}
use Rattle.lo_names.proofs.VarsLemmas.{due_cells, none_more, some_more, none_due}
use Rattle.lo_names.proofs.vars.push_cells.Goals as goal
use Rattle.lo_names.proofs.vars.push_cells.Goals.{in-Some+in_ok-push_indices+in_ok-push_var, in_default}

pub loop-place-preserved : goal.loop-place-preserved
loop-place-preserved c =
    let k = c.loop-place.place in
    let name = c.args.name.now in
    let sizes = c.args.sizes.now in
    let cells = c.args.cells.now in
    let cell = c.index-cells-place.result in
    let inv = c.loop-place.invariant in
    let lt = c.loop-place-test.true in
    let before = due_cells name sizes cells in
    elim c.match-cell.branch [
      | in-Some+in_ok-push_indices+in_ok-push_var w ↦
          let word : w.push_indices.new.word ≡ cell_word name (indices_at sizes k) =
          w.in_ok-push_indices.ensures ∙ ap (λ bs. bs ++ flat_map bracket (indices_at sizes k)) (w.truncate.ensures ∙ inv.front) in
          let var = shown_var (cell_word name (indices_at sizes k)) w.in-Some.domain in
          let step = some_more name sizes cells k cell w.in-Some.domain lt c.requires.cells c.index-cells-place.is w.in-Some.is in
          let more = w.vars-is ∙ w.in_ok-push_var.ensures ∙ ap (λ bs. c.loop-place.vars ++ shown_var bs w.in-Some.domain ∷ []) (w.as_slice.ensures ∙ word) in
          record {
            front = ap (take (length name)) (w.word-is ∙ word) ∙ take-append_seam name (flat_map bracket (indices_at sizes k));
            due = ap (λ vs. vs ++ before (k + 1)) more ∙ append_assoc c.loop-place.vars (var ∷ []) (before (k + 1)) ∙ ap (λ vs. c.loop-place.vars ++ vs) (sym step) ∙ inv.due;
          }
      | in_default w ↦
          let step = none_more name sizes cells k cell lt c.requires.cells c.index-cells-place.is w.in_default.is in
          record {
            front = ap (take (length name)) w.word-is ∙ inv.front;
            due = ap (λ vs. vs ++ before (k + 1)) w.vars-is ∙ ap (λ vs. c.loop-place.vars ++ vs) (sym step) ∙ inv.due;
          }
    ]

pub returns : goal.returns
returns c =
    sym (append-nil c.loop-place.vars)
    ∙ ap (λ vs. c.loop-place.vars ++ vs) (sym (none_due c.args.name.now c.args.sizes.now c.args.cells.now c.loop-place.place c.loop-place-test.false c.requires.cells))
    ∙ c.loop-place.invariant.due
