use Rattle.std.proofs.Common.{◌≡◌, ℕ, List, ap, ap₂, subst, ◌∙◌}
use Rattle.std.specs.Prelude.{IfOk}
use Rattle.lo_emit.specs.declared.term.Term.{Term}
use Rattle.lo_paths.specs.Path.{final_truths}
use Rattle.lo_paths.proofs.GroupLemmas.{finals_once}
use Rattle.lo_paths.proofs.path.final_truths.Goals as goal

pub returns : goal.returns
returns c =
    let finals : List ℕ = c.args.finals.now in
    let known = ap (λ (fs : List ℕ). final_truths fs c.as_slice.result.now c.as_slice-2.result.now) c.in_ok-known.ensures ∙ finals_once finals c.as_slice.result.now c.as_slice-2.result.now in
    let slices = ap₂ (λ (qs : List ℕ) (ts : List Term). final_truths finals qs ts) c.as_slice.ensures c.as_slice-2.ensures in
    subst (λ (us : List Term). IfOk c.truths_among.result (λ all. all ≡ us)) (known ∙ slices) c.truths_among.ensures
