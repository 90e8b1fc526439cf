use Rattle.std.proofs.Common.{◌≡◌, Bool, ◌≤◌, ◌+◌, ◌∙◌, ℕ, List, ℤ, Option, IfOk, ap, sym, subst, arith, codes, false, true}
use Rattle.std.specs.List.{AllByRecursion}
use Rattle.xs_model.specs.Sound.{IsSize, cell_count, most_cells}
use Rattle.xs_var.specs.Elements.{text_or_none, value_in}
use Rattle.xs_var.specs.Taken.{IsSoundTaken, IsTaken}
use Rattle.xs_var.specs.VarUnit.{Declared}
use Rattle.xf_num.specs.Span.{Bounds}
use Rattle.xs_array.specs.ArrayUnit.{array_unit}
use Rattle.xs_array.specs.Cells.{are_positive, array_cells, is_content_full, stated_sizes}
use Rattle.xs_array.specs.Reading.{with_content}
use Rattle.xs_array.proofs.CountLemmas.{are_sizes}
use Rattle.xs_array.proofs.FieldLemmas.{has_content}
use Rattle.xs_array.proofs.SoundLemmas.{sound_with}
use Rattle.xs_array.proofs.TakenLemmas.{IsClear, not_positive, ok_with, taken_with, too_many_cells}
use Rattle.xs_array.proofs.unit.read_cells.Goals as goal

pub returns-then-not-are_positive-clause-value : goal.returns-then-not-are_positive-clause-value
returns-then-not-are_positive-clause-value c =
    let s : Declared = record { decls = c.args.decls.now; cells = c.args.cells; values = c.args.values } in
    let n = c.args.node.now in
    let clear : IsClear s n = record { fields = c.requires.fields; named = c.requires.named } in
    let less : are_positive (stated_sizes n) ≡ false = ap are_positive (sym (c.as_slice.ensures ∙ c.requires.sizes)) ∙ sym c.are_positive.ensures ∙ c.if-not-are_positive.true in
    not_positive s n clear c.requires.decls c.requires.cells c.requires.values less

pub returns-then-cells-count-gt-MAX_VARIABLES-clause-value : goal.returns-then-cells-count-gt-MAX_VARIABLES-clause-value
returns-then-cells-count-gt-MAX_VARIABLES-clause-value c =
    let s : Declared = record { decls = c.args.decls.now; cells = c.args.cells; values = c.args.values } in
    let n = c.args.node.now in
    let clear : IsClear s n = record { fields = c.requires.fields; named = c.requires.named } in
    let count_is : c.in-Some.count ≡ cell_count (stated_sizes n) = c.in-Some.ensures.1 ∙ ap cell_count (c.as_slice-2.ensures ∙ c.requires.sizes) in
    too_many_cells s n clear (λ h. omega (arith, h, count_is, c.if-cells-count-gt-MAX_VARIABLES.true))

pub returns-in-None-clause-value : goal.returns-in-None-clause-value
returns-in-None-clause-value c =
    let s : Declared = record { decls = c.args.decls.now; cells = c.args.cells; values = c.args.values } in
    let n = c.args.node.now in
    let clear : IsClear s n = record { fields = c.requires.fields; named = c.requires.named } in
    too_many_cells s n clear (λ h. c.in-None.ensures (subst (λ (ns : List ℤ). cell_count ns ≤ most_cells) (sym (c.as_slice-2.ensures ∙ c.requires.sizes)) (omega (arith, h))))

pub read_content-requires-clause-sizes : goal.read_content-requires-clause-sizes
read_content-requires-clause-sizes c =
    let n = c.args.node.now in
    let positive : are_positive (stated_sizes n) ≡ true = ap are_positive (sym (c.as_slice.ensures ∙ c.requires.sizes)) ∙ sym c.are_positive.ensures ∙ c.if-not-are_positive.false in
    subst (λ (ns : List ℤ). AllByRecursion IsSize ns) (sym (c.as_slice-in-Some.ensures ∙ c.requires.sizes)) (are_sizes (stated_sizes n) positive)

pub read_content-requires-clause-cells : goal.read_content-requires-clause-cells
read_content-requires-clause-cells c = has_content c.args.node.now c.requires.fields

pub returns-in_ok-content-in-Some-clause-value : goal.returns-in_ok-content-in-Some-clause-value
returns-in_ok-content-in-Some-clause-value c =
    let s : Declared = record { decls = c.args.decls.now; cells = c.args.cells; values = c.args.values } in
    let n = c.args.node.now in
    let clear : IsClear s n = record { fields = c.requires.fields; named = c.requires.named } in
    let positive : are_positive (stated_sizes n) ≡ true = ap are_positive (sym (c.as_slice.ensures ∙ c.requires.sizes)) ∙ sym c.are_positive.ensures ∙ c.if-not-are_positive.false in
    let count_is : c.in-Some.count ≡ cell_count (stated_sizes n) = c.in-Some.ensures.1 ∙ ap cell_count (c.as_slice-2.ensures ∙ c.requires.sizes) in
    let name = text_or_none (value_in (codes "id") n.attrs) in
    let content = c.in_ok-content-in-Some.content in
    let told = with_content name c.args.sizes content.cells content.full (c.args.cells + c.in-Some.count) c.args.values in
    let told_is : with_content name c.args.sizes content.cells content.full (c.args.cells + c.in-Some.count) c.args.values ≡ with_content name (stated_sizes n) (array_cells s.decls n) (is_content_full (value_in (codes "as") n.attrs) n) (s.cells + cell_count (stated_sizes n)) s.values =
    ap (λ (ns : List ℤ). with_content name ns content.cells content.full (c.args.cells + c.in-Some.count) c.args.values) c.requires.sizes
    ∙ ap (λ (o : Option (List (Option (List Bounds)))). with_content name (stated_sizes n) o content.full (c.args.cells + c.in-Some.count) c.args.values) c.in_ok-content-in-Some.ensures.cells
    ∙ ap (λ (b : Bool). with_content name (stated_sizes n) (array_cells s.decls n) b (c.args.cells + c.in-Some.count) c.args.values) c.in_ok-content-in-Some.ensures.full
    ∙ ap (λ (k : ℕ). with_content name (stated_sizes n) (array_cells s.decls n) (is_content_full (value_in (codes "as") n.attrs) n) (s.cells + k) s.values) count_is in
    ok_with c.declared.result (λ r. r ≡ told) (IsTaken s (array_unit n)) (λ r e. taken_with s n r clear positive (omega (arith, count_is, c.if-cells-count-gt-MAX_VARIABLES.false)) c.requires.values (e ∙ told_is)) c.declared.ensures

pub returns-in_ok-content-in-Some-clause-sound : goal.returns-in_ok-content-in-Some-clause-sound
returns-in_ok-content-in-Some-clause-sound c =
    let s : Declared = record { decls = c.args.decls.now; cells = c.args.cells; values = c.args.values } in
    let n = c.args.node.now in
    let clear : IsClear s n = record { fields = c.requires.fields; named = c.requires.named } in
    let positive : are_positive (stated_sizes n) ≡ true = ap are_positive (sym (c.as_slice.ensures ∙ c.requires.sizes)) ∙ sym c.are_positive.ensures ∙ c.if-not-are_positive.false in
    let count_is : c.in-Some.count ≡ cell_count (stated_sizes n) = c.in-Some.ensures.1 ∙ ap cell_count (c.as_slice-2.ensures ∙ c.requires.sizes) in
    let name = text_or_none (value_in (codes "id") n.attrs) in
    let content = c.in_ok-content-in-Some.content in
    let told = with_content name c.args.sizes content.cells content.full (c.args.cells + c.in-Some.count) c.args.values in
    let told_is : with_content name c.args.sizes content.cells content.full (c.args.cells + c.in-Some.count) c.args.values ≡ with_content name (stated_sizes n) (array_cells s.decls n) (is_content_full (value_in (codes "as") n.attrs) n) (s.cells + cell_count (stated_sizes n)) s.values =
    ap (λ (ns : List ℤ). with_content name ns content.cells content.full (c.args.cells + c.in-Some.count) c.args.values) c.requires.sizes
    ∙ ap (λ (o : Option (List (Option (List Bounds)))). with_content name (stated_sizes n) o content.full (c.args.cells + c.in-Some.count) c.args.values) c.in_ok-content-in-Some.ensures.cells
    ∙ ap (λ (b : Bool). with_content name (stated_sizes n) (array_cells s.decls n) b (c.args.cells + c.in-Some.count) c.args.values) c.in_ok-content-in-Some.ensures.full
    ∙ ap (λ (k : ℕ). with_content name (stated_sizes n) (array_cells s.decls n) (is_content_full (value_in (codes "as") n.attrs) n) (s.cells + k) s.values) count_is in
    ok_with c.declared.result (λ r. r ≡ told) (λ r. IfOk r (λ x. IsSoundTaken s x)) (λ r e. sound_with s n r clear c.requires.decls positive (omega (arith, count_is, c.if-cells-count-gt-MAX_VARIABLES.false)) (e ∙ told_is)) c.declared.ensures
