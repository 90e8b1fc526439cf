use Rattle.std.proofs.Common.{◌≡◌, ◌∙◌, ap, sym}
use Rattle.xs_fields.specs.Conditions.{first_missed}
use Rattle.xs_model.specs.Outline.{names_in}
use Rattle.xs_model.specs.Sound.{names_of}
use Rattle.xs_var.specs.VarUnit.{Declared}
use Rattle.xs_var.specs.Variable.{names_meet}
use Rattle.xs_var.proofs.LikeLemmas.{names_known}
use Rattle.xs_array.specs.ArrayUnit.{array_fields_meet}
use Rattle.xs_array.proofs.FieldLemmas.{spelt_stated}
use Rattle.xs_array.proofs.TakenLemmas.{clear_of, miss_early}
use Rattle.xs_array.proofs.unit.read_array.Goals as goal

pub returns-in-Some-clause-value : goal.returns-in-Some-clause-value
returns-in-Some-clause-value c =
    let n = c.args.node.now in
    let s : Declared = record { decls = c.args.decls.now; cells = c.args.cells; values = c.args.values } in
    let names_is : c.judge_names.result ≡ first_missed (names_meet (names_of s.decls) n) = c.judge_names.ensures ∙ ap (λ ns. first_missed (names_meet ns n)) (ap names_in c.requires.names ∙ names_known s.decls) in
    miss_early s n c.in-Some.missed (sym (c.earlier.ensures.joins (array_fields_meet n) (names_meet (names_of s.decls) n) c.in_ok-fields.ensures names_is) ∙ c.in-Some.is)

pub read_cells-requires-clause-named : goal.read_cells-requires-clause-named
read_cells-requires-clause-named c =
    let n = c.args.node.now in
    let s : Declared = record { decls = c.args.decls.now; cells = c.args.cells; values = c.args.values } in
    let names_is : c.judge_names.result ≡ first_missed (names_meet (names_of s.decls) n) = c.judge_names.ensures ∙ ap (λ ns. first_missed (names_meet ns n)) (ap names_in c.requires.names ∙ names_known s.decls) in
    (clear_of s n c.in_ok-fields.fields c.judge_names.result c.earlier.result c.in_ok-fields.ensures names_is c.earlier.ensures.value c.in-None.is).named

pub read_cells-requires-clause-sizes : goal.read_cells-requires-clause-sizes
read_cells-requires-clause-sizes c =
    let n = c.args.node.now in
    let s : Declared = record { decls = c.args.decls.now; cells = c.args.cells; values = c.args.values } in
    let names_is : c.judge_names.result ≡ first_missed (names_meet (names_of s.decls) n) = c.judge_names.ensures ∙ ap (λ ns. first_missed (names_meet ns n)) (ap names_in c.requires.names ∙ names_known s.decls) in
    c.in_ok-sizes.ensures ∙ spelt_stated n (clear_of s n c.in_ok-fields.fields c.judge_names.result c.earlier.result c.in_ok-fields.ensures names_is c.earlier.ensures.value c.in-None.is).fields
