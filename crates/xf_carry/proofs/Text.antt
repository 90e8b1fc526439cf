-- The text of a lowered model in parts.
use Rattle.std.proofs.Common.{◌≡◌, ℕ, ◌+◌, Option, List, [], ◌∷◌, ◌++◌, length, refl, ap, sym, ◌∙◌, arith}
use Rattle.std.specs.Prelude.{codes}
use Rattle.std.specs.List.{flat_map}
use Rattle.std.proofs.lemmas.Grind.{flat_map-append}
use Rattle.xs_model.specs.declared.instance.Instance.{Instance}
use Rattle.xs_model.specs.Names.{words}
use Rattle.xs_model.specs.Accepted.{IsSound}
use Rattle.fz_model.specs.declared.model.Arg.{Arg}
use Rattle.fz_model.specs.declared.model.FzVar.{FzVar}
use Rattle.fz_model.specs.declared.model.Goal.TheVariants.{Satisfy}
use Rattle.fz_file.specs.Layout.{type_text, shown_text, equal_text, var_line, call_line, goal_line, names_of, layout}
use Rattle.lo_names.specs.Shown.{shown_vars}
use Rattle.lo_base.specs.Item.{Item, made}
use Rattle.lo_base.specs.Before.{AreCallsBefore}
use Rattle.lo_base.specs.Lowered.{vars_of, calls_of}
use Rattle.lo_base.proofs.Before.{before_longer}
use Rattle.lo_instance.proofs.FormLemmas.{all_lowered}
use Rattle.xs_model.specs.Spans.{spans_of}
use Rattle.xf_carry.specs.Lines.{end_lines}
use Rattle.xf_carry.specs.Lowered.{low, low_items}
use Rattle.xf_carry.proofs.Before.{names_alike, calls_alike}
use Rattle.xf_carry.proofs.Extension.{shown_count, model_free}
use Rattle.xf_carry.proofs.Members.{AreFree}
use Rattle.xf_carry.proofs.Ordered.{few_spans, ordered_spans}

-- the lines of variables that equal nothing, whatever the names
lines_free : (names : List (List ℕ)) (vs : List FzVar) → AreFree vs → flat_map (var_line names) vs ≡ flat_map (var_line []) vs
lines_free names [] h = refl
lines_free names (v ∷ vs) h =
    let same : equal_text names v.equal ≡ equal_text [] v.equal = ap (equal_text names) h.0 ∙ ap (equal_text []) (sym h.0) in
    let line : var_line names v ≡ var_line [] v =
    ap (λ ts. codes "var " ++ (type_text v.boolean v.domain ++ (codes ": " ++ (v.name ++ (shown_text v.shown ++ (ts ++ codes ";\n")))))) same in
    ap (λ ts. ts ++ flat_map (var_line names) vs) line ∙ ap (λ ts. var_line [] v ++ ts) (lines_free names vs h.1)

-- the named variables, and then the auxiliaries
pub vars_text : (i : Instance) (named : List FzVar) → named ≡ shown_vars i.decls → flat_map (var_line []) (low i).vars ≡ flat_map (var_line []) named ++ flat_map (var_line []) (vars_of 0 (low_items i))
vars_text i named is =
    flat_map-append (var_line []) (shown_vars i.decls) (vars_of 0 (low_items i)) ∙ ap (λ vs. flat_map (var_line []) vs ++ flat_map (var_line []) (vars_of 0 (low_items i))) (sym is)

-- the variables, and then the calls and the goal
pub layout_text : (i : Instance) (named : List FzVar) → IsSound i → named ≡ shown_vars i.decls → layout (low i) ≡ flat_map (var_line []) (low i).vars ++ end_lines named (low_items i)
layout_text i named s is =
    let vs : List FzVar = shown_vars i.decls in
    let xs : List Item = low_items i in
    let k : ℕ = length vs + made xs in
    let n : ℕ = length (words i.decls) in
    let speak = (all_lowered (spans_of i.decls) n i.constraints s.constraints (ordered_spans i s) (few_spans i s)).before in
    let before : AreCallsBefore k (calls_of xs) = before_longer (n + made xs) k (omega (arith, shown_count i s)) (calls_of xs) speak in
    let calls = calls_alike k (names_of (vs ++ vars_of 0 xs)) (names_of vs) (names_alike vs xs) (calls_of xs) before in
    ap (λ ls. ls ++ (flat_map (call_line (names_of (low i).vars)) (low i).calls ++ goal_line (names_of (low i).vars) Satisfy)) (lines_free (names_of (low i).vars) (low i).vars (model_free i xs))
    ∙ ap (λ cs. flat_map (var_line []) (low i).vars ++ (cs ++ goal_line (names_of vs) Satisfy)) calls
    ∙ ap (λ ns. flat_map (var_line []) (low i).vars ++ end_lines ns xs) (sym is)
