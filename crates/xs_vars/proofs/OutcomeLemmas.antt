-- What `variables` declares, unit after unit, is sound.
use Rattle.std.proofs.Common.{◌≡◌, ◌≢◌, ℕ, ◌+◌, ◌<◌, ◌≤◌, ◌^◌, Bool, true, false, ◌&&◌, nat_le, if◌then◌else◌, cond, codes, List, [], ◌∷◌, length, map, Option, None, Some, IfSome, IfOk, Result, Ok, Err, AllPairs, refl, ap, sym, subst, ◌∙◌, arith, rules}
use Rattle.std.specs.List.{AllByRecursion, find, list_all}
use Rattle.std.specs.Str.{bytes_eq}
use Rattle.std.proofs.lemmas.Bool.{leb-true}
use Rattle.xf_markup.specs.declared.tree.Node.{Node}
use Rattle.xf_num.specs.Domain.{IsDomain}
use Rattle.xf_num.specs.Span.{Bounds}
use Rattle.xf_text.specs.declared.fault.Fault.{Fault}
use Rattle.xs_array.specs.ArrayUnit.{array_fields_meet, array_meets, array_unit, is_array_counted, values_among}
use Rattle.xs_array.specs.Cells.{are_positive, array_cells, does_fit, has_cell, is_content_full, stated_sizes}
use Rattle.xs_array.specs.Reading.{with_content}
use Rattle.xs_array.proofs.DomainLemmas.{IsSoundCell, text_sound}
use Rattle.xs_array.proofs.SoundLemmas.{sound_with}
use Rattle.xs_array.proofs.TakenLemmas.{IsClear, taken_with}
use Rattle.xs_fields.proofs.FirstLemmas.{all_met as none_missed, met_at}
use Rattle.xs_fields.proofs.IntegerLemmas.{and_left, and_right}
use Rattle.xs_fields.specs.Conditions.{first_missed}
use Rattle.xs_fields.specs.declared.condition.Condition.{Condition}
use Rattle.xs_fields.specs.declared.condition.Condition.TheVariants.{Counting, Fitting}
use Rattle.xs_model.specs.Names.{words}
use Rattle.xs_model.specs.Sound.{IsSoundDecl, IsSoundDomain, cell_count, most_cells, most_items, names_of}
use Rattle.xs_model.specs.Names as names
use Rattle.xs_model.specs.declared.decl.Decl.{Decl}
use Rattle.xs_model.specs.declared.decl.Decl.TheVariants.{One, Array}
use Rattle.xs_var.specs.Container.{variables_meet}
use Rattle.xs_var.specs.Elements.{children_of, text_in, text_or_none, value_in}
use Rattle.xs_var.specs.Like.{declaration, has_domain, one_domain, single_domain, single_in}
use Rattle.xs_var.specs.Taken.{IsSoundTaken, IsTaken, with_decl}
use Rattle.xs_var.specs.Units.{UnitOf, fault_or, kind_or, outcome, unjudged}
use Rattle.xs_var.specs.VarDomain.{counting_meets, fitting_meets, text_domain, var_domain}
use Rattle.xs_var.specs.VarUnit.{Declared, domain_for, var_meets, var_unit}
use Rattle.xs_var.specs.Variable.{names_meet}
use Rattle.xs_var.specs.declared.counted.Counted.{Counted}
use Rattle.xs_vars.specs.Declarations.{IsSoundDeclared, child_unit, nothing, units_of, variables_outcome}
use Rattle.xs_vars.specs.Kept.{counted_of}
use Rattle.xs_vars.specs.Law.{AreSoundOutcomes}
use Rattle.xs_vars.proofs.DeclaredLemmas.{few, grown}
use Rattle.xs_vars.proofs.DomainLemmas.{found}
use Rattle.xs_vars.proofs.VarLemmas.{IsJudged, is_sound, is_taken}

-- a unit that is taken makes sound declarations of sound ones
behind_sound : (s : Declared) (u : UnitOf Declared) (r : Result Counted Condition) → IsSoundDeclared s → first_missed (u.meets s) ≡ None → IsTaken s u r → IfOk r (λ c. IsSoundTaken s c) → IsSoundDeclared (u.behind s)
behind_sound s u (Ok c) h none taken sound = subst IsSoundDeclared (sym taken.1) (grown s c h sound)
behind_sound s u (Err k) h none taken sound = absurd (let never : None ≡ Some k = sym none ∙ taken in cc)

-- domains
cell_domain : (o : Option (List Bounds)) → IsSoundCell o → IfSome o IsDomain
cell_domain None h = tt
cell_domain (Some d) h = h.0

one_is : (cells : List (Option (List Bounds))) → AllByRecursion IsSoundDomain (names.defined cells) → IfSome (one_domain cells) IsDomain
one_is [] h = tt
one_is (None ∷ cells) h = tt
one_is (Some d ∷ cells) h = by (list_all (has_domain d) cells)
  where
    by : (t : Bool) → IfSome (if t then Some d else None) IsDomain
    by true = h.0.0
    by false = tt

single_is : (d : Decl) → IsSoundDecl d → IfSome (single_domain d) IsDomain
single_is (One name domain) h = h.1.0
single_is (Array name sizes cells) h = one_is cells h.5

single_in_is : (o : Option Decl) → IfSome o IsSoundDecl → IfSome (single_in o) IsDomain
single_in_is None h = tt
single_in_is (Some d) h = single_is d h

var_domain_is : (ds : List Decl) (like : Option (List ℕ)) (text : List ℕ) → AllByRecursion IsSoundDecl ds → IfSome (var_domain ds like text) IsDomain
var_domain_is ds None text h = cell_domain (text_domain text) (text_sound text)
var_domain_is ds (Some name) text h = single_in_is (declaration ds name) (found IsSoundDecl _ ds h)

-- a `var`
var_sound : (s : Declared) (n : Node) → IsSoundDeclared s → first_missed (var_meets s n) ≡ None → IsSoundDeclared ((var_unit n).behind s)
var_sound s n h none =
    let domain = domain_for s.decls n in
    let r = counted_of s.cells s.values domain (value_in (codes "id") n.attrs) in
    let judged : IsJudged s n domain = record { none = none; same = refl } in
    behind_sound s (var_unit n) r h none (is_taken s n domain r judged refl) (is_sound s n domain r judged h.decls (var_domain_is s.decls (value_in (codes "as") n.attrs) (text_in n.pieces) h.decls) refl)

-- an `array`
array_sound : (s : Declared) (n : Node) → IsSoundDeclared s → first_missed (array_meets s n) ≡ None → IsSoundDeclared ((array_unit n).behind s)
array_sound s n h none =
    let full = is_content_full (value_in (codes "as") n.attrs) n in
    let r = with_content (text_or_none (value_in (codes "id") n.attrs)) (stated_sizes n) (array_cells s.decls n) full (s.cells + cell_count (stated_sizes n)) s.values in
    let met = met_at (array_meets s n) none in
    let rest = λ (k : Condition). counting_meets (is_array_counted s n) k && fitting_meets (does_fit s.decls n) k in
    let behind = λ (k : Condition). and_right (array_fields_meet n k) (names_meet (names_of s.decls) n k && rest k) (met k) in
    let clear : IsClear s n = record {
      fields = none_missed (array_fields_meet n) (λ k. and_left (array_fields_meet n k) (names_meet (names_of s.decls) n k && rest k) (met k));
      named = none_missed (names_meet (names_of s.decls) n) (λ k. and_left (names_meet (names_of s.decls) n k) (rest k) (behind k));
    } in
    let counted : is_array_counted s n ≡ true = and_left (is_array_counted s n) true (behind Counting) in
    let cells : s.cells + cell_count (stated_sizes n) ≤ most_cells = leb-true _ _ (and_left (nat_le (s.cells + cell_count (stated_sizes n)) most_cells) (nat_le (s.values + values_among (array_cells s.decls n)) most_items) counted) in
    let fits : does_fit s.decls n ≡ true = behind Fitting in
    let positive : are_positive (stated_sizes n) ≡ true = and_first (are_positive (stated_sizes n)) full (has_cell (array_cells s.decls n)) fits in
    behind_sound s (array_unit n) r h none (taken_with s n r clear positive cells h.few_values refl) (sound_with s n r clear h.decls positive cells refl)
  where
    and_first : (a b c : Bool) → (a && b && c) ≡ true → a ≡ true
    and_first true b c e = refl
    and_first false b c e = cc

child_sound : (s : Declared) (n : Node) → IsSoundDeclared s → first_missed ((child_unit n).meets s) ≡ None → IsSoundDeclared ((child_unit n).behind s)
child_sound s n h = by (bytes_eq n.name (codes "var"))
  where
    by : (v : Bool) → first_missed ((if v then var_unit n else array_unit n).meets s) ≡ None → IsSoundDeclared ((if v then var_unit n else array_unit n).behind s)
    by true none = var_sound s n h none
    by false none = array_sound s n h none

-- a `var` and an `array` are not judged by what they denote
child_unjudged : (s : Declared) (n : Node) → (child_unit n).judged s ≡ None
child_unjudged s n = by (bytes_eq n.name (codes "var"))
  where
    by : (v : Bool) → (if v then var_unit n else array_unit n).judged s ≡ None
    by true = refl
    by false = refl

missed_none : (m : Option Condition) (place : ℕ) (more : Result Declared Fault) (t : Declared) → fault_or m place more ≡ Ok t → (m ≡ None) × (more ≡ Ok t)
missed_none None place more t h = (refl, h)
missed_none (Some k) place more t h = absurd (cc h)

children_sound : (ns : List Node) (s t : Declared) → IsSoundDeclared s → outcome s (map child_unit ns) ≡ Ok t → IsSoundDeclared t
children_sound [] s t h e = let same : s ≡ t = cc in subst IsSoundDeclared same h
children_sound (n ∷ ns) s t h e =
    let u = child_unit n in
    let a = missed_none (first_missed (u.meets s)) u.place (kind_or (u.judged s) u.place (outcome (u.behind s) (map child_unit ns))) t e in
    children_sound ns (u.behind s) t (child_sound s n h a.0) (sym (ap (λ k. kind_or k u.place (outcome (u.behind s) (map child_unit ns))) (child_unjudged s n)) ∙ a.1)

nothing_sound : IsSoundDeclared nothing
nothing_sound = record { distinct = search rules; decls = tt; cells = refl; values = refl; few_cells = omega arith; few_values = omega arith }

outcome_sound : (n : Node) (s : Declared) → variables_outcome n ≡ Ok s → IsSoundDeclared s
outcome_sound n s h = children_sound (children_of n.pieces) nothing s nothing_sound (missed_none (first_missed (variables_meet n)) n.place (outcome nothing (map child_unit (children_of n.pieces))) s h).1

pub sound_outcomes : AreSoundOutcomes
sound_outcomes = record { sound = outcome_sound; few = λ n s h. few s (outcome_sound n s h) }
