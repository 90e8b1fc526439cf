-- What a text spells is accepted: sound, and within the limits.
use Rattle.std.proofs.Common.{◌≡◌, ℕ, ◌+◌, ◌-◌, ◌<◌, ◌≤◌, Bool, true, false, ◌&&◌, nat_le, nat_lt, if◌then◌else◌, codes, List, [], ◌∷◌, ◌++◌, length, map, Option, None, Some, Result, Ok, Err, refl, ap, sym, subst, ◌∙◌, arith}
use Rattle.std.specs.Prelude.{OnOk, sum, IsOk}
use Rattle.std.specs.List.{AllByRecursion}
use Rattle.std.specs.Result.{result_err}
use Rattle.std.specs.Str.{bytes_eq}
use borrow.Author.Tests.{leb-true, ltb-true}
use Rattle.xf_markup.specs.declared.tree.Node.{Node}
use Rattle.xf_num.specs.Span.{Bounds}
use Rattle.xf_text.specs.declared.fault.Fault.{Fault}
use Rattle.xf_text.specs.declared.fault.Kind.{Kind}
use Rattle.xf_text.specs.declared.fault.Kind.TheVariants.{Logic, Range}
use Rattle.xs_constraints.proofs.GoodLemmas.{good_forms}
use Rattle.xs_fields.specs.Conditions.{first_missed}
use Rattle.xs_fields.specs.declared.condition.Condition.{Condition}
use Rattle.xs_fields.specs.declared.condition.Condition.TheVariants.{Spelling}
use Rattle.xs_fields.proofs.FirstLemmas.{all_met, met_at}
use Rattle.xs_fields.proofs.IntegerLemmas.{and_right}
use Rattle.xs_file.specs.Asked.{asked_units, fault_in_bounds, fault_of, fault_of_magnitude, first_fault, goal_fault, goal_in_bounds, has_room, told_by, truth_fault}
use Rattle.xs_file.specs.Held.{IsHeld, IsWhole, progress_of}
use Rattle.xs_file.specs.Reading.{SpeltIsAccepted, Spells}
use Rattle.xs_file.specs.Sections.{Progress, added_on, are_sections, begun, behind_declared, constraint_behind, constraints_outcome, form_meets, instance_meets, instance_of, left_of, names_of, objective_behind, objective_meets, objective_unit, objectives_meet, objectives_units, section_outcome, sections_behind, sections_outcome, taken, taken_on, told_fault, with_constraint, with_objective}
use Rattle.xs_file.proofs.ConstraintLemmas.{formed_spans}
use Rattle.xs_file.proofs.SoundLemmas.{held_accepted, held_more}
use Rattle.xs_file.proofs.UnlimitedLemmas.{kind_none, missed_none}
use Rattle.xs_model.proofs.FormLemmas.{measured_form}
use Rattle.xs_model.specs.Accepted.{IsAccepted, IsFaultless, IsFaultlessBody, IsMeasured, IsMeasuredBody, IsProposition, IsSoundBody, IsSoundConstraint, goal_items, items_of, most_constraints}
use Rattle.xs_model.specs.Bounds.{bounds, is_truth}
use Rattle.xs_model.specs.Fields.{body_fields}
use Rattle.xs_model.specs.Magnitude.{are_tasks, mag, mag_of}
use Rattle.xs_model.specs.Names.{words}
use Rattle.xs_model.specs.Outline.{outlines_of}
use Rattle.xs_model.specs.Sound.{magnitudes, most_items}
use Rattle.xs_model.specs.Spans.{spans_of}
use Rattle.xs_model.specs.declared.concrete.Concrete.{Concrete}
use Rattle.xs_model.specs.declared.expr.Expr.{Expr}
use Rattle.xs_model.specs.declared.instance.Body.{Body}
use Rattle.xs_model.specs.declared.instance.Body.TheVariants as body
use Rattle.xs_model.specs.declared.instance.Constraint.{Constraint}
use Rattle.xs_model.specs.declared.instance.Constraint.TheVariants.{Intension, Extension, Unary, Regular, Mdd, AllDifferent, DifferentLists, DifferentMatrix, AllEqual, Ordered, Lex, LexMatrix, Sum, Count, NValues, Cardinality, Minimum, Maximum, Element, ElementMatrix, Channel, ChannelTwo, ChannelValue, NoOverlap, Cumulative, Circuit, Instantiation}
use Rattle.xs_model.specs.declared.instance.Instance.{Instance}
use Rattle.xs_objectives.proofs.GoodLemmas.{IsGood, objective_good}
use Rattle.xs_objectives.specs.Known.{is_objective_known}
use Rattle.xs_objectives.specs.Objective as goal
use Rattle.xs_template.specs.Concrete.{made_of, unchanged}
use Rattle.xs_template.specs.Template.{within_words}
use Rattle.xs_units.specs.Units.{Holds, Makes, Ran, Unit, counted, on_taken, proceed, ran_or, run, section_units, take_all, then_on}
use Rattle.xs_units.specs.declared.known.Known.{Known}
use Rattle.xs_var.specs.Elements.{children_of, text_in}
use Rattle.xs_var.specs.Units.{fault_or, kind_or, outcome}
use Rattle.xs_var.specs.VarUnit.{Declared}
use Rattle.xs_var.specs.Variable.{is_blank, known_meets}
use Rattle.xs_vars.specs.Declarations.{nothing, units_of, variables_outcome}
use Rattle.xs_vars.proofs.OutcomeLemmas.{sound_outcomes}

-- what is read so far is held
abbrev HeldItems : Progress → ℕ
HeldItems s = (s.declared.values + sum (map items_of s.constraints)) + goal_items s.objective

abbrev IsKept : Progress → Type 0
IsKept s = IsHeld s.declared (spans_of s.declared.decls) s.constraints s.objective (HeldItems s)

-- a fault that is none, by its two halves
halves : (a b : Option Kind) → first_fault a b ≡ None → (a ≡ None) × (b ≡ None)
halves None None h = (refl, refl)
halves None (Some k) h = absurd (cc h)
halves (Some k) b h = absurd (cc h)

small : (m : ℕ) → fault_of_magnitude m ≡ None → m ≤ magnitudes
small m h = by (nat_le m magnitudes) refl h
  where
    by : (v : Bool) → nat_le m magnitudes ≡ v → (if v then None else Some Range) ≡ None → m ≤ magnitudes
    by true e g = leb-true m magnitudes e
    by false e g = absurd (cc g)

proposition : (ss : List Bounds) (e : Expr) (r : Result Bounds Kind) → bounds ss e ≡ r → truth_fault r ≡ None → IsProposition ss e
proposition ss e (Err k) is h = absurd (cc h)
proposition ss e (Ok b) is h = by (is_truth b) refl h
  where
    by : (v : Bool) → is_truth b ≡ v → (if v then None else Some Logic) ≡ None → IsProposition ss e
    by true t g = record { span = b; bounded = is; truth = t }
    by false t g = absurd (cc g)

calm : (v : Bool) → (if v then None else Some Logic) ≡ None → v ≡ true
calm true h = refl
calm false h = absurd (cc h)

faultless : (ss : List Bounds) (c : Constraint) → fault_in_bounds ss c ≡ None → IsFaultless ss c
faultless ss (Intension e) h = proposition ss e (bounds ss e) refl h
faultless ss (Cumulative a b x e f) h = calm (are_tasks ss b x) h
faultless ss (Extension a b x) h = tt
faultless ss (Unary a b x) h = tt
faultless ss (Regular a b x e) h = tt
faultless ss (Mdd a b x e) h = tt
faultless ss (AllDifferent a b) h = tt
faultless ss (DifferentLists a) h = tt
faultless ss (DifferentMatrix a) h = tt
faultless ss (AllEqual a) h = tt
faultless ss (Ordered a b x) h = tt
faultless ss (Lex a b) h = tt
faultless ss (LexMatrix a b) h = tt
faultless ss (Sum a b x) h = tt
faultless ss (Count a b x) h = tt
faultless ss (NValues a b x) h = tt
faultless ss (Cardinality a b x e) h = tt
faultless ss (Minimum a b) h = tt
faultless ss (Maximum a b) h = tt
faultless ss (Element a b x e) h = tt
faultless ss (ElementMatrix a b x e f g) h = tt
faultless ss (Channel a b) h = tt
faultless ss (ChannelTwo a b x e) h = tt
faultless ss (ChannelValue a b x) h = tt
faultless ss (NoOverlap a b x) h = tt
faultless ss (Circuit a b x) h = tt
faultless ss (Instantiation a b) h = tt

-- a constraint more
added_inv : (s t : Progress) (room : Bool) (fault : Option Kind) (c : Constraint) → added_on s room fault c ≡ Ok t → (room ≡ true) × ((fault ≡ None) × (with_constraint s c ≡ t))
added_inv s t false fault c h = absurd (cc h)
added_inv s t true (Some k) c h = absurd (cc h)
added_inv s t true None c h = let same : with_constraint s c ≡ t = cc in (refl, (refl, same))

taken_inv : (s t : Progress) (m : Option Condition) (c : Constraint) → taken_on true s m c ≡ Ok t → (m ≡ None) × (added_on s (has_room true s.constraints) (fault_of true (spans_of s.declared.decls) c) c ≡ Ok t)
taken_inv s t None c h = (refl, h)
taken_inv s t (Some k) c h = absurd (cc h)

constraint_kept : (s t : Progress) (c : Concrete) → IsKept s → taken true s c ≡ Ok t → IsKept t
constraint_kept s t c h e =
    let d = s.declared in
    let ss = spans_of d.decls in
    let os = outlines_of d.decls in
    let x = constraint_behind s c in
    let a = taken_inv s t (first_missed (form_meets s c)) x e in
    let b = added_inv s t (has_room true s.constraints) (fault_of true ss x) x a.1 in
    let faults = halves (fault_in_bounds ss x) (fault_of_magnitude (mag ss x)) b.1.0 in
    let measured : IsMeasured ss x = small (mag ss x) faults.1 in
    let sound : IsSoundConstraint ss x = record {
      formed = formed_spans d.decls x (good_forms.formed os (left_of s) c a.0);
      faultless = faultless ss x faults.0;
      measured = measured_form ss x measured;
      built = good_forms.built os c;
    } in
    let more = held_more d ss s.constraints s.objective (HeldItems s) x (items_of x) h sound measured (good_forms.few os (left_of s) c a.0) (ltb-true _ _ b.0) refl in
    let kept : IsKept (with_constraint s x) = subst (λ (n : ℕ). IsHeld d ss (s.constraints ++ x ∷ []) s.objective n) more.items more in
    subst IsKept b.1.1 kept

-- an objective
goal_kept : (s : Progress) (n : Node) → IsKept s → first_missed (objective_meets s n) ≡ None → goal_fault true (spans_of s.declared.decls) (objective_behind s n).body ≡ None → IsKept (with_objective s (objective_behind s n))
goal_kept s n h none calm = absurd (cc none)

goals_kept : (ns : List Node) (s t : Progress) → IsKept s → outcome s (map (objective_unit true) ns) ≡ Ok t → IsKept t
goals_kept [] s t h e = let same : s ≡ t = cc in subst IsKept same h
goals_kept (n ∷ ns) s t h e =
    let ss = spans_of s.declared.decls in
    let o = objective_behind s n in
    let next = with_objective s o in
    let a = missed_none (first_missed (objective_meets s n)) n.place (kind_or (goal_fault true ss o.body) n.place (outcome next (map (objective_unit true) ns))) t e in
    let b = kind_none (goal_fault true ss o.body) n.place (outcome next (map (objective_unit true) ns)) t a.1 in
    goals_kept ns next t (goal_kept s n h a.0 b.0) b.1

-- constraints one after the other
abbrev at_end : Known Progress → Option Fault → Ran Progress
at_end known fault = record { known = known; fault = fault }

ended_same : (known end : Known Progress) → at_end known None ≡ at_end end None → known ≡ end
ended_same known end h = ap (λ (r : Ran Progress). r.known) h

never_ended : (known end : Known Progress) (fault : Fault) → at_end known (Some fault) ≡ at_end end None → ⊥
never_ended known end fault h = let never : Some fault ≡ None = ap (λ (r : Ran Progress). r.fault) h in cc

all_kept : (cs : List Concrete) (known end : Known Progress) → IsKept known.state → take_all (taken true) cs known ≡ at_end end None → IsKept end.state
all_kept [] known end h e = subst (λ (k : Known Progress). IsKept k.state) (ended_same known end e) h
all_kept (c ∷ cs) known end h e = by (taken true known.state c) refl (λ k. all_kept cs k end) e
  where
    by : (r : Result Progress Kind) → taken true known.state c ≡ r → ((k : Known Progress) → IsKept k.state → take_all (taken true) cs k ≡ at_end end None → IsKept end.state)
        → on_taken known c.place r (take_all (taken true) cs) ≡ at_end end None → IsKept end.state
    by (Ok t) is more g = more (record { words = known.words; state = t }) (constraint_kept known.state t c h is) g
    by (Err k) is more g = absurd (never_ended known end (record { kind = k; place = c.place }) g)

or_none : (m : Option Condition) (known end : Known Progress) (place : ℕ) (more : Ran Progress) → ran_or m known place more ≡ at_end end None → more ≡ at_end end None
or_none None known end place more h = h
or_none (Some k) known end place more h = let never = ap (λ (r : Ran Progress). r.fault) h in absurd (cc never)

then_on_none : (fault : Option Fault) (known end : Known Progress) (next : Known Progress → Ran Progress) → then_on fault known next ≡ at_end end None → (fault ≡ None) × (next known ≡ at_end end None)
then_on_none None known end next h = (refl, h)
then_on_none (Some f) known end next h = let never = ap (λ (r : Ran Progress). r.fault) h in absurd (cc never)

run_kept : (us : List Unit) (known end : Known Progress) → IsKept known.state → run (taken true) us known ≡ at_end end None → IsKept end.state
run_kept [] known end h e = subst (λ (k : Known Progress). IsKept k.state) (ended_same known end e) h
run_kept (Holds p m ∷ us) known end h e = run_kept us known end h (or_none (first_missed m) known end p (run (taken true) us known) e)
run_kept (Makes p m w made ∷ us) known end h e =
    let ran = take_all (taken true) made (counted known w) in
    let a = or_none (first_missed (m known.words)) known end p (proceed ran (run (taken true) us)) e in
    let b = then_on_none ran.fault ran.known end (run (taken true) us) a in
    run_kept us ran.known end (all_kept made (counted known w) ran.known h (ap (λ (f : Option Fault). at_end ran.known f) b.0)) b.1

-- sections
told_inv : (fault : Option Fault) (s t : Progress) → told_fault fault s ≡ Ok t → (fault ≡ None) × (s ≡ t)
told_inv None s t h = let same : s ≡ t = cc in (refl, same)
told_inv (Some f) s t h = absurd (cc h)

constraints_kept : (s t : Progress) (n : Node) → IsKept s → constraints_outcome true s n ≡ Ok t → IsKept t
constraints_kept s t n h e =
    let us = section_units within_words (outlines_of s.declared.decls) n in
    let start : Known Progress = record { words = 0; state = s } in
    let ran = run (taken true) us start in
    let a = told_inv ran.fault ran.known.state t e in
    subst IsKept a.1 (run_kept us start ran.known h (ap (λ (f : Option Fault). at_end ran.known f) a.0))

section_kept : (s t : Progress) (n : Node) → IsKept s → section_outcome true s n ≡ Ok t → IsKept t
section_kept s t n h = by (bytes_eq n.name (codes "constraints")) (bytes_eq n.name (codes "objectives"))
  where
    by : (a b : Bool) → (if a then constraints_outcome true s n else (if b then outcome s (objectives_units true n) else Ok s)) ≡ Ok t → IsKept t
    by true b e = constraints_kept s t n h e
    by false true e = goals_kept (children_of n.pieces) s t h (missed_none (first_missed (objectives_meet n)) n.place (outcome s (map (objective_unit true) (children_of n.pieces))) t e).1
    by false false e = let same : s ≡ t = cc in subst IsKept same h

never_behind : (f : Fault) (ns : List Node) (t : Progress) → sections_behind true (Err f) ns ≡ Ok t → ⊥
never_behind f [] t h = cc
never_behind f (n ∷ ns) t h = cc

sections_kept : (ns : List Node) (s t : Progress) → IsKept s → sections_behind true (Ok s) ns ≡ Ok t → IsKept t
sections_kept [] s t h e = let same : s ≡ t = cc in subst IsKept same h
sections_kept (n ∷ ns) s t h e = by (section_outcome true s n) refl (λ u. sections_kept ns u t) e
  where
    by : (r : Result Progress Fault) → section_outcome true s n ≡ r → ((u : Progress) → IsKept u → sections_behind true (Ok u) ns ≡ Ok t → IsKept t) → sections_behind true r ns ≡ Ok t → IsKept t
    by (Ok u) is more g = more u (section_kept s u n h is) g
    by (Err f) is more g = absurd (never_behind f ns t g)

begun_kept : (d : Declared) → IsWhole d → IsKept (begun d)
begun_kept d h = record {
  whole = h;
  items = refl;
  few_items = let few = h.sound.few_values in omega (arith, few);
  spans = refl;
  constraints = tt;
  measured = tt;
  few_constraints = omega arith;
  goal = tt;
  measured_goal = tt;
  none = refl;
}

declared_kept : (v : Node) (rest : List Node) (t : Progress) → sections_outcome true (v ∷ rest) ≡ Ok t → IsKept t
declared_kept v rest t e = by (variables_outcome v) refl e
  where
    by : (r : Result Declared Fault) → variables_outcome v ≡ r → behind_declared true r rest ≡ Ok t → IsKept t
    by (Ok d) is g = sections_kept rest (begun d) t (begun_kept d (record { sound = sound_outcomes.sound v d is; few = sound_outcomes.few v d is })) g
    by (Err f) is g = absurd (cc g)

all_sections_kept : (ns : List Node) (t : Progress) → are_sections (names_of ns) ≡ true → sections_outcome true ns ≡ Ok t → IsKept t
all_sections_kept [] t some e = absurd (cc some)
all_sections_kept (v ∷ rest) t some e = declared_kept v rest t e

spelt_accepted : (text : List ℕ) (i : Instance) → Spells text i → IsAccepted i
spelt_accepted text i h =
    let n = h.root in
    let s = h.read in
    let a = missed_none (first_missed (instance_meets n)) n.place (sections_outcome true (children_of n.pieces)) s h.meets in
    let met = met_at (instance_meets n) a.0 in
    let sections : are_sections (names_of (children_of n.pieces)) ≡ true = and_right (is_blank (text_in n.pieces)) (are_sections (names_of (children_of n.pieces))) (met Spelling) in
    let kept : IsKept s = all_sections_kept (children_of n.pieces) s sections a.1 in
    subst IsAccepted (sym h.instance) (held_accepted s.declared (spans_of s.declared.decls) s.constraints s.objective (HeldItems s) kept)

pub spelt_is_accepted : SpeltIsAccepted
spelt_is_accepted = spelt_accepted
