-- What misses nothing misses nothing where no limit is asked: conditions, units one after the other, and constraints.
use Rattle.std.proofs.Common.{◌≡◌, ℕ, Bool, true, false, ◌||◌, List, [], ◌∷◌, map, Option, None, Some, Result, Ok, Err, refl, ap, sym, ◌∙◌}
use Rattle.xf_markup.specs.declared.tree.Node.{Node}
use Rattle.xf_text.specs.declared.fault.Fault.{Fault}
use Rattle.xf_text.specs.declared.fault.Kind.{Kind}
use Rattle.xf_text.specs.declared.fault.Kind.TheVariants.{Many}
use Rattle.xs_fields.specs.Conditions.{first_missed, kind_of}
use Rattle.xs_fields.specs.declared.condition.Condition.{Condition}
use Rattle.xs_fields.proofs.FirstLemmas.{all_met, met_at}
use Rattle.xs_file.specs.Asked.{asked, asked_each, fault_in_bounds, fault_of, fault_of_magnitude, first_fault, goal_fault, goal_in_bounds, has_room, unlimited}
use Rattle.xs_file.specs.Sections.{Progress, added, added_on, constraint_behind, form_meets, objective_behind, objective_meets, objective_unit, taken, taken_on, with_objective}
use Rattle.xs_model.specs.Fields.{body_fields}
use Rattle.xs_model.specs.Magnitude.{mag, mag_of}
use Rattle.xs_model.specs.Spans.{spans_of}
use Rattle.xs_model.specs.declared.concrete.Concrete.{Concrete}
use Rattle.xs_model.specs.declared.instance.Constraint.{Constraint}
use Rattle.xs_objectives.specs.Law.{is_limit}
use Rattle.xs_units.specs.Units.{Ran, on_taken, take_all}
use Rattle.xs_units.specs.declared.known.Known.{Known}
use Rattle.xs_var.specs.Units.{UnitOf, fault_or, kind_or, outcome}

or_right : (a b : Bool) → b ≡ true → (a || b) ≡ true
or_right true b h = refl
or_right false b h = h

pub asked_none : (t : Condition → Bool) → first_missed t ≡ None → first_missed (asked false t) ≡ None
asked_none t h = all_met (asked false t) (λ k. or_right (is_limit k) (t k) (met_at t h k))

-- units one after the other
pub missed_none : {K : Type 0} (m : Option Condition) (place : ℕ) (more : Result K Fault) (t : K) → fault_or m place more ≡ Ok t → (m ≡ None) × (more ≡ Ok t)
missed_none None place more t h = (refl, h)
missed_none (Some k) place more t h = absurd (cc h)

pub kind_none : {K : Type 0} (m : Option Kind) (place : ℕ) (more : Result K Fault) (t : K) → kind_or m place more ≡ Ok t → (m ≡ None) × (more ≡ Ok t)
kind_none None place more t h = (refl, h)
kind_none (Some k) place more t h = absurd (cc h)

-- a unit in front, of which nothing is missed and which is not at fault
pub in_front : {K : Type 0} (m : Option Condition) (o : Option Kind) (place : ℕ) (more : Result K Fault) (t : K) → m ≡ None → o ≡ None → more ≡ Ok t → fault_or m place (kind_or o place more) ≡ Ok t
in_front None None place more t a b h = h
in_front (Some k) o place more t a b h = absurd (cc a)
in_front None (Some k) place more t a b h = absurd (cc b)

pub declared_unlimited : {K : Type 0} (us : List (UnitOf K)) (s t : K) → outcome s us ≡ Ok t → outcome s (map unlimited us) ≡ Ok t
declared_unlimited [] s t h = h
declared_unlimited (u ∷ us) s t h =
    let a = missed_none (first_missed (u.meets s)) u.place (kind_or (u.judged s) u.place (outcome (u.behind s) us)) t h in
    let b = kind_none (u.judged s) u.place (outcome (u.behind s) us) t a.1 in
    in_front (first_missed (asked false (u.meets s))) (u.judged s) u.place (outcome (u.behind s) (map unlimited us)) t (asked_none (u.meets s) a.0) b.0 (declared_unlimited us (u.behind s) t b.1)

-- objectives
first_none : (a b : Option Kind) → first_fault a b ≡ None → a ≡ None
first_none None b h = refl
first_none (Some k) b h = absurd (cc h)

pub goals_unlimited : (ns : List Node) (s t : Progress) → outcome s (map (objective_unit true) ns) ≡ Ok t → outcome s (map (objective_unit false) ns) ≡ Ok t
goals_unlimited [] s t h = h
goals_unlimited (n ∷ ns) s t h =
    let ss = spans_of s.declared.decls in
    let body = (objective_behind s n).body in
    let next = with_objective s (objective_behind s n) in
    let a = missed_none (first_missed (objective_meets s n)) n.place (kind_or (goal_fault true ss body) n.place (outcome next (map (objective_unit true) ns))) t h in
    let b = kind_none (goal_fault true ss body) n.place (outcome next (map (objective_unit true) ns)) t a.1 in
    in_front (first_missed (asked false (objective_meets s n))) (goal_fault false ss body) n.place (outcome next (map (objective_unit false) ns)) t
    (asked_none (objective_meets s n) a.0) (first_none (goal_in_bounds ss body) (fault_of_magnitude (mag_of ss (body_fields body))) b.0) (goals_unlimited ns next t b.1)

-- constraints
added_none : (s t : Progress) (room : Bool) (fault : Option Kind) (c : Constraint) → added_on s room fault c ≡ Ok t → (fault ≡ None) × (added_on s true None c ≡ Ok t)
added_none s t false fault c h = absurd (cc h)
added_none s t true (Some k) c h = absurd (cc h)
added_none s t true None c h = (refl, h)

taken_none : (s t : Progress) (m : Option Condition) (c : Constraint) → taken_on true s m c ≡ Ok t → (m ≡ None) × (added true s c ≡ Ok t)
taken_none s t None c h = (refl, h)
taken_none s t (Some k) c h = absurd (cc h)

pub taken_unlimited : (s t : Progress) (c : Concrete) → taken true s c ≡ Ok t → taken false s c ≡ Ok t
taken_unlimited s t c h =
    let x = constraint_behind s c in
    let ss = spans_of s.declared.decls in
    let a = taken_none s t (first_missed (form_meets s c)) x h in
    let b = added_none s t (has_room true s.constraints) (fault_of true ss x) x a.1 in
    ap (λ m. taken_on false s m x) (asked_none (form_meets s c) a.0) ∙ ap (λ f. added_on s true f x) (first_none (fault_in_bounds ss x) (fault_of_magnitude (mag ss x)) b.0) ∙ b.1

abbrev at_end : Known Progress → Option Fault → Ran Progress
at_end known fault = record { known = known; fault = fault }

some_fault : (known end : Known Progress) (fault : Fault) → at_end known (Some fault) ≡ at_end end None → ⊥
some_fault known end fault h = let never : Some fault ≡ None = ap (λ (r : Ran Progress). r.fault) h in cc

pub all_unlimited : (cs : List Concrete) (known end : Known Progress) → take_all (taken true) cs known ≡ record { known = end; fault = None } → take_all (taken false) cs known ≡ record { known = end; fault = None }
all_unlimited [] known end h = h
all_unlimited (c ∷ cs) known end h = by (taken true known.state c) refl (λ k. all_unlimited cs k end) h
  where
    by : (r : Result Progress Kind) → taken true known.state c ≡ r → ((k : Known Progress) → take_all (taken true) cs k ≡ record { known = end; fault = None } → take_all (taken false) cs k ≡ record { known = end; fault = None })
        → on_taken known c.place r (take_all (taken true) cs) ≡ record { known = end; fault = None }
        → on_taken known c.place (taken false known.state c) (take_all (taken false) cs) ≡ record { known = end; fault = None }
    by (Ok t) e more g =
        ap (λ r. on_taken known c.place r (take_all (taken false) cs)) (taken_unlimited known.state t c e)
        ∙ more (record { words = known.words; state = t }) g
    by (Err k) e more g = absurd (some_fault known end (record { kind = k; place = c.place }) g)
