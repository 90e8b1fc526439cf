-- What is declared stays while constraints are taken, and what is read of `constraints`.
use Rattle.std.proofs.Common.{◌≡◌, ℕ, Bool, true, false, List, [], ◌∷◌, Option, None, Some, Err, Ok, Result, refl, sym, ap, ◌∙◌}
use Rattle.xf_markup.specs.declared.tree.Node.{Node}
use Rattle.xf_num.specs.declared.memory.NoMemory.{NoMemory}
use Rattle.xf_text.specs.declared.fault.Fault.{Fault}
use Rattle.xf_text.specs.declared.fault.Stop.{Stop}
use Rattle.xf_text.specs.declared.fault.Stop.TheVariants.{Memory, Refused}
use Rattle.xf_text.specs.declared.fault.Kind.{Kind}
use Rattle.xs_fields.specs.Conditions.{first_missed}
use Rattle.xs_fields.specs.declared.condition.Condition.{Condition}
use Rattle.xs_file.specs.Sections.{IsStep, Progress, added_on, constraint_behind, constraints_outcome, form_meets, section_outcome, sections_behind, taken, taken_on, told_fault, told_ran}
use Rattle.xs_model.specs.Accepted.{most_constraints}
use Rattle.xs_model.specs.declared.concrete.Concrete.{Concrete}
use Rattle.xs_model.specs.declared.instance.Constraint.{Constraint}
use Rattle.xs_model.specs.Outline.{Outline, outlines_of}
use Rattle.xs_template.specs.Template.{within_words}
use Rattle.xs_units.specs.Units.{Holds, IsTaken, Makes, Ran, Unit, counted, on_taken, proceed, ran_or, run, section_units, take_all, then_on}
use Rattle.xs_var.specs.Taken.{IsRead}
use Rattle.xs_var.specs.VarUnit.{Declared}
use Rattle.xs_units.specs.declared.known.Known.{Known}

added_declared : (s t : Progress) (room : Bool) (fault : Option Kind) (c : Constraint) → added_on s room fault c ≡ Ok t → t.declared ≡ s.declared
added_declared s t false fault c h = absurd (cc h)
added_declared s t true (Some k) c h = absurd (cc h)
added_declared s t true None c h = sym (ap (λ r. declared_in s r) h)
  where
    declared_in : Progress → Result Progress Kind → Declared
    declared_in s (Ok t) = t.declared
    declared_in s (Err k) = s.declared

taken_declared : (s t : Progress) (m : Option Condition) (c : Constraint) → taken_on true s m c ≡ Ok t → t.declared ≡ s.declared
taken_declared s t None c h = added_declared s t _ _ c h
taken_declared s t (Some k) c h = absurd (cc h)

on_declared : (known : Known Progress) (place : ℕ) (r : Result Progress Kind) (next : Known Progress → Ran Progress) → ((t : Progress) → r ≡ Ok t → t.declared ≡ known.state.declared) → ((k : Known Progress) → (next k).known.state.declared ≡ k.state.declared)
    → (on_taken known place r next).known.state.declared ≡ known.state.declared
on_declared known place (Ok t) next h more = more (record { words = known.words; state = t }) ∙ h t refl
on_declared known place (Err k) next h more = refl

all_declared : (cs : List Concrete) (known : Known Progress) → (take_all (taken true) cs known).known.state.declared ≡ known.state.declared
all_declared [] known = refl
all_declared (c ∷ cs) known =
    on_declared known c.place (taken true known.state c) (take_all (taken true) cs) (λ t e. taken_declared known.state t (first_missed (form_meets known.state c)) (constraint_behind known.state c) e) (λ k. all_declared cs k)

or_declared : (m : Option Condition) (known : Known Progress) (place : ℕ) (more : Ran Progress) → more.known.state.declared ≡ known.state.declared → (ran_or m known place more).known.state.declared ≡ known.state.declared
or_declared None known place more h = h
or_declared (Some k) known place more h = refl

then_declared : (fault : Option Fault) (known : Known Progress) (next : Known Progress → Ran Progress) → ((k : Known Progress) → (next k).known.state.declared ≡ k.state.declared) → (then_on fault known next).known.state.declared ≡ known.state.declared
then_declared None known next more = more known
then_declared (Some f) known next more = refl

pub run_declared : (us : List Unit) (known : Known Progress) → (run (taken true) us known).known.state.declared ≡ known.state.declared
run_declared [] known = refl
run_declared (Holds place meets ∷ us) known = or_declared (first_missed meets) known place (run (taken true) us known) (run_declared us known)
run_declared (Makes place meets words made ∷ us) known =
    let ran = take_all (taken true) made (counted known words) in
    or_declared (first_missed (meets known.words)) known place (proceed ran (run (taken true) us)) (then_declared ran.fault ran.known (run (taken true) us) (λ k. run_declared us k) ∙ all_declared made (counted known words))

-- what is read of a section, where it is told by these names
pub section_read : (s : Progress) (known : Known Progress) (fault : Option Fault) (n : Node) (os : List Outline) → os ≡ outlines_of s.declared.decls
    → run (taken true) (section_units within_words os n) (record { words = 0; state = s }) ≡ record { known = known; fault = fault } → constraints_outcome true s n ≡ told_fault fault known.state
section_read s known fault n os e h = ap told_ran (ap (λ (ns : List Outline). run (taken true) (section_units within_words ns n) (record { words = 0; state = s })) (sym e) ∙ h)

pub section_declared : (s : Progress) (known : Known Progress) (fault : Option Fault) (n : Node) (os : List Outline)
    → run (taken true) (section_units within_words os n) (record { words = 0; state = s }) ≡ record { known = known; fault = fault } → known.state.declared ≡ s.declared
section_declared s known fault n os h = sym (ap (λ r. r.known.state.declared) h) ∙ run_declared (section_units within_words os n) (record { words = 0; state = s })

-- a step is what a taker of constraints is asked for
pub step_taken : (old new : Progress) (c : Concrete) (r : Result (Option Kind) NoMemory) → IsStep (taken true old c) old new r → IsTaken (taken true) old new c r
step_taken old new c (Ok None) h = h
step_taken old new c (Ok (Some k)) h = h
step_taken old new c (Err e) h = tt

behind_err : (fault : Fault) (ns : List Node) → sections_behind true (Err fault) ns ≡ Err fault
behind_err fault [] = refl
behind_err fault (n ∷ ns) = refl

-- a section at fault, whatever stands behind it
pub rest_err : (s : Progress) (stop : Stop) (n : Node) (ns : List Node) → IsRead {A = Progress} (λ h. h) (Err stop) (section_outcome true s n) → IsRead {A = Progress} (λ h. h) (Err stop) (sections_behind true (Ok s) (n ∷ ns))
rest_err s Memory n ns h = tt
rest_err s (Refused fault) n ns h = ap (λ r. sections_behind true r ns) h ∙ behind_err fault ns
