-- What a text spells it denotes, and it denotes one instance.
use Rattle.std.proofs.Common.{◌≡◌, ℕ, Bool, true, false, if◌then◌else◌, codes, List, [], ◌∷◌, map, Option, None, Some, Result, Ok, Err, refl, ap, sym, ◌∙◌}
use Rattle.std.specs.Str.{bytes_eq}
use Rattle.xf_markup.specs.declared.tree.Node.{Node}
use Rattle.xf_markup.proofs.Unique.{one_tree}
use Rattle.xf_text.specs.declared.fault.Fault.{Fault}
use Rattle.xs_fields.specs.Conditions.{first_missed}
use Rattle.xs_file.specs.Asked.{asked_units, told_by, unlimited_unit}
use Rattle.xs_file.specs.Reading.{Denotes, OneDenoted, Spells}
use Rattle.xs_file.specs.Sections.{Progress, begun, behind_declared, constraints_outcome, instance_meets, instance_of, instance_outcome, objective_unit, objectives_meet, objectives_units, section_outcome, sections_behind, sections_outcome, taken, told_fault, told_ran}
use Rattle.xs_file.proofs.LooserLemmas.{ended, run_looser, section_looser}
use Rattle.xs_file.proofs.UnlimitedLemmas.{declared_unlimited, goals_unlimited, in_front, missed_none}
use Rattle.xs_model.specs.Outline.{outlines_of}
use Rattle.xs_model.specs.declared.instance.Instance.{Instance}
use Rattle.xs_template.specs.Template.{as_written, within_words}
use Rattle.xs_units.specs.Units.{Ran, run, section_units}
use Rattle.xs_units.specs.declared.known.Known.{Known}
use Rattle.xs_var.specs.Elements.{children_of}
use Rattle.xs_var.specs.Units.{outcome}
use Rattle.xs_var.specs.VarUnit.{Declared}
use Rattle.xs_vars.specs.Declarations.{nothing, units_of}

told_none : (fault : Option Fault) (s t : Progress) → told_fault fault s ≡ Ok t → (fault ≡ None) × (told_fault None s ≡ Ok t)
told_none None s t h = (refl, h)
told_none (Some f) s t h = absurd (cc h)

constraints_unlimited : (s t : Progress) (n : Node) → constraints_outcome true s n ≡ Ok t → constraints_outcome false s n ≡ Ok t
constraints_unlimited s t n h =
    let os = outlines_of s.declared.decls in
    let start : Known Progress = record { words = 0; state = s } in
    let ran = run (taken true) (section_units within_words os n) start in
    let a = told_none ran.fault ran.known.state t h in
    ap told_ran (run_looser (section_units within_words os n) (map unlimited_unit (section_units as_written os n)) (section_looser os n) start ran.known (ended ran a.0)) ∙ a.1

objectives_unlimited : (s t : Progress) (n : Node) → outcome s (objectives_units true n) ≡ Ok t → outcome s (objectives_units false n) ≡ Ok t
objectives_unlimited s t n h =
    let a = missed_none (first_missed (objectives_meet n)) n.place (outcome s (map (objective_unit true) (children_of n.pieces))) t h in
    in_front (first_missed (objectives_meet n)) None n.place (outcome s (map (objective_unit false) (children_of n.pieces))) t a.0 refl (goals_unlimited (children_of n.pieces) s t a.1)

section_unlimited : (s t : Progress) (n : Node) → section_outcome true s n ≡ Ok t → section_outcome false s n ≡ Ok t
section_unlimited s t n h = by (bytes_eq n.name (codes "constraints")) (bytes_eq n.name (codes "objectives")) h
  where
    by : (a b : Bool) → (if a then constraints_outcome true s n else if b then outcome s (objectives_units true n) else Ok s) ≡ Ok t
        → (if a then constraints_outcome false s n else if b then outcome s (objectives_units false n) else Ok s) ≡ Ok t
    by true b g = constraints_unlimited s t n g
    by false true g = objectives_unlimited s t n g
    by false false g = g

never_behind : (f : Fault) (ns : List Node) (t : Progress) → sections_behind true (Err f) ns ≡ Ok t → ⊥
never_behind f [] t h = cc
never_behind f (n ∷ ns) t h = cc

sections_unlimited : (ns : List Node) (s t : Progress) → sections_behind true (Ok s) ns ≡ Ok t → sections_behind false (Ok s) ns ≡ Ok t
sections_unlimited [] s t h = h
sections_unlimited (n ∷ ns) s t h = by (section_outcome true s n) refl (λ u. sections_unlimited ns u t) h
  where
    by : (r : Result Progress Fault) → section_outcome true s n ≡ r → ((u : Progress) → sections_behind true (Ok u) ns ≡ Ok t → sections_behind false (Ok u) ns ≡ Ok t)
        → sections_behind true r ns ≡ Ok t → sections_behind false (section_outcome false s n) ns ≡ Ok t
    by (Ok u) e more g = ap (λ q. sections_behind false q ns) (section_unlimited s u n e) ∙ more u g
    by (Err f) e more g = absurd (never_behind f ns t g)

declared_behind : (v : Node) (rest : List Node) (t : Progress) → sections_outcome true (v ∷ rest) ≡ Ok t → sections_outcome false (v ∷ rest) ≡ Ok t
declared_behind v rest t h = by (outcome nothing (units_of v)) refl h
  where
    by : (r : Result Declared Fault) → outcome nothing (units_of v) ≡ r → behind_declared true r rest ≡ Ok t → sections_outcome false (v ∷ rest) ≡ Ok t
    by (Ok d) e g = ap (λ q. behind_declared false q rest) (declared_unlimited (units_of v) nothing d e) ∙ sections_unlimited rest (begun d) t g
    by (Err f) e g = absurd (cc g)

all_sections : (ns : List Node) (t : Progress) → sections_outcome true ns ≡ Ok t → sections_outcome false ns ≡ Ok t
all_sections [] t h = h
all_sections (v ∷ rest) t h = declared_behind v rest t h

instance_unlimited : (n : Node) (t : Progress) → instance_outcome true n ≡ Ok t → instance_outcome false n ≡ Ok t
instance_unlimited n t h =
    let a = missed_none (first_missed (instance_meets n)) n.place (sections_outcome true (children_of n.pieces)) t h in
    in_front (first_missed (instance_meets n)) None n.place (sections_outcome false (children_of n.pieces)) t a.0 refl (all_sections (children_of n.pieces) t a.1)

spelt_denoted : (text : List ℕ) (i : Instance) → Spells text i → Denotes text i
spelt_denoted text i h = record { root = h.root; read = h.read; tree = h.tree.0; meets = instance_unlimited h.root h.read h.meets; instance = h.instance }

ok_same : (r : Result Progress Fault) (a b : Progress) → r ≡ Ok a → r ≡ Ok b → a ≡ b
ok_same r a b h k = cc

denoted_same : (text : List ℕ) (i j : Instance) → Denotes text i → Denotes text j → i ≡ j
denoted_same text i j h k =
    let same : h.read ≡ k.read = ok_same (instance_outcome false k.root) h.read k.read (ap (instance_outcome false) (one_tree text k.root h.root k.tree h.tree) ∙ h.meets) k.meets in
    h.instance ∙ ap instance_of same ∙ sym k.instance

pub one_denoted : OneDenoted
one_denoted = record { spelt = spelt_denoted; instances = denoted_same }
