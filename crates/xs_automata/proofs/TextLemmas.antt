-- What the texts of an automaton do where lengths are asked.
use Rattle.std.proofs.Common.{◌≡◌, ℕ, Bool, true, ◌&&◌, List, Option, None, Result, refl, ap, sym, subst, ◌∙◌}
use Rattle.xf_text.specs.declared.fault.FieldStop.{FieldStop}
use Rattle.xs_automata.specs.Transitions.{state_meets, states_meet, step_meets, transitions_meet}
use Rattle.xs_automata.proofs.ScanLemmas.{identifier_fits, step_fits}
use Rattle.xs_fields.specs.Cells.{vars_meet}
use Rattle.xs_fields.specs.Conditions.{IsOrMemory, all_meet, answer, answer_on, earlier_of, first_missed}
use Rattle.xs_fields.specs.Identifiers.{identifier_meets}
use Rattle.xs_fields.specs.Words.{words_of}
use Rattle.xs_fields.specs.declared.condition.Condition.{Condition}
use Rattle.xs_fields.specs.declared.condition.Condition.TheVariants.{Fitting}
use Rattle.xs_fields.proofs.OrderLemmas.{first_missed-both}
use Rattle.xs_model.specs.Outline.{Outline}
use Rattle.xs_tables.specs.Groups.{groups_of}
use Rattle.xs_tables.specs.Tables.{sizes_meet}
use Rattle.xs_tables.proofs.TableLemmas.{all_fit, both_true, vars_fit}

pub transitions_fit : (text : List ℕ) (left : ℕ) → transitions_meet text left Fitting ≡ true
transitions_fit text left =
    both_true (all_meet step_meets (groups_of text) Fitting && true) true (both_true (all_meet step_meets (groups_of text) Fitting) true (all_fit step_meets step_fits (groups_of text)) refl) refl

pub states_fit : (text : List ℕ) (left : ℕ) → states_meet text left Fitting ≡ true
states_fit text left = both_true (all_meet identifier_meets (words_of text) Fitting) true (all_fit identifier_meets identifier_fits (words_of text)) refl

pub diagram_texts_fit : (os : List Outline) (list transitions : List ℕ) (left : ℕ) → (vars_meet os list left Fitting && transitions_meet transitions left Fitting) ≡ true
diagram_texts_fit os list transitions left = both_true (vars_meet os list left Fitting) (transitions_meet transitions left Fitting) (vars_fit os list left) (transitions_fit transitions left)

pub automaton_texts_fit : (os : List Outline) (list transitions start final : List ℕ) (left : ℕ)
    → (vars_meet os list left Fitting && (transitions_meet transitions left Fitting && (state_meets start Fitting && states_meet final left Fitting))) ≡ true
automaton_texts_fit os list transitions start final left =
    both_true (vars_meet os list left Fitting) (transitions_meet transitions left Fitting && (state_meets start Fitting && states_meet final left Fitting)) (vars_fit os list left)
    (both_true (transitions_meet transitions left Fitting) (state_meets start Fitting && states_meet final left Fitting) (transitions_fit transitions left) (states_fit final left))

-- where the texts miss nothing, counts and lengths decide what is answered
pub decided : {A : Type 0} (t : Condition → Bool) (count left : ℕ) (fits : Bool) (m : Option Condition) (made due : A) (r : Result A FieldStop) → IsOrMemory r (answer_on m made) → first_missed t ≡ None
    → m ≡ first_missed (sizes_meet count left fits) → made ≡ due → IsOrMemory r (answer (λ j. t j && sizes_meet count left fits j) due)
decided t count left fits m made due r holds none sizes are =
    let whole : m ≡ first_missed (λ j. t j && sizes_meet count left fits j) =
    sizes ∙ sym (ap (λ o. earlier_of o (first_missed (sizes_meet count left fits))) none) ∙ first_missed-both t (sizes_meet count left fits) in
    subst (λ n. IsOrMemory r (answer_on n due)) whole (subst (λ v. IsOrMemory r (answer_on m v)) are holds)
