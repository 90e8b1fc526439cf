-- What the table of names gives.
use Rattle.std.proofs.Common.{◌≡◌, ℕ, List, [], ◌∷◌, refl, Bool, true, false, Option, Some, if◌then◌else◌}
use Rattle.std.specs.Prelude.{IfSome}
use Rattle.std.specs.Str.{bytes_eq}
use Rattle.std.proofs.lemmas.Slice.Eq.{bytes_eq-Decides}
use Rattle.xs_forms.specs.declared.form.Form.{Form}
use Rattle.xs_forms.specs.declared.form.Form.TheVariants as form
use Rattle.xs_forms.specs.Forms.{form_name, look_up, by_name}

-- each row is found by its own name, so no two names agree
pub by_name-form_name : (f : Form) → by_name (form_name f) ≡ Some f
by_name-form_name form.Intension = refl
by_name-form_name form.Extension = refl
by_name-form_name form.Regular = refl
by_name-form_name form.Mdd = refl
by_name-form_name form.AllDifferent = refl
by_name-form_name form.AllEqual = refl
by_name-form_name form.Ordered = refl
by_name-form_name form.Lex = refl
by_name-form_name form.Sum = refl
by_name-form_name form.Count = refl
by_name-form_name form.NValues = refl
by_name-form_name form.Cardinality = refl
by_name-form_name form.Minimum = refl
by_name-form_name form.Maximum = refl
by_name-form_name form.Element = refl
by_name-form_name form.Channel = refl
by_name-form_name form.NoOverlap = refl
by_name-form_name form.Cumulative = refl
by_name-form_name form.Circuit = refl
by_name-form_name form.Instantiation = refl

chosen : (t : Bool) (f : Form) (r : Option Form) (name : List ℕ) → (t ≡ true → form_name f ≡ name) → IfSome r (λ d. form_name d ≡ name) → IfSome (if t then Some f else r) (λ d. form_name d ≡ name)
chosen true f r name h k = h refl
chosen false f r name h k = k

-- what is found has the name
pub look_up-named : (fs : List Form) (name : List ℕ) → IfSome (look_up fs name) (λ f. form_name f ≡ name)
look_up-named [] name = tt
look_up-named (f ∷ fs) name = chosen (bytes_eq (form_name f) name) f (look_up fs name) name (bytes_eq-Decides (form_name f) name).0 (look_up-named fs name)
