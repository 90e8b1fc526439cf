-- A text is read as one model, or has one fault.
use Rattle.std.proofs.Common.{◌≡◌, inl, inr, ℕ, ◌-◌, ℤ, List, length, Option, Result, Ok, Err, ap, sym, ◌∙◌}
use Rattle.xf_text.specs.declared.fault.Fault.{Fault}
use Rattle.xf_text.specs.declared.fault.Kind.{Kind}
use Rattle.xf_text.specs.declared.fault.Kind.TheVariants.{Depth, Syntax}
use Rattle.fz_model.specs.declared.model.Model.{Model}
use Rattle.fz_tokens.specs.Tokens.{tokens_of}
use Rattle.fz_grammar.specs.Items.{IsModel}
use Rattle.fz_grammar.specs.declared.tree.Reading.{Reading}
use Rattle.fz_grammar.proofs.Alone.{one_misfit, one_deep, no_low_and_deep, no_misfit_and_deep}
use Rattle.fz_grammar.proofs.Once.{one_place, no_tree_and_stop}
use Rattle.fz_items.specs.Conditions.{in_order}
use Rattle.fz_items.specs.Outcome.{outcome}
use Rattle.fz_read.specs.Reading.{Spells, IsFaulty, OneReading}

abbrev Outcomes : Result Model Fault → Result Model Fault → Type 0
Outcomes a b = a ≡ b

same_model : (m n : Model) → Outcomes (Ok m) (Ok n) → m ≡ n
same_model m n h = cc

same_fault : (f g : Fault) → Outcomes (Err f) (Err g) → f ≡ g
same_fault f g h = cc

not_both : (m : Model) (f : Fault) → Outcomes (Ok m) (Err f) → ⊥
not_both m f h = cc

abbrev fault_at : Kind → ℕ → Fault
fault_at kind place = record { kind = kind; place = place }

module _ (bound : Option ℤ) (text : List ℕ) where
  abbrev told : Reading → Result Model Fault
  told r = outcome in_order bound (length text) r

  models : (m n : Model) → Spells bound text m → Spells bound text n → m ≡ n
  models m n h g =
      same_model m n (sym h.meets ∙ (ap told (one_place (tokens_of text) h.reading g.reading h.low h.items.model g.items.model h.items.placed g.items.placed) ∙ g.meets))

  unfit_place : (f g : Fault) (a b : ℕ) → f ≡ fault_at Syntax (length text - a) → g ≡ fault_at Syntax (length text - b) → a ≡ b → f ≡ g
  unfit_place f g a b e d s = e ∙ (ap (λ k. fault_at Syntax (length text - k)) s ∙ sym d)

  deep_place : (f g : Fault) (a b : ℕ) → f ≡ fault_at Depth (length text - a) → g ≡ fault_at Depth (length text - b) → a ≡ b → f ≡ g
  deep_place f g a b e d s = e ∙ (ap (λ k. fault_at Depth (length text - k)) s ∙ sym d)

  faults : (f g : Fault) → IsFaulty bound text f → IsFaulty bound text g → f ≡ g
  faults f g (inl u) (inl v) = unfit_place f g u.left v.left u.is v.is (one_misfit IsModel (tokens_of text) u.left v.left u.misfit v.misfit)
  faults f g (inl u) (inr (inl d)) = absurd (no_misfit_and_deep IsModel (tokens_of text) u.left d.left u.misfit d.deep)
  faults f g (inl u) (inr (inr m)) = absurd (no_tree_and_stop (tokens_of text) m.reading.syntax u.left m.items.model u.misfit)
  faults f g (inr (inl d)) (inl u) = absurd (no_misfit_and_deep IsModel (tokens_of text) u.left d.left u.misfit d.deep)
  faults f g (inr (inl d)) (inr (inl e)) = deep_place f g d.left e.left d.is e.is (one_deep IsModel (tokens_of text) d.left e.left d.deep e.deep)
  faults f g (inr (inl d)) (inr (inr m)) = absurd (no_low_and_deep IsModel (tokens_of text) d.left m.low d.deep)
  faults f g (inr (inr m)) (inl u) = absurd (no_tree_and_stop (tokens_of text) m.reading.syntax u.left m.items.model u.misfit)
  faults f g (inr (inr m)) (inr (inl d)) = absurd (no_low_and_deep IsModel (tokens_of text) d.left m.low d.deep)
  faults f g (inr (inr m)) (inr (inr n)) =
      same_fault f g (sym m.misses ∙ (ap told (one_place (tokens_of text) m.reading n.reading m.low m.items.model n.items.model m.items.placed n.items.placed) ∙ n.misses))

  apart : (m : Model) (f : Fault) → Spells bound text m → IsFaulty bound text f → ⊥
  apart m f h (inl u) = no_tree_and_stop (tokens_of text) h.reading.syntax u.left h.items.model u.misfit
  apart m f h (inr (inl d)) = no_low_and_deep IsModel (tokens_of text) d.left h.low d.deep
  apart m f h (inr (inr n)) =
      not_both m f (sym h.meets ∙ (ap told (one_place (tokens_of text) h.reading n.reading h.low h.items.model n.items.model h.items.placed n.items.placed) ∙ n.misses))

pub one_reading : OneReading
one_reading = record { models = models; faults = faults; apart = apart }
