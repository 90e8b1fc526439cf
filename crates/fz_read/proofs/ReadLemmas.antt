-- What is answered to a text.
use Rattle.std.proofs.Common.{◌≡◌, ◌⊎◌, inl, inr, ℕ, ◌-◌, ℤ, List, [], length, Option, Result, Ok, Err, refl, ap, sym, ◌∙◌, subst}
use Rattle.std.specs.Prelude.{IfOk}
use Rattle.xf_text.specs.declared.fault.Fault.{Fault}
use Rattle.xf_text.specs.declared.fault.Kind.{Kind}
use Rattle.xf_text.specs.declared.fault.Kind.TheVariants.{Depth, Syntax}
use Rattle.xf_text.specs.declared.fault.Stop.{Stop}
use Rattle.xf_text.specs.declared.fault.Stop.TheVariants.{Memory, Refused}
use Rattle.fz_model.specs.declared.model.Model.{Model}
use Rattle.fz_tokens.specs.Tokens.{tokens_of}
use Rattle.fz_grammar.specs.Levels.{AreLow, words}
use Rattle.fz_grammar.specs.Items.{IsModel}
use Rattle.fz_grammar.specs.Placing.{IsPlaced}
use Rattle.fz_grammar.specs.Fits.{IsMisfit, IsTooDeep}
use Rattle.fz_grammar.specs.Answers.{IsMisfitOr, IsDeepOr}
use Rattle.fz_grammar.specs.declared.tree.Reading.{Reading}
use Rattle.fz_grammar.specs.declared.halt.Halt.{Halt}
use Rattle.fz_grammar.specs.declared.halt.Halt.TheVariants as halts
use Rattle.fz_grammar.specs.declared.halt.Fault.TheVariants as unfit
use Rattle.fz_model.specs.Sound.{IsSound}
use Rattle.fz_items.specs.Conditions.{in_order}
use Rattle.fz_items.specs.Items.{IsBound}
use Rattle.fz_sound.specs.Laws.{IsCounted}
use Rattle.fz_sound.proofs.SoundGoals.{outcome_sound}
use Rattle.fz_items.specs.Outcome.{outcome, IsRead}
use Rattle.fz_read.specs.Reading.{Spells, IsUnfit, IsNestedTooDeep, IsFaulty, stop_of}

-- this is answered, or memory was wanting
abbrev pub Says : Result Model Stop → Result Model Stop → Type 0
Says result told = (result ≡ told) ⊎ (result ≡ Err Memory)

abbrev pub Finds : Result Reading Halt → Reading → Type 0
Finds result r = (result ≡ Ok r) ⊎ (result ≡ Err halts.Memory)

abbrev answered : Model → Result Model Stop
answered m = Ok m

abbrev refused : Fault → Result Model Stop
refused f = Err (Refused f)

abbrev fault_at : Kind → ℕ → Fault
fault_at kind place = record { kind = kind; place = place }

module _ (bound : Option ℤ) (text : List ℕ) where
  -- what a reading of the text is read as
  abbrev pub Tells : Reading → Result Model Stop → Type 0
  Tells r result = IsRead (λ (m : Model). m) result (outcome in_order bound (length text) r)

  abbrev Faults : Result Model Fault → Result Model Fault → Type 0
  Faults a b = a ≡ b

  one_model : (m n : Model) → Faults (Ok m) (Ok n) → m ≡ n
  one_model m n h = cc

  same_ok : (result : Result Model Stop) (m : Model) → IsRead (λ (n : Model). n) result (Ok m) → Says result (Ok m)
  same_ok (Ok n) m h = inl (ap answered (sym (one_model m n h)))
  same_ok (Err (Refused f)) m h = cc
  same_ok (Err Memory) m h = inr refl

  one_fault : (f g : Fault) → Faults (Err f) (Err g) → f ≡ g
  one_fault f g h = cc

  same_fault : (result : Result Model Stop) (f : Fault) → IsRead (λ (n : Model). n) result (Err f) → Says result (Err (Refused f))
  same_fault (Ok n) f h = cc
  same_fault (Err (Refused g)) f h = inl (ap refused (sym (one_fault f g h)))
  same_fault (Err Memory) f h = inr refl

  -- what is read is sound
  pub sound_ok : (r : Reading) (result : Result Model Stop) → IsBound bound → IsModel r.syntax (words (tokens_of text)) → Tells r result → IfOk result (λ m. IsSound m × IsCounted m)
  sound_ok r (Ok m) right i h = outcome_sound bound text r m right i h
  sound_ok r (Err e) right i h = tt

  same_reading : (r q : Reading) → Finds (Ok r) q → r ≡ q
  same_reading r q (inl e) = cc
  same_reading r q (inr e) = cc

  pub known_ok : (r : Reading) (result : Result Model Stop) (m : Model) (s : Spells bound text m) → Finds (Ok r) s.reading → Tells r result → Says result (Ok m)
  known_ok r result m s e h = same_ok result m (subst (IsRead (λ (n : Model). n) result) (ap (λ q. outcome in_order bound (length text) q) (same_reading r s.reading e) ∙ s.meets) h)

  pub known_err : (halt : Halt) (m : Model) (q : Reading) → Finds (Err halt) q → Says (Err (stop_of halt (length text))) (Ok m)
  known_err halts.Memory m q e = inr refl
  known_err (halts.Fault x) m q (inl e) = cc
  known_err (halts.Fault x) m q (inr e) = cc

  pub fault_ok : (r : Reading) (result : Result Model Stop) (f : Fault)
      → ((left : ℕ) → IsMisfit IsModel (tokens_of text) left → IsMisfitOr left (Ok r))
      → ((left : ℕ) → IsTooDeep IsModel (tokens_of text) left → IsDeepOr left (Ok r))
      → ((q : Reading) → IsModel q.syntax (words (tokens_of text)) → AreLow 0 (words (tokens_of text)) → IsPlaced q (tokens_of text) [] → Finds (Ok r) q)
      → Tells r result → IsFaulty bound text f → Says result (Err (Refused f))
  fault_ok r result f misfit deep one h (inl u) = absurd (misfit u.left u.misfit)
  fault_ok r result f misfit deep one h (inr (inl d)) = absurd (deep d.left d.deep)
  fault_ok r result f misfit deep one h (inr (inr m)) =
      same_fault result f (subst (IsRead (λ (n : Model). n) result) (ap (λ q. outcome in_order bound (length text) q) (same_reading r m.reading (one m.reading m.items.model m.low m.items.placed)) ∙ m.misses) h)

  abbrev Stopped : Halt → Fault → Type 0
  Stopped halt f = Says (Err (stop_of halt (length text))) (Err (Refused f))

  misfit_stop : (halt : Halt) (f : Fault) (u : IsUnfit text f) → IsMisfitOr u.left (Err halt) → Stopped halt f
  misfit_stop halts.Memory f u h = inr refl
  misfit_stop (halts.Fault (unfit.Misfit at)) f u h = inl (ap (λ x. refused (fault_at Syntax (length text - x))) h ∙ ap refused (sym u.is))
  misfit_stop (halts.Fault (unfit.Deep at)) f u h = absurd h

  deep_stop : (halt : Halt) (f : Fault) (d : IsNestedTooDeep text f) → IsDeepOr d.left (Err halt) → Stopped halt f
  deep_stop halts.Memory f d h = inr refl
  deep_stop (halts.Fault (unfit.Misfit at)) f d h = absurd h
  deep_stop (halts.Fault (unfit.Deep at)) f d h = inl (ap (λ x. refused (fault_at Depth (length text - x))) h ∙ ap refused (sym d.is))

  missed_stop : (halt : Halt) (f : Fault) (q : Reading) → Finds (Err halt) q → Stopped halt f
  missed_stop halts.Memory f q e = inr refl
  missed_stop (halts.Fault x) f q (inl e) = cc
  missed_stop (halts.Fault x) f q (inr e) = cc

  pub fault_err : (halt : Halt) (f : Fault)
      → ((left : ℕ) → IsMisfit IsModel (tokens_of text) left → IsMisfitOr left (Err halt))
      → ((left : ℕ) → IsTooDeep IsModel (tokens_of text) left → IsDeepOr left (Err halt))
      → ((q : Reading) → IsModel q.syntax (words (tokens_of text)) → AreLow 0 (words (tokens_of text)) → IsPlaced q (tokens_of text) [] → Finds (Err halt) q)
      → IsFaulty bound text f → Stopped halt f
  fault_err halt f misfit deep one (inl u) = misfit_stop halt f u (misfit u.left u.misfit)
  fault_err halt f misfit deep one (inr (inl d)) = deep_stop halt f d (deep d.left d.deep)
  fault_err halt f misfit deep one (inr (inr m)) = missed_stop halt f m.reading (one m.reading m.items.model m.low m.items.placed)
