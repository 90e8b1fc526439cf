-- A text has one answer.
use Rattle.std.proofs.Common.{◌≡◌, ℕ, true, List, Result, Ok, Err, IfOk, IfErr, ◌⊎◌, inl, inr, refl, sym, ap, ◌∙◌}
use Rattle.xf_markup.specs.declared.tree.Node.{Node}
use Rattle.xf_markup.specs.Reading.{ShallowTree}
use Rattle.xf_markup.proofs.Alone.{not_tree_and_deep, not_unread_and_deep, one_deep_place, one_place, tree_is_read}
use Rattle.xf_markup.proofs.Unique.{one_tree}
use Rattle.xf_text.specs.declared.fault.Fault.{Fault}
use Rattle.xf_text.specs.declared.fault.Stop.{Stop}
use Rattle.xf_text.specs.declared.fault.Stop.TheVariants.{Memory, Refused}
use Rattle.xs_file.specs.Reading.{IsFaulty, IsNestedTooDeep, IsNoMarkup, IsRefusal, OneReading, Spells}
use Rattle.xs_file.specs.Sections.{Progress, instance_of, instance_outcome}
use Rattle.xs_model.specs.declared.instance.Instance.{Instance}

-- of two trees of a text, what is read of the one is what is read of the other
same_outcome : (text : List ℕ) (n m : Node) → ShallowTree n text → ShallowTree m text → instance_outcome true n ≡ instance_outcome true m
same_outcome text n m h k = ap (instance_outcome true) (one_tree text n m h.0 k.0)

ok_same : (r : Result Progress Fault) (a b : Progress) → r ≡ Ok a → r ≡ Ok b → a ≡ b
ok_same r a b h k = cc

one_instance : (text : List ℕ) (i j : Instance) → Spells text i → Spells text j → i ≡ j
one_instance text i j h k =
    let same : h.read ≡ k.read = ok_same (instance_outcome true k.root) h.read k.read (same_outcome text k.root h.root k.tree h.tree ∙ h.meets) k.meets in
    h.instance ∙ ap instance_of same ∙ sym k.instance

fault_same : (f g : Fault) → f.kind ≡ g.kind → f.place ≡ g.place → f ≡ g
fault_same f g e d = rw (e, d) refl

err_same : (r : Result Progress Fault) (f g : Fault) → r ≡ Err f → r ≡ Err g → f ≡ g
err_same r f g h k = cc

no_tree : (text : List ℕ) (n : Node) (f : Fault) → ShallowTree n text → IsNoMarkup text f → ⊥
no_tree text n f tree h = tree_is_read n text f.place tree.0 h.place

not_deep : (text : List ℕ) (n : Node) (f : Fault) → ShallowTree n text → IsNestedTooDeep text f → ⊥
not_deep text n f tree h = not_tree_and_deep n text f.place tree.0 tree.1 h.place

one_fault : (text : List ℕ) (f g : Fault) → IsFaulty text f → IsFaulty text g → f ≡ g
one_fault text f g (inl h) (inl k) = fault_same f g (h.kind ∙ sym k.kind) (one_place text f.place g.place h.place k.place)
one_fault text f g (inl h) (inr (inl k)) = absurd (not_unread_and_deep text g.place f.place h.place k.place)
one_fault text f g (inl h) (inr (inr k)) = absurd (no_tree text k.root f k.tree h)
one_fault text f g (inr (inl h)) (inl k) = absurd (not_unread_and_deep text f.place g.place k.place h.place)
one_fault text f g (inr (inl h)) (inr (inl k)) = fault_same f g (h.kind ∙ sym k.kind) (one_deep_place text f.place g.place h.place k.place)
one_fault text f g (inr (inl h)) (inr (inr k)) = absurd (not_deep text k.root f k.tree h)
one_fault text f g (inr (inr h)) (inl k) = absurd (no_tree text h.root g h.tree k)
one_fault text f g (inr (inr h)) (inr (inl k)) = absurd (not_deep text h.root g h.tree k)
one_fault text f g (inr (inr h)) (inr (inr k)) = err_same (instance_outcome true k.root) f g (same_outcome text k.root h.root k.tree h.tree ∙ h.misses) k.misses

never_both : (text : List ℕ) (i : Instance) (f : Fault) → Spells text i → IsFaulty text f → ⊥
never_both text i f h (inl k) = no_tree text h.root f h.tree k
never_both text i f h (inr (inl k)) = not_deep text h.root f h.tree k
never_both text i f h (inr (inr k)) =
    let both : Ok h.read ≡ Err f = sym h.meets ∙ same_outcome text h.root k.root h.tree k.tree ∙ k.misses in
    cc

pub one_answer : OneReading
one_answer = record { instances = one_instance; faults = one_fault; apart = never_both }

-- the instance that a text spells is what is answered
pub only_instance : (text : List ℕ) (r : Result Instance Stop) → IfOk r (λ i. Spells text i) → IfErr r (λ stop. IsRefusal text stop) → (i : Instance) → Spells text i → (r ≡ Ok i) ⊎ (r ≡ Err Memory)
only_instance text (Ok j) ok err i h = inl (ap (λ x. Ok x) (one_instance text j i ok h))
only_instance text (Err Memory) ok err i h = inr refl
only_instance text (Err (Refused f)) ok err i h = absurd (never_both text i f h err)

-- and so is its fault
pub only_fault : (text : List ℕ) (r : Result Instance Stop) → IfOk r (λ i. Spells text i) → IfErr r (λ stop. IsRefusal text stop) → (f : Fault) → IsFaulty text f → (r ≡ Err (Refused f)) ⊎ (r ≡ Err Memory)
only_fault text (Ok j) ok err f h = absurd (never_both text j f ok h)
only_fault text (Err Memory) ok err f h = inr refl
only_fault text (Err (Refused g)) ok err f h = inl (ap (λ x. Err (Refused x)) (one_fault text g f err h))
