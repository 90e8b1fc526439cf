-- The answer to each text.
use Rattle.std.proofs.Common.{◌≡◌, ℕ, List, Result, Ok, Err, inl, inr, ap, ◌∙◌}
use Rattle.xf_markup.specs.declared.tree.Node.{Node}
use Rattle.xf_text.specs.declared.fault.Kind.TheVariants.{Syntax, Depth}
use Rattle.xf_text.specs.declared.fault.Fault.{Fault}
use Rattle.xf_text.specs.declared.fault.Kind.{Kind}
use Rattle.xf_text.specs.declared.fault.Stop.{Stop}
use Rattle.xf_text.specs.declared.fault.Stop.TheVariants.{Memory, Refused}
use Rattle.xf_markup.specs.Reading.{Answers, ShallowTree, IsUnread, IsTooDeep, IsTree, IsFaultOf}
use Rattle.xf_markup.proofs.Alone.{one_place, one_deep_place, tree_is_read, not_tree_and_deep, not_unread_and_deep}
use Rattle.xf_markup.proofs.Unique.{one_tree}

fault_is : (f : Fault) (k : Kind) (p : ℕ) → f.kind ≡ k → f.place ≡ p → f ≡ record { kind = k; place = p }
fault_is f k p a b = ap (λ x. record { kind = x; place = f.place }) a ∙ ap (λ x. record { kind = k; place = x }) b

pub only_tree : (text : List ℕ) (r : Result Node Stop) → Answers r text → (n : Node) → ShallowTree n text → IsTree n r
only_tree text (Ok m) h n tree = one_tree text m n h.0 tree.0
only_tree text (Err Memory) h n tree = tt
only_tree text (Err (Refused f)) (inl h) n tree = tree_is_read n text f.place tree.0 h.1
only_tree text (Err (Refused f)) (inr h) n tree = not_tree_and_deep n text f.place tree.0 tree.1 h.1

pub only_unread : (text : List ℕ) (r : Result Node Stop) → Answers r text → (p : ℕ) → IsUnread p text → IsFaultOf Syntax p r
only_unread text (Ok m) h p un = tree_is_read m text p h.0 un
only_unread text (Err Memory) h p un = tt
only_unread text (Err (Refused f)) (inl h) p un = fault_is f Syntax p h.0 (one_place text f.place p h.1 un)
only_unread text (Err (Refused f)) (inr h) p un = absurd (not_unread_and_deep text f.place p un h.1)

pub only_deep : (text : List ℕ) (r : Result Node Stop) → Answers r text → (p : ℕ) → IsTooDeep p text → IsFaultOf Depth p r
only_deep text (Ok m) h p deep = not_tree_and_deep m text p h.0 h.1 deep
only_deep text (Err Memory) h p deep = tt
only_deep text (Err (Refused f)) (inl h) p deep = absurd (not_unread_and_deep text p f.place h.1 deep)
only_deep text (Err (Refused f)) (inr h) p deep = fault_is f Depth p h.0 (one_deep_place text f.place p h.1 deep)
