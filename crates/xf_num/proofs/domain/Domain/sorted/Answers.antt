use Rattle.std.proofs.Common.{rules, subst, ◌≡◌, ◌∙◌, ap, length, List, ◌↔◌}
use Rattle.std.proofs.lemmas.List.Sorted.{answers_always, length_permutation}
use Rattle.xf_num.specs.Domain.{IsMember}
use Rattle.xf_num.specs.Span.{Bounds}
use Rattle.xf_num.proofs.Merging.{lows_ascend, same_members}
use Rattle.xf_num.proofs.domain.Domain.sorted.Goals as goal

pub returns-clause-members : goal.returns-clause-members
returns-clause-members c = λ v.
    subst (λ xs. IsMember c.sort_by_key.new.self.items v ↔ IsMember xs v) c.in_ok-sorted.ensures.items (same_members _ _ c.in_ok-sort_by_key.ensures.permutation v)

pub returns-clause-len : goal.returns-clause-len
returns-clause-len c =
    length_permutation _ _ c.in_ok-sort_by_key.ensures.permutation ∙ ap (λ (xs : List Bounds). length xs) c.in_ok-sorted.ensures.items

pub returns-clause-ascending : goal.returns-clause-ascending
returns-clause-ascending c = lows_ascend _ (c.in_ok-sort_by_key.ensures.sorted (λ b. b.lo) (answers_always _ _ _ (λ f a r f' called. search rules)))
