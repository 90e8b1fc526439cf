use Rattle.std.proofs.Common.{◌≡◌, drop}
use Rattle.std.specs.List.{list_all}
use Rattle.xs_fields.specs.Conditions.{earlier_of, first_missed}
use Rattle.xs_var.specs.Elements.{children_of}
use Rattle.xs_array.specs.DomainChild.{domain_child_meets}
use Rattle.xs_array.proofs.child.judge_domain_children.Given as goal

abbrev pub invariant-loop-piece : goal.invariant-loop-piece
invariant-loop-piece l =
    earlier_of l.missed (first_missed (λ k. list_all (λ d. domain_child_meets l.name l.sizes d k) (children_of (drop l.piece-index l.pieces))))
    ≡ first_missed (λ k. list_all (λ d. domain_child_meets l.name l.sizes d k) (children_of l.pieces))
