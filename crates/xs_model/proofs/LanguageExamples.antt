-- The meanings of expressions, tables and automata at small lists.
use Rattle.std.proofs.Common.{◌≡◌, ℕ, pos, negsuc, refl, true, false, ap, List, [], ◌∷◌, arith, None, Some, ◌⊎◌, inl, inr, rules}
use Rattle.std.proofs.lemmas.Int.{ints}
use Rattle.xf_num.specs.Span.{Bounds}
use Rattle.xs_model.specs.declared.expr.Expr.{Int, Var, Node, the_lemmas}
use Rattle.xs_model.specs.declared.expr.Op.TheVariants as op
use Rattle.xs_model.specs.declared.instance.Constraint.{Constraint}
use Rattle.xs_model.specs.declared.instance.Constraint.TheVariants.{Intension, Extension, Unary, Regular, Mdd}
use Rattle.xs_model.specs.declared.instance.Edge.{Edge}
use Rattle.xs_model.specs.Instance.{Holds}
use Rattle.xs_model.specs.Language.{Leads}
use Rattle.xs_model.specs.Value.{val}

-- intension: the value is 1
one_holds : Holds (Intension (Int (pos 1))) []
one_holds = search (rules, the_lemmas)

variable_holds : Holds (Intension (Var 1)) (pos 0 ∷ pos 1 ∷ [])
variable_holds = search (rules, the_lemmas)

equation_holds : Holds (Intension (Node op.Eq (Var 0 ∷ Int (pos 3) ∷ []))) (pos 3 ∷ [])
equation_holds = search (rules, the_lemmas)

valued : (z : _) → val [] (Int z) ≡ z
valued z = search (rules, the_lemmas)

two_does_not : Holds (Intension (Int (pos 2))) [] → ⊥
two_does_not h = omega (arith, ints, h, valued (pos 2))

zero_does_not : Holds (Intension (Int (pos 0))) [] → ⊥
zero_does_not h = omega (arith, ints, h, valued (pos 0))

-- extension: `(0,*,1)`
abbrev starred : Constraint
starred = Extension (0 ∷ 1 ∷ 2 ∷ []) ((Some (pos 0) ∷ None ∷ Some (pos 1) ∷ []) ∷ []) true

abbrev unstarred : Constraint
unstarred = Extension (0 ∷ 1 ∷ 2 ∷ []) ((Some (pos 0) ∷ None ∷ Some (pos 1) ∷ []) ∷ []) false

star : Holds starred (pos 0 ∷ pos 1 ∷ pos 1 ∷ [])
star = inl (refl, (refl, tt))

no_star : Holds starred (pos 0 ∷ pos 1 ∷ pos 0 ∷ []) → ⊥
no_star h = elim h [
  | inl p ↦ omega (arith, ints, p.1)
  | inr q ↦ q
]

conflict : Holds unstarred (pos 0 ∷ pos 1 ∷ pos 1 ∷ []) → ⊥
conflict h = h.0 (refl, (refl, tt))

no_conflict : Holds unstarred (pos 0 ∷ pos 1 ∷ pos 0 ∷ [])
no_conflict = (λ p. omega (arith, ints, p.1), tt)

empty_table : Holds (Extension (0 ∷ 1 ∷ []) [] true) (pos 0 ∷ pos 0 ∷ []) → ⊥
empty_table h = h

no_conflicts : Holds (Extension (0 ∷ 1 ∷ []) [] false) (pos 0 ∷ pos 0 ∷ [])
no_conflicts = tt

second_tuple : Holds (Extension (0 ∷ []) ((Some (pos 4) ∷ []) ∷ (Some (negsuc 0) ∷ []) ∷ []) true) (negsuc 0 ∷ [])
second_tuple = inr (inl (refl, tt))

-- unary: 1 and 3..5
abbrev pieces : List Bounds
pieces = record { lo = pos 1; hi = pos 1 } ∷ record { lo = pos 3; hi = pos 5 } ∷ []

within_second : Holds (Unary 0 pieces true) (pos 4 ∷ [])
within_second = inr (inl (record { from = omega (arith, ints); to = omega (arith, ints) }))

within_none : Holds (Unary 0 pieces true) (pos 2 ∷ []) → ⊥
within_none h = elim h [
  | inl b ↦ omega (arith, ints, b.to)
  | inr r ↦ elim r [ inl b ↦ omega (arith, ints, b.from) | inr q ↦ q ]
]

outside_all : Holds (Unary 0 pieces false) (pos 2 ∷ [])
outside_all = within_none

inside_one : Holds (Unary 0 pieces false) (pos 5 ∷ []) → ⊥
inside_one h = h (inr (inl (record { from = omega (arith, ints); to = omega (arith, ints) })))

no_pieces : Holds (Unary 0 [] true) (pos 0 ∷ []) → ⊥
no_pieces h = h

no_pieces_excluded : Holds (Unary 0 [] false) (pos 0 ∷ [])
no_pieces_excluded = λ h. h

-- regular: 0 by 0 to 1 and to 2, from these by 1 to 3
abbrev edges : List Edge
edges = record { from = 0; value = pos 0; to = 1 } ∷ record { from = 0; value = pos 0; to = 2 } ∷ record { from = 1; value = pos 1; to = 3 } ∷ record { from = 2; value = pos 1; to = 3 } ∷ []

-- a path by one state, and one by another
spelt : Holds (Regular (0 ∷ 1 ∷ []) edges 0 (3 ∷ [])) (pos 0 ∷ pos 1 ∷ [])
spelt = inl (1, (inl refl, (3, (inr (inr (inl refl)), refl))))

spelt_too : Holds (Regular (0 ∷ 1 ∷ []) edges 0 (3 ∷ [])) (pos 0 ∷ pos 1 ∷ [])
spelt_too = inl (2, (inr (inl refl), (3, (inr (inr (inr (inl refl))), refl))))

-- what the transitions that lead from 0, and those by 0, say
by_one : (r : ℕ) → Leads edges 0 (pos 1) r → ⊥
by_one r l = elim l [
  | inl e ↦ omega (arith, ints, ap (λ (t : Edge). t.value) e)
  | inr l ↦ elim l [
    | inl e ↦ omega (arith, ints, ap (λ (t : Edge). t.value) e)
    | inr l ↦ elim l [
      | inl e ↦ omega (arith, ap (λ (t : Edge). t.from) e)
      | inr l ↦ elim l [ inl e ↦ omega (arith, ap (λ (t : Edge). t.from) e) | inr l ↦ l ]
    ]
  ]
]

by_zero : (p r : ℕ) → Leads edges p (pos 0) r → (p ≡ 0) × ((r ≡ 1) ⊎ (r ≡ 2))
by_zero p r l = elim l [
  | inl e ↦ (omega (arith, ap (λ (t : Edge). t.from) e), inl (omega (arith, ap (λ (t : Edge). t.to) e)))
  | inr l ↦ elim l [
    | inl e ↦ (omega (arith, ap (λ (t : Edge). t.from) e), inr (omega (arith, ap (λ (t : Edge). t.to) e)))
    | inr l ↦ elim l [
      | inl e ↦ absurd (omega (arith, ints, ap (λ (t : Edge). t.value) e))
      | inr l ↦ elim l [ inl e ↦ absurd (omega (arith, ints, ap (λ (t : Edge). t.value) e)) | inr l ↦ absurd l ]
    ]
  ]
]

another_word : Holds (Regular (0 ∷ 1 ∷ []) edges 0 (3 ∷ [])) (pos 1 ∷ pos 1 ∷ []) → ⊥
another_word h = elim h [ inl p ↦ by_one p.0 p.1.0 | inr q ↦ q ]

no_final : Holds (Regular (0 ∷ 1 ∷ []) edges 0 []) (pos 0 ∷ pos 1 ∷ []) → ⊥
no_final h = h

too_short : Holds (Regular (0 ∷ []) edges 0 (3 ∷ [])) (pos 0 ∷ []) → ⊥
too_short h = elim h [
  | inl p ↦ elim (by_zero 0 p.0 p.1.0).1 [ inl e ↦ omega (arith, e, p.1.1) | inr e ↦ omega (arith, e, p.1.1) ]
  | inr q ↦ q
]

-- mdd: from the root 0 to the leaf 3
abbrev diagram : List ℕ → Constraint
diagram list = Mdd list edges 0 3

through : Holds (diagram (0 ∷ 1 ∷ [])) (pos 0 ∷ pos 1 ∷ [])
through = (1, (inl refl, (3, (inr (inr (inl refl)), refl))))

through_too : Holds (diagram (0 ∷ 1 ∷ [])) (pos 0 ∷ pos 1 ∷ [])
through_too = (2, (inr (inl refl), (3, (inr (inr (inr (inl refl))), refl))))

not_through : Holds (diagram (0 ∷ 1 ∷ [])) (pos 1 ∷ pos 1 ∷ []) → ⊥
not_through h = by_one h.0 h.1.0

not_to_the_leaf : Holds (diagram (0 ∷ [])) (pos 0 ∷ []) → ⊥
not_to_the_leaf h = elim (by_zero 0 h.0 h.1.0).1 [ inl e ↦ omega (arith, e, h.1.1) | inr e ↦ omega (arith, e, h.1.1) ]

-- the second step by 0 would lead from 1 or 2
not_by_zeros : Holds (diagram (0 ∷ 1 ∷ [])) (pos 0 ∷ pos 0 ∷ []) → ⊥
not_by_zeros h =
    let second = (by_zero h.0 h.1.1.0 h.1.1.1.0).0 in
    elim (by_zero 0 h.0 h.1.0).1 [ inl e ↦ omega (arith, e, second) | inr e ↦ omega (arith, e, second) ]

empty_list : Holds (diagram []) [] → ⊥
empty_list h = omega (arith, h)
