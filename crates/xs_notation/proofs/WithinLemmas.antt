-- The variables of an expression that is read are declared.
use Rattle.std.proofs.Common.{◌≡◌, ℕ, zero, suc, ◌+◌, ◌<◌, ℤ, pos, List, [], ◌∷◌, get_or, refl, subst, arith, Bool, true, false, if◌then◌else◌, Option, Some, None, Result, Err}
use Rattle.std.specs.List.{filter_map}
use Rattle.std.specs.Prelude.{slice_index_or}
use Rattle.xs_model.specs.Bounds.{HasVariable, HasVariables}
use Rattle.xs_fields.specs.Cells.{are_inside, covered_places, declared_at, reached_at, unless_none, variables_at, variables_in as reached_in, variables_of}
use Rattle.xs_fields.specs.Conditions.{first_missed}
use Rattle.xs_fields.specs.Integers.{integer_of}
use Rattle.xs_fields.specs.Variables.{is_direct, word_of}
use Rattle.xs_fields.specs.declared.condition.Condition.{Condition}
use Rattle.xs_fields.specs.declared.condition.Condition.TheVariants.{Naming}
use Rattle.xs_fields.specs.declared.variable.Word.{Word as VariableWord}
use Rattle.xs_model.specs.Outline.{Outline, cell_numbers, defined_count, number_cells, numbers_from, sizes_at, variables_in}
use Rattle.xs_model.specs.declared.expr.Expr.{Int, Var, every_made-Expr}
use Rattle.xs_model.specs.declared.expr.Expr.TheVariants.{rolls-Int, rolls-Var}
use Rattle.xs_model.specs.declared.expr.Expr.TheOpen.{Expr-F}
use Rattle.xs_notation.specs.Reading.{expr_of}
use Rattle.xs_notation.specs.Terms.{settled, term_by, term_in, term_meets_by, variable_in}
use Rattle.xs_notation.specs.declared.raw.Raw.{Raw}
use Rattle.xs_notation.proofs.EachWord.{each-word}

-- each number is below n
abbrev AreBelow : ℕ → List ℕ → Type 0
AreBelow n [] = Unit {0}
AreBelow n (v ∷ vs) = (v < n) × AreBelow n vs

cells-below : (n : ℕ) (cells : List Bool) (p k : ℕ) → get_or (number_cells n cells) p None ≡ Some k → k < n + defined_count cells
cells-below n [] p k h = cc
cells-below n (true ∷ cells) zero k h = let s : n ≡ k = cc in omega (arith, s)
cells-below n (true ∷ cells) (suc p) k h = omega (arith, cells-below (n + 1) cells p k h)
cells-below n (false ∷ cells) zero k h = cc
cells-below n (false ∷ cells) (suc p) k h = cells-below n cells p k h

numbers-below : (n : ℕ) (os : List Outline) (at p k : ℕ) → get_or (get_or (numbers_from n os) at []) p None ≡ Some k → k < n + variables_in os
numbers-below n [] at p k h = cc
numbers-below n (o ∷ os) zero p k h = omega (arith, cells-below n o.cells p k h)
numbers-below n (o ∷ os) (suc at) p k h = omega (arith, numbers-below (n + defined_count o.cells) os at p k h)

kept-below : (n : ℕ) (f : ℕ → Option ℕ) (ps : List ℕ) → ((p k : ℕ) → f p ≡ Some k → k < n) → AreBelow n (filter_map f ps)
kept-below n f [] h = tt
kept-below n f (p ∷ ps) h = by (f p) refl (kept-below n f ps h)
  where
    by : (o : Option ℕ) → f p ≡ o → AreBelow n (filter_map f ps) → AreBelow n (filter_map f (p ∷ ps))
    by None e rest = rw e rest
    by (Some k) e rest = rw e (h p k e, rest)

at-below : (os : List Outline) (at : ℕ) (places : List ℕ) → AreBelow (variables_in os) (variables_at os at places)
at-below os at places = kept-below (variables_in os) (λ p. slice_index_or (cell_numbers os at) p None) places (λ p k h. omega (arith, numbers-below 0 os at p k h))

chosen-below : (n : ℕ) (d : Bool) (vs : List ℕ) → AreBelow n vs → AreBelow n (reached_in (unless_none d vs))
chosen-below n true [] h = tt
chosen-below n true (v ∷ vs) h = h
chosen-below n false vs h = h

inside-below : (n : ℕ) (v : Bool) (r : Result (List ℕ) Condition) → AreBelow n (reached_in r) → AreBelow n (reached_in (if v then r else Err Naming))
inside-below n true r h = h
inside-below n false r h = tt

reached-below : (os : List Outline) (word : VariableWord) (o : Option ℕ) → AreBelow (variables_in os) (reached_in (reached_at os word o))
reached-below os word None = tt
reached-below os word (Some at) =
    let vs : List ℕ = variables_at os at (covered_places (sizes_at os at) word.brackets) in
    inside-below (variables_in os) (are_inside (sizes_at os at) word.brackets) (unless_none (is_direct word) vs)
    (chosen-below (variables_in os) (is_direct word) vs (at-below os at (covered_places (sizes_at os at) word.brackets)))

within-Int : (n : ℕ) (z : ℤ) → HasVariables n (Int z)
within-Int n z = subst (HasVariables n) (rolls-Int z) (every_made-Expr (HasVariable n) (Expr-F.Int z) (Expr-F.Int z) refl tt)

within-Var : (n v : ℕ) → v < n → HasVariables n (Var v)
within-Var n v h = subst (HasVariables n) (rolls-Var v) (every_made-Expr (HasVariable n) (Expr-F.Var v) (Expr-F.Var v) refl h)

within-in : (n : ℕ) (vs : List ℕ) → AreBelow n vs → HasVariables n (variable_in vs)
within-in n [] h = within-Int n (pos 0)
within-in n (v ∷ vs) h = within-Var n v h.0

within-term : (os : List Outline) (w : List ℕ) (o : Option Condition) (i : Option ℤ) → HasVariables (variables_in os) (term_in (settled o (term_by os w i)))
within-term os w (Some k) i = within-Int (variables_in os) (pos 0)
within-term os w None (Some z) = within-Int (variables_in os) z
within-term os w None None = within-in (variables_in os) (variables_of os w) (reached-below os (word_of w) (declared_at os (word_of w).name))

pub within-expr : (os : List Outline) (r : Raw) → HasVariables (variables_in os) (expr_of os r)
within-expr os = each-word (HasVariable (variables_in os)) (λ op es. tt) os (λ w. within-term os w (first_missed (term_meets_by os w (integer_of w))) (integer_of w))
