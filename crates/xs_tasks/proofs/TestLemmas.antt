-- The tasks of the tests are such as are tested.
use Rattle.std.proofs.Common.{◌≡◌, ℕ, zero, suc, ◌+◌, ℤ, pos, negsuc, Bool, true, ◌&&◌, List, [], ◌∷◌, length, replicate, None, Some, refl, sym, subst, arith}
use Rattle.std.specs.Prelude.{int_le}
use Rattle.std.specs.List.{list_all}
use Rattle.std.proofs.lemmas.Bool.{and_parts}
use borrow.Author.Tests.{leb-true}
use Rattle.xf_num.specs.Span.{Bounds}
use Rattle.xs_laws.proofs.Cumulative.{le_says}
use Rattle.xs_model.specs.Accepted.{IsFormed}
use Rattle.xs_model.specs.Magnitude.{mag}
use Rattle.xs_model.specs.Sound.{magnitudes}
use Rattle.xs_model.specs.Spans.{AreWithin}
use Rattle.xs_model.specs.declared.instance.Constraint.{Constraint}
use Rattle.xs_model.specs.declared.instance.Constraint.TheVariants.{Cumulative}
use Rattle.xs_model.specs.declared.term.Cond.TheVariants.{Le}
use Rattle.xs_model.specs.declared.term.Term.TheVariants.{Int, Var}
use Rattle.xs_tasks.specs.Tested.{IsJudgedAt}

abbrev hundred : Bounds
hundred = record { lo = pos 0; hi = pos 100 }

abbrev is_low : ℤ → Bool
is_low x = int_le (pos 0) x && int_le x (pos 100)

within : (n : ℕ) (a : List ℤ) → length a ≡ n → list_all is_low a ≡ true → AreWithin (replicate n hundred) a
within zero [] e h = tt
within zero (x ∷ a) e h = absurd (omega (arith, e))
within (suc n) [] e h = absurd (omega (arith, e))
within (suc n) (x ∷ a) e h =
    let r = and_parts (is_low x) (list_all is_low a) h in
    let p = and_parts (int_le (pos 0) x) (int_le x (pos 100)) r.0 in
    (record { from = le_says (pos 0) x p.0; to = le_says x (pos 100) p.1 }, within n a (omega (arith, e)) r.1)

abbrev two : Constraint
two = Cumulative (0 ∷ 1 ∷ []) (Var 2 ∷ Var 3 ∷ []) (Int (pos 1) ∷ Var 4 ∷ []) (Some (6 ∷ 7 ∷ [])) (Le (Var 5))

abbrev idle : Constraint
idle = Cumulative (0 ∷ []) (Int (pos 0) ∷ []) (Int (pos 1) ∷ []) None (Le (Int (negsuc 0)))

two_formed : IsFormed 8 two
two_formed = record {
  fields = ((omega arith, (omega arith, tt)), ((omega arith, (omega arith, tt)), ((omega arith, (omega arith, tt)), ((omega arith, (omega arith, tt)), ((omega arith, tt), tt)))));
  fitting = (refl, refl, refl, tt);
}

idle_formed : IsFormed 1 idle
idle_formed = record {
  fields = ((omega arith, tt), ((omega arith, tt), ((omega arith, tt), ((omega arith, tt), tt))));
  fitting = (refl, refl, tt, tt);
}

pub two_is_formed : (a : List ℤ) → length a ≡ 8 → IsFormed (length a) two
two_is_formed a e = subst (λ n. IsFormed n two) (sym e) two_formed

pub idle_is_formed : (a : List ℤ) → length a ≡ 1 → IsFormed (length a) idle
idle_is_formed a e = subst (λ n. IsFormed n idle) (sym e) idle_formed

pub two_is_judged : (a : List ℤ) → length a ≡ 8 → list_all is_low a ≡ true → IsJudgedAt a two
two_is_judged a e h = record { spans = replicate 8 hundred; within = within 8 a e h; faultless = refl; measured = leb-true (mag (replicate 8 hundred) two) magnitudes refl }

pub idle_is_judged : (a : List ℤ) → length a ≡ 1 → list_all is_low a ≡ true → IsJudgedAt a idle
idle_is_judged a e h = record { spans = replicate 1 hundred; within = within 1 a e h; faultless = refl; measured = leb-true (mag (replicate 1 hundred) idle) magnitudes refl }
