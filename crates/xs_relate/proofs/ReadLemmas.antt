-- A list that misses nothing is within its count.
use Rattle.std.proofs.Common.{◌≡◌, ◌≤◌, ◌<◌, ℕ, Bool, true, false, ◌&&◌, List, [], length, None, ap, arith, refl}
use Rattle.std.proofs.lemmas.Bool.{leb-true}
use Rattle.std.specs.List.{AllByRecursion}
use Rattle.xs_fields.specs.Cells.{vars_meet, vars_of}
use Rattle.xs_fields.specs.Conditions.{first_missed}
use Rattle.xs_fields.specs.declared.condition.Condition.TheVariants.{Counting}
use Rattle.xs_fields.proofs.FirstLemmas.{met_at}
use Rattle.xs_model.specs.Accepted.{IsFormed}
use Rattle.xs_model.specs.Formed.{items_of}
use Rattle.xs_model.specs.Outline.{Outline, variables_in}
use Rattle.xs_model.specs.declared.instance.Constraint.TheVariants.{AllDifferent}
use Rattle.xs_model.proofs.FormLemmas.{different_formed, items-different}
use Rattle.xs_relate.proofs.BelowLemmas.{vars_below}

and_behind : (a b : Bool) → (a && b) ≡ true → b ≡ true
and_behind true b h = h
and_behind false b h = cc

vars_few : (os : List Outline) (text : List ℕ) (left : ℕ) → first_missed (vars_meet os text left) ≡ None → length (vars_of os text) ≤ left
vars_few os text left h = leb-true _ _ (and_behind _ _ (met_at (vars_meet os text left) h Counting))

pub list_formed : (os : List Outline) (text : List ℕ) → IsFormed (variables_in os) (AllDifferent (vars_of os text) [])
list_formed os text = different_formed (variables_in os) (vars_of os text) (vars_below os text)

pub list_few : (os : List Outline) (text : List ℕ) (left : ℕ) → first_missed (vars_meet os text left) ≡ None → items_of (AllDifferent (vars_of os text) []) ≤ left
list_few os text left h = omega (arith, vars_few os text left h, items-different (vars_of os text))
