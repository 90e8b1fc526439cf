-- The lists of an objective that is a function of a list (XCSP3-core, "Objectives"): the variables, and for a sum the
-- coefficients.
use Rattle.std.specs.Prelude.{ℕ, ◌+◌, pos, Bool, true, ◌&&◌, ◌||◌, not, nat_eq, nat_lt, List, [], length, replicate, is_some, Option, None, Some, codes}
use Rattle.xs_fields.specs.Cells.{vars_meet, vars_of}
use Rattle.xs_fields.specs.Terms.{terms_meet, terms_of}
use Rattle.xs_fields.specs.declared.condition.Condition.{Condition}
use Rattle.xs_model.specs.Outline.{Outline}
use Rattle.xs_model.specs.declared.concrete.Part.{Part}
use Rattle.xs_model.specs.declared.term.Term.{Term}
use Rattle.xs_model.specs.declared.term.Term.TheVariants.{Int}
use Rattle.xs_parts.specs.Parts.{is_single, or_else}
use Rattle.xs_tables.specs.Extension.{text_in}
use Rattle.xs_tables.specs.Tables.{sizes_meet}
use Rattle.xs_var.specs.VarDomain.{fitting_meets}

-- the own text
abbrev pub own_text : List Part → List ℕ
own_text parts = or_else (text_in [] parts) []

-- the text of the list: of its child, or else the own text
abbrev pub list_text : List Part → List ℕ
list_text parts = or_else (text_in (codes "list") parts) (own_text parts)

-- the list is one child or the own text
abbrev pub is_one_list : List Part → Bool
is_one_list parts = is_single (codes "list") parts && not (is_some (text_in (codes "list") parts) && is_some (text_in [] parts))

-- the same, beside coefficients that are given once or not at all
abbrev pub is_one_sum : List Part → Bool
is_one_sum parts = is_one_list parts && is_single (codes "coeffs") parts

-- a list of variables, where so many items may still come; it may be asked not to be empty
abbrev pub list_meets : List Outline → ℕ → Bool → List ℕ → Condition → Bool
list_meets os left filled text k = vars_meet os text left k && fitting_meets (not filled || nat_lt 0 (length (vars_of os text))) k

-- the text of coefficients, where it is there
abbrev pub coeffs_meet : List Outline → ℕ → Option (List ℕ) → Condition → Bool
coeffs_meet os left None k = true
coeffs_meet os left (Some text) k = terms_meet os text left k

-- the coefficients of a list of this length: without a text, ones
abbrev pub coeffs_of : List Outline → Option (List ℕ) → ℕ → List Term
coeffs_of os None n = replicate n (Int (pos 1))
coeffs_of os (Some text) n = terms_of os text

-- a list and its coefficients, which are as many
abbrev pub sum_meets : List Outline → ℕ → List ℕ → Option (List ℕ) → Condition → Bool
sum_meets os left list coeffs k =
    (vars_meet os list left k && coeffs_meet os left coeffs k)
    && sizes_meet (length (vars_of os list) + length (coeffs_of os coeffs (length (vars_of os list)))) left (nat_eq (length (coeffs_of os coeffs (length (vars_of os list)))) (length (vars_of os list))) k
