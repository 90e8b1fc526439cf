-- The domain of a `var`, and its counts (XCSP3-core, "Variables").
use Rattle.std.specs.Prelude.{ℕ, ◌+◌, Bool, true, ◌&&◌, nat_le, List, Option, None, Some, is_some}
use Rattle.xf_num.specs.Span.{Bounds}
use Rattle.xs_fields.specs.Conditions.{first_missed}
use Rattle.xs_fields.specs.Lists.{pieces_meet, pieces_of}
use Rattle.xs_fields.specs.declared.condition.Condition.{Condition}
use Rattle.xs_fields.specs.declared.condition.Condition.TheVariants.{Counting, Fitting}
use Rattle.xs_model.specs.declared.decl.Decl.{Decl}
use Rattle.xs_model.specs.Sound.{most_cells, most_items, values_of}
use Rattle.xs_var.specs.Like.{like_domain}
use Rattle.xs_var.specs.Merged.{domain_of}

-- the domain of ranges that miss nothing
abbrev pub domain_in : Option Condition → List Bounds → Option (List Bounds)
domain_in None pieces = domain_of pieces
domain_in (Some k) pieces = None

-- the domain that a text denotes; none where it is misspelt
abbrev pub text_domain : List ℕ → Option (List Bounds)
text_domain text = domain_in (first_missed (pieces_meet text)) (pieces_of text)

-- the domain by a text, or by `as`
abbrev pub var_domain : List Decl → Option (List ℕ) → List ℕ → Option (List Bounds)
var_domain ds None text = text_domain text
var_domain ds (Some name) text = like_domain ds name

-- how many values are counted
abbrev pub values_in : Option (List Bounds) → ℕ
values_in None = 0
values_in (Some d) = values_of d

-- the limits on what is read hold with one cell and the values of its domain more
abbrev pub is_counted : ℕ → ℕ → Option (List Bounds) → Bool
is_counted cells values d = nat_le (cells + 1) most_cells && nat_le (values + values_in d) most_items

abbrev pub counting_meets : Bool → Condition → Bool
counting_meets test Counting = test
counting_meets test k = true

abbrev pub fitting_meets : Bool → Condition → Bool
fitting_meets test Fitting = test
fitting_meets test k = true

-- what a `var` meets of its counts and its domain
abbrev pub counts_meet : ℕ → ℕ → Option (List Bounds) → Condition → Bool
counts_meet cells values d k = counting_meets (is_counted cells values d) k && fitting_meets (is_some d) k
