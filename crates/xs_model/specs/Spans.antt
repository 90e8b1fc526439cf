-- The bounds of variables: those of their domains, and values that lie within bounds.
use Rattle.std.specs.Prelude.{ℤ, List, [], ◌∷◌, length, map, take}
use Rattle.xf_num.specs.Domain.{least_of, greatest_of}
use Rattle.xf_num.specs.Span.{Bounds, IsWithin}
use Rattle.xs_model.specs.declared.decl.Decl.{Decl}
use Rattle.xs_model.specs.Names.{domains}

-- from the least to the greatest value of a domain
abbrev pub span_in : List Bounds → Bounds
span_in domain = record { lo = least_of domain; hi = greatest_of domain }

-- the bounds of the variables, in order
abbrev pub spans_of : List Decl → List Bounds
spans_of ds = map span_in (domains ds)

-- the values lie within the bounds, place by place
abbrev pub AreWithin : List Bounds → List ℤ → Type 0
AreWithin [] [] = Unit {0}
AreWithin (b ∷ bs) (x ∷ xs) = IsWithin b x × AreWithin bs xs
AreWithin [] (x ∷ xs) = ⊥
AreWithin (b ∷ bs) [] = ⊥

-- the first values lie within these bounds, place by place
abbrev pub BeginsWithin : List Bounds → List ℤ → Type 0
BeginsWithin ss a = AreWithin ss (take (length ss) a)
