-- A text with lines of a list behind it.
use Rattle.std.proofs.Common.{◌≡◌, ◌++◌, ℕ, List, ap, ◌∙◌}

pub joined : {A : Type 0} (lines : List A → List ℕ) (begun text head : List ℕ) (xs ys : List A) → text ≡ begun ++ lines xs → begun ≡ head → xs ≡ ys → text ≡ head ++ lines ys
joined lines begun text head xs ys more is same = more ∙ ap (λ t. t ++ lines xs) is ∙ ap (λ zs. head ++ lines zs) same
