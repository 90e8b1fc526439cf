-- What the shape of the form says of a table.
use Rattle.std.proofs.Common.{◌≡◌, ◌++◌, ap, ◌∙◌, append_assoc, ℕ, ◌<◌, ℤ, Bool, List, Option, length}
use Rattle.std.specs.List.{AllByRecursion}
use Rattle.xf_num.specs.Span.{Bounds}
use Rattle.xs_model.specs.Accepted.{IsFormed}
use Rattle.xs_model.specs.Fitting.{HaveLength}
use Rattle.xs_model.specs.declared.instance.Constraint.TheVariants.{Extension, Mdd, Regular, Unary}
use Rattle.xs_model.specs.declared.instance.Edge.{Edge}
use Rattle.xs_model.proofs.FormLemmas.{below_of_items}

pub table_below : (n : ℕ) (list : List ℕ) (tuples : List (List (Option ℤ))) (positive : Bool) → IsFormed n (Extension list tuples positive) → AllByRecursion (λ v. v < n) list
table_below n list tuples positive h = below_of_items n list h.fields.0

pub table_long : (n : ℕ) (list : List ℕ) (tuples : List (List (Option ℤ))) (positive : Bool) → IsFormed n (Extension list tuples positive) → HaveLength (length list) tuples
table_long n list tuples positive h = h.fitting.1

pub range_below : (n v : ℕ) (bs : List Bounds) (positive : Bool) → IsFormed n (Unary v bs positive) → v < n
range_below n v bs positive h = h.fields.0.0

-- three texts behind one another
pub three_more : (new mid first old h l o due : List ℕ) → new ≡ mid ++ o → mid ≡ first ++ l → first ≡ old ++ h → o ≡ due → new ≡ old ++ (h ++ (l ++ due))
three_more new mid first old h l o due a b c d =
    a ∙ ap (λ xs. xs ++ o) (b ∙ ap (λ xs. xs ++ l) c) ∙ append_assoc (old ++ h) l o ∙ append_assoc old h (l ++ o) ∙ ap (λ xs. old ++ (h ++ (l ++ xs))) d

pub regular_below : (n : ℕ) (list : List ℕ) (edges : List Edge) (start : ℕ) (finals : List ℕ) → IsFormed n (Regular list edges start finals) → AllByRecursion (λ v. v < n) list
regular_below n list edges start finals h = below_of_items n list h.fields.0

pub mdd_below : (n : ℕ) (list : List ℕ) (edges : List Edge) (root leaf : ℕ) → IsFormed n (Mdd list edges root leaf) → AllByRecursion (λ v. v < n) list
mdd_below n list edges root leaf h = below_of_items n list h.fields.0

-- texts appended one behind the other
pub three_behind : (new mid first old a b d : List ℕ) → new ≡ mid ++ d → mid ≡ first ++ b → first ≡ old ++ a → new ≡ old ++ (a ++ (b ++ d))
three_behind new mid first old a b d g h k = g ∙ ap (λ xs. xs ++ d) (h ∙ ap (λ xs. xs ++ b) k) ∙ append_assoc (old ++ a) b d ∙ append_assoc old a (b ++ d)

pub five_behind : (new x y z w old a b d e f : List ℕ) → new ≡ x ++ f → x ≡ y ++ e → y ≡ z ++ d → z ≡ w ++ b → w ≡ old ++ a → new ≡ old ++ (a ++ (b ++ (d ++ (e ++ f))))
five_behind new x y z w old a b d e f p q r s t = three_behind new z w old a b (d ++ (e ++ f)) (three_behind new x y z d e f p q r) s t
