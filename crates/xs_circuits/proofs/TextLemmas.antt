-- Texts behind one another.
use Rattle.std.proofs.Common.{◌≡◌, ℕ, ℤ, pos, Bool, false, List, [], ◌++◌, codes, if◌then◌else◌, ap, sym, ◌∙◌, append_assoc}
use Rattle.std.specs.Fmt.{signed_decimal}
use Rattle.std.specs.Ordering.{int_eq}
use Rattle.xs_circuits.specs.Written.{start_text}

-- a start that is not 0
pub start_shown : (new mid first old : List ℕ) (start : ℤ) → int_eq start (pos 0) ≡ false → new ≡ mid ++ codes "\"" → mid ≡ first ++ signed_decimal start → first ≡ old ++ codes " startIndex=\"" → new ≡ old ++ start_text start
start_shown new mid first old start shows h2 h1 h =
    let shown = codes " startIndex=\"" ++ (signed_decimal start ++ codes "\"") in
    h2 ∙ ap (λ xs. xs ++ codes "\"") (h1 ∙ ap (λ xs. xs ++ signed_decimal start) h)
    ∙ append_assoc (old ++ codes " startIndex=\"") (signed_decimal start) (codes "\"") ∙ append_assoc old (codes " startIndex=\"") (signed_decimal start ++ codes "\"")
    ∙ ap (λ (b : Bool). old ++ (if b then [] else shown)) (sym shows)
