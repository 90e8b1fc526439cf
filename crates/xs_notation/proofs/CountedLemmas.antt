-- What the text of an expression misses first, with the count of its nodes.
use Rattle.std.proofs.Common.{◌≡◌, ◌≤◌, ◌<◌, ℕ, Bool, true, false, nat_le, List, None, Some, ap, sym, ◌∙◌, if◌then◌else◌, arith}
use Rattle.std.proofs.lemmas.Bool.{le-leb}
use borrow.Author.Tests.{lt-leb}
use Rattle.xs_fields.specs.Conditions.{first_missed}
use Rattle.xs_fields.specs.Lists.{count_meets}
use Rattle.xs_fields.specs.declared.condition.Condition.{Condition}
use Rattle.xs_fields.specs.declared.condition.Condition.TheVariants.{Counting}
use Rattle.xs_fields.proofs.FirstLemmas.{before_counting, count_alone, count_decides}
use Rattle.xs_model.specs.Formed.{nodes}
use Rattle.xs_model.specs.Outline.{Outline}
use Rattle.xs_model.specs.declared.expr.Expr.{Expr}
use Rattle.xs_notation.proofs.AskedLemmas.{expr-fitting}
use Rattle.xs_notation.proofs.NodeLemmas.{expression_counted}
use Rattle.xs_notation.specs.Count.{nodes_of}
use Rattle.xs_notation.specs.Reading.{counted_expr_meets, expr_at, expr_meets}

module _ (os : List Outline) (left : ℕ) (text : List ℕ) where
  -- what is missed before the count
  pub counted-refused : (k : Condition) → Some k ≡ first_missed (expr_meets os text) → Some k ≡ first_missed (counted_expr_meets os text left)
  counted-refused k e = sym (before_counting (expr_meets os text) (count_meets (nodes (expr_at os text)) left) k (count_alone (nodes (expr_at os text)) left) (expr-fitting os text) (sym e))

  decided : None ≡ first_missed (expr_meets os text) → (v : Bool) → nat_le (nodes_of text) left ≡ v → (if v then None else Some Counting) ≡ first_missed (counted_expr_meets os text left)
  decided none v e =
      sym (count_decides (expr_meets os text) (nodes (expr_at os text)) left (sym none)
      ∙ ap (λ w. if w then None else Some Counting) (ap (λ n. nat_le n left) (expression_counted os text (sym none)) ∙ e))

  pub counted-few : None ≡ first_missed (expr_meets os text) → nodes_of text ≤ left → None ≡ first_missed (counted_expr_meets os text left)
  counted-few none few = decided none true (le-leb (nodes_of text) left few)

  pub counted-many : None ≡ first_missed (expr_meets os text) → left < nodes_of text → Some Counting ≡ first_missed (counted_expr_meets os text left)
  counted-many none many = decided none false (lt-leb (nodes_of text) left many)

  pub nodes-few : (x : Expr) → x ≡ expr_at os text → None ≡ first_missed (expr_meets os text) → nodes_of text ≤ left → nodes x ≤ left
  nodes-few x is none few = let count : nodes x ≡ nodes_of text = ap nodes is ∙ expression_counted os text (sym none) in omega (arith, few, count)
