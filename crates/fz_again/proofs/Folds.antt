-- What is at the top of an expression, and its names and integers.
use Rattle.std.proofs.Common.{◌≡◌, ℕ, Bool, true, ◌&&◌, List, map, is_some, rules}
use Rattle.std.specs.List.{list_all}
use Rattle.fz_grammar.specs.declared.tree.Expr.{Expr, out-Expr, Bool as bool_of, Int, Range, Set, Name, List as list_of, the_lemmas}
use Rattle.fz_grammar.specs.declared.tree.Expr.TheOpen.{Expr-F}
use Rattle.fz_values.specs.declared.meaning.Meaning.{Meaning}
use Rattle.fz_values.specs.Integers.{is_small}
use Rattle.fz_values.specs.Names.{look_up}
use Rattle.fz_values.specs.Values.{is_known, are_small}

pub out-Bool : (b : Bool) → out-Expr (bool_of b) ≡ Expr-F.Bool b
out-Bool b = search (rules, the_lemmas)

pub out-Int : (n : List ℕ) → out-Expr (Int n) ≡ Expr-F.Int n
out-Int n = search (rules, the_lemmas)

pub out-Range : (a b : List ℕ) → out-Expr (Range a b) ≡ Expr-F.Range a b
out-Range a b = search (rules, the_lemmas)

pub out-Set : (ns : List (List ℕ)) → out-Expr (Set ns) ≡ Expr-F.Set ns
out-Set ns = search (rules, the_lemmas)

pub out-Name : (w : List ℕ) → out-Expr (Name w) ≡ Expr-F.Name w
out-Name w = search (rules, the_lemmas)

pub out-List : (xs : List Expr) → out-Expr (list_of xs) ≡ Expr-F.List xs
out-List xs = search (rules, the_lemmas)

module _ (names : List (List ℕ × Meaning)) where
  pub known-Bool : (b : Bool) → is_known names (bool_of b) ≡ true
  known-Bool b = search (rules, the_lemmas)

  pub known-Int : (n : List ℕ) → is_known names (Int n) ≡ true
  known-Int n = search (rules, the_lemmas)

  pub known-Range : (a b : List ℕ) → is_known names (Range a b) ≡ true
  known-Range a b = search (rules, the_lemmas)

  pub known-Set : (ns : List (List ℕ)) → is_known names (Set ns) ≡ true
  known-Set ns = search (rules, the_lemmas)

  pub known-Name : (w : List ℕ) → is_known names (Name w) ≡ is_some (look_up names w)
  known-Name w = search (rules, the_lemmas)

  pub known-List : (xs : List Expr) → is_known names (list_of xs) ≡ list_all (λ b. b) (map (is_known names) xs)
  known-List xs = search (rules, the_lemmas)

pub small-Bool : (b : Bool) → are_small (bool_of b) ≡ true
small-Bool b = search (rules, the_lemmas)

pub small-Int : (n : List ℕ) → are_small (Int n) ≡ is_small n
small-Int n = search (rules, the_lemmas)

pub small-Range : (a b : List ℕ) → are_small (Range a b) ≡ (is_small a && is_small b)
small-Range a b = search (rules, the_lemmas)

pub small-Set : (ns : List (List ℕ)) → are_small (Set ns) ≡ list_all is_small ns
small-Set ns = search (rules, the_lemmas)

pub small-Name : (w : List ℕ) → are_small (Name w) ≡ true
small-Name w = search (rules, the_lemmas)

pub small-List : (xs : List Expr) → are_small (list_of xs) ≡ list_all (λ b. b) (map are_small xs)
small-List xs = search (rules, the_lemmas)
