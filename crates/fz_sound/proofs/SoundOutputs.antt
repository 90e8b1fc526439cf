-- Shown arrays that miss nothing are sound.
use Rattle.std.proofs.Common.{◌≡◌, ℕ, ◌≤◌, ℤ, pos, Bool, true, false, if◌then◌else◌, List, [], ◌∷◌, length, Option, None, Some, refl, arith}
use Rattle.std.specs.Prelude.{IfSome, int_le, codes}
use Rattle.std.specs.Ordering.{int_eq}
use Rattle.std.specs.List.{AllByRecursion}
use Rattle.std.specs.Str.{bytes_eq}
use Rattle.std.proofs.lemmas.Int.{ints}
use Rattle.std.proofs.lemmas.Bool.Decides.{Decides-int_eq}
use Rattle.xf_num.specs.Span.{Bounds}
use Rattle.fz_model.specs.Limits.{limit, IsSmall, exactly}
use Rattle.fz_model.specs.Sound.{IsRange}
use Rattle.fz_grammar.specs.declared.tree.Note.{Note}
use Rattle.fz_grammar.specs.declared.tree.Expr.{Expr, out-Expr}
use Rattle.fz_grammar.specs.declared.tree.Expr.TheOpen.{Expr-F}
use Rattle.fz_values.specs.Integers.{int_of}
use Rattle.fz_items.specs.Items.{has_length}
use Rattle.fz_items.specs.Notes.{span_step, onto, spans_of, dims_step, dims_in, dims_of, or_else, shown_as}
use Rattle.fz_sound.proofs.SoundValues.{int_small}

-- at least one range, each right
pub record AreDims (ds : List Bounds) : Type 0 where
  pub some : 1 ≤ length ds
  pub ranges : AllByRecursion IsRange ds

range_if : (t : Bool) (a b : ℤ) → int_le a b ≡ t → IsSmall (exactly a) → IsSmall (exactly b) → IfSome (if t then Some (record { lo = a; hi = b }) else None) IsRange
range_if true a b e f g = record { ordered = omega (arith, ints, e); small = record { from = f.from; to = g.to } }
range_if false a b e f g = tt

span_right : (e : Expr-F Expr) → IfSome (span_step e) IsRange
span_right (Expr-F.Bool b) = tt
span_right (Expr-F.Int n) = tt
span_right (Expr-F.Range a b) = range_if (int_le (int_of a) (int_of b)) (int_of a) (int_of b) refl (int_small a) (int_small b)
span_right (Expr-F.Set ns) = tt
span_right (Expr-F.Name w) = tt
span_right (Expr-F.Index w n) = tt
span_right (Expr-F.List xs) = tt
span_right (Expr-F.Decimal d) = tt
span_right (Expr-F.Words t) = tt
span_right (Expr-F.Call w xs) = tt

onto_right : (s : Option Bounds) (rest : Option (List Bounds)) → IfSome s IsRange → IfSome rest (AllByRecursion IsRange) → IfSome (onto s rest) (AllByRecursion IsRange)
onto_right None rest h g = tt
onto_right (Some s) None h g = tt
onto_right (Some s) (Some ss) h g = (h, g)

spans_right : (xs : List Expr) → IfSome (spans_of xs) (AllByRecursion IsRange)
spans_right [] = tt
spans_right (x ∷ xs) = onto_right (span_step (out-Expr x)) (spans_of xs) (span_right (out-Expr x)) (spans_right xs)

onto_some : (s : Option Bounds) (rest : Option (List Bounds)) → IfSome (onto s rest) (AllByRecursion IsRange) → IfSome (onto s rest) AreDims
onto_some None rest h = tt
onto_some (Some s) None h = tt
onto_some (Some s) (Some ss) h = record { some = omega arith; ranges = h }

dims_right : (e : Expr-F Expr) → IfSome (dims_step e) AreDims
dims_right (Expr-F.Bool b) = tt
dims_right (Expr-F.Int n) = tt
dims_right (Expr-F.Range a b) = tt
dims_right (Expr-F.Set ns) = tt
dims_right (Expr-F.Name w) = tt
dims_right (Expr-F.Index w n) = tt
dims_right (Expr-F.List []) = tt
dims_right (Expr-F.List (x ∷ xs)) = onto_some (span_step (out-Expr x)) (spans_of xs) (spans_right (x ∷ xs))
dims_right (Expr-F.Decimal d) = tt
dims_right (Expr-F.Words t) = tt
dims_right (Expr-F.Call w xs) = tt

args_right : (o : Option (List Expr)) → IfSome (dims_in o) AreDims
args_right None = tt
args_right (Some []) = tt
args_right (Some (x ∷ [])) = dims_right (out-Expr x)
args_right (Some (x ∷ (y ∷ ys))) = tt

if_right : (t : Bool) (o : Option (List Bounds)) → IfSome o AreDims → IfSome (if t then o else None) AreDims
if_right true o h = h
if_right false o h = tt

else_right : (a b : Option (List Bounds)) → IfSome a AreDims → IfSome b AreDims → IfSome (or_else a b) AreDims
else_right (Some d) b h g = h
else_right None b h g = g

pub shown_right : (ns : List Note) → IfSome (shown_as ns) AreDims
shown_right [] = tt
shown_right (n ∷ ns) = else_right (dims_of n) (shown_as ns) (if_right (bytes_eq n.name (codes "output_array")) (dims_in n.args) (args_right n.args)) (shown_right ns)

length_on : (z : ℤ) (n : ℕ) → int_eq z (pos n) ≡ true → z ≡ pos n
length_on z n h = (Decides-int_eq z (pos n)).0 h

at_most : (z : ℤ) (n : ℕ) → z ≡ pos n → IsSmall (exactly z) → n ≤ limit
at_most z n e h = omega (arith, ints, e, h.to)

pub few : (digits : List ℕ) (n : ℕ) → has_length digits n ≡ true → n ≤ limit
few digits n h = at_most (int_of digits) n (length_on (int_of digits) n h) (int_small digits)
