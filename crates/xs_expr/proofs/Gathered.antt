-- What is gathered of a list of bounds is what a node asks of the list.
use Rattle.std.proofs.Common.{◌≡◌, ℕ, suc, ◌<◌, ◌==◌, refl, ◌∙◌, ap, subst, Bool, true, false, ◌&&◌, if◌then◌else◌, List, [], ◌∷◌, arith, Result, Ok, Err}
use Rattle.std.specs.List.{list_all}
use Rattle.std.proofs.lemmas.Grind.{common_steps}
use Rattle.std.proofs.lemmas.Bool.Decides.{nat_tests}
use Rattle.xf_num.specs.Span.{Bounds, add_ends, mul_ends, min_ends, max_ends}
use Rattle.xf_text.specs.declared.fault.Kind.{Kind}
use Rattle.xf_text.specs.declared.fault.Kind.TheVariants.{Logic}
use Rattle.xs_model.specs.declared.expr.Op.{Op}
use Rattle.xs_model.specs.declared.expr.Op.TheVariants.{Neg, Abs, Sqr, Add, Mul, Sub, Dist, Div, Mod, Pow, Min, Max, Lt, Le, Gt, Ge, Ne, Eq, Set, In, NotIn, Not, And, Or, Xor, Iff, Imp, If}
use Rattle.xs_expr.specs.declared.limits.Operands.{Operands}
use Rattle.xs_model.specs.Bounds.{and_then, truths, is_truth, operand, folded, folded_from, logic, node_bounds}
use Rattle.xs_expr.specs.Operands.{joined, extended, pushed, none, gathered, gathered_of, logic_of, node_of}

-- a place past another is not the other
past : (k n : ℕ) → n < k → (k == n) ≡ false
past k n h = grind (arith, nat_tests)

-- the first three operands stay
first-kept : (op : Op) (k : ℕ) (s : Operands) (bs : List Bounds) → (gathered op (suc k) s bs).first ≡ s.first
first-kept op k s [] = refl
first-kept op k s (b ∷ bs) = first-kept op (suc k) (pushed op (suc k) s b) bs ∙ ap (λ (t : Bool). if◌then◌else◌ {A = Bounds} t b s.first) (past (suc k) 0 (omega arith))

second-kept : (op : Op) (k : ℕ) (s : Operands) (bs : List Bounds) → (gathered op (suc (suc k)) s bs).second ≡ s.second
second-kept op k s [] = refl
second-kept op k s (b ∷ bs) = second-kept op (suc k) (pushed op (suc (suc k)) s b) bs ∙ ap (λ (t : Bool). if◌then◌else◌ {A = Bounds} t b s.second) (past (suc (suc k)) 1 (omega arith))

third-kept : (op : Op) (k : ℕ) (s : Operands) (bs : List Bounds) → (gathered op (suc (suc (suc k))) s bs).third ≡ s.third
third-kept op k s [] = refl
third-kept op k s (b ∷ bs) = third-kept op (suc k) (pushed op (suc (suc (suc k))) s b) bs ∙ ap (λ (t : Bool). if◌then◌else◌ {A = Bounds} t b s.third) (past (suc (suc (suc k))) 2 (omega arith))

-- past the first operand each is taken together with those before
extended-past : (op : Op) (k : ℕ) (s : Operands) (b : Bounds) → extended op (suc k) s b ≡ and_then s.together (λ a. joined op a b)
extended-past op k s b = ap (λ (t : Bool). if◌then◌else◌ {A = Result Bounds Kind} t (Ok b) (and_then s.together (λ a. joined op a b))) (past (suc k) 0 (omega arith))

pub gathered-first : (op : Op) (bs : List Bounds) → (gathered op 0 none bs).first ≡ operand bs 0
gathered-first op [] = refl
gathered-first op (b ∷ bs) = first-kept op 0 (pushed op 0 none b) bs

pub gathered-second : (op : Op) (bs : List Bounds) → (gathered op 0 none bs).second ≡ operand bs 1
gathered-second op [] = refl
gathered-second op (b ∷ []) = refl
gathered-second op (b ∷ c ∷ bs) = second-kept op 0 (pushed op 1 (pushed op 0 none b) c) bs

pub gathered-third : (op : Op) (bs : List Bounds) → (gathered op 0 none bs).third ≡ operand bs 2
gathered-third op [] = refl
gathered-third op (b ∷ []) = refl
gathered-third op (b ∷ c ∷ []) = refl
gathered-third op (b ∷ c ∷ d ∷ bs) = third-kept op 0 (pushed op 2 (pushed op 1 (pushed op 0 none b) c) d) bs

-- the operands taken together
add-from : (k : ℕ) (s : Operands) (bs : List Bounds) → (gathered Add (suc k) s bs).together ≡ folded_from add_ends s.together bs
add-from k s [] = refl
add-from k s (b ∷ bs) = add-from (suc k) (pushed Add (suc k) s b) bs ∙ ap (λ r. folded_from add_ends r bs) (extended-past Add k s b)

mul-from : (k : ℕ) (s : Operands) (bs : List Bounds) → (gathered Mul (suc k) s bs).together ≡ folded_from mul_ends s.together bs
mul-from k s [] = refl
mul-from k s (b ∷ bs) = mul-from (suc k) (pushed Mul (suc k) s b) bs ∙ ap (λ r. folded_from mul_ends r bs) (extended-past Mul k s b)

min-from : (k : ℕ) (s : Operands) (bs : List Bounds) → (gathered Min (suc k) s bs).together ≡ folded_from min_ends s.together bs
min-from k s [] = refl
min-from k s (b ∷ bs) = min-from (suc k) (pushed Min (suc k) s b) bs ∙ ap (λ r. folded_from min_ends r bs) (extended-past Min k s b)

max-from : (k : ℕ) (s : Operands) (bs : List Bounds) → (gathered Max (suc k) s bs).together ≡ folded_from max_ends s.together bs
max-from k s [] = refl
max-from k s (b ∷ bs) = max-from (suc k) (pushed Max (suc k) s b) bs ∙ ap (λ r. folded_from max_ends r bs) (extended-past Max k s b)

gathered-Add : (bs : List Bounds) → (gathered Add 0 none bs).together ≡ folded add_ends bs
gathered-Add [] = refl
gathered-Add (b ∷ bs) = add-from 0 (pushed Add 0 none b) bs

gathered-Mul : (bs : List Bounds) → (gathered Mul 0 none bs).together ≡ folded mul_ends bs
gathered-Mul [] = refl
gathered-Mul (b ∷ bs) = mul-from 0 (pushed Mul 0 none b) bs

gathered-Min : (bs : List Bounds) → (gathered Min 0 none bs).together ≡ folded min_ends bs
gathered-Min [] = refl
gathered-Min (b ∷ bs) = min-from 0 (pushed Min 0 none b) bs

gathered-Max : (bs : List Bounds) → (gathered Max 0 none bs).together ≡ folded max_ends bs
gathered-Max [] = refl
gathered-Max (b ∷ bs) = max-from 0 (pushed Max 0 none b) bs

-- whether all are truth values
and-assoc : (a b c : Bool) → ((a && b) && c) ≡ (a && (b && c))
and-assoc true b c = refl
and-assoc false b c = refl

truths-from : (op : Op) (k : ℕ) (s : Operands) (bs : List Bounds) → (gathered op k s bs).are_truths ≡ (s.are_truths && list_all is_truth bs)
truths-from op k s [] = grind (arith, common_steps)
truths-from op k s (b ∷ bs) = truths-from op (suc k) (pushed op k s b) bs ∙ and-assoc s.are_truths (is_truth b) (list_all is_truth bs)

gathered-logic : (op : Op) (bs : List Bounds) → logic_of (gathered op 0 none bs) ≡ logic bs
gathered-logic op bs = ap (λ (t : Bool). if◌then◌else◌ {A = Result Bounds Kind} t (Ok truths) (Err Logic)) (truths-from op 0 none bs)

module _ (bs : List Bounds) where
  one : (op : Op) → (gathered op 0 none bs).first ≡ operand bs 0
  one op = gathered-first op bs

  two : (op : Op) → (gathered op 0 none bs).second ≡ operand bs 1
  two op = gathered-second op bs

  pub gathered-node : (op : Op) → node_of op (gathered op 0 none bs) ≡ node_bounds op bs
  gathered-node Neg = rw (one Neg) refl
  gathered-node Abs = rw (one Abs) refl
  gathered-node Sqr = rw (one Sqr) refl
  gathered-node Add = gathered-Add bs
  gathered-node Mul = gathered-Mul bs
  gathered-node Sub = rw (one Sub, two Sub) refl
  gathered-node Dist = rw (one Dist, two Dist) refl
  gathered-node Div = rw (one Div, two Div) refl
  gathered-node Mod = rw (one Mod, two Mod) refl
  gathered-node Pow = rw (one Pow, two Pow) refl
  gathered-node Min = gathered-Min bs
  gathered-node Max = gathered-Max bs
  gathered-node Lt = refl
  gathered-node Le = refl
  gathered-node Gt = refl
  gathered-node Ge = refl
  gathered-node Ne = refl
  gathered-node Eq = refl
  gathered-node Set = refl
  gathered-node In = refl
  gathered-node NotIn = refl
  gathered-node Not = gathered-logic Not bs
  gathered-node And = gathered-logic And bs
  gathered-node Or = gathered-logic Or bs
  gathered-node Xor = gathered-logic Xor bs
  gathered-node Iff = gathered-logic Iff bs
  gathered-node Imp = gathered-logic Imp bs
  gathered-node If = rw (one If, two If, gathered-third If bs) refl

-- the same where an operand may be at fault
pub gathered_of-node : (op : Op) (r : Result (List Bounds) Kind) (s : Operands) → gathered_of op 0 none r ≡ Ok s → node_of op s ≡ and_then r (node_bounds op)
gathered_of-node op (Ok bs) s h = let e : gathered op 0 none bs ≡ s = cc in subst (λ o. node_of op o ≡ node_bounds op bs) e (gathered-node bs op)
gathered_of-node op (Err k) s h = cc
