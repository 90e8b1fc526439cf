-- One judgement of a list of items: what they give the new variables, what they state, that the new variables follow from
-- those before, of which variables the calls speak, and how much they are.
use Rattle.std.specs.Prelude.{◌≡◌, ℕ, ◌+◌, ◌<◌, ◌≤◌, ℤ, List, ◌++◌, length, map, sum}
use Rattle.std.specs.List.{AllByRecursion}
use Rattle.fz_model.specs.Meaning.{number}
use Rattle.fz_model.specs.Size.{call_leaves}
use Rattle.lo_base.specs.Before.{AreCallsBefore}
use Rattle.lo_base.specs.Item.{Item, made}
use Rattle.lo_base.specs.Lowered.{calls_of}
use Rattle.lo_base.specs.Solved.{Meets}
use Rattle.lo_base.specs.Stepwise.{Settles}
use Rattle.lo_emit.specs.declared.term.Term.{Term}
use Rattle.lo_emit.specs.declared.term.Term.TheVariants.{Int, Truth, Var}
use Rattle.lo_emit.specs.Emitted.{Out, Outs, arg_of}

-- the leaves of the calls that the items post
abbrev pub leaves : List Item → ℕ
leaves xs = sum (map call_leaves (calls_of xs))

-- the number that a term stands for
abbrev pub num : List ℤ → Term → ℤ
num b t = number b (arg_of t)

-- a term names no variable from n on
abbrev pub Before : ℕ → Term → Type 0
Before n (Int z) = Unit {0}
Before n (Truth t) = Unit {0}
Before n (Var k) = k < n

abbrev pub AllBefore : ℕ → List Term → Type 0
AllBefore n = AllByRecursion (Before n)

-- D holds of these values, whatever comes behind
abbrev pub Known : (List ℤ → Type 0) → List ℤ → Type 0
Known D a = (d : List ℤ) → D (a ++ d)

-- nothing is known
abbrev pub Always : List ℤ → Type 0
Always b = Unit {0}

-- Values for the new variables of the items, the first of which is n, behind the values a: with them G holds, and the
-- items are met where P holds.
pub record Chosen (G P : List ℤ → Type 0) (a : List ℤ) (n : ℕ) (xs : List Item) : Type 0 where
  pub more : List ℤ
  pub many : length more ≡ made xs
  pub known : Known G (a ++ more)
  pub met : (d : List ℤ) → P (a ++ more ++ d) → Meets n xs (a ++ more ++ d)

-- The judgement. Among all values b of which D holds, those that meet the items show G, what the new variables are, and P,
-- what the items state; and where W is known besides, there are values for the new variables with which G holds and the
-- items are met where P holds. Each new variable is settled by an item, the calls speak of the variables before and of
-- the new ones alone, and new variables and leaves of calls are at most w.
pub record Rule (W D : List ℤ → Type 0) (n : ℕ) (xs : List Item) (w : ℕ) (G P : List ℤ → Type 0) : Type 0 where
  pub sound : (b : List ℤ) → D b → Meets n xs b → G b × P b
  pub total : (a : List ℤ) → length a ≡ n → Known W a → Known D a → Chosen G P a n xs
  pub settled : (k : ℕ) → n ≤ k → k < n + made xs → Settles k n xs
  pub before : AreCallsBefore (n + made xs) (calls_of xs)
  pub size : made xs + leaves xs ≤ w

-- the items state nothing, and the term stands for v
pub record Yields (W D : List ℤ → Type 0) (n : ℕ) (c : Out) (w : ℕ) (v : List ℤ → ℤ) : Type 0 where
  pub rule : Rule W D n c.items w (λ b. num b c.term ≡ v b) Always
  pub before : Before (n + made c.items) c.term

pub record YieldsAll (W D : List ℤ → Type 0) (n : ℕ) (c : Outs) (w : ℕ) (vs : List ℤ → List ℤ) : Type 0 where
  pub rule : Rule W D n c.items w (λ b. map (num b) c.terms ≡ vs b) Always
  pub before : AllBefore (n + made c.items) c.terms
