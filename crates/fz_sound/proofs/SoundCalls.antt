-- A call that misses nothing is sound.
use Rattle.std.proofs.Common.{◌≡◌, ℕ, Bool, true, false, ◌&&◌, List, [], ◌∷◌, length, map, sym, ap, ◌∙◌, subst, arith}
use Rattle.std.specs.Prelude.{nat_eq}
use Rattle.std.proofs.lemmas.Bool.Decides.{nat_tests}
use Rattle.std.proofs.lemmas.List.{length-map}
use Rattle.fz_model.specs.declared.builtin.Builtin.{Builtin}
use Rattle.fz_model.specs.declared.builtin.Builtin.TheVariants.{IntLinEq, IntLinNe, IntLinLe, IntLinEqReif, IntLinNeReif, IntLinLeReif, IntEq, IntNe, IntLe, IntLt, IntEqReif, IntNeReif, IntLeReif, IntLtReif, IntAbs, IntPlus, IntTimes, IntDiv, IntMod, IntMin, IntMax, ArrayIntMinimum, ArrayIntMaximum, ArrayIntElement, ArrayVarIntElement, ArrayBoolElement, ArrayVarBoolElement, Bool2Int, BoolEq, BoolLe, BoolLt, BoolEqReif, BoolLeReif, BoolLtReif, BoolNot, BoolAnd, BoolOr, BoolXor, BoolClause, BoolClauseReif, ArrayBoolAnd, ArrayBoolOr, ArrayBoolXor, BoolLinEq, BoolLinLe, SetIn, SetInReif}
use Rattle.fz_model.specs.declared.kind.Asked.{Asked}
use Rattle.fz_model.specs.declared.kind.Asked.TheVariants as asked
use Rattle.fz_model.specs.declared.kind.Kind.{Kind}
use Rattle.fz_model.specs.declared.kind.Kind.TheVariants as kind
use Rattle.fz_model.proofs.Calls.{members-List}
use Rattle.fz_model.specs.Meaning.{members}
use Rattle.fz_model.specs.declared.model.Arg.TheVariants as args
use Rattle.fz_model.specs.Kinds.{kinds_at, is_linear}
use Rattle.fz_model.specs.Sound.{IsCall, AreOfKinds, AreAsMany}
use Rattle.fz_grammar.specs.declared.tree.Expr.{Expr}
use Rattle.fz_values.specs.declared.meaning.Meaning.{Meaning}
use Rattle.fz_values.specs.Kinds.{fits, all_fit, all_reach, members_in, arg_of, args_in}
use Rattle.fz_items.specs.Items.{first_two, lengths_fit}
use Rattle.fz_sound.proofs.SoundValues.{AreMeanings, args_sound, as_many}

right_true : (a b : Bool) → (a && b) ≡ true → b ≡ true
right_true true b e = e
right_true false b e = cc

same_number : (a b : ℕ) → nat_eq a b ≡ true → a ≡ b
same_number a b h = grind (arith, nat_tests, h)

module _ (names : List (List ℕ × Meaning)) where
  counted : (x : Expr) → length (members (args.List (map arg_of (members_in names x)))) ≡ length (members_in names x)
  counted x = ap length (members-List (map arg_of (members_in names x))) ∙ length-map (members_in names x) arg_of

  pairs : (a c : Asked) (ks : List Kind) (xs : List Expr) → all_fit names (kind.Many a ∷ kind.Many c ∷ ks) xs ≡ true → first_two names xs ≡ true → AreAsMany true (args_in names (kind.Many a ∷ kind.Many c ∷ ks) xs)
  pairs a c ks [] s e = cc
  pairs a c ks (x ∷ []) s e = let bad = right_true (fits names (kind.Many a) x) false s in cc
  pairs a c ks (x ∷ (y ∷ ys)) s e =
      counted x ∙ (same_number (length (members_in names x)) (length (members_in names y)) e ∙ sym (counted y))

  lengths : (b : Builtin) (xs : List Expr) → all_fit names (kinds_at b (length xs)) xs ≡ true → lengths_fit names (is_linear b) xs ≡ true → AreAsMany (is_linear b) (args_in names (kinds_at b (length xs)) xs)
  lengths IntLinEq xs s e = pairs asked.IntConstant asked.Int (kind.One asked.IntConstant ∷ []) xs s e
  lengths IntLinNe xs s e = pairs asked.IntConstant asked.Int (kind.One asked.IntConstant ∷ []) xs s e
  lengths IntLinLe xs s e = pairs asked.IntConstant asked.Int (kind.One asked.IntConstant ∷ []) xs s e
  lengths IntLinEqReif xs s e = pairs asked.IntConstant asked.Int (kind.One asked.IntConstant ∷ kind.One asked.Bool ∷ []) xs s e
  lengths IntLinNeReif xs s e = pairs asked.IntConstant asked.Int (kind.One asked.IntConstant ∷ kind.One asked.Bool ∷ []) xs s e
  lengths IntLinLeReif xs s e = pairs asked.IntConstant asked.Int (kind.One asked.IntConstant ∷ kind.One asked.Bool ∷ []) xs s e
  lengths IntEq xs s e = tt
  lengths IntNe xs s e = tt
  lengths IntLe xs s e = tt
  lengths IntLt xs s e = tt
  lengths IntEqReif xs s e = tt
  lengths IntNeReif xs s e = tt
  lengths IntLeReif xs s e = tt
  lengths IntLtReif xs s e = tt
  lengths IntAbs xs s e = tt
  lengths IntPlus xs s e = tt
  lengths IntTimes xs s e = tt
  lengths IntDiv xs s e = tt
  lengths IntMod xs s e = tt
  lengths IntMin xs s e = tt
  lengths IntMax xs s e = tt
  lengths ArrayIntMinimum xs s e = tt
  lengths ArrayIntMaximum xs s e = tt
  lengths ArrayIntElement xs s e = tt
  lengths ArrayVarIntElement xs s e = tt
  lengths ArrayBoolElement xs s e = tt
  lengths ArrayVarBoolElement xs s e = tt
  lengths Bool2Int xs s e = tt
  lengths BoolEq xs s e = tt
  lengths BoolLe xs s e = tt
  lengths BoolLt xs s e = tt
  lengths BoolEqReif xs s e = tt
  lengths BoolLeReif xs s e = tt
  lengths BoolLtReif xs s e = tt
  lengths BoolNot xs s e = tt
  lengths BoolAnd xs s e = tt
  lengths BoolOr xs s e = tt
  lengths BoolXor xs s e = tt
  lengths BoolClause xs s e = tt
  lengths BoolClauseReif xs s e = tt
  lengths ArrayBoolAnd xs s e = tt
  lengths ArrayBoolOr xs s e = tt
  lengths ArrayBoolXor xs s e = tt
  lengths BoolLinEq xs s e = pairs asked.IntConstant asked.Bool (kind.One asked.Int ∷ []) xs s e
  lengths BoolLinLe xs s e = pairs asked.IntConstant asked.Bool (kind.One asked.IntConstant ∷ []) xs s e
  lengths SetIn xs s e = tt
  lengths SetInReif xs s e = tt

  pub call_sound : (bs : List Bool) (h : AreMeanings bs names) (b : Builtin) (xs : List Expr) (place : ℕ) → all_fit names (kinds_at b (length xs)) xs ≡ true → all_reach names (kinds_at b (length xs)) xs ≡ true
      → lengths_fit names (is_linear b) xs ≡ true → IsCall bs (record { builtin = b; args = args_in names (kinds_at b (length xs)) xs; place = place })
  call_sound bs h b xs place s w e = record {
    kinds = subst (λ n. AreOfKinds bs (kinds_at b n) (args_in names (kinds_at b (length xs)) xs)) (sym (as_many bs names h (kinds_at b (length xs)) xs s)) (args_sound bs names h (kinds_at b (length xs)) xs s w);
    lengths = lengths b xs s e;
  }
