-- The name that an item declares is an identifier and no keyword.
use Rattle.std.proofs.Common.{◌≡◌, inl, inr, ℕ, Bool, false, nat_le, List, [], ◌∷◌, ◌++◌, codes, sym, subst}
use Rattle.std.specs.List.{AllByRecursion}
use Rattle.fz_model.specs.Sound.{IsName}
use Rattle.fz_tokens.specs.Tokens.{Token}
use Rattle.fz_tokens.specs.declared.cut.Sort.TheVariants as sorts
use Rattle.fz_grammar.specs.Parts.{Pure, Word, After, Seq, Either, Many, Guard, Rising, Items}
use Rattle.fz_grammar.specs.Expressions.{IsExpr}
use Rattle.fz_grammar.specs.Items.{IsNote, IsValue, VarTail, ConstraintTail, IsParamTail, IsArrayTail, IsArray, IsItem, IsModel, PredicateTail, Skips, rank}
use Rattle.fz_grammar.specs.declared.tree.Expr.{Expr}
use Rattle.fz_grammar.specs.declared.tree.Note.{Note}
use Rattle.fz_grammar.specs.declared.tree.VarType.{VarType}
use Rattle.fz_grammar.specs.declared.tree.ParamType.{ParamType}
use Rattle.fz_grammar.specs.declared.tree.ParamType.TheVariants as param_type
use Rattle.fz_grammar.specs.declared.tree.Item.{Item}
use Rattle.fz_grammar.specs.declared.tree.Item.TheVariants as items
use Rattle.fz_grammar.specs.declared.tree.Syntax.{Syntax}
use Rattle.fz_sound.proofs.NameTokens.{AreRight, named}

-- a variable or an array of variables has a name
abbrev pub IsNamedItem : Item → Type 0
IsNamedItem (items.Predicate w ns) = Unit {0}
IsNamedItem (items.Param t w ns x) = Unit {0}
IsNamedItem (items.Var t w ns v) = IsName w
IsNamedItem (items.Array n t w ns x) = IsName w
IsNamedItem (items.Constraint w xs ns) = Unit {0}

front : (us vs : List Token) → AreRight (us ++ vs) → AreRight us
front [] vs g = tt
front (u ∷ us) vs g = (g.0, front us vs g.1)

back : (us vs : List Token) → AreRight (us ++ vs) → AreRight vs
back [] vs g = g
back (u ∷ us) vs g = back us vs g.1

-- the tokens behind a part
behind : (us vs ts : List Token) → ts ≡ us ++ vs → AreRight ts → AreRight vs
behind us vs ts e g = back us vs (subst AreRight e g)

before : (us vs ts : List Token) → ts ≡ us ++ vs → AreRight ts → AreRight us
before us vs ts e g = front us vs (subst AreRight e g)

is_item : (y x : Item) (ts : List Token) → IsNamedItem y → After (codes ";") (Pure y) x ts → IsNamedItem x
is_item y x [] n h = absurd h
is_item y x (t ∷ ts) n h = subst IsNamedItem (sym h.1.0) n

-- a part behind a keyword or a mark
key : (word : List ℕ) (S : Item → List Token → Type 0) → ((x : Item) (ts : List Token) → AreRight ts → S x ts → IsNamedItem x) → (x : Item) (ts : List Token) → AreRight ts → After word S x ts → IsNamedItem x
key word S f x [] g h = absurd h
key word S f x (t ∷ ts) g h = f x ts g.1 h.1

-- a part behind a name
name : (S : List ℕ → Item → List Token → Type 0) → ((w : List ℕ) (x : Item) (ts : List Token) → IsName w → AreRight ts → S w x ts → IsNamedItem x) → (x : Item) (ts : List Token) → AreRight ts → Word sorts.Name S x ts → IsNamedItem x
name S f x [] g h = absurd h
name S f x (t ∷ ts) g h = f t.bytes x ts (named t h.0 g.0) g.1 h.1

abbrev VarNamed : VarType → List ℕ → Item → List Token → Type 0
VarNamed t w = Seq (Many IsNote) (λ ns. Seq IsValue (λ v. After (codes ";") (Pure (items.Var t w ns v))))

var_tail : (x : Item) (ts : List Token) → AreRight ts → VarTail x ts → IsNamedItem x
var_tail x ts g h =
    key (codes ":") (Word sorts.Name (VarNamed h.a))
    (name (VarNamed h.a) (λ w y us r q k. is_item (items.Var h.a w k.a k.second.a) y k.second.vs r k.second.second)) x h.vs (behind h.us h.vs ts h.is g) h.second

abbrev ArrayValue : List ℕ → VarType → List ℕ → List Note → Item → List Token → Type 0
ArrayValue n t w ns = Seq (IsExpr false) (λ x. After (codes ";") (Pure (items.Array n t w ns x)))

abbrev ArrayNamed : List ℕ → VarType → List ℕ → Item → List Token → Type 0
ArrayNamed n t w = Seq (Many IsNote) (λ ns. After (codes "=") (ArrayValue n t w ns))

array_named : (n : List ℕ) (t : VarType) (w : List ℕ) (x : Item) (ts : List Token) → IsName w → AreRight ts → ArrayNamed n t w x ts → IsNamedItem x
array_named n t w x ts r g h =
    key (codes "=") (ArrayValue n t w h.a) (λ y us q k. is_item (items.Array n t w h.a k.a) y k.vs r k.second) x h.vs (behind h.us h.vs ts h.is g) h.second

array_tail : (n : List ℕ) (x : Item) (ts : List Token) → AreRight ts → IsArrayTail n x ts → IsNamedItem x
array_tail n x ts g h = key (codes ":") (Word sorts.Name (ArrayNamed n h.a)) (name (ArrayNamed n h.a) (array_named n h.a)) x h.vs (behind h.us h.vs ts h.is g) h.second

abbrev ParamValue : ParamType → List ℕ → List Note → Item → List Token → Type 0
ParamValue t w ns = Seq (IsExpr false) (λ x. After (codes ";") (Pure (items.Param t w ns x)))

abbrev ParamNamed : ParamType → List ℕ → Item → List Token → Type 0
ParamNamed t w = Seq (Many IsNote) (λ ns. After (codes "=") (ParamValue t w ns))

param_named : (t : ParamType) (w : List ℕ) (x : Item) (ts : List Token) → IsName w → AreRight ts → ParamNamed t w x ts → IsNamedItem x
param_named t w x ts r g h =
    key (codes "=") (ParamValue t w h.a) (λ y us q k. is_item (items.Param t w h.a k.a) y k.vs tt k.second) x h.vs (behind h.us h.vs ts h.is g) h.second

param_tail : (t : ParamType) (x : Item) (ts : List Token) → AreRight ts → IsParamTail t x ts → IsNamedItem x
param_tail t = key (codes ":") (Word sorts.Name (ParamNamed t)) (name (ParamNamed t) (param_named t))

abbrev CallEnd : List ℕ → List Expr → Item → List Token → Type 0
CallEnd w xs = Seq (Many IsNote) (λ ns. After (codes ";") (Pure (items.Constraint w xs ns)))

abbrev CallArgs : List ℕ → Item → List Token → Type 0
CallArgs w = Seq (Items (IsExpr false)) (λ xs. After (codes ")") (CallEnd w xs))

call_args : (w : List ℕ) (x : Item) (ts : List Token) → AreRight ts → CallArgs w x ts → IsNamedItem x
call_args w x ts g h =
    key (codes ")") (CallEnd w h.a) (λ y us q k. is_item (items.Constraint w h.a k.a) y k.vs tt k.second) x h.vs (behind h.us h.vs ts h.is g) h.second

call_tail : (x : Item) (ts : List Token) → AreRight ts → ConstraintTail x ts → IsNamedItem x
call_tail = name (λ w. After (codes "(") (CallArgs w)) (λ w x ts r g h. key (codes "(") (CallArgs w) (call_args w) x ts g h)

predicate_tail : (x : Item) (ts : List Token) → AreRight ts → PredicateTail x ts → IsNamedItem x
predicate_tail = name (λ w. Seq Skips (λ ns. Pure (items.Predicate w ns))) (λ w x ts r g h. subst IsNamedItem (sym h.second.0) tt)

abbrev Members : Bool → List ℕ → Item → List Token → Type 0
Members params n =
    Either (Guard params (After (codes "bool") (IsParamTail (param_type.Bools n))))
    (Either (Guard params (After (codes "int") (IsParamTail (param_type.Ints n))))
    (After (codes "var") (IsArrayTail n)))

members : (params : Bool) (n : List ℕ) (x : Item) (ts : List Token) → AreRight ts → Members params n x ts → IsNamedItem x
members params n x ts g (inl h) = key (codes "bool") (IsParamTail (param_type.Bools n)) (param_tail (param_type.Bools n)) x ts g h.1
members params n x ts g (inr (inl h)) = key (codes "int") (IsParamTail (param_type.Ints n)) (param_tail (param_type.Ints n)) x ts g h.1
members params n x ts g (inr (inr h)) = key (codes "var") (IsArrayTail n) (array_tail n) x ts g h

array : (params : Bool) (x : Item) (ts : List Token) → AreRight ts → IsArray params x ts → IsNamedItem x
array params x [] g h = absurd h
array params x (a ∷ []) g h = absurd h.1
array params x (a ∷ (b ∷ [])) g h = absurd h.1.1
array params x (a ∷ (b ∷ (c ∷ []))) g h = absurd h.1.1.1
array params x (a ∷ (b ∷ (c ∷ (d ∷ [])))) g h = absurd h.1.1.1.1
array params x (a ∷ (b ∷ (c ∷ (d ∷ (e ∷ []))))) g h = absurd h.1.1.1.1.1
array params x (a ∷ (b ∷ (c ∷ (d ∷ (e ∷ (f ∷ [])))))) g h = absurd h.1.1.1.1.1.1
array params x (a ∷ (b ∷ (c ∷ (d ∷ (e ∷ (f ∷ (o ∷ ts))))))) g h = members params e.bytes x ts g.1.1.1.1.1.1.1 h.1.1.1.1.1.1.1

item : (rank : ℕ) (x : Item) (ts : List Token) → AreRight ts → IsItem rank x ts → IsNamedItem x
item n x ts g (inl h) = key (codes "predicate") PredicateTail predicate_tail x ts g h.1
item n x ts g (inr (inl h)) = key (codes "bool") (IsParamTail param_type.Bool) (param_tail param_type.Bool) x ts g h.1
item n x ts g (inr (inr (inl h))) = key (codes "int") (IsParamTail param_type.Int) (param_tail param_type.Int) x ts g h.1
item n x ts g (inr (inr (inr (inl h)))) =
    key (codes "set") (After (codes "of") (After (codes "int") (IsParamTail param_type.SetOfInt)))
    (key (codes "of") (After (codes "int") (IsParamTail param_type.SetOfInt)) (key (codes "int") (IsParamTail param_type.SetOfInt) (param_tail param_type.SetOfInt))) x ts g h.1
item n x ts g (inr (inr (inr (inr (inl h))))) = key (codes "var") VarTail var_tail x ts g h.1
item n x ts g (inr (inr (inr (inr (inr (inl h)))))) = array (nat_le n 1) x ts g h.1
item n x ts g (inr (inr (inr (inr (inr (inr h)))))) = key (codes "constraint") ConstraintTail call_tail x ts g h

rising : (n : ℕ) (xs : List Item) (ts : List Token) → AreRight ts → Rising IsItem rank n xs ts → AllByRecursion IsNamedItem xs
rising n [] ts g h = tt
rising n (x ∷ xs) ts g h = (item n x h.us (before h.us h.vs ts h.is g) h.first, rising (rank x) xs h.vs (behind h.us h.vs ts h.is g) h.second)

pub items_named : (s : Syntax) (ts : List Token) → AreRight ts → IsModel s ts → AllByRecursion IsNamedItem s.items
items_named s ts g h =
    subst (λ (r : Syntax). AllByRecursion IsNamedItem r.items) (sym h.second.second.0) (rising 0 h.a h.us (before h.us h.vs ts h.is g) h.first)
