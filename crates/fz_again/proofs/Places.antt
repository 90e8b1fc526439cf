-- Where the items of a tree stand in a text whose tokens spell it.
use Rattle.std.proofs.Common.{◌≡◌, ℕ, List, [], ◌∷◌, ◌++◌, length, drop, get_or, refl, ap, sym, subst, ◌∙◌, arith, append_assoc, append-nil}
use Rattle.fz_tokens.specs.Tokens.{Token, Placed, tokens_of}
use Rattle.fz_grammar.specs.Levels.{words}
use Rattle.fz_grammar.specs.Parts.{Rising}
use Rattle.fz_grammar.specs.Reading.{left_of}
use Rattle.fz_grammar.specs.Items.{IsItem, IsSolve, IsModel, rank, syntax_of}
use Rattle.fz_grammar.specs.Placing.{AreAt}
use Rattle.fz_grammar.specs.declared.tree.Item.{Item}
use Rattle.fz_grammar.specs.declared.tree.Syntax.{Syntax}
use Rattle.fz_again.specs.Tree.{HasTree}

-- tokens of a text in two parts
record Split (tokens : List Placed) (us vs : List Token) : Type 0 where
  pub front : List Placed
  pub back : List Placed
  pub is : tokens ≡ front ++ back
  pub first : words front ≡ us
  pub second : words back ≡ vs

split : (tokens : List Placed) (us vs : List Token) → words tokens ≡ us ++ vs → Split tokens us vs
split tokens [] vs h = record { front = []; back = tokens; is = refl; first = refl; second = h }
split [] (u ∷ us) vs h = absurd (omega (arith, ap length h))
split (p ∷ ps) (u ∷ us) vs h =
    let later = split ps us vs (ap (drop 1) h) in
    let here : p.token ≡ u = ap (λ ts. get_or ts 0 u) h in
    record { front = p ∷ later.front; back = later.back; is = ap (λ qs. p ∷ qs) later.is; first = ap (λ t. t ∷ words later.front) here ∙ ap (λ ts. u ∷ ts) later.first; second = later.second }

-- items one after the other, and the tokens behind them
record Standing (before : ℕ) (xs : List Item) (tokens : List Placed) (vs : List Token) : Type 0 where
  pub places : List ℕ
  pub end : ℕ
  pub rest : List Placed
  pub items : AreAt before xs places tokens end rest
  pub behind : words rest ≡ vs

standing : (xs : List Item) (before : ℕ) (tokens : List Placed) (us vs : List Token) → words tokens ≡ us ++ vs → Rising IsItem rank before xs us → Standing before xs tokens vs
standing [] before tokens us vs h r = record { places = []; end = before; rest = tokens; items = (refl, refl); behind = h ∙ ap (λ ts. ts ++ vs) r }
standing (x ∷ xs) before tokens us vs h r =
    let parts = split tokens r.us (r.vs ++ vs) (h ∙ ap (λ ts. ts ++ vs) r.is ∙ append_assoc r.us r.vs vs) in
    let later = standing xs (rank x) parts.back r.vs vs parts.second r.second in
    record {
      places = left_of tokens ∷ later.places;
      end = later.end;
      rest = later.rest;
      items = (parts.back, record { front = parts.front; is = parts.is; spelt = subst (IsItem before x) (sym parts.first) r.first; place = refl }, later.items);
      behind = later.behind;
    }

-- each item of a tree has its place
pub placed : (s : Syntax) (text : List ℕ) → IsModel s (words (tokens_of text)) → HasTree text s
placed s text h =
    let tokens : List Placed = tokens_of text in
    let st = standing h.a 0 tokens h.us h.vs h.is h.first in
    let k = h.second in
    let solve_is : words st.rest ≡ k.us = st.behind ∙ k.is ∙ ap (λ ts. k.us ++ ts) k.second.1 ∙ append-nil k.us in
    record {
      reading = record { syntax = syntax_of h.a k.a; places = st.places; last = left_of st.rest };
      tree = sym k.second.0;
      placed = record { end = st.end; rest = st.rest; items = st.items; front = st.rest; is = sym (append-nil st.rest); solve = subst (IsSolve k.a) (sym solve_is) k.first; last = refl };
    }
