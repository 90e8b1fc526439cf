-- The words among the tokens that an expression is read from are its nodes.
use Rattle.std.proofs.Common.{◌≡◌, ℕ, ◌+◌, List, [], ◌∷◌, ◌++◌, codes, map, refl, sym, ap, subst, ◌∙◌, arith, rules, Bool, true, false, ◌&&◌, if◌then◌else◌, Some}
use Rattle.std.specs.List.{list_all}
use Rattle.xs_model.specs.Formed.{total}
use Rattle.xs_model.specs.declared.expr.Op.{Op}
use Rattle.xs_expr.specs.Text.{name_of}
use Rattle.xs_notation.specs.Count.{nodes_in, words_among}
use Rattle.xs_notation.specs.Notation.{behind, listed, flat, is_plain, are_plain}
use Rattle.xs_notation.specs.Parse.{parse}
use Rattle.xs_notation.specs.declared.raw.Raw.{Raw, Word, Call, the_lemmas, roll-Raw, map-Raw, ind-Raw}
use Rattle.xs_notation.specs.declared.raw.Raw.TheVariants.{rolls-Word, rolls-Call}
use Rattle.xs_notation.specs.declared.raw.Raw.TheOpen.{Raw-F}
use Rattle.xs_notation.proofs.Again.{plain-name}
use Rattle.xs_notation.proofs.Flats.{flat-Word, flat-Call, plain-Word, plain-Call}
use Rattle.xs_notation.proofs.Written.{parse-spelt}

pub nodes-Word : (w : List ℕ) → nodes_in (Word w) ≡ 1
nodes-Word w = search (rules, the_lemmas)

pub nodes-Call : (op : Op) (rs : List Raw) → nodes_in (Call op rs) ≡ 1 + total (map nodes_in rs)
nodes-Call op rs = search (rules, the_lemmas)

both-left : (a b : Bool) → (a && b) ≡ true → a ≡ true
both-left true b h = refl
both-left false b h = cc

both-right : (a b : Bool) → (a && b) ≡ true → b ≡ true
both-right true b h = h
both-right false b h = cc

among-both : (ts us : List (List ℕ)) → words_among (ts ++ us) ≡ words_among ts + words_among us
among-both [] us = omega arith
among-both (t ∷ ts) us =
    let h = among-both ts us in
    omega (arith, h)

word-more : (w : List ℕ) (ts : List (List ℕ)) → is_plain w ≡ true → words_among (w ∷ ts) ≡ 1 + words_among ts
word-more w ts h = ap (λ (v : Bool). (if v then 1 else 0) + words_among ts) h

abbrev Claim : Raw → Type 0
Claim r = are_plain r ≡ true → words_among (flat r) ≡ nodes_in r

abbrev kept : List ((r : Raw) × Claim r) → List Raw
kept ps = map (λ p. p.0) ps

behind-count : (ps : List ((r : Raw) × Claim r)) → list_all (λ p. p) (map are_plain (kept ps)) ≡ true → words_among (behind (map flat (kept ps))) ≡ total (map nodes_in (kept ps))
behind-count [] h = refl
behind-count (p ∷ ps) h =
    let split = among-both (flat p.0) (behind (map flat (kept ps))) in
    let first = p.1 (both-left (are_plain p.0) (list_all (λ q. q) (map are_plain (kept ps))) h) in
    let others = behind-count ps (both-right (are_plain p.0) (list_all (λ q. q) (map are_plain (kept ps))) h) in
    let cons : total (map nodes_in (kept (p ∷ ps))) ≡ nodes_in p.0 + total (map nodes_in (kept ps)) = refl in
    omega (arith, split, first, others, cons)

listed-count : (ps : List ((r : Raw) × Claim r)) → list_all (λ p. p) (map are_plain (kept ps)) ≡ true → words_among (listed (map flat (kept ps))) ≡ total (map nodes_in (kept ps))
listed-count [] h = refl
listed-count (p ∷ ps) h =
    let split = among-both (flat p.0) (behind (map flat (kept ps))) in
    let first = p.1 (both-left (are_plain p.0) (list_all (λ q. q) (map are_plain (kept ps))) h) in
    let others = behind-count ps (both-right (are_plain p.0) (list_all (λ q. q) (map are_plain (kept ps))) h) in
    let cons : total (map nodes_in (kept (p ∷ ps))) ≡ nodes_in p.0 + total (map nodes_in (kept ps)) = refl in
    let opened : words_among (listed (map flat (kept (p ∷ ps)))) ≡ words_among (flat p.0 ++ behind (map flat (kept ps))) = refl in
    omega (arith, split, first, others, cons, opened)

at-word : (w : List ℕ) → Claim (Word w)
at-word w h = ap words_among (flat-Word w) ∙ word-more w [] (sym (plain-Word w) ∙ h) ∙ sym (nodes-Word w)

at-call : (op : Op) (ps : List ((r : Raw) × Claim r)) → Claim (Call op (kept ps))
at-call op ps h =
    let inner : List (List ℕ) = listed (map flat (kept ps)) in
    let split = among-both inner (codes ")" ∷ []) in
    let operands = listed-count ps (sym (plain-Call op (kept ps)) ∙ h) in
    let whole : words_among (codes "(" ∷ (inner ++ codes ")" ∷ [])) ≡ total (map nodes_in (kept ps)) = omega (arith, split, operands) in
    ap words_among (flat-Call op (kept ps))
    ∙ word-more (name_of op) (codes "(" ∷ (inner ++ codes ")" ∷ [])) (plain-name op)
    ∙ ap (λ n. 1 + n) whole
    ∙ sym (nodes-Call op (kept ps))

at-layer : (y : Raw-F ((r : Raw) × Claim r)) → Claim (roll-Raw (map-Raw ((r : Raw) × Claim r) Raw (λ p. p.0) y))
at-layer (Raw-F.Word w) = subst Claim (sym (rolls-Word w)) (at-word w)
at-layer (Raw-F.Call op ps) = subst Claim (sym (rolls-Call op (kept ps))) (at-call op ps)

nodes-counted : (r : Raw) → Claim r
nodes-counted = ind-Raw Claim (λ x y is. subst (λ z. Claim (roll-Raw z)) is (at-layer y))

pub raw-counted : (ts : List (List ℕ)) (r : Raw) → parse ts ≡ Some r → nodes_in r ≡ words_among ts
raw-counted ts r e =
    let spelt = parse-spelt ts r e in
    sym (nodes-counted r spelt.plain) ∙ ap words_among spelt.tokens
