-- The items of a text stand in one place each.
use Rattle.std.proofs.Common.{◌≡◌, ◌⊎◌, inl, inr, ℕ, ◌+◌, ◌≤◌, List, [], ◌∷◌, ◌++◌, Result, Ok, Err, refl, ap, sym, ◌∙◌, subst, arith}
use Rattle.std.specs.Prelude.{IfOk}
use Rattle.fz_tokens.specs.Tokens.{Token, Placed}
use Rattle.fz_grammar.specs.Levels.{levels, moved, level, AreLow, words}
use Rattle.fz_grammar.specs.Reading.{Read, left_of, whole_at}
use Rattle.fz_grammar.specs.Items.{IsItem, IsSolve, IsModel, rank}
use Rattle.fz_grammar.specs.ItemReaders.{item_at, model_at}
use Rattle.fz_grammar.specs.Fits.{IsMisfit, IsTooDeep}
use Rattle.fz_grammar.specs.Placing.{Stands, AreAt, IsPlaced}
use Rattle.fz_grammar.specs.Answers.{Answers, IsTooDeepOr}
use Rattle.fz_grammar.specs.declared.halt.Fault.{Fault}
use Rattle.fz_grammar.specs.declared.halt.Fault.TheVariants.{Misfit, Deep}
use Rattle.fz_grammar.specs.declared.halt.Halt.{Halt}
use Rattle.fz_grammar.specs.declared.halt.Halt.TheVariants as halts
use Rattle.fz_grammar.specs.declared.tree.Item.{Item}
use Rattle.fz_grammar.specs.declared.tree.Reading.{Reading}
use Rattle.fz_grammar.specs.declared.tree.Syntax.{Syntax}
use Rattle.fz_grammar.proofs.Laws.{Local, Reads, IsFree, words-append}
use Rattle.fz_grammar.proofs.Exprs.{none}
use Rattle.fz_grammar.proofs.Models.{item_law, model_law}
use Rattle.fz_grammar.proofs.Wholes.{Exact, exact, only}
use Rattle.fz_grammar.proofs.Alone.{low_at, no_low_and_deep, no_tree_and_misfit}

low_behind : (k : ℕ) (ts us : List Token) → AreLow k (ts ++ us) → AreLow (level k ts) us
low_behind k [] us h = h
low_behind k (t ∷ ts) us h = low_behind (moved k t) ts us h.1

free : (ws : List Placed) → IsFree none ws
free [] = refl
free (w ∷ ws) = refl

same_read : (p : Item × List Placed) (x : Item) (back : List Placed) (o : Read Item) → o ≡ Ok p → p.0 ≡ x → p.1 ≡ back → o ≡ Ok (x, back)
same_read p x back o e f g = e ∙ (ap (λ (a : Item). Ok (a, p.1)) f ∙ ap (λ (b : List Placed). Ok (x, b)) g)

-- an item of low tokens is read
item_read_on : (before : ℕ) (x : Item) (r back : List Placed) (o : Read Item) → item_at before r ≡ o → AreLow 0 (words r) → Local (IsItem before) 0 0 (item_at before) r o → Reads o x back
    → (item_at before r ≡ Ok (x, back)) × AreLow 0 (words back)
item_read_on before x r back (Ok p) e low l h =
    let lows : AreLow 0 (words l.front ++ words p.1) = subst (AreLow 0) (ap words l.is ∙ words-append l.front p.1) low in
    let behind : AreLow (level 0 (words l.front)) (words p.1) = low_behind 0 (words l.front) (words p.1) lows in
    (same_read p x back (item_at before r) e h.0 h.1, subst (λ b. AreLow 0 (words b)) h.1 (subst (λ k. AreLow k (words p.1)) l.ends behind))
item_read_on before x r back (Err (Misfit at)) e low l h = absurd h
item_read_on before x r back (Err (Deep at)) e low l h =
    let m : moved (level 0 (words l.front)) l.here.token ≤ levels = low_at 0 (words l.front) (words l.rest) l.here.token (subst (AreLow 0) (ap words l.is ∙ words-append l.front (l.here ∷ l.rest)) low) in
    let d = l.deep in
    absurd (omega arith)

item_read : (before : ℕ) (x : Item) (l : ℕ) (r back : List Placed) → AreLow 0 (words r) → Stands before x l r back → (item_at before r ≡ Ok (x, back)) × AreLow 0 (words back)
item_read before x l r back low s =
    item_read_on before x r back (item_at before r) refl low ((item_law before).local r)
    (subst (λ q. Reads (item_at before q) x back) (sym s.is) ((item_law before).reads x s.front back s.spelt (free back)))

abbrev behind_read : Read Item → List Placed
behind_read (Ok p) = p.1
behind_read (Err e) = []

same_back : (o : Read Item) (x : Item) (a b : List Placed) → o ≡ Ok (x, a) → o ≡ Ok (x, b) → a ≡ b
same_back o x a b e f = ap behind_read (sym e ∙ f)

one_list : (l k : ℕ) (ls ks : List ℕ) → l ≡ k → ls ≡ ks → l ∷ ls ≡ k ∷ ks
one_list l k ls ks e f = cc

one_places : (before : ℕ) (xs : List Item) (ls ks : List ℕ) (tokens : List Placed) (n m : ℕ) (a b : List Placed) → AreLow 0 (words tokens)
    → AreAt before xs ls tokens n a → AreAt before xs ks tokens m b → (ls ≡ ks) × (a ≡ b)
one_places before [] [] [] tokens n m a b low h g = (refl, sym h.1 ∙ g.1)
one_places before [] [] (k ∷ ks) tokens n m a b low h g = absurd g
one_places before [] (l ∷ ls) ks tokens n m a b low h g = absurd h
one_places before (x ∷ xs) [] ks tokens n m a b low h g = absurd h
one_places before (x ∷ xs) (l ∷ ls) [] tokens n m a b low h g = absurd g
one_places before (x ∷ xs) (l ∷ ls) (k ∷ ks) tokens n m a b low h g =
    let i = item_read before x l tokens h.0 low h.1 in
    let j = item_read before x k tokens g.0 low g.1 in
    let backs : g.0 ≡ h.0 = same_back (item_at before tokens) x g.0 h.0 j.0 i.0 in
    let later = one_places (rank x) xs ls ks h.0 n m a b i.1 h.2 (subst (λ t. AreAt (rank x) xs ks t m b) backs g.2) in
    (one_list l k ls ks (h.1.place ∙ sym g.1.place) later.0, later.1)

abbrev reading : Syntax → List ℕ → ℕ → Reading
reading s ls l = record { syntax = s; places = ls; last = l }

same_reading : (r q : Reading) → r.syntax ≡ q.syntax → r.places ≡ q.places → r.last ≡ q.last → r ≡ q
same_reading r q e f g = ap (λ s. reading s r.places r.last) e ∙ (ap (λ ls. reading q.syntax ls r.last) f ∙ ap (λ l. reading q.syntax q.places l) g)

one_reading : (r q : Reading) (tokens : List Placed) → AreLow 0 (words tokens) → r.syntax ≡ q.syntax → IsPlaced r tokens [] → IsPlaced q tokens [] → r ≡ q
one_reading r q tokens low e h g =
    let p = one_places 0 q.syntax.items r.places q.places tokens h.end g.end h.rest g.rest low (subst (λ s. AreAt 0 s.items r.places tokens h.end h.rest) e h.items) g.items in
    same_reading r q e p.0 (h.last ∙ (ap left_of p.1 ∙ sym g.last))

pub one_answer : (tokens : List Placed) (res : Result Reading Halt) (r : Reading) → Answers res tokens → IsTooDeepOr r.syntax res → IfOk res (λ x. IsPlaced x tokens [])
    → AreLow 0 (words tokens) → IsPlaced r tokens [] → (res ≡ Ok r) ⊎ (res ≡ Err halts.Memory)
one_answer tokens (Ok x) r h only placed low g = inl (ap (λ (y : Reading). Ok y) (one_reading x r tokens low only placed g))
one_answer tokens (Err halts.Memory) r h only placed low g = inr refl
one_answer tokens (Err (halts.Fault (Misfit at))) r h only placed low g = absurd only
one_answer tokens (Err (halts.Fault (Deep at))) r h only placed low g = absurd (no_low_and_deep IsModel tokens at low h)

tree_read : (tokens : List Placed) (m : Syntax) → IsModel m (words tokens) → AreLow 0 (words tokens) → whole_at model_at tokens ≡ Ok m
tree_read tokens m is low = by (only IsModel none model_at model_law tokens m is)
  where
    by : (whole_at model_at tokens ≡ Ok m) ⊎ ((left : ℕ) × (whole_at model_at tokens ≡ Err (Deep left))) → whole_at model_at tokens ≡ Ok m
    by (inl e) = e
    by (inr d) = absurd (no_low_and_deep IsModel tokens d.0 low (subst (Exact IsModel tokens) d.1 (exact IsModel none model_at model_law tokens)))

abbrev tree_of : Syntax → Result Syntax Fault → Syntax
tree_of m (Ok n) = n
tree_of m (Err e) = m

one_tree : (tokens : List Placed) (m n : Syntax) → AreLow 0 (words tokens) → IsModel m (words tokens) → IsModel n (words tokens) → m ≡ n
one_tree tokens m n low h g = ap (tree_of m) (sym (tree_read tokens m h low) ∙ tree_read tokens n g low)

pub one_place : (tokens : List Placed) (r q : Reading) → AreLow 0 (words tokens) → IsModel r.syntax (words tokens) → IsModel q.syntax (words tokens) → IsPlaced r tokens [] → IsPlaced q tokens [] → r ≡ q
one_place tokens r q low h g p s = one_reading r q tokens low (one_tree tokens r.syntax q.syntax low h g) p s

pub no_tree_and_stop : (tokens : List Placed) (m : Syntax) (left : ℕ) → IsModel m (words tokens) → IsMisfit IsModel tokens left → ⊥
no_tree_and_stop tokens m left h s = no_tree_and_misfit IsModel tokens m left h s
