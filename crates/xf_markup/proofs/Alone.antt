-- One text has one outcome.
use Rattle.std.proofs.Common.{◌≡◌, ℕ, ◌-◌, ◌≤◌, ◌<◌, Bool, true, false, List, [], ◌∷◌, ◌++◌, length, not, ◌||◌, Option, Some, None, refl, ap, sym, ◌∙◌, subst, arith, drop, if◌then◌else◌}
use Rattle.std.specs.List.{list_all}
use Rattle.std.specs.Str.{bytes_eq}
use Rattle.xf_markup.specs.declared.cut.Cut.{Cut}
use Rattle.xf_markup.specs.declared.tree.Node.{Node}
use Rattle.xf_markup.specs.Tokens.{Token, Opens, Closes, Remark, Says, cut_at, token, size}
use Rattle.xf_markup.specs.Tag.{are_distinct}
use Rattle.xf_markup.specs.Head.{head_at}
use Rattle.xf_markup.specs.Reading.{State, Next, next, next_cut, fitting, fits, fits_at, Reads, IsWhole, IsUnread, IsTooDeep, Tree, start, levels, opened, is_space}
use Rattle.xf_markup.specs.Depth.{depth}
use Rattle.xf_markup.proofs.DepthLemmas.{depth_is}
use Rattle.xf_markup.proofs.ReadLemmas.{cut_nil}

some_is : (a b : Next) → Some a ≡ Some b → a ≡ b
some_is a b e = cc

-- one place has one next token
agree : (total : ℕ) (s : State) (bytes : List ℕ) (t u : Token) (a b : State) (x y : List ℕ)
    → next total s bytes ≡ Some (record { token = t; state = a; rest = x }) → next total s bytes ≡ Some (record { token = u; state = b; rest = y }) → (t ≡ u) × (a ≡ b) × (x ≡ y)
agree total s bytes t u a b x y h k =
    let same = some_is (record { token = t; state = a; rest = x }) (record { token = u; state = b; rest = y }) (sym h ∙ k) in
    (ap (λ n. n.token) same, ap (λ n. n.state) same, ap (λ n. n.rest) same)

-- two readings that both end where nothing goes on are one
pub same_end : (total : ℕ) (s : State) (bytes : List ℕ) (ts us : List Token) (e e' : State) (r r' : List ℕ)
    → Reads total s bytes ts e r → next total e r ≡ None → Reads total s bytes us e' r' → next total e' r' ≡ None → (ts ≡ us) × (e ≡ e') × (r ≡ r')
same_end total s bytes [] [] e e' r r' h stop h' stop' = (refl, sym h.0 ∙ h'.0, sym h.1 ∙ h'.1)
same_end total s bytes [] (u ∷ us) e e' r r' h stop h' stop' =
    let no : next total s bytes ≡ None = rw (h.0, h.1) stop in
    let yes = h'.2 in
    cc
same_end total s bytes (t ∷ ts) [] e e' r r' h stop h' stop' =
    let no : next total s bytes ≡ None = rw (h'.0, h'.1) stop' in
    let yes = h.2 in
    cc
same_end total s bytes (t ∷ ts) (u ∷ us) e e' r r' h stop h' stop' =
    let same = agree total s bytes t u h.0 h'.0 h.1 h'.1 h.2 h'.2 in
    let more : Reads total h.0 h.1 us e' r' = rw (same.1, same.2) h'.3 in
    let on = same_end total h.0 h.1 ts us e e' r r' h.3 stop more stop' in
    (ap (λ z. z ∷ ts) same.0 ∙ ap (λ z. u ∷ z) on.0, on.1, on.2)

none_or : (b : Bool) (x after : State) → (if b then None else Some x) ≡ Some after → x ≡ after
none_or true x after h = cc
none_or false x after h = cc

some_or : (b : Bool) (x after : State) → (if b then Some x else None) ≡ Some after → x ≡ after
some_or true x after h = cc
some_or false x after h = cc

-- no token makes the deepest level less
fits_deeper : (names : List (List ℕ)) (s : State) (t : Token) (after : State) → fits_at names s t ≡ Some after → s.deepest ≤ after.deepest
fits_deeper [] s (Opens p n ats x) after h = let e = none_or (s.begun || not (are_distinct ats)) (opened n x s) after h in omega (arith, ap (λ z. z.deepest) e)
fits_deeper [] s (Closes n) after h = cc
fits_deeper [] s Remark after h = let e = none_or false s after h in omega (arith, ap (λ z. z.deepest) e)
fits_deeper [] s (Says w) after h = let e = some_or (list_all is_space w) s after h in omega (arith, ap (λ z. z.deepest) e)
fits_deeper (i ∷ o) s (Opens p n ats x) after h = let e = none_or (not (are_distinct ats)) (opened n x s) after h in omega (arith, ap (λ z. z.deepest) e)
fits_deeper (i ∷ o) s (Closes n) after h = let e = some_or (bytes_eq n i) (record { open_names = o; begun = s.begun; deepest = s.deepest }) after h in omega (arith, ap (λ z. z.deepest) e)
fits_deeper (i ∷ o) s Remark after h = let e = none_or false s after h in omega (arith, ap (λ z. z.deepest) e)
fits_deeper (i ∷ o) s (Says w) after h = let e = none_or false s after h in omega (arith, ap (λ z. z.deepest) e)

fitting_is : (t : Token) (rest : List ℕ) (r : Option State) (n : Next) → fitting t rest r ≡ Some n → r ≡ Some n.state
fitting_is t rest None n h = cc
fitting_is t rest (Some s) n h = ap (λ z. Some z.state) (some_is (record { token = t; state = s; rest = rest }) n h)

next_cut_deeper : (s : State) (place : ℕ) (bytes : List ℕ) (r : Option Cut) (n : Next) → next_cut s place bytes r ≡ Some n → s.deepest ≤ n.state.deepest
next_cut_deeper s place bytes None n h = cc
next_cut_deeper s place bytes (Some c) n h = fits_deeper s.open_names s (token place bytes c) n.state (fitting_is (token place bytes c) (drop (size c) bytes) (fits s (token place bytes c)) n h)

next_deeper : (total : ℕ) (s : State) (bytes : List ℕ) (n : Next) → next total s bytes ≡ Some n → s.deepest ≤ n.state.deepest
next_deeper total s bytes n h = next_cut_deeper s (total - length bytes) bytes (cut_at bytes) n h

reads_deeper : (total : ℕ) (s : State) (bytes : List ℕ) (ts : List Token) (e : State) (r : List ℕ) → Reads total s bytes ts e r → s.deepest ≤ e.deepest
reads_deeper total s bytes [] e r h = omega (arith, ap (λ z. z.deepest) h.0)
reads_deeper total s bytes (t ∷ ts) e r h = omega (arith, next_deeper total s bytes (record { token = t; state = h.0; rest = h.1 }) h.2, reads_deeper total h.0 h.1 ts e r h.3)

-- a reading that goes past the levels does not end within them
pub not_deep : (total : ℕ) (s : State) (bytes : List ℕ) (ts us : List Token) (e e' : State) (r r' : List ℕ) (n : Next)
    → Reads total s bytes ts e r → next total e r ≡ Some n → levels < n.state.deepest → Reads total s bytes us e' r' → next total e' r' ≡ None → e'.deepest ≤ levels → ⊥
not_deep total s bytes [] [] e e' r r' n h is deep h' stop' shallow =
    let yes : next total s bytes ≡ Some n = rw (h.0, h.1) is in
    let no : next total s bytes ≡ None = rw (h'.0, h'.1) stop' in
    cc
not_deep total s bytes [] (u ∷ us) e e' r r' n h is deep h' stop' shallow =
    let yes : next total s bytes ≡ Some n = rw (h.0, h.1) is in
    let same : n.state ≡ h'.0 = (agree total s bytes n.token u n.state h'.0 n.rest h'.1 yes h'.2).1 in
    absurd (omega (arith, deep, shallow, ap (λ z. z.deepest) same, reads_deeper total h'.0 h'.1 us e' r' h'.3))
not_deep total s bytes (t ∷ ts) [] e e' r r' n h is deep h' stop' shallow =
    let no : next total s bytes ≡ None = rw (h'.0, h'.1) stop' in
    let yes = h.2 in
    cc
not_deep total s bytes (t ∷ ts) (u ∷ us) e e' r r' n h is deep h' stop' shallow =
    let same = agree total s bytes t u h.0 h'.0 h.1 h'.1 h.2 h'.2 in
    let more : Reads total h.0 h.1 us e' r' = rw (same.1, same.2) h'.3 in
    not_deep total h.0 h.1 ts us e e' r r' n h.3 is deep more stop' shallow

pub whole_stops : (total : ℕ) (e : State) (r : List ℕ) → IsWhole e r → next total e r ≡ None
whole_stops total e r whole = ap (next total e) whole.0 ∙ ap (next_cut e (total - 0) []) cut_nil

pub tree_is_read : (n : Node) (text : List ℕ) (p : ℕ) → Tree n text → IsUnread p text → ⊥
tree_is_read n text p tree un =
    let same = same_end (length text) start (drop (head_at text) text) tree.tokens un.tokens tree.end un.end tree.rest un.rest tree.reads (whole_stops (length text) tree.end tree.rest tree.whole) un.read.reads un.stuck in
    un.unclosed (subst (λ q. IsWhole q un.rest) same.1 (subst (λ q. IsWhole tree.end q) same.2 tree.whole))

pub one_place : (text : List ℕ) (p q : ℕ) → IsUnread p text → IsUnread q text → p ≡ q
one_place text p q a b =
    let same = same_end (length text) start (drop (head_at text) text) a.tokens b.tokens a.end b.end a.rest b.rest a.read.reads a.stuck b.read.reads b.stuck in
    omega (arith, a.at, b.at, ap length same.2)

pub not_tree_and_deep : (n : Node) (text : List ℕ) (p : ℕ) (tree : Tree n text) → depth n ≤ levels → IsTooDeep p text → ⊥
not_tree_and_deep n text p tree low deep = not_deep (length text) start (drop (head_at text) text) deep.tokens tree.tokens deep.end tree.end deep.rest tree.rest deep.beyond deep.read.reads deep.is_next deep.deep tree.reads (whole_stops (length text) tree.end tree.rest tree.whole) (omega (arith, depth_is n text tree, low))

pub not_unread_and_deep : (text : List ℕ) (p q : ℕ) → IsUnread q text → IsTooDeep p text → ⊥
not_unread_and_deep text p q un deep = not_deep (length text) start (drop (head_at text) text) deep.tokens un.tokens deep.end un.end deep.rest un.rest deep.beyond deep.read.reads deep.is_next deep.deep un.read.reads un.stuck un.read.shallow

-- two places that open one level too many are one
deep_place : (total : ℕ) (s : State) (bytes : List ℕ) (ts us : List Token) (e e' : State) (r r' : List ℕ) (n n' : Next)
    → Reads total s bytes ts e r → next total e r ≡ Some n → levels < n.state.deepest → e.deepest ≤ levels
    → Reads total s bytes us e' r' → next total e' r' ≡ Some n' → levels < n'.state.deepest → e'.deepest ≤ levels → r ≡ r'
deep_place total s bytes [] [] e e' r r' n n' h is deep low h' is' deep' low' = sym h.1 ∙ h'.1
deep_place total s bytes [] (u ∷ us) e e' r r' n n' h is deep low h' is' deep' low' =
    let yes : next total s bytes ≡ Some n = rw (h.0, h.1) is in
    let same : n.state ≡ h'.0 = (agree total s bytes n.token u n.state h'.0 n.rest h'.1 yes h'.2).1 in
    absurd (omega (arith, deep, low', ap (λ z. z.deepest) same, reads_deeper total h'.0 h'.1 us e' r' h'.3))
deep_place total s bytes (t ∷ ts) [] e e' r r' n n' h is deep low h' is' deep' low' =
    let yes : next total s bytes ≡ Some n' = rw (h'.0, h'.1) is' in
    let same : n'.state ≡ h.0 = (agree total s bytes n'.token t n'.state h.0 n'.rest h.1 yes h.2).1 in
    absurd (omega (arith, deep', low, ap (λ z. z.deepest) same, reads_deeper total h.0 h.1 ts e r h.3))
deep_place total s bytes (t ∷ ts) (u ∷ us) e e' r r' n n' h is deep low h' is' deep' low' =
    let same = agree total s bytes t u h.0 h'.0 h.1 h'.1 h.2 h'.2 in
    let more : Reads total h.0 h.1 us e' r' = rw (same.1, same.2) h'.3 in
    deep_place total h.0 h.1 ts us e e' r r' n n' h.3 is deep low more is' deep' low'

pub one_deep_place : (text : List ℕ) (p q : ℕ) → IsTooDeep p text → IsTooDeep q text → p ≡ q
one_deep_place text p q a b =
    let same = deep_place (length text) start (drop (head_at text) text) a.tokens b.tokens a.end b.end a.rest b.rest a.beyond b.beyond a.read.reads a.is_next a.deep a.read.shallow b.read.reads b.is_next b.deep b.read.shallow in
    omega (arith, a.at, b.at, ap length same)

-- each reading is the front of one that nothing goes on from
pub longest : (total : ℕ) (s : State) (bytes : List ℕ) (ts us : List Token) (e e' : State) (r r' : List ℕ)
    → Reads total s bytes ts e r → next total e r ≡ None → Reads total s bytes us e' r' → (more : List Token) × (ts ≡ us ++ more) × Reads total e' r' more e r
longest total s bytes ts [] e e' r r' h stop h' = (ts, refl, rw (sym h'.0, sym h'.1) h)
longest total s bytes [] (u ∷ us) e e' r r' h stop h' =
    let no : next total s bytes ≡ None = rw (h.0, h.1) stop in
    let yes = h'.2 in
    cc
longest total s bytes (t ∷ ts) (u ∷ us) e e' r r' h stop h' =
    let same = agree total s bytes t u h.0 h'.0 h.1 h'.1 h.2 h'.2 in
    let more : Reads total h.0 h.1 us e' r' = rw (same.1, same.2) h'.3 in
    let on = longest total h.0 h.1 ts us e e' r r' h.3 stop more in
    (on.0, ap (λ z. z ∷ ts) same.0 ∙ ap (λ z. u ∷ z) on.1, on.2)
