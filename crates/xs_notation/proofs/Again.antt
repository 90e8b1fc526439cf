-- The tokens of an expression are read as that expression.
use Rattle.std.proofs.Common.{◌≡◌, ℕ, List, [], ◌∷◌, ◌++◌, append_assoc, codes, map, refl, sym, ap, subst, ◌∙◌, Bool, true, false, not, ◌&&◌, if◌then◌else◌, Option, Some, None}
use Rattle.std.specs.List.{list_all}
use Rattle.std.specs.Str.{bytes_eq}
use Rattle.xs_model.specs.declared.expr.Op.{Op}
use Rattle.xs_model.specs.declared.expr.Op.TheVariants.{Neg, Abs, Sqr, Add, Mul, Sub, Dist, Div, Mod, Pow, Min, Max, Lt, Le, Gt, Ge, Ne, Eq, Set, In, NotIn, Not, And, Or, Xor, Iff, Imp, If}
use Rattle.xs_expr.specs.Text.{name_of}
use Rattle.xs_expr.proofs.Named.{by_name-name_of}
use Rattle.xs_notation.specs.declared.growing.Frame.{Frame}
use Rattle.xs_notation.specs.declared.growing.Growing.{Growing}
use Rattle.xs_notation.specs.declared.raw.Raw.{Raw, Word, Call, out-Raw, roll-Raw, out-roll-Raw, map-Raw, ind-Raw}
use Rattle.xs_notation.specs.declared.raw.Raw.TheVariants.{rolls-Word, rolls-Call}
use Rattle.xs_notation.specs.declared.raw.Raw.TheOpen.{Raw-F}
use Rattle.xs_notation.specs.Notation.{flat, behind, listed, is_plain, are_plain}
use Rattle.xs_notation.specs.Parse.{state, frame, opened, opened_on, opened_behind, parted, closed, step, step_on, run, finished_on, parse}
use Rattle.xs_notation.proofs.Flats.{flat-Word, flat-Call, plain-Word, plain-Call}
use Rattle.xs_notation.proofs.Runs.{run-both}

both-left : (a b : Bool) → (a && b) ≡ true → a ≡ true
both-left true b h = refl
both-left false b h = cc

both-right : (a b : Bool) → (a && b) ≡ true → b ≡ true
both-right true b h = h
both-right false b h = cc

not-is : (a : Bool) → not a ≡ true → a ≡ false
not-is true h = cc
not-is false h = refl

-- a word that is no mark is an operand
step-word : (w : List ℕ) (fs : List Frame) → is_plain w ≡ true → step w (state fs None) ≡ Some (state fs (Some (Word w)))
step-word [] fs h = cc
step-word (b ∷ bs) fs h =
    let w : List ℕ = b ∷ bs in
    let o : bytes_eq w (codes "(") ≡ false = not-is (bytes_eq w (codes "(")) (both-left (not (bytes_eq w (codes "("))) (not (bytes_eq w (codes ")")) && not (bytes_eq w (codes ","))) h) in
    let rest : (not (bytes_eq w (codes ")")) && not (bytes_eq w (codes ","))) ≡ true = both-right (not (bytes_eq w (codes "("))) (not (bytes_eq w (codes ")")) && not (bytes_eq w (codes ","))) h in
    let p : bytes_eq w (codes ")") ≡ false = not-is (bytes_eq w (codes ")")) (both-left (not (bytes_eq w (codes ")"))) (not (bytes_eq w (codes ","))) rest) in
    let q : bytes_eq w (codes ",") ≡ false = not-is (bytes_eq w (codes ",")) (both-right (not (bytes_eq w (codes ")"))) (not (bytes_eq w (codes ","))) rest) in
    let end : Option Growing = Some (state fs (Some (Word w))) in
    ap (λ (v : Bool). if v then opened fs None else (if bytes_eq w (codes ")") then closed fs None else (if bytes_eq w (codes ",") then parted fs None else end))) o
    ∙ ap (λ (v : Bool). if v then closed fs None else (if bytes_eq w (codes ",") then parted fs None else end)) p
    ∙ ap (λ (v : Bool). if v then parted fs None else end) q

-- the name of an operator is a word
pub plain-name : (op : Op) → is_plain (name_of op) ≡ true
unfolding name_of
plain-name Neg = refl
plain-name Abs = refl
plain-name Sqr = refl
plain-name Add = refl
plain-name Mul = refl
plain-name Sub = refl
plain-name Dist = refl
plain-name Div = refl
plain-name Mod = refl
plain-name Pow = refl
plain-name Min = refl
plain-name Max = refl
plain-name Lt = refl
plain-name Le = refl
plain-name Gt = refl
plain-name Ge = refl
plain-name Ne = refl
plain-name Eq = refl
plain-name Set = refl
plain-name In = refl
plain-name NotIn = refl
plain-name Not = refl
plain-name And = refl
plain-name Or = refl
plain-name Xor = refl
plain-name Iff = refl
plain-name Imp = refl
plain-name If = refl

-- a name and `(` open a call
open-call : (op : Op) (fs : List Frame) → run (Some (state fs None)) (name_of op ∷ codes "(" ∷ []) ≡ Some (state (frame op [] ∷ fs) None)
open-call op fs =
    ap (λ o. step_on (codes "(") o) (step-word (name_of op) fs (plain-name op))
    ∙ ap (opened_behind fs) (ap out-Raw (sym (rolls-Word (name_of op))) ∙ out-roll-Raw (Raw-F.Word (name_of op)))
    ∙ ap (opened_on fs) (by_name-name_of op)

-- an expression is read as the operand that is awaited
abbrev Claim : Raw → Type 0
Claim r = are_plain r ≡ true → (fs : List Frame) → run (Some (state fs None)) (flat r) ≡ Some (state fs (Some r))

abbrev kept : List ((r : Raw) × Claim r) → List Raw
kept ps = map (λ p. p.0) ps

-- the operands behind the first, which is read
behind-read : (op : Op) (fs : List Frame) (rs : List Raw) (r : Raw) (ps : List ((r : Raw) × Claim r)) → list_all (λ p. p) (map are_plain (kept ps)) ≡ true
    → run (Some (state (frame op rs ∷ fs) (Some r))) (behind (map flat (kept ps)) ++ codes ")" ∷ []) ≡ Some (state fs (Some (Call op (rs ++ r ∷ kept ps))))
behind-read op fs rs r [] h = refl
behind-read op fs rs r (p ∷ ps) h =
    let more : List Raw = rs ++ r ∷ [] in
    let start : Option Growing = Some (state (frame op more ∷ fs) None) in
    let end : List (List ℕ) = codes ")" ∷ [] in
    ap (run start) (append_assoc (flat p.0) (behind (map flat (kept ps))) end)
    ∙ run-both start (flat p.0) (behind (map flat (kept ps)) ++ end)
    ∙ ap (λ o. run o (behind (map flat (kept ps)) ++ end)) (p.1 (both-left (are_plain p.0) (list_all (λ p. p) (map are_plain (kept ps))) h) (frame op more ∷ fs))
    ∙ behind-read op fs more p.0 ps (both-right (are_plain p.0) (list_all (λ p. p) (map are_plain (kept ps))) h)
    ∙ ap (λ xs. Some (state fs (Some (Call op xs)))) (append_assoc rs (r ∷ []) (p.0 ∷ kept ps))

listed-read : (op : Op) (fs : List Frame) (ps : List ((r : Raw) × Claim r)) → list_all (λ p. p) (map are_plain (kept ps)) ≡ true
    → run (Some (state (frame op [] ∷ fs) None)) (listed (map flat (kept ps)) ++ codes ")" ∷ []) ≡ Some (state fs (Some (Call op (kept ps))))
listed-read op fs [] h = refl
listed-read op fs (p ∷ ps) h =
    let start : Option Growing = Some (state (frame op [] ∷ fs) None) in
    let end : List (List ℕ) = codes ")" ∷ [] in
    ap (run start) (append_assoc (flat p.0) (behind (map flat (kept ps))) end)
    ∙ run-both start (flat p.0) (behind (map flat (kept ps)) ++ end)
    ∙ ap (λ o. run o (behind (map flat (kept ps)) ++ end)) (p.1 (both-left (are_plain p.0) (list_all (λ p. p) (map are_plain (kept ps))) h) (frame op [] ∷ fs))
    ∙ behind-read op fs [] p.0 ps (both-right (are_plain p.0) (list_all (λ p. p) (map are_plain (kept ps))) h)

at-word : (w : List ℕ) → Claim (Word w)
at-word w h fs = ap (run (Some (state fs None))) (flat-Word w) ∙ step-word w fs (sym (plain-Word w) ∙ h)

at-call : (op : Op) (ps : List ((r : Raw) × Claim r)) → Claim (Call op (kept ps))
at-call op ps h fs =
    let rest : List (List ℕ) = listed (map flat (kept ps)) ++ codes ")" ∷ [] in
    ap (run (Some (state fs None))) (flat-Call op (kept ps))
    ∙ run-both (Some (state fs None)) (name_of op ∷ codes "(" ∷ []) rest
    ∙ ap (λ o. run o rest) (open-call op fs)
    ∙ listed-read op fs ps (sym (plain-Call op (kept ps)) ∙ h)

at-layer : (y : Raw-F ((r : Raw) × Claim r)) → Claim (roll-Raw (map-Raw ((r : Raw) × Claim r) Raw (λ p. p.0) y))
at-layer (Raw-F.Word w) = subst Claim (sym (rolls-Word w)) (at-word w)
at-layer (Raw-F.Call op ps) = subst Claim (sym (rolls-Call op (kept ps))) (at-call op ps)

pub read-again : (r : Raw) → Claim r
read-again = ind-Raw Claim (λ x y is. subst (λ z. Claim (roll-Raw z)) is (at-layer y))

pub parse-again : (r : Raw) → are_plain r ≡ true → parse (flat r) ≡ Some r
parse-again r h = ap finished_on (read-again r h [])
