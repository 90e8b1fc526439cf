-- How one byte leads from one depth to the next.
use Rattle.std.proofs.Common.{◌≡◌, ℕ, suc, ◌+◌, ◌≤◌, ◌<◌, List, [], ◌∷◌, ◌++◌, length, drop, get_or, drop-cons, refl, sym, ap, subst, arith}
use Rattle.xs_expr.specs.Depth.{levels, opened, open_behind, IsDeeper}

-- too deep already
pub deeper-here : (n : ℕ) (text : List ℕ) → levels < n → IsDeeper n text
deeper-here n text h = record { front = []; rest = text; whole = refl; deep = h }

pub deeper-cons : (n b : ℕ) (text : List ℕ) → IsDeeper (opened n b) text → IsDeeper n (b ∷ text)
deeper-cons n b text d = record { front = b ∷ d.front; rest = d.rest; whole = ap (λ (bs : List ℕ). b ∷ bs) d.whole; deep = d.deep }

behind-cons : (n b : ℕ) (text front rest : List ℕ) → n ≤ levels → front ++ rest ≡ b ∷ text → levels < open_behind n front → IsDeeper (opened n b) text
behind-cons n b text [] rest h is d = absurd (omega arith)
behind-cons n b text (a ∷ front) rest h is d =
    let same : a ≡ b = cc in
    record { front = front; rest = rest; whole = cc; deep = subst (λ (x : ℕ). levels < open_behind (opened n x) front) same d }

pub cons-deeper : (n b : ℕ) (text : List ℕ) → n ≤ levels → IsDeeper n (b ∷ text) → IsDeeper (opened n b) text
cons-deeper n b text h d = behind-cons n b text d.front d.rest h d.whole d.deep

rest-at : (i : ℕ) (text : List ℕ) → i < length text → drop i text ≡ get_or text i 0 ∷ drop (i + 1) text
rest-at i text h = let e : i + 1 ≡ suc i = omega arith in subst (λ (k : ℕ). drop i text ≡ get_or text i 0 ∷ drop k text) (sym e) (drop-cons text i 0 h)

-- what is too deep behind one byte is so before it
pub deeper-before : (n m i : ℕ) (text : List ℕ) → i < length text → m ≡ opened n (get_or text i 0) → IsDeeper m (drop (i + 1) text) → IsDeeper n (drop i text)
deeper-before n m i text h is d =
    subst (IsDeeper n) (sym (rest-at i text h)) (deeper-cons n (get_or text i 0) (drop (i + 1) text) (subst (λ (k : ℕ). IsDeeper k (drop (i + 1) text)) is d))

pub deeper-behind : (n m i : ℕ) (text : List ℕ) → n ≤ levels → i < length text → m ≡ opened n (get_or text i 0) → IsDeeper n (drop i text) → IsDeeper m (drop (i + 1) text)
deeper-behind n m i text le h is d =
    subst (λ (k : ℕ). IsDeeper k (drop (i + 1) text)) (sym is) (cons-deeper n (get_or text i 0) (drop (i + 1) text) le (subst (IsDeeper n) (rest-at i text h) d))
