-- Within narrower bounds no more nodes are at fault, and a node's bounds are narrower.
use Rattle.std.proofs.Common.{◌≡◌, ℕ, zero, suc, ℤ, pos, neg_ℤ, ◌≤ℤ◌, ◌+ℤ◌, ◌-ℤ◌, ◌*ℤ◌, refl, sym, ap, subst, Bool, true, false, ◌&&◌, if◌then◌else◌, List, [], ◌∷◌, arith, Result, Ok, Err}
use Rattle.std.specs.Prelude.{int_le, int_div}
use Rattle.std.specs.Int.{int_min, int_max}
use Rattle.std.specs.List.{list_all}
use Rattle.std.proofs.lemmas.Int.{ints, clamps}
use Rattle.std.proofs.lemmas.Grind.{common_steps}
use Rattle.xf_num.specs.Span.{Bounds, IsWithin, IsHull, IsImageHull, HoldsImages, HoldsResults, add_ends, sub_ends, mul_ends, min_ends, max_ends, neg_ends, abs_ends, pow_ends, div_ends, rem_ends, join_ends, int_abs, int_pow}
use Rattle.xf_num.proofs.Hulls.{add-IsHull, mul-IsHull}
use Rattle.xf_num.proofs.Images.{sub-IsHull, min-IsHull, max-IsHull, neg-IsImageHull, abs-IsImageHull, pow-IsImageHull, div-IsHull}
use Rattle.xf_text.specs.declared.fault.Kind.{Kind}
use Rattle.xf_text.specs.declared.fault.Kind.TheVariants.{Range, Logic, Division}
use Rattle.xs_model.specs.declared.expr.Op.{Op}
use Rattle.xs_model.specs.declared.expr.Op.TheVariants.{Neg, Abs, Sqr, Add, Mul, Sub, Dist, Div, Mod, Pow, Min, Max, Lt, Le, Gt, Ge, Ne, Eq, Set, In, NotIn, Not, And, Or, Xor, Iff, Imp, If}
use Rattle.xs_model.specs.Sound.{magnitudes}
use Rattle.xs_model.specs.Value.{exponent_of}
use Rattle.xs_model.specs.Bounds.{limited, is_small, is_within_limit, exactly, truths, is_truth, is_divisible, operand, folded, folded_from, logic, node_bounds}
use Rattle.xs_expr.proofs.Within.{AreSmall, guarded, limited-is, no_fault}

-- bounds within others
pub record IsInside (c b : Bounds) : Type 0 where
  pub from : b.lo ≤ℤ c.lo
  pub order : c.lo ≤ℤ c.hi
  pub to : c.hi ≤ℤ b.hi

widened : (c b : Bounds) (x : ℤ) → IsInside c b → IsWithin c x → IsWithin b x
widened c b x i w = record { from = omega (arith, ints, i.from, w.from); to = omega (arith, ints, i.to, w.to) }

low : (c : Bounds) → c.lo ≤ℤ c.hi → IsWithin c c.lo
low c o = record { from = omega (arith, ints); to = o }

-- the bounds of a node, inside others
pub record Inner (r : Result Bounds Kind) (b : Bounds) : Type 0 where
  pub bounds : Bounds
  pub is : r ≡ Ok bounds
  pub inside : IsInside bounds b

inner-ok : (c b d : Bounds) → IsInside c b → no_fault b ≡ Ok d → Inner (no_fault c) d
inner-ok c b d i h = let same : b ≡ d = cc in record { bounds = c; is = refl; inside = subst (IsInside c) same i }

is-le : (x y : ℤ) → x ≤ℤ y → int_le x y ≡ true
is-le x y h = grind (arith, ints, common_steps)

both : (s t : Bool) → s ≡ true → t ≡ true → (s && t) ≡ true
both s t g h = cc

first : (s t : Bool) → (s && t) ≡ true → s ≡ true
first true t h = refl
first false t h = h

rest : (s t : Bool) → (s && t) ≡ true → t ≡ true
rest true t h = h
rest false t h = cc

le-is : (x y : ℤ) → int_le x y ≡ true → x ≤ℤ y
le-is x y h = omega (arith, ints, h)

allowed : (t : Bool) (r : Result Bounds Kind) (k : Kind) → t ≡ true → if◌then◌else◌ {A = Result Bounds Kind} t r (Err k) ≡ r
allowed t r k h = ap (λ (q : Bool). if◌then◌else◌ {A = Result Bounds Kind} q r (Err k)) h

small-inside : (e f : Bounds) → IsInside f e → AreSmall e → is_within_limit f ≡ true
small-inside e f i s =
    let lo_from : neg_ℤ (pos magnitudes) ≤ℤ f.lo = omega (arith, ints, i.from, s.lo.from) in
    let lo_to : f.lo ≤ℤ pos magnitudes = omega (arith, ints, i.order, i.to, s.hi.to) in
    let hi_from : neg_ℤ (pos magnitudes) ≤ℤ f.hi = omega (arith, ints, i.order, i.from, s.lo.from) in
    let hi_to : f.hi ≤ℤ pos magnitudes = omega (arith, ints, i.to, s.hi.to) in
    both (is_small f.lo) (is_small f.hi) (both _ _ (is-le _ _ lo_from) (is-le _ _ lo_to)) (both _ _ (is-le _ _ hi_from) (is-le _ _ hi_to))

pub limited-inner : (e f b : Bounds) → IsInside f e → limited e ≡ Ok b → Inner (limited f) b
limited-inner e f b i h =
    let is = limited-is e b h in
    record { bounds = f; is = allowed (is_within_limit f) (Ok f) Range (small-inside e f i is.1); inside = subst (IsInside f) is.0 i }

-- hulls of narrower bounds are narrower
image-inside : (f : ℤ → ℤ) (b c eb ec : Bounds) → IsInside c b → HoldsImages f b eb → IsImageHull f c ec → IsInside ec eb
image-inside f b c eb ec i hb hc =
    let least = hc.least eb (λ x w. hb x (widened c b x i w)) in
    let some = hc.holds c.lo (low c i.order) in
    record { from = least.0; order = omega (arith, ints, some.from, some.to); to = least.1 }

hull-inside : (f : ℤ → ℤ → ℤ) (b b' c c' eb ec : Bounds) → IsInside c b → IsInside c' b' → HoldsResults f b b' eb → IsHull f c c' ec → IsInside ec eb
hull-inside f b b' c c' eb ec i j hb hc =
    let least = hc.least eb (λ x y w v. hb x y (widened c b x i w) (widened c' b' y j v)) in
    let some = hc.holds c.lo c'.lo (low c i.order) (low c' j.order) in
    record { from = least.0; order = omega (arith, ints, some.from, some.to); to = least.1 }

order : (c b : Bounds) → IsInside c b → b.lo ≤ℤ b.hi
order c b i = omega (arith, ints, i.from, i.order, i.to)

-- place by place
abbrev pub AreInside : List Bounds → List Bounds → Type 0
AreInside [] [] = Unit {0}
AreInside (c ∷ cs) (b ∷ bs) = IsInside c b × AreInside cs bs
AreInside [] (b ∷ bs) = ⊥
AreInside (c ∷ cs) [] = ⊥

zero-inside : IsInside (exactly (pos 0)) (exactly (pos 0))
zero-inside = record { from = omega (arith, ints); order = omega (arith, ints); to = omega (arith, ints) }

truths-inside : IsInside truths truths
truths-inside = record { from = omega (arith, ints); order = omega (arith, ints); to = omega (arith, ints) }

pub operand-inside : (cs bs : List Bounds) (k : ℕ) → AreInside cs bs → IsInside (operand cs k) (operand bs k)
operand-inside [] [] k h = zero-inside
operand-inside [] (b ∷ bs) k h = absurd h
operand-inside (c ∷ cs) [] k h = absurd h
operand-inside (c ∷ cs) (b ∷ bs) zero h = h.0
operand-inside (c ∷ cs) (b ∷ bs) (suc k) h = operand-inside cs bs k h.1

truth-inside : (c b : Bounds) → IsInside c b → is_truth b ≡ true → is_truth c ≡ true
truth-inside c b i h = grind (arith, ints, common_steps, i.from, i.to)

all-truths : (cs bs : List Bounds) → AreInside cs bs → list_all is_truth bs ≡ true → list_all is_truth cs ≡ true
all-truths [] [] i h = refl
all-truths [] (b ∷ bs) i h = absurd i
all-truths (c ∷ cs) [] i h = absurd i
all-truths (c ∷ cs) (b ∷ bs) i h = both (is_truth c) (list_all is_truth cs) (truth-inside c b i.0 (first (is_truth b) (list_all is_truth bs) h)) (all-truths cs bs i.1 (rest (is_truth b) (list_all is_truth bs) h))

-- operands taken together, from the left
folded-fault : (f : Bounds → Bounds → Bounds) (k : Kind) (bs : List Bounds) (b : Bounds) → folded_from f (Err k) bs ≡ Ok b → ⊥
folded-fault f k [] b h = cc
folded-fault f k (c ∷ bs) b h = folded-fault f k bs b h

module _ (f : Bounds → Bounds → Bounds) (narrow : (b b' c c' : Bounds) → IsInside c b → IsInside c' b' → IsInside (f c c') (f b b')) where
  one : (a a' b b' : Bounds) (cs bs : List Bounds) (e : Bounds) → IsInside a' a → IsInside b' b
      → ((d d' : Bounds) → IsInside d' d → folded_from f (Ok d) bs ≡ Ok e → Inner (folded_from f (Ok d') cs) e)
      → (r : Result Bounds Kind) → limited (f a b) ≡ r → folded_from f r bs ≡ Ok e → Inner (folded_from f (limited (f a' b')) cs) e
  one a a' b b' cs bs e i j rest (Err k) is g = absurd (folded-fault f k bs e g)
  one a a' b b' cs bs e i j rest (Ok d) is g =
      let step = limited-inner (f a b) (f a' b') d (narrow a b a' b' i j) is in
      subst (λ (r : Result Bounds Kind). Inner (folded_from f r cs) e) (sym step.is) (rest d step.bounds step.inside g)

  folded_from-inner : (cs bs : List Bounds) (a a' e : Bounds) → IsInside a' a → AreInside cs bs → folded_from f (Ok a) bs ≡ Ok e → Inner (folded_from f (Ok a') cs) e
  folded_from-inner [] [] a a' e i all h = inner-ok a' a e i h
  folded_from-inner [] (b ∷ bs) a a' e i all h = absurd all
  folded_from-inner (c ∷ cs) [] a a' e i all h = absurd all
  folded_from-inner (c ∷ cs) (b ∷ bs) a a' e i all h = one a a' b c cs bs e i all.0 (λ d d' j g. folded_from-inner cs bs d d' e j all.1 g) (limited (f a b)) refl h

  folded-inner : (cs bs : List Bounds) (e : Bounds) → AreInside cs bs → folded f bs ≡ Ok e → Inner (folded f cs) e
  folded-inner [] [] e all h = inner-ok (exactly (pos 0)) (exactly (pos 0)) e zero-inside h
  folded-inner [] (b ∷ bs) e all h = absurd all
  folded-inner (c ∷ cs) [] e all h = absurd all
  folded-inner (c ∷ cs) (b ∷ bs) e all h = folded_from-inner cs bs b c e all.0 all.1 h

add-narrow : (b b' c c' : Bounds) → IsInside c b → IsInside c' b' → IsInside (add_ends c c') (add_ends b b')
add-narrow b b' c c' i j = hull-inside ◌+ℤ◌ b b' c c' _ _ i j (add-IsHull b b' (order c b i) (order c' b' j)).holds (add-IsHull c c' i.order j.order)

mul-narrow : (b b' c c' : Bounds) → IsInside c b → IsInside c' b' → IsInside (mul_ends c c') (mul_ends b b')
mul-narrow b b' c c' i j = hull-inside ◌*ℤ◌ b b' c c' _ _ i j (mul-IsHull b b' (order c b i) (order c' b' j)).holds (mul-IsHull c c' i.order j.order)

sub-narrow : (b b' c c' : Bounds) → IsInside c b → IsInside c' b' → IsInside (sub_ends c c') (sub_ends b b')
sub-narrow b b' c c' i j = hull-inside ◌-ℤ◌ b b' c c' _ _ i j (sub-IsHull b b' (order c b i) (order c' b' j)).holds (sub-IsHull c c' i.order j.order)

min-narrow : (b b' c c' : Bounds) → IsInside c b → IsInside c' b' → IsInside (min_ends c c') (min_ends b b')
min-narrow b b' c c' i j = hull-inside int_min b b' c c' _ _ i j (min-IsHull b b' (order c b i) (order c' b' j)).holds (min-IsHull c c' i.order j.order)

max-narrow : (b b' c c' : Bounds) → IsInside c b → IsInside c' b' → IsInside (max_ends c c') (max_ends b b')
max-narrow b b' c c' i j = hull-inside int_max b b' c c' _ _ i j (max-IsHull b b' (order c b i) (order c' b' j)).holds (max-IsHull c c' i.order j.order)

neg-narrow : (b c : Bounds) → IsInside c b → IsInside (neg_ends c) (neg_ends b)
neg-narrow b c i = image-inside neg_ℤ b c _ _ i (neg-IsImageHull b (order c b i)).holds (neg-IsImageHull c i.order)

abs-narrow : (b c : Bounds) → IsInside c b → IsInside (abs_ends c) (abs_ends b)
abs-narrow b c i = image-inside int_abs b c _ _ i (abs-IsImageHull b (order c b i)).holds (abs-IsImageHull c i.order)

pow-narrow : (k : ℕ) (b c : Bounds) → IsInside c b → IsInside (pow_ends c k) (pow_ends b k)
pow-narrow k b c i = image-inside (λ x. int_pow x k) b c _ _ i (pow-IsImageHull b k (order c b i)).holds (pow-IsImageHull c k i.order)

-- divisions
divides : (s t : Bounds) → is_divisible s t ≡ true → (pos 0 ≤ℤ s.lo) × (pos 1 ≤ℤ t.lo)
divides s t h = (omega (arith, ints, le-is (pos 0) s.lo (first _ (int_le (pos 1) t.lo) h)), omega (arith, ints, le-is (pos 1) t.lo (rest (int_le (pos 0) s.lo) _ h)))

divides-inside : (b b' c c' : Bounds) → IsInside c b → IsInside c' b' → is_divisible b b' ≡ true → is_divisible c c' ≡ true
divides-inside b b' c c' i j h =
    let d = divides b b' h in
    both _ _ (is-le (pos 0) c.lo (omega (arith, ints, d.0, i.from))) (is-le (pos 1) c'.lo (omega (arith, ints, d.1, j.from)))

div-narrow : (b b' c c' : Bounds) → IsInside c b → IsInside c' b' → is_divisible b b' ≡ true → IsInside (div_ends c c') (div_ends b b')
div-narrow b b' c c' i j h =
    let d = divides b b' h in
    let lo : pos 0 ≤ℤ c.lo = omega (arith, ints, d.0, i.from) in
    let divisor : pos 1 ≤ℤ c'.lo = omega (arith, ints, d.1, j.from) in
    hull-inside int_div b b' c c' _ _ i j (div-IsHull b b' (order c b i) (order c' b' j) d.0 d.1).holds (div-IsHull c c' i.order j.order lo divisor)

rem-narrow : (b b' c c' : Bounds) → IsInside c b → IsInside c' b' → is_divisible b b' ≡ true → IsInside (rem_ends c c') (rem_ends b b')
rem-narrow b b' c c' i j h =
    let d = divides b b' h in
    record {
      from = omega (arith, ints);
      order = omega (arith, ints, clamps, d.0, d.1, i.from, i.order, j.from, j.order);
      to = omega (arith, ints, clamps, i.to, j.to);
    }

join-narrow : (b b' c c' : Bounds) → IsInside c b → IsInside c' b' → IsInside (join_ends c c') (join_ends b b')
join-narrow b b' c c' i j = record {
  from = omega (arith, ints, clamps, i.from, j.from);
  order = omega (arith, ints, clamps, i.order, j.order);
  to = omega (arith, ints, clamps, i.to, j.to);
}

-- an exponent stands alone
pub record SameExponent (cs bs : List Bounds) : Type 0 where
  pub same : (operand cs 1).lo ≡ (operand bs 1).lo

module _ (cs bs : List Bounds) (i : AreInside cs bs) (b : Bounds) where
  i0 : IsInside (operand cs 0) (operand bs 0)
  i0 = operand-inside cs bs 0 i

  i1 : IsInside (operand cs 1) (operand bs 1)
  i1 = operand-inside cs bs 1 i

  i2 : IsInside (operand cs 2) (operand bs 2)
  i2 = operand-inside cs bs 2 i

  truths-inner : no_fault truths ≡ Ok b → Inner (no_fault truths) b
  truths-inner h = inner-ok truths truths b truths-inside h

  logic-inner : logic bs ≡ Ok b → Inner (logic cs) b
  logic-inner h =
      let g = guarded (list_all is_truth bs) (Ok truths) b Logic h in
      let own = truths-inner g.0 in
      subst (λ (r : Result Bounds Kind). Inner r b) (sym (allowed (list_all is_truth cs) (Ok truths) Logic (all-truths cs bs i g.1))) own

  pub node-inner : (op : Op) → node_bounds op bs ≡ Ok b → (op ≡ Pow → SameExponent cs bs) → Inner (node_bounds op cs) b
  node-inner Neg h p = limited-inner _ _ b (neg-narrow _ _ i0) h
  node-inner Abs h p = limited-inner _ _ b (abs-narrow _ _ i0) h
  node-inner Sqr h p = limited-inner _ _ b (pow-narrow 2 _ _ i0) h
  node-inner Add h p = folded-inner add_ends add-narrow cs bs b i h
  node-inner Mul h p = folded-inner mul_ends mul-narrow cs bs b i h
  node-inner Sub h p = limited-inner _ _ b (sub-narrow _ _ _ _ i0 i1) h
  node-inner Dist h p = limited-inner _ _ b (abs-narrow _ _ (sub-narrow _ _ _ _ i0 i1)) h
  node-inner Div h p =
      let g = guarded (is_divisible (operand bs 0) (operand bs 1)) (limited (div_ends (operand bs 0) (operand bs 1))) b Division h in
      let own = limited-inner _ (div_ends (operand cs 0) (operand cs 1)) b (div-narrow _ _ _ _ i0 i1 g.1) g.0 in
      subst (λ (r : Result Bounds Kind). Inner r b) (sym (allowed (is_divisible (operand cs 0) (operand cs 1)) (limited (div_ends (operand cs 0) (operand cs 1))) Division (divides-inside _ _ _ _ i0 i1 g.1))) own
  node-inner Mod h p =
      let g = guarded (is_divisible (operand bs 0) (operand bs 1)) (limited (rem_ends (operand bs 0) (operand bs 1))) b Division h in
      let own = limited-inner _ (rem_ends (operand cs 0) (operand cs 1)) b (rem-narrow _ _ _ _ i0 i1 g.1) g.0 in
      subst (λ (r : Result Bounds Kind). Inner r b) (sym (allowed (is_divisible (operand cs 0) (operand cs 1)) (limited (rem_ends (operand cs 0) (operand cs 1))) Division (divides-inside _ _ _ _ i0 i1 g.1))) own
  node-inner Pow h p =
      let q = p refl in
      let own = limited-inner _ (pow_ends (operand cs 0) (exponent_of (operand bs 1).lo)) b (pow-narrow (exponent_of (operand bs 1).lo) _ _ i0) h in
      subst (λ (z : ℤ). Inner (limited (pow_ends (operand cs 0) (exponent_of z))) b) (sym q.same) own
  node-inner Min h p = folded-inner min_ends min-narrow cs bs b i h
  node-inner Max h p = folded-inner max_ends max-narrow cs bs b i h
  node-inner Lt h p = truths-inner h
  node-inner Le h p = truths-inner h
  node-inner Gt h p = truths-inner h
  node-inner Ge h p = truths-inner h
  node-inner Ne h p = truths-inner h
  node-inner Eq h p = truths-inner h
  node-inner In h p = truths-inner h
  node-inner NotIn h p = truths-inner h
  node-inner Set h p = inner-ok (exactly (pos 0)) (exactly (pos 0)) b zero-inside h
  node-inner Not h p = logic-inner h
  node-inner And h p = logic-inner h
  node-inner Or h p = logic-inner h
  node-inner Xor h p = logic-inner h
  node-inner Iff h p = logic-inner h
  node-inner Imp h p = logic-inner h
  node-inner If h p =
      let g = guarded (is_truth (operand bs 0)) (limited (join_ends (operand bs 1) (operand bs 2))) b Logic h in
      let own = limited-inner _ (join_ends (operand cs 1) (operand cs 2)) b (join-narrow _ _ _ _ i1 i2) g.0 in
      subst (λ (r : Result Bounds Kind). Inner r b) (sym (allowed (is_truth (operand cs 0)) (limited (join_ends (operand cs 1) (operand cs 2))) Logic (truth-inside _ _ i0 g.1))) own
