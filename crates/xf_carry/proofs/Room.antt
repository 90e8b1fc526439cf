-- How many variables an accepted instance makes, and how many items each of its constraints has.
use Rattle.std.proofs.Common.{◌≡◌, ℕ, ◌+◌, ◌*◌, ◌^◌, ◌<◌, ◌≤◌, List, [], ◌∷◌, ◌++◌, length, map, get_or, drop, ap, sym, subst, ◌∙◌, arith, refl}
use Rattle.std.specs.Prelude.{sum}
use Rattle.std.specs.List.{AllByRecursion}
use Rattle.std.proofs.Math.Nat.{mul-le-mul}
use Rattle.std.proofs.lemmas.List.{at_drop_more}
use Rattle.std.proofs.lemmas.List.Elements.{All-from_recursion}
use Rattle.std.proofs.lemmas.List.Sums.{sum-map, sum_by-cons}
use Rattle.xf_num.specs.Span.{Bounds}
use Rattle.xs_model.specs.declared.instance.Constraint.{Constraint}
use Rattle.xs_model.specs.declared.instance.Instance.{Instance}
use Rattle.xs_model.specs.Names.{words}
use Rattle.xs_model.specs.Accepted.{IsAccepted, IsSoundConstraint, items_of}
use Rattle.xs_model.specs.Sound.{most_items}
use Rattle.xs_model.specs.Spans.{spans_of}
use Rattle.lo_base.specs.Item.{Item, made}
use Rattle.lo_base.proofs.Solving.{made-append}
use Rattle.lo_terms.proofs.Accepted.{few_of_each}
use Rattle.lo_formed.specs.Laws.{AreOrdered}
use Rattle.lo_instance.specs.Form.{low_form, low_all}
use Rattle.lo_instance.proofs.FormLemmas.{form_lowered}
use Rattle.xf_carry.specs.Lowered.{low_items}
use Rattle.xf_carry.proofs.Ordered.{few_spans, ordered_spans}

-- one for each constraint, and its items
abbrev total : List Constraint → ℕ
total [] = 0
total (c ∷ cs) = 1 + items_of c + total cs

total_is : (cs : List Constraint) → total cs ≡ length cs + sum (map items_of cs)
total_is [] = refl
total_is (c ∷ cs) = omega (arith, total_is cs, sum-map items_of cs, sum-map items_of (c ∷ cs), sum_by-cons items_of c cs)

square_more : (a b s t : ℕ) → a ≤ 64 * (s * s) → b ≤ 64 * (t * t) → a + b ≤ 64 * ((s + t) * (s + t))
square_more a b s t h k = omega arith

made_at_most : (ss : List Bounds) (n : ℕ) (cs : List Constraint) → AllByRecursion (IsSoundConstraint ss) cs → AreOrdered ss → length ss ≤ n → made (low_all ss n cs) ≤ 64 * (total cs * total cs)
made_at_most ss n [] s ordered le = omega arith
made_at_most ss n (c ∷ cs) s ordered le =
    let xs : List Item = low_form ss n c in
    let one : made xs ≤ 64 * ((1 + items_of c) * (1 + items_of c)) = omega (arith, (form_lowered ss n c s.0 ordered le).size) in
    let both = square_more _ _ (1 + items_of c) (total cs) one (made_at_most ss (n + made xs) cs s.1 ordered (omega (arith, le))) in
    omega (arith, made-append xs (low_all ss (n + made xs) cs), both)

pub room_for_all : (i : Instance) → IsAccepted i → length (words i.decls) + made (low_items i) ≤ 2 ^ 60
room_for_all i h =
    let t : ℕ = total i.constraints in
    let small : t ≤ 71303168 = omega (arith, total_is i.constraints, h.items, h.constraints) in
    let square : t * t ≤ 71303168 * 71303168 = mul-le-mul small small in
    omega (arith, made_at_most (spans_of i.decls) (length (words i.decls)) i.constraints h.sound.constraints (ordered_spans i h.sound) (few_spans i h.sound), square, h.sound.few)

-- one constraint; `ds` are the constraints as the loop goes over them
pub few_at : (i : Instance) (ds : List Constraint) (k : ℕ) (c : Constraint) → ds ≡ i.constraints → k < length ds → c ≡ get_or ds k c → IsAccepted i → items_of c < 2 ^ 29
few_at i ds k c same lt is h =
    let P : Constraint → Type 0 = λ d. items_of d ≤ most_items in
    let at_most : P c = subst P (sym (is ∙ ap (λ zs. get_or zs k c) same)) (All-from_recursion P i.constraints (few_of_each i h) k c (omega (arith, lt, ap length same))) in
    omega (arith, at_most)

-- one constraint more
pub low_all_more : (ss : List Bounds) (n : ℕ) (cs ds : List Constraint) (k : ℕ) (c : Constraint) → ds ≡ cs → k < length ds → c ≡ get_or ds k c
    → low_all ss n (drop k cs) ≡ low_form ss n c ++ low_all ss (n + made (low_form ss n c)) (drop (k + 1) cs)
low_all_more ss n cs ds k c same lt is =
    ap (λ zs. low_all ss n (drop k zs)) (sym same) ∙ at_drop_more (low_all ss n) ds k c lt ∙ ap (λ (d : Constraint). low_all ss n (d ∷ drop (k + 1) ds)) (sym is)
    ∙ ap (λ zs. low_form ss n c ++ low_all ss (n + made (low_form ss n c)) (drop (k + 1) zs)) same

pub room_more : (ss : List Bounds) (n : ℕ) (cs ds : List Constraint) (k : ℕ) (c : Constraint) → ds ≡ cs → k < length ds → c ≡ get_or ds k c → n + made (low_all ss n (drop k cs)) ≤ 2 ^ 60
    → n + made (low_form ss n c) + made (low_all ss (n + made (low_form ss n c)) (drop (k + 1) cs)) ≤ 2 ^ 60
room_more ss n cs ds k c same lt is room = omega (arith, ap made (low_all_more ss n cs ds k c same lt is), made-append (low_form ss n c) (low_all ss (n + made (low_form ss n c)) (drop (k + 1) cs)))
