-- How many members the fields of a constraint have that is not too large.
use Rattle.std.proofs.Common.{◌≡◌, ℕ, suc, ◌+◌, ◌*◌, ◌^◌, ◌<◌, ◌≤◌, ℤ, Bool, List, [], ◌∷◌, Option, length, map, refl, ap₂, sym, ◌∙◌, subst, arith, All}
use Rattle.std.specs.List.{AllByRecursion, flat_map}
use Rattle.std.proofs.Math.Nat.{mul-le-mul}
use Rattle.std.proofs.lemmas.List.{length-map}
use Rattle.std.proofs.lemmas.List.Elements.{All-from_recursion}
use Rattle.xf_num.specs.Span.{Bounds}
use Rattle.xs_model.specs.declared.instance.Edge.{Edge}
use Rattle.xs_model.specs.declared.instance.Constraint.{Constraint}
use Rattle.xs_model.specs.declared.instance.Constraint.TheVariants.{Extension, Unary, Regular, Mdd}
use Rattle.xs_model.specs.Accepted.{IsSoundConstraint, items_of}
use Rattle.xs_model.specs.Fields.{Variable, edge_items, end_items, entries, entry_item}
use Rattle.xs_model.specs.Formed.{count_of, total}

entries_of : (l : ℕ) (tuples : List (List (Option ℤ))) → AllByRecursion (λ es. length es ≡ l) tuples → total (map count_of (map entries tuples)) ≡ length tuples * l
entries_of l [] h = omega arith
entries_of l (es ∷ tuples) h = one (length tuples) l (total (map count_of (map entries tuples))) (length (map entry_item es)) (entries_of l tuples h.1) (length-map es entry_item ∙ h.0)
  where
    one : (k l t e : ℕ) → t ≡ k * l → e ≡ l → e + t ≡ suc k * l
    one k l t e h g = grind arith

few_of_table : (k l i : ℕ) → 0 < l → i ≡ l + k * l → i < 2 ^ 29 → k * (l + 1) ≤ 2 ^ 60
few_of_table k l i some is few = omega (arith, spread k l, grows k l some, is, few)
  where
    spread : (k l : ℕ) → k * (l + 1) ≡ k * l + k
    spread k l = grind arith

    grows : (k l : ℕ) → 0 < l → k ≤ k * l
    grows k l some = grind arith

pub few_tuples : (ss : List Bounds) (list : List ℕ) (tuples : List (List (Option ℤ))) (positive : Bool) → IsSoundConstraint ss (Extension list tuples positive) → items_of (Extension list tuples positive) < 2 ^ 29
    → length tuples * (length list + 1) ≤ 2 ^ 60
few_tuples ss list tuples positive s few =
    few_of_table (length tuples) (length list) (items_of (Extension list tuples positive)) s.formed.fitting.0 (ap₂ (λ (p q : ℕ). p + q) (length-map list Variable) (entries_of (length list) tuples s.formed.fitting.1)) few

pub even_tuples : (ss : List Bounds) (list : List ℕ) (tuples : List (List (Option ℤ))) (positive : Bool) → IsSoundConstraint ss (Extension list tuples positive) → All (λ tuple. length tuple ≡ length list) tuples
even_tuples ss list tuples positive s = All-from_recursion (λ (tuple : List (Option ℤ)). length tuple ≡ length list) tuples s.formed.fitting.1

two_each : (spans : List Bounds) → length (flat_map end_items spans) ≡ 2 * length spans
two_each [] = refl
two_each (b ∷ bs) = let rest = two_each bs in omega (arith, rest)

pub few_ranges : (v : ℕ) (spans : List Bounds) (positive : Bool) → items_of (Unary v spans positive) < 2 ^ 29 → length spans ≤ 2 ^ 60
few_ranges v spans positive few = omega (arith, two_each spans, few)

three_each : (edges : List Edge) → length (flat_map edge_items edges) ≡ 3 * length edges
three_each [] = refl
three_each (e ∷ es) = let rest = three_each es in omega (arith, rest)

few_steps : (l e i : ℕ) → l + 3 * e ≤ i → i < 2 ^ 29 → l * (3 * e) + 3 * e ≤ 2 ^ 60
few_steps l e i le few =
    let most : l ≤ 536870912 = omega (arith, le, few) in
    let more : 3 * e ≤ 536870912 = omega (arith, le, few) in
    let product : l * (3 * e) ≤ 536870912 * 536870912 = mul-le-mul most more in
    omega (arith, product, more)

pub few_edges : (list : List ℕ) (edges : List Edge) (start : ℕ) (finals : List ℕ) → items_of (Regular list edges start finals) < 2 ^ 29 → length list * (3 * length edges) + 3 * length edges ≤ 2 ^ 60
few_edges list edges start finals few = few_steps (length list) (length edges) (items_of (Regular list edges start finals)) (omega (arith, length-map list Variable, three_each edges)) few

pub few_branches : (list : List ℕ) (edges : List Edge) (root leaf : ℕ) → items_of (Mdd list edges root leaf) < 2 ^ 29 → length list * (3 * length edges) + 3 * length edges ≤ 2 ^ 60
few_branches list edges root leaf few = few_steps (length list) (length edges) (items_of (Mdd list edges root leaf)) (omega (arith, length-map list Variable, three_each edges)) few

-- the same of fields that are those of a constraint

pub few_tuples_of : (ss : List Bounds) (c : Constraint) (list : List ℕ) (tuples : List (List (Option ℤ))) (positive : Bool) (vs : List ℕ) (ts : List (List (Option ℤ))) → c ≡ Extension list tuples positive → vs ≡ list → ts ≡ tuples
    → IsSoundConstraint ss c → items_of c < 2 ^ 29 → length ts * (length vs + 1) ≤ 2 ^ 60
few_tuples_of ss c list tuples positive vs ts is same equal s few =
    let sound : IsSoundConstraint ss (Extension list tuples positive) = subst (IsSoundConstraint ss) is s in
    let here : length tuples * (length list + 1) ≤ 2 ^ 60 = few_tuples ss list tuples positive sound (subst (λ (d : Constraint). items_of d < 2 ^ 29) is few) in
    subst (λ (us : List ℕ). length ts * (length us + 1) ≤ 2 ^ 60) (sym same) (subst (λ (us : List (List (Option ℤ))). length us * (length list + 1) ≤ 2 ^ 60) (sym equal) here)

few_of_edges : (list vs : List ℕ) (edges es : List Edge) → vs ≡ list → es ≡ edges → length list * (3 * length edges) + 3 * length edges ≤ 2 ^ 60 → length vs * (3 * length es) + 3 * length es ≤ 2 ^ 60
few_of_edges list vs edges es same equal h =
    subst (λ (us : List ℕ). length us * (3 * length es) + 3 * length es ≤ 2 ^ 60) (sym same) (subst (λ (us : List Edge). length list * (3 * length us) + 3 * length us ≤ 2 ^ 60) (sym equal) h)

pub few_edges_of : (c : Constraint) (list : List ℕ) (edges : List Edge) (start : ℕ) (finals : List ℕ) (vs : List ℕ) (es : List Edge) → c ≡ Regular list edges start finals → vs ≡ list → es ≡ edges
    → items_of c < 2 ^ 29 → length vs * (3 * length es) + 3 * length es ≤ 2 ^ 60
few_edges_of c list edges start finals vs es is same equal few = few_of_edges list vs edges es same equal (few_edges list edges start finals (subst (λ (d : Constraint). items_of d < 2 ^ 29) is few))

pub few_branches_of : (c : Constraint) (list : List ℕ) (edges : List Edge) (root leaf : ℕ) (vs : List ℕ) (es : List Edge) → c ≡ Mdd list edges root leaf → vs ≡ list → es ≡ edges
    → items_of c < 2 ^ 29 → length vs * (3 * length es) + 3 * length es ≤ 2 ^ 60
few_branches_of c list edges root leaf vs es is same equal few = few_of_edges list vs edges es same equal (few_branches list edges root leaf (subst (λ (d : Constraint). items_of d < 2 ^ 29) is few))
