-- The laws of `regular` and `mdd`.
use Rattle.std.proofs.Common.{◌≡◌, ◌↔◌, ℕ, ◌+◌, ◌*◌, ◌-◌, ◌<◌, ◌≤◌, ℤ, Bool, true, List, [], ◌∷◌, length, map, refl, ap, ap₂, sym, ◌∙◌, subst, arith}
use Rattle.std.specs.Prelude.{nat_abs}
use Rattle.std.specs.List.{AllByRecursion, flat_map}
use Rattle.std.proofs.lemmas.Int.{ints}
use Rattle.std.proofs.lemmas.List.{length-map}
use Rattle.fz_model.specs.Limits.{IsSmall, exactly}
use Rattle.fz_model.specs.Meaning.{at, truth}
use Rattle.fz_model.proofs.Calls.{number-Bool}
use Rattle.lo_base.specs.Formed.{AreIntegers}
use Rattle.lo_emit.specs.declared.term.Term.TheVariants.{Truth}
use Rattle.lo_paths.specs.declared.path.Layer.{Layer}
use Rattle.lo_paths.specs.Laws.{RegularLowered, MddLowered}
use Rattle.lo_paths.specs.Path.{first_layer, low_regular}
use Rattle.lo_paths.proofs.FormedLemmas.{layers_formed}
use Rattle.lo_paths.proofs.PathLemmas.{layers_rule}
use Rattle.lo_rules.specs.Laws.{IsLowered}
use Rattle.lo_rules.specs.Rule.{num, Always, Rule}
use Rattle.lo_rules.proofs.Rules.{rule_as, rules_lower, steady_values}
use Rattle.xs_model.specs.declared.instance.Constraint.TheVariants.{Regular, Mdd}
use Rattle.xs_model.specs.declared.instance.Edge.{Edge}
use Rattle.xs_model.specs.Accepted.{IsFormed, items_of}
use Rattle.xs_model.specs.Fields.{Variable, Mark, edge_items}
use Rattle.xs_model.specs.Formed.{IsFormedItem}
use Rattle.xs_model.specs.Language.{IsAccepting, Spells}
use Rattle.xs_model.specs.Sound.{IsSmall as HasSmallMagnitude}
use Rattle.xs_paths.specs.Carried.{is_accepted_from}
use Rattle.xs_paths.proofs.Carried.{accepted_is_carried}
use Rattle.xs_paths.proofs.Flags.{leaf_is_final}

small_integer : (z : ℤ) → HasSmallMagnitude z → IsSmall (exactly z)
small_integer z h = record { from = omega (arith, ints, h); to = omega (arith, ints, h) }

variables_below : (m : ℕ) (list : List ℕ) → AllByRecursion (IsFormedItem m) (map Variable list) → AllByRecursion (λ x. x < m) list
variables_below m [] h = tt
variables_below m (x ∷ xs) h = (h.0, variables_below m xs h.1)

below_more : (m n : ℕ) (list : List ℕ) → m ≤ n → AllByRecursion (λ x. x < m) list → AllByRecursion (λ x. x < n) list
below_more m n [] le h = tt
below_more m n (x ∷ xs) le h = (omega (arith, le, h.0), below_more m n xs le h.1)

edges_small : (m : ℕ) (edges : List Edge) → AllByRecursion (IsFormedItem m) (flat_map edge_items edges) → AllByRecursion (λ e. IsSmall (exactly e.value)) edges
edges_small m [] h = tt
edges_small m (e ∷ es) h = (small_integer e.value h.1.0, edges_small m es h.1.1.1)

pub three_each : (edges : List Edge) → length (flat_map edge_items edges) ≡ 3 * length edges
three_each [] = refl
three_each (e ∷ es) = let rest = three_each es in omega (arith, rest)

room_for_layers : (l e i : ℕ) → l + 3 * e ≤ i → l * (e * 11) + (1 + e) ≤ 64 * ((1 + i) * (1 + i))
room_for_layers l e i h = subst (λ (k : ℕ). l * (e * 11) + (1 + e) ≤ 64 * ((1 + k) * (1 + k))) (omega (arith, h)) (exact l e (i - (l + 3 * e)))
  where
    exact : (l e r : ℕ) → l * (e * 11) + (1 + e) ≤ 64 * ((1 + ((l + 3 * e) + r)) * (1 + ((l + 3 * e) + r)))
    exact l e r = grind arith

-- an automaton, whatever the constraint's items are
path_lowered : (m n : ℕ) (xs : List ℕ) (edges : List Edge) (start : ℕ) (finals : List ℕ) (i : ℕ) → AllByRecursion (λ x. x < m) xs → AllByRecursion (λ e. IsSmall (exactly e.value)) edges → m ≤ n → length xs + 3 * length edges ≤ i
    → IsLowered Always (λ b. IsAccepting edges start finals (map (at b) xs)) (AreIntegers m) n (low_regular n xs edges start finals) (64 * ((1 + i) * (1 + i)))
path_lowered m n xs edges start finals i below small le room =
    let layer : Layer = first_layer start in
    let P : List ℤ → Type 0 = λ b. IsAccepting edges start finals (map (at b) xs) in
    let Q : List ℤ → Type 0 = λ b. is_accepted_from edges finals (start ∷ []) (λ q. true) (map (at b) xs) ≡ true in
    let S : List ℤ → Type 0 = λ b. Always b × (map (num b) layer.truths ≡ map (λ q. truth true) layer.states) in
    let w : ℕ = length xs * (length edges * 11) + (1 + length edges) in
    let law : (b : List ℤ) → P b ↔ Q b = λ b. accepted_is_carried edges start finals (map (at b) xs) in
    rules_lower Always Always P (AreIntegers m) n (low_regular n xs edges start finals) (64 * ((1 + i) * (1 + i))) (λ a len x d. tt) (steady_values (IsAccepting edges start finals) n xs (below_more m n xs le below))
    (λ bs here kinds. layers_formed m edges finals small bs n layer xs here kinds (tt, tt) below)
    (rule_as Always S Always Always Always Q P n (low_regular n xs edges start finals) w (64 * ((1 + i) * (1 + i))) (λ b d. (tt, ap (λ (z : ℤ). z ∷ []) (number-Bool b true))) (λ b d g. tt) (λ b d g p. (law b).1 p) (λ b y d g p. (law b).0 p)
    (room_for_layers (length xs) (length edges) i room) (layers_rule edges finals Always m Always n layer (λ b q. true) xs below le refl (tt, tt) (omega arith)))

pub regular_lowered : RegularLowered
regular_lowered m n xs edges start finals formed le =
    let room : length xs + 3 * length edges ≤ items_of (Regular xs edges start finals) = omega (arith, length-map xs Variable, three_each edges) in
    path_lowered m n xs edges start finals (items_of (Regular xs edges start finals)) (variables_below m xs formed.fields.0) (edges_small m edges formed.fields.1.0) le room

pub mdd_lowered : MddLowered
mdd_lowered m n xs edges root leaf formed le =
    let i : ℕ = items_of (Mdd xs edges root leaf) in
    let room : length xs + 3 * length edges ≤ i = omega (arith, length-map xs Variable, three_each edges) in
    let law : (b : List ℤ) → Spells edges root (map (at b) xs) leaf ↔ IsAccepting edges root (leaf ∷ []) (map (at b) xs) = λ b. leaf_is_final edges root leaf (map (at b) xs) in
    let r = path_lowered m n xs edges root (leaf ∷ []) i (variables_below m xs formed.fields.0) (edges_small m edges formed.fields.1.0) le room in
    record {
      means = record { sound = λ a c len long w h. (law a).1 (r.means.sound a c len long w h); complete = λ a len w p. r.means.complete a len w ((law a).0 p) };
      stepwise = r.stepwise;
      before = r.before;
      size = r.size;
      formed = r.formed;
    }
