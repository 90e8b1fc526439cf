-- The laws of sound constraints, and how many transitions of layers there are at most.
use Rattle.std.proofs.Common.{◌≡◌, ℕ, ◌+◌, ◌*◌, ◌<◌, ◌≤◌, ◌^◌, ℤ, List, length, sym, subst, arith}
use Rattle.std.proofs.lemmas.List.{length-map}
use Rattle.xf_num.specs.Span.{Bounds}
use Rattle.lo_base.specs.Formed.{AreIntegers}
use Rattle.lo_base.specs.Item.{Item}
use Rattle.lo_rules.specs.Laws.{IsLowered}
use Rattle.lo_rules.specs.Rule.{Always}
use Rattle.lo_paths.specs.Laws.{AreBounded, SoundRegularLowered, SoundMddLowered}
use Rattle.lo_paths.proofs.LawLemmas.{regular_lowered, mdd_lowered, three_each}
use Rattle.xs_model.specs.declared.instance.Constraint.{Constraint}
use Rattle.xs_model.specs.declared.instance.Constraint.TheVariants.{Regular, Mdd}
use Rattle.xs_model.specs.declared.instance.Edge.{Edge}
use Rattle.xs_model.specs.Accepted.{items_of}
use Rattle.xs_model.specs.Fields.{Variable}
use Rattle.xs_model.specs.Spans.{BeginsWithin}

-- what holds of any values does of those within bounds
within : (ss : List Bounds) (P : List ℤ → Type 0) (n : ℕ) (xs : List Item) (w : ℕ) → IsLowered Always P (AreIntegers (length ss)) n xs w → IsLowered (BeginsWithin ss) P (AreBounded ss) n xs w
within ss P n xs w r = record {
  means = record { sound = λ a c len room inside h. r.means.sound a c len room tt h; complete = λ a len inside p. r.means.complete a len tt p };
  stepwise = r.stepwise;
  before = r.before;
  size = r.size;
  formed = λ booleans long kinds. r.formed booleans long kinds.0;
}

pub sound_regular_lowered : SoundRegularLowered
sound_regular_lowered ss n list edges start finals sound le = within ss _ n _ _ (regular_lowered (length ss) n list edges start finals sound.formed le)

pub sound_mdd_lowered : SoundMddLowered
sound_mdd_lowered ss n list edges root leaf sound le = within ss _ n _ _ (mdd_lowered (length ss) n list edges root leaf sound.formed le)

-- variables and transitions of which there are not too many
product_few : (l e b : ℕ) → l + e ≤ b → l * e + e ≤ b * b + b
product_few l e b h = grind arith

room : (l e i : ℕ) → l + 3 * e ≤ i → i < 2 ^ 30 → l * (3 * e) + 3 * e ≤ 2 ^ 60
room l e i h few = omega (arith, product_few l (3 * e) 1073741823 (omega (arith, h, few)))

few_in_regular : (list : List ℕ) (edges : List Edge) (start : ℕ) (finals : List ℕ) → items_of (Regular list edges start finals) < 2 ^ 30 → length list * (3 * length edges) + 3 * length edges ≤ 2 ^ 60
few_in_regular list edges start finals few = room (length list) (length edges) (items_of (Regular list edges start finals)) (omega (arith, length-map list Variable, three_each edges)) few

few_in_mdd : (list : List ℕ) (edges : List Edge) (root leaf : ℕ) → items_of (Mdd list edges root leaf) < 2 ^ 30 → length list * (3 * length edges) + 3 * length edges ≤ 2 ^ 60
few_in_mdd list edges root leaf few = room (length list) (length edges) (items_of (Mdd list edges root leaf)) (omega (arith, length-map list Variable, three_each edges)) few

-- the same of a constraint of that form, and of lists that are its own

product_at : (list xs : List ℕ) (edges es : List Edge) → xs ≡ list → es ≡ edges → length list * (3 * length edges) + 3 * length edges ≤ 2 ^ 60 → length xs * (3 * length es) + 3 * length es ≤ 2 ^ 60
product_at list xs edges es e f h =
    subst (λ (ys : List ℕ). length ys * (3 * length es) + 3 * length es ≤ 2 ^ 60) (sym e) (subst (λ (ds : List Edge). length list * (3 * length ds) + 3 * length ds ≤ 2 ^ 60) (sym f) h)

pub regular_at : (d : Constraint) (list : List ℕ) (edges : List Edge) (start : ℕ) (finals xs : List ℕ) (es : List Edge) → d ≡ Regular list edges start finals → items_of d < 2 ^ 30 → xs ≡ list → es ≡ edges → length xs * (3 * length es) + 3 * length es ≤ 2 ^ 60
regular_at d list edges start finals xs es is few e f = product_at list xs edges es e f (few_in_regular list edges start finals (subst (λ (k : Constraint). items_of k < 2 ^ 30) is few))

pub mdd_at : (d : Constraint) (list : List ℕ) (edges : List Edge) (root leaf : ℕ) (xs : List ℕ) (es : List Edge) → d ≡ Mdd list edges root leaf → items_of d < 2 ^ 30 → xs ≡ list → es ≡ edges → length xs * (3 * length es) + 3 * length es ≤ 2 ^ 60
mdd_at d list edges root leaf xs es is few e f = product_at list xs edges es e f (few_in_mdd list edges root leaf (subst (λ (k : Constraint). items_of k < 2 ^ 30) is few))
