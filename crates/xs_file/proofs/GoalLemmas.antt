-- An objective is the one child of `objectives`.
use Rattle.std.proofs.Common.{◌≡◌, ◌≤◌, ℕ, true, nat_le, List, [], ◌∷◌, length, sym, ap, arith}
use Rattle.std.proofs.lemmas.Bool.{leb-true}
use Rattle.xf_markup.specs.declared.tree.Node.{Node}

-- one child is all children
pub only_child : (n : Node) (ns all : List Node) → all ≡ n ∷ ns → nat_le (length all) 1 ≡ true → n ∷ [] ≡ all
only_child n [] all e h = sym e
only_child n (m ∷ ns) all e h = absurd (let few : length all ≤ 1 = leb-true _ _ h in let more = ap length e in omega (arith, few, more))
