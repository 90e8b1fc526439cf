use Rattle.std.proofs.Common.{◌≡◌, ◌++◌, ◌∙◌, sym, subst, ap}
use Rattle.xf_markup.specs.declared.tree.Node.{Node}
use Rattle.xf_markup.specs.Depth.{depth}
use Rattle.xf_markup.specs.Reading.{Tree}
use Rattle.xf_markup.specs.Written.{unplaced, written}
use Rattle.xf_markup.proofs.RoundTrip.{round_trip}
use Rattle.xf_markup.proofs.write.write_tree.Goals as goal

pub returns-clause-tree : goal.returns-clause-tree
returns-clause-tree c =
    let same : written c.args.node.now ≡ c.put_node.new.out.items = sym (c.in_ok-put_node.ensures ∙ ap (λ z. z ++ written c.args.node.now) c.new-out.ensures.items) in
    subst (λ text. (n : Node) × Tree n text × (unplaced n ≡ unplaced c.args.node.now) × (depth n ≡ depth c.args.node.now)) same (round_trip c.args.node.now c.requires)
