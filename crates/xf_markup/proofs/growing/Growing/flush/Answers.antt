use Rattle.std.proofs.Common.{◌<◌, length, arith}
use Rattle.xf_markup.proofs.MarkLemmas.{flat_pieces-words}
use Rattle.xf_markup.proofs.growing.Growing.flush.Goals as goal

pub returns-in_ok-push-clause-pieces : goal.returns-in_ok-push-clause-pieces
returns-in_ok-push-clause-pieces c =
    let lt : 0 < length c.args.self.now.words = omega arith in
    let e = flat_pieces-words c.args.self.now.pieces c.args.self.now.words lt in
    grind (arith, e)
