use Rattle.std.proofs.Common.{◌-◌, ap, not, arith, length, length-drop}
use Rattle.xs_fields.proofs.CompareLemmas.{right_some, right_none, left_some, left_none}
use Rattle.xs_fields.proofs.compare.digits_at_most.Goals as goal

pub returns-then-not-are_zeros : goal.returns-then-not-are_zeros
returns-then-not-are_zeros c =
    let a = c.args.a.now in
    let b = c.args.b.now in
    right_some a b c.split_at.result.0.now (length b - length a) c.are_zeros.result c.split_at.ensures.front (omega (arith, length-drop (length b - length a) b, c.if-a-b.true)) c.requires.left c.are_zeros.ensures (ap not c.if-not-are_zeros.true)

pub returns-else-not-are_zeros : goal.returns-else-not-are_zeros
returns-else-not-are_zeros c =
    let a = c.args.a.now in
    let b = c.args.b.now in
    right_none a b c.split_at.result.0.now c.split_at.result.1.now (length b - length a) c.are_zeros.result c.same_length_at_most.result c.split_at.ensures.front c.split_at.ensures.back (omega (arith, length-drop (length b - length a) b, c.if-a-b.true)) c.requires.left c.are_zeros.ensures (ap not c.if-not-are_zeros.false) c.same_length_at_most.ensures

pub returns-then-are_zeros : goal.returns-then-are_zeros
returns-then-are_zeros c =
    let a = c.args.a.now in
    let b = c.args.b.now in
    left_none a b c.split_at-else-a-b.result.0.now c.split_at-else-a-b.result.1.now (length a - length b) c.are_zeros-else-a-b.result c.same_length_at_most-then-are_zeros.result c.split_at-else-a-b.ensures.front c.split_at-else-a-b.ensures.back (omega (arith, length-drop (length a - length b) a, c.if-a-b.false)) c.requires.right c.are_zeros-else-a-b.ensures c.if-are_zeros.true c.same_length_at_most-then-are_zeros.ensures

pub returns-else-are_zeros : goal.returns-else-are_zeros
returns-else-are_zeros c =
    let a = c.args.a.now in
    let b = c.args.b.now in
    left_some a b c.split_at-else-a-b.result.0.now (length a - length b) c.are_zeros-else-a-b.result c.split_at-else-a-b.ensures.front (omega (arith, length-drop (length a - length b) a, c.if-a-b.false)) c.requires.right c.are_zeros-else-a-b.ensures c.if-are_zeros.false
