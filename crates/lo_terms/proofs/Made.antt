-- How many variables items make.
use Rattle.std.proofs.Common.{◌≡◌, ◌+◌, List, ◌++◌}
use Rattle.lo_base.specs.Item.{Item, made}
use Rattle.lo_base.proofs.Solving.{made-append}

pub made_joined : (xs ys : List Item) → made (xs ++ ys) ≡ made xs + made ys
made_joined = made-append
