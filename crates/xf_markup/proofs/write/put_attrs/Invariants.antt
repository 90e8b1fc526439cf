use Rattle.std.proofs.Common.{◌≡◌, ◌++◌, drop}
use Rattle.xf_markup.specs.Written.{written_attrs}
use Rattle.xf_markup.proofs.write.put_attrs.Given as goal

abbrev pub invariant-loop-attr : goal.invariant-loop-attr
invariant-loop-attr l = l.out.items ++ written_attrs (drop l.attr-index l.attrs) ≡ l.initial.out.items ++ written_attrs l.attrs
