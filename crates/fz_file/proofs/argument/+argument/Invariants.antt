use Rattle.std.proofs.Common.{◌≡◌, ◌++◌, drop, map, true}
use Rattle.fz_file.specs.Layout.{arg_text, names_of}
use Rattle.fz_file.proofs.ListedLemmas.{listed_after}
use Rattle.fz_file.proofs.argument.+argument.Given as goal

abbrev pub invariant-push_args-loop-arg : goal.invariant-push_args-loop-arg
invariant-push_args-loop-arg l =
    l.out.items ++ listed_after l.first (map (arg_text (names_of l.named)) (drop l.arg-index l.args)) ≡ l.fn.out.items ++ listed_after true (map (arg_text (names_of l.named)) l.args)
