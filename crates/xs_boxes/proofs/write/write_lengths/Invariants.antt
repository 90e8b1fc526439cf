use Rattle.std.proofs.Common.{◌≡◌, ◌++◌, codes, drop, map}
use Rattle.std.specs.List.{flat_map}
use Rattle.xs_model.specs.Names.{words}
use Rattle.xs_boxes.specs.Written.{is_flat, length_word, lengths_text}
use Rattle.xs_boxes.proofs.write.write_lengths.Given as goal

abbrev pub invariant-loop-length : goal.invariant-loop-length
invariant-loop-length l = l.out.items ++ flat_map (λ w. w ++ codes " ") (map (length_word (words l.decls) (is_flat l.lengths)) (drop l.length-index l.lengths)) ≡ l.fn.out.items ++ lengths_text (words l.decls) l.lengths
