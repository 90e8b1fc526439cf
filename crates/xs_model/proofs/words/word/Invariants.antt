use Rattle.std.proofs.Common.{◌≡◌, ◌+◌, ◌<◌, take, drop, length, []}
use Rattle.std.specs.List.{AllByRecursion}
use Rattle.std.specs.Prelude.{slice_index_or}
use Rattle.xs_model.specs.Names.{words}
use Rattle.xs_model.specs.Outline.{outlines_of, variables_in}
use Rattle.xs_model.specs.Sound.{IsSoundDecl}
use Rattle.xs_model.proofs.words.word.Given as goal

abbrev pub invariant-loop-decl : goal.invariant-loop-decl
invariant-loop-decl l = record {
  sound : AllByRecursion IsSoundDecl (drop l.decl-index l.decl-items);
  within : l.left < length (words (drop l.decl-index l.decl-items));
  counted : variables_in (outlines_of (take l.decl-index l.decl-items)) + l.left ≡ l.variable;
  same : slice_index_or (words (drop l.decl-index l.decl-items)) l.left [] ≡ slice_index_or (words l.decls) l.variable [];
}
