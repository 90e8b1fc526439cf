use Rattle.std.proofs.Common.{◌∙◌, sym, ap, length}
use Rattle.xs_model.specs.Names.{defined}
use Rattle.xs_model.proofs.Places.{length-words_of}
use Rattle.xs_model.proofs.words.variables_in.Goals as goal

pub returns-in-Array : goal.returns-in-Array
returns-in-Array c = c.defined_in.ensures ∙ (ap (λ cells. length (defined cells)) c.as_slice.ensures ∙ sym (length-words_of _ _ _ _ c.in-Array.is c.requires))
