use Rattle.xs_fields.specs.Variables.{word_of}
use Rattle.xs_words.proofs.CompactLemmas.{refused_none}
use Rattle.xs_words.proofs.compact.small_word.Goals as goal

pub returns-in-Err-Refused : goal.returns-in-Err-Refused
returns-in-Err-Refused c =
    refused_none c.args.word.now (word_of c.args.word.now) c.in-Err-Refused.field-0-0 (rw c.in-Err-Refused.field-0-is at c.in-Err-Refused.ensures) c.requires
