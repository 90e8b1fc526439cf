use Rattle.xs_file.proofs.ReadingLemmas.{only_fault, only_instance}
use Rattle.xs_file.proofs.read.read_instance.Goals as goal

pub returns-clause-known : goal.returns-clause-known
returns-clause-known c = only_instance c.args.text.now c.read_text.result c.read_text.ensures.ok c.read_text.ensures.refused

pub returns-clause-fault : goal.returns-clause-fault
returns-clause-fault c = only_fault c.args.text.now c.read_text.result c.read_text.ensures.ok c.read_text.ensures.refused
