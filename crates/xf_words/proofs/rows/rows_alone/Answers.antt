use Rattle.xf_words.proofs.RowLemmas as law
use Rattle.xf_words.proofs.rows.rows_alone.Goals as goal

pub returns : goal.returns
returns c = law.rows_alone
