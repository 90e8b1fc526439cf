use Rattle.std.proofs.Common.{refl}
use Rattle.xf_words.proofs.AskLemmas.{asks_all}
use Rattle.xf_main.proofs.answer.Goals as goal

pub run-status-requires : goal.run-status-requires
run-status-requires c = asks_all _ (λ name. refl) _ _
