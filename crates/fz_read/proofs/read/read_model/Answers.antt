use Rattle.std.proofs.Common.{Ok, Err, sym, subst}
use Rattle.xf_text.specs.declared.fault.Stop.TheVariants.{Refused}
use Rattle.fz_read.proofs.ReadLemmas.{Says, sound_ok, known_ok, known_err, fault_ok, fault_err}
use Rattle.fz_read.proofs.read.read_model.Goals as goal

pub returns-in-Ok-clause-sound : goal.returns-in-Ok-clause-sound
returns-in-Ok-clause-sound c = sound_ok c.args.bound c.args.text.now c.in-Ok.reading c.read_syntax_items.result c.requires c.in-Ok.ensures.answers.0 c.read_syntax_items.ensures

pub returns-in-Ok-clause-known : goal.returns-in-Ok-clause-known
returns-in-Ok-clause-known c =
    λ m s. known_ok c.args.bound c.args.text.now c.in-Ok.reading c.read_syntax_items.result m s (c.in-Ok.ensures.one s.reading s.items.model s.low s.items.placed) c.read_syntax_items.ensures

pub returns-in-Ok-clause-fault : goal.returns-in-Ok-clause-fault
returns-in-Ok-clause-fault c = λ f h. fault_ok c.args.bound c.args.text.now c.in-Ok.reading c.read_syntax_items.result f c.in-Ok.ensures.misfit c.in-Ok.ensures.deep c.in-Ok.ensures.one c.read_syntax_items.ensures h

pub returns-in-Err-clause-known : goal.returns-in-Err-clause-known
returns-in-Err-clause-known c =
    λ m s. subst (λ x. Says (Err x) (Ok m)) (sym c.stop_of.ensures) (known_err c.args.bound c.args.text.now c.in-Err.halt m s.reading (c.in-Err.ensures.one s.reading s.items.model s.low s.items.placed))

pub returns-in-Err-clause-fault : goal.returns-in-Err-clause-fault
returns-in-Err-clause-fault c =
    λ f h. subst (λ x. Says (Err x) (Err (Refused f))) (sym c.stop_of.ensures) (fault_err c.args.bound c.args.text.now c.in-Err.halt f c.in-Err.ensures.misfit c.in-Err.ensures.deep c.in-Err.ensures.one h)
