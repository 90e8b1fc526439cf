use Rattle.std.proofs.Common.{◌≡◌, true}
use Rattle.std.specs.Prelude.{Result, Ok, Err, OnOk}
use Rattle.std.specs.Result.{is_ok}
use Rattle.xs_vars.specs.Declarations.{declared_of}
use Rattle.xs_vars.proofs.DeclaredLemmas.{kept_with, room}
use Rattle.xs_vars.proofs.taking.take.Goals as goal

at_ok : {T E : Type 0} (P : Type 0) (r : Result T E) → OnOk r P → is_ok r ≡ true → P
at_ok P (Ok x) h e = h
at_ok P (Err x) h e = cc

pub declare-requires-clause-few : goal.declare-requires-clause-few
declare-requires-clause-few c = room (declared_of c.args.known) c.args.counted c.args.known.names c.requires.known.names c.requires.known.sound c.requires.counted

pub returns-clause-kept : goal.returns-clause-kept
returns-clause-kept c =
    kept_with c.args.known c.args.counted c.push.new.self c.declare.new.self c.requires.known c.requires.counted c.in_ok-push.ensures.ok
    (at_ok _ c.declare.result c.declare.ensures.ok c.if-is_err.ensures.negation)
