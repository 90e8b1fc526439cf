use Rattle.std.proofs.Common.{rules, arith, ◌≡◌, ℕ, ◌+◌, ◌≤◌, ◌++◌, length, length-append, refl}
use Rattle.std.proofs.lemmas.Grind.{common_steps}
use Rattle.xf_text.proofs.ReadingLemmas.{taken_then, took_from_taken}
use Rattle.xf_text.proofs.whole.read_file.Goals as goal

pub returns-then-len-part-gt-MAX_BYTES-clause-long : goal.returns-then-len-part-gt-MAX_BYTES-clause-long
returns-then-len-part-gt-MAX_BYTES-clause-long g c _ =
    let xs = c.parts.bytes.items in
    let ys = c.in_ok-part.part.now in
    took_from_taken _ _ (xs ++ ys) _ (taken_then _ _ _ xs ys c.parts.invariant.taken c.in_ok-part.ensures.next)
    (grind (arith, common_steps, length-append xs ys))

pub returns-in_err-extend_from_slice-clause-memory : goal.returns-in_err-extend_from_slice-clause-memory
returns-in_err-extend_from_slice-clause-memory g c _ =
    let xs = c.parts.bytes.items in
    let ys = c.in_ok-part.part.now in (
      length (xs ++ ys),
      omega (arith, length-append xs ys, c.if-len-part-gt-MAX_BYTES.false),
      took_from_taken _ _ (xs ++ ys) _ (taken_then _ _ _ xs ys c.parts.invariant.taken c.in_ok-part.ensures.next) refl,
    )
