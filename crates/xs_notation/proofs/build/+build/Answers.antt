use Rattle.std.proofs.Common.{◌≡◌, Option, IfOk, sym, ap, subst, ◌∙◌, drop, ◌+◌, map}
use Rattle.std.specs.List.{flat_map}
use Rattle.xs_fields.specs.Conditions.{all_meet, earlier_of, first_missed}
use Rattle.xs_fields.specs.declared.condition.Condition.{Condition}
use Rattle.xs_notation.specs.Reading.{expr_of, words_in, words_meet}
use Rattle.xs_notation.specs.Terms.{term_meets}
use Rattle.xs_notation.proofs.MissedLemmas.{missed-next, missed-one}
use Rattle.xs_notation.proofs.WordsLemmas.{map-more, words-Word, words-Call, words-next}
use Rattle.xs_notation.proofs.build.+build.Goals as goal

pub build_operands-loop-operand-preserved : goal.build_operands-loop-operand-preserved
build_operands-loop-operand-preserved t c =
    let test = term_meets c.args.names.now in
    let operands = c.args.operands.now in
    let i = c.loop-operand.operand-index in
    let more = flat_map words_in (drop (i + 1) operands) in
    record {
      missed =
          ap (λ m. earlier_of m (first_missed (all_meet test more))) c.earlier-missed.ensures.value
          ∙ missed-next test c.loop-operand.missed c.in_ok-reading.reading.missed (first_missed (all_meet test (flat_map words_in operands)))
          (words_in c.operand-item.result) more (flat_map words_in (drop i operands))
          (words-next i operands c.operand-item.result c.loop-operand-test.true c.operand-item.is) c.in_ok-reading.ensures.missed c.loop-operand.invariant.missed;
      value =
          map-more (expr_of c.args.names.now) operands c.loop-operand.built c.push.new.self (map (expr_of c.args.names.now) operands) i c.operand-item.result c.in_ok-reading.reading.value
          c.loop-operand-test.true c.operand-item.is c.in_ok-reading.ensures.value c.in_ok-push.ensures.ok c.loop-operand.invariant.value;
    }

pub build-returns-in-Word-clause-missed : goal.build-returns-in-Word-clause-missed
build-returns-in-Word-clause-missed t c =
    let os = c.args.names.now in
    let test = term_meets os in
    let is : first_missed (words_meet os c.args.raw.now) ≡ first_missed (test c.as_slice.result.now) =
    ap (λ r. first_missed (words_meet os r)) c.in-Word.is
    ∙ ap (λ ws. first_missed (all_meet test ws)) (words-Word c.in-Word.word)
    ∙ missed-one test c.in-Word.word
    ∙ ap (λ w. first_missed (test w)) (sym c.as_slice.ensures) in
    subst (λ (o : Option Condition). IfOk c.scan_term.result (λ r. r.missed ≡ o)) (sym is) c.scan_term.ensures.missed

pub build-returns-in_ok-reading-in-Call-clause-missed : goal.build-returns-in_ok-reading-in-Call-clause-missed
build-returns-in_ok-reading-in-Call-clause-missed t c =
    let os = c.args.names.now in
    let test = term_meets os in
    let is : first_missed (words_meet os c.args.raw.now) ≡ first_missed (all_meet test (flat_map words_in c.as_slice-in-Call.result.now)) =
    ap (λ r. first_missed (words_meet os r)) c.in-Call.is
    ∙ ap (λ ws. first_missed (all_meet test ws)) (words-Call c.in-Call.op c.in-Call.operands)
    ∙ ap (λ rs. first_missed (all_meet test (flat_map words_in rs))) (sym c.as_slice-in-Call.ensures) in
    c.in_ok-reading-in-Call.ensures.missed ∙ sym is
