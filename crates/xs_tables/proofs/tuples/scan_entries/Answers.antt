use Rattle.std.proofs.Common.{◌++◌, ap, ◌∙◌, List, ℕ, Option, Bor}
use Rattle.std.specs.List.{flat_map}
use Rattle.std.specs.Option.{option_map}
use Rattle.std.specs.Result.{result_err}
use Rattle.xs_fields.specs.Conditions.{all_meet, earlier_of, first_missed}
use Rattle.xs_fields.specs.Words.{is_byte, parts, parts_behind}
use Rattle.xs_fields.proofs.ListLemmas.{members_more}
use Rattle.xs_fields.proofs.OrderLemmas.{judged_missed, missed_more}
use Rattle.xs_tables.specs.Tuples.{entries_in, entry_list, entry_meets, entry_of, is_small_entry}
use Rattle.xs_tables.proofs.tuples.scan_entries.Goals as goal

pub loop-rest-preserved : goal.loop-rest-preserved
loop-rest-preserved c =
    let behind = λ (o : Option (Bor (List ℕ))). parts_behind (is_byte 44) (option_map (λ x. x.now) o) in
    let inner = c.args.inner.now in
    let word = c.cut.result.0.now in
    let rest = behind c.loop-rest.rest in
    let more = behind c.cut.result.1 in
    let cut = ap behind c.in-Some.is ∙ c.cut.ensures.value in
    record {
      missed =
          ap (λ m. earlier_of m (first_missed (all_meet entry_meets more))) c.in_ok-missed.ensures.missed
          ∙ missed_more entry_meets c.loop-rest.missed (result_err c.read_entry.result) (first_missed (all_meet entry_meets (parts (is_byte 44) inner))) rest more word cut
          (ap result_err c.read_entry.ensures ∙ judged_missed is_small_entry (entry_of word)) c.loop-rest.invariant.missed;
      value =
          ap (λ es. es ++ flat_map entries_in more) (c.in_ok-missed.ensures.value ∙ ap (λ r. c.loop-rest.entries.items ++ entry_list r) c.read_entry.ensures)
          ∙ members_more entries_in rest more word c.loop-rest.entries.items (flat_map entries_in (parts (is_byte 44) inner)) cut c.loop-rest.invariant.value;
    }
