use Rattle.std.proofs.Common.{◌≡◌, ◌++◌, ◌∷◌, [], length, length-append, map, ap, sym, ◌∙◌, arith, List, ℕ, Option, Bor}
use Rattle.std.specs.Option.{option_map}
use Rattle.xs_conditions.specs.Single.{single_meets, single_of}
use Rattle.xs_fields.specs.Conditions.{all_meet, earlier_of, first_missed}
use Rattle.xs_fields.specs.Words.{is_byte, parts, parts_behind}
use Rattle.xs_fields.proofs.OrderLemmas.{missed_more}
use Rattle.xs_parts.proofs.JoinLemmas.{none_behind}
use Rattle.xs_tables.proofs.GroupLemmas.{mapped_more}
use Rattle.xs_tables.proofs.TableLemmas.{first_none}
use Rattle.xs_boxes.proofs.lengths.scan_entries.Goals as goal

pub loop-rest-preserved : goal.loop-rest-preserved
loop-rest-preserved c =
    let os = c.args.names.now in
    let behind = λ (o : Option (Bor (List ℕ))). parts_behind (is_byte 44) (option_map (λ x. x.now) o) in
    let inner = c.args.inner.now in
    let word = c.cut.result.0.now in
    let rest = behind c.loop-rest.rest in
    let more = behind c.cut.result.1 in
    let cut : rest ≡ word ∷ more = ap behind c.in-Some.is ∙ c.cut.ensures.value in
    let entry = c.in_ok-entry.entry in
    let old = c.loop-rest.entries in
    record {
      missed =
          ap (λ m. earlier_of m (first_missed (all_meet (single_meets os) more))) c.earlier-missed.ensures.value
          ∙ missed_more (single_meets os) c.loop-rest.missed entry.missed (first_missed (all_meet (single_meets os) (parts (is_byte 44) inner))) rest more word cut
          c.in_ok-entry.ensures.missed c.loop-rest.invariant.missed;
      value = λ e.
          let none = sym c.earlier-missed.ensures.value ∙ e in
          ap (λ es. es ++ map (single_of os) more) c.in_ok-push.ensures.ok
          ∙ mapped_more (single_of os) rest more word old (map (single_of os) (parts (is_byte 44) inner)) entry.value cut (c.in_ok-entry.ensures.value (none_behind c.loop-rest.missed entry.missed none))
          (c.loop-rest.invariant.value (first_none c.loop-rest.missed entry.missed none));
      width = omega (arith, c.loop-rest.invariant.width, ap length cut, ap length c.in_ok-push.ensures.ok, length-append old (entry.value ∷ []));
    }
