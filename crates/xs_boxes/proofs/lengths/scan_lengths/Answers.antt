use Rattle.std.proofs.Common.{◌≡◌, ◌&&◌, ◌++◌, None, ℕ, length, length-append, map, refl, ap, sym, ◌∙◌, arith}
use Rattle.std.specs.List.{flat_map}
use Rattle.std.proofs.lemmas.List.{length-map}
use Rattle.xs_conditions.specs.Single.{single_meets, single_of}
use Rattle.xs_fields.specs.Conditions.{all_meet, first_missed}
use Rattle.xs_fields.specs.Lists.{count_meets}
use Rattle.xs_fields.specs.Scanning.{joined}
use Rattle.xs_fields.proofs.ScanLemmas.{ends_missed}
use Rattle.xs_tables.specs.Groups.{behind_of, groups_of, is_blank, is_room_for, spelt_meets}
use Rattle.xs_tables.proofs.GroupLemmas.{mapped_more}
use Rattle.xs_tables.proofs.ScanLemmas.{counted, flat, flat_snoc, still_none}
use Rattle.xs_boxes.specs.Tuples.{entries_of, length_of, tuple_meets, width_of}
use Rattle.xs_boxes.proofs.TupleLemmas.{tuple_fits}
use Rattle.xs_conditions.proofs.FormedLemmas.{single_fits}
use Rattle.xs_boxes.proofs.lengths.scan_lengths.Goals as goal

pub loop-group-preserved : goal.loop-group-preserved
loop-group-preserved c =
    let os = c.args.names.now in
    let text = c.args.text.now in
    let left = c.args.left in
    let group = c.in-Some.group.now in
    let rest = groups_of c.loop-group.rest.now in
    let more = groups_of c.in-Some.more.now in
    let m = c.in_ok-missed.missed in
    let old = c.loop-group.rows in
    let new = c.take_tuple.new.rows in
    let test = tuple_meets (single_meets os) in
    let long : length (length_of os group) ≡ width_of group = length-map (entries_of group) (single_of os) in
    let told : m ≡ joined c.loop-group.missed (first_missed (test group)) (is_room_for left c.loop-group.count (length (length_of os group))) =
    c.in_ok-missed.ensures.missed ∙ ap (λ (n : ℕ). joined c.loop-group.missed (first_missed (test group)) (is_room_for left c.loop-group.count n)) (sym long) in
    let before = λ (e : m ≡ None). still_none c.loop-group.missed (first_missed (test group)) m (is_room_for left c.loop-group.count (length (length_of os group))) told e in
    let grown = λ (e : m ≡ None). ap flat (c.in_ok-missed.ensures.value e) ∙ flat_snoc old (length_of os group) in
    record {
      stands =
          counted (length_of os) test left (groups_of text) (tuple_fits (single_meets os) (single_fits os)) c.loop-group.missed (first_missed (test group)) m c.loop-group.count (flat old) (length_of os group) (flat new)
          group more rest c.in-Some.ensures.groups refl refl c.loop-group.invariant.count told grown c.loop-group.invariant.stands;
      count = λ e. omega (arith, long, c.in_ok-missed.ensures.count e, c.loop-group.invariant.count (before e), ap length (grown e), length-append (flat old) (length_of os group));
      value = λ e.
          ap (λ ts. ts ++ map (length_of os) more) (c.in_ok-missed.ensures.value e)
          ∙ mapped_more (length_of os) rest more group old (map (length_of os) (groups_of text)) (length_of os group) c.in-Some.ensures.groups refl (c.loop-group.invariant.value (before e));
      behind = sym c.in-Some.ensures.behind ∙ c.loop-group.invariant.behind;
    }

pub returns-clause-missed : goal.returns-clause-missed
returns-clause-missed c =
    let os = c.args.names.now in
    let text = c.args.text.now in
    let left = c.args.left in
    let test = tuple_meets (single_meets os) in
    c.earlier.ensures.joins (λ k. all_meet test (groups_of text) k && count_meets (length (flat_map (length_of os) (groups_of text))) left k) (spelt_meets (is_blank (behind_of text)))
    (ends_missed (length_of os) test left (groups_of text) c.loop-group.missed (flat c.loop-group.rows) (groups_of c.loop-group.rest.now) c.in_default.ensures.groups c.loop-group.invariant.stands)
    (c.judge_behind.ensures ∙ ap (λ b. first_missed (spelt_meets (is_blank b))) (sym c.in_default.ensures.behind ∙ c.loop-group.invariant.behind))
