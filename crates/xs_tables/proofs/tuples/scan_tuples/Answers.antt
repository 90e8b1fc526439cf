use Rattle.std.proofs.Common.{◌≡◌, ◌&&◌, ◌++◌, ◌∷◌, [], None, length, length-append, map, refl, ap, sym, ◌∙◌, arith}
use Rattle.std.specs.List.{flat_map}
use Rattle.xs_fields.specs.Conditions.{all_meet, first_missed}
use Rattle.xs_fields.specs.Lists.{count_meets}
use Rattle.xs_fields.proofs.ScanLemmas.{ends_missed}
use Rattle.xs_tables.specs.Groups.{behind_of, groups_of, is_blank, is_room_for, spelt_meets}
use Rattle.xs_tables.specs.Tuples.{tuple_meets, tuple_of, tuples_of}
use Rattle.xs_tables.proofs.GroupLemmas.{mapped_more}
use Rattle.xs_tables.proofs.ScanLemmas.{counted, flat, flat_snoc, still_none}
use Rattle.xs_tables.proofs.TableLemmas.{tuple_fits}
use Rattle.xs_tables.proofs.tuples.scan_tuples.Goals as goal

pub loop-group-preserved : goal.loop-group-preserved
loop-group-preserved c =
    let text = c.args.text.now in
    let left = c.args.left in
    let group = c.in-Some.group.now in
    let rest = groups_of c.loop-group.rest.now in
    let more = groups_of c.in-Some.more.now in
    let m = c.in_ok-missed.missed in
    let old = c.loop-group.tuples in
    let new = c.take_tuple.new.tuples in
    let before = λ (e : m ≡ None). still_none c.loop-group.missed (first_missed (tuple_meets group)) m (is_room_for left c.loop-group.count (length (tuple_of group))) c.in_ok-missed.ensures.missed e in
    let grown = λ (e : m ≡ None). ap flat (c.in_ok-missed.ensures.value e) ∙ flat_snoc old (tuple_of group) in
    record {
      stands =
          counted tuple_of tuple_meets left (groups_of text) tuple_fits c.loop-group.missed (first_missed (tuple_meets group)) m c.loop-group.count (flat old) (tuple_of group) (flat new)
          group more rest c.in-Some.ensures.groups refl refl c.loop-group.invariant.count c.in_ok-missed.ensures.missed grown c.loop-group.invariant.stands;
      count = λ e. omega (arith, c.in_ok-missed.ensures.count e, c.loop-group.invariant.count (before e), ap length (grown e), length-append (flat old) (tuple_of group));
      value = λ e.
          ap (λ ts. ts ++ map tuple_of more) (c.in_ok-missed.ensures.value e)
          ∙ mapped_more tuple_of rest more group old (tuples_of text) (tuple_of group) c.in-Some.ensures.groups refl (c.loop-group.invariant.value (before e));
      behind = sym c.in-Some.ensures.behind ∙ c.loop-group.invariant.behind;
    }

pub returns-clause-missed : goal.returns-clause-missed
returns-clause-missed c =
    let text = c.args.text.now in
    let left = c.args.left in
    c.earlier.ensures.joins (λ k. all_meet tuple_meets (groups_of text) k && count_meets (length (flat_map tuple_of (groups_of text))) left k) (spelt_meets (is_blank (behind_of text)))
    (ends_missed tuple_of tuple_meets left (groups_of text) c.loop-group.missed (flat c.loop-group.tuples) (groups_of c.loop-group.rest.now) c.in_default.ensures.groups c.loop-group.invariant.stands)
    (c.judge_behind.ensures ∙ ap (λ b. first_missed (spelt_meets (is_blank b))) (sym c.in_default.ensures.behind ∙ c.loop-group.invariant.behind))
