use Rattle.std.proofs.Common.{arith, rules, ◌+◌, ◌*◌, get_or, drop, ℤ, pos, ◌<ℤ◌, ◌∙◌, sym, ap, subst, FitsSigned, nat_abs}
use Rattle.std.proofs.lemmas.Int.{to_z-of_z, ints}
use Rattle.std.specs.Int.{w128}
use Rattle.xs_model.specs.Names.{places_of}
use Rattle.xs_model.specs.Places.{BeginsWith, SpellsFrom}
use Rattle.xs_model.specs.Sound.{cell_count}
use Rattle.xs_model.proofs.BracketLemmas.{turn, size_bound, place_fits, room_step, one_begin}
use Rattle.xs_model.proofs.Places.{magnitude_is}
use Rattle.xs_model.proofs.brackets.place_of.Goals as goal

pub front_index-requires : goal.front_index-requires
front_index-requires c =
    let size : ℤ = get_or c.args.sizes.now c.loop-size.size-index (pos 0) in
    let fits : FitsSigned w128 size = search rules in
    let t = turn c.args.sizes.now c.loop-size.size-index c.loop-size.place (cell_count c.args.sizes.now) c.loop-size-test.true c.loop-size.invariant.sizes c.loop-size.invariant.room in
    let e = to_z-of_z w128 size fits in
    let m = ap nat_abs e ∙ magnitude_is size t.size in
    let l = size_bound size (cell_count c.args.sizes.now) t.size t.few in
    omega (arith, ints, e, c.requires.few)

pub overflow_cast-place : goal.overflow_cast-place
overflow_cast-place c =
    let size : ℤ = get_or c.args.sizes.now c.loop-size.size-index (pos 0) in
    let fits : FitsSigned w128 size = search rules in
    let t = turn c.args.sizes.now c.loop-size.size-index c.loop-size.place (cell_count c.args.sizes.now) c.loop-size-test.true c.loop-size.invariant.sizes c.loop-size.invariant.room in
    let e = to_z-of_z w128 size fits in
    let m = ap nat_abs e ∙ magnitude_is size t.size in
    (rw e (omega (arith, ints, t.size)), rw m (omega (arith, t.few, c.requires.few)))

pub overflow_mul-place : goal.overflow_mul-place
overflow_mul-place c =
    let size : ℤ = get_or c.args.sizes.now c.loop-size.size-index (pos 0) in
    let fits : FitsSigned w128 size = search rules in
    let t = turn c.args.sizes.now c.loop-size.size-index c.loop-size.place (cell_count c.args.sizes.now) c.loop-size-test.true c.loop-size.invariant.sizes c.loop-size.invariant.room in
    let e = to_z-of_z w128 size fits in
    let m = ap nat_abs e ∙ magnitude_is size t.size in
    let below = subst (λ n. pos c.in-Some.index <ℤ n) e c.in-Some.ensures.found.below in
    let f = place_fits c.loop-size.place c.in-Some.index (cell_count c.args.sizes.now) size _ t.size t.rest t.room below in
    rw m (omega (arith, f, c.requires.few))

pub overflow_add-place : goal.overflow_add-place
overflow_add-place c =
    let size : ℤ = get_or c.args.sizes.now c.loop-size.size-index (pos 0) in
    let fits : FitsSigned w128 size = search rules in
    let t = turn c.args.sizes.now c.loop-size.size-index c.loop-size.place (cell_count c.args.sizes.now) c.loop-size-test.true c.loop-size.invariant.sizes c.loop-size.invariant.room in
    let e = to_z-of_z w128 size fits in
    let m = ap nat_abs e ∙ magnitude_is size t.size in
    let below = subst (λ n. pos c.in-Some.index <ℤ n) e c.in-Some.ensures.found.below in
    let f = place_fits c.loop-size.place c.in-Some.index (cell_count c.args.sizes.now) size _ t.size t.rest t.room below in
    rw m (omega (arith, f, c.requires.few))

pub returns-in-None-clause-only : goal.returns-in-None-clause-only
returns-in-None-clause-only c = λ place h.
    let size : ℤ = get_or c.args.sizes.now c.loop-size.size-index (pos 0) in
    let fits : FitsSigned w128 size = search rules in
    let t = turn c.args.sizes.now c.loop-size.size-index c.loop-size.place (cell_count c.args.sizes.now) c.loop-size-test.true c.loop-size.invariant.sizes c.loop-size.invariant.room in
    let e = to_z-of_z w128 size fits in
    let m = ap nat_abs e ∙ magnitude_is size t.size in
    let s = subst (λ ns. SpellsFrom c.loop-size.place ns c.loop-size.rest.now place) t.is (c.loop-size.invariant.all place h) in
    absurd (c.in-None.ensures.none s.0 s.1.0 (subst (λ n. BeginsWith c.loop-size.rest.now n s.0 s.1.0) (sym e) s.1.1.0))

pub loop-size-preserved : goal.loop-size-preserved
loop-size-preserved c =
    let size : ℤ = get_or c.args.sizes.now c.loop-size.size-index (pos 0) in
    let fits : FitsSigned w128 size = search rules in
    let t = turn c.args.sizes.now c.loop-size.size-index c.loop-size.place (cell_count c.args.sizes.now) c.loop-size-test.true c.loop-size.invariant.sizes c.loop-size.invariant.room in
    let e = to_z-of_z w128 size fits in
    let m = ap nat_abs e ∙ magnitude_is size t.size in
    let below = subst (λ n. pos c.in-Some.index <ℤ n) e c.in-Some.ensures.found.below in
    record {
      sizes = t.rest;
      room = rw m (room_step c.loop-size.place c.in-Some.index (cell_count c.args.sizes.now) size _ t.size t.room below);
      so_far = λ p h. c.loop-size.invariant.so_far p (subst (λ ns. SpellsFrom c.loop-size.place ns c.loop-size.rest.now p) (sym t.is) (c.in-Some.index, (c.in-Some.more.now, (subst (λ n. BeginsWith c.loop-size.rest.now n c.in-Some.index c.in-Some.more.now) e c.in-Some.ensures.found, subst (λ n. SpellsFrom (c.loop-size.place * n + c.in-Some.index) (drop (c.loop-size.size-index + 1) c.args.sizes.now) c.in-Some.more.now p) m h))));
      all = λ p h.
          let s = subst (λ ns. SpellsFrom c.loop-size.place ns c.loop-size.rest.now p) t.is (c.loop-size.invariant.all p h) in
          let same = one_begin _ _ _ _ _ _ s.1.1.0 (subst (λ n. BeginsWith c.loop-size.rest.now n c.in-Some.index c.in-Some.more.now) e c.in-Some.ensures.found) in
          let moved = subst (λ i. SpellsFrom (c.loop-size.place * places_of size + i) (drop (c.loop-size.size-index + 1) c.args.sizes.now) s.1.0 p) same.0 s.1.1.1 in
          let done = subst (λ more. SpellsFrom (c.loop-size.place * places_of size + c.in-Some.index) (drop (c.loop-size.size-index + 1) c.args.sizes.now) more p) same.1 moved in
          subst (λ n. SpellsFrom (c.loop-size.place * n + c.in-Some.index) (drop (c.loop-size.size-index + 1) c.args.sizes.now) c.in-Some.more.now p) (sym m) done;
    }
