use Rattle.std.proofs.Common.{◌≡◌, ◌<◌, ◌^◌, ◌+◌, ◌∷◌, [], ℕ, ℤ, suc, pos, length, drop, drop-cons, slice_index_or, ap, sym, subst, ◌∙◌, arith, rules, FitsSigned, to_z, of_z, to_z-of_z, length-drop, List}
use Rattle.std.specs.Int.{w128}
use Rattle.std.proofs.lemmas.List.{drop_all}
use Rattle.xs_fields.specs.Cells.{HaveRoom, covered_places, widened_by}
use Rattle.xs_model.specs.Names.{places_of}
use Rattle.xs_fields.proofs.CellLemmas.{Standing, standing_first, standing_next, standing_cons, standing_done, fits_next, inside_same}
use Rattle.xs_fields.specs.declared.variable.Bracket.{Bracket}
use Rattle.xs_fields.proofs.cells.covered.Goals as goal

-- the lists from the next place on
sizes_from : (sizes : List ℤ) (i : ℕ) → i < length sizes → FitsSigned w128 (slice_index_or sizes i (pos 0)) → drop i sizes ≡ to_z w128 (of_z w128 (slice_index_or sizes i (pos 0))) ∷ drop (suc i) sizes
sizes_from sizes i h fits = drop-cons sizes i (pos 0) h ∙ ap (λ n. n ∷ drop (suc i) sizes) (sym (to_z-of_z fits))

brackets_from : (bs : List Bracket) (b : Bracket) (i : ℕ) → i < length bs → b ≡ slice_index_or bs i b → drop i bs ≡ b ∷ drop (suc i) bs
brackets_from bs b i h is = drop-cons bs i b h ∙ ap (λ x. x ∷ drop (suc i) bs) (sym is)

in_brackets : (sizes : List ℤ) (bs : List Bracket) (i : ℕ) → length (drop i sizes) ≡ length (drop i bs) → i < length sizes → i < length bs
in_brackets sizes bs i same h = omega (arith, same, h, length-drop i sizes, length-drop i bs)

pub loop-i-init : goal.loop-i-init
loop-i-init c =
    let first : c.push.new.self ≡ 0 ∷ [] = search rules in
    subst (λ (ps : List ℕ). Standing ps c.args.sizes.now c.args.brackets.now (covered_places c.args.sizes.now c.args.brackets.now)) (sym first) (standing_first c.args.sizes.now c.args.brackets.now (inside_same c.args.sizes.now c.args.brackets.now c.requires.inside) c.requires.sizes c.requires.inside c.requires.few)

pub widened-requires-clause-few : goal.widened-requires-clause-few
widened-requires-clause-few c =
    let i = c.loop-i.i in
    let sizes = c.args.sizes.now in
    let bs = c.args.brackets.now in
    let fits : FitsSigned w128 (slice_index_or sizes i (pos 0)) = search rules in
    let n = to_z w128 (of_z w128 (slice_index_or sizes i (pos 0))) in
    let b = c.index-brackets-i.result in
    let s = standing_cons c.loop-i.places (drop i sizes) (n ∷ drop (suc i) sizes) (drop i bs) (b ∷ drop (suc i) bs) (covered_places sizes bs) (sizes_from sizes i c.loop-i-test.true fits) (brackets_from bs b i (in_brackets sizes bs i c.loop-i.invariant.same c.loop-i-test.true) c.index-brackets-i.is) c.loop-i.invariant in
    (fits_next c.loop-i.places n (drop (suc i) sizes) b (drop (suc i) bs) (covered_places sizes bs) s).few

pub widened-requires-clause-room : goal.widened-requires-clause-room
widened-requires-clause-room c =
    let i = c.loop-i.i in
    let sizes = c.args.sizes.now in
    let bs = c.args.brackets.now in
    let fits : FitsSigned w128 (slice_index_or sizes i (pos 0)) = search rules in
    let n = to_z w128 (of_z w128 (slice_index_or sizes i (pos 0))) in
    let b = c.index-brackets-i.result in
    let s = standing_cons c.loop-i.places (drop i sizes) (n ∷ drop (suc i) sizes) (drop i bs) (b ∷ drop (suc i) bs) (covered_places sizes bs) (sizes_from sizes i c.loop-i-test.true fits) (brackets_from bs b i (in_brackets sizes bs i c.loop-i.invariant.same c.loop-i-test.true) c.index-brackets-i.is) c.loop-i.invariant in
    subst (λ (ps : List ℕ). HaveRoom (places_of n) (2 ^ 64) ps) (sym c.as_slice.ensures) (fits_next c.loop-i.places n (drop (suc i) sizes) b (drop (suc i) bs) (covered_places sizes bs) s).room

pub loop-i-preserved : goal.loop-i-preserved
loop-i-preserved c =
    let i = c.loop-i.i in
    let sizes = c.args.sizes.now in
    let bs = c.args.brackets.now in
    let fits : FitsSigned w128 (slice_index_or sizes i (pos 0)) = search rules in
    let n = to_z w128 (of_z w128 (slice_index_or sizes i (pos 0))) in
    let b = c.index-brackets-i.result in
    let s = standing_cons c.loop-i.places (drop i sizes) (n ∷ drop (suc i) sizes) (drop i bs) (b ∷ drop (suc i) bs) (covered_places sizes bs) (sizes_from sizes i c.loop-i-test.true fits) (brackets_from bs b i (in_brackets sizes bs i c.loop-i.invariant.same c.loop-i-test.true) c.index-brackets-i.is) c.loop-i.invariant in
    let next : c.in_ok-places.places ≡ widened_by n b c.loop-i.places = c.in_ok-places.ensures ∙ ap (widened_by n b) c.as_slice.ensures in
    let one : suc i ≡ i + 1 = omega arith in
    subst (λ (k : ℕ). Standing c.in_ok-places.places (drop k sizes) (drop k bs) (covered_places sizes bs)) one (standing_next c.loop-i.places c.in_ok-places.places n (drop (suc i) sizes) b (drop (suc i) bs) (covered_places sizes bs) next s)

pub returns : goal.returns
returns c = standing_done c.loop-i.places (drop c.loop-i.i c.args.sizes.now) (drop c.loop-i.i c.args.brackets.now) (covered_places c.args.sizes.now c.args.brackets.now) (drop_all c.loop-i.i c.args.sizes.now c.loop-i-test.false) c.loop-i.invariant
