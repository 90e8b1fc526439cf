use Rattle.std.proofs.Common.{◌≡◌, ◌<◌, ◌+◌, suc, add-one, Bool, List, ℕ, [], ◌∷◌, ◌++◌, length, take, drop, cond, not, true, false, rules, sym, ap, ◌∙◌, take-append-drop, Bor}
use Rattle.std.specs.BTreeSet.{contains}
use Rattle.std.specs.Ordering.{nat_cmp, is_eq}
use Rattle.std.specs.Cmp.Lexicographic.{slice_cmp}
use Rattle.std.proofs.Math.Seq.{take-suc, drop-cons}
use Rattle.xf_markup.specs.declared.tree.Attr.{Attr}
use Rattle.xf_markup.specs.Tag.{is_new, are_distinct}
use Rattle.xf_markup.proofs.DistinctLemmas.{distinct_more, not_distinct, seen_more}
use Rattle.xf_markup.proofs.distinct.are_distinct.Goals as goal

twice : (added b c : Bool) → added ≡ not b → b ≡ not c → added ≡ c
twice added b true e h = e ∙ ap not h
twice added b false e h = e ∙ ap not h

pub returns-then-not-is_new : goal.returns-then-not-is_new
returns-then-not-is_new c =
    let i = c.loop-attr.attr-index in
    let xs = c.args.attrs.now in
    let a : Attr = c.attr-item.result in
    let lt : i < length xs = search rules in
    let name : c.as_slice.result.now ≡ a.name = c.as_slice.ensures in
    let added : c.in_ok-is_new.is_new ≡ is_new (take i xs) a.name = twice _ _ _ c.in_ok-is_new.ensures.added (c.loop-attr.invariant.seen c.as_slice.result) ∙ ap (is_new (take i xs)) name in
    let split : xs ≡ take i xs ++ a ∷ drop (suc i) xs = sym (take-append-drop i xs) ∙ ap (λ z. take i xs ++ z) (drop-cons xs i a lt ∙ ap (λ x. x ∷ drop (suc i) xs) (sym c.attr-item.is)) in
    sym (ap are_distinct split ∙ not_distinct (take i xs) a (drop (suc i) xs) (sym added ∙ c.if-not-is_new.true))

pub loop-attr-preserved : goal.loop-attr-preserved
loop-attr-preserved c =
    let i = c.loop-attr.attr-index in
    let xs = c.args.attrs.now in
    let a : Attr = c.attr-item.result in
    let lt : i < length xs = search rules in
    let name : c.as_slice.result.now ≡ a.name = c.as_slice.ensures in
    let added : c.in_ok-is_new.is_new ≡ is_new (take i xs) a.name = twice _ _ _ c.in_ok-is_new.ensures.added (c.loop-attr.invariant.seen c.as_slice.result) ∙ ap (is_new (take i xs)) name in
    let longer : take (i + 1) xs ≡ take i xs ++ a ∷ [] = ap (λ k. take k xs) (add-one i) ∙ take-suc xs i a lt ∙ ap (λ x. take i xs ++ x ∷ []) (sym c.attr-item.is) in
    record {
      seen = λ q. c.in_ok-is_new.ensures.updates.0 q ∙ ap (λ n. cond (is_eq (slice_cmp nat_cmp n q.now)) true (contains (λ (x y : Bor (List ℕ)). slice_cmp nat_cmp x.now y.now) c.loop-attr.names q)) name
          ∙ seen_more (take i xs) a q.now _ (c.loop-attr.invariant.seen q) ∙ ap (λ z. not (is_new z q.now)) (sym longer);
      distinct = ap are_distinct longer ∙ distinct_more (take i xs) a c.loop-attr.invariant.distinct (sym added ∙ c.if-not-is_new.false);
    }
