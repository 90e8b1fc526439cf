use Rattle.std.proofs.Common.{◌≡◌, ◌∙◌, ◌+◌, ◌-◌, ◌∷◌, [], sym, ap, subst, length, drop, get_or, arith, length-append}
use Rattle.std.proofs.Math.Seq.{get_or-append_right}
use Rattle.std.proofs.lemmas.List.{drop_more}
use Rattle.std.proofs.lemmas.Result.{IfOk-weaker}
use Rattle.std.specs.List.{AllByRecursion}
use Rattle.xs_model.specs.Denotes.{Denotes}
use Rattle.xs_model.specs.Names.{words, words_of}
use Rattle.xs_model.specs.Outline.{outlines_of}
use Rattle.xs_model.specs.Sound.{IsSoundDecl}
use Rattle.xs_model.proofs.WordLemmas.{denotes_at, counted_more}
use Rattle.xs_model.proofs.words.word.Goals as goal

pub returns-then-left-count-clause-denotes : goal.returns-then-left-count-clause-denotes
returns-then-left-count-clause-denotes c =
    let ds = c.as_slice-decl-items.result.now in
    IfOk-weaker c.word_in.result _ _ (λ word h. subst (λ xs. Denotes (outlines_of xs) word.items c.args.variable) c.as_slice-decl-items.ensures (subst (λ k. Denotes (outlines_of ds) word.items k) c.loop-decl.invariant.counted (denotes_at ds c.loop-decl.decl-index c.loop-decl.left c.decl-item.result word.items c.loop-decl-test.true c.decl-item.is h))) c.word_in.ensures.denotes

pub loop-decl-preserved : goal.loop-decl-preserved
loop-decl-preserved c =
    let ds = c.as_slice-decl-items.result.now in
    let i = c.loop-decl.decl-index in
    let d = c.decl-item.result in
    let e : drop i ds ≡ d ∷ drop (i + 1) ds = drop_more ds i d c.loop-decl-test.true ∙ ap (λ x. x ∷ drop (i + 1) ds) (sym c.decl-item.is) in
    let sound = subst (AllByRecursion IsSoundDecl) e c.loop-decl.invariant.sound in
    let many = ap (λ x. length (words x)) e in
    let split = length-append (words_of d) (words (drop (i + 1) ds)) in
    let next = get_or-append_right (words_of d) (words (drop (i + 1) ds)) c.loop-decl.left [] (omega (arith, c.variables_in-count.ensures, c.if-left-count.false)) in
    record {
      sound = sound.1;
      within = omega (arith, c.loop-decl.invariant.within, many, split, c.variables_in-count.ensures, c.if-left-count.false);
      counted = omega (arith, counted_more ds i d c.loop-decl-test.true c.decl-item.is sound.0, c.loop-decl.invariant.counted, c.variables_in-count.ensures, c.if-left-count.false);
      same = ap (λ n. get_or (words (drop (i + 1) ds)) (c.loop-decl.left - n) []) c.variables_in-count.ensures ∙ (sym next ∙ (ap (λ x. get_or (words x) c.loop-decl.left []) (sym e) ∙ c.loop-decl.invariant.same));
    }
