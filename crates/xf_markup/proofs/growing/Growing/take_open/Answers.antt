use Rattle.std.proofs.Common.{◌≡◌, ◌<◌, ◌≤◌, length, refl, arith, inr, rules, true, subst, sym}
use Rattle.xf_markup.specs.Reading.{levels}
use Rattle.xf_markup.specs.Tag.{are_distinct}
use Rattle.xf_markup.specs.Tokens.{Opens}
use Rattle.xf_markup.specs.Growing.{is_free, Went}
use Rattle.xf_markup.proofs.TakeLemmas.{went_open, went_leaf, went_too_deep}
use Rattle.xf_markup.proofs.growing.Growing.take_open.Goals as goal

pub returns-then-len-ge-LEVELS : goal.returns-then-len-ge-LEVELS
returns-then-len-ge-LEVELS c = λ s st.
    let free : is_free c.args.self.now.root c.args.self.now.outer ≡ true = search rules in
    let distinct : are_distinct c.args.attrs ≡ true = search rules in
    let full : levels ≤ length c.args.self.now.outer = omega arith in
    rw c.too_deep_at.ensures (refl, inr (refl, went_too_deep c.args.self.now s c.args.place c.args.name.now c.args.attrs c.args.is_empty distinct st free full))

pub returns-then-is_empty : goal.returns-then-is_empty
returns-then-is_empty c = λ s st.
    let free : is_free c.args.self.now.root c.args.self.now.outer ≡ true = search rules in
    let distinct : are_distinct c.args.attrs ≡ true = search rules in
    let room : length c.args.self.now.outer < levels = omega arith in
    let e = c.in_ok-leaf.ensures in
    subst (λ b. Went c.args.self.now c.leaf.new.self s (Opens c.args.place c.args.name.now c.args.attrs b)) (sym c.if-is_empty.true)
    (went_leaf c.args.self.now c.leaf.new.self s c.args.place c.args.name.now c.args.attrs distinct st free room (search rules) e.names e.begun e.sound)

pub returns : goal.returns
returns c = λ s st.
    let free : is_free c.args.self.now.root c.args.self.now.outer ≡ true = search rules in
    let distinct : are_distinct c.args.attrs ≡ true = search rules in
    let room : length c.args.self.now.outer < levels = omega arith in
    let e = c.in_ok-open.ensures in
    subst (λ b. Went c.args.self.now c.open.new.self s (Opens c.args.place c.args.name.now c.args.attrs b)) (sym c.if-is_empty.false)
    (went_open c.args.self.now c.open.new.self s c.args.place c.args.name.now c.args.attrs distinct st free room (search rules) (search rules) e.begun e.sound)
