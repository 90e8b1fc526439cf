use Rattle.std.proofs.Common.{◌≡◌, rules, true}
use Rattle.xf_markup.specs.Growing.{is_innermost}
use Rattle.xf_markup.proofs.TakeLemmas.{went_close, begun_within}
use Rattle.xf_markup.proofs.growing.Growing.take_close.Goals as goal

pub returns : goal.returns
returns c = λ s st.
    let hit : is_innermost c.args.name.now c.args.self.now.outer ≡ true = search rules in
    let e = c.in_ok-close.ensures in
    went_close c.args.self.now c.close.new.self s c.args.name.now st hit e.shown e.outer e.begun (begun_within c.args.self.now.root c.args.self.now.outer c.args.name.now hit) e.sound
