use Rattle.std.proofs.Common.{inr, refl}
use Rattle.xf_top.proofs.ConversionLemmas.{Laws, converted}
use Rattle.xf_top.proofs.commands.to_fzn.decide.Goals as goal

pub returns : goal.returns
returns g c =
    let i = c.in_ok-instance.instance in
    let h = c.in_ok-instance.ensures.read in
    let law = c.low_extends.ensures in
    let again = c.written_again.ensures in
    let alone = c.one_layout.ensures.alone in
    let laws : Laws = record { sound = c.low_sound.ensures; again = again; alone = alone; extends = law.extends; once = law.once; size = law.size } in
    (inr (i, h, refl), (i, h, converted laws i c.in_ok-instance.ensures.knows), c.in_ok-instance.ensures.knows)
