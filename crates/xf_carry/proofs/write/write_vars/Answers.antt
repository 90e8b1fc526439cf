use Rattle.std.proofs.Common.{ap, sym, subst, ◌∙◌, [], length}
use Rattle.std.specs.List.{flat_map}
use Rattle.fz_file.specs.Layout.{var_line}
use Rattle.xf_text.specs.Outside.{Appended, AppendedFront}
use Rattle.xf_text.proofs.OutsideLemmas.{appended_then}
use Rattle.lo_base.specs.Lowered.{vars_of}
use Rattle.xf_carry.specs.Lowered.{low_items}
use Rattle.xf_carry.proofs.Extension.{shown_count}
use Rattle.xf_carry.proofs.Fronts.{front_longer, front_then, err_maps, ok_maps}
use Rattle.xf_carry.proofs.Text.{vars_text}
use Rattle.xf_carry.proofs.write.write_vars.Goals as goal

pub write_auxiliaries-requires-clause-named : goal.write_auxiliaries-requires-clause-named
write_auxiliaries-requires-clause-named g c = ap length c.requires.named ∙ shown_count c.args.inst.now c.requires.accepted.sound

pub returns-in-Ok-clause-ok : goal.returns-in-Ok-clause-ok
returns-in-Ok-clause-ok g c =
    let h = g.W.Sink.holds in
    let is = vars_text c.args.inst.now c.args.named.now c.requires.named in
    let r = c.write_auxiliaries.result in
    ok_maps r.0 (λ t. subst (Appended (h c.args.out) (h r.1)) (sym is) (appended_then (h c.args.out) (h c.write_named.new.out) (h r.1) _ _ c.in-Ok.ensures.ok t)) c.write_auxiliaries.ensures.ok

pub returns-in-Ok-clause-front : goal.returns-in-Ok-clause-front
returns-in-Ok-clause-front g c =
    let h = g.W.Sink.holds in
    let is = vars_text c.args.inst.now c.args.named.now c.requires.named in
    let r = c.write_auxiliaries.result in
    err_maps r.0 (λ t. subst (AppendedFront (h c.args.out) (h r.1)) (sym is) (front_then (h c.args.out) (h c.write_named.new.out) (h r.1) _ _ c.in-Ok.ensures.ok t)) c.write_auxiliaries.ensures.front

pub returns-in-Err-clause-front : goal.returns-in-Err-clause-front
returns-in-Err-clause-front g c =
    let h = g.W.Sink.holds in
    let is = vars_text c.args.inst.now c.args.named.now c.requires.named in
    subst (AppendedFront (h c.args.out) (h c.write_named.new.out)) (sym is) (front_longer (h c.args.out) (h c.write_named.new.out) (flat_map (var_line []) c.args.named.now) (flat_map (var_line []) (vars_of 0 (low_items c.args.inst.now))) c.in-Err.ensures.front)
