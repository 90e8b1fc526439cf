use Rattle.std.proofs.Common.{sym, subst, []}
use Rattle.std.specs.List.{flat_map}
use Rattle.fz_file.specs.Layout.{var_line}
use Rattle.xf_text.specs.Outside.{Appended, AppendedFront}
use Rattle.xf_text.proofs.OutsideLemmas.{appended_then}
use Rattle.xf_carry.specs.Lines.{end_lines}
use Rattle.xf_carry.specs.Lowered.{low, low_items}
use Rattle.xf_carry.proofs.Fronts.{front_longer, front_then, err_maps, ok_maps, ok_at, err_at}
use Rattle.xf_carry.proofs.Text.{layout_text}
use Rattle.xf_carry.proofs.write.write_parts.Goals as goal

pub returns-in-Ok-default-clause-ok : goal.returns-in-Ok-default-clause-ok
returns-in-Ok-default-clause-ok g c =
    let h = g.W.Sink.holds in
    let is = layout_text c.args.inst.now c.args.named c.requires.accepted.sound c.requires.named in
    let v = c.write_vars.result in
    let r = c.write_calls.result in
    let vars = ok_at v.0 _ c.in-Ok-default.is-0 c.write_vars.ensures.ok in
    ok_maps r.0 (λ t. subst (Appended (h c.args.out) (h r.1)) (sym is) (appended_then (h c.args.out) (h v.1) (h r.1) _ _ vars t)) c.write_calls.ensures.ok

pub returns-in-Ok-default-clause-front : goal.returns-in-Ok-default-clause-front
returns-in-Ok-default-clause-front g c =
    let h = g.W.Sink.holds in
    let is = layout_text c.args.inst.now c.args.named c.requires.accepted.sound c.requires.named in
    let v = c.write_vars.result in
    let r = c.write_calls.result in
    let vars = ok_at v.0 _ c.in-Ok-default.is-0 c.write_vars.ensures.ok in
    err_maps r.0 (λ t. subst (AppendedFront (h c.args.out) (h r.1)) (sym is) (front_then (h c.args.out) (h v.1) (h r.1) _ _ vars t)) c.write_calls.ensures.front

pub returns-in-Err-default-clause-front : goal.returns-in-Err-default-clause-front
returns-in-Err-default-clause-front g c =
    let h = g.W.Sink.holds in
    let is = layout_text c.args.inst.now c.args.named c.requires.accepted.sound c.requires.named in
    let v = c.write_vars.result in
    let vars = err_at v.0 _ c.in-Err-default.is-0 c.write_vars.ensures.front in
    subst (AppendedFront (h c.args.out) (h v.1)) (sym is) (front_longer (h c.args.out) (h v.1) (flat_map (var_line []) (low c.args.inst.now).vars) (end_lines c.args.named (low_items c.args.inst.now)) vars)
