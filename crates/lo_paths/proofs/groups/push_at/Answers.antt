use Rattle.lo_paths.proofs.GroupLemmas.{put_back}
use Rattle.lo_paths.proofs.groups.push_at.Goals as goal

pub returns : goal.returns
returns c = put_back c.args.ways.now c.replace-all.new.self c.replace.new.self c.args.at c.replace-all.result _ _ c.args.truth c.replace-all.ensures.value c.replace-all.ensures.after c.in_ok-push.ensures.ok c.replace.ensures.after
