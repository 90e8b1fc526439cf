use Rattle.std.proofs.Common.{◌≡◌, ◌++◌, ◌∷◌, [], ◌+◌, ◌-◌, ◌∙◌, ap, length, arith, rules, None, Some, length-append}
use Rattle.xf_markup.specs.Tag.{end_at, attr_at, attr_of}
use Rattle.xf_markup.proofs.TagLemmas.{tail_more}
use Rattle.xf_markup.proofs.tag.tail.Goals as goal

pub loop-is_empty-preserved : goal.loop-is_empty-preserved
loop-is_empty-preserved c =
    let found = c.in-Some-one_attr in
    let old = c.loop-is_empty.out in
    let new = c.push.new.self in
    let total = length c.args.bytes.now in
    let pushed : new ≡ old ++ attr_of found.name.now found.value.now ∷ [] = search rules in
    let longer : length new ≡ length old + 1 = ap length pushed ∙ length-append old (attr_of found.name.now found.value.now ∷ []) in
    let ended : end_at c.loop-is_empty.rest.now ≡ None = search rules in
    let is : attr_at c.loop-is_empty.rest.now ≡ Some (found.name.now, found.value.now, found.after.now) = search rules in
    record {
      room = omega (arith, found.ensures.within, longer);
      read = tail_more old new (total + 1 - length new) (total + 1 - length old) c.loop-is_empty.rest.now found.name.now found.value.now found.after.now ended is (omega (arith, longer)) pushed ∙ c.loop-is_empty.invariant.read;
    }
