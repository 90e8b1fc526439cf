use Rattle.std.proofs.Common.{◌≡◌, ◌∷◌, [], List, ℕ, Option, ap, sym, ◌∙◌, Bor}
use Rattle.std.specs.Option.{option_map}
use Rattle.xs_fields.specs.Words.{is_byte, parts, parts_behind}
use Rattle.xs_tables.specs.Groups.{front_of, last_of}
use Rattle.xs_tables.proofs.GroupLemmas.{front_more, last_more, one_part}
use Rattle.xs_tables.proofs.groups.next_group.Goals as goal

pub returns-in-Some-clause-groups : goal.returns-in-Some-clause-groups
returns-in-Some-clause-groups c =
    let group = c.cut.result.0.now in
    let first : parts (is_byte 41) c.args.bytes.now ≡ group ∷ parts (is_byte 41) c.in-Some.behind.now =
    c.cut.ensures.value ∙ ap (λ (o : Option (Bor (List ℕ))). group ∷ parts_behind (is_byte 41) (option_map (λ x. x.now) o)) c.in-Some.is in
    ap front_of first ∙ front_more (is_byte 41) group c.in-Some.behind.now

pub returns-in-Some-clause-behind : goal.returns-in-Some-clause-behind
returns-in-Some-clause-behind c =
    let group = c.cut.result.0.now in
    let first : parts (is_byte 41) c.args.bytes.now ≡ group ∷ parts (is_byte 41) c.in-Some.behind.now =
    c.cut.ensures.value ∙ ap (λ (o : Option (Bor (List ℕ))). group ∷ parts_behind (is_byte 41) (option_map (λ x. x.now) o)) c.in-Some.is in
    ap last_of first ∙ last_more (is_byte 41) group c.in-Some.behind.now

pub returns-in-None-clause-behind : goal.returns-in-None-clause-behind
returns-in-None-clause-behind c =
    let group = c.cut.result.0.now in
    let all : parts (is_byte 41) c.args.bytes.now ≡ group ∷ [] =
    c.cut.ensures.value ∙ ap (λ (o : Option (Bor (List ℕ))). group ∷ parts_behind (is_byte 41) (option_map (λ x. x.now) o)) c.in-None.is in
    ap last_of all ∙ one_part (is_byte 41) group c.args.bytes.now all
