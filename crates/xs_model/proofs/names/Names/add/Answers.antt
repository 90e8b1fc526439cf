use Rattle.std.proofs.Common.{◌∙◌, sym, ap, subst, ◌++◌, ◌∷◌, [], ◌+◌}
use Rattle.xs_model.specs.Outline.{IsNamed, outline_of, defined_count}
use Rattle.xs_model.specs.Sound.{name_of}
use Rattle.xs_model.specs.Table.{IsTable, HasName}
use Rattle.xs_model.proofs.NamesLemmas.{named, table-push, outlines_are}
use Rattle.xs_model.proofs.names.Names.add.Goals as goal

pub push-requires : goal.push-requires
push-requires c = λ at h.
    let name = c.in_ok-name.ensures.items ∙ c.name.ensures in
    c.requires.new at (subst (λ os. IsNamed os at (name_of c.args.decl.now)) c.self.view_is (named c.self.inside.table at (name_of c.args.decl.now) (subst (λ n. HasName c.self.inside.table at n) name h)))

pub invariant_of-self-2 : goal.invariant_of-self-2
invariant_of-self-2 c =
    let name = c.in_ok-name.ensures.items ∙ c.name.ensures in
    let rows = c.in_ok-push.ensures.ok ∙ ap (λ n. c.self.inside.table ++ (n, c.in_ok-entry.entry) ∷ []) name in
    let made = table-push c.self.inside.table c.self.inside.next c.args.decl.now c.in_ok-entry.entry c.self.invariant c.requires.sound c.in_ok-entry.ensures.few c.in_ok-entry.ensures.numbers c.in_ok-entry.ensures.sizes in
    subst (λ next. IsTable c.push.new.self next) (sym c.in_ok-entry.ensures.next) (subst (λ x. IsTable x (c.self.inside.next + defined_count (outline_of c.args.decl.now).cells)) (sym rows) made)

pub returns-clause-ok : goal.returns-clause-ok
returns-clause-ok c =
    let name = c.in_ok-name.ensures.items ∙ c.name.ensures in
    let rows = c.in_ok-push.ensures.ok ∙ ap (λ n. c.self.inside.table ++ (n, c.in_ok-entry.entry) ∷ []) name in
    outlines_are c.self.inside.table c.push.new.self c.self.inside.next c.args.decl.now c.in_ok-entry.entry rows c.in_ok-entry.ensures.numbers c.in_ok-entry.ensures.sizes ∙ ap (λ os. os ++ outline_of c.args.decl.now ∷ []) c.self.view_is
