use Rattle.std.proofs.Common.{◌≡◌, Option, None, Some, refl, sym, ap, ◌∙◌, List, ℕ}
use Rattle.std.specs.Prelude.{IfSome}
use Rattle.fz_model.specs.declared.builtin.Builtin.{Builtin}
use Rattle.fz_model.specs.Builtins.{all, by_name, name_of}
use Rattle.fz_model.proofs.Names.{by_name-name_of, look_up-named}
use Rattle.fz_items.proofs.call.by_name.Goals as goal

told : (name : List ℕ) (r s : Option Builtin) → s ≡ by_name name → IfSome s (λ b. name_of b ≡ name) → IfSome r (λ b. name_of b ≡ name) → ((b : Builtin) → name_of b ≡ name → r ≡ Some b) → r ≡ s
told name None None e f g h = refl
told name (Some b) None e f g h = sym (e ∙ ap by_name (sym g) ∙ by_name-name_of b)
told name r (Some b) e f g h = h b f

pub returns : goal.returns
returns c = told c.args.name.now c.from_name.result (by_name c.args.name.now) refl (look_up-named all c.args.name.now) c.from_name.ensures.named c.from_name.ensures.every
