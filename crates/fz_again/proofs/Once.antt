-- What is written of a sound model denotes no other model.
use Rattle.std.proofs.Common.{◌≡◌, ℕ, List, length, map, None, Result, Ok, ap, sym, subst, ◌∙◌}
use Rattle.xf_text.specs.declared.fault.Fault.{Fault}
use Rattle.fz_model.specs.declared.model.Model.{Model}
use Rattle.fz_file.specs.Layout.{layout}
use Rattle.fz_tokens.specs.Tokens.{tokens_of}
use Rattle.fz_grammar.specs.declared.tree.Reading.{Reading}
use Rattle.fz_grammar.proofs.Once.{one_place}
use Rattle.fz_items.specs.Conditions.{lasting}
use Rattle.fz_items.specs.Outcome.{outcome}
use Rattle.fz_read.specs.Reading.{unplaced, AreAlike, Denotes}
use Rattle.fz_again.specs.Tree.{WrittenAlone, OneLayout}
use Rattle.fz_again.proofs.Again.{written_again}
use Rattle.fz_again.proofs.Levels.{low_layout}

same_model : (a b : Result Model Fault) (m n : Model) → a ≡ b → a ≡ Ok m → b ≡ Ok n → m ≡ n
same_model a b m n e f g = cc

alike : (m n a b : Model) → a ≡ b → AreAlike m a → AreAlike n b → AreAlike m n
alike m n a b e f g = record {
  vars = f.vars ∙ (ap (λ (z : Model). z.vars) e ∙ sym g.vars);
  outputs = f.outputs ∙ (ap (λ (z : Model). z.outputs) e ∙ sym g.outputs);
  calls = f.calls ∙ (ap (λ (z : Model). map unplaced z.calls) e ∙ sym g.calls);
  goal = f.goal ∙ (ap (λ (z : Model). z.goal) e ∙ sym g.goal);
}

pub written_alone : WrittenAlone
written_alone m n s d =
    let text : List ℕ = layout m in
    let own : Denotes text m = written_again m s in
    let reading : own.reading ≡ d.reading = one_place (tokens_of text) own.reading d.reading (low_layout m s) own.items.model d.items.model own.items.placed d.items.placed in
    let told : outcome lasting None (length text) own.reading ≡ outcome lasting None (length text) d.reading = ap (λ (r : Reading). outcome lasting None (length text) r) reading in
    alike m n own.stated d.stated (same_model (outcome lasting None (length text) own.reading) (outcome lasting None (length text) d.reading) own.stated d.stated told own.meets d.meets) own.alike d.alike

pub one_layout : OneLayout
one_layout m n s t e = written_alone m n s (subst (λ (text : List ℕ). Denotes text n) (sym e) (written_again n t))
