-- A `cumulative` that misses nothing is of the shape that its form asks, and has no more items than are left.
use Rattle.std.proofs.Common.{◌≡◌, ℕ, ◌≤◌, Bool, true, ◌&&◌, nat_eq, nat_le, List, ◌∷◌, length, map, Option, None, Some, codes, refl, subst}
use Rattle.std.specs.List.{AllByRecursion}
use Rattle.std.proofs.lemmas.Bool.{eqb-true}
use borrow.Author.Tests.{leb-true}
use Rattle.xs_conditions.specs.Conditions.{condition_meets, condition_of, split_in, split_meets}
use Rattle.xs_conditions.proofs.FormedLemmas.{cond_formed}
use Rattle.xs_fields.specs.Cells.{vars_meet, vars_of}
use Rattle.xs_fields.specs.Conditions.{first_missed}
use Rattle.xs_fields.specs.Lists.{count_meets}
use Rattle.xs_fields.specs.Terms.{terms_meet, terms_of}
use Rattle.xs_fields.specs.declared.condition.Condition.{Condition}
use Rattle.xs_fields.specs.declared.condition.Condition.TheVariants.{Counting, Fitting, Spelling}
use Rattle.xs_fields.proofs.FirstLemmas.{all_met, met_at}
use Rattle.xs_fields.proofs.IntegerLemmas.{and_left, and_right}
use Rattle.xs_model.proofs.FormLemmas.{items_of_below}
use Rattle.xs_model.specs.Accepted.{IsFormed}
use Rattle.xs_model.specs.Fields.{cond_items, fields_of, item_of, Variable}
use Rattle.xs_model.specs.Fitting.{AreAsMany, IsLimit}
use Rattle.xs_model.specs.Formed.{AreFormed, IsFormedItem, items_of}
use Rattle.xs_model.specs.Outline.{Outline, variables_in}
use Rattle.xs_model.specs.declared.concrete.Concrete.{Concrete}
use Rattle.xs_model.specs.declared.concrete.Part.{Part}
use Rattle.xs_model.specs.declared.instance.Constraint.TheVariants.{Cumulative}
use Rattle.xs_model.specs.declared.term.Cond.{Cond}
use Rattle.xs_model.specs.declared.term.Term.{Term}
use Rattle.xs_tables.proofs.BelowLemmas.{vars_below}
use Rattle.xs_tables.specs.Extension.{text_in}
use Rattle.xs_tables.specs.Tables.{sizes_meet}
use Rattle.xs_tasks.proofs.LimitLemmas.{limit_is}
use Rattle.xs_tasks.proofs.TermLemmas.{terms_formed}
use Rattle.xs_tasks.specs.Tasks.{are_as_many, are_children, are_even, child_text, cumulative_meets, cumulative_of, ends_meet, ends_of, is_limit_word, limit_meets, tasks_meet, tasks_of, texts_meet}
use Rattle.xs_conditions.specs.Spelling.{word_in}
use Rattle.xs_var.specs.Variable.{spelling_meets}

-- the fields of tasks
fields_formed : (n : ℕ) (vs : List ℕ) (ls hs : List Term) (es : Option (List ℕ)) (x : Cond) → AllByRecursion (IsFormedItem n) (map Variable vs) → AllByRecursion (IsFormedItem n) (map item_of ls)
    → AllByRecursion (IsFormedItem n) (map item_of hs) → ((ends : List ℕ) → es ≡ Some ends → AllByRecursion (IsFormedItem n) (map Variable ends)) → AllByRecursion (IsFormedItem n) (cond_items x)
    → AreFormed n (fields_of (Cumulative vs ls hs es x))
fields_formed n vs ls hs None x o l h e c = (o, (l, (h, (c, tt))))
fields_formed n vs ls hs (Some ends) x o l h e c = (o, (l, (h, (e ends refl, (c, tt)))))

ends_formed : (os : List Outline) (text : Option (List ℕ)) (ends : List ℕ) → ends_of os text ≡ Some ends → AllByRecursion (IsFormedItem (variables_in os)) (map Variable ends)
ends_formed os None ends h = cc h
ends_formed os (Some text) ends h =
    let is : vars_of os text ≡ ends = cc in
    subst (λ (vs : List ℕ). AllByRecursion (IsFormedItem (variables_in os)) (map Variable vs)) is (items_of_below (variables_in os) (vars_of os text) (vars_below os text))

as_many : (n : ℕ) (es : Option (List ℕ)) → are_as_many n es ≡ true → AreAsMany n es
as_many n None h = tt
as_many n (Some ends) h = eqb-true (length ends) n h

-- a limit that misses nothing
record IsGoodLimit (n : ℕ) (x : Cond) : Type 0 where
  pub items : AllByRecursion (IsFormedItem n) (cond_items x)
  pub limit : IsLimit x

good_limit : (os : List Outline) (left : ℕ) (text : List ℕ) → ((k : Condition) → limit_meets os left text k ≡ true) → IsGoodLimit (variables_in os) (condition_of os text)
good_limit os left text met =
    let whole : (k : Condition) → split_meets os (split_in text) k ≡ true = λ k.
    and_left (split_meets os (split_in text) k) (count_meets (length (cond_items (condition_of os text))) left k) (and_right (spelling_meets (is_limit_word (word_in text)) k) (condition_meets os text left k) (met k)) in
    record {
      items = (cond_formed os text (all_met (split_meets os (split_in text)) whole)).items;
      limit = limit_is os text (and_left (is_limit_word (word_in text)) (condition_meets os text left Spelling) (met Spelling)) (whole Spelling);
    }

module _ (os : List Outline) (left : ℕ) (parts : List Part) where
  tasks_good : ((k : Condition) → tasks_meet os left parts k ≡ true) → IsFormed (variables_in os) (tasks_of os parts) × (items_of (tasks_of os parts) ≤ left)
  tasks_good met =
      let origins = child_text (codes "origins") parts in
      let lengths = child_text (codes "lengths") parts in
      let heights = child_text (codes "heights") parts in
      let ends = text_in (codes "ends") parts in
      let condition = child_text (codes "condition") parts in
      let count = items_of (tasks_of os parts) in
      let even = are_even (tasks_of os parts) in
      let texts : (k : Condition) → texts_meet os left parts k ≡ true = λ k. and_left (texts_meet os left parts k) (sizes_meet count left even k) (met k) in
      let sizes : (k : Condition) → sizes_meet count left even k ≡ true = λ k. and_right (texts_meet os left parts k) (sizes_meet count left even k) (met k) in
      let few : count ≤ left = leb-true count left (and_left (nat_le count left) true (sizes Counting)) in
      let fits : even ≡ true = sizes Fitting in
      let m = length (vars_of os origins) in
      let same_lengths = nat_eq (length (terms_of os lengths)) m in
      let same_heights = nat_eq (length (terms_of os heights)) m in
      let same_ends = are_as_many m (ends_of os ends) in
      let firsts : (same_lengths && same_heights) ≡ true = and_left (same_lengths && same_heights) same_ends fits in
      let good = good_limit os left condition (λ k.
      and_right (terms_meet os heights left k && ends_meet os left ends k) (limit_meets os left condition k)
      (and_right (vars_meet os origins left k && terms_meet os lengths left k) ((terms_meet os heights left k && ends_meet os left ends k) && limit_meets os left condition k) (texts k))) in (
        record {
          fields =
              fields_formed (variables_in os) (vars_of os origins) (terms_of os lengths) (terms_of os heights) (ends_of os ends) (condition_of os condition)
              (items_of_below (variables_in os) (vars_of os origins) (vars_below os origins)) (terms_formed os lengths) (terms_formed os heights) (ends_formed os ends) good.items;
          fitting = (
            eqb-true (length (terms_of os lengths)) m (and_left same_lengths same_heights firsts),
            eqb-true (length (terms_of os heights)) m (and_right same_lengths same_heights firsts),
            as_many m (ends_of os ends) (and_right (same_lengths && same_heights) same_ends fits),
            good.limit,
          );
        },
        few,
      )

pub cumulative_good : (os : List Outline) (left : ℕ) (c : Concrete) → first_missed (cumulative_meets os left c) ≡ None → IsFormed (variables_in os) (cumulative_of os c) × (items_of (cumulative_of os c) ≤ left)
cumulative_good os left c h = tasks_good os left c.parts (λ k. and_right (spelling_meets (are_children c.parts) k) (tasks_meet os left c.parts k) (met_at (cumulative_meets os left c) h k))
