-- Borrowed fields, seen as fields.
use Rattle.std.specs.Prelude.{ℕ, List, [], ◌∷◌, map}
use Rattle.xs_forms.specs.declared.borrowed.FieldView.{FieldView as Borrowed}
use Rattle.xs_forms.specs.declared.borrowed.FieldView.TheVariants as borrowed
use Rattle.xs_model.specs.Fields.{Field, Expression, Products, Items, end_items, members, terms, integers, integer, term, ranges, entries, transitions, states, occurrences}
use Rattle.xs_model.specs.Formed.{count_in}

abbrev pub seen : Borrowed → List Field
seen borrowed.Nothing = []
seen (borrowed.Members vs) = members vs.now ∷ []
seen (borrowed.MemberRows rows) = map members rows.now
seen (borrowed.Terms ts) = terms ts.now ∷ []
seen (borrowed.TermRows rows) = map terms rows.now
seen (borrowed.Integers zs) = integers zs.now ∷ []
seen (borrowed.Integer z) = integer z ∷ []
seen (borrowed.Variable v) = members (v ∷ []) ∷ []
seen (borrowed.Term t) = term t ∷ []
seen (borrowed.Ranges bs) = ranges bs.now ∷ []
seen (borrowed.Range b) = Items (end_items b) ∷ []
seen (borrowed.Tuples ts) = map entries ts.now
seen (borrowed.Edges es) = transitions es.now ∷ []
seen (borrowed.States qs) = states qs.now ∷ []
seen borrowed.State = states (0 ∷ []) ∷ []
seen (borrowed.Occurrences os) = occurrences os.now ∷ []
seen (borrowed.Expression e) = Expression e.now ∷ []
seen (borrowed.Products cs vs) = Products cs.now vs.now ∷ []

-- how many items a borrowed field has
abbrev pub items_seen : Borrowed → ℕ
items_seen f = count_in (seen f)
