-- What is written is read again, form by form.
use Rattle.std.proofs.Common.{◌≡◌, ℕ, ℤ, Bool, true, false, List, [], ◌∷◌, Option, None, ◌∙◌, arith}
use Rattle.xf_num.specs.Span.{Bounds}
use Rattle.xs_automata.specs.Mdd.{diagram_meets}
use Rattle.xs_automata.specs.Regular.{automaton_meets}
use Rattle.xs_fields.specs.Conditions.{first_missed}
use Rattle.xs_fields.specs.declared.condition.Condition.{Condition}
use Rattle.xs_fields.proofs.FirstLemmas.{met_at}
use Rattle.xs_language.specs.Law.{IsReadAgain, WrittenAgain, is_limit}
use Rattle.xs_language.specs.Written.{list_text, ranges_text, states_text, transitions_text, tuples_text}
use Rattle.xs_language.proofs.AutomataLemmas.{mdd_again, regular_again}
use Rattle.xs_language.proofs.ElementLemmas.{automaton_freely, diagram_freely, table_freely}
use Rattle.xs_language.proofs.Texts.{AreReadAgain}
use Rattle.xs_language.proofs.WrittenLemmas.{extension_again, unary_again}
use Rattle.xs_model.specs.Accepted.{items_of}
use Rattle.xs_model.specs.Names.{words}
use Rattle.xs_model.specs.Outline.{outlines_of}
use Rattle.xs_model.specs.declared.decl.Decl.{Decl}
use Rattle.xs_model.specs.declared.instance.Edge.{Edge}
use Rattle.xs_tables.specs.Tables.{table_meets}
use Rattle.xs_model.specs.declared.instance.Constraint.TheVariants.{Extension, Unary, Intension, Regular, Mdd, AllDifferent, DifferentLists, DifferentMatrix, AllEqual, Ordered, Lex, LexMatrix, Sum, Count, NValues, Cardinality, Minimum, Maximum, Element, ElementMatrix, Channel, ChannelTwo, ChannelValue, NoOverlap, Cumulative, Circuit, Instantiation}

-- from the texts of the children to the element
table_met : (ds : List Decl) (list text : List ℕ) (most left : ℕ) (k : Condition) → is_limit k ≡ false → first_missed (table_meets (outlines_of ds) most list text) ≡ None → table_meets (outlines_of ds) left list text k ≡ true
table_met ds list text most left k asked h = table_freely (outlines_of ds) left most list text k asked ∙ met_at (table_meets (outlines_of ds) most list text) h k

automaton_met : (ds : List Decl) (list transitions start finals : List ℕ) (most left : ℕ) (k : Condition) → is_limit k ≡ false → first_missed (automaton_meets (outlines_of ds) most list transitions start finals) ≡ None
    → automaton_meets (outlines_of ds) left list transitions start finals k ≡ true
automaton_met ds list transitions start finals most left k asked h =
    automaton_freely (outlines_of ds) left most list transitions start finals k asked ∙ met_at (automaton_meets (outlines_of ds) most list transitions start finals) h k

diagram_met : (ds : List Decl) (list transitions : List ℕ) (most left : ℕ) (k : Condition) → is_limit k ≡ false → first_missed (diagram_meets (outlines_of ds) most list transitions) ≡ None → diagram_meets (outlines_of ds) left list transitions k ≡ true
diagram_met ds list transitions most left k asked h = diagram_freely (outlines_of ds) left most list transitions k asked ∙ met_at (diagram_meets (outlines_of ds) most list transitions) h k

module _ (ds : List Decl) where
  extension_element_again : (vs : List ℕ) (ts : List (List (Option ℤ))) (positive : Bool) → AreReadAgain ds (Extension vs ts positive) → IsReadAgain ds (Extension vs ts positive)
  extension_element_again vs ts true r = record {
    meets = λ left k asked. table_met ds (list_text (words ds) vs) (tuples_text ts) (items_of (Extension vs ts true)) left k asked (r.meets (items_of (Extension vs ts true)) (omega arith));
    allowed = r.meets;
    same = r.same;
  }
  extension_element_again vs ts false r = record {
    meets = λ left k asked. table_met ds (list_text (words ds) vs) (tuples_text ts) (items_of (Extension vs ts false)) left k asked (r.meets (items_of (Extension vs ts false)) (omega arith));
    allowed = r.meets;
    same = r.same;
  }

  unary_element_again : (v : ℕ) (bs : List Bounds) (positive : Bool) → AreReadAgain ds (Unary v bs positive) → IsReadAgain ds (Unary v bs positive)
  unary_element_again v bs true r = record {
    meets = λ left k asked. table_met ds (list_text (words ds) (v ∷ [])) (ranges_text bs) (items_of (Unary v bs true)) left k asked (r.meets (items_of (Unary v bs true)) (omega arith));
    allowed = r.meets;
    same = r.same;
  }
  unary_element_again v bs false r = record {
    meets = λ left k asked. table_met ds (list_text (words ds) (v ∷ [])) (ranges_text bs) (items_of (Unary v bs false)) left k asked (r.meets (items_of (Unary v bs false)) (omega arith));
    allowed = r.meets;
    same = r.same;
  }

  regular_element_again : (vs : List ℕ) (es : List Edge) (start : ℕ) (qs : List ℕ) → AreReadAgain ds (Regular vs es start qs) → IsReadAgain ds (Regular vs es start qs)
  regular_element_again vs es start qs r = record {
    meets = λ left k asked. automaton_met ds (list_text (words ds) vs) (transitions_text es) (states_text (start ∷ [])) (states_text qs) (items_of (Regular vs es start qs)) left k asked (r.meets (items_of (Regular vs es start qs)) (omega arith));
    allowed = r.meets;
    same = r.same;
  }

  mdd_element_again : (vs : List ℕ) (es : List Edge) (root leaf : ℕ) → AreReadAgain ds (Mdd vs es root leaf) → IsReadAgain ds (Mdd vs es root leaf)
  mdd_element_again vs es root leaf r = record {
    meets = λ left k asked. diagram_met ds (list_text (words ds) vs) (transitions_text es) (items_of (Mdd vs es root leaf)) left k asked (r.meets (items_of (Mdd vs es root leaf)) (omega arith));
    allowed = r.meets;
    same = r.same;
  }

pub written_again : WrittenAgain
written_again ds (Extension vs ts positive) is d h numbers = extension_element_again ds vs ts positive (extension_again ds d vs ts positive h)
written_again ds (Unary v bs positive) is d h numbers = unary_element_again ds v bs positive (unary_again ds d v bs positive h)
written_again ds (Regular vs es start qs) is d h numbers = regular_element_again ds vs es start qs (regular_again ds d vs es start qs h numbers)
written_again ds (Mdd vs es root leaf) is d h numbers = mdd_element_again ds vs es root leaf (mdd_again ds d vs es root leaf h numbers)
written_again ds (Intension e) is d h numbers = cc
written_again ds (AllDifferent a b) is d h numbers = cc
written_again ds (DifferentLists a) is d h numbers = cc
written_again ds (DifferentMatrix a) is d h numbers = cc
written_again ds (AllEqual a) is d h numbers = cc
written_again ds (Ordered a b c) is d h numbers = cc
written_again ds (Lex a b) is d h numbers = cc
written_again ds (LexMatrix a b) is d h numbers = cc
written_again ds (Sum a b c) is d h numbers = cc
written_again ds (Count a b c) is d h numbers = cc
written_again ds (NValues a b c) is d h numbers = cc
written_again ds (Cardinality a b c e) is d h numbers = cc
written_again ds (Minimum a b) is d h numbers = cc
written_again ds (Maximum a b) is d h numbers = cc
written_again ds (Element a b c e) is d h numbers = cc
written_again ds (ElementMatrix a b c e f g) is d h numbers = cc
written_again ds (Channel a b) is d h numbers = cc
written_again ds (ChannelTwo a b c e) is d h numbers = cc
written_again ds (ChannelValue a b c) is d h numbers = cc
written_again ds (NoOverlap a b c) is d h numbers = cc
written_again ds (Cumulative a b c e f) is d h numbers = cc
written_again ds (Circuit a b c) is d h numbers = cc
written_again ds (Instantiation a b) is d h numbers = cc
