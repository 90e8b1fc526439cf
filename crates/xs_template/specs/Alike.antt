-- Places past the limit on words need not be told apart.
use Rattle.std.specs.Prelude.{◌≡◌, ◌≤◌, nat_le, nat_lt, ℕ, true, List, length}
use Rattle.xf_markup.specs.declared.tree.Node.{Node}
use Rattle.xs_template.specs.Concrete.{asked_of, filled_text, is_open, made_of}
use Rattle.xs_template.specs.Template.{as_written, most_words, within_words}

-- where the words are within the limit, a template asks for no more words, whether its places are told as they are written
-- or within the limit, and then makes the same of them
pub record AreAlikePlaces : Type 0 where
  pub some : (t : Node) → nat_lt 0 (asked_of within_words t) ≡ nat_lt 0 (asked_of as_written t)
  pub open_ended : (t : Node) → is_open within_words t ≡ is_open as_written t
  pub enough : (t : Node) (count : ℕ) → count ≤ most_words → nat_le (asked_of within_words t) count ≡ nat_le (asked_of as_written t) count
  pub asked : (t : Node) (count : ℕ) → count ≤ most_words → nat_le (asked_of as_written t) count ≡ true → asked_of within_words t ≡ asked_of as_written t
  pub made : (t : Node) (words : List (List ℕ)) (asked place : ℕ) → length words ≤ most_words → made_of (filled_text within_words words asked) place t ≡ made_of (filled_text as_written words asked) place t
