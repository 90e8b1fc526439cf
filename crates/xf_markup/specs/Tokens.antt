-- The token that some bytes begin with (XML 1.0, sections 2.4 "Character data and markup", 2.5 "Comments" and 3.1).
use Rattle.std.specs.Prelude.{ℕ, ◌+◌, ◌≤◌, ⊤, nat_eq, ◌==◌, Bool, List, length, take, drop, codes, Option, None, Some, if◌then◌else◌}
use Rattle.std.specs.List.{starts_with}
use Rattle.std.specs.Option.{option_map, unwrap_or}
use Rattle.memchr.specs.Find.{matches, places, first_of, is_byte2}
use Rattle.xf_markup.specs.declared.tree.Attr.{Attr}
use Rattle.xf_markup.specs.Tag.{tag_at, end_tag_at}
use Rattle.xf_markup.specs.declared.cut.Cut.{Cut}
use Rattle.xf_markup.specs.declared.cut.Cut.TheVariants.{Opens as opens, Closes as closes, Remark as remark, Says as says}

-- place is where the tag stands in the file
pub data Token : Type 0 where
  Opens : (place : ℕ) → (name : List ℕ) → (attrs : List Attr) → (is_empty : Bool) → Token
  Closes : (name : List ℕ) → Token
  Remark : Token
  Says : (words : List ℕ) → Token

-- the length of a comment's inside
abbrev pub remark_at : List ℕ → Option ℕ
remark_at bytes = first_of (matches bytes (codes "-->") 0)

-- the length of the text, which ends before `<` and `&`
abbrev pub text_at : List ℕ → ℕ
text_at bytes = unwrap_or (first_of (places (is_byte2 60 38) bytes)) (length bytes)

unfoldable pub cut_at : List ℕ → Option Cut
cut_at bytes =
    if starts_with nat_eq bytes (codes "<!--") then option_map remark (remark_at (drop 4 bytes))
    else if starts_with nat_eq bytes (codes "</") then option_map (λ p. closes p.0 p.1) (end_tag_at bytes)
    else if starts_with nat_eq bytes (codes "<") then option_map opens (tag_at bytes)
    else if text_at bytes == 0 then None else Some (says (text_at bytes))

abbrev pub size : Cut → ℕ
size (opens t) = t.size
size (closes n whole) = whole
size (remark n) = n + 7
size (says n) = n

abbrev pub token : ℕ → List ℕ → Cut → Token
token place bytes (opens t) = Opens place (take t.name (drop 1 bytes)) t.attrs t.is_empty
token place bytes (closes n whole) = Closes (take n (drop 2 bytes))
token place bytes (remark n) = Remark
token place bytes (says n) = Says (take n bytes)

-- the name of a tag lies within so many bytes
abbrev pub HasRoom : Cut → ℕ → Type 0
HasRoom (opens t) len = t.name + 1 ≤ len
HasRoom (closes n whole) len = n + 2 ≤ len
HasRoom (remark n) len = ⊤
HasRoom (says n) len = ⊤
