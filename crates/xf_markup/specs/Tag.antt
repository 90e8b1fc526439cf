-- The rest of an open tag behind its name, and end tags (XML 1.0, sections 2.3 "White space", 2.3 "Literals" and 3.1
-- "Start-tags, end-tags, and empty-element tags").
use Rattle.std.specs.Prelude.{ℕ, suc, zero, ◌+◌, ◌==◌, Bool, true, false, ◌&&◌, ◌||◌, List, [], ◌∷◌, ◌++◌, length, take, drop, slice_index, ◌-◌, not, Option, None, Some, if◌then◌else◌}
use Rattle.std.specs.Str.{bytes_eq}
use Rattle.memchr.specs.Find.{places, first_of, is_byte2}
use Rattle.xf_markup.specs.declared.tree.Attr.{Attr}
use Rattle.xf_markup.specs.declared.tag.Tag.{Tag}
use Rattle.xf_markup.specs.Names.{run, is_name, is_name_start}

abbrev pub is_blank : ℕ → Bool
is_blank b = b == 32 || b == 9 || b == 10 || b == 13

abbrev pub past_blanks : List ℕ → List ℕ
past_blanks bytes = drop (run is_blank bytes) bytes

-- the bytes behind whitespace of at least one byte
abbrev pub spaced_at : List ℕ → Option (List ℕ)
spaced_at bytes = if run is_blank bytes == 0 then None else Some (past_blanks bytes)

-- a name, and the bytes behind it
abbrev pub named_at : List ℕ → Option (List ℕ × List ℕ)
named_at bytes = if not (is_name_start (slice_index bytes 0)) then None else Some (take (run is_name bytes) bytes, drop (run is_name bytes) bytes)

-- the bytes behind `=` with whitespace round it
abbrev pub equals_at : List ℕ → Option (List ℕ)
equals_at bytes = if slice_index (past_blanks bytes) 0 == 61 then Some (past_blanks (drop 1 (past_blanks bytes))) else None

-- the bytes up to the first q, before which no `<` stands, and the bytes behind that q
abbrev pub closed_at : ℕ → List ℕ → Option ℕ → Option (List ℕ × List ℕ)
closed_at q bytes None = None
closed_at q bytes (Some n) = if slice_index bytes n == q then Some (take n bytes, drop (n + 1) bytes) else None

abbrev pub until_quote : ℕ → List ℕ → Option (List ℕ × List ℕ)
until_quote q bytes = closed_at q bytes (first_of (places (is_byte2 q 60) bytes))

-- a value in quotes, and the bytes behind it
abbrev pub quoted_at : List ℕ → Option (List ℕ × List ℕ)
quoted_at bytes = if slice_index bytes 0 == 34 || slice_index bytes 0 == 39 then until_quote (slice_index bytes 0) (drop 1 bytes) else None

infixl 10 ◌>>=◌
abbrev pub ◌>>=◌ : {A B : Type 0} → Option A → (A → Option B) → Option B
(Some x) >>= f = f x
None >>= f = None

-- an attribute's name and value, and the bytes behind it
unfoldable pub attr_at : List ℕ → Option (List ℕ × List ℕ × List ℕ)
attr_at bytes = do
  a ← spaced_at bytes
  n ← named_at a
  v ← equals_at n.1
  q ← quoted_at v
  Some (n.0, q.0, q.1)

-- whether the tag ends here as an empty one, and the bytes behind it
unfoldable pub end_at : List ℕ → Option (Bool × List ℕ)
end_at bytes =
    if slice_index (past_blanks bytes) 0 == 62 then Some (false, drop 1 (past_blanks bytes))
    else if slice_index (past_blanks bytes) 0 == 47 && slice_index (past_blanks bytes) 1 == 62 then Some (true, drop 2 (past_blanks bytes))
    else None

pub record Tail : Type 0 where
  pub attrs : List Attr
  pub is_empty : Bool
  pub rest : List ℕ

abbrev pub with_front : List Attr → Option Tail → Option Tail
with_front xs None = None
with_front xs (Some t) = Some (record { attrs = xs ++ t.attrs; is_empty = t.is_empty; rest = t.rest })

abbrev pub attr_of : List ℕ → List ℕ → Attr
attr_of name value = record { name = name; value = value }

-- the end of the tag, where it is here
abbrev pub tail_of : Option (Bool × List ℕ) → Option Tail → Option Tail
tail_of (Some e) more = Some (record { attrs = []; is_empty = e.0; rest = e.1 })
tail_of None more = more

abbrev pub tail_on : Option (List ℕ × List ℕ × List ℕ) → (List ℕ → Option Tail) → Option Tail
tail_on None more = None
tail_on (Some x) more = with_front (attr_of x.0 x.1 ∷ []) (more x.2)

-- at most n attributes, and the end of the tag
abbrev pub tail_at : ℕ → List ℕ → Option Tail
tail_at zero bytes = None
tail_at (suc n) bytes = tail_of (end_at bytes) (tail_on (attr_at bytes) (tail_at n))

-- an open or empty tag: the length of its name, its attributes, and its whole length
abbrev pub tag_at : List ℕ → Option Tag
tag_at bytes = do
  n ← named_at (drop 1 bytes)
  t ← tail_at (length n.1 + 1) n.1
  Some (record { name = length n.0; attrs = t.attrs; is_empty = t.is_empty; size = length bytes - length t.rest })

-- the bytes behind whitespace and `>`
abbrev pub closing_at : List ℕ → Option (List ℕ)
closing_at bytes = if slice_index (past_blanks bytes) 0 == 62 then Some (drop 1 (past_blanks bytes)) else None

-- an end tag: the length of its name, and its whole length
abbrev pub end_tag_at : List ℕ → Option (ℕ × ℕ)
end_tag_at bytes = do
  n ← named_at (drop 2 bytes)
  r ← closing_at n.1
  Some (length n.0, length bytes - length r)

-- no name is repeated
abbrev pub is_new : List Attr → List ℕ → Bool
is_new [] name = true
is_new (a ∷ more) name = not (bytes_eq a.name name) && is_new more name

abbrev pub are_distinct : List Attr → Bool
are_distinct [] = true
are_distinct (a ∷ more) = is_new more a.name && are_distinct more

-- what the code answers, with the attributes that it appended to none
abbrev pub seen : Option (Bool × List ℕ) → List Attr → Option Tail
seen None out = None
seen (Some e) out = Some (record { attrs = out; is_empty = e.0; rest = e.1 })
