-- The tokens of the lines of a model.
use Rattle.std.proofs.Common.{◌≡◌, inl, inr, ℕ, ◌≤◌, ℤ, Bool as Truth, true, false, Option, Some, None, List, [], ◌∷◌, ◌++◌, length, map, refl, ap, sym, subst, ◌∙◌, arith, append_assoc, true≢false, codes}
use Rattle.std.specs.List.{AllByRecursion, list_all, flat_map}
use Rattle.std.specs.Fmt.{decimal, signed_decimal}
use Rattle.std.proofs.lemmas.Fmt.{decimal_digit}
use Rattle.xf_num.specs.Span.{Bounds}
use Rattle.xf_num.specs.Domain.{Ascends}
use Rattle.fz_model.specs.declared.builtin.Builtin.{Builtin}
use Rattle.fz_model.specs.declared.model.Arg.{Arg}
use Rattle.fz_model.specs.declared.model.Call.{Call}
use Rattle.fz_model.specs.declared.model.FzVar.{FzVar}
use Rattle.fz_model.specs.declared.model.Goal as flat
use Rattle.fz_model.specs.declared.model.Goal.TheVariants as goal
use Rattle.fz_model.specs.declared.model.Output.{Output}
use Rattle.fz_model.specs.Builtins.{all, look_up, name_of}
use Rattle.fz_model.proofs.Names.{by_name-name_of}
use Rattle.fz_model.specs.Kinds.{kinds_at}
use Rattle.fz_model.specs.Limits.{limit, IsSmall, exactly}
use Rattle.fz_model.specs.Sound.{IsName, IsRange, HasOwnDomain, IsEqualTo, asked_of, IsVar, IsOutput, IsCall, IsGoal}
use Rattle.fz_file.specs.Layout.{arg_text, name_at, names_of, range_text, set_text, domain_text, type_text, shown_text, equal_text, var_line, member_text, output_head, dims_head, dims_text, output_line, call_head, call_line, goal_text, goal_line, numbers, integers_of}
use Rattle.fz_file.specs.Layout as layout
use Rattle.std.proofs.lemmas.Bool.{and_parts}
use Rattle.std.proofs.lemmas.Option.{slice_get_within}
use Rattle.std.specs.Prelude.{slice_get, not, ◌&&◌, if◌then◌else◌}
use Rattle.std.specs.Str.{bytes_eq}
use Rattle.fz_tokens.specs.Bytes.{is_letter, is_in_name, is_keyword}
use Rattle.fz_tokens.specs.Tokens.{Token}
use Rattle.fz_grammar.specs.Parts.{key}
use Rattle.fz_grammar.specs.Expressions.{flat as tokens, listed, number, name as name_token}
use Rattle.fz_again.specs.Tree.{expr_of, range_of}
use Rattle.fz_again.proofs.Cuts.{Cuts, join, nothing, Any, NoSpace, EndsWord, EndsNumber, IsWord, keyword, identifier, name, count, colon, colons, space, line_end, dots}
use Rattle.fz_again.proofs.Ends.{Ends, ends_word, ends_number, dots_end, before, open_round, close_round, open_square, close_square, semicolon, equals}
use Rattle.fz_again.proofs.Arguments.{AllSpell, range_cuts, range_spells, set_cuts, small_integers, all_listed, single_spells, singles_spell, kinds_spell, named, letter_first, name_first, range_first}

-- the words of the layout

space_key : (w : List ℕ) → IsWord w → is_keyword w ≡ true → Cuts (w ++ codes " ") (key w ∷ []) NoSpace
space_key w h k = join (keyword w h k) space (λ rest o. refl)

pub var_word : Cuts (codes "var ") (key (codes "var") ∷ []) NoSpace
var_word = space_key (codes "var") (refl, refl) refl

pub typed : Cuts (codes ": ") (key (codes ":") ∷ []) NoSpace
typed = join colon space (λ rest o. refl)

pub ending : Cuts (codes ";\n") (key (codes ";") ∷ []) NoSpace
ending = join semicolon line_end (λ rest o. tt)

abbrev note_tokens : List ℕ → List Token
note_tokens w = key (codes "::") ∷ name_token w ∷ []

pub shown_word : Cuts (codes " :: output_var") (note_tokens (codes "output_var")) EndsWord
shown_word = join space (join colons (join space (identifier (codes "output_var") (refl, refl) refl) (λ rest o. refl)) (λ rest o. tt)) (λ rest o. refl)

pub equal_word : Cuts (codes " = ") (key (codes "=") ∷ []) NoSpace
equal_word = join space (join equals space (λ rest o. tt)) (λ rest o. refl)

-- types

abbrev pub type_tokens : Truth → List Bounds → List Token
type_tokens true domain = key (codes "bool") ∷ []
type_tokens false [] = []
type_tokens false (b ∷ []) = number (signed_decimal b.lo) ∷ key (codes "..") ∷ number (signed_decimal b.hi) ∷ []
type_tokens false (b ∷ c ∷ bs) = key (codes "{") ∷ (listed (map (λ n. number n ∷ []) (numbers (integers_of b ++ flat_map integers_of (c ∷ bs)))) ++ key (codes "}") ∷ [])

pub ranges : (b : Bounds) (bs : List Bounds) → Ascends b bs → AllByRecursion IsSmall (b ∷ bs) → AllByRecursion IsRange (b ∷ bs)
ranges b [] a h = (record { ordered = a; small = h.0 }, tt)
ranges b (c ∷ cs) a h = (record { ordered = a.0; small = h.0 }, ranges c cs a.2 h.1)

abbrev pub SmallAll : List ℤ → Type 0
SmallAll zs = AllByRecursion (λ k. IsSmall (exactly k)) zs

small_join : (xs ys : List ℤ) → SmallAll xs → SmallAll ys → SmallAll (xs ++ ys)
small_join [] ys h k = k
small_join (x ∷ xs) ys h k = (h.0, small_join xs ys h.1 k)

pub small_members : (bs : List Bounds) → AllByRecursion IsRange bs → SmallAll (flat_map integers_of bs)
small_members [] h = tt
small_members (b ∷ bs) h = small_join (integers_of b) (flat_map integers_of bs) (small_integers b h.0) (small_members bs h.1)

pub type_cuts : (boolean : Truth) (domain : List Bounds) → HasOwnDomain boolean domain → Cuts (type_text boolean domain) (type_tokens boolean domain) Ends
type_cuts true domain h = before ends_word (keyword (codes "bool") (refl, refl) refl)
type_cuts false [] h = absurd h.0
type_cuts false (b ∷ []) h = range_cuts b (ranges b [] h.0 h.1).0
type_cuts false (b ∷ c ∷ bs) h =
    let all = ranges b (c ∷ bs) h.0 h.1 in
    set_cuts (integers_of b ++ flat_map integers_of (c ∷ bs)) (small_members (b ∷ c ∷ bs) all)

type_first : (boolean : Truth) (domain : List Bounds) (rest : List ℕ) → HasOwnDomain boolean domain → NoSpace (type_text boolean domain ++ rest)
type_first true domain rest h = refl
type_first false [] rest h = absurd h.0
type_first false (b ∷ []) rest h = range_first b (ranges b [] h.0 h.1).0 rest
type_first false (b ∷ c ∷ bs) rest h = refl

-- variables

abbrev pub shown_tokens : Truth → List Token
shown_tokens true = note_tokens (codes "output_var")
shown_tokens false = []

abbrev pub value_tokens : List (List ℕ) → Option Arg → List Token
value_tokens names None = []
value_tokens names (Some a) = key (codes "=") ∷ tokens (expr_of names a)

abbrev pub var_tokens : List (List ℕ) → FzVar → List Token
var_tokens names v = key (codes "var") ∷ (type_tokens v.boolean v.domain ++ (key (codes ":") ∷ name_token v.name ∷ (shown_tokens v.shown ++ (value_tokens names v.equal ++ key (codes ";") ∷ []))))

shown_cuts : (shown : Truth) → Cuts (shown_text shown) (shown_tokens shown) Ends
shown_cuts true = before ends_word shown_word
shown_cuts false = nothing Ends

shown_end : (shown : Truth) (rest : List ℕ) → Ends rest → Ends (shown_text shown ++ rest)
shown_end true rest o = inr (inr (inr (inr (inr (inl refl)))))
shown_end false rest o = o

abbrev pub member_tokens : Truth → List Token
member_tokens true = key (codes "bool") ∷ []
member_tokens false = key (codes "int") ∷ []

abbrev pub dims_tokens : List Bounds → List Token
dims_tokens dims = listed (map tokens (map range_of dims))

abbrev pub members_tokens : List (List ℕ) → List Arg → List Token
members_tokens names xs = listed (map tokens (map (expr_of names) xs))

abbrev pub output_tokens : List (List ℕ) → Output → List Token
output_tokens names o =
    key (codes "array") ∷ key (codes "[") ∷ number (codes "1") ∷ key (codes "..") ∷ number (decimal (length o.members)) ∷ key (codes "]") ∷ key (codes "of") ∷ key (codes "var")
    ∷ (member_tokens o.boolean
    ++ (key (codes ":") ∷ name_token o.name ∷ key (codes "::") ∷ name_token (codes "output_array") ∷ key (codes "(") ∷ key (codes "[")
    ∷ (dims_tokens o.dims ++ (key (codes "]") ∷ key (codes ")") ∷ key (codes "=") ∷ key (codes "[") ∷ (members_tokens names o.members ++ key (codes "]") ∷ key (codes ";") ∷ [])))))

abbrev pub call_tokens : List (List ℕ) → Call → List Token
call_tokens names c = key (codes "constraint") ∷ name_token (name_of c.builtin) ∷ key (codes "(") ∷ (members_tokens names c.args ++ key (codes ")") ∷ key (codes ";") ∷ [])

abbrev pub goal_tokens : List (List ℕ) → flat.Goal → List Token
goal_tokens names goal.Satisfy = key (codes "satisfy") ∷ []
goal_tokens names (goal.Minimize k) = key (codes "minimize") ∷ name_token (name_at names k) ∷ []
goal_tokens names (goal.Maximize k) = key (codes "maximize") ∷ name_token (name_at names k) ∷ []

abbrev pub solve_tokens : List (List ℕ) → flat.Goal → List Token
solve_tokens names g = key (codes "solve") ∷ (goal_tokens names g ++ key (codes ";") ∷ [])

-- the names of the builtins are identifiers and no words of the grammar

abbrev is_word : List ℕ → Truth
is_word [] = false
is_word (c ∷ cs) = is_letter c && list_all is_in_name cs

abbrev passes : Builtin → Truth
passes b = is_word (name_of b) && not (is_keyword (name_of b))

word_is : (w : List ℕ) → is_word w ≡ true → IsWord w
word_is [] h = absurd (true≢false (sym h))
word_is (c ∷ cs) h = and_parts (is_letter c) (list_all is_in_name cs) h

abbrev is_there : Option Builtin → Truth
is_there None = false
is_there (Some b) = true

abbrev there_or : Builtin → Option Builtin → Builtin
there_or c None = c
there_or c (Some b) = b

found : (p : Builtin → Truth) (bs : List Builtin) (w : List ℕ) (b : Builtin) → list_all p bs ≡ true → look_up bs w ≡ Some b → p b ≡ true
found p [] w b h e = absurd (true≢false (sym (ap is_there e)))
found p (c ∷ cs) w b h e =
    let parts = and_parts (p c) (list_all p cs) h in
    here (bytes_eq (name_of c) w) parts.0 (found p cs w b parts.1) e
  where
    here : (t : Truth) → p c ≡ true → (look_up cs w ≡ Some b → p b ≡ true) → (if t then Some c else look_up cs w) ≡ Some b → p b ≡ true
    here true x later g = subst (λ (y : Builtin). p y ≡ true) (ap (there_or c) g) x
    here false x later g = later g

-- what holds of each row holds of each builtin
pub every_builtin : (p : Builtin → Truth) → list_all p all ≡ true → (b : Builtin) → p b ≡ true
every_builtin p h b = found p all (name_of b) b h (by_name-name_of b)

not_false : (t : Truth) → not t ≡ true → t ≡ false
not_false true h = sym h
not_false false h = refl

builtin_word : (b : Builtin) → IsWord (name_of b) × (is_keyword (name_of b) ≡ false)
builtin_word b =
    let p = and_parts (is_word (name_of b)) (not (is_keyword (name_of b))) (every_builtin passes refl b) in
    (word_is (name_of b) p.0, not_false (is_keyword (name_of b)) p.1)

module _ (names : List (List ℕ)) (good : AllByRecursion IsName names) where
  -- what a line has of arguments

  equal_cuts : (booleans : List Truth) (boolean : Truth) (equal : Option Arg) → length booleans ≤ length names → IsEqualTo booleans (asked_of boolean) equal → Cuts (equal_text names equal) (value_tokens names equal) Ends
  equal_cuts booleans boolean None le h = nothing Ends
  equal_cuts booleans boolean (Some a) le h =
      let s = single_spells names good booleans le (asked_of boolean) a h in
      join equal_word s.cut (λ rest o. s.first rest)

  equal_end : (equal : Option Arg) (rest : List ℕ) → Ends rest → Ends (equal_text names equal ++ rest)
  equal_end None rest o = o
  equal_end (Some a) rest o = inr (inr (inr (inr (inr (inl refl)))))

  semi_end : (rest : List ℕ) → Ends (codes ";\n" ++ rest)
  semi_end rest = inr (inr (inr (inr (inl refl))))

  tail_end : (shown : Truth) (equal : Option Arg) (rest : List ℕ) → Ends ((shown_text shown ++ (equal_text names equal ++ codes ";\n")) ++ rest)
  tail_end shown equal rest =
      subst Ends (sym (append_assoc (shown_text shown) (equal_text names equal ++ codes ";\n") rest ∙ ap (λ z. shown_text shown ++ z) (append_assoc (equal_text names equal) (codes ";\n") rest)))
      (shown_end shown (equal_text names equal ++ (codes ";\n" ++ rest)) (equal_end equal (codes ";\n" ++ rest) (semi_end rest)))

  equal_tail : (equal : Option Arg) (rest : List ℕ) → Ends ((equal_text names equal ++ codes ";\n") ++ rest)
  equal_tail equal rest = tail_end false equal rest

  pub var_cuts : (booleans : List Truth) (v : FzVar) → length booleans ≤ length names → IsName v.name → IsVar booleans v → Cuts (var_line names v) (var_tokens names v) NoSpace
  var_cuts booleans v le named h =
      join var_word
      (join (type_cuts v.boolean v.domain h.domain)
      (join typed
      (join (before ends_word (name v.name named))
      (join (shown_cuts v.shown)
      (join (equal_cuts booleans v.boolean v.equal le h.equal) ending (λ rest o. semi_end rest))
      (λ rest o. equal_tail v.equal rest))
      (λ rest o. tail_end v.shown v.equal rest))
      (λ rest o. name_begins v.name (shown_text v.shown ++ (equal_text names v.equal ++ codes ";\n")) rest named))
      (λ rest o. inr (inr (inr (inr (inr (inr refl)))))))
      (λ rest o. type_begins v.boolean v.domain (codes ": " ++ (v.name ++ (shown_text v.shown ++ (equal_text names v.equal ++ codes ";\n")))) rest h.domain)
    where
      name_begins : (w t rest : List ℕ) → IsName w → NoSpace ((w ++ t) ++ rest)
      name_begins w t rest k = subst NoSpace (sym (append_assoc w t rest)) (name_first w (t ++ rest) k)

      type_begins : (b : Truth) (d : List Bounds) (t rest : List ℕ) → HasOwnDomain b d → NoSpace ((type_text b d ++ t) ++ rest)
      type_begins b d t rest k = subst NoSpace (sym (append_assoc (type_text b d) t rest)) (type_first b d (t ++ rest) k)

  -- output arrays

  one_cuts : Cuts (codes "1") (number (codes "1") ∷ []) EndsNumber
  one_cuts = subst (λ (w : List ℕ). Cuts w (number w ∷ []) EndsNumber) (decimal_digit 1 (omega arith)) (count 1 (omega arith))

  array_word : Cuts (codes "array [1..") (key (codes "array") ∷ key (codes "[") ∷ number (codes "1") ∷ key (codes "..") ∷ []) Any
  array_word = join (keyword (codes "array") (refl, refl) refl) (join space (join open_square (join one_cuts dots (λ rest o. dots_end rest)) (λ rest o. tt)) (λ rest o. refl)) (λ rest o. refl)

  of_word : Cuts (codes "] of var ") (key (codes "]") ∷ key (codes "of") ∷ key (codes "var") ∷ []) NoSpace
  of_word = join close_square (join space (join (space_key (codes "of") (refl, refl) refl) var_word (λ rest o. refl)) (λ rest o. refl)) (λ rest o. tt)

  member_cuts : (t : Truth) → Cuts (member_text t) (member_tokens t) EndsWord
  member_cuts true = keyword (codes "bool") (refl, refl) refl
  member_cuts false = keyword (codes "int") (refl, refl) refl

  member_first : (t : Truth) (rest : List ℕ) → NoSpace (member_text t ++ rest)
  member_first true rest = refl
  member_first false rest = refl

  head_cuts : (o : Output) → length o.members ≤ limit → IsName o.name → Cuts (output_head o) (key (codes "array") ∷ key (codes "[") ∷ number (codes "1") ∷ key (codes "..") ∷ number (decimal (length o.members)) ∷ key (codes "]") ∷ key (codes "of") ∷ key (codes "var") ∷ (member_tokens o.boolean ++ (key (codes ":") ∷ name_token o.name ∷ []))) EndsWord
  unfolding output_head
  head_cuts o few named =
      join array_word
      (join (count (length o.members) few)
      (join of_word
      (join (member_cuts o.boolean) (join typed (name o.name named) (λ rest e. name_first o.name rest named)) (λ rest e. refl))
      (λ rest e. subst NoSpace (sym (append_assoc (member_text o.boolean) (codes ": " ++ o.name) rest)) (member_first o.boolean ((codes ": " ++ o.name) ++ rest))))
      (λ rest e. ends_number (codes "] of var " ++ ((member_text o.boolean ++ (codes ": " ++ o.name)) ++ rest)) (inr (inl refl))))
      (λ rest e. tt)

  dims_head_cuts : Cuts dims_head (key (codes "::") ∷ name_token (codes "output_array") ∷ key (codes "(") ∷ key (codes "[") ∷ []) Any
  unfolding dims_head
  dims_head_cuts = join space (join colons (join space (join (identifier (codes "output_array") (refl, refl) refl) (join open_round open_square (λ rest e. tt)) (λ rest e. refl)) (λ rest e. refl)) (λ rest e. tt)) (λ rest e. refl)

  pub dims_spell : (dims : List Bounds) → AllByRecursion IsRange dims → AllSpell range_text range_of dims
  dims_spell [] h = tt
  dims_spell (s ∷ ss) h = (range_spells s h.0, dims_spell ss h.1)

  close_dims : Cuts (codes "])") (key (codes "]") ∷ key (codes ")") ∷ []) Any
  close_dims = join close_square close_round (λ rest e. tt)

  dims_cuts : (dims : List Bounds) → AllByRecursion IsRange dims → Cuts (dims_text dims) (key (codes "::") ∷ name_token (codes "output_array") ∷ key (codes "(") ∷ key (codes "[") ∷ (dims_tokens dims ++ key (codes "]") ∷ key (codes ")") ∷ [])) Any
  dims_cuts dims h = join dims_head_cuts (join (all_listed range_text range_of dims (dims_spell dims h)) close_dims (λ rest e. inr (inl refl))) (λ rest e. tt)

  equal_list : Cuts (codes " = [") (key (codes "=") ∷ key (codes "[") ∷ []) Any
  equal_list = join equal_word open_square (λ rest e. refl)

  close_list : Cuts (codes "];\n") (key (codes "]") ∷ key (codes ";") ∷ []) NoSpace
  close_list = join close_square ending (λ rest e. tt)

  head_end : (dims : List Bounds) (rest : List ℕ) → EndsWord (dims_text dims ++ rest)
  unfolding dims_head
  head_end dims rest = refl

  output_grouped : (o : Output) → ((key (codes "array") ∷ key (codes "[") ∷ number (codes "1") ∷ key (codes "..") ∷ number (decimal (length o.members)) ∷ key (codes "]") ∷ key (codes "of") ∷ key (codes "var") ∷ (member_tokens o.boolean ++ (key (codes ":") ∷ name_token o.name ∷ [])))
      ++ ((key (codes "::") ∷ name_token (codes "output_array") ∷ key (codes "(") ∷ key (codes "[") ∷ (dims_tokens o.dims ++ key (codes "]") ∷ key (codes ")") ∷ [])) ++ (key (codes "=") ∷ key (codes "[") ∷ (members_tokens names o.members ++ key (codes "]") ∷ key (codes ";") ∷ [])))) ≡ output_tokens names o
  output_grouped o =
      ap (λ z. key (codes "array") ∷ key (codes "[") ∷ number (codes "1") ∷ key (codes "..") ∷ number (decimal (length o.members)) ∷ key (codes "]") ∷ key (codes "of") ∷ key (codes "var") ∷ z)
      (append_assoc (member_tokens o.boolean) (key (codes ":") ∷ name_token o.name ∷ []) _
      ∙ ap (λ z. member_tokens o.boolean ++ (key (codes ":") ∷ name_token o.name ∷ key (codes "::") ∷ name_token (codes "output_array") ∷ key (codes "(") ∷ key (codes "[") ∷ z))
      (append_assoc (dims_tokens o.dims) (key (codes "]") ∷ key (codes ")") ∷ []) (key (codes "=") ∷ key (codes "[") ∷ (members_tokens names o.members ++ key (codes "]") ∷ key (codes ";") ∷ []))))

  pub output_cuts : (booleans : List Truth) (o : Output) → length booleans ≤ length names → IsName o.name → IsOutput booleans o → Cuts (output_line names o) (output_tokens names o) NoSpace
  unfolding output_line
  output_cuts booleans o le named h =
      subst (λ (z : List Token). Cuts (output_line names o) z NoSpace) (output_grouped o)
      (join (head_cuts o h.few named)
      (join (dims_cuts o.dims h.dims)
      (join equal_list (join (all_listed (arg_text names) (expr_of names) o.members (singles_spell names good booleans le (asked_of o.boolean) o.members h.each)) close_list (λ rest e. inr (inl refl))) (λ rest e. tt))
      (λ rest e. tt))
      (λ rest e. subst EndsWord (sym (append_assoc (dims_text o.dims) (codes " = [" ++ (layout.listed (map (arg_text names) o.members) ++ codes "];\n")) rest)) (head_end o.dims ((codes " = [" ++ (layout.listed (map (arg_text names) o.members) ++ codes "];\n")) ++ rest))))

  -- calls

  close_call : Cuts (codes ");\n") (key (codes ")") ∷ key (codes ";") ∷ []) NoSpace
  close_call = join close_round ending (λ rest e. tt)

  head_of_call : (b : Builtin) → Cuts (call_head b) (key (codes "constraint") ∷ name_token (name_of b) ∷ []) EndsWord
  unfolding call_head
  head_of_call b = join (space_key (codes "constraint") (refl, refl) refl) (identifier (name_of b) (builtin_word b).0 (builtin_word b).1) (λ rest e. letter_first (name_of b) rest (builtin_word b).0)

  pub call_cuts : (booleans : List Truth) (c : Call) → length booleans ≤ length names → IsCall booleans c → Cuts (call_line names c) (call_tokens names c) NoSpace
  call_cuts booleans c le h =
      join (head_of_call c.builtin)
      (join open_round
      (join (all_listed (arg_text names) (expr_of names) c.args (kinds_spell names good booleans le (kinds_at c.builtin (length c.args)) c.args h.kinds)) close_call (λ rest e. inr (inr (inl refl))))
      (λ rest e. tt))
      (λ rest e. refl)

  -- the goal

  name_of_goal : (booleans : List Truth) (k : ℕ) → length booleans ≤ length names → slice_get booleans k ≡ Some false → IsName (name_at names k)
  name_of_goal booleans k le e = named names k good (omega (arith, slice_get_within booleans k false e))

  goal_cuts : (booleans : List Truth) (g : flat.Goal) → length booleans ≤ length names → IsGoal booleans g → Cuts (goal_text names g) (goal_tokens names g) EndsWord
  goal_cuts booleans goal.Satisfy le h = keyword (codes "satisfy") (refl, refl) refl
  goal_cuts booleans (goal.Minimize k) le h = let w = name_of_goal booleans k le h in join (space_key (codes "minimize") (refl, refl) refl) (name (name_at names k) w) (λ rest e. name_first (name_at names k) rest w)
  goal_cuts booleans (goal.Maximize k) le h = let w = name_of_goal booleans k le h in join (space_key (codes "maximize") (refl, refl) refl) (name (name_at names k) w) (λ rest e. name_first (name_at names k) rest w)

  goal_first : (g : flat.Goal) (rest : List ℕ) → NoSpace (goal_text names g ++ rest)
  goal_first goal.Satisfy rest = refl
  goal_first (goal.Minimize k) rest = refl
  goal_first (goal.Maximize k) rest = refl

  pub goal_line_cuts : (booleans : List Truth) (g : flat.Goal) → length booleans ≤ length names → IsGoal booleans g → Cuts (goal_line names g) (solve_tokens names g) NoSpace
  goal_line_cuts booleans g le h =
      join (space_key (codes "solve") (refl, refl) refl)
      (join (goal_cuts booleans g le h) ending (λ rest e. refl))
      (λ rest e. subst NoSpace (sym (append_assoc (goal_text names g) (codes ";\n") rest)) (goal_first g (codes ";\n" ++ rest)))
