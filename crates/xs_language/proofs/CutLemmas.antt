-- How texts of words, tuples and ranges are cut as they were put together.
use Rattle.std.proofs.Common.{◌≡◌, ℕ, ◌<◌, Bool, true, false, not, ◌&&◌, ◌||◌, nat_eq, if◌then◌else◌, cond, List, [], ◌∷◌, ◌++◌, length, codes, Some, refl, ap, ◌∙◌, append-nil, append_assoc, arith}
use Rattle.std.specs.List.{AllByRecursion, filter, flat_map, list_all}
use borrow.Author.Tests.{lt-ltb}
use Rattle.xs_expr.specs.Text.{joined_from}
use Rattle.xs_expr.specs.Tokens.{is_in_word}
use Rattle.xs_fields.specs.Words.{is_byte, is_nonempty, is_space, onto_first, parts, words_of}
use Rattle.xs_fields.proofs.IntegerLemmas.{and_left, and_right}
use Rattle.xs_fields.proofs.PartLemmas.{words_space}
use Rattle.xs_language.specs.Written.{spaced}
use Rattle.xs_tables.specs.Groups.{behind_of, front_of, groups_of, inner_of, last_of}
use Rattle.xs_tables.proofs.GroupLemmas.{front_more, last_more}

pub both : (a b : Bool) → a ≡ true → b ≡ true → (a && b) ≡ true
both a b g h = ap (λ v. v && b) g ∙ h

not_true : (b : Bool) → not b ≡ true → b ≡ false
not_true true h = cc
not_true false h = refl

-- no byte of a text passes the test
abbrev pub Lacks : (ℕ → Bool) → List ℕ → Type 0
Lacks test p = list_all (λ b. not (test b)) p ≡ true

pub split : (test : ℕ → Bool) (stop : ℕ) (p rest : List ℕ) → test stop ≡ true → Lacks test p → parts test (p ++ stop ∷ rest) ≡ p ∷ parts test rest
split test stop [] rest s h = ap (λ (v : Bool). if v then [] ∷ parts test rest else onto_first stop (parts test rest)) s
split test stop (b ∷ bs) rest s h =
    ap (λ (v : Bool). if v then [] ∷ parts test (bs ++ stop ∷ rest) else onto_first b (parts test (bs ++ stop ∷ rest))) (not_true (test b) (and_left _ _ h))
    ∙ ap (onto_first b) (split test stop bs rest s (and_right _ _ h))

pub whole : (test : ℕ → Bool) (p : List ℕ) → Lacks test p → parts test p ≡ p ∷ []
whole test [] h = refl
whole test (b ∷ bs) h =
    ap (λ (v : Bool). if v then [] ∷ parts test bs else onto_first b (parts test bs)) (not_true (test b) (and_left _ _ h))
    ∙ ap (onto_first b) (whole test bs (and_right _ _ h))

-- a word: not empty, and without whitespace
pub record IsWord (w : List ℕ) : Type 0 where
  pub some : 0 < length w
  pub plain : Lacks is_space w

kept : (p : List ℕ) (ps : List (List ℕ)) → 0 < length p → filter is_nonempty (p ∷ ps) ≡ p ∷ filter is_nonempty ps
kept p ps h = ap (λ (v : Bool). cond v (p ∷ filter is_nonempty ps) (filter is_nonempty ps)) (lt-ltb 0 (length p) h)

run_words : (ws : List (List ℕ)) → AllByRecursion IsWord ws → words_of (flat_map (λ w. w ++ codes " ") ws) ≡ ws
run_words [] h = refl
run_words (w ∷ ws) h =
    ap words_of (append_assoc w (codes " ") (flat_map (λ w. w ++ codes " ") ws))
    ∙ ap (filter is_nonempty) (split is_space 32 w (flat_map (λ w. w ++ codes " ") ws) refl h.0.plain)
    ∙ kept w (parts is_space (flat_map (λ w. w ++ codes " ") ws)) h.0.some
    ∙ ap (λ vs. w ∷ vs) (run_words ws h.1)

-- the words of a text
pub spaced_words : (ws : List (List ℕ)) → AllByRecursion IsWord ws → words_of (spaced ws) ≡ ws
spaced_words ws h = words_space 32 (flat_map (λ w. w ++ codes " ") ws) refl ∙ run_words ws h

-- bytes between marks
mark_tests : (s a b c : Bool) → (not s && not (a || b || c)) ≡ true → (not s ≡ true) × (not a ≡ true) × (not b ≡ true) × (not c ≡ true)
mark_tests true a b c h = cc
mark_tests false true b c h = cc
mark_tests false false true c h = cc
mark_tests false false false true h = cc
mark_tests false false false false h = (refl, refl, refl, refl)

pub lacks_space : (t : List ℕ) → list_all is_in_word t ≡ true → Lacks is_space t
lacks_space [] h = refl
lacks_space (b ∷ bs) h = both _ _ (mark_tests (is_space b) (nat_eq b 40) (nat_eq b 41) (nat_eq b 44) (and_left _ _ h)).0 (lacks_space bs (and_right _ _ h))

pub lacks_close : (t : List ℕ) → list_all is_in_word t ≡ true → Lacks (is_byte 41) t
lacks_close [] h = refl
lacks_close (b ∷ bs) h = both _ _ (mark_tests (is_space b) (nat_eq b 40) (nat_eq b 41) (nat_eq b 44) (and_left _ _ h)).2 (lacks_close bs (and_right _ _ h))

pub lacks_comma : (t : List ℕ) → list_all is_in_word t ≡ true → Lacks (is_byte 44) t
lacks_comma [] h = refl
lacks_comma (b ∷ bs) h = both _ _ (mark_tests (is_space b) (nat_eq b 40) (nat_eq b 41) (nat_eq b 44) (and_left _ _ h)).3 (lacks_comma bs (and_right _ _ h))

pub lacks_more : (test : ℕ → Bool) (p q : List ℕ) → Lacks test p → Lacks test q → Lacks test (p ++ q)
lacks_more test [] q h g = g
lacks_more test (b ∷ bs) q h g = both _ _ (and_left _ _ h) (lacks_more test bs q (and_right _ _ h) g)

-- the entries between commas
abbrev pub AreEntries : List (List ℕ) → Type 0
AreEntries es = AllByRecursion (λ e. list_all is_in_word e ≡ true) es

behind_commas : (es : List (List ℕ)) (e : List ℕ) → list_all is_in_word e ≡ true → AreEntries es → parts (is_byte 44) (e ++ joined_from (codes ",") es) ≡ e ∷ es
behind_commas [] e h g = ap (parts (is_byte 44)) (append-nil e) ∙ whole (is_byte 44) e (lacks_comma e h)
behind_commas (f ∷ fs) e h g =
    split (is_byte 44) 44 e (f ++ joined_from (codes ",") fs) refl (lacks_comma e h) ∙ ap (λ ps. e ∷ ps) (behind_commas fs f g.0 g.1)

pub between_commas : (es : List (List ℕ)) → 0 < length es → AreEntries es → parts (is_byte 44) (joined_from [] es) ≡ es
between_commas [] some g = absurd (omega (arith, some))
between_commas (e ∷ es) some g = behind_commas es e g.0 g.1

-- no test that marks nothing of an entry, nor a comma, marks something between
joined_lacks : (test : ℕ → Bool) (before : List ℕ) (es : List (List ℕ)) → Lacks test before → not (test 44) ≡ true → AllByRecursion (Lacks test) es → Lacks test (joined_from before es)
joined_lacks test before [] b c h = refl
joined_lacks test before (e ∷ es) b c h = lacks_more test before (e ++ joined_from (codes ",") es) b (lacks_more test e (joined_from (codes ",") es) h.0 (joined_lacks test (codes ",") es (both _ _ c refl) c h.1))

each_lacks : (test : ℕ → Bool) → ((t : List ℕ) → list_all is_in_word t ≡ true → Lacks test t) → (es : List (List ℕ)) → AreEntries es → AllByRecursion (Lacks test) es
each_lacks test f [] h = tt
each_lacks test f (e ∷ es) h = (f e h.0, each_lacks test f es h.1)

pub joined_close : (es : List (List ℕ)) → AreEntries es → Lacks (is_byte 41) (joined_from [] es)
joined_close es h = joined_lacks (is_byte 41) [] es refl refl (each_lacks (is_byte 41) lacks_close es h)

pub joined_space : (es : List (List ℕ)) → AreEntries es → Lacks is_space (joined_from [] es)
joined_space es h = joined_lacks is_space [] es refl refl (each_lacks is_space lacks_space es h)

-- groups, by what stands inside
abbrev pub group : List ℕ → List ℕ
group inside = codes "(" ++ (inside ++ codes ")")

shifted : (xs more : List ℕ) → ((xs ++ codes ")") ++ codes " ") ++ more ≡ xs ++ 41 ∷ 32 ∷ more
shifted [] more = refl
shifted (x ∷ xs) more = ap (λ ys. x ∷ ys) (shifted xs more)

one_more : (j : List ℕ) (ws : List (List ℕ)) → spaced (group j ∷ ws) ≡ (32 ∷ 40 ∷ j) ++ 41 ∷ spaced ws
one_more j ws = ap (λ xs. 32 ∷ 40 ∷ xs) (shifted j (flat_map (λ w. w ++ codes " ") ws))

module _ (j : List ℕ) (ws : List (List ℕ)) (h : Lacks (is_byte 41) j) where
  cut : parts (is_byte 41) (spaced (group j ∷ ws)) ≡ (32 ∷ 40 ∷ j) ∷ parts (is_byte 41) (spaced ws)
  cut = ap (parts (is_byte 41)) (one_more j ws) ∙ split (is_byte 41) 41 (32 ∷ 40 ∷ j) (spaced ws) refl h

  pub next_groups : groups_of (spaced (group j ∷ ws)) ≡ (32 ∷ 40 ∷ j) ∷ groups_of (spaced ws)
  next_groups = ap front_of cut ∙ front_more (is_byte 41) (32 ∷ 40 ∷ j) (spaced ws)

  pub next_behind : behind_of (spaced (group j ∷ ws)) ≡ behind_of (spaced ws)
  next_behind = ap last_of cut ∙ last_more (is_byte 41) (32 ∷ 40 ∷ j) (spaced ws)

pub some_inner : (j : List ℕ) (ws : List (List ℕ)) → inner_of (spaced (group j ∷ ws)) ≡ Some ((j ++ 41 ∷ []) ++ 32 ∷ flat_map (λ w. w ++ codes " ") ws)
some_inner j ws = ap (λ xs. Some xs) (append_assoc (j ++ codes ")") (codes " ") (flat_map (λ w. w ++ codes " ") ws))
