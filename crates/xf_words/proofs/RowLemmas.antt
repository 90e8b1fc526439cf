-- Words have a call exactly where they are a row.
use Rattle.std.proofs.Common.{◌≡◌, ℕ, Bool, true, false, Option, Some, None, List, [], ◌∷◌, refl, sym, ◌∙◌, ap, subst}
use Rattle.std.specs.Prelude.{IsSome, option_map}
use Rattle.xf_words.specs.declared.call.Call.{Call}
use Rattle.xf_words.specs.declared.call.Numbers.{Numbers}
use Rattle.xf_words.specs.declared.rows.Row.{Row}
use Rattle.xf_words.specs.declared.rows.Row.TheVariants as row
use Rattle.xf_words.specs.Rows.{IsRow, RowsAlone}
use Rattle.xf_words.specs.Words.{call_by, call_of, command_of, first_call, fit, has_one_dash, no_numbers, or_else, rows, slots_of}

-- a call by a row is its command, with the numbers that the words say
by_row : (r : Row) (ws : List (List ℕ)) (o : Option Numbers) (c : Call) → fit (slots_of r) ws no_numbers ≡ o
    → option_map (λ n. record { command = command_of r; numbers = n }) o ≡ Some c → (c.command ≡ command_of r) × IsRow r ws c.numbers
by_row r ws None c e is = cc
by_row r ws (Some n) c e is =
    let same : c ≡ record { command = command_of r; numbers = n } = cc in
    (ap (λ d. d.command) same, e ∙ ap (λ m. Some m) (sym (ap (λ d. d.numbers) same)))

row_call : (ws : List (List ℕ)) (c : Call) (r : Row) (rs : List Row) → (o : Option Call) → call_by r ws ≡ o → or_else o (first_call rs ws) ≡ Some c
    → (first_call rs ws ≡ Some c → (q : Row) × (c.command ≡ command_of q) × IsRow q ws c.numbers) → (q : Row) × (c.command ≡ command_of q) × IsRow q ws c.numbers
row_call ws c r rs None e is rest = rest is
row_call ws c r rs (Some d) e is rest = let h = by_row r ws (fit (slots_of r) ws no_numbers) c refl (e ∙ is) in (r, h.0, h.1)

first_row : (ws : List (List ℕ)) (c : Call) (rs : List Row) → first_call rs ws ≡ Some c → (r : Row) × (c.command ≡ command_of r) × IsRow r ws c.numbers
first_row ws c [] is = cc
first_row ws c (r ∷ rs) is = row_call ws c r rs (call_by r ws) refl is (first_row ws c rs)

-- where the words are one of the rows there is a call
found : (r : Row) (ws : List (List ℕ)) (n : Numbers) (rest : Option Call) → IsRow r ws n → IsSome (or_else (call_by r ws) rest)
found r ws n rest is = let P : Option Numbers → Type 0 = λ o. IsSome (or_else (option_map (λ m. record { command = command_of r; numbers = m }) o) rest) in subst P (sym is) refl

later : (o rest : Option Call) → IsSome rest → IsSome (or_else o rest)
later None rest h = h
later (Some c) rest h = refl

some_row : (ws : List (List ℕ)) (r : Row) (n : Numbers) → IsRow r ws n → IsSome (first_call rows ws)
some_row ws row.ToFzn n is = found row.ToFzn ws n _ is
some_row ws row.Show n is = later (call_by row.ToFzn ws) _ (found row.Show ws n _ is)

called : (ws : List (List ℕ)) (c : Call) (b : Bool) → has_one_dash ws ≡ b → call_of ws ≡ Some c
    → (has_one_dash ws ≡ true) × ((r : Row) × (c.command ≡ command_of r) × IsRow r ws c.numbers)
called ws c true e is = (e, first_row ws c rows (rw e at is))
called ws c false e is = let n = rw e at is in cc

pub rows_alone : RowsAlone
rows_alone = record {
  some = λ ws one r n is. rw one (some_row ws r n is);
  call = λ ws c is. called ws c (has_one_dash ws) refl is;
}
