-- What a map by cells says of the list of its literals.
use Rattle.std.proofs.Common.{◌≡◌, ℕ, ◌==◌, ◌&&◌, ℤ, List, [], ◌∷◌, ◌++◌, Option, None, Some, Bool, true, false, if◌then◌else◌, map, refl, ap, ap₂, sym, ◌∙◌, arith}
use Rattle.std.specs.Prelude.{nat_eq}
use Rattle.std.specs.Ordering.{int_eq}
use Rattle.std.specs.Map.{lookup}
use Rattle.std.proofs.lemmas.Bool.Decides.{Decides-int_eq}
use Rattle.indexmap.specs.IndexMap.{insert_entry}
use Rattle.lo_emit.specs.declared.literal.Cell.{Cell}
use Rattle.lo_emit.specs.declared.literal.Literal.{Literal}
use Rattle.lo_emit.specs.declared.term.Term.{Term}
use Rattle.lo_emit.specs.Literals.{is_same, find}
use Rattle.lo_literals.specs.declared.table.Key.{Key}

abbrev pub key_at : Cell → Key
key_at c = record { place = c.place; variable = c.variable; value = c.value }

abbrev pub literal : Key × Term → Literal
literal e = record { cell = record { place = e.0.place; variable = e.0.variable; value = e.0.value }; truth = e.1 }

abbrev pub same : Key → Key → Bool
same x y = (nat_eq x.place y.place && nat_eq x.variable y.variable) && int_eq x.value y.value

pub assoc : (r s t : Bool) → (r && (s && t)) ≡ ((r && s) && t)
assoc true s t = refl
assoc false s t = refl

either : (s t : Bool) → (s ≡ true → t ≡ true) → (t ≡ true → s ≡ true) → s ≡ t
either true t f g = sym (f refl)
either false true f g = g refl
either false false f g = refl

nats : (x y : ℕ) → nat_eq x y ≡ (y == x)
nats x y = grind arith

ints_turned : (x y : ℤ) → int_eq x y ≡ int_eq y x
ints_turned x y = either (int_eq x y) (int_eq y x) (λ h. (Decides-int_eq y x).1 (sym ((Decides-int_eq x y).0 h))) (λ h. (Decides-int_eq x y).1 (sym ((Decides-int_eq y x).0 h)))

turned : (c : Cell) (e : Key × Term) → same (key_at c) e.0 ≡ is_same (literal e).cell c
turned c e =
    ap₂ (λ (s t : Bool). s && t) (ap₂ (λ (s t : Bool). s && t) (nats c.place e.0.place) (nats c.variable e.0.variable)) (ints_turned c.value e.0.value)
    ∙ sym (assoc (e.0.place == c.place) (e.0.variable == c.variable) (int_eq e.0.value c.value))

other : (t : Bool) (x : Term) (y : Option Term) → (if t then Some x else y) ≡ None → t ≡ false
other true x y h = cc
other false x y h = refl

rest : (t : Bool) (x : Term) (y : Option Term) → (if t then Some x else y) ≡ None → y ≡ None
rest true x y h = cc
rest false x y h = h

chosen : (t : Bool) (x y : List (Key × Term)) → t ≡ false → (if t then x else y) ≡ y
chosen true x y h = cc
chosen false x y h = refl

-- where keys are compared in each of their parts
module _ (eq : Key → Key → Bool) (says : (x y : Key) → eq x y ≡ same x y) where
  pub found : (es : List (Key × Term)) (c : Cell) → lookup (eq (key_at c)) es ≡ find (map literal es) c
  found [] c = refl
  found (e ∷ es) c = ap₂ (λ (t : Bool) (r : Option Term). if t then Some e.1 else r) (says (key_at c) e.0 ∙ turned c e) (found es c)

  -- a new literal goes last
  pub inserted : (es : List (Key × Term)) (c : Cell) (v : Term) → find (map literal es) c ≡ None → map literal (insert_entry eq es (key_at c) v) ≡ map literal es ++ record { cell = c; truth = v } ∷ []
  inserted [] c v h = refl
  inserted (e ∷ es) c v h =
      let no : eq (key_at c) e.0 ≡ false = says (key_at c) e.0 ∙ turned c e ∙ other (is_same (literal e).cell c) e.1 (find (map literal es) c) h in
      ap (map literal) (chosen (eq (key_at c) e.0) ((e.0, v) ∷ es) (e ∷ insert_entry eq es (key_at c) v) no)
      ∙ ap (λ (xs : List Literal). literal e ∷ xs) (inserted es c v (rest (is_same (literal e).cell c) e.1 (find (map literal es) c) h))
