-- Groups that are taken one after the other, as long as nothing is missed and there is room.
use Rattle.std.proofs.Common.{◌≡◌, ℕ, ◌-◌, ◌++◌, Bool, true, nat_le, List, [], ◌∷◌, length, Option, None, Some, refl, ap, sym, ◌∙◌, append_assoc, append-nil}
use Rattle.std.specs.List.{flat_map}
use Rattle.xs_fields.specs.Conditions.{earlier_of, first_missed}
use Rattle.xs_fields.specs.Scanning.{have_room, joined}
use Rattle.xs_fields.specs.declared.condition.Condition.{Condition}
use Rattle.xs_fields.specs.declared.condition.Condition.TheVariants.{Fitting}
use Rattle.xs_fields.proofs.ScanLemmas.{Stands, next}
use Rattle.xs_tables.specs.Groups.{is_room_for}
use Rattle.xs_tables.proofs.TableLemmas.{first_none}

-- room is asked only where nothing is missed yet
same_joined : (missed judged : Option Condition) (r s : Bool) → (missed ≡ None → r ≡ s) → joined missed judged r ≡ joined missed judged s
same_joined None None r s h = ap (λ v. joined None None v) (h refl)
same_joined None (Some k) r s h = refl
same_joined (Some j) judged r s h = refl

-- what is missed stays missed
pub still_none : (missed judged m : Option Condition) (room : Bool) → m ≡ joined missed judged room → m ≡ None → missed ≡ None
still_none None judged m room is e = refl
still_none (Some j) judged m room is e = first_none (Some j) judged (sym is ∙ e)

-- one group more, where it is told how many members there are
module _ {A : Type 0} (members : List ℕ → List A) (test : List ℕ → Condition → Bool) (left : ℕ) (words : List (List ℕ)) (fits : (w : List ℕ) → test w Fitting ≡ true) where
  pub counted : (missed judged m : Option Condition) (count : ℕ) (old more new : List A) (w : List ℕ) (ws rest : List (List ℕ)) → rest ≡ w ∷ ws → judged ≡ first_missed (test w) → more ≡ members w → (missed ≡ None → count ≡ length old)
      → m ≡ joined missed judged (is_room_for left count (length more)) → (m ≡ None → new ≡ old ++ more) → Stands members test left words missed old rest → Stands members test left words m new ws
  counted missed judged m count old more new w ws rest cut is are many told value s =
      next members test left words fits missed judged m old more new w ws rest cut is are
      (told ∙ same_joined missed judged (is_room_for left count (length more)) (have_room left old (length more)) (λ e. ap (λ n. nat_le (length more) (left - n)) (many e))) value s

-- lists behind one another
abbrev pub flat : {A : Type 0} → List (List A) → List A
flat ts = flat_map (λ t. t) ts

pub flat_snoc : {A : Type 0} (ts : List (List A)) (t : List A) → flat (ts ++ t ∷ []) ≡ flat ts ++ t
flat_snoc [] t = append-nil t
flat_snoc (x ∷ xs) t = ap (λ ys. x ++ ys) (flat_snoc xs t) ∙ sym (append_assoc x (flat xs) t)
