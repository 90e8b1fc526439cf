-- The law of constraints, by cases on the form, and that of lists of constraints.
use Rattle.std.proofs.Common.{◌≡◌, ℕ, ◌+◌, ◌*◌, ◌≤◌, ℤ, Bool, true, false, List, [], ◌∷◌, ◌++◌, length, map, ap, sym, ◌∙◌, subst, arith, ◌-◌}
use Rattle.std.specs.Prelude.{sum}
use Rattle.std.specs.List.{AllByRecursion}
use Rattle.std.proofs.lemmas.List.{length-map}
use Rattle.std.proofs.lemmas.List.Sums.{sum-map, sum_by-cons}
use Rattle.xf_num.specs.Span.{Bounds}
use Rattle.xs_model.specs.declared.instance.Constraint.{Constraint}
use Rattle.xs_model.specs.declared.instance.Constraint.TheVariants.{Intension, Extension, Unary, Regular, Mdd, AllDifferent}
use Rattle.xs_model.specs.Accepted.{IsSoundConstraint}
use Rattle.xs_model.specs.Comparing.{AreDifferent}
use Rattle.xs_model.specs.Fields.{Variable}
use Rattle.xs_model.specs.Formed.{nodes, items_of}
use Rattle.xs_model.specs.Instance.{Holds}
use Rattle.xs_model.specs.Spans.{BeginsWithin}
use Rattle.xs_model.specs.Value.{at, val}
use Rattle.xs_model.proofs.FormLemmas.{different_below, formed_expression, items-expression, no_exceptions, without_exceptions}
use Rattle.xs_model.proofs.SameValues.{holds_same}
use Rattle.lo_base.specs.Formed.{AreIntegers}
use Rattle.lo_base.specs.Item.{Item, made}
use Rattle.lo_base.specs.Solved.{Meets}
use Rattle.lo_base.specs.Stepwise.{AreBits}
use Rattle.lo_base.proofs.Formed.{integers_kept}
use Rattle.lo_base.proofs.Solving.{at_front, below_longer}
use Rattle.lo_base.proofs.Within.{IsSteady}
use Rattle.lo_emit.specs.declared.term.Term.{Term}
use Rattle.lo_emit.specs.declared.term.Term.TheVariants.{Var}
use Rattle.lo_formed.specs.Laws.{AreOrdered}
use Rattle.lo_forms.proofs.DifferentLemmas.{different_lowered}
use Rattle.lo_paths.proofs.LawLemmas.{mdd_lowered, regular_lowered}
use Rattle.lo_rules.specs.Formed.{AreIntegerTerms}
use Rattle.lo_rules.specs.Laws.{IsLowered}
use Rattle.lo_rules.specs.Rule.{num, Always, AllBefore as AreTermsBefore}
use Rattle.lo_rules.proofs.Pairs.{nums_of_variables, variables_before}
use Rattle.lo_tables.proofs.TableLemmas.{extension_lowered}
use Rattle.lo_tables.proofs.UnaryLemmas.{unary_lowered}
use Rattle.lo_terms_laws.proofs.Lowered.{intension_lowered}
use Rattle.lo_terms_laws.proofs.Same.{begins_within_lasts, value_front}
use Rattle.lo_instance.specs.Form.{low_form, low_all}
use Rattle.lo_instance.specs.Laws.{AllHold, AllLowered, FormLowered, square_of}
use Rattle.lo_instance.proofs.Joining.{lowered_as, lowered_bits, lowered_join, lowered_nil}

not_built : false ≡ true → ⊥
not_built e = cc

-- a form whose law asks nothing of the values before
module _ (ss : List Bounds) (n : ℕ) (c : Constraint) where
  plainly : (xs : List Item) (w : ℕ) → IsLowered Always (λ a. Holds c a) (AreIntegers (length ss)) n xs w → IsLowered (BeginsWithin ss) (λ a. Holds c a) (AreIntegers (length ss)) n xs w
  plainly xs w r =
      lowered_as Always (BeginsWithin ss) (λ a. Holds c a) (λ a. Holds c a) (AreIntegers (length ss)) (AreIntegers (length ss)) n xs w w (λ a d. tt) (λ a h. h) (λ a h. h) (λ bs k. k) (omega arith) r

-- more items make a greater square
greater_square : (a b : ℕ) → a ≤ b → 64 * ((1 + a) * (1 + a)) ≤ 64 * ((1 + b) * (1 + b))
greater_square a b le = let more : b ≡ a + (b - a) = omega (arith, le) in subst (λ (k : ℕ). 64 * ((1 + a) * (1 + a)) ≤ 64 * ((1 + k) * (1 + k))) (sym more) (omega arith)

-- variables that are integers
integers_in : (m : ℕ) (booleans : List Bool) (list : List ℕ) → AreIntegers m booleans → AreTermsBefore m (map Var list) → AreIntegerTerms booleans (map Var list)
integers_in m booleans [] ints h = tt
integers_in m booleans (v ∷ vs) ints h = (ints v h.0, integers_in m booleans vs ints h.1)

different_form : (ss : List Bounds) (n : ℕ) (list : List ℕ) → IsSoundConstraint ss (AllDifferent list []) → length ss ≤ n
    → IsLowered (BeginsWithin ss) (λ a. Holds (AllDifferent list []) a) (AreIntegers (length ss)) n (low_form ss n (AllDifferent list [])) (64 * square_of (AllDifferent list []))
different_form ss n list s le =
    let c : Constraint = AllDifferent list [] in
    let ts : List Term = map Var list in
    let m : ℕ = length ss in
    let below : AreTermsBefore m ts = variables_before m list (different_below m list [] s.formed) in
    let before : AreTermsBefore n ts = variables_before n list (below_longer m n list le (different_below m list [] s.formed)) in
    let same : (a : List ℤ) → map (num a) ts ≡ map (at a) list = λ a. nums_of_variables a list in
    lowered_as Always (BeginsWithin ss) (λ a. AreDifferent (map (num a) ts)) (λ a. Holds c a) (λ bs. AreIntegerTerms bs ts) (AreIntegers m) n (low_form ss n c) (64 * ((1 + length ts) * (1 + length ts))) (64 * square_of c) (λ a d. tt)
    (λ a h. no_exceptions (map (at a) list) (subst AreDifferent (same a) h)) (λ a h. subst AreDifferent (sym (same a)) (without_exceptions (map (at a) list) h)) (λ bs ints. integers_in m bs list ints below)
    (greater_square (length ts) (items_of c) (omega (arith, length-map list Variable, length-map list Var))) (different_lowered n ts before)

pub form_lowered : FormLowered
form_lowered ss n (AllDifferent list []) s ordered le = different_form ss n list s le
form_lowered ss n (Extension list tuples positive) s ordered le = plainly ss n (Extension list tuples positive) _ _ (extension_lowered (length ss) n list tuples positive s.formed le)
form_lowered ss n (Intension e) s ordered le =
    let f = formed_expression (length ss) e s.formed in
    let p = s.faultless in
    lowered_as (BeginsWithin ss) (BeginsWithin ss) (λ a. val a e ≡ _) (λ a. Holds (Intension e) a) (AreIntegers (length ss)) (AreIntegers (length ss)) n (low_form ss n (Intension e)) _ (64 * square_of (Intension e)) (λ a d. d) (λ a h. h)
    (λ a h. h) (λ bs k. k) (greater_square (nodes e) (items_of (Intension e)) (omega (arith, items-expression e)))
    (intension_lowered ss n e p.span (record { ordered = ordered; shaped = f.shaped; variables = f.variables; bounded = p.bounded; no_set = f.no_set }) p.truth le)
form_lowered ss n (Mdd list edges root leaf) s ordered le = plainly ss n (Mdd list edges root leaf) _ _ (mdd_lowered (length ss) n list edges root leaf s.formed le)
form_lowered ss n (Regular list edges start finals) s ordered le = plainly ss n (Regular list edges start finals) _ _ (regular_lowered (length ss) n list edges start finals s.formed le)
form_lowered ss n (Unary v spans positive) s ordered le = plainly ss n (Unary v spans positive) _ _ (unary_lowered (length ss) n v spans positive s.formed le)
form_lowered ss n c s ordered le = absurd (not_built s.built)

-- a constraint over the variables before does not hang on later values
holds_front : (ss : List Bounds) (a d : List ℤ) (c : Constraint) → IsSoundConstraint ss c → length ss ≤ length a → (Holds c (a ++ d) → Holds c a) × (Holds c a → Holds c (a ++ d))
holds_front ss a d c s le =
    let same = holds_same (length ss) (a ++ d) a (λ v lt. at_front a d v (omega (arith, le, lt))) (λ e f. value_front ss e a d f.variables le) c s.formed.fields in
    (λ h. subst (λ X. X) same h, λ h. subst (λ X. X) (sym same) h)

all_steady : (ss : List Bounds) (n : ℕ) (cs : List Constraint) → AllByRecursion (IsSoundConstraint ss) cs → length ss ≤ n → IsSteady n (AllHold cs)
all_steady ss n [] s le a d len = (λ h. h, λ h. h)
all_steady ss n (c ∷ cs) s le a d len =
    let first = holds_front ss a d c s.0 (omega (arith, le, len)) in
    let rest = all_steady ss n cs s.1 le a d len in
    (λ h. (first.0 h.0, rest.0 h.1), λ h. (first.1 h.0, rest.1 h.1))

square_more : (c : Constraint) (cs : List Constraint) → sum (map square_of (c ∷ cs)) ≡ square_of c + sum (map square_of cs)
square_more c cs = sum-map square_of (c ∷ cs) ∙ sum_by-cons square_of c cs ∙ ap (λ m. square_of c + m) (sym (sum-map square_of cs))

both_squares : (s t r : ℕ) → r ≡ s + t → 64 * s + 64 * t ≤ 64 * r
both_squares s t r is = omega (arith, is)

pub all_lowered : AllLowered
all_lowered ss n [] s ordered le = lowered_nil (BeginsWithin ss) (AllHold []) (AreIntegers (length ss)) n (λ a. tt)
all_lowered ss n (c ∷ cs) s ordered le =
    let xs : List Item = low_form ss n c in
    let ys : List Item = low_all ss (n + made xs) cs in
    let W : List ℤ → Type 0 = BeginsWithin ss in
    let K : List Bool → Type 0 = AreIntegers (length ss) in
    let P : List ℤ → Type 0 = AllHold (c ∷ cs) in
    let t : ℕ = sum (map square_of cs) in
    lowered_as W W P P K K n (xs ++ ys) (64 * square_of c + 64 * t) (64 * sum (map square_of (c ∷ cs))) (λ a d. d) (λ a h. h) (λ a h. h) (λ bs k. k) (both_squares (square_of c) t (sum (map square_of (c ∷ cs))) (square_more c cs))
    (lowered_join W (λ a. Holds c a) (AllHold cs) K n xs ys (64 * square_of c) (64 * t) (begins_within_lasts ss n le) (all_steady ss n cs s.1 le) (λ bs ds keeps k. integers_kept (length ss) bs ds keeps k)
    (form_lowered ss n c s.0 ordered le) (all_lowered ss (n + made xs) cs s.1 ordered (omega (arith, le))))

-- where the items are met, the arguments that have to be truth values are 0 or 1
pub all_bits : (ss : List Bounds) (n : ℕ) (cs : List Constraint) → AllByRecursion (IsSoundConstraint ss) cs → AreOrdered ss → length ss ≤ n → (b : List ℤ) → Meets n (low_all ss n cs) b → AreBits (low_all ss n cs) b
all_bits ss n cs s ordered le = lowered_bits (BeginsWithin ss) (AllHold cs) (length ss) n (low_all ss n cs) (64 * sum (map square_of cs)) le (all_lowered ss n cs s ordered le)
