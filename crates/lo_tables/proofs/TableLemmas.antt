-- What the items of a table of tuples mean.
use Rattle.std.proofs.Common.{◌≡◌, ◌↔◌, ℕ, suc, ◌+◌, ◌*◌, ◌<◌, ◌≤◌, ℤ, Bool, true, false, not, ◌&&◌, ◌||◌, Option, None, Some, List, [], ◌∷◌, ◌++◌, length, map, refl, ap, ap₂, sym, subst, ◌∙◌, arith}
use Rattle.std.specs.Prelude.{slice_get}
use Rattle.std.specs.List.{AllByRecursion, list_any, list_all}
use Rattle.std.specs.Ordering.{int_eq}
use Rattle.std.proofs.lemmas.List.{length-map}
use Rattle.fz_model.specs.declared.builtin.Builtin.TheVariants.{ArrayBoolAnd}
use Rattle.fz_model.specs.Meaning.{at, truth, is_one, is_zero, clause}
use Rattle.lo_base.specs.Formed.{kinds_of, AreFormed, Keeps, AreIntegers}
use Rattle.lo_base.specs.Item.{Item, Posted, made}
use Rattle.lo_base.proofs.Formed.{formed_join, keeps_behind, keeps_through}
use Rattle.lo_base.proofs.Solving.{made-append}
use Rattle.lo_emit.specs.declared.literal.Cell.{Cell}
use Rattle.lo_emit.specs.declared.literal.Literal.{Literal}
use Rattle.lo_emit.specs.declared.term.Term.{Term}
use Rattle.lo_emit.specs.declared.term.Term.TheVariants.{Var}
use Rattle.lo_emit.specs.Emitted.{Out, truth_of_list, clause as clause_call}
use Rattle.lo_emit.specs.Literals.{Found, literals_of}
use Rattle.lo_emit.specs.Loops.{Step, in_turn, Along}
use Rattle.lo_rules.specs.Formed.{IsLogic, AreLogicTerms}
use Rattle.lo_rules.specs.Laws.{IsLowered}
use Rattle.lo_rules.specs.Literals.{has_value, TableSays, IsTableBefore, IsTableFormed, IsCellFormed}
use Rattle.lo_rules.specs.Rule.{num, Before, AllBefore, Always, Rule}
use Rattle.lo_rules.proofs.Conditions.{not_is, not_met}
use Rattle.lo_rules.proofs.LiteralRules.{all_more, values_more, long_more, table_more, Tells, literals_before, rule_literals, IsFoundFormed, formed_literals}
use Rattle.lo_rules.proofs.Loops.{kept_in_turn, gives_in_turn, rules_in_turn}
use Rattle.lo_rules.proofs.Making.{formed_clause, logics_more, makes_and}
use Rattle.lo_rules.proofs.MakingLoops.{formed_in_turn, kinds_behind, kinds_in_a_row}
use Rattle.lo_rules.proofs.Rules.{rules_join, rule_as, rules_lower, steady_values}
use Rattle.lo_rules.proofs.Terms.{all_before_more, yields_and, rule_clause}
use Rattle.lo_rules.proofs.Tests.{one_truth}
use Rattle.xs_laws.specs.Tables.{is_matched, IsMatched}
use Rattle.xs_laws.proofs.Tables.{table_is_matched}
use Rattle.xs_model.specs.declared.instance.Constraint.TheVariants.{Extension}
use Rattle.xs_model.specs.Accepted.{IsFormed, items_of}
use Rattle.xs_model.specs.Fields.{Variable, entries, entry_item}
use Rattle.xs_model.specs.Formed.{IsFormedItem, IsFormedField, count_in, count_of, total}
use Rattle.xs_model.specs.Instance.{Holds}
use Rattle.xs_model.specs.Language.{IsInTable}
use Rattle.lo_tables.specs.Laws.{ExtensionLowered}
use Rattle.lo_tables.specs.Table.{cells, matched, refused, support_step, supports, conflict_step, conflicts, tabled, low_extension}
use Rattle.lo_tables.proofs.Shared.{any_truths, some_zero, or_false, all_along, along_all, table_formed_more, small_integer, variables_below, below_more}

-- the cells of a tuple

cells_below : (m p : ℕ) (xs : List ℕ) (es : List (Option ℤ)) → AllByRecursion (λ x. x < m) xs → AllByRecursion (λ (c : Cell). c.variable < m) (cells p xs es)
cells_below m p [] es h = tt
cells_below m p (x ∷ xs) [] h = tt
cells_below m p (x ∷ xs) (None ∷ es) h = cells_below m (p + 1) xs es h.1
cells_below m p (x ∷ xs) (Some z ∷ es) h = (h.0, cells_below m (p + 1) xs es h.1)

cells_few : (p : ℕ) (xs : List ℕ) (es : List (Option ℤ)) → length (cells p xs es) ≤ length xs
cells_few p [] es = omega arith
cells_few p (x ∷ xs) [] = omega arith
cells_few p (x ∷ xs) (None ∷ es) = let rest = cells_few (p + 1) xs es in omega (arith, rest)
cells_few p (x ∷ xs) (Some z ∷ es) = let rest = cells_few (p + 1) xs es in omega (arith, rest)

-- the values agree with a tuple where each cell has its value
cells_match : (b : List ℤ) (p : ℕ) (xs : List ℕ) (es : List (Option ℤ)) → list_all is_one (map (λ c. truth (has_value b c)) (cells p xs es)) ≡ is_matched (map (at b) xs) es
cells_match b p [] [] = refl
cells_match b p [] (None ∷ es) = refl
cells_match b p [] (Some z ∷ es) = refl
cells_match b p (x ∷ xs) [] = refl
cells_match b p (x ∷ xs) (None ∷ es) = cells_match b (p + 1) xs es
cells_match b p (x ∷ xs) (Some z ∷ es) = ap₂ (λ (s t : Bool). s && t) (one_truth (int_eq (at b x) z)) (cells_match b (p + 1) xs es)

abbrev IsEntryFormed : ℕ → Option ℤ → Type 0
IsEntryFormed m e = IsFormedItem m (entry_item e)

cells_formed : (bs : List Bool) (m p : ℕ) (xs : List ℕ) (es : List (Option ℤ)) → AreIntegers m bs → AllByRecursion (λ x. x < m) xs → AllByRecursion (IsFormedItem m) (map entry_item es)
    → AllByRecursion (IsCellFormed bs) (cells p xs es)
cells_formed bs m p [] es kinds below h = tt
cells_formed bs m p (x ∷ xs) [] kinds below h = tt
cells_formed bs m p (x ∷ xs) (None ∷ es) kinds below h = cells_formed bs m (p + 1) xs es kinds below.1 h.1
cells_formed bs m p (x ∷ xs) (Some z ∷ es) kinds below h = (record { variable = kinds x below.0; value = small_integer z h.0 }, cells_formed bs m (p + 1) xs es kinds below.1 h.1)

-- whether the values agree with a tuple
Agree : List ℕ → List ℤ → List (Option ℤ) → Bool
Agree xs b es = is_matched (map (at b) xs) es

-- the terms of the tuples so far stand before n, and tell whether the values agree

abbrev Knows : ℕ → List (List (Option ℤ)) → Found → Type 0
Knows n done s = IsTableBefore n s.table × AllBefore n s.terms × (length s.terms ≡ length done)

abbrev Told : List ℕ → List (List (Option ℤ)) → Found → List ℤ → Type 0
Told xs done s b = TableSays s.table b × (map (num b) s.terms ≡ map (λ es. truth (Agree xs b es)) done)

module _ (m : ℕ) (xs : List ℕ) (below : AllByRecursion (λ x. x < m) xs) where
  abbrev Any : List (Option ℤ) → Type 0
  Any es = Unit {0}

  support_knows : (n : ℕ) (done : List (List (Option ℤ))) (s : Found) (es : List (Option ℤ)) → m ≤ n → Knows n done s → Knows (n + made (support_step xs n s es).items) (done ++ es ∷ []) (support_step xs n s es).state
  support_knows n done s es le k =
      let r : Step Found = literals_of n s.table (cells 0 xs es) in
      let e : ℕ = n + made r.items in
      let c : Out = truth_of_list e ArrayBoolAnd r.state.terms in
      let end : ℕ = n + made (r.items ++ c.items) in
      let more : e + 1 ≤ end = omega (arith, made-append r.items c.items) in
      let knows = literals_before m n s.table (cells 0 xs es) le k.0 (cells_below m 0 xs es below) in
      (table_more e end r.state.table (omega (arith, more)) knows.0, all_more (Before end) s.terms (Var e) (all_before_more n end s.terms (omega (arith, more)) k.1) (omega (arith, more)), long_more s.terms done (Var e) es k.2)

  support_rule : (W D : List ℤ → Type 0) (n : ℕ) (done : List (List (Option ℤ))) (s : Found) (es : List (Option ℤ)) → m ≤ n → Knows n done s
      → Rule W (λ b. D b × Told xs done s b) n (support_step xs n s es).items (length xs * 5 + 2) (λ b. Told xs (done ++ es ∷ []) (support_step xs n s es).state b) Always
  unfolding Agree
  support_rule W D n done s es le k =
      let cs : List Cell = cells 0 xs es in
      let r : Step Found = literals_of n s.table cs in
      let e : ℕ = n + made r.items in
      let c : Out = truth_of_list e ArrayBoolAnd r.state.terms in
      let E : List ℤ → Type 0 = λ b. D b × Told xs done s b in
      let T : List ℤ → Type 0 = λ b. E b × TableSays s.table b in
      let G : List ℤ → Type 0 = λ b. Tells cs r.state b in
      let H : List ℤ → Type 0 = λ b. num b c.term ≡ truth (list_all is_one (map (num b) r.state.terms)) in
      let inside = cells_below m 0 xs es below in
      let knows = literals_before m n s.table cs le k.0 inside in
      let first = rule_literals m n s.table cs le k.0 inside W E in
      let second = yields_and W (λ b. T b × G b) e r.state.terms knows.1 in
      let few = cells_few 0 xs es in
      rule_as W T E (λ b. G b × H b) (λ b. Told xs (done ++ es ∷ []) (support_step xs n s es).state b) (λ b. Always b × Always b) Always n (r.items ++ c.items) (length cs * 4 + (2 + length r.state.terms)) (length xs * 5 + 2)
      (λ b d. (d, d.1.0))
      (λ b d g. (g.0.0, values_more b (λ us. truth (Agree xs b us)) s.terms done (Var e) es d.1.1 (g.1 ∙ ap (λ (zs : List ℤ). truth (list_all is_one zs)) g.0.1 ∙ ap truth (cells_match b 0 xs es))))
      (λ b d g p. tt) (λ b w d g p. (tt, tt)) (omega (arith, few, knows.2))
      (rules_join W T G H Always Always n r.items c.items (length cs * 4) (2 + length r.state.terms) first second.rule)

  -- literals before n, of which conflicts make more

  abbrev Stands : ℕ → List (List (Option ℤ)) → List Literal → Type 0
  Stands n done table = IsTableBefore n table

  conflict_stands : (n : ℕ) (done : List (List (Option ℤ))) (table : List Literal) (es : List (Option ℤ)) → m ≤ n → IsTableBefore n table
      → IsTableBefore (n + made (conflict_step xs n table es).items) (conflict_step xs n table es).state
  conflict_stands n done table es le k =
      let r : Step Found = literals_of n table (cells 0 xs es) in
      let call : List Item = Posted (clause_call [] r.state.terms) ∷ [] in
      table_more (n + made r.items) (n + made (r.items ++ call)) r.state.table (omega (arith, made-append r.items call)) (literals_before m n table (cells 0 xs es) le k (cells_below m 0 xs es below)).0

  refuses : (b : List ℤ) (es : List (Option ℤ)) (ts : List Term) → map (num b) ts ≡ map (λ c. truth (has_value b c)) (cells 0 xs es) → clause [] (map (num b) ts) ≡ not (Agree xs b es)
  unfolding Agree
  refuses b es ts g = ap (list_any is_zero) g ∙ some_zero (has_value b) (cells 0 xs es) ∙ ap not (cells_match b 0 xs es)

  conflict_rule : (W D : List ℤ → Type 0) (n : ℕ) (done : List (List (Option ℤ))) (table : List Literal) (es : List (Option ℤ)) → m ≤ n → IsTableBefore n table
      → Rule W (λ b. D b × TableSays table b) n (conflict_step xs n table es).items (length xs * 5 + 2) (λ b. TableSays (conflict_step xs n table es).state b) (λ b. Agree xs b es ≡ false)
  conflict_rule W D n done table es le k =
      let cs : List Cell = cells 0 xs es in
      let r : Step Found = literals_of n table cs in
      let e : ℕ = n + made r.items in
      let ts : List Term = r.state.terms in
      let call : List Item = Posted (clause_call [] ts) ∷ [] in
      let T : List ℤ → Type 0 = λ b. D b × TableSays table b in
      let G : List ℤ → Type 0 = λ b. Tells cs r.state b in
      let P : List ℤ → Type 0 = λ b. clause [] (map (num b) ts) ≡ true in
      let inside = cells_below m 0 xs es below in
      let knows = literals_before m n table cs le k inside in
      let few = cells_few 0 xs es in
      rule_as W T T (λ b. G b × Always b) (λ b. TableSays r.state.table b) (λ b. Always b × P b) (λ b. Agree xs b es ≡ false) n (r.items ++ call) (length cs * 4 + (0 + length ts)) (length xs * 5 + 2) (λ b d. d)
      (λ b d g. g.0.0) (λ b d g p. not_met (Agree xs b es) (sym (refuses b es ts g.0.1) ∙ p.1)) (λ b w d g p. (tt, refuses b es ts g.0.1 ∙ not_is (Agree xs b es) p)) (omega (arith, few, knows.2))
      (rules_join W T G Always Always P n r.items call (length cs * 4) (0 + length ts) (rule_literals m n table cs le k inside W D) (rule_clause W (λ b. T b × G b) e [] ts tt knows.1))

  module _ (n : ℕ) (le : m ≤ n) (table : List Literal) (before : IsTableBefore n table) (tuples : List (List (Option ℤ))) (all : AllByRecursion Any tuples) (W D : List ℤ → Type 0) where
    supports_know : Knows (n + made (supports n table xs tuples).items) tuples (supports n table xs tuples).state
    supports_know =
        kept_in_turn Any Knows (support_step xs) m (λ j ds s es ge k q. support_knows j ds s es ge k) n [] (record { table = table; terms = [] }) tuples le (before, tt, refl) all

    supports_rule : Rule W (λ b. D b × TableSays table b) n (supports n table xs tuples).items (length tuples * (length xs * 5 + 2)) (λ b. Told xs tuples (supports n table xs tuples).state b) Always
    supports_rule =
        let T : List ℤ → Type 0 = λ b. D b × TableSays table b in
        gives_in_turn W T Any Knows (λ ds s b. Told xs ds s b) (support_step xs) m (length xs * 5 + 2) (λ j ds s es ge k q. support_knows j ds s es ge k) (λ j ds s es ge k q. support_rule W T j ds s es ge k) n
        (record { table = table; terms = [] }) tuples le (before, tt, refl) (λ b d. (d.1, refl)) all

    -- some tuple agrees
    supported_rule : Rule W (λ b. D b × TableSays table b) n (tabled n table xs tuples true).items (length tuples * (length xs * 5 + 3)) (λ b. TableSays (tabled n table xs tuples true).state b) (λ b. list_any (Agree xs b) tuples ≡ true)
    supported_rule =
        let r : Step Found = supports n table xs tuples in
        let e : ℕ = n + made r.items in
        let ts : List Term = r.state.terms in
        let w : ℕ = length tuples * (length xs * 5 + 2) in
        let call : List Item = Posted (clause_call ts []) ∷ [] in
        let T : List ℤ → Type 0 = λ b. D b × TableSays table b in
        let G : List ℤ → Type 0 = λ b. Told xs tuples r.state b in
        let P : List ℤ → Type 0 = λ b. clause (map (num b) ts) [] ≡ true in
        let is : (b : List ℤ) → G b → clause (map (num b) ts) [] ≡ list_any (Agree xs b) tuples = λ b g. or_false (list_any is_one (map (num b) ts)) ∙ ap (list_any is_one) g.1 ∙ any_truths (Agree xs b) tuples in
        let knows = supports_know in
        rule_as W T T (λ b. G b × Always b) (λ b. TableSays r.state.table b) (λ b. Always b × P b) (λ b. list_any (Agree xs b) tuples ≡ true) n (r.items ++ call) (w + (length ts + 0)) (length tuples * (length xs * 5 + 3)) (λ b d. d)
        (λ b d g. g.0.0) (λ b d g p. sym (is b g.0) ∙ p.1) (λ b x d g p. (tt, is b g.0 ∙ p)) (room_for_clause (length tuples) (length xs) (length ts) knows.2)
        (rules_join W T G Always Always P n r.items call w (length ts + 0) supports_rule (rule_clause W (λ b. T b × G b) e ts [] knows.1 tt))
      where
        room_for_clause : (k l t : ℕ) → t ≡ k → k * (l * 5 + 2) + (t + 0) ≤ k * (l * 5 + 3)
        room_for_clause k l t same = grind arith

    -- no tuple does
    conflicts_rule : Rule W (λ b. D b × TableSays table b) n (conflicts n table xs tuples).items (length tuples * (length xs * 5 + 3)) (λ b. TableSays (conflicts n table xs tuples).state b) (λ b. AllByRecursion (λ es. Agree xs b es ≡ false) tuples)
    conflicts_rule =
        let T : List ℤ → Type 0 = λ b. D b × TableSays table b in
        let G : List ℤ → Type 0 = λ b. TableSays (conflicts n table xs tuples).state b in
        let L : List ℤ → Type 0 = λ b. Along (λ ds es c. Agree xs c es ≡ false) [] tuples b in
        let R : List (Option ℤ) → List ℤ → Type 0 = λ es b. Agree xs b es ≡ false in
        rule_as W T T G G L (λ b. AllByRecursion (λ es. Agree xs b es ≡ false) tuples) n (conflicts n table xs tuples).items (length tuples * (length xs * 5 + 2)) (length tuples * (length xs * 5 + 3)) (λ b d. d)
        (λ b d g. g) (λ b d g p. all_along R [] tuples b p) (λ b x d g p. along_all R [] tuples b p) (room (length tuples) (length xs))
        (rules_in_turn Any Stands (conflict_step xs) m (λ j ds s es ge k q. conflict_stands j ds s es ge k) W T (λ ds s b. TableSays s b) (λ ds es c. Agree xs c es ≡ false) (length xs * 5 + 2)
        (λ j ds s es ge k q. conflict_rule W T j ds s es ge k) n table tuples le before (λ b d. d.1) all)
      where
        room : (k l : ℕ) → k * (l * 5 + 2) ≤ k * (l * 5 + 3)
        room k l = grind arith

-- well-formed items

abbrev IsTupleFormed : ℕ → List (Option ℤ) → Type 0
IsTupleFormed m es = AllByRecursion (IsFormedItem m) (map entry_item es)

module _ (m : ℕ) (xs : List ℕ) (below : AllByRecursion (λ x. x < m) xs) where
  support_formed : (bs : List Bool) (n : ℕ) (s : Found) (es : List (Option ℤ)) → length bs ≡ n → AreIntegers m bs → IsFoundFormed bs s → IsTupleFormed m es
      → AreFormed bs (support_step xs n s es).items × IsFoundFormed (bs ++ kinds_of (support_step xs n s es).items) (support_step xs n s es).state
  support_formed bs n s es here kinds k q =
      let r : Step Found = literals_of n s.table (cells 0 xs es) in
      let e : ℕ = n + made r.items in
      let cs : List Bool = bs ++ kinds_of r.items in
      let c : Out = truth_of_list e ArrayBoolAnd r.state.terms in
      let first = formed_literals bs n s.table (cells 0 xs es) here k.0 (cells_formed bs m 0 xs es kinds below q) in
      let second = makes_and cs e (kinds_behind bs n r.items here) r.state.terms first.1.1 in
      let ds : List Bool = cs ++ kinds_of c.items in
      let row : ds ≡ bs ++ kinds_of (r.items ++ c.items) = kinds_in_a_row bs r.items c.items in
      let through : Keeps bs ds = keeps_through bs cs ds (keeps_behind bs (kinds_of r.items)) (keeps_behind cs (kinds_of c.items)) in (
        formed_join bs r.items c.items first.0 second.formed,
        subst (λ (ks : List Bool). IsFoundFormed ks (support_step xs n s es).state) row (table_formed_more cs ds r.state.table (keeps_behind cs (kinds_of c.items)) first.1.0, all_more (IsLogic ds) s.terms (Var e) (logics_more bs ds through s.terms k.1) second.term),
      )

  conflict_formed : (bs : List Bool) (n : ℕ) (table : List Literal) (es : List (Option ℤ)) → length bs ≡ n → AreIntegers m bs → IsTableFormed bs table → IsTupleFormed m es
      → AreFormed bs (conflict_step xs n table es).items × IsTableFormed (bs ++ kinds_of (conflict_step xs n table es).items) (conflict_step xs n table es).state
  conflict_formed bs n table es here kinds k q =
      let r : Step Found = literals_of n table (cells 0 xs es) in
      let cs : List Bool = bs ++ kinds_of r.items in
      let call : List Item = Posted (clause_call [] r.state.terms) ∷ [] in
      let first = formed_literals bs n table (cells 0 xs es) here k (cells_formed bs m 0 xs es kinds below q) in
      let row : cs ++ [] ≡ bs ++ kinds_of (r.items ++ call) = kinds_in_a_row bs r.items call in (
        formed_join bs r.items call first.0 (formed_clause cs [] r.state.terms tt first.1.1, tt),
        subst (λ (ks : List Bool). IsTableFormed ks r.state.table) row (table_formed_more cs (cs ++ []) r.state.table (keeps_behind cs []) first.1.0),
      )

  more_integers : (bs cs : List Bool) → AreIntegers m bs → Keeps bs cs → AreIntegers m cs
  more_integers bs cs kinds keeps v lt = keeps v false (kinds v lt)

  tabled_formed : (bs : List Bool) (n : ℕ) (table : List Literal) (tuples : List (List (Option ℤ))) (positive : Bool) → length bs ≡ n → AreIntegers m bs → IsTableFormed bs table → AllByRecursion (IsTupleFormed m) tuples
      → AreFormed bs (tabled n table xs tuples positive).items
  tabled_formed bs n table tuples true here kinds k q =
      let r : Step Found = supports n table xs tuples in
      let all =
      formed_in_turn bs (IsTupleFormed m) IsFoundFormed (support_step xs) (λ j cs s es long keeps ks qs. support_formed cs j s es long (more_integers bs cs kinds keeps) ks qs) n bs (record { table = table; terms = [] }) tuples here (λ v t e. e)
      (k, tt) q in
      formed_join bs r.items (Posted (clause_call r.state.terms []) ∷ []) all.0 (formed_clause (bs ++ kinds_of r.items) r.state.terms [] all.1.1 tt, tt)
  tabled_formed bs n table tuples false here kinds k q =
      (formed_in_turn bs (IsTupleFormed m) IsTableFormed (conflict_step xs) (λ j cs s es long keeps ks qs. conflict_formed cs j s es long (more_integers bs cs kinds keeps) ks qs) n bs table tuples here (λ v t e. e) k q).0

-- the law

tuples_formed : (m : ℕ) (tuples : List (List (Option ℤ))) → AllByRecursion (IsFormedField m) (map entries tuples) → AllByRecursion (IsTupleFormed m) tuples
tuples_formed m [] h = tt
tuples_formed m (es ∷ tuples) h = (h.0, tuples_formed m tuples h.1)

pub entries_of : (l : ℕ) (tuples : List (List (Option ℤ))) → AllByRecursion (λ es. length es ≡ l) tuples → total (map count_of (map entries tuples)) ≡ length tuples * l
entries_of l [] h = omega arith
entries_of l (es ∷ tuples) h = one (length tuples) l (total (map count_of (map entries tuples))) (length (map entry_item es)) (entries_of l tuples h.1) (length-map es entry_item ∙ h.0)
  where
    one : (k l t e : ℕ) → t ≡ k * l → e ≡ l → e + t ≡ suc k * l
    one k l t e h g = grind arith

any_all : (tuples : List (List (Option ℤ))) → AllByRecursion (λ es. Unit {0}) tuples
any_all [] = tt
any_all (es ∷ tuples) = (tt, any_all tuples)

room_for_table : (k l i : ℕ) → 0 < l → i ≡ l + k * l → k * (l * 5 + 3) ≤ 64 * ((1 + i) * (1 + i))
room_for_table k l i some is = at_square i (k * (l * 5 + 3)) (linear k l i some is)
  where
    spread : (k l : ℕ) → k * (l * 5 + 3) ≡ 5 * (k * l) + 3 * k
    spread k l = grind arith

    grows : (k l : ℕ) → 0 < l → k ≤ k * l
    grows k l some = grind arith

    linear : (k l i : ℕ) → 0 < l → i ≡ l + k * l → k * (l * 5 + 3) ≤ 8 * i
    linear k l i some is = omega (arith, spread k l, grows k l some, is)

    at_square : (i w : ℕ) → w ≤ 8 * i → w ≤ 64 * ((1 + i) * (1 + i))
    at_square i w h = grind arith

tabled_rule : (m n : ℕ) (xs : List ℕ) (tuples : List (List (Option ℤ))) (positive : Bool) → AllByRecursion (λ x. x < m) xs → m ≤ n → AllByRecursion (λ es. length es ≡ length xs) tuples
    → Rule Always Always n (low_extension n xs tuples positive) (length tuples * (length xs * 5 + 3)) (λ b. TableSays (tabled n [] xs tuples positive).state b) (λ b. IsInTable positive tuples (map (at b) xs))
unfolding Agree
tabled_rule m n xs tuples true below le long =
    let w : ℕ = length tuples * (length xs * 5 + 3) in
    let G : List ℤ → Type 0 = λ b. TableSays (tabled n [] xs tuples true).state b in
    let law : (b : List ℤ) → IsInTable true tuples (map (at b) xs) ↔ IsMatched true tuples (map (at b) xs) = λ b. table_is_matched (length xs) true tuples (map (at b) xs) long (length-map xs (at b)) in
    rule_as Always (λ b. Always b × TableSays [] b) Always G G (λ b. list_any (Agree xs b) tuples ≡ true) (λ b. IsInTable true tuples (map (at b) xs)) n (low_extension n xs tuples true) w w (λ b d. (tt, tt)) (λ b d g. g)
    (λ b d g p. (law b).1 p) (λ b x d g p. (law b).0 p) (omega arith) (supported_rule m xs below n le [] tt tuples (any_all tuples) Always Always)
tabled_rule m n xs tuples false below le long =
    let w : ℕ = length tuples * (length xs * 5 + 3) in
    let G : List ℤ → Type 0 = λ b. TableSays (tabled n [] xs tuples false).state b in
    let law : (b : List ℤ) → IsInTable false tuples (map (at b) xs) ↔ IsMatched false tuples (map (at b) xs) = λ b. table_is_matched (length xs) false tuples (map (at b) xs) long (length-map xs (at b)) in
    rule_as Always (λ b. Always b × TableSays [] b) Always G G (λ b. AllByRecursion (λ es. Agree xs b es ≡ false) tuples) (λ b. IsInTable false tuples (map (at b) xs)) n (low_extension n xs tuples false) w w (λ b d. (tt, tt)) (λ b d g. g)
    (λ b d g p. (law b).1 p) (λ b x d g p. (law b).0 p) (omega arith) (conflicts_rule m xs below n le [] tt tuples (any_all tuples) Always Always)

pub extension_lowered : ExtensionLowered
extension_lowered m n xs tuples positive formed le =
    let below : AllByRecursion (λ x. x < m) xs = variables_below m xs formed.fields.0 in
    let long = formed.fitting.1 in
    let w : ℕ = length tuples * (length xs * 5 + 3) in
    let i : ℕ = items_of (Extension xs tuples positive) in
    let room : w ≤ 64 * ((1 + i) * (1 + i)) =
    room_for_table (length tuples) (length xs) i formed.fitting.0 (ap₂ (λ (p q : ℕ). p + q) (length-map xs Variable) (entries_of (length xs) tuples long)) in
    let P : List ℤ → Type 0 = λ b. IsInTable positive tuples (map (at b) xs) in
    let G : List ℤ → Type 0 = λ b. TableSays (tabled n [] xs tuples positive).state b in
    rules_lower Always G P (AreIntegers m) n (low_extension n xs tuples positive) (64 * ((1 + i) * (1 + i))) (λ a len x d. tt) (steady_values (IsInTable positive tuples) n xs (below_more m n xs le below))
    (λ bs here kinds. tabled_formed m xs below bs n [] tuples positive here kinds tt (tuples_formed m tuples formed.fields.1))
    (rule_as Always Always Always G G P P n (low_extension n xs tuples positive) w (64 * ((1 + i) * (1 + i))) (λ b d. d) (λ b d g. g) (λ b d g p. p) (λ b x d g p. p) room
    (tabled_rule m n xs tuples positive below le long))
