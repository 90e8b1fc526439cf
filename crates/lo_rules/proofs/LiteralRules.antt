-- The judgement of literals, which are made where they are first needed.
use Rattle.std.proofs.Common.{◌≡◌, ℕ, suc, ◌+◌, ◌*◌, ◌<◌, ◌≤◌, ◌==◌, ℤ, Bool, true, false, true≢false, ◌&&◌, if◌then◌else◌, Option, None, Some, List, [], ◌∷◌, ◌++◌, length, map, refl, ap, ap₂, sym, subst, ◌∙◌, arith}
use Rattle.std.specs.List.{AllByRecursion}
use Rattle.std.specs.Ordering.{int_eq}
use Rattle.std.proofs.lemmas.Bool.{eqb-true}
use Rattle.std.proofs.lemmas.List.{append-nil, length-append, map-append}
use Rattle.fz_model.specs.Meaning.{at, truth}
use Rattle.fz_model.proofs.Calls.{number-Int, number-Var, equal}
use Rattle.lo_base.specs.Formed.{kinds_of, AreFormed, Keeps}
use Rattle.lo_base.specs.Item.{Item, made}
use Rattle.lo_base.proofs.Formed.{keeps_behind, keeps_through}
use Rattle.lo_emit.specs.declared.literal.Cell.{Cell}
use Rattle.lo_emit.specs.declared.literal.Literal.{Literal}
use Rattle.lo_emit.specs.declared.term.Term.{Term}
use Rattle.lo_emit.specs.declared.term.Term.TheVariants.{Int, Var}
use Rattle.lo_emit.specs.Literals.{is_same, find, equal as equal_out, looked, literal_of, Found, literal_step, literals_of}
use Rattle.lo_emit.specs.Loops.{Step}
use Rattle.lo_rules.specs.Formed.{IsInteger, IsLogic, AreLogicTerms}
use Rattle.lo_rules.specs.Literals.{has_value, TableSays, IsTableBefore, IsTableFormed, IsCellFormed}
use Rattle.lo_rules.specs.Rule.{num, Before, AllBefore, Always, Rule}
use Rattle.lo_rules.proofs.Rules.{rule_as}
use Rattle.lo_rules.proofs.Atoms.{rule_none}
use Rattle.lo_rules.proofs.Terms.{before_more, all_before_more, yields_eq}
use Rattle.lo_rules.proofs.Loops.{kept_in_turn, gives_in_turn}
use Rattle.lo_rules.proofs.Making.{logic_more, logics_more, all_join, makes_eq}
use Rattle.lo_rules.proofs.MakingLoops.{formed_in_turn}
use Rattle.lo_rules.proofs.Tests.{both_true}

-- lists with one more

pub all_more : {X : Type 0} (R : X → Type 0) (xs : List X) (x : X) → AllByRecursion R xs → R x → AllByRecursion R (xs ++ x ∷ [])
all_more R [] x h r = (r, tt)
all_more R (y ∷ ys) x h r = (h.0, all_more R ys x h.1 r)

pub all_both : {X : Type 0} (R S : X → Type 0) (xs : List X) → AllByRecursion R xs → AllByRecursion S xs → AllByRecursion (λ x. R x × S x) xs
all_both R S [] h k = tt
all_both R S (x ∷ xs) h k = ((h.0, k.0), all_both R S xs h.1 k.1)

pub values_more : {X : Type 0} (b : List ℤ) (V : X → ℤ) (ts : List Term) (xs : List X) (t : Term) (x : X) → map (num b) ts ≡ map V xs → num b t ≡ V x → map (num b) (ts ++ t ∷ []) ≡ map V (xs ++ x ∷ [])
values_more b V ts xs t x h e = map-append (num b) ts (t ∷ []) ∙ ap₂ (λ (us : List ℤ) (u : ℤ). us ++ u ∷ []) h e ∙ sym (map-append V xs (x ∷ []))

pub long_more : {X Y : Type 0} (ts : List X) (xs : List Y) (t : X) (x : Y) → length ts ≡ length xs → length (ts ++ t ∷ []) ≡ length (xs ++ x ∷ [])
long_more ts xs t x e = length-append ts (t ∷ []) ∙ ap (λ k. k + 1) e ∙ sym (length-append xs (x ∷ []))

-- what is found is in the table
pub found : (R : Literal → Type 0) (table : List Literal) (c : Cell) (t : Term) → AllByRecursion R table → find table c ≡ Some t → (l : Literal) × R l × (l.truth ≡ t) × (is_same l.cell c ≡ true)
found R [] c t h e = absurd (cc e)
found R (l ∷ ls) c t h e = by (is_same l.cell c) refl (found R ls c t h.1)
  where
    by : (s : Bool) → is_same l.cell c ≡ s → (find ls c ≡ Some t → (k : Literal) × R k × (k.truth ≡ t) × (is_same k.cell c ≡ true)) → (k : Literal) × R k × (k.truth ≡ t) × (is_same k.cell c ≡ true)
    by true is rest = (l, h.0, cc (sym (ap (λ (b : Bool). if b then Some l.truth else find ls c) is) ∙ e), is)
    by false is rest = rest (sym (ap (λ (b : Bool). if b then Some l.truth else find ls c) is) ∙ e)

-- cells that share a literal ask the same
same_value : (b : List ℤ) (c d : Cell) → is_same c d ≡ true → has_value b c ≡ has_value b d
same_value b c d is =
    let parts = both_true (c.place == d.place) ((c.variable == d.variable) && int_eq c.value d.value) is in
    let rest = both_true (c.variable == d.variable) (int_eq c.value d.value) parts.1 in
    ap₂ (λ (x : ℕ) (v : ℤ). int_eq (at b x) v) (eqb-true c.variable d.variable rest.0) (equal c.value d.value rest.1)

pub table_more : (n k : ℕ) (ls : List Literal) → n ≤ k → IsTableBefore n ls → IsTableBefore k ls
table_more n k [] le h = tt
table_more n k (l ∷ ls) le h = (before_more n k l.truth le h.0, table_more n k ls le h.1)

-- one literal

looked_before : (n : ℕ) (table : List Literal) (c : Cell) (o : Option Term) → find table c ≡ o → IsTableBefore n table
    → IsTableBefore (n + made (looked n table c o).items) (looked n table c o).table × Before (n + made (looked n table c o).items) (looked n table c o).term
looked_before n table c None e k =
    (all_more (λ (l : Literal). Before (n + 1) l.truth) table (record { cell = c; truth = Var n }) (table_more n (n + 1) table (omega arith) k) (omega arith), omega arith)
looked_before n table c (Some t) e k =
    let l = found (λ (y : Literal). Before n y.truth) table c t k e in
    let le : n ≤ n + 0 = omega arith in
    (table_more n (n + 0) table le k, before_more n (n + 0) t le (subst (Before n) l.2 l.1))

pub literal_before : (n : ℕ) (table : List Literal) (c : Cell) → IsTableBefore n table
    → IsTableBefore (n + made (literal_of n table c).items) (literal_of n table c).table × Before (n + made (literal_of n table c).items) (literal_of n table c).term
literal_before n table c k = looked_before n table c (find table c) refl k

looked_rule : (W D : List ℤ → Type 0) (n : ℕ) (table : List Literal) (c : Cell) (o : Option Term) → find table c ≡ o → c.variable < n
    → Rule W (λ b. D b × TableSays table b) n (looked n table c o).items 4 (λ b. TableSays (looked n table c o).table b × (num b (looked n table c o).term ≡ truth (has_value b c))) Always
looked_rule W D n table c None e lt =
    let E : List ℤ → Type 0 = λ b. D b × TableSays table b in
    let x : Term = Var c.variable in
    let v : Term = Int c.value in
    let is : (b : List ℤ) → truth (int_eq (num b x) (num b v)) ≡ truth (has_value b c) = λ b. ap₂ (λ (y z : ℤ). truth (int_eq y z)) (number-Var b c.variable) (number-Int b c.value) in
    rule_as W E E (λ b. num b (Var n) ≡ truth (int_eq (num b x) (num b v))) (λ b. TableSays (table ++ record { cell = c; truth = Var n } ∷ []) b × (num b (Var n) ≡ truth (has_value b c))) Always Always n (equal_out n c).items 4 4
    (λ b d. d) (λ b d g. (all_more (λ (l : Literal). num b l.truth ≡ truth (has_value b l.cell)) table (record { cell = c; truth = Var n }) d.1 (g ∙ is b), g ∙ is b)) (λ b d g p. tt) (λ b w d g p. tt) (omega arith)
    (yields_eq W E n x v lt tt).rule
looked_rule W D n table c (Some t) e lt =
    rule_none W (λ b. D b × TableSays table b) (λ b. TableSays table b × (num b t ≡ truth (has_value b c))) n 4 (λ b d.
    let l = found (λ (y : Literal). num b y.truth ≡ truth (has_value b y.cell)) table c t d.1 e in
    (d.1, sym (ap (num b) l.2) ∙ l.1 ∙ ap truth (same_value b l.0.cell c l.3)))

-- a literal, whether it was there or not
pub rule_literal : (W D : List ℤ → Type 0) (n : ℕ) (table : List Literal) (c : Cell) → c.variable < n
    → Rule W (λ b. D b × TableSays table b) n (literal_of n table c).items 4 (λ b. TableSays (literal_of n table c).table b × (num b (literal_of n table c).term ≡ truth (has_value b c))) Always
rule_literal W D n table c lt = looked_rule W D n table c (find table c) refl lt

-- the literals of some cells

abbrev pub Knows : ℕ → List Cell → Found → Type 0
Knows n done s = IsTableBefore n s.table × AllBefore n s.terms × (length s.terms ≡ length done)

abbrev pub Tells : List Cell → Found → List ℤ → Type 0
Tells done s b = TableSays s.table b × (map (num b) s.terms ≡ map (λ c. truth (has_value b c)) done)

step_knows : (n : ℕ) (done : List Cell) (s : Found) (c : Cell) → Knows n done s → Knows (n + made (literal_step n s c).items) (done ++ c ∷ []) (literal_step n s c).state
step_knows n done s c k =
    let m : ℕ = n + made (literal_of n s.table c).items in
    let l = literal_before n s.table c k.0 in
    (l.0, all_more (Before m) s.terms (literal_of n s.table c).term (all_before_more n m s.terms (omega arith) k.1) l.1, long_more s.terms done (literal_of n s.table c).term c k.2)

step_rule : (W D : List ℤ → Type 0) (n : ℕ) (done : List Cell) (s : Found) (c : Cell) → c.variable < n
    → Rule W (λ b. D b × Tells done s b) n (literal_step n s c).items 4 (λ b. Tells (done ++ c ∷ []) (literal_step n s c).state b) Always
step_rule W D n done s c lt =
    let E : List ℤ → Type 0 = λ b. D b × Tells done s b in
    let t : Term = (literal_of n s.table c).term in
    rule_as W (λ b. E b × TableSays s.table b) E (λ b. TableSays (literal_of n s.table c).table b × (num b t ≡ truth (has_value b c))) (λ b. Tells (done ++ c ∷ []) (literal_step n s c).state b) Always Always n (literal_step n s c).items 4 4
    (λ b d. (d, d.1.0)) (λ b d g. (g.0, values_more b (λ y. truth (has_value b y)) s.terms done t c d.1.1 g.1)) (λ b d g p. tt) (λ b w d g p. tt) (omega arith) (rule_literal W E n s.table c lt)

module _ (m n : ℕ) (table : List Literal) (cells : List Cell) (le : m ≤ n) (before : IsTableBefore n table) (below : AllByRecursion (λ (c : Cell). c.variable < m) cells) where
  pub literals_before : Knows (n + made (literals_of n table cells).items) cells (literals_of n table cells).state
  literals_before =
      kept_in_turn (λ (c : Cell). c.variable < m) Knows literal_step m (λ j done s c ge k q. step_knows j done s c k) n [] (record { table = table; terms = [] }) cells le (before, tt, refl) below

  pub rule_literals : (W D : List ℤ → Type 0) → Rule W (λ b. D b × TableSays table b) n (literals_of n table cells).items (length cells * 4) (λ b. Tells cells (literals_of n table cells).state b) Always
  rule_literals W D =
      gives_in_turn W (λ b. D b × TableSays table b) (λ (c : Cell). c.variable < m) Knows Tells literal_step m 4 (λ j done s c ge k q. step_knows j done s c k)
      (λ j done s c ge k q. step_rule W (λ b. D b × TableSays table b) j done s c (omega (arith, ge, q))) n (record { table = table; terms = [] }) cells le (before, tt, refl) (λ b d. (d.1, refl)) below

-- well-formed literals

table_formed_more : (bs cs : List Bool) (ls : List Literal) → Keeps bs cs → IsTableFormed bs ls → IsTableFormed cs ls
table_formed_more bs cs [] keeps h = tt
table_formed_more bs cs (l ∷ ls) keeps h = (logic_more bs cs keeps l.truth h.0, table_formed_more bs cs ls keeps h.1)

looked_formed : (bs : List Bool) (n : ℕ) (table : List Literal) (c : Cell) (o : Option Term) → find table c ≡ o → length bs ≡ n → IsCellFormed bs c → IsTableFormed bs table
    → AreFormed bs (looked n table c o).items × IsTableFormed (bs ++ kinds_of (looked n table c o).items) (looked n table c o).table × IsLogic (bs ++ kinds_of (looked n table c o).items) (looked n table c o).term
looked_formed bs n table c None e here h k =
    let made = makes_eq bs n here (Var c.variable) (Int c.value) h.variable h.value in
    let cs : List Bool = bs ++ true ∷ [] in
    (made.formed, all_more (λ (l : Literal). IsLogic cs l.truth) table (record { cell = c; truth = Var n }) (table_formed_more bs cs table (keeps_behind bs (true ∷ [])) k) made.term, made.term)
looked_formed bs n table c (Some t) e here h k =
    let l = found (λ (y : Literal). IsLogic bs y.truth) table c t k e in
    let is : bs ≡ bs ++ [] = sym (append-nil bs) in
    (tt, subst (λ (ks : List Bool). IsTableFormed ks table) is k, subst (λ (ks : List Bool). IsLogic ks t) is (subst (IsLogic bs) l.2 l.1))

pub formed_literal : (bs : List Bool) (n : ℕ) (table : List Literal) (c : Cell) → length bs ≡ n → IsCellFormed bs c → IsTableFormed bs table
    → AreFormed bs (literal_of n table c).items × IsTableFormed (bs ++ kinds_of (literal_of n table c).items) (literal_of n table c).table × IsLogic (bs ++ kinds_of (literal_of n table c).items) (literal_of n table c).term
formed_literal bs n table c here h k = looked_formed bs n table c (find table c) refl here h k

cell_more : (bs cs : List Bool) (c : Cell) → Keeps bs cs → IsCellFormed bs c → IsCellFormed cs c
cell_more bs cs c keeps h = record { variable = keeps c.variable false h.variable; value = h.value }

abbrev pub IsFoundFormed : List Bool → Found → Type 0
IsFoundFormed bs s = IsTableFormed bs s.table × AreLogicTerms bs s.terms

step_formed : (bs : List Bool) (n : ℕ) (s : Found) (c : Cell) → length bs ≡ n → IsCellFormed bs c → IsFoundFormed bs s
    → AreFormed bs (literal_step n s c).items × IsFoundFormed (bs ++ kinds_of (literal_step n s c).items) (literal_step n s c).state
step_formed bs n s c here h k =
    let cs : List Bool = bs ++ kinds_of (literal_of n s.table c).items in
    let one = formed_literal bs n s.table c here h k.0 in
    (one.0, (one.1, all_more (IsLogic cs) s.terms (literal_of n s.table c).term (logics_more bs cs (keeps_behind bs (kinds_of (literal_of n s.table c).items)) s.terms k.1) one.2))

pub formed_literals : (bs : List Bool) (n : ℕ) (table : List Literal) (cells : List Cell) → length bs ≡ n → IsTableFormed bs table → AllByRecursion (IsCellFormed bs) cells
    → AreFormed bs (literals_of n table cells).items × IsFoundFormed (bs ++ kinds_of (literals_of n table cells).items) (literals_of n table cells).state
formed_literals bs n table cells here k h =
    formed_in_turn bs (IsCellFormed bs) IsFoundFormed literal_step (λ m cs s c long keeps ks q. step_formed cs m s c long (cell_more bs cs c keeps q) ks) n bs (record { table = table; terms = [] }) cells here (λ v t e. e) (k, tt) h
