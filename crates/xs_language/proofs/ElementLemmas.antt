-- The texts of elements as they are put together, and what an element meets beside its limit.
use Rattle.std.proofs.Common.{◌≡◌, ℕ, Bool, true, false, List, [], ◌∷◌, ◌++◌, codes, refl, ap, append-nil, append_assoc}
use Rattle.xs_automata.specs.Mdd.{diagram_meets}
use Rattle.xs_automata.specs.Regular.{automaton_meets}
use Rattle.xs_fields.specs.declared.condition.Condition.{Condition}
use Rattle.xs_fields.specs.declared.condition.Condition.TheVariants.{Known, Nesting, Spelling, Magnitude, Naming, Counting, Fitting}
use Rattle.xs_language.specs.Law.{is_limit}
use Rattle.xs_language.specs.Written.{closing, element_text, extension_element, mdd_element, opening, regular_element}
use Rattle.xs_model.specs.Outline.{Outline}
use Rattle.xs_tables.specs.Tables.{table_meets}

-- two and four texts, each with what stands behind it, and what stands between them
two_texts : (a l s b m z : List ℕ) → a ++ (l ++ (s ++ (b ++ (m ++ z)))) ≡ ((a ++ l) ++ (s ++ ((b ++ m) ++ []))) ++ z
two_texts a l s b m z = simp (append_assoc, append-nil)

four_texts : (a k r b l s d m t e n z : List ℕ)
    → a ++ (k ++ (r ++ (b ++ (l ++ (s ++ (d ++ (m ++ (t ++ (e ++ (n ++ z)))))))))) ≡ ((a ++ k) ++ (r ++ ((b ++ l) ++ (s ++ ((d ++ m) ++ (t ++ ((e ++ n) ++ []))))))) ++ z
four_texts a k r b l s d m t e n z = simp (append_assoc, append-nil)

pub extension_bytes : (positive : Bool) (list table : List ℕ) → codes "<extension> <list>" ++ (list ++ (opening positive ++ (table ++ closing positive))) ≡ element_text (extension_element positive list table)
extension_bytes true list table = ap (λ xs. codes "<extension> <list>" ++ xs) (two_texts list (codes "</list>") (codes " <supports>") table (codes "</supports>") (codes " </extension>"))
extension_bytes false list table = ap (λ xs. codes "<extension> <list>" ++ xs) (two_texts list (codes "</list>") (codes " <conflicts>") table (codes "</conflicts>") (codes " </extension>"))

pub mdd_bytes : (list transitions : List ℕ) → codes "<mdd> <list>" ++ (list ++ (codes "</list> <transitions>" ++ (transitions ++ codes "</transitions> </mdd>"))) ≡ element_text (mdd_element list transitions)
mdd_bytes list transitions = ap (λ xs. codes "<mdd> <list>" ++ xs) (two_texts list (codes "</list>") (codes " <transitions>") transitions (codes "</transitions>") (codes " </mdd>"))

pub regular_bytes : (list transitions start finals : List ℕ)
    → codes "<regular> <list>" ++ (list ++ (codes "</list> <transitions>" ++ (transitions ++ (codes "</transitions> <start>" ++ (start ++ (codes "</start> <final>" ++ (finals ++ codes "</final> </regular>")))))))
    ≡ element_text (regular_element list transitions start finals)
regular_bytes list transitions start finals =
    ap (λ xs. codes "<regular> <list>" ++ xs)
    (four_texts list (codes "</list>") (codes " <transitions>") transitions (codes "</transitions>") (codes " <start>") start (codes "</start>") (codes " <final>") finals (codes "</final>") (codes " </regular>"))

-- how many items may still come is asked by the limit alone
pub table_freely : (os : List Outline) (left more : ℕ) (list text : List ℕ) (k : Condition) → is_limit k ≡ false → table_meets os left list text k ≡ table_meets os more list text k
table_freely os left more list text Known asked = refl
table_freely os left more list text Nesting asked = refl
table_freely os left more list text Spelling asked = refl
table_freely os left more list text Magnitude asked = refl
table_freely os left more list text Naming asked = refl
table_freely os left more list text Counting asked = cc
table_freely os left more list text Fitting asked = refl

pub automaton_freely : (os : List Outline) (left more : ℕ) (list transitions start finals : List ℕ) (k : Condition) → is_limit k ≡ false
    → automaton_meets os left list transitions start finals k ≡ automaton_meets os more list transitions start finals k
automaton_freely os left more list transitions start finals Known asked = refl
automaton_freely os left more list transitions start finals Nesting asked = refl
automaton_freely os left more list transitions start finals Spelling asked = refl
automaton_freely os left more list transitions start finals Magnitude asked = refl
automaton_freely os left more list transitions start finals Naming asked = refl
automaton_freely os left more list transitions start finals Counting asked = cc
automaton_freely os left more list transitions start finals Fitting asked = refl

pub diagram_freely : (os : List Outline) (left more : ℕ) (list transitions : List ℕ) (k : Condition) → is_limit k ≡ false → diagram_meets os left list transitions k ≡ diagram_meets os more list transitions k
diagram_freely os left more list transitions Known asked = refl
diagram_freely os left more list transitions Nesting asked = refl
diagram_freely os left more list transitions Spelling asked = refl
diagram_freely os left more list transitions Magnitude asked = refl
diagram_freely os left more list transitions Naming asked = refl
diagram_freely os left more list transitions Counting asked = cc
diagram_freely os left more list transitions Fitting asked = refl
