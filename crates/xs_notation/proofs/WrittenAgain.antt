-- The text of an expression is answered with the expression.
use Rattle.std.proofs.Common.{◌≡◌, ℕ, ◌<◌, ◌^◌, List, [], ◌∷◌, append-nil, map, length, get_or, refl, sym, ap, ◌∙◌, arith, Bool, true, false, not, ◌&&◌, Ok}
use Rattle.std.specs.Prelude.{sum}
use Rattle.std.specs.List.{AllByRecursion}
use Rattle.std.proofs.lemmas.List.Sums.{sum_by-cons}
use Rattle.xs_expr.specs.Text.{written}
use Rattle.xs_expr.specs.Tokens.{tokens_of}
use Rattle.xs_fields.specs.Conditions.{answer_on}
use Rattle.xs_fields.specs.declared.condition.Condition.{Condition}
use Rattle.xs_fields.specs.declared.condition.Condition.TheVariants.{Known, Nesting, Spelling, Magnitude, Naming, Counting, Fitting}
use Rattle.xs_model.specs.Formed.{IsFormedExpr}
use Rattle.xs_model.specs.Names.{words}
use Rattle.xs_model.specs.Outline.{Outline, outlines_of}
use Rattle.xs_model.specs.Sound.{cells_of}
use Rattle.xs_model.specs.declared.decl.Decl.{Decl}
use Rattle.xs_model.specs.declared.expr.Expr.{Expr}
use Rattle.xs_notation.specs.Forms.{form, form_meets}
use Rattle.xs_notation.specs.Law.{AreDeclared, IsReadAgain, WrittenAgain}
use Rattle.xs_notation.specs.Nesting.{is_deeper, nesting_meets}
use Rattle.xs_notation.specs.Notation.{flat}
use Rattle.xs_notation.specs.Parse.{parse}
use Rattle.xs_notation.specs.Reading.{expr_at, expr_in, expr_meets, raw_meets, words_meet}
use Rattle.xs_notation.specs.declared.raw.Raw.{Raw}
use Rattle.xs_notation.proofs.Again.{parse-again}
use Rattle.xs_notation.proofs.Declared.{denotes, distinct-all, few-all, sound-all}
use Rattle.xs_notation.proofs.ReadBack.{back}
use Rattle.xs_fields.proofs.ReachedLemmas.{none-missed}
use Rattle.xs_notation.proofs.Reached.{IsDirect, direct-is}

both : (a b : Bool) → a ≡ true → b ≡ true → (a && b) ≡ true
both a b g h = ap (λ (t : Bool). t && b) g ∙ h

-- the word of each variable
direct : (ds : List Decl) → AreDeclared ds → (v : ℕ) → v < length (words ds) → IsDirect (outlines_of ds) (get_or (words ds) v []) v
direct ds d v l = direct-is (outlines_of ds) (sound-all ds d.decls) (few-all ds d.few) (distinct-all ds d.distinct) (get_or (words ds) v []) v (denotes ds v d.decls d.few l)

form-met : (r : Raw) → (form r).is_formed ≡ true → (form r).is_set ≡ false → (k : Condition) → form_meets r k ≡ true
form-met r f s Known = refl
form-met r f s Nesting = refl
form-met r f s Spelling = both (form r).is_formed (not (form r).is_set) f (ap not s)
form-met r f s Magnitude = refl
form-met r f s Naming = refl
form-met r f s Counting = refl
form-met r f s Fitting = refl

pub read-back : (ds : List Decl) (e : Expr) → AreDeclared ds → IsFormedExpr (length (words ds)) e → IsReadAgain ds e
read-back ds e d w =
    let os : List Outline = outlines_of ds in
    let b = back os (words ds) (direct ds d) e w.shaped w.variables w.small in
    let tokens : tokens_of (written (words ds) e) ≡ flat b.tree = ap tokens_of (sym (append-nil (written (words ds) e))) ∙ b.tokens [] tt ∙ append-nil (flat b.tree) in
    record {
      tree = b.tree;
      parsed = ap parse tokens ∙ parse-again b.tree b.plain;
      meets = λ k. both (form_meets b.tree k) (words_meet os b.tree k) (form-met b.tree b.formed (b.set ∙ w.no_set) k) (b.meets k);
      same = b.same;
    }

depth-met : (text : List ℕ) → is_deeper 0 text ≡ false → (k : Condition) → nesting_meets text k ≡ true
depth-met text h Known = refl
depth-met text h Nesting = ap not h
depth-met text h Spelling = refl
depth-met text h Magnitude = refl
depth-met text h Naming = refl
depth-met text h Counting = refl
depth-met text h Fitting = refl

-- of cells that are few in all, each declaration has few
few-of : (ds : List Decl) (most : ℕ) → sum (map cells_of ds) < most → AllByRecursion (λ d. cells_of d < most) ds
few-of [] most h = tt
few-of (d ∷ ds) most h =
    let s = sum_by-cons (λ (n : ℕ). n) (cells_of d) (map cells_of ds) in
    (omega (arith, h, s), few-of ds most (omega (arith, h, s)))

pub written-again : WrittenAgain
written-again = record {
  accepted = λ i a. record { distinct = a.sound.distinct; decls = a.sound.decls; few = few-of i.decls (2 ^ 64) (omega (arith, a.cells)) };
  read = read-back;
  answered = λ ds e d w shallow.
      let os : List Outline = outlines_of ds in
      let text : List ℕ = written (words ds) e in
      let r = read-back ds e d w in
      let met : (k : Condition) → expr_meets os text k ≡ true = λ k. both (nesting_meets text k) (raw_meets os (parse (tokens_of text)) k) (depth-met text shallow k) (ap (λ o. raw_meets os o k) r.parsed ∙ r.meets k) in
      ap (λ o. answer_on o (expr_at os text)) (none-missed (expr_meets os text) met)
      ∙ ap (λ o. Ok (expr_in os o)) r.parsed
      ∙ ap (λ x. Ok x) r.same;
}
