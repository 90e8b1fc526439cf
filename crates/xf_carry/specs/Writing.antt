-- An object that writes a text of the items that it takes: what it means that it grew, and that it began to grow.
use Rattle.std.specs.Prelude.{◌≡◌, ℕ, ◌+◌, ◌-◌, ◌≤◌, Option, Some, None, List, [], ◌++◌, refl}
use Rattle.std.proofs.Common.{arith, ap, sym, subst, ◌∙◌}
use Rattle.std.proofs.lemmas.List.{append_assoc, append-nil}
use Rattle.xf_text.specs.Outside.{Appended}
use Rattle.xf_text.proofs.OutsideLemmas.{appended_then}
use Rattle.lo_base.specs.Item.{Item, made}
use Rattle.lo_base.specs.Emit.{EmitLaws}
use Rattle.lo_base.proofs.Solving.{made-append}

-- nothing was appended
pub appended_nil : (o : Option (List ℕ)) → Appended o o []
appended_nil None = tt
appended_nil (Some bs) = ap (λ zs. Some zs) (sym (append-nil bs))

-- `out` is what the object writes to, `kept` what it keeps of the named variables, and `named` how many these are;
-- `text` is what it writes of items, the first auxiliary of which has a number
module _ {E W K : Type 0} (out : E → W) (kept : E → K) (count : E → ℕ) (named : K → ℕ) (text : K → ℕ → List Item → List ℕ) (holds : W → Option (List ℕ)) (faults : W → ℕ) where
  -- the text of items that the object is to take
  abbrev pub due : E → List Item → List ℕ
  due e items = text (kept e) (count e - named (kept e)) items

  -- the whole text of the items was appended
  pub record Grew (old new : E) (items : List Item) : Type 0 where
    pub same : kept new ≡ kept old
    pub counted : count new ≡ count old + made items
    pub told : Appended (holds (out old)) (holds (out new)) (due old items)
    pub failed : faults (out old) ≤ faults (out new)

  -- a front of the text was appended
  pub record Began (old new : E) (items : List Item) : Type 0 where
    pub same : kept new ≡ kept old
    pub at_least : count old ≤ count new
    pub front : List ℕ
    pub rest : List ℕ
    pub all : front ++ rest ≡ due old items
    pub told : Appended (holds (out old)) (holds (out new)) front
    pub failed : faults (out old) ≤ faults (out new)

  -- the text of items in a row, and of no items
  pub record IsText : Type 0 where
    pub nothing : (k : K) (n : ℕ) → text k n [] ≡ []
    pub in_a_row : (k : K) (n : ℕ) (xs ys : List Item) → text k n (xs ++ ys) ≡ text k n xs ++ text k (n + made xs) ys
    pub enough : (e : E) → named (kept e) ≤ count e

  module _ (is : IsText) where
    due_then : (a b : E) (xs ys : List Item) → Grew a b xs → due a (xs ++ ys) ≡ due a xs ++ due b ys
    due_then a b xs ys g =
        let number : count a - named (kept a) + made xs ≡ count b - named (kept b) = omega (arith, g.counted, ap named g.same, is.enough a) in
        is.in_a_row (kept a) (count a - named (kept a)) xs ys
        ∙ ap (λ n. due a xs ++ text (kept a) n ys) number
        ∙ ap (λ k. due a xs ++ text k (count b - named (kept b)) ys) (sym g.same)

    joined : (a b c : E) (xs ys : List Item) → Grew a b xs → Grew b c ys → Grew a c (xs ++ ys)
    joined a b c xs ys g h = record {
      same = h.same ∙ g.same;
      counted = omega (arith, g.counted, h.counted, made-append xs ys);
      told = subst (Appended (holds (out a)) (holds (out c))) (sym (due_then a b xs ys g)) (appended_then (holds (out a)) (holds (out b)) (holds (out c)) (due a xs) (due b ys) g.told h.told);
      failed = omega (arith, g.failed, h.failed);
    }

    then_began : (a b c : E) (xs ys : List Item) → Grew a b xs → Began b c ys → Began a c (xs ++ ys)
    then_began a b c xs ys g h = record {
      same = h.same ∙ g.same;
      at_least = omega (arith, g.counted, h.at_least);
      front = due a xs ++ h.front;
      rest = h.rest;
      all = append_assoc (due a xs) h.front h.rest ∙ ap (λ bs. due a xs ++ bs) h.all ∙ sym (due_then a b xs ys g);
      told = appended_then (holds (out a)) (holds (out b)) (holds (out c)) (due a xs) h.front g.told h.told;
      failed = omega (arith, g.failed, h.failed);
    }

    pub laws : EmitLaws (λ e. named (kept e)) count (λ e. faults (out e)) Grew Began
    laws = record {
      enough = is.enough;
      nothing = λ e. record { same = refl; counted = omega arith; told = subst (Appended (holds (out e)) (holds (out e))) (sym (is.nothing (kept e) (count e - named (kept e)))) (appended_nil (holds (out e))); failed = omega arith };
      joined = joined;
      then_began = then_began;
      longer = λ a b xs ys g.
          let more : List ℕ = text (kept a) (count a - named (kept a) + made xs) ys in
          record { same = g.same; at_least = g.at_least; front = g.front; rest = g.rest ++ more; all = sym (append_assoc g.front g.rest more) ∙ ap (λ bs. bs ++ more) g.all ∙ sym (is.in_a_row (kept a) (count a - named (kept a)) xs ys); told = g.told; failed = g.failed };
      whole = λ a b xs g. record { same = g.same; at_least = omega (arith, g.counted); front = due a xs; rest = []; all = append-nil (due a xs); told = g.told; failed = g.failed };
      grew_count = λ a b xs g. g.counted;
      began_count = λ a b xs g. g.at_least;
      began_named = λ a b xs g. ap named g.same;
      began_faults = λ a b xs g. g.failed;
    }
