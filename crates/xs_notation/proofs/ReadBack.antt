-- What is written is read again.
use Rattle.std.proofs.Common.{◌≡◌, ℕ, suc, ◌<◌, ℤ, nat_abs, List, [], ◌∷◌, ◌++◌, append_assoc, codes, map, length, get_or, refl, sym, ap, subst, ◌∙◌, arith, rules, Bool, true, false, not, ◌&&◌, Some, All}
use Rattle.std.specs.Fmt.{signed_decimal}
use Rattle.std.specs.List.{flat_map, list_all}
use Rattle.std.proofs.lemmas.List.Elements.{All-head, All-tail}
use Rattle.std.proofs.lemmas.List.Folds.{list_all-append}
use borrow.Author.Tests.{le-leb}
use Rattle.xs_model.specs.Bounds.{HasVariable, HasVariables}
use Rattle.xs_model.specs.Formed.{HasSmallInteger, HasSmallIntegers}
use Rattle.xs_model.specs.Shape.{HasShape, IsCount, ArePlaced, IsShaped, is_set, is_set_layer}
use Rattle.xs_expr.specs.Shaped.{is_count, is_exponent, is_exponent_layer, are_no_sets as are_no_set_exprs, are_placed as are_placed_exprs}
use Rattle.xs_expr.specs.Text.{joined_from, name_of, written}
use Rattle.xs_expr.specs.Tokens.{is_in_word, tokens_of}
use Rattle.xs_expr.specs.Words.{is_exponent_value}
use Rattle.xs_expr.proofs.Every.{every-operands, every-node, every-var}
use Rattle.xs_expr.proofs.Shapes.{is-count, are-placed}
use Rattle.xs_fields.specs.Conditions.{all_meet, meets}
use Rattle.xs_fields.specs.Integers.{integer_of, is_small}
use Rattle.xs_fields.specs.declared.condition.Condition.{Condition}
use Rattle.xs_fields.specs.declared.condition.Condition.TheVariants.{Known, Nesting, Spelling, Magnitude, Naming, Counting, Fitting}
use Rattle.xs_model.specs.Outline.{Outline}
use Rattle.xs_model.specs.Sound.{IsSmall, magnitudes}
use Rattle.xs_model.specs.declared.expr.Op.{Op}
use Rattle.xs_model.specs.declared.expr.Op.TheVariants.{Neg, Abs, Sqr, Add, Mul, Sub, Dist, Div, Mod, Pow, Min, Max, Lt, Le, Gt, Ge, Ne, Eq, Set, In, NotIn, Not, And, Or, Xor, Iff, Imp, If}
use Rattle.xs_model.specs.declared.expr.Expr.{Expr, Int, Var, Node, roll-Expr, map-Expr, ind-Expr, every_here-Expr, the_lemmas as expr_lemmas}
use Rattle.xs_model.specs.declared.expr.Expr.TheVariants.{rolls-Int, rolls-Var, rolls-Node}
use Rattle.xs_model.specs.declared.expr.Expr.TheOpen.{Expr-F}
use Rattle.xs_notation.specs.Forms.{Form, form, are_formed, are_no_sets, are_placed}
use Rattle.xs_notation.specs.Notation.{flat, behind, listed, are_plain}
use Rattle.xs_notation.specs.Reading.{expr_of, words_in, words_meet}
use Rattle.xs_notation.specs.Terms.{settled, term_by, term_in, term_meets, term_meets_by, term_of}
use Rattle.xs_notation.specs.declared.raw.Raw.{Raw, Word, Call}
use Rattle.xs_fields.proofs.Decimals.{decimal-spells, integer-is, integer-bytes, integer-some}
use Rattle.xs_notation.proofs.Flats.{flat-Word, flat-Call, plain-Word, plain-Call}
use Rattle.xs_notation.proofs.Marked.{IsOneWord, Stops, high-byte, name-word, plain-word, word-token}
use Rattle.xs_fields.proofs.ReachedLemmas.{none-missed}
use Rattle.xs_notation.proofs.Reached.{IsDirect}
use Rattle.xs_notation.proofs.ShapeLemmas.{expr-Call, expr-Word, form-Call, form-Word, out-Int, out-Node, out-Var}
use Rattle.xs_notation.proofs.WordsLemmas.{words-Word, words-Call}

both : (a b : Bool) → a ≡ true → b ≡ true → (a && b) ≡ true
both a b g h = ap (λ (t : Bool). t && b) g ∙ h

both-left : (a b : Bool) → (a && b) ≡ true → a ≡ true
both-left true b h = refl
both-left false b h = cc

both-right : (a b : Bool) → (a && b) ≡ true → b ≡ true
both-right true b h = h
both-right false b h = cc

-- what is written of each kind of expression
written-Int : (ws : List (List ℕ)) (z : ℤ) → written ws (Int z) ≡ signed_decimal z
written-Int ws z = search (rules, expr_lemmas)

written-Var : (ws : List (List ℕ)) (v : ℕ) → written ws (Var v) ≡ get_or ws v []
written-Var ws v = search (rules, expr_lemmas)

written-Node : (ws : List (List ℕ)) (op : Op) (es : List Expr) → written ws (Node op es) ≡ name_of op ++ (codes "(" ++ (joined_from [] (map (written ws) es) ++ codes ")"))
written-Node ws op es = search (rules, expr_lemmas)

-- a small integer meets every condition
small-met : (z : ℤ) → is_small z ≡ true → (k : Condition) → meets is_small (Some z) k ≡ true
small-met z h Known = refl
small-met z h Nesting = refl
small-met z h Spelling = refl
small-met z h Magnitude = h
small-met z h Naming = refl
small-met z h Counting = refl
small-met z h Fitting = refl

one-text : (t : List ℕ) → 0 < length t → list_all is_in_word t ≡ true → IsOneWord t
one-text [] h g = absurd (omega arith)
one-text (b ∷ bs) h g = (both-left (is_in_word b) (list_all is_in_word bs) g, both-right (is_in_word b) (list_all is_in_word bs) g)

meets-both : (test : List ℕ → Condition → Bool) (xs ys : List (List ℕ)) (k : Condition) → all_meet test xs k ≡ true → all_meet test ys k ≡ true → all_meet test (xs ++ ys) k ≡ true
meets-both test xs ys k h g = list_all-append (λ w. test w k) xs ys ∙ both (all_meet test xs k) (all_meet test ys k) h g

module _ (os : List Outline) (ws : List (List ℕ)) (direct : (v : ℕ) → v < length ws → IsDirect os (get_or ws v []) v) where
  -- the tree that an expression's text spells
  pub record IsBack (e : Expr) : Type 0 where
    pub tree : Raw
    pub tokens : (rest : List ℕ) → Stops rest → tokens_of (written ws e ++ rest) ≡ flat tree ++ tokens_of rest
    pub plain : are_plain tree ≡ true
    pub meets : (k : Condition) → words_meet os tree k ≡ true
    pub same : expr_of os tree ≡ e
    pub formed : (form tree).is_formed ≡ true
    pub set : (form tree).is_set ≡ is_set e
    pub exponent : is_exponent e ≡ true → (form tree).is_exponent ≡ true

  -- a word by itself
  word-back : (e : Expr) (w : List ℕ) → IsOneWord w → written ws e ≡ w → ((k : Condition) → term_meets os w k ≡ true) → term_of os w ≡ e → is_set e ≡ false → (is_exponent e ≡ true → is_exponent_value (integer_of w) ≡ true) → IsBack e
  word-back e w whole text met is set exponent = record {
    tree = Word w;
    tokens = λ rest stops. ap (λ t. tokens_of (t ++ rest)) text ∙ word-token w rest whole stops ∙ ap (λ ts. ts ++ tokens_of rest) (sym (flat-Word w));
    plain = plain-Word w ∙ plain-word w whole;
    meets = λ k. ap (λ us. all_meet (term_meets os) us k) (words-Word w) ∙ both (term_meets os w k) true (met k) refl;
    same = expr-Word os w ∙ is;
    formed = ap (λ f. f.is_formed) (form-Word w);
    set = ap (λ f. f.is_set) (form-Word w) ∙ sym set;
    exponent = λ h. ap (λ f. f.is_exponent) (form-Word w) ∙ exponent h;
  }

  int-back : (z : ℤ) → IsSmall z → IsBack (Int z)
  int-back z h =
      let w : List ℕ = signed_decimal z in
      let spells = decimal-spells z h in
      let is = integer-is w z spells in
      let small : is_small z ≡ true = le-leb (nat_abs z) magnitudes h in
      let met : (k : Condition) → term_meets os w k ≡ true = λ k. ap (λ o. term_meets_by os w o k) is ∙ small-met z small k in
      let whole = one-text w (integer-some w spells.0) (integer-bytes is_in_word refl refl (λ c l g. high-byte c (omega arith)) w spells.0) in
      let read : term_of os w ≡ Int z = ap (λ o. term_in (settled o (term_by os w (integer_of w)))) (none-missed (term_meets os w) met) ∙ ap (term_by os w) is in
      word-back (Int z) w whole (written-Int ws z) met read (ap is_set_layer (out-Int z)) (λ g. ap is_exponent_value is ∙ sym (ap is_exponent_layer (out-Int z)) ∙ g)

  var-back : (v : ℕ) → v < length ws → IsBack (Var v)
  var-back v h =
      let d = direct v h in
      word-back (Var v) (get_or ws v []) d.whole (written-Var ws v) d.meets d.is (ap is_set_layer (out-Var v)) (λ g. let no : false ≡ true = sym (ap is_exponent_layer (out-Var v)) ∙ g in cc)

  abbrev Beside : Type 0
  Beside = (e : Expr) × IsBack e

  abbrev exprs : List Beside → List Expr
  exprs qs = map (λ q. q.0) qs

  abbrev trees : List Beside → List Raw
  trees qs = map (λ q. q.1.tree) qs

  joined-stops : (qs : List Beside) (rest : List ℕ) → Stops rest → Stops (joined_from (codes ",") (map (written ws) (exprs qs)) ++ rest)
  joined-stops [] rest h = h
  joined-stops (q ∷ qs) rest h = refl

  -- the operands behind the first
  behind-tokens : (qs : List Beside) (rest : List ℕ) → Stops rest → tokens_of (joined_from (codes ",") (map (written ws) (exprs qs)) ++ rest) ≡ behind (map flat (trees qs)) ++ tokens_of rest
  behind-tokens [] rest h = refl
  behind-tokens (q ∷ qs) rest h =
      let more : List ℕ = joined_from (codes ",") (map (written ws) (exprs qs)) in
      ap (λ t. codes "," ∷ tokens_of t) (append_assoc (written ws q.0) more rest)
      ∙ ap (λ ts. codes "," ∷ ts) (q.1.tokens (more ++ rest) (joined-stops qs rest h))
      ∙ ap (λ ts. codes "," ∷ (flat q.1.tree ++ ts)) (behind-tokens qs rest h)
      ∙ ap (λ ts. codes "," ∷ ts) (sym (append_assoc (flat q.1.tree) (behind (map flat (trees qs))) (tokens_of rest)))

  listed-tokens : (qs : List Beside) (rest : List ℕ) → Stops rest → tokens_of (joined_from [] (map (written ws) (exprs qs)) ++ rest) ≡ listed (map flat (trees qs)) ++ tokens_of rest
  listed-tokens [] rest h = refl
  listed-tokens (q ∷ qs) rest h =
      let more : List ℕ = joined_from (codes ",") (map (written ws) (exprs qs)) in
      ap tokens_of (append_assoc (written ws q.0) more rest)
      ∙ q.1.tokens (more ++ rest) (joined-stops qs rest h)
      ∙ ap (λ ts. flat q.1.tree ++ ts) (behind-tokens qs rest h)
      ∙ sym (append_assoc (flat q.1.tree) (behind (map flat (trees qs))) (tokens_of rest))

  node-tokens : (op : Op) (qs : List Beside) (rest : List ℕ) → tokens_of (written ws (Node op (exprs qs)) ++ rest) ≡ flat (Call op (trees qs)) ++ tokens_of rest
  node-tokens op qs rest =
      let j : List ℕ = joined_from [] (map (written ws) (exprs qs)) in
      let l : List (List ℕ) = listed (map flat (trees qs)) in
      ap (λ t. tokens_of (t ++ rest)) (written-Node ws op (exprs qs))
      ∙ ap tokens_of (append_assoc (name_of op) (40 ∷ (j ++ 41 ∷ [])) rest)
      ∙ word-token (name_of op) (40 ∷ ((j ++ 41 ∷ []) ++ rest)) (name-word op) refl
      ∙ ap (λ t. name_of op ∷ codes "(" ∷ tokens_of t) (append_assoc j (41 ∷ []) rest)
      ∙ ap (λ ts. name_of op ∷ codes "(" ∷ ts) (listed-tokens qs (41 ∷ rest) refl)
      ∙ ap (λ ts. name_of op ∷ codes "(" ∷ ts) (sym (append_assoc l (codes ")" ∷ []) (tokens_of rest)))
      ∙ ap (λ ts. ts ++ tokens_of rest) (sym (flat-Call op (trees qs)))

  all-plain : (qs : List Beside) → list_all (λ p. p) (map are_plain (trees qs)) ≡ true
  all-plain [] = refl
  all-plain (q ∷ qs) = both (are_plain q.1.tree) (list_all (λ p. p) (map are_plain (trees qs))) q.1.plain (all-plain qs)

  all-met : (qs : List Beside) (k : Condition) → all_meet (term_meets os) (flat_map words_in (trees qs)) k ≡ true
  all-met [] k = refl
  all-met (q ∷ qs) k = meets-both (term_meets os) (words_in q.1.tree) (flat_map words_in (trees qs)) k (q.1.meets k) (all-met qs k)

  all-same : (qs : List Beside) → map (expr_of os) (trees qs) ≡ exprs qs
  all-same [] = refl
  all-same (q ∷ qs) = ap (λ e. e ∷ map (expr_of os) (trees qs)) q.1.same ∙ ap (λ es. q.0 ∷ es) (all-same qs)

  all-formed : (qs : List Beside) → are_formed (map form (trees qs)) ≡ true
  all-formed [] = refl
  all-formed (q ∷ qs) = both (form q.1.tree).is_formed (are_formed (map form (trees qs))) q.1.formed (all-formed qs)

  same-count : (qs : List Beside) → length (map form (trees qs)) ≡ length (exprs qs)
  same-count [] = refl
  same-count (q ∷ qs) = ap suc (same-count qs)

  no-set : (q : Beside) → not (is_set q.0) ≡ true → not (form q.1.tree).is_set ≡ true
  no-set q h = ap not q.1.set ∙ h

  no-sets : (qs : List Beside) → are_no_set_exprs (exprs qs) ≡ true → are_no_sets (map form (trees qs)) ≡ true
  no-sets [] h = refl
  no-sets (q ∷ qs) h =
      both (not (form q.1.tree).is_set) (are_no_sets (map form (trees qs)))
      (no-set q (both-left (not (is_set q.0)) (are_no_set_exprs (exprs qs)) h))
      (no-sets qs (both-right (not (is_set q.0)) (are_no_set_exprs (exprs qs)) h))

  membership : (qs : List Beside) → are_placed_exprs In (exprs qs) ≡ true → are_placed In (map form (trees qs)) ≡ true
  membership [] h = cc
  membership (p ∷ []) h = cc
  membership (p ∷ q ∷ []) h =
      both (not (form p.1.tree).is_set) (form q.1.tree).is_set
      (no-set p (both-left (not (is_set p.0)) (is_set q.0) h))
      (q.1.set ∙ both-right (not (is_set p.0)) (is_set q.0) h)
  membership (p ∷ q ∷ r ∷ qs) h = cc

  power : (qs : List Beside) → are_placed_exprs Pow (exprs qs) ≡ true → are_placed Pow (map form (trees qs)) ≡ true
  power [] h = cc
  power (p ∷ []) h = cc
  power (p ∷ q ∷ []) h =
      both (not (form p.1.tree).is_set) (form q.1.tree).is_exponent
      (no-set p (both-left (not (is_set p.0)) (is_exponent q.0) h))
      (q.1.exponent (both-right (not (is_set p.0)) (is_exponent q.0) h))
  power (p ∷ q ∷ r ∷ qs) h = cc

  placed : (op : Op) (qs : List Beside) → are_placed_exprs op (exprs qs) ≡ true → are_placed op (map form (trees qs)) ≡ true
  placed Neg qs h = no-sets qs h
  placed Abs qs h = no-sets qs h
  placed Sqr qs h = no-sets qs h
  placed Add qs h = no-sets qs h
  placed Mul qs h = no-sets qs h
  placed Sub qs h = no-sets qs h
  placed Dist qs h = no-sets qs h
  placed Div qs h = no-sets qs h
  placed Mod qs h = no-sets qs h
  placed Pow qs h = power qs h
  placed Min qs h = no-sets qs h
  placed Max qs h = no-sets qs h
  placed Lt qs h = no-sets qs h
  placed Le qs h = no-sets qs h
  placed Gt qs h = no-sets qs h
  placed Ge qs h = no-sets qs h
  placed Ne qs h = no-sets qs h
  placed Eq qs h = no-sets qs h
  placed Set qs h = no-sets qs h
  placed In qs h = membership qs h
  placed NotIn qs h = membership qs h
  placed Not qs h = no-sets qs h
  placed And qs h = no-sets qs h
  placed Or qs h = no-sets qs h
  placed Xor qs h = no-sets qs h
  placed Iff qs h = no-sets qs h
  placed Imp qs h = no-sets qs h
  placed If qs h = no-sets qs h

  node-back : (op : Op) (qs : List Beside) → IsCount op (length (exprs qs)) → ArePlaced op (exprs qs) → IsBack (Node op (exprs qs))
  node-back op qs count places =
      let rs : List Raw = trees qs in
      let fs : List Form = map form rs in
      let counted : is_count op (length fs) ≡ true = is-count op (length fs) (subst (IsCount op) (sym (same-count qs)) count) in
      let put : are_placed op fs ≡ true = placed op qs (are-placed op (exprs qs) places) in
      record {
        tree = Call op rs;
        tokens = λ rest stops. node-tokens op qs rest;
        plain = plain-Call op rs ∙ all-plain qs;
        meets = λ k. ap (λ us. all_meet (term_meets os) us k) (words-Call op rs) ∙ all-met qs k;
        same = expr-Call os op rs ∙ ap (Node op) (all-same qs);
        formed = ap (λ f. f.is_formed) (form-Call op rs) ∙ both (is_count op (length fs)) (are_placed op fs && are_formed fs) counted (both (are_placed op fs) (are_formed fs) put (all-formed qs));
        set = ap (λ f. f.is_set) (form-Call op rs) ∙ sym (ap is_set_layer (out-Node op (exprs qs)));
        exponent = λ h. let no : false ≡ true = sym (ap is_exponent_layer (out-Node op (exprs qs))) ∙ h in cc;
      }

  abbrev Claim : Expr → Type 0
  Claim e = IsShaped e → HasVariables (length ws) e → HasSmallIntegers e → IsBack e

  abbrev kept : List ((e : Expr) × Claim e) → List Expr
  kept ps = map (λ p. p.0) ps

  record AreBack (es : List Expr) : Type 0 where
    pairs : List Beside
    same : exprs pairs ≡ es

  operands : (ps : List ((e : Expr) × Claim e)) → All IsShaped (kept ps) → All (HasVariables (length ws)) (kept ps) → All HasSmallIntegers (kept ps) → AreBack (kept ps)
  operands [] s v m = record { pairs = []; same = refl }
  operands (p ∷ ps) s v m =
      let rest = operands ps (All-tail IsShaped p.0 (kept ps) s) (All-tail (HasVariables (length ws)) p.0 (kept ps) v) (All-tail HasSmallIntegers p.0 (kept ps) m) in
      let own = p.1 (All-head IsShaped p.0 (kept ps) s) (All-head (HasVariables (length ws)) p.0 (kept ps) v) (All-head HasSmallIntegers p.0 (kept ps) m) in
      record { pairs = (p.0, own) ∷ rest.pairs; same = ap (λ es. p.0 ∷ es) rest.same }

  at-node : (op : Op) (ps : List ((e : Expr) × Claim e)) → Claim (Node op (kept ps))
  at-node op ps s v m =
      let e : Expr = Node op (kept ps) in
      let below = operands ps
      (every-operands HasShape e op (kept ps) (kept ps) refl refl s)
      (every-operands (HasVariable (length ws)) e op (kept ps) (kept ps) refl refl v)
      (every-operands HasSmallInteger e op (kept ps) (kept ps) refl refl m) in
      let own : IsCount op (length (kept ps)) × ArePlaced op (kept ps) = every-node HasShape e op (kept ps) refl s in
      let shape : IsCount op (length (exprs below.pairs)) × ArePlaced op (exprs below.pairs) = subst (λ es. IsCount op (length es) × ArePlaced op es) (sym below.same) own in
      subst (λ es. IsBack (Node op es)) below.same (node-back op below.pairs shape.0 shape.1)

  at-int : (z : ℤ) → Claim (Int z)
  at-int z s v m = int-back z (subst HasSmallInteger (out-Int z) (every_here-Expr HasSmallInteger (Int z) m))

  at-var : (n : ℕ) → Claim (Var n)
  at-var n s v m = var-back n (every-var (HasVariable (length ws)) (Var n) n refl v)

  at-layer : (y : Expr-F ((e : Expr) × Claim e)) → Claim (roll-Expr (map-Expr ((e : Expr) × Claim e) Expr (λ p. p.0) y))
  at-layer (Expr-F.Int z) = subst Claim (sym (rolls-Int z)) (at-int z)
  at-layer (Expr-F.Var n) = subst Claim (sym (rolls-Var n)) (at-var n)
  at-layer (Expr-F.Node op ps) = subst Claim (sym (rolls-Node op (kept ps))) (at-node op ps)

  pub back : (e : Expr) → Claim e
  back = ind-Expr Claim (λ x y is. subst (λ z. Claim (roll-Expr z)) is (at-layer y))
