-- What is read is what the tokens are written with.
use Rattle.std.proofs.Common.{◌≡◌, ℕ, List, [], ◌∷◌, ◌++◌, append_assoc, codes, map, refl, sym, ap, subst, ◌∙◌, Bool, true, false, not, ◌&&◌, if◌then◌else◌, Option, Some, None}
use Rattle.std.specs.List.{list_all}
use Rattle.std.specs.Str.{bytes_eq}
use Rattle.std.proofs.lemmas.List.{append-nil}
use Rattle.std.proofs.lemmas.Slice.Eq.{bytes_eq-Decides}
use Rattle.xs_model.specs.declared.expr.Op.{Op}
use Rattle.xs_expr.specs.Operators.{by_name}
use Rattle.xs_expr.specs.Text.{name_of}
use Rattle.xs_notation.specs.declared.growing.Frame.{Frame}
use Rattle.xs_notation.specs.declared.growing.Growing.{Growing}
use Rattle.xs_notation.specs.declared.raw.Raw.{Raw, Word, out-Raw, roll-Raw, roll-out-Raw}
use Rattle.xs_notation.specs.declared.raw.Raw.TheVariants.{rolls-Word}
use Rattle.xs_notation.specs.declared.raw.Raw.TheOpen.{Raw-F}
use Rattle.xs_notation.specs.Notation.{flat, listed, is_plain, are_plain}
use Rattle.xs_notation.specs.Parse.{state, frame, begin, opened, opened_on, opened_behind, parted, closed, closed_empty, placed, worded, step, run, finished, finished_on, parse}
use Rattle.xs_notation.proofs.Flats.{followed, flat-Word, flat-Call, plain-Word, plain-Call, listed-followed, followed-both, all-both}
use Rattle.xs_notation.proofs.Operators.{found-named}
use Rattle.xs_notation.proofs.Runs.{run-none}

-- the tokens of what is read so far
abbrev frames_flat : List Frame → List (List ℕ)
frames_flat [] = []
frames_flat (f ∷ fs) = frames_flat fs ++ (name_of f.op ∷ codes "(" ∷ followed (map flat f.before))

abbrev current_flat : Option Raw → List (List ℕ)
current_flat None = []
current_flat (Some r) = flat r

abbrev state_flat : Growing → List (List ℕ)
state_flat s = frames_flat s.frames ++ current_flat s.current

abbrev frames_plain : List Frame → Bool
frames_plain [] = true
frames_plain (f ∷ fs) = list_all (λ p. p) (map are_plain f.before) && frames_plain fs

abbrev current_plain : Option Raw → Bool
current_plain None = true
current_plain (Some r) = are_plain r

-- what is read so far is what was written
record IsWritten (s : Growing) (ts : List (List ℕ)) : Type 0 where
  tokens : state_flat s ≡ ts
  frames : frames_plain s.frames ≡ true
  current : current_plain s.current ≡ true

-- the same of a state, if there is one
abbrev IsWrittenOn : Option Growing → List (List ℕ) → Type 0
IsWrittenOn None ts = Unit {0}
IsWrittenOn (Some s) ts = IsWritten s ts

both : (a b : Bool) → a ≡ true → b ≡ true → (a && b) ≡ true
both a b g h = ap (λ (t : Bool). t && b) g ∙ h

both-left : (a b : Bool) → (a && b) ≡ true → a ≡ true
both-left true b h = refl
both-left false b h = cc

both-right : (a b : Bool) → (a && b) ≡ true → b ≡ true
both-right true b h = h
both-right false b h = cc

map-both : {A B : Type 0} (f : A → B) (xs ys : List A) → map f (xs ++ ys) ≡ map f xs ++ map f ys
map-both f [] ys = refl
map-both f (x ∷ xs) ys = ap (λ zs. f x ∷ zs) (map-both f xs ys)

-- a call is opened
opened-named : (fs : List Frame) (w : List ℕ) (o : Option Op) → by_name w ≡ o → frames_plain fs ≡ true → IsWrittenOn (opened_on fs o) ((frames_flat fs ++ w ∷ []) ++ codes "(" ∷ [])
opened-named fs w None e p = tt
opened-named fs w (Some op) e p = record {
  tokens =
      append-nil (frames_flat fs ++ (name_of op ∷ codes "(" ∷ []))
      ∙ ap (λ n. frames_flat fs ++ (n ∷ codes "(" ∷ [])) (found-named w op e)
      ∙ sym (append_assoc (frames_flat fs) (w ∷ []) (codes "(" ∷ []));
  frames = p;
  current = refl;
}

opened-word : (fs : List Frame) (r : Raw) (x : Raw-F Raw) → out-Raw r ≡ x → frames_plain fs ≡ true → IsWrittenOn (opened_behind fs x) ((frames_flat fs ++ flat r) ++ codes "(" ∷ [])
opened-word fs r (Raw-F.Call op rs) e p = tt
opened-word fs r (Raw-F.Word w) e p =
    let is : Word w ≡ r = sym (rolls-Word w) ∙ ap roll-Raw (sym e) ∙ roll-out-Raw r in
    subst (λ k. IsWrittenOn (opened_on fs (by_name w)) ((frames_flat fs ++ k) ++ codes "(" ∷ [])) (sym (flat-Word w) ∙ ap flat is) (opened-named fs w (by_name w) refl p)

opened-written : (fs : List Frame) (c : Option Raw) (ts : List (List ℕ)) → IsWritten (state fs c) ts → IsWrittenOn (opened fs c) (ts ++ codes "(" ∷ [])
opened-written fs None ts i = tt
opened-written fs (Some r) ts i = subst (λ us. IsWrittenOn (opened fs (Some r)) (us ++ codes "(" ∷ [])) i.tokens (opened-word fs r (out-Raw r) refl i.frames)

-- an operand behind the others of a frame
before-more : (rs : List Raw) (r : Raw) → list_all (λ p. p) (map are_plain rs) ≡ true → are_plain r ≡ true → list_all (λ p. p) (map are_plain (rs ++ r ∷ [])) ≡ true
before-more rs r h g =
    ap (list_all (λ p. p)) (map-both are_plain rs (r ∷ []))
    ∙ all-both (map are_plain rs) (are_plain r ∷ [])
    ∙ both (list_all (λ p. p) (map are_plain rs)) (are_plain r && true) h (both (are_plain r) true g refl)

-- an operand ends
parted-written : (fs : List Frame) (c : Option Raw) (ts : List (List ℕ)) → IsWritten (state fs c) ts → IsWrittenOn (parted fs c) (ts ++ codes "," ∷ [])
parted-written [] c ts i = tt
parted-written (f ∷ fs) None ts i = tt
parted-written (f ∷ fs) (Some r) ts i =
    let rs : List (List (List ℕ)) = map flat f.before in
    let outer : List (List ℕ) = frames_flat fs in
    let head : List (List ℕ) = name_of f.op ∷ codes "(" ∷ followed rs in
    record {
      tokens =
          append-nil (outer ++ (name_of f.op ∷ codes "(" ∷ followed (map flat (f.before ++ r ∷ []))))
          ∙ ap (λ xs. outer ++ (name_of f.op ∷ codes "(" ∷ followed xs)) (map-both flat f.before (r ∷ []))
          ∙ ap (λ xs. outer ++ (name_of f.op ∷ codes "(" ∷ xs)) (followed-both rs (flat r ∷ []))
          ∙ sym (append_assoc outer head (flat r ++ codes "," ∷ []))
          ∙ sym (append_assoc (outer ++ head) (flat r) (codes "," ∷ []))
          ∙ ap (λ xs. xs ++ codes "," ∷ []) i.tokens;
      frames = both (list_all (λ p. p) (map are_plain (f.before ++ r ∷ []))) (frames_plain fs)
          (before-more f.before r (both-left (list_all (λ p. p) (map are_plain f.before)) (frames_plain fs) i.frames) i.current)
          (both-right (list_all (λ p. p) (map are_plain f.before)) (frames_plain fs) i.frames);
      current = refl;
    }

-- a call ends
closed-empty : (fs : List Frame) (op : Op) (rs : List Raw) (ts : List (List ℕ)) → IsWritten (state (frame op rs ∷ fs) None) ts → IsWrittenOn (closed_empty fs op rs) (ts ++ codes ")" ∷ [])
closed-empty fs op (r ∷ rs) ts i = tt
closed-empty fs op [] ts i =
    let outer : List (List ℕ) = frames_flat fs in
    let head : List (List ℕ) = name_of op ∷ codes "(" ∷ [] in
    record {
      tokens =
          ap (λ xs. outer ++ xs) (flat-Call op [])
          ∙ sym (append_assoc outer head (codes ")" ∷ []))
          ∙ ap (λ xs. xs ++ codes ")" ∷ []) (sym (append-nil (outer ++ head)) ∙ i.tokens);
      frames = i.frames;
      current = plain-Call op [];
    }

closed-written : (fs : List Frame) (c : Option Raw) (ts : List (List ℕ)) → IsWritten (state fs c) ts → IsWrittenOn (closed fs c) (ts ++ codes ")" ∷ [])
closed-written [] c ts i = tt
closed-written (f ∷ fs) None ts i = closed-empty fs f.op f.before ts i
closed-written (f ∷ fs) (Some r) ts i =
    let rs : List (List (List ℕ)) = map flat f.before in
    let outer : List (List ℕ) = frames_flat fs in
    let head : List (List ℕ) = name_of f.op ∷ codes "(" ∷ followed rs in
    record {
      tokens =
          ap (λ xs. outer ++ xs) (flat-Call f.op (f.before ++ r ∷ []))
          ∙ ap (λ xs. outer ++ (name_of f.op ∷ codes "(" ∷ (listed xs ++ codes ")" ∷ []))) (map-both flat f.before (r ∷ []))
          ∙ ap (λ xs. outer ++ (name_of f.op ∷ codes "(" ∷ (xs ++ codes ")" ∷ []))) (listed-followed rs (flat r))
          ∙ sym (append_assoc outer (head ++ flat r) (codes ")" ∷ []))
          ∙ ap (λ xs. xs ++ codes ")" ∷ []) (sym (append_assoc outer head (flat r)) ∙ i.tokens);
      frames = both-right (list_all (λ p. p) (map are_plain f.before)) (frames_plain fs) i.frames;
      current =
          plain-Call f.op (f.before ++ r ∷ [])
          ∙ before-more f.before r (both-left (list_all (λ p. p) (map are_plain f.before)) (frames_plain fs) i.frames) i.current;
    }

-- a word that is no mark
placed-written : (w : List ℕ) (fs : List Frame) (c : Option Raw) (ts : List (List ℕ)) → is_plain w ≡ true → IsWritten (state fs c) ts → IsWrittenOn (placed w fs c) (ts ++ w ∷ [])
placed-written w fs (Some r) ts h i = tt
placed-written w fs None ts h i = record {
  tokens = ap (λ xs. frames_flat fs ++ xs) (flat-Word w) ∙ ap (λ xs. xs ++ w ∷ []) (sym (append-nil (frames_flat fs)) ∙ i.tokens);
  frames = i.frames;
  current = plain-Word w ∙ h;
}

worded-written : (w : List ℕ) (fs : List Frame) (c : Option Raw) (ts : List (List ℕ)) → bytes_eq w (codes "(") ≡ false → bytes_eq w (codes ")") ≡ false → bytes_eq w (codes ",") ≡ false → IsWritten (state fs c) ts → IsWrittenOn (worded w fs c) (ts ++ w ∷ [])
worded-written [] fs c ts o p q i = tt
worded-written (b ∷ bs) fs c ts o p q i =
    placed-written (b ∷ bs) fs c ts
    (both (not (bytes_eq (b ∷ bs) (codes "("))) (not (bytes_eq (b ∷ bs) (codes ")")) && not (bytes_eq (b ∷ bs) (codes ","))) (ap not o)
    (both (not (bytes_eq (b ∷ bs) (codes ")"))) (not (bytes_eq (b ∷ bs) (codes ","))) (ap not p) (ap not q)))
    i

-- one token more
step-written : (t : List ℕ) (s : Growing) (ts : List (List ℕ)) → IsWritten s ts → IsWrittenOn (step t s) (ts ++ t ∷ [])
step-written t s ts i = at-open (bytes_eq t (codes "(")) refl
  where
    is-mark : (m : List ℕ) → bytes_eq t m ≡ true → (o : Option Growing) → IsWrittenOn o (ts ++ m ∷ []) → IsWrittenOn o (ts ++ t ∷ [])
    is-mark m e o = subst (λ k. IsWrittenOn o (ts ++ k ∷ [])) (sym ((bytes_eq-Decides t m).0 e))

    at-comma : (v : Bool) → bytes_eq t (codes ",") ≡ v → bytes_eq t (codes "(") ≡ false → bytes_eq t (codes ")") ≡ false → IsWrittenOn (if v then parted s.frames s.current else worded t s.frames s.current) (ts ++ t ∷ [])
    at-comma true e o p = is-mark (codes ",") e (parted s.frames s.current) (parted-written s.frames s.current ts i)
    at-comma false e o p = worded-written t s.frames s.current ts o p e i

    at-close : (v : Bool) → bytes_eq t (codes ")") ≡ v → bytes_eq t (codes "(") ≡ false → IsWrittenOn (if v then closed s.frames s.current else (if bytes_eq t (codes ",") then parted s.frames s.current else worded t s.frames s.current)) (ts ++ t ∷ [])
    at-close true e o = is-mark (codes ")") e (closed s.frames s.current) (closed-written s.frames s.current ts i)
    at-close false e o = at-comma (bytes_eq t (codes ",")) refl o e

    at-open : (v : Bool) → bytes_eq t (codes "(") ≡ v → IsWrittenOn (if v then opened s.frames s.current else (if bytes_eq t (codes ")") then closed s.frames s.current else (if bytes_eq t (codes ",") then parted s.frames s.current else worded t s.frames s.current))) (ts ++ t ∷ [])
    at-open true e = is-mark (codes "(") e (opened s.frames s.current) (opened-written s.frames s.current ts i)
    at-open false e = at-close (bytes_eq t (codes ")")) refl e

run-written : (o : Option Growing) (ts us : List (List ℕ)) → IsWrittenOn o ts → IsWrittenOn (run o us) (ts ++ us)
run-written o ts [] i = subst (IsWrittenOn o) (sym (append-nil ts)) i
run-written None ts (u ∷ us) i = subst (λ k. IsWrittenOn k (ts ++ u ∷ us)) (sym (run-none us)) tt
run-written (Some s) ts (u ∷ us) i = subst (IsWrittenOn (run (step u s) us)) (append_assoc ts (u ∷ []) us) (run-written (step u s) (ts ++ u ∷ []) us (step-written u s ts i))

begin-written : IsWritten begin []
begin-written = record { tokens = refl; frames = refl; current = refl }

-- an expression of these tokens, if there is one
pub record IsSpelt (r : Raw) (ts : List (List ℕ)) : Type 0 where
  pub tokens : flat r ≡ ts
  pub plain : are_plain r ≡ true

finished-spelt : (fs : List Frame) (c : Option Raw) (ts : List (List ℕ)) (r : Raw) → IsWritten (state fs c) ts → finished fs c ≡ Some r → IsSpelt r ts
finished-spelt (f ∷ fs) c ts r i e = cc
finished-spelt [] None ts r i e = cc
finished-spelt [] (Some q) ts r i e =
    let same : q ≡ r = cc in
    subst (λ k. IsSpelt k ts) same (record { tokens = i.tokens; plain = i.current })

end-spelt : (o : Option Growing) (ts : List (List ℕ)) (r : Raw) → IsWrittenOn o ts → finished_on o ≡ Some r → IsSpelt r ts
end-spelt None ts r i e = cc
end-spelt (Some s) ts r i e = finished-spelt s.frames s.current ts r i e

pub parse-spelt : (ts : List (List ℕ)) (r : Raw) → parse ts ≡ Some r → IsSpelt r ts
parse-spelt ts r e = end-spelt (run (Some begin) ts) ts r (run-written (Some begin) [] ts begin-written) e
