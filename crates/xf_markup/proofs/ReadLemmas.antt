-- Readings, one token longer, and their ends.
use Rattle.std.proofs.Common.{◌≡◌, ◌⊎◌, inl, inr, ℕ, ◌+◌, ◌-◌, ◌≤◌, false, List, [], ◌∷◌, ◌++◌, length, drop, map, Option, Some, None, Ok, Err, refl, ap, sym, ◌∙◌, subst, arith, length-drop}
use Rattle.std.proofs.lemmas.List.{append-nil, drop-drop, drop_all}
use Rattle.memchr.specs.Find.{first_of, places_from}
use Rattle.xf_markup.specs.declared.tree.Node.{Node}
use Rattle.xf_markup.specs.declared.cut.Cut.{Cut}
use Rattle.xf_markup.specs.declared.growing.Frame.{Frame}
use Rattle.xf_markup.specs.declared.growing.Growing.{Growing}
use Rattle.xf_text.specs.declared.fault.Kind.TheVariants.{Syntax, Depth}
use Rattle.xf_text.specs.declared.fault.Fault.{Fault}
use Rattle.xf_text.specs.declared.fault.Stop.{Stop}
use Rattle.xf_text.specs.declared.fault.Stop.TheVariants.{Memory, Refused}
use Rattle.xf_markup.specs.Tokens.{Token, cut_at, token, size}
use Rattle.xf_markup.specs.Marks.{Shown, add, shown, nothing, flat, said}
use Rattle.xf_markup.specs.Head.{head_at}
use Rattle.xf_markup.specs.Reading.{State, next, next_cut, fitting, fits, Reads, Answers, IsFault, Tree, start}
use Rattle.xf_markup.proofs.DepthLemmas.{depth_is}
use Rattle.xf_markup.specs.Growing.{SoFar, Stands, Takes, WentTooDeep, IsSound, begun_of, finished, root_marks, open_marks}

pub reads_one : (total : ℕ) (s : State) (bytes : List ℕ) (ts : List Token) (end : State) (rest : List ℕ) (t : Token) (after : State) (more : List ℕ)
    → Reads total s bytes ts end rest → next total end rest ≡ Some (record { token = t; state = after; rest = more }) → Reads total s bytes (ts ++ t ∷ []) after more
reads_one total s bytes [] end rest t after more h e = (after, more, rw (h.0, h.1) e, (refl, refl))
reads_one total s bytes (u ∷ ts) end rest t after more h e = (h.0, h.1, h.2, reads_one total h.0 h.1 ts end rest t after more h.3 e)

pub shown_one : (s : Shown) (ts : List Token) (t : Token) → shown s (ts ++ t ∷ []) ≡ add (shown s ts) t
shown_one s [] t = refl
shown_one s (u ∷ ts) t = shown_one (add s u) ts t

drop_drop : (m n : ℕ) (xs : List ℕ) → drop n (drop m xs) ≡ drop (m + n) xs
drop_drop m n xs = drop-drop n m xs

-- the token at a place, by how it fits
next_is : (text : List ℕ) (at : ℕ) (s : State) (c : Cut) (r : Option State) → at ≤ length text → cut_at (drop at text) ≡ Some c → fits s (token at (drop at text) c) ≡ r
    → next (length text) s (drop at text) ≡ fitting (token at (drop at text) c) (drop (at + size c) text) r
next_is text at s c r within is fit =
    let place : length text - length (drop at text) ≡ at = omega (arith, length-drop at text) in
    ap (next_cut s (length text - length (drop at text)) (drop at text)) is
    ∙ ap (λ p. next_cut s p (drop at text) (Some c)) place
    ∙ ap (fitting (token at (drop at text) c) (drop (size c) (drop at text))) fit
    ∙ ap (λ rest. fitting (token at (drop at text) c) rest r) (drop_drop at (size c) text)

went_on_at : {X : Type 0} (text : List ℕ) (at : ℕ) (old new : Growing) (c : Cut) (x : X) → SoFar text at old → at ≤ length text → cut_at (drop at text) ≡ Some c
    → ((s : State) → Stands old s → Takes old new s at (token at (drop at text) c) (Ok x)) → SoFar text (at + size c) new
went_on_at text at old new c x so within is taken =
    let w = taken so.end (record { matches = so.matches; shallow = so.read.shallow }) in
    let t : Token = token at (drop at text) c in
    record {
      tokens = so.tokens ++ t ∷ [];
      end = w.next;
      read = record {
        reads = reads_one (length text) start (drop (head_at text) text) so.tokens so.end (drop at text) t w.next (drop (at + size c) text) so.read.reads (next_is text at so.end c (Some w.next) within is w.fit);
        shallow = w.shallow;
      };
      matches = w.matches;
      shown = shown_one nothing so.tokens t ∙ ap (λ z. add z t) so.shown ∙ sym w.shown;
    }

pub cut_nil : cut_at [] ≡ None
unfolding cut_at first_of places_from
cut_nil = refl

rest_cut : (bytes : List ℕ) (c : Cut) → cut_at bytes ≡ Some c → bytes ≡ [] → ⊥
rest_cut bytes c is none =
    let no : Some c ≡ None = sym is ∙ ap cut_at none ∙ cut_nil in
    cc

refused : {g : Growing} (text : List ℕ) (at : ℕ) (c : Cut) (f : Fault) → (so : SoFar text at g) → at ≤ length text → cut_at (drop at text) ≡ Some c
    → f.place ≡ at → ((f.kind ≡ Syntax) × (fits so.end (token at (drop at text) c) ≡ None)) ⊎ ((f.kind ≡ Depth) × WentTooDeep so.end (token at (drop at text) c)) → IsFault f text
refused text at c f so within is place (inl w) = inl (
  w.0,
  record {
    tokens = so.tokens;
    end = so.end;
    rest = drop at text;
    read = so.read;
    at = omega (arith, place, length-drop at text);
    stuck = next_is text at so.end c None within is w.1;
    unclosed = λ whole. absurd (rest_cut (drop at text) c is whole.0);
  },
)
refused text at c f so within is place (inr w) = inr (
  w.0,
  record {
    tokens = so.tokens;
    end = so.end;
    rest = drop at text;
    read = so.read;
    at = omega (arith, place, length-drop at text);
    beyond = record { token = token at (drop at text) c; state = w.1.next; rest = drop (at + size c) text };
    is_next = next_is text at so.end c (Some w.1.next) within is w.1.fit;
    deep = w.1.deep;
  },
)

stopped_at : (X : Type 0) (text : List ℕ) (at : ℕ) (old new : Growing) (c : Cut) (e : Stop) → SoFar text at old → at ≤ length text → cut_at (drop at text) ≡ Some c
    → ((s : State) → Stands old s → Takes {X = X} old new s at (token at (drop at text) c) (Err e)) → Answers (Err e) text
stopped_at X text at old new c Memory so within is taken = tt
stopped_at X text at old new c (Refused f) so within is taken =
    let w = taken so.end (record { matches = so.matches; shallow = so.read.shallow }) in
    refused text at c f so within is w.0 w.1

outer_none : (g : Growing) (n : Node) (outer : List Frame) → IsSound g outer → g.root ≡ Some n → outer ≡ []
outer_none g n [] sound is = refl
outer_none g n (f ∷ fs) sound is = cc

not_begun : (outer : List Frame) → map (λ (f : Frame). f.name) outer ≡ [] → begun_of None outer ≡ false
not_begun [] e = refl
not_begun (f ∷ fs) e = cc

end_nil : (text : List ℕ) → drop (length text) text ≡ []
end_nil text = drop_all (length text) text (omega arith)

ended : (text : List ℕ) (g : Growing) (root : Option Node) → SoFar text (length text) g → g.root ≡ root → Answers (finished (length text) root) text
ended text g (Some n) so is =
    let none : g.outer ≡ [] = outer_none g n g.outer so.matches.sound is in
    let tree : Tree n text = record {
      tokens = so.tokens;
      end = so.end;
      rest = drop (length text) text;
      before = g.lead;
      reads = so.read.reads;
      whole = (end_nil text, so.matches.names ∙ ap (map (λ (f : Frame). f.name)) none, so.matches.begun ∙ ap (λ r. begun_of r g.outer) is);
      marks = ap (λ z. z.marks) so.shown ∙ ap (λ r. said g.lead ++ (r ++ open_marks g.outer g.pieces)) (ap root_marks is) ∙ ap (λ o. said g.lead ++ (flat n ++ open_marks o g.pieces)) none ∙ ap (λ z. said g.lead ++ z) (append-nil (flat n));
    } in
    (tree, omega (arith, depth_is n text tree, so.read.shallow))
ended text g None so is =
    inl (
      refl,
      record {
        tokens = so.tokens;
        end = so.end;
        rest = drop (length text) text;
        read = so.read;
        at = omega (arith, ap length (end_nil text));
        stuck = ap (next (length text) so.end) (end_nil text) ∙ ap (next_cut so.end (length text - 0) []) cut_nil;
        unclosed = λ whole.
            let no : so.end.begun ≡ false = so.matches.begun ∙ ap (λ r. begun_of r g.outer) is ∙ not_begun g.outer (sym so.matches.names ∙ whole.1) in
            cc (whole.2, no);
      },
    )

pub at_end : (text : List ℕ) (at : ℕ) (g : Growing) → SoFar text at g → at ≡ length text → Answers (finished (length text) g.root) text
at_end text at g so is = ended text g g.root (subst (λ k. SoFar text k g) is so) refl

pub went_on : {X : Type 0} (text bytes : List ℕ) (at : ℕ) (old new : Growing) (c : Cut) (x : X) → SoFar text at old → at ≤ length text → bytes ≡ drop at text → cut_at bytes ≡ Some c
    → ((s : State) → Stands old s → Takes old new s at (token at bytes c) (Ok x)) → SoFar text (at + size c) new
went_on {X} text bytes at old new c x so within same is taken =
    went_on_at text at old new c x so within (sym (ap cut_at same) ∙ is) (subst (λ b. (s : State) → Stands old s → Takes {X = X} old new s at (token at b c) (Ok x)) same taken)

pub stopped : (X : Type 0) (text bytes : List ℕ) (at : ℕ) (old new : Growing) (c : Cut) (e : Stop) → SoFar text at old → at ≤ length text → bytes ≡ drop at text → cut_at bytes ≡ Some c
    → ((s : State) → Stands old s → Takes {X = X} old new s at (token at bytes c) (Err e)) → Answers (Err e) text
stopped X text bytes at old new c e so within same is taken =
    stopped_at X text at old new c e so within (sym (ap cut_at same) ∙ is) (subst (λ b. (s : State) → Stands old s → Takes {X = X} old new s at (token at b c) (Err e)) same taken)
