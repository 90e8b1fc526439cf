-- What the taking of a token comes to.
use Rattle.std.proofs.Common.{◌≡◌, ℕ, suc, ◌<◌, ◌≤◌, Bool, true, false, List, [], ◌∷◌, map, length, Option, Some, None, refl, ap, sym, ◌∙◌, arith}
use Rattle.std.proofs.lemmas.Slice.Eq.{bytes_eq-Decides}
use Rattle.std.specs.Str.{bytes_eq}
use Rattle.xf_markup.specs.declared.tree.Node.{Node}
use Rattle.xf_markup.specs.declared.growing.Frame.{Frame}
use Rattle.xf_markup.specs.declared.growing.Growing.{Growing}
use Rattle.xf_markup.specs.declared.tree.Attr.{Attr}
use Rattle.xf_markup.specs.Tag.{are_distinct}
use Rattle.xf_markup.specs.Tokens.{Opens, Closes}
use Rattle.xf_markup.specs.Marks.{Opened, Closed, tagged}
use Rattle.xf_markup.specs.Reading.{State, opened, fits_at, levels}
use Rattle.xf_markup.specs.Growing.{Stands, Went, WentTooDeep, IsSound, shown_of, names_of, begun_of, is_free, is_innermost}

begun_free : (root : Option Node) (outer : List Frame) → is_free root outer ≡ true → map (λ (f : Frame). f.name) outer ≡ [] → begun_of root outer ≡ false
begun_free root (f ∷ fs) free none = cc
begun_free None [] free none = refl
begun_free (Some n) [] free none = cc

pub fits_opens : (names : List (List ℕ)) (s : State) (place : ℕ) (name : List ℕ) (attrs : List Attr) (e : Bool) → are_distinct attrs ≡ true → (names ≡ [] → s.begun ≡ false) → fits_at names s (Opens place name attrs e) ≡ Some (opened name e s)
fits_opens [] s place name attrs e d h = rw (h refl, d) refl
fits_opens (n ∷ ns) s place name attrs e d h = rw d refl

opens : (g : Growing) (s : State) (place : ℕ) (name : List ℕ) (attrs : List Attr) (e : Bool) → are_distinct attrs ≡ true → Stands g s → is_free g.root g.outer ≡ true → fits_at s.open_names s (Opens place name attrs e) ≡ Some (opened name e s)
opens g s place name attrs e d st free = fits_opens s.open_names s place name attrs e d (λ none. st.matches.begun ∙ begun_free g.root g.outer free (sym st.matches.names ∙ none))

count_names : (fs : List Frame) → length (map (λ (f : Frame). f.name) fs) ≡ length fs
count_names [] = refl
count_names (f ∷ fs) = ap suc (count_names fs)

pub went_open : (old new : Growing) (s : State) (place : ℕ) (name : List ℕ) (attrs : List Attr) → are_distinct attrs ≡ true → Stands old s → is_free old.root old.outer ≡ true → length old.outer < levels
    → shown_of new ≡ tagged (shown_of old) (Opened place name attrs) → names_of new ≡ name ∷ names_of old → begun_of new.root new.outer ≡ true → IsSound new new.outer
    → Went old new s (Opens place name attrs false)
went_open old new s place name attrs d st free room is_shown is_named is_begun is_sound = record {
  next = opened name false s;
  fit = opens old s place name attrs false d st free;
  shallow = omega (arith, st.shallow, ap length st.matches.names, count_names old.outer);
  matches = record { names = cc (st.matches.names); begun = sym is_begun; sound = is_sound };
  shown = is_shown;
}

pub went_too_deep : (old : Growing) (s : State) (place : ℕ) (name : List ℕ) (attrs : List Attr) (e : Bool) → are_distinct attrs ≡ true → Stands old s → is_free old.root old.outer ≡ true → levels ≤ length old.outer → WentTooDeep s (Opens place name attrs e)
went_too_deep old s place name attrs e d st free full = record {
  next = opened name e s;
  fit = opens old s place name attrs e d st free;
  deep = omega (arith, ap length st.matches.names, count_names old.outer);
}

pub went_leaf : (old new : Growing) (s : State) (place : ℕ) (name : List ℕ) (attrs : List Attr) → are_distinct attrs ≡ true → Stands old s → is_free old.root old.outer ≡ true → length old.outer < levels
    → shown_of new ≡ tagged (tagged (shown_of old) (Opened place name attrs)) (Closed name) → names_of new ≡ names_of old → begun_of new.root new.outer ≡ true → IsSound new new.outer
    → Went old new s (Opens place name attrs true)
went_leaf old new s place name attrs d st free room is_shown is_named is_begun is_sound = record {
  next = opened name true s;
  fit = opens old s place name attrs true d st free;
  shallow = omega (arith, st.shallow, ap length st.matches.names, count_names old.outer);
  matches = record { names = st.matches.names ∙ sym is_named; begun = sym is_begun; sound = is_sound };
  shown = is_shown;
}

innermost : (name : List ℕ) (outer : List Frame) → is_innermost name outer ≡ true → (f : Frame) × (fs : List Frame) × (outer ≡ f ∷ fs) × (name ≡ f.name)
innermost name [] h = cc
innermost name (f ∷ fs) h = (f, fs, refl, (bytes_eq-Decides name f.name).0 h)

pub fits_closes : (names ns : List (List ℕ)) (s : State) (name n : List ℕ) → names ≡ n ∷ ns → name ≡ n → fits_at names s (Closes name) ≡ Some (record { open_names = ns; begun = s.begun; deepest = s.deepest })
fits_closes [] ns s name n e same = cc
fits_closes (m ∷ ms) ns s name n e same =
    let hit : bytes_eq name m ≡ true = (bytes_eq-Decides name m).1 (cc) in
    let rest : ms ≡ ns = cc in
    rw (hit, rest) refl

pub went_close : (old new : Growing) (s : State) (name : List ℕ) → Stands old s → is_innermost name old.outer ≡ true
    → ((f : Frame) (fs : List Frame) → old.outer ≡ f ∷ fs → shown_of new ≡ tagged (shown_of old) (Closed f.name))
    → ((f : Frame) (fs : List Frame) → old.outer ≡ f ∷ fs → new.outer ≡ fs)
    → ((f : Frame) (fs : List Frame) → old.outer ≡ f ∷ fs → begun_of new.root new.outer ≡ true) → begun_of old.root old.outer ≡ true → IsSound new new.outer
    → Went old new s (Closes name)
went_close old new s name st hit is_shown is_outer is_begun was_begun is_sound =
    let found = innermost name old.outer hit in
    let f = found.0 in
    let fs = found.1 in
    let e = found.2 in
    let same = found.3 in
    record {
      next = record { open_names = map (λ (f : Frame). f.name) fs; begun = s.begun; deepest = s.deepest };
      fit = fits_closes s.open_names (map (λ (f : Frame). f.name) fs) s name f.name (st.matches.names ∙ ap (map (λ (f : Frame). f.name)) e) same;
      shallow = st.shallow;
      matches = record {
        names = ap (map (λ (f : Frame). f.name)) (sym (is_outer f fs e));
        begun = st.matches.begun ∙ was_begun ∙ sym (is_begun f fs e);
        sound = is_sound;
      };
      shown = is_shown f fs e ∙ ap (λ n. tagged (shown_of old) (Closed n)) (sym same);
    }

pub begun_within : (root : Option Node) (outer : List Frame) (name : List ℕ) → is_innermost name outer ≡ true → begun_of root outer ≡ true
begun_within root [] name h = cc
begun_within (Some n) (f ∷ fs) name h = refl
begun_within None (f ∷ fs) name h = refl
