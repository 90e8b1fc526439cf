-- The constraints of a slide.
use Rattle.std.proofs.Common.{◌≡◌, ℕ, ◌+◌, ◌-◌, ◌≤◌, Bool, true, false, not, ◌&&◌, cond, Option, None, Some, List, [], ◌∷◌, length, map, nat_abs, nat_le, nat_lt, refl, ap, sym, ◌∙◌, arith, codes}
use borrow.Author.Tests.{leb-true}
use Rattle.std.specs.List.{filter, find, range_with_len}
use Rattle.std.specs.Str.Parse.{signed_digits_value}
use Rattle.std.specs.Prelude.{Result, Ok, Err}
use Rattle.xf_num.specs.declared.memory.NoMemory.{NoMemory}
use Rattle.xf_text.specs.declared.fault.Fault.{Fault}
use Rattle.xf_text.specs.declared.fault.Kind.{Kind}
use Rattle.xf_markup.specs.declared.tree.Node.{Node}
use Rattle.xs_fields.specs.Conditions.{first_missed, in_order, kind_of}
use Rattle.xs_fields.specs.Integers.{is_small}
use Rattle.xs_fields.specs.declared.condition.Condition.{Condition}
use Rattle.xs_fields.specs.declared.condition.Condition.TheVariants.{Spelling, Magnitude, Counting}
use Rattle.xs_var.specs.Elements.{text_in, value_in}
use Rattle.xs_words.specs.Args.{args_of, is_count, are_few}
use Rattle.xs_words.specs.Compact.{are_named, are_spelt}
use Rattle.xs_template.specs.Concrete.{made_from, made_of, template_of, asked_of, filled_text, is_open}
use Rattle.xs_template.specs.Template.{filled, most_words}
use Rattle.xs_units.specs.Units.{IsRun, on_taken, Ran, ran_or, counted, take_all, proceed, then_on, is_pair_spelt, offset_of, offset_text, pair_meets, run, slide_makes, slide_meets, slide_unit_of, texts_meet}
use Rattle.xs_template.specs.Windows.{made_at, is_multiple, multiples_from, room, starts, window, windows}
use Rattle.xs_model.specs.declared.concrete.Concrete.{Concrete}
use Rattle.xs_units.specs.declared.known.Known.{Known}
use Rattle.xs_template.specs.declared.template.Template.{Template}
use Rattle.xs_units.proofs.UnitLemmas.{run_made}
use Rattle.xs_template.proofs.TemplateLemmas.{made_same}
use Rattle.xs_model.specs.Outline.{Outline}

pub none_left : (offset end start : ℕ) → end ≤ start → multiples_from offset start end ≡ []
none_left offset end start past =
    let none : end - start ≡ 0 = omega arith in
    ap (λ n. filter (is_multiple offset) (range_with_len start n)) none

pub map_map : {A B C : Type 0} (f : B → C) (g : A → B) (xs : List A) → map (λ x. f (g x)) xs ≡ map f (map g xs)
map_map f g [] = refl
map_map f g (x ∷ xs) = ap (λ ys. f (g x) ∷ ys) (map_map f g xs)

-- the constraints of one window, and those of the others
pub all_windows : (made : List (List ℕ) → Concrete) (circular : Bool) (offset asked : ℕ) (list : List (List ℕ)) → map (made_at made asked list) (multiples_from offset 0 (room circular asked (length list))) ≡ map made (windows circular offset asked list)
all_windows made circular offset asked list = map_map made (window asked list) (starts circular offset asked (length list))

-- where no condition is missed each is met
Each : (Condition → Bool) → List Condition → Type 0
Each test [] = Unit {0}
Each test (k ∷ ks) = (test k ≡ true) × Each test ks

each_met : (test : Condition → Bool) (ks : List Condition) → find (λ k. not (test k)) ks ≡ None → Each test ks
unfolding Each
each_met test [] h = tt
each_met test (k ∷ ks) h = by (test k) refl h (each_met test ks)
  where
    by : (v : Bool) → test k ≡ v → cond (not v) (Some k) (find (λ k. not (test k)) ks) ≡ None → (find (λ k. not (test k)) ks ≡ None → Each test ks) → (test k ≡ true) × Each test ks
    by true e h more = (e, more h)
    by false e h more = absurd (cc h)

pub spelling_met : (test : Condition → Bool) → first_missed test ≡ None → test Spelling ≡ true
unfolding Each
spelling_met test h = (each_met test in_order h).1.1.0

pub magnitude_met : (test : Condition → Bool) → first_missed test ≡ None → test Magnitude ≡ true
unfolding Each
magnitude_met test h = (each_met test in_order h).1.1.1.0

pub counting_met : (test : Condition → Bool) → first_missed test ≡ None → test Counting ≡ true
unfolding Each
counting_met test h = (each_met test in_order h).1.1.1.1.1.0

windows_same : (f g : List (List ℕ) → Concrete) (ws : List (List (List ℕ))) → ((w : List (List ℕ)) → f w ≡ g w) → map f ws ≡ map g ws
windows_same f g [] same = refl
windows_same f g (w ∷ ws) same = ap (λ c. c ∷ map f ws) (same w) ∙ ap (λ cs. g w ∷ cs) (windows_same f g ws same)

pub run_slide : (told : ℕ → ℕ) (os : List Outline) → {K : Type 0} (taken : K → Concrete → Result K Kind) (known new : Known K) (fault : Option Fault) (n l t : Node) (circular : Bool) (text offset : List ℕ) (asked : ℕ) (template : Template)
    → take_all taken (map (λ w. made_from (λ spots. filled w asked spots) n.place template) (windows circular (nat_abs (signed_digits_value 10 offset)) asked (args_of os text))) (counted known (length (args_of os text))) ≡ record { known = new; fault = fault }
    → text ≡ text_in l.pieces → offset ≡ offset_text (value_in (codes "offset") l.attrs) → asked ≡ asked_of told t → template ≡ template_of told t
    → first_missed (λ k. slide_meets n k && pair_meets told os circular l t known.words k) ≡ None
    → run taken (slide_unit_of told os n circular (Some l) (Some t) ∷ []) known ≡ record { known = new; fault = fault }
run_slide told os taken known new fault n l t circular text offset asked template made is_text is_offset is_asked is_template none =
    let list = args_of os (text_in l.pieces) in
    let is : take_all taken (map (λ w. made_from (λ spots. filled w asked spots) n.place template) (windows circular (nat_abs (signed_digits_value 10 offset)) asked (args_of os text))) (counted known (length (args_of os text))) ≡ take_all taken (slide_makes told os n.place circular l t) (counted known (length list)) =
    ap (λ x. take_all taken (map (λ w. made_from (λ spots. filled w asked spots) n.place template) (windows circular (nat_abs (signed_digits_value 10 offset)) asked (args_of os x))) (counted known (length (args_of os x)))) is_text
    ∙ ap (λ x. take_all taken (map (λ w. made_from (λ spots. filled w asked spots) n.place template) (windows circular (nat_abs (signed_digits_value 10 x)) asked list)) (counted known (length list))) is_offset
    ∙ ap (λ q. take_all taken (map (λ w. made_from (λ spots. filled w q spots) n.place template) (windows circular (offset_of l) q list)) (counted known (length list))) is_asked
    ∙ ap (λ m. take_all taken (map (λ w. made_from (λ spots. filled w (asked_of told t) spots) n.place m) (windows circular (offset_of l) (asked_of told t) list)) (counted known (length list))) is_template
    ∙ ap (λ cs. take_all taken cs (counted known (length list))) (windows_same (λ w. made_from (λ spots. filled w (asked_of told t) spots) n.place (template_of told t)) (λ w. made_of (filled_text told w (asked_of told t)) n.place t) (windows circular (offset_of l) (asked_of told t) list) (λ w. made_same told (λ spots. filled w (asked_of told t) spots) n.place t)) in
    run_made taken known new fault n.place (λ before k. slide_meets n k && pair_meets told os circular l t before k) (length list) (slide_makes told os n.place circular l t) none (sym is ∙ made)

and_left : (a b : Bool) → (a && b) ≡ true → a ≡ true
and_left true b h = refl
and_left false b h = h

and_right : (a b : Bool) → (a && b) ≡ true → b ≡ true
and_right true b h = h
and_right false b h = absurd (cc h)

abbrev pub asked_slide : (os : List Outline) → Node → Bool → ℕ → Bool → List ℕ → List ℕ → ℕ → Condition → Bool
asked_slide os n circular asked more offset list before k = slide_meets n k && texts_meet os circular asked more offset list before k

pub told_spelt : (os : List Outline) → (n : Node) (circular : Bool) (asked : ℕ) (more : Bool) (offset list : List ℕ) (before : ℕ) → first_missed (asked_slide os n circular asked more offset list before) ≡ None → is_count offset ≡ true
told_spelt os n circular asked more offset list before h =
    let met = and_right (slide_meets n Spelling) (texts_meet os circular asked more offset list before Spelling) (spelling_met (asked_slide os n circular asked more offset list before) h) in
    let both = and_left (is_pair_spelt asked more offset && are_spelt list) (true && (true && true)) met in
    let spelt = and_left (is_pair_spelt asked more offset) (are_spelt list) both in
    and_right (not more) (is_count offset) (and_right (nat_lt 0 asked) (not more && is_count offset) spelt)

pub told_small : (os : List Outline) → (n : Node) (circular : Bool) (asked : ℕ) (more : Bool) (offset list : List ℕ) (before : ℕ) → first_missed (asked_slide os n circular asked more offset list before) ≡ None → is_small (signed_digits_value 10 offset) ≡ true
told_small os n circular asked more offset list before h =
    let met = and_right (slide_meets n Magnitude) (texts_meet os circular asked more offset list before Magnitude) (magnitude_met (asked_slide os n circular asked more offset list before) h) in
    let small = and_left (is_small (signed_digits_value 10 offset) && are_few list) (true && (true && true)) met in
    and_left (is_small (signed_digits_value 10 offset)) (are_few list) small

pub told_room : (os : List Outline) → (n : Node) (circular : Bool) (asked : ℕ) (more : Bool) (offset list : List ℕ) (before : ℕ) → first_missed (asked_slide os n circular asked more offset list before) ≡ None → before + length (args_of os list) ≤ most_words
told_room os n circular asked more offset list before h =
    let met = and_right (slide_meets n Counting) (texts_meet os circular asked more offset list before Counting) (counting_met (asked_slide os n circular asked more offset list before) h) in
    leb-true _ _ (and_left (nat_le (before + length (args_of os list)) most_words) true met)

pub told_same : (told : ℕ → ℕ) (os : List Outline) → (n l t : Node) (circular : Bool) (asked : ℕ) (more : Bool) (offset list : List ℕ) (before : ℕ)
    → list ≡ text_in l.pieces → offset ≡ offset_text (value_in (codes "offset") l.attrs) → asked ≡ asked_of told t → more ≡ is_open told t
    → first_missed (asked_slide os n circular asked more offset list before) ≡ first_missed (λ k. slide_meets n k && pair_meets told os circular l t before k)
told_same told os n l t circular asked more offset list before is_list is_offset is_asked is_more =
    let from = offset_text (value_in (codes "offset") l.attrs) in
    ap (λ x. first_missed (asked_slide os n circular asked more offset x before)) is_list
    ∙ ap (λ x. first_missed (asked_slide os n circular asked more x (text_in l.pieces) before)) is_offset
    ∙ ap (λ x. first_missed (asked_slide os n circular x more from (text_in l.pieces) before)) is_asked
    ∙ ap (λ x. first_missed (asked_slide os n circular (asked_of told t) x from (text_in l.pieces) before)) is_more

pub slide_fault : (told : ℕ → ℕ) (os : List Outline) → {K : Type 0} (taken : K → Concrete → Result K Kind) (known : Known K) (n l t : Node) (circular : Bool) (missed : Condition) → first_missed (λ k. slide_meets n k && pair_meets told os circular l t known.words k) ≡ Some missed → run taken (slide_unit_of told os n circular (Some l) (Some t) ∷ []) known ≡ record { known = known; fault = Some (record { kind = kind_of missed; place = n.place }) }
slide_fault told os taken known n l t circular missed is = ap (λ m. ran_or m known n.place (proceed (take_all taken (slide_makes told os n.place circular l t) (counted known (length (args_of os (text_in l.pieces))))) (run taken []))) is

pub slide_run : (told : ℕ → ℕ) (os : List Outline) → {K : Type 0} (taken : K → Concrete → Result K Kind) (known new : Known K) (result : Result (Option Fault) NoMemory) (n l t : Node) (circular : Bool) (text offset : List ℕ) (asked : ℕ) (template : Template)
    → IsRun new result (take_all taken (map (λ w. made_from (λ spots. filled w asked spots) n.place template) (windows circular (nat_abs (signed_digits_value 10 offset)) asked (args_of os text))) (counted known (length (args_of os text))))
    → text ≡ text_in l.pieces → offset ≡ offset_text (value_in (codes "offset") l.attrs) → asked ≡ asked_of told t → template ≡ template_of told t
    → first_missed (λ k. slide_meets n k && pair_meets told os circular l t known.words k) ≡ None
    → IsRun new result (run taken (slide_unit_of told os n circular (Some l) (Some t) ∷ []) known)
slide_run told os taken known new (Ok fault) n l t circular text offset asked template h is_text is_offset is_asked is_template none = run_slide told os taken known new fault n l t circular text offset asked template h is_text is_offset is_asked is_template none
slide_run told os taken known new (Err e) n l t circular text offset asked template h is_text is_offset is_asked is_template none = tt

-- one constraint is taken, and the others are next
pub take_part : {K : Type 0} (taken : K → Concrete → Result K Kind) (known new : Known K) (fault : Option Fault) (c : Concrete) (cs : List Concrete) → take_all taken (c ∷ []) known ≡ record { known = new; fault = fault } → take_all taken (c ∷ cs) known ≡ then_on fault new (take_all taken cs)
take_part {K = K} taken known new fault c cs h = by (taken known.state c) h
  where
    by : (r : Result K Kind) → on_taken known c.place r (take_all taken []) ≡ record { known = new; fault = fault } → on_taken known c.place r (take_all taken cs) ≡ then_on fault new (take_all taken cs)
    by (Ok state) h = ap (λ r. proceed r (take_all taken cs)) h
    by (Err fault_kind) h = ap (λ r. proceed r (take_all taken cs)) h

-- the windows behind one
pub window_on : {K : Type 0} (taken : K → Concrete → Result K Kind) (known new : Known K) (fault : Option Fault) (made : ℕ → Concrete) (offset start next end : ℕ) (whole : Ran K)
    → multiples_from offset start end ≡ start ∷ multiples_from offset next end → take_all taken (made start ∷ []) known ≡ record { known = new; fault = fault } → take_all taken (map made (multiples_from offset start end)) known ≡ whole
    → then_on fault new (take_all taken (map made (multiples_from offset next end))) ≡ whole
window_on taken known new fault made offset start next end whole split part so_far =
    sym (take_part taken known new fault (made start) (map made (multiples_from offset next end)) part) ∙ ap (λ ss. take_all taken (map made ss) known) (sym split) ∙ so_far

-- no window is left
pub windows_done : {K : Type 0} (taken : K → Concrete → Result K Kind) (known : Known K) (made : ℕ → Concrete) (offset start end : ℕ) (whole : Ran K) → end ≤ start → take_all taken (map made (multiples_from offset start end)) known ≡ whole → record { known = known; fault = None } ≡ whole
windows_done taken known made offset start end whole past so_far = ap (λ ss. take_all taken (map made ss) known) (sym (none_left offset end start past)) ∙ so_far
