-- The model of an instance extends it, whatever items it is lowered to that mean its constraints.
use Rattle.std.proofs.Common.{◌≡◌, ℕ, suc, ◌+◌, ◌≤◌, ℤ, pos, List, [], ◌∷◌, ◌++◌, length, map, take, refl, ap, sym, subst, ◌∙◌, arith, append-nil}
use Rattle.std.proofs.lemmas.List.{map-append, ext_get_or, get_or_append_left, take_all, length-append}
use Rattle.std.proofs.Math.Seq.{take-append_seam}
use Rattle.xf_problem.specs.Problem.{AgreeOn, Extends, ExtendsOnce}
use Rattle.xs_model.specs.declared.instance.Objective.{Objective}
use Rattle.std.specs.Prelude.{Option, None}
use Rattle.xs_model.specs.declared.instance.Instance.{Instance}
use Rattle.xs_model.specs.Names.{words, domains}
use Rattle.xs_model.specs.Accepted.{IsSound}
use Rattle.xs_model.specs.Spans.{AreWithin, BeginsWithin, spans_of}
use Rattle.xs_model.proofs.SpanLemmas.{members_within, spans_words}
use Rattle.xs_model.specs.Instance as xcsp
use Rattle.fz_model.specs.declared.model.FzVar.{FzVar}
use Rattle.fz_model.specs.Fixing.{Agree}
use Rattle.fz_model.specs.Solved as flat
use Rattle.lo_names.specs.Spelling.{spelled}
use Rattle.lo_names.specs.Shown.{shown_vars}
use Rattle.lo_names.proofs.ShownLemmas.{same_counts, shows_all}
use Rattle.lo_base.specs.Item.{Item, made}
use Rattle.lo_base.specs.Lowered.{vars_of}
use Rattle.lo_base.specs.Held.{length-vars_of}
use Rattle.lo_base.specs.Solved as items
use Rattle.lo_base.specs.Stepwise.{Stepwise, AreBits}
use Rattle.lo_base.proofs.Steps.{one_extension}
use Rattle.lo_instance.specs.Laws.{AllHold}
use Rattle.lo_instance.proofs.FormLemmas.{all_lowered, all_bits}
use Rattle.xf_carry.specs.Lowered.{low_items, model_of, LowExtends, LowExtendsOnce, LowSize}
use Rattle.xf_carry.proofs.Ordered.{few_spans, ordered_spans}
use Rattle.xf_carry.proofs.Members.{members_split, members_join, members_length, shown_members, members_shown, made_members, meets_calls, members_meet, AreFree, free_equal, free_join, shown_free, made_free}

abbrev name : FzVar → List ℕ
name v = v.name

abbrev pub count : Instance → ℕ
count i = length (words i.decls)

names_of_shown : (i : Instance) → IsSound i → map name (shown_vars i.decls) ≡ map spelled (words i.decls)
names_of_shown i s = (shows_all i.decls s.decls).0

length-map_is : {A B : Type 0} (f : A → B) (xs : List A) → length (map f xs) ≡ length xs
length-map_is f [] = refl
length-map_is f (x ∷ xs) = omega (arith, length-map_is f xs)

pub shown_count : (i : Instance) → IsSound i → length (shown_vars i.decls) ≡ count i
shown_count i s = sym (length-map_is name (shown_vars i.decls)) ∙ ap length (names_of_shown i s) ∙ length-map_is spelled (words i.decls)

first_names : (i : Instance) (xs : List Item) → IsSound i → take (count i) (map name (shown_vars i.decls ++ vars_of 0 xs)) ≡ map spelled (words i.decls)
first_names i xs s =
    let front : List (List ℕ) = map spelled (words i.decls) in
    ap (take (count i)) (map-append name (shown_vars i.decls) (vars_of 0 xs) ∙ ap (λ zs. zs ++ map name (vars_of 0 xs)) (names_of_shown i s))
    ∙ ap (λ n. take n (front ++ map name (vars_of 0 xs))) (sym (length-map_is spelled (words i.decls)))
    ∙ take-append_seam front (map name (vars_of 0 xs))

-- no variable is declared to equal anything
pub model_free : (i : Instance) (xs : List Item) → AreFree (shown_vars i.decls ++ vars_of 0 xs)
model_free i xs = free_join (shown_vars i.decls) (vars_of 0 xs) (shown_free (words i.decls) (domains i.decls)) (made_free 0 xs)

-- what a solution of the model says of the items
meets : (i : Instance) (xs : List Item) (a c : List ℤ) → IsSound i → length a ≡ count i → flat.Solves (model_of (shown_vars i.decls) xs) (a ++ c) → (length c ≡ made xs) × items.Meets (count i) xs (a ++ c)
meets i xs a c s len h =
    let parts = members_split (shown_vars i.decls) (vars_of 0 xs) a c (len ∙ sym (shown_count i s)) h.members in
    (members_length (vars_of 0 xs) c parts.1 ∙ length-vars_of 0 xs, members_meet (count i) 0 xs a c len parts.1 h.calls)

-- values of the domains lie within the bounds
within : (i : Instance) (a : List ℤ) → IsSound i → length a ≡ count i → xcsp.AreMembers (domains i.decls) a → BeginsWithin (spans_of i.decls) a
within i a s len h =
    let all : take (length (spans_of i.decls)) a ≡ a = take_all (length (spans_of i.decls)) a (omega (arith, len, spans_words i.decls s.decls)) in
    subst (AreWithin (spans_of i.decls)) (sym all) (members_within i.decls a s.decls h)

-- the items mean that the constraints of the instance hold, among values within the bounds of its variables
abbrev ItemsMean : Instance → List Item → Type 0
ItemsMean i xs = items.MeansWithin (BeginsWithin (spans_of i.decls)) (AllHold i.constraints) (count i) xs

solves_first : (i : Instance) (xs : List Item) (a c : List ℤ) → IsSound i → ItemsMean i xs → length a ≡ count i → flat.Solves (model_of (shown_vars i.decls) xs) (a ++ c) → xcsp.Solves i a
solves_first i xs a c s means len h =
    let parts = members_split (shown_vars i.decls) (vars_of 0 xs) a c (len ∙ sym (shown_count i s)) h.members in
    let met = meets i xs a c s len h in
    let members = members_shown (words i.decls) (domains i.decls) a (same_counts i.decls s.decls) parts.0 in
    record {
      members = members;
      hold = means.sound a c len (omega (arith, met.0)) (within i a s len members) met.1;
    }

solves_more : (i : Instance) (xs : List Item) (a : List ℤ) → IsSound i → ItemsMean i xs → length a ≡ count i → xcsp.Solves i a → (c : List ℤ) × flat.Solves (model_of (shown_vars i.decls) xs) (a ++ c)
solves_more i xs a s means len h =
    let e = means.complete a len (within i a s len h.members) h.hold in
    let met : items.Meets (count i) xs (a ++ e.more) =
    subst (λ (n : ℕ). items.Meets n xs (a ++ e.more)) len (subst (items.Meets (length a) xs) (append-nil (a ++ e.more)) (e.met [])) in (
      e.more,
      record {
        members = members_join (shown_vars i.decls) (vars_of 0 xs) a e.more (shown_members (words i.decls) (domains i.decls) a (same_counts i.decls s.decls) h.members) (made_members (count i) 0 xs a e.more len e.many met);
        equals = free_equal (a ++ e.more) (shown_vars i.decls ++ vars_of 0 xs) (a ++ e.more) (model_free i xs);
        calls = meets_calls (count i) xs (a ++ e.more) met;
      },
    )

pub model_extends : (i : Instance) (xs : List Item) → IsSound i → ItemsMean i xs → Extends spelled (xcsp.problem_of i) (flat.problem_of (model_of (shown_vars i.decls) xs))
model_extends i xs s means = record {
  first = first_names i xs s;
  solutions = λ a len. (λ h. solves_more i xs a s means len h, λ h. solves_first i xs a h.0 s means len h.1);
  goal = subst (λ (o : Option Objective). AgreeOn (xcsp.problem_of i) (flat.problem_of (model_of (shown_vars i.decls) xs)) (xcsp.goal_of o) None) (sym s.satisfied) tt;
}

-- equal behind the same front
same_behind : (a c d : List ℤ) (k : ℕ) → length c ≡ k → length d ≡ k → Agree (length a + k) (a ++ c) (a ++ d) → c ≡ d
same_behind [] c d k lc ld h = ext_get_or (pos 0) c d (lc ∙ sym ld) (λ j lt. h j (omega arith))
same_behind (z ∷ a) c d k lc ld h = same_behind a c d k lc ld (λ j lt. h (suc j) (omega arith))

agree_front : (a c d : List ℤ) → Agree (length a) (a ++ c) (a ++ d)
agree_front a c d j lt = get_or_append_left a c (pos 0) j lt ∙ sym (get_or_append_left a d (pos 0) j lt)

pub model_extends_once : (i : Instance) (xs : List Item) → IsSound i → Stepwise (count i) xs → ((b : List ℤ) → items.Meets (count i) xs b → AreBits xs b) → ExtendsOnce (xcsp.problem_of i) (flat.problem_of (model_of (shown_vars i.decls) xs))
model_extends_once i xs s steps bits = record {
  once = λ a c d len h k.
      let hc = meets i xs a c s len h in
      let hd = meets i xs a d s len k in
      let start : Agree (count i) (a ++ c) (a ++ d) = subst (λ (n : ℕ). Agree n (a ++ c) (a ++ d)) len (agree_front a c d) in
      let all = one_extension (count i) xs (a ++ c) (a ++ d) steps (bits (a ++ c) hc.1) (bits (a ++ d) hd.1) start hc.1 hd.1 in
      same_behind a c d (made xs) hc.0 hd.0 (subst (λ (n : ℕ). Agree (n + made xs) (a ++ c) (a ++ d)) (sym len) all);
}

pub low_extends : LowExtends
low_extends i s = model_extends i (low_items i) s (all_lowered (spans_of i.decls) (count i) i.constraints s.constraints (ordered_spans i s) (few_spans i s)).means

pub low_extends_once : LowExtendsOnce
low_extends_once i s =
    model_extends_once i (low_items i) s (all_lowered (spans_of i.decls) (count i) i.constraints s.constraints (ordered_spans i s) (few_spans i s)).stepwise
    (all_bits (spans_of i.decls) (count i) i.constraints s.constraints (ordered_spans i s) (few_spans i s))

pub low_size : LowSize
low_size i s =
    let xs : List Item = low_items i in
    let vars : length (shown_vars i.decls ++ vars_of 0 xs) ≡ count i + made xs =
    length-append (shown_vars i.decls) (vars_of 0 xs) ∙ ap (λ n. n + length (vars_of 0 xs)) (shown_count i s) ∙ ap (λ n. count i + n) (length-vars_of 0 xs) in
    omega (arith, vars, (all_lowered (spans_of i.decls) (count i) i.constraints s.constraints (ordered_spans i s) (few_spans i s)).size)
