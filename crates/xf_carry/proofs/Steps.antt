-- One item that is written, and what is written of all.
use Rattle.std.proofs.Common.{◌≡◌, ℕ, ◌+◌, ◌-◌, ◌≤◌, pos, true, false, Option, List, [], ◌∷◌, take, drop, ap, sym, subst, ◌∙◌, arith, append-nil}
use Rattle.std.specs.Prelude.{Bool}
use Rattle.std.specs.List.{flat_map}
use Rattle.std.proofs.lemmas.List.{take-append-drop}
use Rattle.xf_num.specs.Span.{Bounds}
use Rattle.xf_text.specs.Outside.{Appended, AppendedFront}
use Rattle.fz_model.specs.declared.model.Call.{Call}
use Rattle.fz_file.specs.Layout.{var_line, call_line, names_of}
use Rattle.lo_base.specs.Item.{Item, Ranged, Boolean, Posted}
use Rattle.lo_base.specs.Lowered.{auxiliary, vars_of}
use Rattle.xf_carry.specs.declared.passes.DeclEmit.{DeclEmit}
use Rattle.xf_carry.specs.declared.passes.CallEmit.{CallEmit}
use Rattle.xf_carry.specs.Lines.{decl_lines, call_lines}
use Rattle.xf_carry.specs.Passes.{DeclGrew, DeclBegan, CallBegan}
use Rattle.xf_carry.proofs.Fronts.{front_from}

abbrev bits : Bounds
bits = record { lo = pos 0; hi = pos 1 }

module _ {W : Type 0} (holds : W → Option (List ℕ)) (faults : W → ℕ) where
  abbrev line : DeclEmit W → Bool → Bounds → List ℕ
  line a boolean span = var_line [] (auxiliary (a.count - a.named) boolean span)

  pub ranged_grew : (a b : DeclEmit W) (span : Bounds) → b.named ≡ a.named → faults a.out ≤ faults b.out → b.count ≡ a.count + 1 → Appended (holds a.out) (holds b.out) (line a false span) → DeclGrew holds faults a b (Ranged span.lo span.hi ∷ [])
  ranged_grew a b span same le more told = record { same = same; counted = more; told = subst (Appended (holds a.out) (holds b.out)) (sym (append-nil (line a false span))) told; failed = le }

  pub boolean_grew : (a b : DeclEmit W) (span : Bounds) → span ≡ bits → b.named ≡ a.named → faults a.out ≤ faults b.out → b.count ≡ a.count + 1 → Appended (holds a.out) (holds b.out) (line a true span) → DeclGrew holds faults a b (Boolean ∷ [])
  boolean_grew a b span is same le more told = record {
    same = same;
    counted = more;
    told = subst (Appended (holds a.out) (holds b.out)) (ap (line a true) is ∙ sym (append-nil (line a true bits))) told;
    failed = le;
  }

  began_line : (a b : DeclEmit W) (items : List Item) (text : List ℕ) → text ≡ decl_lines a.named (a.count - a.named) items → b.named ≡ a.named → faults a.out ≤ faults b.out → b.count ≡ a.count → AppendedFront (holds a.out) (holds b.out) text → DeclBegan holds faults a b items
  began_line a b items text is same le more told = record {
    same = same;
    at_least = omega (arith, more);
    front = take told.0 text;
    rest = drop told.0 text;
    all = take-append-drop told.0 text ∙ is;
    told = told.1;
    failed = le;
  }

  pub ranged_began : (a b : DeclEmit W) (span : Bounds) → b.named ≡ a.named → faults a.out ≤ faults b.out → b.count ≡ a.count → AppendedFront (holds a.out) (holds b.out) (line a false span) → DeclBegan holds faults a b (Ranged span.lo span.hi ∷ [])
  ranged_began a b span same le more told = began_line a b (Ranged span.lo span.hi ∷ []) (line a false span) (sym (append-nil (line a false span))) same le more told

  pub boolean_began : (a b : DeclEmit W) (span : Bounds) → span ≡ bits → b.named ≡ a.named → faults a.out ≤ faults b.out → b.count ≡ a.count → AppendedFront (holds a.out) (holds b.out) (line a true span) → DeclBegan holds faults a b (Boolean ∷ [])
  boolean_began a b span is same le more told = began_line a b (Boolean ∷ []) (line a true span) (ap (line a true) is ∙ sym (append-nil (line a true bits))) same le more told

  pub posted_began : (a b : CallEmit W) (call : Call) → b.named ≡ a.named → faults a.out ≤ faults b.out → b.count ≡ a.count → AppendedFront (holds a.out) (holds b.out) (call_line (names_of a.named) call) → CallBegan holds faults a b (Posted call ∷ [])
  posted_began a b call same le more told =
      let text : List ℕ = call_line (names_of a.named) call in
      record {
        same = same;
        at_least = omega (arith, more);
        front = take told.0 text;
        rest = drop told.0 text;
        all = take-append-drop told.0 text ∙ sym (append-nil text);
        told = told.1;
        failed = le;
      }

  -- the text of all items, from an object that has made none
  pub decl_text : (a : DeclEmit W) (items : List Item) → a.count ≡ a.named → decl_lines a.named (a.count - a.named) items ≡ flat_map (var_line []) (vars_of 0 items)
  decl_text a items is = let none : a.count - a.named ≡ 0 = omega (arith, is) in ap (λ k. flat_map (var_line []) (vars_of k items)) none

  pub decls_grew : (a b : DeclEmit W) (items : List Item) → a.count ≡ a.named → DeclGrew holds faults a b items → Appended (holds a.out) (holds b.out) (flat_map (var_line []) (vars_of 0 items))
  decls_grew a b items is g = subst (Appended (holds a.out) (holds b.out)) (decl_text a items is) g.told

  pub decls_began : (a b : DeclEmit W) (items : List Item) → a.count ≡ a.named → DeclBegan holds faults a b items → AppendedFront (holds a.out) (holds b.out) (flat_map (var_line []) (vars_of 0 items))
  decls_began a b items is g = front_from (holds a.out) (holds b.out) g.front g.rest (flat_map (var_line []) (vars_of 0 items)) (g.all ∙ decl_text a items is) g.told

  pub calls_began : (a b : CallEmit W) (items : List Item) → CallBegan holds faults a b items → AppendedFront (holds a.out) (holds b.out) (call_lines a.named 0 items)
  calls_began a b items g = front_from (holds a.out) (holds b.out) g.front g.rest (call_lines a.named 0 items) g.all g.told
