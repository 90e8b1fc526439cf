-- The two objects that write a lowered model: the lines of its auxiliaries, and the lines of its calls.
use Rattle.std.specs.Prelude.{ℕ, ◌+◌, Option, List, [], length, refl}
use Rattle.std.specs.List.{flat_map}
use Rattle.std.proofs.Common.{ap, ◌∙◌}
use Rattle.std.proofs.lemmas.Grind.{flat_map-append}
use Rattle.fz_file.specs.Layout.{var_line, call_line, names_of}
use Rattle.lo_base.specs.Item.{Item, made}
use Rattle.lo_base.specs.Emit.{EmitLaws}
use Rattle.lo_base.specs.Lowered.{vars_of, calls_of}
use Rattle.lo_base.specs.Held.{vars_of-append, calls_of-append}
use Rattle.xf_carry.specs.declared.passes.DeclEmit.{DeclEmit}
use Rattle.xf_carry.specs.declared.passes.CallEmit.{CallEmit}
use Rattle.xf_carry.specs.Lines.{decl_lines, call_lines}
use Rattle.xf_carry.specs.Writing as writing

module _ {W : Type 0} (holds : W → Option (List ℕ)) (faults : W → ℕ) where
  -- the lines of the variables that the items make were appended
  abbrev pub DeclGrew : DeclEmit W → DeclEmit W → List Item → Type 0
  DeclGrew = writing.Grew (λ (e : DeclEmit W). e.out) (λ e. e.named) (λ e. e.count) (λ k. k) decl_lines holds faults

  -- a front of them was appended
  abbrev pub DeclBegan : DeclEmit W → DeclEmit W → List Item → Type 0
  DeclBegan = writing.Began (λ (e : DeclEmit W). e.out) (λ e. e.named) (λ e. e.count) (λ k. k) decl_lines holds faults

  pub decl_laws : EmitLaws (λ (e : DeclEmit W). e.named) (λ e. e.count) (λ e. faults e.out) DeclGrew DeclBegan
  decl_laws = writing.laws (λ (e : DeclEmit W). e.out) (λ e. e.named) (λ e. e.count) (λ k. k) decl_lines holds faults (record {
    nothing = λ k n. refl;
    in_a_row = λ k n xs ys. ap (flat_map (var_line [])) (vars_of-append n xs ys) ∙ flat_map-append (var_line []) (vars_of n xs) (vars_of (n + made xs) ys);
    enough = λ e. e.enough;
  })

  -- the lines of the calls that the items post were appended
  abbrev pub CallGrew : CallEmit W → CallEmit W → List Item → Type 0
  CallGrew = writing.Grew (λ (e : CallEmit W). e.out) (λ e. e.named) (λ e. e.count) length call_lines holds faults

  -- a front of them was appended
  abbrev pub CallBegan : CallEmit W → CallEmit W → List Item → Type 0
  CallBegan = writing.Began (λ (e : CallEmit W). e.out) (λ e. e.named) (λ e. e.count) length call_lines holds faults

  pub call_laws : EmitLaws (λ (e : CallEmit W). length e.named) (λ e. e.count) (λ e. faults e.out) CallGrew CallBegan
  call_laws = writing.laws (λ (e : CallEmit W). e.out) (λ e. e.named) (λ e. e.count) length call_lines holds faults (record {
    nothing = λ k n. refl;
    in_a_row = λ k n xs ys. ap (flat_map (call_line (names_of k))) (calls_of-append xs ys) ∙ flat_map-append (call_line (names_of k)) (calls_of xs) (calls_of ys);
    enough = λ e. e.enough;
  })
