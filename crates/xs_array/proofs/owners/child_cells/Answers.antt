use Rattle.std.proofs.Common.{◌≡◌, ◌≤◌, ◌∙◌, ◌&&◌, ◌++◌, take, drop, arith, ℕ, Bool, List, Option, length, map, is_some, ap, sym, subst}
use Rattle.std.specs.List.{AllByRecursion, list_all}
use Rattle.xf_num.specs.Span.{Bounds}
use Rattle.xs_var.specs.Elements.{children_of}
use Rattle.xs_array.specs.DomainChild.{named_by}
use Rattle.xs_array.specs.Owners.{child_domain, picked}
use Rattle.xs_array.proofs.OwnerLemmas.{Claims, cells_are, defined_are, front_all, owners_len, owners_within}
use Rattle.xs_array.proofs.owners.child_cells.Goals as goal
use Rattle.xs_array.proofs.owners.child_cells.Goals.{then-are_defined, else-are_defined}

pub picked_cells-requires : goal.picked_cells-requires
picked_cells-requires c =
    let ds = c.in_ok-children.children.domains in
    let os = c.claim_all.new.owners in
    let claims : Claims c.args.sizes.now ds c.in_ok-children.children.apart os (children_of c.args.pieces.now) = record { domains_are = c.in_ok-children.ensures.domains; apart_is = c.in_ok-children.ensures.apart; owners_are = c.in_ok-children.ensures.owners } in
    let within = owners_within c.args.sizes.now ds c.in_ok-children.children.apart os (children_of c.args.pieces.now) claims in
    let len_is : c.in_ok-owners.owners.len ≡ length os = omega (arith, owners_len c.args.sizes.now ds c.in_ok-children.children.apart os (children_of c.args.pieces.now) claims, c.requires.count, c.in_ok-owners.ensures.len) in
    let owners_is : c.as_slice.result.now ≡ os = c.as_slice.ensures.value ∙ ap (λ (k : ℕ). take k (os ++ drop (length os) c.in_ok-owners.owners.items)) len_is ∙ front_all os (drop (length os) c.in_ok-owners.owners.items) in
    subst (λ (xs : List (Option (List Bounds))). AllByRecursion (λ k. k ≤ length xs) c.as_slice.result.now) (sym c.as_slice-domains.ensures)
    (subst (λ (ns : List ℕ). AllByRecursion (λ k. k ≤ length ds) ns) (sym owners_is) within)

pub returns-clause-cells : goal.returns-clause-cells
returns-clause-cells c =
    let ds = c.in_ok-children.children.domains in
    let os = c.claim_all.new.owners in
    let claims : Claims c.args.sizes.now ds c.in_ok-children.children.apart os (children_of c.args.pieces.now) = record { domains_are = c.in_ok-children.ensures.domains; apart_is = c.in_ok-children.ensures.apart; owners_are = c.in_ok-children.ensures.owners } in
    let len_is : c.in_ok-owners.owners.len ≡ length os = omega (arith, owners_len c.args.sizes.now ds c.in_ok-children.children.apart os (children_of c.args.pieces.now) claims, c.requires.count, c.in_ok-owners.ensures.len) in
    let owners_is : c.as_slice.result.now ≡ os = c.as_slice.ensures.value ∙ ap (λ (k : ℕ). take k (os ++ drop (length os) c.in_ok-owners.owners.items)) len_is ∙ front_all os (drop (length os) c.in_ok-owners.owners.items) in
    c.in_ok-cells.ensures
    ∙ ap (λ (xs : List (Option (List Bounds))). map (picked xs) c.as_slice.result.now) c.as_slice-domains.ensures
    ∙ ap (λ (ns : List ℕ). map (picked ds) ns) owners_is
    ∙ cells_are c.args.sizes.now ds c.in_ok-children.children.apart os (children_of c.args.pieces.now) claims

pub returns-clause-full : goal.returns-clause-full
returns-clause-full c =
    let all = children_of c.args.pieces.now in
    let defined : c.are_defined.result ≡ list_all is_some (map child_domain all) = c.are_defined.ensures ∙ ap (λ (xs : List (Option (List Bounds))). list_all is_some xs) (c.as_slice-domains.ensures ∙ c.in_ok-children.ensures.domains) in
    let joined : c.if-are_defined.result ≡ (c.are_defined.result && c.in_ok-children.children.apart) = elim c.if-are_defined.branch [
      | then-are_defined w ↦ w.result-is ∙ ap (λ (v : Bool). v && c.in_ok-children.children.apart) (sym w.if-are_defined.true)
      | else-are_defined w ↦ w.result-is ∙ w.if-are_defined.false ∙ ap (λ (v : Bool). v && c.in_ok-children.children.apart) (sym w.if-are_defined.false)
    ] in
    joined
    ∙ ap (λ (v : Bool). v && c.in_ok-children.children.apart) (defined ∙ defined_are c.args.sizes.now all)
    ∙ ap (λ (v : Bool). list_all (λ d. is_some d.domain) (map (named_by c.args.sizes.now) all) && v) c.in_ok-children.ensures.apart
