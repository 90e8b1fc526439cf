use Rattle.std.proofs.Common.{◌≡◌, ◌&&◌, ◌∙◌, ap, codes, Option, List, ℕ}
use Rattle.xs_fields.specs.Conditions.{first_missed}
use Rattle.xs_var.specs.Elements.{text_or_none, value_in}
use Rattle.xs_var.specs.Variable.{as_meets, id_meets, known_meets}
use Rattle.xs_array.specs.ArrayUnit.{content_meets, is_array_known, size_meets}
use Rattle.xs_array.specs.Reading.{content_within}
use Rattle.xs_array.proofs.FieldLemmas.{content_is, sizes_matter}
use Rattle.xs_array.proofs.fields.judge_array_fields.Goals as goal

pub returns : goal.returns
returns c =
    let node = c.args.node.now in
    let id : Option (List ℕ) = value_in (codes "id") node.attrs in
    let like : Option (List ℕ) = value_in (codes "as") node.attrs in
    let size : Option (List ℕ) = value_in (codes "size") node.attrs in
    let like_is = c.attribute-like.ensures ∙ ap (λ x. value_in (codes "as") x) c.as_slice-attrs.ensures in
    let size_found = c.attribute.ensures ∙ ap (λ x. value_in (codes "size") x) c.as_slice-attrs.ensures in
    let id_found = c.attribute-2.ensures ∙ ap (λ x. value_in (codes "id") x) c.as_slice-attrs.ensures in
    let content : c.in_ok-content.content ≡ first_missed (content_within like (text_or_none id) c.args.sizes.now node) =
    c.in_ok-content.ensures ∙ ap (λ o. first_missed (content_within o c.as_slice.result.now c.args.sizes.now node)) like_is ∙ ap (λ t. first_missed (content_within like t c.args.sizes.now node)) (c.as_slice.ensures ∙ c.in_ok-name.ensures) in
    let size_is : c.judge_size.result ≡ first_missed (size_meets size) = c.judge_size.ensures ∙ ap (λ o. first_missed (size_meets o)) size_found in
    let as_is : c.judge_as.result ≡ first_missed (as_meets like) = c.judge_as.ensures ∙ ap (λ o. first_missed (as_meets o)) like_is in
    let id_is : c.judge_id.result ≡ first_missed (id_meets id) = c.judge_id.ensures ∙ ap (λ o. first_missed (id_meets o)) id_found in
    let known_is : c.judge_known.result ≡ first_missed (known_meets (is_array_known node)) = c.judge_known.ensures ∙ ap (λ b. first_missed (known_meets b)) c.is_array_known.ensures in
    let sized = c.earlier-sized.ensures.joins (size_meets size) (content_within like (text_or_none id) c.args.sizes.now node) size_is content
    ∙ sizes_matter size like (text_or_none id) node c.args.sizes.now c.requires
    ∙ content_is like (size_meets size) node in
    let taken = c.earlier-taken.ensures.joins (as_meets like) (λ k. size_meets size k && content_meets like node k) as_is sized in
    let named = c.earlier-named.ensures.joins (id_meets id) (λ k. as_meets like k && (size_meets size k && content_meets like node k)) id_is taken in
    c.earlier.ensures.joins (known_meets (is_array_known node)) (λ k. id_meets id k && (as_meets like k && (size_meets size k && content_meets like node k))) known_is named
