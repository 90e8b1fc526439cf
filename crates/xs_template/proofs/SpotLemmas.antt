-- How the spots of a text begin.
use Rattle.std.proofs.Common.{◌≡◌, ℕ, suc, zero, ◌+◌, ◌-◌, ◌*◌, ◌<◌, min, None, Some, Option, List, [], ◌∷◌, ◌++◌, length, take, drop, refl, ap, sym, ◌∙◌, arith, append_assoc}
use Rattle.xs_template.specs.declared.cutting.Gap.{Gap}
use Rattle.xs_template.specs.declared.cutting.Spot.TheVariants.{Plain, Open}
use Rattle.xs_template.specs.Template.{front_gap, gap_at, onto_plain, put, spots_past, spots_of, plain_len, count_plain, number_after, most_words}

pub past_is : (told : ℕ → ℕ) → (bs : List ℕ) (k : ℕ) → spots_past told bs k ≡ spots_of told (drop k bs)
past_is told [] zero = refl
past_is told [] (suc k) = refl
past_is told (b ∷ bs) zero = refl
past_is told (b ∷ bs) (suc k) = past_is told bs k

-- a text that begins with a gap
pub gap_first : (told : ℕ → ℕ) → (text : List ℕ) (gap : Gap × ℕ) → front_gap told text ≡ Some gap → 0 < gap.1 → spots_of told text ≡ Open gap.0 ∷ spots_of told (drop gap.1 text)
gap_first told [] gap is some = absurd (cc is)
gap_first told (b ∷ bs) gap is some =
    let one : gap.1 ≡ suc (gap.1 - 1) = omega arith in
    ap (λ o. put b o (spots_past told bs)) is ∙ ap (λ ss. Open gap.0 ∷ ss) (past_is told bs (gap.1 - 1)) ∙ ap (λ n. Open gap.0 ∷ spots_of told (drop n (b ∷ bs))) (sym one)

-- a text that begins with a byte that stays
pub plain_first : (told : ℕ → ℕ) → (text : List ℕ) → 0 < length text → front_gap told text ≡ None → spots_of told text ≡ Plain (take (plain_len told text) text) ∷ spots_of told (drop (plain_len told text) text)
plain_first told [] some is = absurd (omega arith)
plain_first told (b ∷ []) some is =
    let two = ap (λ o. count_plain o 0) is in
    ap (λ o. put b o (spots_past told [])) is ∙ ap (λ n. Plain (take n (b ∷ [])) ∷ spots_of told (drop n (b ∷ []))) (sym two)
plain_first told (b ∷ c ∷ cs) some is = by (gap_at told c cs) refl (λ e. plain_first told (c ∷ cs) (omega arith) e)
  where
    by : (o : Option (Gap × ℕ)) → gap_at told c cs ≡ o → (gap_at told c cs ≡ None → spots_of told (c ∷ cs) ≡ Plain (take (plain_len told (c ∷ cs)) (c ∷ cs)) ∷ spots_of told (drop (plain_len told (c ∷ cs)) (c ∷ cs))) → spots_of told (b ∷ c ∷ cs) ≡ Plain (take (plain_len told (b ∷ c ∷ cs)) (b ∷ c ∷ cs)) ∷ spots_of told (drop (plain_len told (b ∷ c ∷ cs)) (b ∷ c ∷ cs))
    by None e before =
        let rest = before e in
        let len : plain_len told (b ∷ c ∷ cs) ≡ suc (plain_len told (c ∷ cs)) = ap (λ o. count_plain o (plain_len told (c ∷ cs))) is ∙ omega arith in
        ap (λ o. put b o (spots_past told (c ∷ cs))) is ∙ ap (onto_plain b) rest ∙ ap (λ n. Plain (take n (b ∷ c ∷ cs)) ∷ spots_of told (drop n (b ∷ c ∷ cs))) (sym len)
    by (Some gap) e before =
        let none : plain_len told (c ∷ cs) ≡ 0 = ap (λ o. count_plain o (plain_len told cs)) e in
        let len : plain_len told (b ∷ c ∷ cs) ≡ suc 0 = ap (λ o. count_plain o (plain_len told (c ∷ cs))) is ∙ omega (arith, none) in
        let open_first : spots_of told (c ∷ cs) ≡ Open gap.0 ∷ spots_past told cs (gap.1 - 1) = ap (λ o. put c o (spots_past told cs)) e in
        ap (λ o. put b o (spots_past told (c ∷ cs))) is ∙ ap (onto_plain b) open_first ∙ ap (λ ss. Plain (b ∷ []) ∷ ss) (sym open_first) ∙ ap (λ n. Plain (take n (b ∷ c ∷ cs)) ∷ spots_of told (drop n (b ∷ c ∷ cs))) (sym len)

-- a capped number stays capped behind one more digit
pub capped : (m n : ℕ) (ds : List ℕ) → min m most_words ≡ min n most_words → min (number_after m ds) most_words ≡ min (number_after n ds) most_words
capped m n [] same = same
capped m n (d ∷ ds) same = capped (m * 10 + (d - 48)) (n * 10 + (d - 48)) ds (omega arith)

-- how far the first gap is, one byte further
pub plain_on : (told : ℕ → ℕ) → (ys : List ℕ) → 0 < length ys → front_gap told ys ≡ None → plain_len told ys ≡ plain_len told (drop 1 ys) + 1
plain_on told [] some is = absurd (omega arith)
plain_on told (b ∷ bs) some is = ap (λ o. count_plain o (plain_len told bs)) is

pub plain_here : (told : ℕ → ℕ) → (ys : List ℕ) (gap : Gap × ℕ) → front_gap told ys ≡ Some gap → plain_len told ys ≡ 0
plain_here told [] gap is = refl
plain_here told (b ∷ bs) gap is = ap (λ o. count_plain o (plain_len told bs)) is

-- bytes that stay take some of the text
pub plain_some : (told : ℕ → ℕ) → (ys : List ℕ) → 0 < length ys → front_gap told ys ≡ None → 0 < plain_len told ys
plain_some told ys some is = omega (arith, plain_on told ys some is)

-- one more of a list that is being copied
pub one_more : {A : Type 0} (old new rest all : List A) (x : A) → new ≡ old ++ x ∷ [] → all ≡ x ∷ rest → new ++ rest ≡ old ++ all
one_more old new rest all x pushed front = ap (λ ys. ys ++ rest) pushed ∙ append_assoc old (x ∷ []) rest ∙ ap (λ ys. old ++ ys) (sym front)
