-- The bounds of the variables of a sound instance are as many as these, and each is a range with members.
use Rattle.std.proofs.Common.{◌≡◌, ◌≤◌, ◌≤ℤ◌, List, [], ◌∷◌, ◌++◌, length, map, arith}
use Rattle.std.specs.List.{AllByRecursion}
use Rattle.std.proofs.lemmas.Int.{ints}
use Rattle.xf_num.specs.Domain.{IsDomain, Ascends, least_of, greatest_of}
use Rattle.xf_num.specs.Span.{Bounds}
use Rattle.xs_model.specs.declared.decl.Decl.{Decl}
use Rattle.xs_model.specs.declared.decl.Decl.TheVariants.{One, Array}
use Rattle.xs_model.specs.declared.instance.Instance.{Instance}
use Rattle.xs_model.specs.Accepted.{IsSound}
use Rattle.xs_model.specs.Names.{words, domains, domains_of}
use Rattle.xs_model.specs.Sound.{IsSoundDecl, IsSoundDomain}
use Rattle.xs_model.specs.Spans.{span_in, spans_of}
use Rattle.xs_model.proofs.SpanLemmas.{spans_words}
use Rattle.lo_formed.specs.Laws.{AreOrdered}

pub all_join : {X : Type 0} (P : X → Type 0) (xs ys : List X) → AllByRecursion P xs → AllByRecursion P ys → AllByRecursion P (xs ++ ys)
all_join P [] ys h k = k
all_join P (x ∷ xs) ys h k = (h.0, all_join P xs ys h.1 k)

decl_domains : (d : Decl) → IsSoundDecl d → AllByRecursion IsSoundDomain (domains_of d)
decl_domains (One name domain) h = (h.1, tt)
decl_domains (Array name sizes cells) h = h.5

pub all_domains : (ds : List Decl) → AllByRecursion IsSoundDecl ds → AllByRecursion IsSoundDomain (domains ds)
all_domains [] h = tt
all_domains (d ∷ ds) h = all_join IsSoundDomain (domains_of d) (domains ds) (decl_domains d h.0) (all_domains ds h.1)

ascending : (b : Bounds) (bs : List Bounds) → Ascends b bs → b.lo ≤ℤ greatest_of (b ∷ bs)
ascending b [] h = h
ascending b (c ∷ cs) h = omega (arith, ints, h.0, h.1, ascending c cs h.2)

domain_ordered : (d : List Bounds) → IsDomain d → least_of d ≤ℤ greatest_of d
domain_ordered [] h = absurd h
domain_ordered (b ∷ bs) h = ascending b bs h

spans_ordered : (domains : List (List Bounds)) → AllByRecursion IsSoundDomain domains → AreOrdered (map span_in domains)
spans_ordered [] h = tt
spans_ordered (d ∷ ds) h = (domain_ordered d h.0.0, spans_ordered ds h.1)

pub ordered_spans : (i : Instance) → IsSound i → AreOrdered (spans_of i.decls)
ordered_spans i s = spans_ordered (domains i.decls) (all_domains i.decls s.decls)

pub few_spans : (i : Instance) → IsSound i → length (spans_of i.decls) ≤ length (words i.decls)
few_spans i s = omega (arith, spans_words i.decls s.decls)
