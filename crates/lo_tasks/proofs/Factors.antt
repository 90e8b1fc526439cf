-- The factors of heights whose bounds are small can be negated, and there is room for the variables of the sums.
use Rattle.std.proofs.Common.{◌≡◌, ℕ, ◌+◌, ◌*◌, ◌≤◌, ◌^◌, ℤ, List, [], ◌∷◌, sym, subst, arith}
use Rattle.std.specs.List.{All, AllByRecursion}
use Rattle.std.proofs.Math.Nat.{mul-le-mul}
use Rattle.std.proofs.lemmas.Int.{ints}
use Rattle.fz_model.specs.Limits.{IsSmall, exactly}
use Rattle.lo_emit.specs.Sums.{IsNegatable}
use Rattle.lo_rules.proofs.Pairs.{all_of_places, places_of_all}
use Rattle.lo_tasks.specs.declared.task.Task.{Task}
use Rattle.lo_tasks.specs.Bounded.{IsBounded, HasBoundedHeight}
use Rattle.lo_tasks.specs.Cumulative.{factor_of, factors_of}
use Rattle.xf_num.specs.Span.{Bounds}
use Rattle.xs_model.specs.declared.term.Term.{Term as Operand}
use Rattle.xs_model.specs.declared.term.Term.TheVariants as operand

small_negatable : (z : ℤ) → IsSmall (exactly z) → IsNegatable z
small_negatable z h = (omega (arith, ints, h.from), omega (arith, ints, h.to))

factor_negatable : (ss : List Bounds) (h : Operand) → IsBounded ss h → IsNegatable (factor_of h)
factor_negatable ss (operand.Int z) h = small_negatable z h.small
factor_negatable ss (operand.Var v) h = (omega (arith, ints), omega (arith, ints))

each_negatable : (ss : List Bounds) (tasks : List Task) → AllByRecursion (HasBoundedHeight ss) tasks → AllByRecursion IsNegatable (factors_of tasks)
each_negatable ss [] h = tt
each_negatable ss (task ∷ tasks) h = (factor_negatable ss task.height h.0, each_negatable ss tasks h.1)

pub factors_negatable : (ss : List Bounds) (tasks : List Task) (zs : List ℤ) → zs ≡ factors_of tasks → All (HasBoundedHeight ss) tasks → All IsNegatable zs
factors_negatable ss tasks zs is h = subst (All IsNegatable) (sym is) (places_of_all IsNegatable (factors_of tasks) (each_negatable ss tasks (all_of_places (HasBoundedHeight ss) tasks h)))

-- five variables for each two of at most k tasks, behind k more
pub room_for_sums : (t k n c : ℕ) → t ≤ k → k * (5 * k) + k ≤ 2 ^ 60 → n ≤ 2 ^ 60 → c ≤ n + k → c + t * (5 * t) ≤ 2 ^ 61
room_for_sums t k n c le few room more =
    let most : 5 * t ≤ 5 * k = omega (arith, le) in
    let square : t * (5 * t) ≤ k * (5 * k) = mul-le-mul le most in
    omega (arith, square, few, room, more)
