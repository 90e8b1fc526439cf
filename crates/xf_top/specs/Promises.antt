-- What is promised of the text that is due, in the words of the formats: one row a command.
use Rattle.std.specs.Prelude.{◌≡◌, ◌*◌, ◌≤◌, ℕ, List, Option}
use Rattle.fz_file.specs.Layout.{layout}
use Rattle.fz_model.specs.declared.model.Model.{Model}
use Rattle.fz_model.specs.Size.{size_of}
use Rattle.fz_model.specs.Solved as flat
use Rattle.fz_model.specs.Sound.{IsSound}
use Rattle.fz_read.specs.Reading.{AreAlike, Denotes}
use Rattle.lo_names.specs.Spelling.{spelled}
use Rattle.xf_carry.specs.Lowered.{weight_of}
use Rattle.xf_course.specs.Course.{HasRead, Outcome, Owes}
use Rattle.xf_course.specs.declared.course.Standing.TheVariants.{Met}
use Rattle.xf_problem.specs.Problem.{Extends, ExtendsOnce}
use Rattle.xf_text.specs.declared.outside.Stored.{Stored}
use Rattle.xf_words.specs.declared.call.Command.{Command}
use Rattle.xf_words.specs.declared.call.Command.TheVariants.{ToFzn, Show}
use Rattle.xf_words.specs.declared.call.Numbers.{Numbers}
use Rattle.xs_file.specs.Reading.{Spells}
use Rattle.xs_model.specs.declared.instance.Instance.{Instance}
use Rattle.xs_model.specs.Instance as xcsp

-- the text is the lines of a sound FlatZinc model, and denotes it by the grammar, and no other but for the places of calls;
-- the first variables of the model are those of the instance, and an assignment of these extends to a solution of the model
-- exactly where it solves the instance, and then in one way; its variables and the leaves of its calls are at most 64 times
-- the weight of the instance
pub record IsConversion (i : Instance) (text : List ℕ) : Type 0 where
  pub model : Model
  pub written : text ≡ layout model
  pub denotes : Denotes text model
  pub alone : (other : Model) → Denotes text other → AreAlike model other
  pub sound : IsSound model
  pub extends : Extends spelled (xcsp.problem_of i) (flat.problem_of model)
  pub once : ExtendsOnce (xcsp.problem_of i) (flat.problem_of model)
  pub small : size_of model ≤ 64 * weight_of i

-- a conversion of the instance is due
abbrev pub IsConverted : Instance → Outcome → Type 0
IsConverted i o = (text : List ℕ) × (o ≡ Owes Met text) × IsConversion i text

-- `to-fzn`: FILE is read as an instance, and a conversion of it is due; `show`: nothing beside its course
abbrev pub promise_of : Option (List Stored) → List ℕ → List ℕ → Command → Numbers → Outcome → Type 0
promise_of files file solution ToFzn n o = HasRead files file Spells (λ i. IsConverted i o)
promise_of files file solution Show n o = Unit {0}
