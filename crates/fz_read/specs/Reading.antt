-- What a text denotes: a FlatZinc model, or the fault for which it is refused (MiniZinc Handbook, "FlatZinc").
use Rattle.std.specs.Prelude.{◌≡◌, ◌⊎◌, ℕ, ◌-◌, ℤ, List, [], length, map, Option, None, Ok, Err}
use Rattle.xf_text.specs.declared.fault.Fault.{Fault}
use Rattle.xf_text.specs.declared.fault.Kind.TheVariants.{Depth, Syntax}
use Rattle.xf_text.specs.declared.fault.Stop.{Stop}
use Rattle.xf_text.specs.declared.fault.Stop.TheVariants.{Memory, Refused}
use Rattle.fz_model.specs.declared.model.Call.{Call}
use Rattle.fz_model.specs.declared.model.Model.{Model}
use Rattle.fz_model.specs.Sound.{IsSound}
use Rattle.fz_tokens.specs.Tokens.{tokens_of}
use Rattle.fz_grammar.specs.Levels.{AreLow, words}
use Rattle.fz_grammar.specs.Items.{IsModel}
use Rattle.fz_grammar.specs.Fits.{IsMisfit, IsTooDeep}
use Rattle.fz_grammar.specs.Placing.{IsPlaced}
use Rattle.fz_grammar.specs.declared.tree.Reading.{Reading}
use Rattle.fz_grammar.specs.declared.halt.Halt.{Halt}
use Rattle.fz_grammar.specs.declared.halt.Halt.TheVariants as halts
use Rattle.fz_grammar.specs.declared.halt.Fault.TheVariants as unfit
use Rattle.fz_items.specs.Conditions.{in_order, lasting}
use Rattle.fz_items.specs.Items.{IsBound}
use Rattle.fz_items.specs.Outcome.{outcome}
use Rattle.fz_sound.specs.Laws.{IsCounted}

-- the items of the text, each with the place where it stands
pub record AreItems (text : List ℕ) (reading : Reading) : Type 0 where
  pub model : IsModel reading.syntax (words (tokens_of text))
  pub placed : IsPlaced reading (tokens_of text) []

-- a call at the place 0
abbrev pub unplaced : Call → Call
unplaced c = record { builtin = c.builtin; args = c.args; place = 0 }

-- the models are the same but for the places of calls
pub record AreAlike (m n : Model) : Type 0 where
  pub vars : m.vars ≡ n.vars
  pub outputs : m.outputs ≡ n.outputs
  pub calls : map unplaced m.calls ≡ map unplaced n.calls
  pub goal : m.goal ≡ n.goal

-- the text denotes the model: its items, whatever their number and their levels, miss no condition but that on the
-- counts, and state the model
pub record Denotes (text : List ℕ) (m : Model) : Type 0 where
  pub reading : Reading
  pub stated : Model
  pub items : AreItems text reading
  pub meets : outcome lasting None (length text) reading ≡ Ok stated
  pub alike : AreAlike m stated

-- the text is read as the model: its items open no more than 200 levels and miss no condition, an unbounded variable
-- being within the bound
pub record Spells (bound : Option ℤ) (text : List ℕ) (m : Model) : Type 0 where
  pub reading : Reading
  pub items : AreItems text reading
  pub low : AreLow 0 (words (tokens_of text))
  pub meets : outcome in_order bound (length text) reading ≡ Ok m

-- the fault of the first item that misses a condition
pub record IsMissed (bound : Option ℤ) (text : List ℕ) (fault : Fault) : Type 0 where
  pub reading : Reading
  pub items : AreItems text reading
  pub low : AreLow 0 (words (tokens_of text))
  pub misses : outcome in_order bound (length text) reading ≡ Err fault

-- the first token that is none or does not fit; the end, where the text ends too early
pub record IsUnfit (text : List ℕ) (fault : Fault) : Type 0 where
  pub left : ℕ
  pub misfit : IsMisfit IsModel (tokens_of text) left
  pub is : fault ≡ record { kind = Syntax; place = length text - left }

-- the bracket that opens level 201
pub record IsNestedTooDeep (text : List ℕ) (fault : Fault) : Type 0 where
  pub left : ℕ
  pub deep : IsTooDeep IsModel (tokens_of text) left
  pub is : fault ≡ record { kind = Depth; place = length text - left }

-- the fault of a text: of its grammar, of its levels, or of its items
abbrev pub IsFaulty : Option ℤ → List ℕ → Fault → Type 0
IsFaulty bound text fault = IsUnfit text fault ⊎ IsNestedTooDeep text fault ⊎ IsMissed bound text fault

abbrev pub IsRefusal : Option ℤ → List ℕ → Stop → Type 0
IsRefusal bound text (Refused fault) = IsFaulty bound text fault
IsRefusal bound text Memory = Unit {0}

-- the fault of a text of this size that was not read
abbrev pub stop_of : Halt → ℕ → Stop
stop_of halts.Memory size = Memory
stop_of (halts.Fault (unfit.Misfit left)) size = Refused (record { kind = Syntax; place = size - left })
stop_of (halts.Fault (unfit.Deep left)) size = Refused (record { kind = Depth; place = size - left })

-- with one bound a text is read as one model, or has one fault
pub record OneReading : Type 0 where
  pub models : (bound : Option ℤ) (text : List ℕ) (m n : Model) → Spells bound text m → Spells bound text n → m ≡ n
  pub faults : (bound : Option ℤ) (text : List ℕ) (f g : Fault) → IsFaulty bound text f → IsFaulty bound text g → f ≡ g
  pub apart : (bound : Option ℤ) (text : List ℕ) (m : Model) (f : Fault) → Spells bound text m → IsFaulty bound text f → ⊥

-- what a text is read as without a bound is what it denotes
abbrev pub DenotesLaw : Type 0
DenotesLaw = (text : List ℕ) (m : Model) → Spells None text m → Denotes text m

-- what a text is read as is sound and within the counts
abbrev pub SoundReading : Type 0
SoundReading = (bound : Option ℤ) (text : List ℕ) (m : Model) → IsBound bound → Spells bound text m → IsSound m × IsCounted m
