-- What a text is read as: an instance of XCSP3-core, or the fault for which it is refused.
use Rattle.std.specs.Prelude.{◌≡◌, ◌⊎◌, ℕ, Bool, true, false, List, Ok, Err}
use Rattle.xf_markup.specs.declared.tree.Node.{Node}
use Rattle.xf_markup.specs.Reading.{IsTooDeep, IsUnread, ShallowTree, Tree}
use Rattle.xf_text.specs.declared.fault.Fault.{Fault}
use Rattle.xf_text.specs.declared.fault.Kind.TheVariants.{Depth, Syntax}
use Rattle.xf_text.specs.declared.fault.Stop.{Stop}
use Rattle.xf_text.specs.declared.fault.Stop.TheVariants.{Memory, Refused}
use Rattle.xs_model.specs.Accepted.{IsAccepted}
use Rattle.xs_model.specs.declared.instance.Instance.{Instance}
use Rattle.xs_file.specs.Sections.{Progress, instance_of, instance_outcome}

-- the tree of a text, where limits are asked of at most 200 levels
abbrev pub IsTree : Bool → Node → List ℕ → Type 0
IsTree true n text = ShallowTree n text
IsTree false n text = Tree n text

-- the text has such a tree, no unit of which misses a condition that is asked, and the instance is what it declares and
-- constrains, with its objective
pub record Reads (limits : Bool) (text : List ℕ) (i : Instance) : Type 0 where
  pub root : Node
  pub read : Progress
  pub tree : IsTree limits root text
  pub meets : instance_outcome limits root ≡ Ok read
  pub instance : i ≡ instance_of read

-- what a text is read as
abbrev pub Spells : List ℕ → Instance → Type 0
Spells text i = Reads true text i

-- what a text denotes: neither its levels nor counts nor the magnitude of a whole constraint are asked
abbrev pub Denotes : List ℕ → Instance → Type 0
Denotes text i = Reads false text i

-- the text has such a tree, and this is the fault of the first unit that misses a condition
pub record IsMissed (text : List ℕ) (fault : Fault) : Type 0 where
  pub root : Node
  pub tree : ShallowTree root text
  pub misses : instance_outcome true root ≡ Err fault

-- the text is no markup from here on
pub record IsNoMarkup (text : List ℕ) (fault : Fault) : Type 0 where
  pub kind : fault.kind ≡ Syntax
  pub place : IsUnread fault.place text

-- level 201 is opened here
pub record IsNestedTooDeep (text : List ℕ) (fault : Fault) : Type 0 where
  pub kind : fault.kind ≡ Depth
  pub place : IsTooDeep fault.place text

-- the fault of a text: of its markup, of its levels, or of the first unit that misses a condition
abbrev pub IsFaulty : List ℕ → Fault → Type 0
IsFaulty text fault = IsNoMarkup text fault ⊎ IsNestedTooDeep text fault ⊎ IsMissed text fault

abbrev pub IsRefusal : List ℕ → Stop → Type 0
IsRefusal text (Refused fault) = IsFaulty text fault
IsRefusal text Memory = Unit {0}

-- a text spells one instance, or has one fault
pub record OneReading : Type 0 where
  pub instances : (text : List ℕ) (i j : Instance) → Spells text i → Spells text j → i ≡ j
  pub faults : (text : List ℕ) (f g : Fault) → IsFaulty text f → IsFaulty text g → f ≡ g
  pub apart : (text : List ℕ) (i : Instance) (f : Fault) → Spells text i → IsFaulty text f → ⊥

-- what a text spells it denotes, and it denotes one instance
pub record OneDenoted : Type 0 where
  pub spelt : (text : List ℕ) (i : Instance) → Spells text i → Denotes text i
  pub instances : (text : List ℕ) (i j : Instance) → Denotes text i → Denotes text j → i ≡ j

-- what a text spells is sound, and within the limits on what is read
abbrev pub SpeltIsAccepted : Type 0
SpeltIsAccepted = (text : List ℕ) (i : Instance) → Spells text i → IsAccepted i
