-- The laws of sound constraints.
use Rattle.std.proofs.Common.{ℕ, ℤ, Bool, List, Option, length}
use Rattle.xf_num.specs.Span.{Bounds}
use Rattle.lo_base.specs.Formed.{AreIntegers}
use Rattle.lo_base.specs.Item.{Item}
use Rattle.lo_rules.specs.Laws.{IsLowered}
use Rattle.lo_rules.specs.Rule.{Always}
use Rattle.lo_tables.specs.Laws.{AreBounded, SoundExtensionLowered, SoundUnaryLowered}
use Rattle.lo_tables.proofs.TableLemmas.{extension_lowered}
use Rattle.lo_tables.proofs.UnaryLemmas.{unary_lowered}
use Rattle.xs_model.specs.Spans.{BeginsWithin}

-- what holds of any values does of those within bounds
within : (ss : List Bounds) (P : List ℤ → Type 0) (n : ℕ) (xs : List Item) (w : ℕ) → IsLowered Always P (AreIntegers (length ss)) n xs w → IsLowered (BeginsWithin ss) P (AreBounded ss) n xs w
within ss P n xs w r = record {
  means = record { sound = λ a c len room inside h. r.means.sound a c len room tt h; complete = λ a len inside p. r.means.complete a len tt p };
  stepwise = r.stepwise;
  before = r.before;
  size = r.size;
  formed = λ booleans long kinds. r.formed booleans long kinds.0;
}

pub sound_extension_lowered : SoundExtensionLowered
sound_extension_lowered ss n list tuples positive sound le = within ss _ n _ _ (extension_lowered (length ss) n list tuples positive sound.formed le)

pub sound_unary_lowered : SoundUnaryLowered
sound_unary_lowered ss n v spans positive sound le = within ss _ n _ _ (unary_lowered (length ss) n v spans positive sound.formed le)
