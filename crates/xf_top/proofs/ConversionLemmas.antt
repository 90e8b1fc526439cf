-- The text of a lowered instance is a conversion of it.
use Rattle.std.proofs.Common.{refl}
use Rattle.fz_again.specs.Tree.{WrittenAgain, WrittenAlone}
use Rattle.fz_file.specs.Layout.{layout}
use Rattle.xf_carry.specs.Lowered.{low, LowExtends, LowExtendsOnce, LowSize, LowSound}
use Rattle.xf_course.specs.Course.{Owes}
use Rattle.xf_course.specs.declared.course.Standing.TheVariants.{Met}
use Rattle.xs_model.specs.declared.instance.Instance.{Instance}
use Rattle.xs_model.specs.Accepted.{IsAccepted}
use Rattle.xf_top.specs.Promises.{IsConversion, IsConverted}

-- the laws of the model that an instance is lowered to
pub record Laws : Type 0 where
  pub sound : LowSound
  pub again : WrittenAgain
  pub alone : WrittenAlone
  pub extends : LowExtends
  pub once : LowExtendsOnce
  pub size : LowSize

conversion : Laws → (i : Instance) → IsAccepted i → IsConversion i (layout (low i))
conversion laws i h =
    let sound = laws.sound i h in
    record {
      model = low i;
      written = refl;
      denotes = laws.again (low i) sound;
      alone = λ other d. laws.alone (low i) other sound d;
      sound = sound;
      extends = laws.extends i h.sound;
      once = laws.once i h.sound;
      small = laws.size i h.sound;
    }

pub converted : Laws → (i : Instance) → IsAccepted i → IsConverted i (Owes Met (layout (low i)))
converted laws i h = (layout (low i), refl, conversion laws i h)
