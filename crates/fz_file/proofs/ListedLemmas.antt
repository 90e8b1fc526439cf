-- Texts with commas between them, the first of which may stand already.
use Rattle.std.proofs.Common.{ℕ, List, Bool, true, false}
use Rattle.fz_file.specs.Layout.{commas, listed}

-- what is due of the texts: the first without a comma where it is the first of all
abbrev pub listed_after : Bool → List (List ℕ) → List ℕ
listed_after true ts = listed ts
listed_after false ts = commas ts
