-- What is known of fields and expressions while their items are counted.
use Rattle.std.specs.Prelude.{ℕ, List, length, map, sum, Result, Ok, Err}
use Rattle.xf_num.specs.Span.{Bounds}
use Rattle.xf_text.specs.declared.fault.Kind.{Kind}
use Rattle.xs_judge.specs.declared.nodes.Counted.{Counted}
use Rattle.xs_judge.specs.declared.total.Total.{Total}
use Rattle.xs_model.specs.Fields.{Item, Field}
use Rattle.xs_model.specs.Formed.{total, count_in}
use Rattle.xs_model.specs.Magnitude.{Weight, capped, field_magnitude, item_magnitude}

-- so great a sum of the magnitudes of so many items
abbrev pub measured : ℕ → ℕ → Total
measured m n = record { sum = capped m; items = capped n }

abbrev pub weight_of_items : List Bounds → List Item → Total
weight_of_items spans is = measured (total (map (item_magnitude spans) is)) (length is)

abbrev pub weight_of_fields : List Bounds → List Field → Total
weight_of_fields spans fs = measured (total (map (field_magnitude spans) fs)) (count_in fs)

-- nodes of these magnitudes
abbrev pub totalled : List ℕ → Total
totalled ms = record { sum = capped (sum ms); items = capped (length ms) }

abbrev pub counted_as : Result Bounds Kind → List ℕ → Result Counted Kind
counted_as (Ok b) ms = Ok (record { span = b; total = totalled ms })
counted_as (Err k) ms = Err k

abbrev pub counted_of : Weight → Result Counted Kind
counted_of w = counted_as w.bounds w.nodes
