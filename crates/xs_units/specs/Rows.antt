-- The rows of the table as the code holds them.
use Rattle.std.specs.Prelude.{List, map}
use Rattle.xs_units.specs.Forms.{AttributeRow}
use Rattle.xs_units.specs.declared.forms.Attribute.{Attribute}

abbrev pub row_of : Attribute → AttributeRow
row_of a = record { owner = a.owner.now; name = a.name.now; words = a.words.now }

abbrev pub rows_of : List Attribute → List AttributeRow
rows_of rows = map row_of rows
