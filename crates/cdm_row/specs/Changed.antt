-- The Rows that changed from one day to another.
use Rattle.std.specs.Prelude.{◌≡◌, ℕ, Bool, not, List, Option, filter}
use Rattle.std.specs.List.{find, list_any}
use Rattle.std.specs.Option.{option_or}
use Rattle.cdm_flight.specs.Names.{same_name}
use Rattle.cdm_row.specs.contracts.row.RowPartialEq.TheImpl as row_eq
use Rattle.cdm_row.specs.declared.row.Row.{Row}

-- the two are one Row, column by column
abbrev pub same_row : Row → Row → Bool
same_row a b = (row_eq.ghosts).eq a b

-- one of the Rows is this one
abbrev pub has_row : List Row → Row → Bool
has_row rows row = list_any (λ r. same_row r row) rows

-- the Rows after that weren't there before: of each flight that has another Row than before, or had none
abbrev pub changed_rows : List Row → List Row → List Row
changed_rows before after = filter (λ row. not (has_row before row)) after

-- the Row of a flight, if it has one
abbrev pub row_named : List Row → List ℕ → Option Row
row_named rows name = find (λ row. same_name row.flight name) rows

-- who had Rows and puts others over them: a flight's Row of those, else the one that he had
abbrev pub row_put_over : List Row → List Row → List ℕ → Option Row
row_put_over had changed name = option_or (row_named changed name) (row_named had name)

-- who puts these over the Rows that he had has the Rows after
abbrev pub Suffice : List Row → List Row → List Row → Type 0
Suffice had changed after = (name : List ℕ) → row_put_over had changed name ≡ row_named after name
