-- Rows as CSV.
use Rattle.std.specs.Prelude.{ℕ, List, flat_map}
use Rattle.csv.specs.Writing.{default_writer, row_text}

-- rows as `csv` writes them
abbrev pub csv_text : List (List (List ℕ)) → List ℕ
csv_text rows = flat_map (row_text default_writer) rows
