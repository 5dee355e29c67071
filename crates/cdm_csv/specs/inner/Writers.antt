-- A writer of rows into a vector.
use Rattle.std.specs.Prelude.{◌≡◌, ℕ, false, List, []}
use Rattle.std.specs.declared.alloc.Global.{Global}
use Rattle.std.specs.declared.vec.Vec.{Vec}
use Rattle.csv.specs.Writing.{default_writer, fields_written, has_written, writer_pending, writer_setup, writer_under}
use Rattle.csv.specs.declared.writer.Writer.{Writer}

-- what the vector holds
abbrev pub written : Writer (Vec ℕ Global) → List ℕ
written writer = (writer_under writer).items

-- the writer writes with the crate's defaults, stands between two rows, and has put all of them into the vector
pub record IsBetweenRows (writer : Writer (Vec ℕ Global)) : Type 0 where
  pub setup : writer_setup writer ≡ default_writer
  pub fields : fields_written writer ≡ 0
  pub wrote : has_written writer ≡ false
  pub pending : writer_pending writer ≡ []
