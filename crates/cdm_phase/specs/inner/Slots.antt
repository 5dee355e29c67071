use Rattle.std.specs.Prelude.{ℕ, ◌<◌, List, length, Option, IfSome, slice_index_or, Contains}
use Rattle.std.specs.declared.vec.Vec.{Vec}
use Rattle.std.specs.declared.alloc.Global.{Global}
use Rattle.cdm_phase.specs.declared.piece.Piece.{Piece}

-- what stands in slot n, if anything does, is what one of the pieces with the number n has
pub record AreSlotsOf {Y : Type 0} (pieces : List (Piece Y)) (slots : List (Option (Vec Y Global))) : Type 0 where
  pub from_pieces : (n : ℕ) (d : Option (Vec Y Global)) → n < length slots
      → IfSome (slice_index_or slots n d) (λ outs. Contains pieces (record { number = n; outs = outs }))
