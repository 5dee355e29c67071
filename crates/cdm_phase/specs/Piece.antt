use Rattle.std.specs.Prelude.{ℕ, ◌*◌, ◌<◌, List, length, take, drop}
use Rattle.std.specs.List.{AllZip}
use Rattle.cdm_phase.specs.declared.piece.Piece.{Piece}

-- the items of piece n: those from n * grain on, at most `grain` of them
abbrev pub items_of : {X : Type 0} → List X → ℕ → ℕ → List X
items_of items grain n = take grain (drop (n * grain) items)

-- the piece is one of those into which the items are cut, and it has the values of its items
pub record IsPieceOf {X Y : Type 0} (gives : X → Y → Type 0) (items : List X) (grain : ℕ) (piece : Piece Y) : Type 0 where
  pub exists : piece.number * grain < length items
  pub values : AllZip gives (items_of items grain piece.number) piece.outs.items
