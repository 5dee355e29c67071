-- Scenarios and what comes of them, place by place.
use Rattle.std.proofs.{Common.◌≡◌, Common.ℕ, Common.List, Common.Some, lemmas.Slice.Zip.AllZip-left}
use Rattle.std.specs.{List.AllZip, List.slice_get, Option.IsSomeAnd}

-- what holds place by place holds of the items of a place
pub zip_at : {A B : Type 0} (R : A → B → Type 0) (xs : List A) (ys : List B) (k : ℕ) (x : A) (y : B) → AllZip R xs ys
    → slice_get xs k ≡ Some x → slice_get ys k ≡ Some y → R x y
zip_at R xs ys k x y all first second =
    let here : IsSomeAnd (slice_get ys k) (R x) = rw first at (AllZip-left R xs ys all k) in
    rw second at here
