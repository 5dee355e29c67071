-- Names are ASCII.
use Rattle.std.proofs.{lemmas.Grind.common_steps, Common.{◌≡◌, ℕ, ◌<◌, Bool, true, false, ◌&&◌, List, slice_index, IsTrue, arith, refl}}
use Rattle.std.specs.List.{list_all}
pub use Rattle.cdm_time.proofs.Ascii.{IsOk-from_utf8}
use Rattle.cdm_flight.specs.Names.{is_letter_or_digit, is_name}

pub both : (a b : Bool) → IsTrue (a && b) → (a ≡ true) × IsTrue b
both true b h = (refl, h)
both false b h = cc

-- letters and digits are ASCII
pub ascii-from_letters : (xs : List ℕ) → IsTrue (list_all is_letter_or_digit xs) → (k : ℕ) → slice_index xs k < 128
ascii-from_letters xs h k = grind (arith, common_steps)

-- what the test of a name says of its bytes
pub letters_of : (most : ℕ) (xs : List ℕ) → IsTrue (is_name most xs) → IsTrue (list_all is_letter_or_digit xs)
letters_of most xs h = (both _ _ h).1
