-- Numbers in texts.
use Rattle.std.specs.Prelude.{ℕ, ◌+◌, ◌-◌, ◌*◌, ◌/◌, ◌%◌, Bool, List, [], ◌∷◌}
use Rattle.std.specs.Char.{is_ascii_digit}
use Rattle.std.specs.List.{fold, list_all}
use Rattle.std.specs.Str.{byte}

-- all bytes are digits
unfoldable pub are_digits : List ℕ → Bool
are_digits text = list_all is_ascii_digit text

-- the number that digits spell
unfoldable pub number_in : List ℕ → ℕ
number_in text = fold (λ n b. 10 * n + (b - byte "0")) 0 text

-- a number below 100 in two digits
abbrev pub two_digits : ℕ → List ℕ
two_digits n = (byte "0" + n / 10) ∷ (byte "0" + n % 10) ∷ []
