-- ASCII bytes are text.
use Rattle.std.proofs.{Common.{ℕ, List, Result, Ok, Err, IsOk, MatchResult, rules}, lemmas.Str.IsUtf8-from_ascii}
use Rattle.std.specs.Str.{IsAscii, IsUtf8}

-- what reads bytes as text doesn't fail on ASCII
pub IsOk-from_utf8 : {T E : Type 0} (bytes : List ℕ) (P : T → Type 0) (Q : E → Type 0) (r : Result T E) → MatchResult r P (λ e. ¬ (IsUtf8 bytes) × Q e)
    → IsAscii bytes → IsOk r
IsOk-from_utf8 bytes P Q (Ok text) cases ascii = search rules
IsOk-from_utf8 bytes P Q (Err e) cases ascii = absurd (cases.0 (IsUtf8-from_ascii bytes ascii))
