-- The members of the lines of a check, written token by token.
use Rattle.std.{proofs.Common.{◌≡◌, ◌++◌, ℕ, List, refl}, specs.Prelude.{codes, flat_map}}
use Rattle.json.specs.Json.{string}
use Rattle.cdm_row.specs.Json.{count_json, member_tokens}
use Rattle.cdm_check.specs.Check.{hint_members, last_members, place_members}

pub place_tokens : (path : List ℕ) (line number : ℕ) → flat_map member_tokens (place_members path line number)
    ≡ member_tokens (codes "path", string path) ++ (member_tokens (codes "line", count_json line) ++ member_tokens (codes "record", count_json number))
place_tokens path line number = refl

pub hint_tokens : (path hint : List ℕ) → flat_map member_tokens (hint_members path hint)
    ≡ member_tokens (codes "path", string path) ++ member_tokens (codes "hint", string hint)
hint_tokens path hint = refl

pub last_tokens : (records refused : ℕ) → flat_map member_tokens (last_members records refused)
    ≡ member_tokens (codes "records", count_json records) ++ member_tokens (codes "refused", count_json refused)
last_tokens records refused = refl
