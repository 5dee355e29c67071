-- Members, one after another.
use Rattle.cdm_table.proofs.Words.{◌≡◌, ◌++◌, ℕ, refl, codes, flat_map, string, RefusalWord, count_json, member_tokens}
use Rattle.cdm_table.specs.Plans.{refusal_members}
use Rattle.cdm_flight.specs.Words.{text_of}

pub refusal_tokens : (number : ℕ) (word : RefusalWord) → flat_map member_tokens (refusal_members number word)
    ≡ member_tokens (codes "update", count_json number) ++ member_tokens (codes "word", string (text_of word))
refusal_tokens number word = refl
