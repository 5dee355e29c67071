-- The refused records of a feed, from the replies to its updates.
use Rattle.cdm_files.proofs.Words.{◌≡◌, ◌+◌, ℕ, List, [], ◌∷◌, Option, None, Some, Ok, Err, refl, map, after_one, refusal, replies_to}
use Rattle.cdm_files.proofs.Words.{AirportRows, Update, RefusalWord}
use Rattle.cdm_files.specs.Refused.{Spelled, own_words, refused_by_replies, refused_in, updates_in, word_in}
use Rattle.cdm_day.specs.Replies.{reply_of}

word_in-reply : (word : Option RefusalWord) → word_in (reply_of word) ≡ word
word_in-reply None = refl
word_in-reply (Some word) = refl

-- they are those of the definition, where the replies are those of the day
pub refused_by_day : (g : AirportRows) (a : List Update) (number : ℕ) (parsed : List Spelled)
    → refused_by_replies number (own_words parsed) (map reply_of (replies_to g a (updates_in parsed))) ≡ refused_in g a number parsed
unfolding updates_in replies_to refused_in refused_by_replies
refused_by_day g a number [] = refl
refused_by_day g a number (Err word ∷ later) = cc (refused_by_day g a (number + 1) later)
refused_by_day g a number (Ok p ∷ later) = cc (word_in-reply (refusal g a p.0 p.1), refused_by_day g (after_one g a p) (number + 1) later)
