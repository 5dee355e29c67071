-- Writes that stopped in their midst.
use Rattle.std.proofs.Common.{◌≡◌, ℕ, List, [], ◌∷◌, ◌++◌, ◌∙◌, map, take, drop, refl, sym, ap, inl, inr, Option, None, Some, Result, Ok}
use Rattle.std.{proofs.Common.{Err, OnErr, OnOk}, proofs.lemmas.List.{map-append, take-append-drop}, specs.Io.KnownBytes.{Appends, Keeps}}
use Rattle.cdm_port.specs.{Event.Event.{Appended, Renamed, Replied, Synced}, Notes.noted, Stop.Stops}
use Rattle.cdm_port.specs.declared.happening.Happening.{Happening}
use Rattle.cdm_port.specs.declared.happening.Happening.TheVariants as happening

abbrev Notes : Type 0
Notes = List (Happening × List ℕ)

pub one_more : (before after : Notes) (note : Happening × List ℕ) → after ≡ before ++ note ∷ [] → map noted after ≡ map noted before ++ noted note ∷ []
one_more before after note is = ap (map noted) is ∙ map-append noted before (note ∷ [])

-- the first part of an append is noted
pub append_torn : (n : ℕ) (bytes : List ℕ) (before after : Notes) → after ≡ before ++ (happening.Appended, take n bytes) ∷ []
    → Stops (map noted before) (Appended bytes ∷ []) (map noted after)
append_torn n bytes before after is =
    (Appended (take n bytes) ∷ [], inr (inl (take n bytes, (drop n bytes, sym (take-append-drop n bytes)), refl)), one_more before after (happening.Appended, take n bytes) is)

-- and that of a reply
pub reply_torn : (n : ℕ) (bytes : List ℕ) (before after : Notes) → after ≡ before ++ (happening.Replied, take n bytes) ∷ []
    → Stops (map noted before) (Replied bytes ∷ []) (map noted after)
reply_torn n bytes before after is =
    (Replied (take n bytes) ∷ [], inr (inl (take n bytes, (drop n bytes, sym (take-append-drop n bytes)), refl)), one_more before after (happening.Replied, take n bytes) is)

-- a new file was renamed over the journal, and no more
pub renamed_alone : (bytes : List ℕ) (before after : Notes) → after ≡ before ++ (happening.Renamed, bytes) ∷ []
    → Stops (map noted before) (Renamed bytes ∷ Synced ∷ []) (map noted after)
renamed_alone bytes before after is = (Renamed bytes ∷ [], inr (inr ([], refl, inl refl)), one_more before after (happening.Renamed, bytes) is)

-- what was written stays
pub appends_kept : (before here after : Option (List ℕ)) (bytes : List ℕ) → Appends before here bytes → Keeps here after → Appends before after bytes
appends_kept None here after bytes written kept = tt
appends_kept (Some xs) None after bytes written kept = absurd written
appends_kept (Some xs) (Some ys) None bytes written kept = absurd kept
appends_kept (Some xs) (Some ys) (Some zs) bytes written kept = kept ∙ written

pub on_err : {T E P : Type 0} (r : Result T E) → P → OnErr r P
on_err (Ok x) p = tt
on_err (Err y) p = p

pub on_ok : {T E P : Type 0} (r : Result T E) → P → OnOk r P
on_ok (Ok x) p = p
on_ok (Err y) p = tt
