-- A feed is judged stretch by stretch.
use Rattle.cdm_files.proofs.Words.{◌≡◌, ◌<◌, ◌+◌, ℕ, suc, List, [], ◌∷◌, ◌++◌, Ok, Err, refl, sym, ap, length, map, arith, append_assoc}
use Rattle.cdm_files.proofs.Words.{append-nil, length-append, ◌≤◌, option_map, option_to_list, length-map, nil_from_length, accepted}
use Rattle.cdm_files.proofs.Words.{after_one, refusal, AirportRows, Update, RefusalWord, CalendarDate, DayRecord}
use Rattle.cdm_files.specs.{FeedDay.{accepted_in, refusals_in}, Parsing.parse_of, Records.records_of}
use Rattle.cdm_files.specs.Refused.{Spelled, refused_in, updates_in}

-- the journal after two stretches
pub accepted-both : (g : AirportRows) (a : List Update) (xs ys : List Spelled)
    → accepted g a (updates_in (xs ++ ys)) ≡ accepted g (accepted g a (updates_in xs)) (updates_in ys)
unfolding updates_in accepted
accepted-both g a [] ys = refl
accepted-both g a (Err word ∷ xs) ys = accepted-both g a xs ys
accepted-both g a (Ok p ∷ xs) ys = accepted-both g (after_one g a p) xs ys

-- the refused records of two stretches
pub refused-both : (g : AirportRows) (a : List Update) (n : ℕ) (xs ys : List Spelled)
    → refused_in g a n (xs ++ ys) ≡ refused_in g a n xs ++ refused_in g (accepted g a (updates_in xs)) (n + length xs) ys
unfolding updates_in accepted refused_in
refused-both g a n [] ys = let same : n ≡ n + 0 = omega arith in ap (λ (k : ℕ). refused_in g a k ys) same
refused-both g a n (Err word ∷ xs) ys =
    let same : n + 1 + length xs ≡ n + suc (length xs) = omega arith in cc (same, refused-both g a (n + 1) xs ys)
refused-both g a n (Ok p ∷ xs) ys =
    let same : n + 1 + length xs ≡ n + suc (length xs) = omega arith in
    let both = rw same at (refused-both g (after_one g a p) (n + 1) xs ys) in
    rw both (sym (append_assoc (option_to_list (option_map (λ (word : RefusalWord). (n, word)) (refusal g a p.0 p.1))) _ _))

-- how many records are left
pub fewer-left : {X Y : Type 0} (f : X → Y) (old new : List X) (parsed : List Y) → map f old ≡ parsed ++ map f new → length old ≡ length parsed + length new
fewer-left f old new parsed is = omega (arith, ap length is, length-map old f, length-append parsed (map f new), length-map new f)

-- a stretch that may hold all records leaves none
pub none-after : {X Y : Type 0} (f : X → Y) (old new : List X) (parsed : List Y) (most : ℕ) → length old ≤ most
    → map f old ≡ parsed ++ map f new → (length parsed < most → new ≡ []) → new ≡ []
none-after f old [] parsed most few split all = refl
none-after f old (x ∷ new) parsed most few split all = let fewer = fewer-left f old (x ∷ new) parsed split in all (omega (arith, few, fewer))

-- the records that are left of a feed tell, after those that were judged, what the whole feed tells
pub record IsLeft (g : AirportRows) (day : CalendarDate) (feed : List ℕ) (s : DayRecord) (refused : List (ℕ × RefusalWord)) (judged : ℕ) (left : List (List (List ℕ))) : Type 0 where
  pub airport : s.airport ≡ g
  pub count : judged + length left ≤ length feed
  pub journal : accepted_in g feed ≡ accepted g s.journal (updates_in (map (parse_of day) left))
  pub all : refusals_in g feed ≡ refused ++ refused_in g s.journal (judged + 1) (map (parse_of day) left)

pub all-left : (g : AirportRows) (day : CalendarDate) (feed : List ℕ) (s : DayRecord) (refused : List (ℕ × RefusalWord)) (left : List (List (List ℕ)))
    → day ≡ g.day → s ≡ record { airport = g; journal = [] } → refused ≡ [] → left ≡ records_of feed → length left ≤ length feed
    → IsLeft g day feed s refused 0 left
unfolding accepted_in refusals_in
all-left g day feed s refused left is fresh none all few =
    rw (fresh, none, all, is) (record { airport = refl; count = omega (arith, rw all at few); journal = refl; all = refl })

pub next-left : (g : AirportRows) (day : CalendarDate) (feed : List ℕ) (s t : DayRecord) (refused after : List (ℕ × RefusalWord)) (n m : ℕ)
    (old new : List (List (List ℕ))) (parsed : List Spelled) → IsLeft g day feed s refused n old
    → map (parse_of day) old ≡ parsed ++ map (parse_of day) new
    → t ≡ record s { journal = accepted s.airport s.journal (updates_in parsed) }
    → after ≡ refused ++ refused_in s.airport s.journal (n + 1) parsed → m ≡ n + length parsed
    → IsLeft g day feed t after m new
next-left g day feed s t refused after n m old new parsed left split made told more =
    let number : n + 1 + length parsed ≡ n + length parsed + 1 = omega arith in
    rw (made, told, more, left.airport) (record {
      airport = refl;
      count = omega (arith, left.count, fewer-left (parse_of day) old new parsed split);
      journal = rw (← accepted-both g s.journal parsed (map (parse_of day) new), ← split) left.journal;
      all = rw (append_assoc, ← number, ← refused-both g s.journal (n + 1) parsed (map (parse_of day) new), ← split) left.all;
    })

pub none-left : (g : AirportRows) (day : CalendarDate) (feed : List ℕ) (s : DayRecord) (refused : List (ℕ × RefusalWord)) (n : ℕ)
    (old new : List (List (List ℕ))) (parsed : List Spelled) → IsLeft g day feed s refused n old
    → map (parse_of day) old ≡ parsed ++ map (parse_of day) new → length parsed ≡ 0 → new ≡ []
    → (s ≡ record { airport = g; journal = accepted_in g feed }) × (refused ≡ refusals_in g feed)
unfolding accepted updates_in refused_in
none-left g day feed s refused n old new parsed left split none last =
    let ended = rw (nil_from_length parsed none, last) at split in
    ((λ i. record { airport = left.airport i; journal = sym (rw ended at left.journal) i }), sym (rw (ended, append-nil) at left.all))
