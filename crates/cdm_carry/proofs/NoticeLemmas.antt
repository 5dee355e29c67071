-- The windows of the records that notices tell.
use Rattle.std.proofs.Common.{◌≡◌, ◌<◌, ◌+◌, ◌++◌, ℕ, subst, Bool, true, false, All, List, [], ◌∷◌, Option, None, Some, refl, arith}
use Rattle.std.proofs.lemmas.List.Elements.{All-append, All-cons, All-head, All-nil, All-tail}
use Rattle.std.specs.{List.{cons_option, filter_map}, Option.{option_and_then, option_map}, Prelude.{filter, flat_map, length, nat_lt, if◌then◌else◌}}
use Rattle.cdm_flight.specs.{Accepted.{after_one, refusal}, Journal.AirportRows}
use Rattle.cdm_flight.specs.declared.{flight.Flight.Flight, flight.Status.Status, update.Update.Update, word.RefusalWord.RefusalWord}
use Rattle.cdm_flight.specs.declared.flight.Status.TheVariants.{OffBlock}
use Rattle.cdm_carry.specs.{NoticeTexts.notice_end, Notices.{Numbered, carried_numbered, counts, earlier, early, is_gone, left, left_by, notices, refused, refused_of, stays_by}, Texts.window_end}
use Rattle.cdm_carry.specs.declared.notice.Notice.{Notice}
use Rattle.cdm_carry.specs.declared.notice.Notice.TheVariants.{Left, EarlierTobt, EarlierCtot, Gone, Stay}

-- it is no record whose window ends with the horizon
abbrev pub Short : Notice → Type 0
Short n = notice_end n < 2880

-- a notice behind others, if there is one
cons_short : (o : Option Notice) (rest : List Notice) → ((n : Notice) → o ≡ Some n → Short n) → All Short rest → All Short (cons_option o rest)
cons_short None rest one others = others
cons_short (Some n) rest one others = All-cons Short n rest (one n refl) others

-- Flights.

left_is_short : (f : Flight) (s : Status) (runway : Option (List ℕ)) (n : Notice) → option_and_then (left_by f s) runway ≡ Some n → Short n
left_is_short f (OffBlock aobt exot) (Some r) n is = by (nat_lt aobt 1440) is
  where
    by : (b : Bool) → (if b then Some (Left f.name r aobt (aobt + exot)) else None) ≡ Some n → Short n
    by true e = let same : Left f.name r aobt (aobt + exot) ≡ n = cc e in subst Short same (omega arith)
    by false e = cc e
left_is_short f s None n is = cc is
left_is_short f s (Some r) n is = cc is

all_left : (fs : List Flight) → All Short (filter_map left fs)
all_left [] = All-nil Short
all_left (f ∷ fs) = cons_short (left f) (filter_map left fs) (left_is_short f f.status f.runway) (all_left fs)

tobt_is_short : (name : List ℕ) (o : Option ℕ) (n : Notice) → option_map (EarlierTobt name) o ≡ Some n → Short n
tobt_is_short name (Some m) n is = let same : EarlierTobt name m ≡ n = cc is in subst Short same (omega arith)
tobt_is_short name None n is = cc is

ctot_is_short : (name : List ℕ) (o : Option ℕ) (n : Notice) → option_map (EarlierCtot name) o ≡ Some n → Short n
ctot_is_short name (Some m) n is = let same : EarlierCtot name m ≡ n = cc is in subst Short same (omega arith)
ctot_is_short name None n is = cc is

earlier_short : (f : Flight) → All Short (earlier f)
unfolding earlier
earlier_short f =
    cons_short _ _ (tobt_is_short f.name (early f.status f.tobt)) (cons_short _ [] (ctot_is_short f.name (early f.status f.ctot)) (All-nil Short))

all_earlier : (fs : List Flight) → All Short (flat_map earlier fs)
all_earlier [] = All-nil Short
all_earlier (f ∷ fs) = All-append Short (earlier f) (flat_map earlier fs) (earlier_short f) (all_earlier fs)

-- Records.

refused_is_short : (r : Numbered) (o : Option RefusalWord) (n : Notice) → window_end r.1.1 < 2880 → option_map (refused r) o ≡ Some n → Short n
refused_is_short r (Some word) n short is = let same : refused r word ≡ n = cc is in subst Short same short
refused_is_short r None n short is = cc is

all_refused : (h : AirportRows) (b : List Update) (rs : List Numbered) → All (λ r. window_end r.1.1 < 2880) rs → All Short (refused_of h b rs)
unfolding refused_of
all_refused h b [] short = All-nil Short
all_refused h b (r ∷ rs) short =
    cons_short _ _ (λ n is. refused_is_short r (refusal h b r.1.0 r.1.1) n (All-head (λ q. window_end q.1.1 < 2880) r rs short) is)
    (all_refused h (after_one h b r.1) rs (All-tail (λ q. window_end q.1.1 < 2880) r rs short))

all_counts : (fs : List Flight) → All Short (counts fs)
all_counts fs =
    let gone : Notice = Gone (length (filter (λ f. is_gone f.status) fs)) in
    let stay : Notice = Stay (length (filter (λ f. stays_by f.status) fs)) in
    All-cons Short gone (stay ∷ []) (omega arith) (All-cons Short stay [] (omega arith) (All-nil Short))

-- All notices.

pub all_short : (fs : List Flight) (a : List Update) (records : List Numbered) (h : AirportRows)
    → All (λ r. window_end r.1.1 < 2880) (filter_map (carried_numbered a) records) → All Short (notices fs a records h)
unfolding notices
all_short fs a records h short =
    let refusals = refused_of h [] (filter_map (carried_numbered a) records) in
    let of_flights = All-append Short (filter_map left fs) (flat_map earlier fs) (all_left fs) (all_earlier fs) in
    let of_records = All-append Short (filter_map left fs ++ flat_map earlier fs) refusals of_flights (all_refused h [] (filter_map (carried_numbered a) records) short) in
    All-append Short (filter_map left fs ++ flat_map earlier fs ++ refusals) (counts fs) of_records (all_counts fs)
