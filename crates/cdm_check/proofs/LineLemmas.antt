-- The lines of findings and of hints, one after another.
use Rattle.std.proofs.Common.{◌≡◌, ◌≤◌, ◌<◌, ◌+◌, ◌%◌, ◌^◌, ◌∙◌, ◌++◌, ◌&&◌, ℕ, zero, suc, Bool, true, false, cond, codes, List, [], ◌∷◌}
use Rattle.std.proofs.Common.{length, take, drop, map, get_or, refl, sym, ap, subst, arith, filter, length-append, append_assoc, Result, Ok}
use Rattle.std.proofs.{Common.Err, lemmas.Grind.common_steps}
use Rattle.std.proofs.lemmas.List.{append-nil, length-map, map_more, take-append-drop, take-append-le, take-map, take_all}
use Rattle.std.proofs.lemmas.List.{Elements.{All-append, All-cons, All-nil}, Folds.{concat-append, list_all-append}}
use Rattle.std.proofs.lemmas.{Bool.Decides.nat_tests, Fmt.{decimal_by_steps, length-decimal-le}, Nat.mod_below, Str.IsUtf8-from_ascii}
use Rattle.std.specs.{Fmt.decimal, List.{concat, list_all}, Str.{IsAscii, IsUtf8}}
use Rattle.cdm_phase.proofs.Values.{AllZip-append}
use Rattle.cdm_flight.specs.declared.word.RefusalWord.{RefusalWord}
use Rattle.cdm_kinds.specs.declared.format.Format.{Format}
use Rattle.cdm_check.specs.Check.{AreHintsOf, AreLinesOf, IsHintOf, IsLineOf, IsSentence, IsStanding, finding_line, is_printable}
use Rattle.cdm_check.specs.Findings.{Finding, fault_at, finding}

-- Sentences.

all-filter : (p : ℕ → Bool) (xs : List ℕ) → list_all p (filter p xs) ≡ true
all-filter p [] = refl
all-filter p (x ∷ xs) = at (p x) refl (all-filter p xs)
  where
    at : (b : Bool) → p x ≡ b → list_all p (filter p xs) ≡ true → list_all p (cond b (x ∷ filter p xs) (filter p xs)) ≡ true
    at true is rest = rw (is, rest)
    at false is rest = rest

both : (a b : Bool) → (a && b) ≡ true → (a ≡ true) × (b ≡ true)
both true b h = (refl, h)
both false b h = cc

all-take : (p : ℕ → Bool) (n : ℕ) (xs : List ℕ) → list_all p xs ≡ true → list_all p (take n xs) ≡ true
all-take p n xs all =
    (both (list_all p (take n xs)) (list_all p (drop n xs)) (sym (list_all-append p (take n xs) (drop n xs)) ∙ ap (list_all p) (take-append-drop n xs) ∙ all)).0

short-take : (n : ℕ) (xs : List ℕ) → length (take n xs) ≤ n
short-take n xs = grind (arith, common_steps)

below_128 : (b : ℕ) → is_printable b ≡ true → b < 128
below_128 b h = grind (arith, nat_tests)

printable-ascii : (xs : List ℕ) → list_all is_printable xs ≡ true → IsAscii xs
printable-ascii [] all k = omega arith
printable-ascii (x ∷ xs) all zero = below_128 x (both (is_printable x) _ all).0
printable-ascii (x ∷ xs) all (suc k) = printable-ascii xs (both (is_printable x) _ all).1 k

-- a sentence is ASCII
pub sentence-utf8 : (text : List ℕ) → IsSentence text → IsUtf8 text
sentence-utf8 text is = IsUtf8-from_ascii text (printable-ascii text is.printable)

-- the first printable bytes of a text are a sentence
pub cut_sentence : (text : List ℕ) → IsSentence (take 160 (filter is_printable text))
cut_sentence text =
    let kept = filter is_printable text in
    record { printable = all-take is_printable 160 kept (all-filter is_printable text); short = short-take 160 kept }

-- Hints that stand for all records of a file.

digit-printable : (d : ℕ) → d < 10 → list_all is_printable ((48 + d) ∷ []) ≡ true
digit-printable d h = grind (arith, nat_tests)

all-both : (p : ℕ → Bool) (xs ys : List ℕ) → list_all p xs ≡ true → list_all p ys ≡ true → list_all p (xs ++ ys) ≡ true
all-both p xs ys x y = list_all-append p xs ys ∙ rw (x, y)

number-printable : (n : ℕ) → n < 2 ^ 64 → list_all is_printable (decimal n) ≡ true
number-printable = decimal_by_steps (λ n ds. list_all is_printable ds ≡ true) digit-printable
    (λ n ds big so_far. all-both is_printable ds ((48 + n % 10) ∷ []) so_far (digit-printable (n % 10) (mod_below n 10 (omega arith))))

length-of_four : (w x y z : List ℕ) → length (concat (w ∷ x ∷ y ∷ z ∷ [])) ≡ length w + (length x + (length y + length z))
length-of_four w x y z =
    length-append w (x ++ (y ++ (z ++ [])))
    ∙ ap (λ (n : ℕ). length w + n) (length-append x (y ++ (z ++ []))
    ∙ ap (λ (n : ℕ). length x + n) (length-append y (z ++ []) ∙ ap (λ (xs : List ℕ). length y + length xs) (append-nil z)))

-- the first printable bytes of a text, with the number of the records behind them, are such a hint
pub standing_hint : (text : List ℕ) (records : ℕ) → records ≤ 8388608
    → IsSentence (concat (take 130 (filter is_printable text) ∷ codes " (all " ∷ decimal records ∷ codes " records refused)" ∷ []))
standing_hint text records few =
    let kept = filter is_printable text in
    let words = take 130 kept in
    let small : records < 2 ^ 64 = omega (arith, few) in
    let digits : length (decimal records) ≤ 7 = length-decimal-le 7 records (omega arith) (omega (arith, few)) small in
    let front : list_all is_printable words ≡ true = all-take is_printable 130 kept (all-filter is_printable text) in
    let end : List ℕ = codes " records refused)" ++ [] in
    let before : length (codes " (all ") ≡ 6 = refl in
    let behind : length (codes " records refused)") ≡ 17 = refl in
    let count = length-of_four words (codes " (all ") (decimal records) (codes " records refused)") in
    let cut : length words ≤ 130 = short-take 130 kept in
    record {
      printable =
          all-both is_printable words (codes " (all " ++ (decimal records ++ end)) front
          (all-both is_printable (codes " (all ") (decimal records ++ end) refl
          (all-both is_printable (decimal records) end (number-printable records small) refl));
      short = omega (arith, count, before, behind, cut, digits);
    }

-- such printable bytes are a text
pub cut_utf8 : (n : ℕ) (text : List ℕ) → IsUtf8 (take n (filter is_printable text))
cut_utf8 n text = IsUtf8-from_ascii _ (printable-ascii _ (all-take is_printable n _ (all-filter is_printable text)))

pub is_standing : (text words sentence : List ℕ) (records : ℕ) → records ≤ 8388608 → words ≡ take 130 (filter is_printable text)
    → sentence ≡ concat (words ∷ codes " (all " ∷ decimal records ∷ codes " records refused)" ∷ []) → IsStanding records sentence
is_standing text words sentence records few cut is =
    let whole = is ∙ ap (λ (w : List ℕ). concat (w ∷ codes " (all " ∷ decimal records ∷ codes " records refused)" ∷ [])) cut in
    record { words = words; of_words = subst IsSentence (sym whole) (standing_hint text records few); bytes = is }

-- Lines of findings.

-- a line with a sentence, in the format that is asked for
pub told_line : (format told : Format) (f : Finding) (line : ℕ) (sentence given text : List ℕ) → format ≡ told → given ≡ sentence
    → IsSentence sentence → text ≡ finding_line told f line given → IsLineOf format f text
told_line format told f line sentence given text as_asked same words is = record {
  line = line;
  sentence = sentence;
  of_words = words;
  bytes = is ∙ (λ i. finding_line (sym as_asked i) f line (same i));
}

module _ (format : Format) where
  pub no_lines : AreLinesOf format [] []
  no_lines = record { lines = []; each = tt; bytes = refl }

  pub one_line : (f : Finding) (text : List ℕ) → IsLineOf format f text → AreLinesOf format (f ∷ []) text
  one_line f text line = record { lines = text ∷ []; each = (line, tt); bytes = sym (append-nil text) }

  -- more lines behind others
  pub more_lines : (found also : List Finding) (x y : List ℕ) → AreLinesOf format found x → AreLinesOf format also y → AreLinesOf format (found ++ also) (x ++ y)
  more_lines found also x y a b = record {
    lines = a.lines ++ b.lines;
    each = AllZip-append (IsLineOf format) found also a.lines b.lines a.each b.each;
    bytes = (λ i. a.bytes i ++ b.bytes i) ∙ sym (concat-append a.lines b.lines);
  }

  -- the line of the next refused record of a feed
  pub next_line : (path : List ℕ) (refused : List (ℕ × RefusalWord)) (i : ℕ) (d : ℕ × RefusalWord) (x line : List ℕ) → i < length refused
      → AreLinesOf format (map (finding path) (take i refused)) x → IsLineOf format (finding path (get_or refused i d)) line
      → AreLinesOf format (map (finding path) (take (i + 1) refused)) (x ++ line)
  next_line path refused i d x line within so_far here =
      let before = map (finding path) (take i refused) in
      let longer : map (finding path) (take (i + 1) refused) ≡ before ++ finding path (get_or refused i d) ∷ [] = map_more (finding path) refused i d within in
      subst (λ (found : List Finding). AreLinesOf format found (x ++ line)) (sym longer) (more_lines _ _ _ _ so_far (one_line _ _ here))

  -- the lines of the first findings, where there is room for those behind the feed's
  pub with_room : (n : ℕ) (path : List ℕ) (refused : List (ℕ × RefusalWord)) (also : List Finding) (x y : List ℕ) → length refused < n → length also ≤ 1
      → AreLinesOf format (map (finding path) (take n refused)) x → AreLinesOf format also y → AreLinesOf format (take n (map (finding path) refused ++ also)) (x ++ y)
  with_room n path refused also x y room one told behind =
      let feed = map (finding path) refused in
      let front : take n refused ≡ refused = take_all n refused (omega arith) in
      let count : length (feed ++ also) ≤ n = grind (arith, common_steps, room, one) in
      let whole : take n (feed ++ also) ≡ feed ++ also = take_all n (feed ++ also) count in
      let lines : AreLinesOf format feed x = subst (λ (rs : List (ℕ × RefusalWord)). AreLinesOf format (map (finding path) rs) x) front told in
      subst (λ (found : List Finding). AreLinesOf format found (x ++ y)) (sym whole) (more_lines _ _ _ _ lines behind)

  -- and where there is none
  pub without_room : (n : ℕ) (path : List ℕ) (refused : List (ℕ × RefusalWord)) (also : List Finding) (x : List ℕ) → n ≤ length refused
      → AreLinesOf format (map (finding path) (take n refused)) x → AreLinesOf format (take n (map (finding path) refused ++ also)) x
  without_room n path refused also x full told =
      let feed = map (finding path) refused in
      let count : n ≤ length feed = grind (arith, common_steps, full) in
      let front : take n (feed ++ also) ≡ map (finding path) (take n refused) = take-append-le n feed also count ∙ take-map (finding path) n refused in
      subst (λ (found : List Finding). AreLinesOf format found x) (sym front) told

  -- Hints.

  -- one more hint
  pub next_hint : (path x line : List ℕ) → AreHintsOf format path x → IsHintOf format path line → AreHintsOf format path (x ++ line)
  next_hint path x line so_far here =
      let end : line ≡ line ++ [] = sym (append-nil line) in
      record {
        lines = so_far.lines ++ line ∷ [];
        each = All-append (IsHintOf format path) so_far.lines (line ∷ []) so_far.each (All-cons (IsHintOf format path) line [] here (All-nil (IsHintOf format path)));
        bytes = (λ i. so_far.bytes i ++ end i) ∙ sym (concat-append so_far.lines (line ∷ []));
      }

-- Counts.

-- a file has one first faulty record at most
pub one_fault : {S : Type 0} (path : List ℕ) (said : Result S (ℕ × RefusalWord)) → length (fault_at path said) ≤ 1
one_fault path (Ok s) = omega arith
one_fault path (Err fault) = omega arith

-- how many findings there are in the feed and behind it
pub counted : (path : List ℕ) (refused : List (ℕ × RefusalWord)) (also : List Finding) (m n : ℕ) → m ≡ length refused → n ≡ length also
    → m + n ≡ length (map (finding path) refused ++ also)
counted path refused also m n feed behind =
    (λ i. feed i + behind i) ∙ sym (length-append (map (finding path) refused) also ∙ ap (λ (k : ℕ). k + length also) (length-map refused (finding path)))

-- The text.

-- five parts, put together one after another
pub parts : (v w x y z : List ℕ) → (((v ++ w) ++ x) ++ y) ++ z ≡ concat (v ∷ w ∷ x ∷ y ∷ z ∷ [])
parts v w x y z = simp (append_assoc, append-nil)
