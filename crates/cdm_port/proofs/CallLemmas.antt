-- What is read and written, call by call.
use Rattle.std.proofs.Common.{◌≡◌, ◌≤◌, ◌+◌, ◌-◌, ◌^◌, ◌∙◌, min, ℕ, ℤ, List, [], ◌∷◌, ◌++◌, length, take, drop, refl, sym, ap, subst, append_assoc}
use Rattle.std.proofs.Common.{Option, None, Some, IsNone, false, arith, length-drop, take-add}
use Rattle.std.proofs.lemmas.List.{append-nil, flat_map_more}
use Rattle.cdm_port.specs.{Calls.{HasRead, HasWritten, Held, IsRenamed, IsReplaced, IsSized, grown, naming, reading, writing}, Disk.FileCalls, Opened.HasMore}
use Rattle.cdm_port.specs.declared.disk.Sight.{Sight}
use Rattle.cdm_port.specs.declared.disk.Standing.{Standing}

-- Reads.

pub reads_begun : (file : Option ℤ) (before now : FileCalls) (bytes : List ℕ) → now ≡ before → bytes ≡ [] → HasRead file before now bytes
reads_begun file before now bytes is none = record { parts = []; did = is ∙ sym (append-nil before); gave = none; none = λ _. none }

-- one read more
pub reads_more : (file : Option ℤ) (before now after : FileCalls) (bytes part : List ℕ) (room : ℕ) → HasRead file before now bytes
    → after ≡ now ++ reading file room part → (IsNone file → part ≡ []) → HasRead file before after (bytes ++ part)
reads_more file before now after bytes part room read is none = record {
  parts = read.parts ++ (room, part) ∷ [];
  did =
      is ∙ ap (λ (calls : FileCalls). calls ++ reading file room part) read.did
      ∙ flat_map_more (λ (p : ℕ × List ℕ). reading file p.0 p.1) before read.parts (room, part);
  gave = ap (λ (all : List ℕ). all ++ part) read.gave ∙ flat_map_more (λ (p : ℕ × List ℕ). p.1) [] read.parts (room, part);
  none = λ n. ap (λ (all : List ℕ). all ++ part) (read.none n) ∙ none n;
}

-- Writes.

pub writes_begun : (file : Option ℤ) (before now : FileCalls) (bytes : List ℕ) → now ≡ before → bytes ≡ [] → HasWritten file before now bytes
writes_begun file before now bytes is none = record { parts = []; did = is ∙ sym (append-nil before); took = none; none = λ _. none }

-- one write more
pub writes_more : (file : Option ℤ) (before now after : FileCalls) (bytes part : List ℕ) → HasWritten file before now bytes
    → after ≡ now ++ writing file part → (IsNone file → part ≡ []) → HasWritten file before after (bytes ++ part)
writes_more file before now after bytes part written is none = record {
  parts = written.parts ++ part ∷ [];
  did =
      is ∙ ap (λ (calls : FileCalls). calls ++ writing file part) written.did
      ∙ flat_map_more (λ (p : List ℕ). writing file p) before written.parts part;
  took = ap (λ (all : List ℕ). all ++ part) written.took ∙ flat_map_more (λ (p : List ℕ). p) [] written.parts part;
  none = λ n. ap (λ (all : List ℕ). all ++ part) (written.none n) ∙ none n;
}

-- a journal that has grown twice
pub grown_more : (n m : ℕ) (own : Option Standing) → grown m (grown n own) ≡ grown (n + m) own
grown_more n m None = refl
grown_more n m (Some own) =
    let same : min (min (own.length + n) (2 ^ 64 - 1) + m) (2 ^ 64 - 1) ≡ min (own.length + (n + m)) (2 ^ 64 - 1) = omega arith in
    ap (λ (long : ℕ). Some (record own { length = long })) same

-- so many of the bytes were written, and the journal is known to be as much longer
pub record WrittenSoFar (first now : Held) (before here : FileCalls) (bytes : List ℕ) (count : ℕ) : Type 0 where
  pub within : count ≤ length bytes
  pub same : now ≡ record first { own = now.own }
  pub own : IsSized first.own → now.own ≡ grown count first.own
  pub written : HasWritten first.file before here (take count bytes)

grown_none : (own : Option Standing) → IsSized own → own ≡ grown 0 own
grown_none None sized = refl
grown_none (Some own) sized =
    let same : own.length ≡ min (own.length + 0) (2 ^ 64 - 1) = omega (arith, sized) in
    ap (λ (long : ℕ). Some (record own { length = long })) same

pub written_none : (first : Held) (before : FileCalls) (bytes : List ℕ) → WrittenSoFar first first before before bytes 0
written_none first before bytes = record {
  within = omega arith;
  same = refl;
  own = grown_none first.own;
  written = writes_begun first.file before before [] refl refl;
}

module _ (first now next : Held) (before here after : FileCalls) (bytes : List ℕ) (n : ℕ) (so_far : WrittenSoFar first now before here bytes n) where
  pub written_more : (m : ℕ) → m ≤ length (drop n bytes) → after ≡ here ++ writing now.file (take m (drop n bytes))
      → next ≡ record now { own = next.own } → next.own ≡ grown m now.own → (IsNone now.file → take m (drop n bytes) ≡ [])
      → WrittenSoFar first next before after bytes (n + m)
  written_more m fits is same own none =
      let file : now.file ≡ first.file = ap (λ (h : Held). h.file) so_far.same in
      let part = take m (drop n bytes) in
      let did = subst (λ (f : Option ℤ). after ≡ here ++ writing f part) file is in
      let none_first = subst (λ (f : Option ℤ). IsNone f → part ≡ []) file none in
      let all = writes_more first.file before here after (take n bytes) part so_far.written did none_first in
      record {
        within = omega (arith, so_far.within, length-drop n bytes);
        same = same ∙ ap (λ (h : Held). record h { own = next.own }) so_far.same;
        own = λ sized. own ∙ ap (grown m) (so_far.own sized) ∙ grown_more n m first.own;
        written = subst (λ (l : List ℕ). HasWritten first.file before after l) (sym (take-add n m bytes)) all;
      }

  -- a write that took no byte
  pub written_nothing : after ≡ here ++ writing now.file [] → HasWritten first.file before after (take n bytes)
  written_nothing is =
      let file : now.file ≡ first.file = ap (λ (h : Held). h.file) so_far.same in
      let did = subst (λ (f : Option ℤ). after ≡ here ++ writing f []) file is in
      subst (λ (l : List ℕ). HasWritten first.file before after l) (append-nil (take n bytes))
      (writes_more first.file before here after (take n bytes) [] so_far.written did (λ none. refl))

  pub written_same : after ≡ here → next ≡ record now { own = next.own } → next.own ≡ now.own → WrittenSoFar first next before after bytes n
  written_same is same own =
      let stays : next ≡ now = same ∙ ap (λ (o : Option Standing). record now { own = o }) own in
      subst (λ (h : Held). WrittenSoFar first h before after bytes n) (sym stays)
      (subst (λ (c : FileCalls). WrittenSoFar first now before c bytes n) (sym is) so_far)

-- one call more, or none
pub more_of : (before now after more : FileCalls) → HasMore before now → after ≡ now ++ more → HasMore before after
more_of before now after more has is = record {
  more = has.more ++ more;
  did = is ∙ ap (λ (calls : FileCalls). calls ++ more) has.did ∙ append_assoc before has.more more;
}

-- calls behind calls
pub behind : (first now after part more : FileCalls) → now ≡ first ++ part → after ≡ now ++ more → after ≡ first ++ (part ++ more)
behind first now after part more so_far is = is ∙ ap (λ (calls : FileCalls). calls ++ more) so_far ∙ append_assoc first part more

-- what is told of a file that wasn't seen
pub no_sight : Sight
no_sight = record { standing = record { device = 0; inode = 0; length = 0 }; is_file = false; mode = 0 }

-- Renames.

-- nothing was done since, and the journal is the same
pub renamed_same : (before after later : FileCalls) (held new next : Held) (bytes : List ℕ) → IsRenamed before after held new bytes → later ≡ after
    → next ≡ new → IsRenamed before later held next bytes
renamed_same before after later held new next bytes renamed is same =
    subst (λ (h : Held). IsRenamed before later held h bytes) (sym same)
    (subst (λ (c : FileCalls). IsRenamed before c held new bytes) (sym is) renamed)

-- and then its name was put on the disk
pub renamed_named : (before till after : FileCalls) (held mid new : Held) (bytes : List ℕ) → IsRenamed before till held mid bytes → new ≡ mid
    → after ≡ till ++ naming mid → IsReplaced before after held new bytes
renamed_named before till after held mid new bytes renamed same is = record {
  till = till;
  renamed = renamed_same before till till held mid new bytes renamed refl same;
  did = subst (λ (h : Held). after ≡ till ++ naming h) (sym same) is;
}
