-- How a journal is read to its end.
use Rattle.std.proofs.Common.{◌≡◌, ◌<◌, ℕ, ℤ, List, [], ◌++◌, sym, ap, subst, take, Option, IsNone, Result, Ok, Err}
use Rattle.std.specs.declared.io.Error.{Error}
use Rattle.cdm_port.specs.{Calls.{HasRead, HasReadAll, Held, reading}, Disk.FileCalls}
use Rattle.cdm_port.proofs.CallLemmas.{reads_more}

-- the count that an answer has
abbrev pub count_of : Result ℕ Error → ℕ
count_of (Ok n) = n
count_of (Err error) = 0

-- as many bytes as two equal answers say
pub count_same : (one other : Result ℕ Error) (bytes : List ℕ) → one ≡ other → take (count_of one) bytes ≡ take (count_of other) bytes
count_same one other bytes is = ap (λ (r : Result ℕ Error). take (count_of r) bytes) is

module _ (first now : Held) (before here after : FileCalls) (bytes : List ℕ) (same : now ≡ first) (read : HasRead first.file before here bytes) where
  file_same : now.file ≡ first.file
  file_same = ap (λ (h : Held). h.file) same

  -- one read more
  pub read_on : (room : ℕ) (part : List ℕ) → after ≡ here ++ reading now.file room part → (IsNone now.file → part ≡ [])
      → HasRead first.file before after (bytes ++ part)
  read_on room part is none =
      reads_more first.file before here after bytes part room read
      (subst (λ (f : Option ℤ). after ≡ here ++ reading f room part) file_same is)
      (subst (λ (f : Option ℤ). IsNone f → part ≡ []) file_same none)

  -- a last read, which gave nothing
  pub read_all : (room : ℕ) → 0 < room → after ≡ here ++ reading now.file room [] → HasReadAll first.file before after bytes
  read_all room some is = record {
    till = here;
    begun = read;
    room = room;
    some = some;
    did = subst (λ (f : Option ℤ). after ≡ here ++ reading f room []) file_same is;
  }

  -- a read that failed
  pub read_same : after ≡ here → HasRead first.file before after bytes
  read_same is = subst (λ (c : FileCalls). HasRead first.file before c bytes) (sym is) read
