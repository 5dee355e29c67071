-- Where a rename stopped: the calls up to the one that failed.
use Rattle.std.proofs.Common.{◌≡◌, ◌∙◌, pos, ℕ, ℤ, List, [], ◌∷◌, ◌++◌, true, false, refl, sym}
use Rattle.std.proofs.lemmas.List.{append-nil}
use Rattle.cdm_port.specs.{Calls.{Held, IsRenameBegun}, Disk.FileCalls}
use Rattle.cdm_port.specs.declared.disk.FileCall.TheVariants.{Found, Made, Missed, Removed, Seen, Synced, Written}
use Rattle.cdm_port.specs.declared.disk.Sight.{Sight}
use Rattle.cdm_port.proofs.CallLemmas.{behind, no_sight}

module _ (held : Held) (bytes : List ℕ) (n0 : FileCalls) where
  abbrev Begun : FileCalls → Type 0
  Begun n = IsRenameBegun n0 n held bytes

  pub at_remove : (n : FileCalls) → n ≡ n0 → Begun n
  at_remove n is = record { file = pos 0; sight = no_sight; is_own = false; part = []; first = tt; did = is ∙ sym (append-nil n0) }

  module _ (n1 : FileCalls) (removed : n1 ≡ n0 ++ (Removed, held.fresh) ∷ []) where
    pub at_make : (n : FileCalls) → n ≡ n1 → Begun n
    at_make n is = record {
      file = pos 0;
      sight = no_sight;
      is_own = false;
      part = (Removed, held.fresh) ∷ [];
      first = (refl, tt);
      did = is ∙ removed;
    }

    module _ (file : ℤ) (n2 : FileCalls) (made : n2 ≡ n1 ++ (Made file held.mode, held.fresh) ∷ []) where
      since_made : n2 ≡ n0 ++ ((Removed, held.fresh) ∷ (Made file held.mode, held.fresh) ∷ [])
      since_made = behind n0 n1 n2 ((Removed, held.fresh) ∷ []) ((Made file held.mode, held.fresh) ∷ []) removed made

      pub at_write : (n : FileCalls) → n ≡ n2 → Begun n
      at_write n is = record {
        file = file;
        sight = no_sight;
        is_own = false;
        part = (Removed, held.fresh) ∷ (Made file held.mode, held.fresh) ∷ [];
        first = (refl, (refl, tt));
        did = is ∙ since_made;
      }

      module _ (n3 : FileCalls) (written : n3 ≡ n2 ++ (Written file, bytes) ∷ []) where
        since_written : n3 ≡ n0 ++ ((Removed, held.fresh) ∷ (Made file held.mode, held.fresh) ∷ (Written file, bytes) ∷ [])
        since_written =
            behind n0 n2 n3 ((Removed, held.fresh) ∷ (Made file held.mode, held.fresh) ∷ []) ((Written file, bytes) ∷ []) since_made written

        pub at_sync : (n : FileCalls) → n ≡ n3 → Begun n
        at_sync n is = record {
          file = file;
          sight = no_sight;
          is_own = false;
          part = (Removed, held.fresh) ∷ (Made file held.mode, held.fresh) ∷ (Written file, bytes) ∷ [];
          first = (refl, (refl, (refl, tt)));
          did = is ∙ since_written;
        }

        module _ (n4 : FileCalls) (synced : n4 ≡ n3 ++ (Synced file, []) ∷ []) where
          abbrev up_to_sync : FileCalls
          up_to_sync = (Removed, held.fresh) ∷ (Made file held.mode, held.fresh) ∷ (Written file, bytes) ∷ (Synced file, []) ∷ []

          since_synced : n4 ≡ n0 ++ up_to_sync
          since_synced =
              behind n0 n3 n4 ((Removed, held.fresh) ∷ (Made file held.mode, held.fresh) ∷ (Written file, bytes) ∷ [])
              ((Synced file, []) ∷ []) since_written synced

          pub at_see : (n : FileCalls) → n ≡ n4 → Begun n
          at_see n is = record {
            file = file;
            sight = no_sight;
            is_own = false;
            part = up_to_sync;
            first = (refl, (refl, (refl, (refl, tt))));
            did = is ∙ since_synced;
          }

          module _ (sight : Sight) (n5 : FileCalls) (seen : n5 ≡ n4 ++ (Seen file sight, []) ∷ []) where
            abbrev up_to_sight : FileCalls
            up_to_sight =
                (Removed, held.fresh) ∷ (Made file held.mode, held.fresh) ∷ (Written file, bytes) ∷ (Synced file, []) ∷ (Seen file sight, []) ∷ []

            since_seen : n5 ≡ n0 ++ up_to_sight
            since_seen = behind n0 n4 n5 up_to_sync ((Seen file sight, []) ∷ []) since_synced seen

            pub at_look : (n : FileCalls) → n ≡ n5 ++ (Missed held.own, held.path) ∷ [] → Begun n
            at_look n missed = record {
              file = file;
              sight = sight;
              is_own = false;
              part = up_to_sight ++ (Missed held.own, held.path) ∷ [];
              first = (refl, (refl, (refl, (refl, (refl, (refl, tt))))));
              did = behind n0 n5 n up_to_sight ((Missed held.own, held.path) ∷ []) since_seen missed;
            }

            pub at_rename : (n6 n : FileCalls) → n6 ≡ n5 ++ (Found held.own, held.path) ∷ [] → n ≡ n6 → Begun n
            at_rename n6 n found is = record {
              file = file;
              sight = sight;
              is_own = true;
              part = up_to_sight ++ (Found held.own, held.path) ∷ [];
              first = (refl, (refl, (refl, (refl, (refl, (refl, tt))))));
              did = is ∙ behind n0 n5 n6 up_to_sight ((Found held.own, held.path) ∷ []) since_seen found;
            }
