-- Where a rename stopped: the calls up to the one that failed.
use Rattle.cdm_port.specs.Opened.{held_of}
use Rattle.cdm_port.proofs.RenameLemmas.{at_look, at_make, at_remove, at_rename, at_see, at_sync, at_write}
use Rattle.cdm_port.proofs.WriteLemmas.{on_err}
use Rattle.cdm_port.proofs.opened.OpenJournal.put_fresh.Goals as goal

pub returns-in_err-remove-clause-err : goal.returns-in_err-remove-clause-err
returns-in_err-remove-clause-err g c =
    on_err c.from_residual.result (at_remove (held_of c.args.self.now) c.args.bytes.now _ _ c.in_err-remove.ensures.did.0)

pub returns-in_err-file-clause-err : goal.returns-in_err-file-clause-err
returns-in_err-file-clause-err g c =
    on_err c.from_residual-in_err-file.result
    (at_make (held_of c.args.self.now) c.args.bytes.now _ _ (rw c.deref.ensures at c.in_ok-remove.ensures.did.0) _ c.in_err-file.ensures.did.0)

pub returns-in_err-write_all-clause-err : goal.returns-in_err-write_all-clause-err
returns-in_err-write_all-clause-err g c =
    on_err c.from_residual-in_err-write_all.result
    (at_write (held_of c.args.self.now) c.args.bytes.now _ _ (rw c.deref.ensures at c.in_ok-remove.ensures.did.0) _ _ (rw c.deref-2.ensures at c.in_ok-file.ensures.did.0) _ c.in_err-write_all.ensures.did.0)

pub returns-in_err-sync-clause-err : goal.returns-in_err-sync-clause-err
returns-in_err-sync-clause-err g c =
    on_err c.from_residual-in_err-sync.result
    (at_sync (held_of c.args.self.now) c.args.bytes.now _ _ (rw c.deref.ensures at c.in_ok-remove.ensures.did.0) _ _ (rw c.deref-2.ensures at c.in_ok-file.ensures.did.0) _ c.in_ok-write_all.ensures.did.0 _ c.in_err-sync.ensures.did.0)

pub returns-in_err-made-clause-err : goal.returns-in_err-made-clause-err
returns-in_err-made-clause-err g c =
    on_err c.from_residual-in_err-made.result
    (at_see (held_of c.args.self.now) c.args.bytes.now _ _ (rw c.deref.ensures at c.in_ok-remove.ensures.did.0) _ _ (rw c.deref-2.ensures at c.in_ok-file.ensures.did.0) _ c.in_ok-write_all.ensures.did.0 _ c.in_ok-sync.ensures.did.0 _ c.in_err-made.ensures.did.0)

pub returns-in_err-stands-clause-err : goal.returns-in_err-stands-clause-err
returns-in_err-stands-clause-err g c =
    on_err c.from_residual-in_err-stands.result
    (at_look (held_of c.args.self.now) c.args.bytes.now _ _ (rw c.deref.ensures at c.in_ok-remove.ensures.did.0) _ _ (rw c.deref-2.ensures at c.in_ok-file.ensures.did.0) _ c.in_ok-write_all.ensures.did.0 _ c.in_ok-sync.ensures.did.0 _ _ c.in_ok-made.ensures.did.0 _ (rw c.deref-3.ensures at c.in_err-stands.ensures.did))

pub returns-in_err-rename-clause-err : goal.returns-in_err-rename-clause-err
returns-in_err-rename-clause-err g c =
    on_err c.from_residual-in_err-rename.result
    (at_rename (held_of c.args.self.now) c.args.bytes.now _ _ (rw c.deref.ensures at c.in_ok-remove.ensures.did.0) _ _ (rw c.deref-2.ensures at c.in_ok-file.ensures.did.0) _ c.in_ok-write_all.ensures.did.0 _ c.in_ok-sync.ensures.did.0 _ _ c.in_ok-made.ensures.did.0 _ _ (rw c.deref-3.ensures at c.in_ok-stands.ensures.did) c.in_err-rename.ensures.did.0)
