use Rattle.std.proofs.{Common.{◌≡◌, ◌∙◌, List, [], ◌∷◌, ◌++◌, refl, sym, ap, rules, flat_map, append-nil}, lemmas.Grind.flat_map-append}
use Rattle.std.specs.Slice.Iter.{chunks_rest}
use Rattle.cdm_day.specs.declared.reply.Reply.{Reply}
use Rattle.cdm_board.specs.History.{Call, DeskRecord, Posts}
use Rattle.cdm_live.{specs.Live.replies_of, proofs.BatchLemmas.{one_posted, all_posted}}
use Rattle.cdm_live.proofs.desks.post_all.Goals as goal

pub loop-batch-preserved : goal.loop-batch-preserved
loop-batch-preserved g c =
    let so_far = c.loop-batch.invariant in
    let steps = c.in-Some.ensures.steps in
    let updates = c.args.updates.now in
    let replies = c.in_ok-answered.answered.items in
    let call : Call = Posts c.in-Some.batch.now replies in
    let receipts : c.post.new.desk.receipts ≡ c.loop-batch.desk.receipts ++ call ∷ [] = ap (λ (d : DeskRecord). d.receipts) c.in_ok-answered.ensures.desk in
    record {
      can_next = search rules;
      is_finite = tt;
      size = steps.0 ∙ so_far.size;
      posted = rw receipts
          (one_posted updates (chunks_rest c.loop-batch.batch-iterator) c.in-Some.batch.now (chunks_rest c.next.new.self) c.loop-batch.desk.receipts call
          so_far.posted steps.1.0 (rw so_far.size at steps.1.1) steps.1.2 (replies, refl));
      replied = c.in_ok-extend_from_slice.ensures.items
          ∙ (λ i. so_far.replied i ++ c.deref.ensures.value i)
          ∙ sym (ap (flat_map replies_of) receipts
          ∙ flat_map-append replies_of c.loop-batch.desk.receipts (call ∷ [])
          ∙ ap (λ (rs : List Reply). flat_map replies_of c.loop-batch.desk.receipts ++ rs) (append-nil replies));
      number = ap (λ (d : DeskRecord). d.number) c.in_ok-answered.ensures.desk ∙ so_far.number;
    }

pub returns-clause-posts : goal.returns-clause-posts
returns-clause-posts g c =
    all_posted c.args.updates.now (chunks_rest c.loop-batch.batch-iterator) c.loop-batch.desk.receipts c.loop-batch.invariant.posted c.in-None.ensures.steps.1.0
