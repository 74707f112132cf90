use Rattle.std.proofs.Common.{◌≡◌, ◌∙◌, refl, ap, ◌<◌, ℕ, List, [], length, arith}
use Rattle.lockword_script.specs.Progress.{Progress, ahead_of, progress_of, spent, IsReady, LeadsOn, LeadsToEnd}
use Rattle.lockword_script.proofs.TraceLemmas.{went_nowhere, went_on, ready_at_start, whole_text, at_end_of_none}
use Rattle.lockword_script.proofs.TraceLemmas.{read_leaves, refusal_leaves, still_ready, still_went, write_leaves}
use Rattle.lockword_script.proofs.TraceLemmas.{first_flush_leaves, gone_on, has_ended}
use Rattle.lockword_script.proofs.trace_run.trace_on.Goals as goal

-- the first flush stopped
pub returns-in-Err-clause-left : goal.returns-in-Err-clause-left
returns-in-Err-clause-left g c = first_flush_leaves _ _ _ c.in-Err.ensures.kept

pub chunks-init : goal.chunks-init
chunks-init g c = record {
  ready = ready_at_start (progress_of c.new-run.result) c.new-run.ensures.start;
  none = c.new-run.ensures.nothing;
  source_same = g.met.S.Source.stays_itself _;
  sink_same = c.flush_to.ensures.same;
  source_well = (refl, c.requires.source_uninterrupted);
  sink_well = (
    c.in_default.ensures.health,
    c.in_default.ensures.row,
    c.flush_to.ensures.progress,
    c.in_default.ensures.flushed,
  );
  went = went_nowhere _ _ _ (progress_of c.new-run.result) c.new-run.ensures.start c.flush_to.ensures.kept;
}

-- a read stopped
pub returns-in-Err-fill-clause-left : goal.returns-in-Err-fill-clause-left
returns-in-Err-fill-clause-left g c =
    read_leaves _ _ _ _ _ (progress_of c.chunks.run) c.chunks.invariant.ready c.chunks.invariant.went
    c.in-Err-fill.ensures.kept

-- a write or a flush stopped
pub returns-in-Err-deliver_to-clause-left : goal.returns-in-Err-deliver_to-clause-left
returns-in-Err-deliver_to-clause-left g c =
    let p : Progress =
    record { number = c.chunks.run.number; state = c.chunks.run.machine; partial = c.fill.new.self.held } in
    let bytes : List ℕ = c.fill.new.self.ahead in
    let went =
    still_went _ _ _ _ (progress_of c.chunks.run) c.fill.new.self.held c.fill.ensures.held c.chunks.invariant.went in
    write_leaves c.advance-advanced.result _ _ _ _ _ _ p (progress_of c.advance-advanced.new.self) bytes
    c.clear.new.self.items c.advance-advanced.new.out.items c.as_slice.result.now
    went c.in-Ok.ensures.bytes c.in-Err-deliver_to.ensures.front c.clear.ensures.items c.as_slice.ensures.value
    (at_end_of_none c.in-Ok.count c.fill.new.self.ahead _ c.in-Ok.ensures.count c.in-Ok.ensures.end)
    c.advance-advanced.ensures.goes c.advance-advanced.ensures.ends c.advance-advanced.ensures.err

-- memory was refused
pub returns-in-Err-advanced-clause-left : goal.returns-in-Err-advanced-clause-left
returns-in-Err-advanced-clause-left g c =
    let p : Progress =
    record { number = c.chunks.run.number; state = c.chunks.run.machine; partial = c.fill.new.self.held } in
    let bytes : List ℕ = c.fill.new.self.ahead in
    let went =
    still_went _ _ _ _ (progress_of c.chunks.run) c.fill.new.self.held c.fill.ensures.held c.chunks.invariant.went in
    refusal_leaves _ _ _ _ _ _ p bytes c.clear.new.self.items c.advance-advanced.new.out.items c.as_slice.result.now
    went c.in-Ok.ensures.bytes c.in_default-deliver_to.ensures.ok c.clear.ensures.items c.as_slice.ensures.value
    c.in-Err-advanced.ensures.err

-- the script goes on
pub chunks-preserved : goal.chunks-preserved
chunks-preserved g c =
    let p : Progress =
    record { number = c.chunks.run.number; state = c.chunks.run.machine; partial = c.fill.new.self.held } in
    let p' = progress_of c.advance-advanced.new.self in
    let bytes : List ℕ = c.fill.new.self.ahead in
    let went =
    still_went _ _ _ _ (progress_of c.chunks.run) c.fill.new.self.held c.fill.ensures.held c.chunks.invariant.went in
    let goes =
    gone_on c.advance-advanced.result c.in-Ok-advanced.ended
    (LeadsOn p p' bytes c.clear.new.self.items c.advance-advanced.new.out.items) c.in-Ok-advanced.is c.in-None.is
    c.advance-advanced.ensures.goes in
    let ready =
    gone_on c.advance-advanced.result c.in-Ok-advanced.ended (IsReady p' × (spent p < spent p')) c.in-Ok-advanced.is
    c.in-None.is c.advance-advanced.ensures.ready in
    let well = c.chunks.invariant in
    let delivered = c.in_default-deliver_to.ensures in
    record {
      ready = ready.0;
      none =
          gone_on c.advance-advanced.result c.in-Ok-advanced.ended (ahead_of c.advance-advanced.new.self ≡ [])
          c.in-Ok-advanced.is c.in-None.is c.advance-advanced.ensures.all;
      source_same = g.met.S.Source.stays_on _ _ _ well.source_same c.fill.ensures.same;
      sink_same = g.met.K.Sink.stays_on _ _ _ well.sink_same c.deliver_to.ensures.same;
      source_well = (c.in-Ok.ensures.health ∙ well.source_well.0, c.in-Ok.ensures.row);
      sink_well = (
        delivered.health ∙ well.sink_well.0,
        delivered.row,
        delivered.progress
            ∙ well.sink_well.2,
        delivered.flushed,
      );
      went =
          went_on _ _ _ _ _ _ p p' bytes c.clear.new.self.items c.advance-advanced.new.out.items c.as_slice.result.now
          went c.in-Ok.ensures.bytes c.in_default-deliver_to.ensures.ok c.clear.ensures.items c.as_slice.ensures.value
          goes;
    }

-- what is read next is ready for the run
pub advance-advanced-requires-clause-ready : goal.advance-advanced-requires-clause-ready
advance-advanced-requires-clause-ready g c =
    still_ready (progress_of c.chunks.run) c.fill.new.self.held c.fill.ensures.held c.chunks.invariant.ready

-- each byte is paid for
pub chunks-smaller : goal.chunks-smaller
chunks-smaller g c =
    let p : Progress =
    record { number = c.chunks.run.number; state = c.chunks.run.machine; partial = c.fill.new.self.held } in
    let p' = progress_of c.advance-advanced.new.self in
    let ready =
    gone_on c.advance-advanced.result c.in-Ok-advanced.ended (IsReady p' × (spent p < spent p')) c.in-Ok-advanced.is
    c.in-None.is c.advance-advanced.ensures.ready in
    let more : spent p < spent p' = ready.1 in
    omega (arith, ready.0.numbered, ready.0.short, ap length c.fill.ensures.held)

-- the script ended
pub returns-in-Some-clause-text : goal.returns-in-Some-clause-text
returns-in-Some-clause-text g c =
    let p : Progress =
    record { number = c.chunks.run.number; state = c.chunks.run.machine; partial = c.fill.new.self.held } in
    let bytes : List ℕ = c.fill.new.self.ahead in
    let went =
    still_went _ _ _ _ (progress_of c.chunks.run) c.fill.new.self.held c.fill.ensures.held c.chunks.invariant.went in
    let ends =
    has_ended c.advance-advanced.result c.in-Ok-advanced.ended c.in-Some.end
    (LeadsToEnd p bytes c.clear.new.self.items c.advance-advanced.new.out.items) c.in-Ok-advanced.is c.in-Some.is
    c.advance-advanced.ensures.ends in
    whole_text _ _ _ _ _ _ p bytes c.clear.new.self.items c.advance-advanced.new.out.items c.as_slice.result.now
    c.in-Some.end
    went c.in-Ok.ensures.bytes c.in_default-deliver_to.ensures.ok c.clear.ensures.items c.as_slice.ensures.value
    (at_end_of_none c.in-Ok.count c.fill.new.self.ahead _ c.in-Ok.ensures.count c.in-Ok.ensures.end) ends

pub returns-in-Some-clause-whole : goal.returns-in-Some-clause-whole
returns-in-Some-clause-whole g c is_whole =
    let p : Progress =
    record { number = c.chunks.run.number; state = c.chunks.run.machine; partial = c.fill.new.self.held } in
    let bytes : List ℕ = c.fill.new.self.ahead in
    let ends =
    has_ended c.advance-advanced.result c.in-Ok-advanced.ended c.in-Some.end
    (LeadsToEnd p bytes c.clear.new.self.items c.advance-advanced.new.out.items) c.in-Ok-advanced.is c.in-Some.is
    c.advance-advanced.ensures.ends in
    at_end_of_none c.in-Ok.count c.fill.new.self.ahead _ c.in-Ok.ensures.count c.in-Ok.ensures.end (ends.whole is_whole)
