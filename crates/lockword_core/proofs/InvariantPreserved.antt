-- A consistent census is one that balances.
use Rattle.std.proofs.Common.{◌≡◌, ◌≢◌, ◌+◌, ◌^◌, ◌≤◌, ◌<◌}
use Rattle.std.specs.Prelude.{◌==◌, ◌&&◌}
use Rattle.lockword_core.proofs.Words.{ℕ, Bool, true, false, refl, ap, arith, nat_tests, Dir, Read, Write, bit}
use Rattle.lockword_core.proofs.Words.{Census, references, lasts, number, encoded, IsConsistentCensus}
use Rattle.lockword_core.specs.LockInvariant.{IsConsistentWay}
use Rattle.lockword_core.proofs.BalanceLemmas.{IsBalancedWay, IsBalanced, reads_as}

pub bit-le : (b : Bool) → bit b ≤ 1
bit-le true = omega arith
bit-le false = omega arith

pub bit-true : (b : Bool) → bit b ≡ 1 → b ≡ true
bit-true true e = refl
bit-true false e = absurd (omega arith)

-- one `Last` or mark, as the definitions say it and as arithmetic
record IsEnd (closed refs ends : ℕ) : Type 0 where
  ended : closed ≡ 1 → refs ≡ 0 → ends ≡ 1
  unclosed : closed ≡ 0 → ends ≡ 0
  in_use : 0 < refs → ends ≡ 0

end-arith : (b : Bool) (refs ends : ℕ) → ends ≡ bit (b && (refs == 0)) → IsEnd (bit b) refs ends
end-arith false refs ends e = record { ended = λ c r. absurd (omega arith); unclosed = λ c. e; in_use = λ r. e }
end-arith true refs ends e = by (refs == 0) refl e
  where
    by : (t : Bool) → (refs == 0) ≡ t → ends ≡ bit t → IsEnd 1 refs ends
    by true h e =
        let zero_refs : refs ≡ 0 = grind (arith, nat_tests) in
        record { ended = λ c r. e; unclosed = λ c. absurd (omega arith); in_use = λ r. absurd (omega arith) }
    by false h e =
        let some_refs : refs ≢ 0 = grind (arith, nat_tests) in
        record { ended = λ c r. absurd (some_refs r); unclosed = λ c. absurd (omega arith); in_use = λ r. e }

arith-end : (b : Bool) (refs ends : ℕ) → (bit b ≡ 1 → refs ≡ 0 → ends ≡ 1) → (bit b ≡ 0 → ends ≡ 0)
    → (0 < refs → ends ≡ 0) → ends ≡ bit (b && (refs == 0))
arith-end false refs ends ended unclosed in_use = unclosed refl
arith-end true refs ends ended unclosed in_use = by (refs == 0) refl
  where
    by : (t : Bool) → (refs == 0) ≡ t → ends ≡ bit t
    by true h = let zero_refs : refs ≡ 0 = grind (arith, nat_tests) in ended refl zero_refs
    by false h = let some_refs : refs ≢ 0 = grind (arith, nat_tests) in in_use (omega arith)

way_balances : (d : Dir) (c : Census) → IsConsistentWay c d → IsBalancedWay d c
way_balances d c good =
    record {
      one_holder = good.one_lock;
      signals_have_waiters = good.signals_have_waiters;
      waiters_fit = let fit = good.waiters_fit in omega arith;
      signals_fit = good.signals_fit;
      none_pending = λ e. let none = good.none_pending_when_closed (bit-true c.closed e) in
          let have = good.signals_have_waiters in omega arith;
      none_drained = λ e. let none = good.none_pending_when_draining (bit-true c.draining e) in
          let have = good.signals_have_waiters in omega arith;
    }

pub balance_of : (c : Census) → IsConsistentCensus c → IsBalanced c (encoded c)
balance_of c good =
    let end = end-arith c.closed (number references c) (number lasts c + bit c.destroyed) good.one_last in
    record {
      closed_bit = bit-le c.closed;
      draining_bit = bit-le c.draining;
      destroyed_bit = bit-le c.destroyed;
      reading = way_balances Read c good.reading;
      writing = way_balances Write c good.writing;
      references_fit = good.references_fit;
      one_closer = good.one_closer;
      one_drainer = good.one_drainer;
      ended = end.ended;
      unclosed = end.unclosed;
      in_use = end.in_use;
      word_is = let reading = good.reading.signals_have_waiters in let writing = good.writing.signals_have_waiters in
          omega arith;
    }

way_consistent : (d : Dir) (c : Census) → IsBalancedWay d c → IsConsistentWay c d
way_consistent d c b =
    record {
      one_lock = b.one_holder;
      signals_have_waiters = b.signals_have_waiters;
      waiters_fit = let fit = b.waiters_fit in omega arith;
      signals_fit = b.signals_fit;
      none_pending_when_closed = λ e. let told = b.none_pending (ap bit e) in omega arith;
      none_pending_when_draining = λ e. let told = b.none_drained (ap bit e) in omega arith;
    }

pub consistent_of : (c : Census) (n : ℕ) → IsBalanced c n → IsConsistentCensus c
consistent_of c n b =
    record {
      reading = way_consistent Read c b.reading;
      writing = way_consistent Write c b.writing;
      references_fit = b.references_fit;
      one_closer = b.one_closer;
      one_drainer = b.one_drainer;
      one_last = arith-end c.closed (number references c)
          (number lasts c + bit c.destroyed) b.ended b.unclosed b.in_use;
    }

pub encoded_of : (c : Census) (n : ℕ) → IsBalanced c n → n ≡ encoded c
encoded_of c n b = omega arith

pub encoded-small : (c : Census) → IsConsistentCensus c → encoded c < 2 ^ 64
encoded-small c good = (reads_as c (encoded c) (balance_of c good)).is_word
