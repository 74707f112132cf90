use Rattle.std.proofs.Common.{◌∙◌, sym, refl, Err}
use Rattle.std.proofs.lemmas.Result.{err_from_is_err_and}
use Rattle.client_sources.specs.Sources.{IsOverRate, IsSourceFull}
use Rattle.client_sources.specs.declared.limits.Refusal.TheVariants as refusal
use Rattle.client_sources.proofs.Admitted.{IsOwn, counted_if, err_is, full_if, known_of, may_stand_if, never_more_if}
use Rattle.client_sources.proofs.Admitted.{not_full, not_over, ok_is, rate_if, uncounted_if}
use Rattle.client_sources.proofs.Counted.{IsKnown, IsLetIn, is_let_in}
use Rattle.client_sources.proofs.sources.Sources.admit.Goals as goal

pub returns-in_err-entry-clause-full : goal.returns-in_err-entry-clause-full
returns-in_err-entry-clause-full c =
    let own : IsOwn c.place_of-own.result c.args.source c.args.self.now =
    record { there = c.place_of-own.ensures.there; none = c.place_of-own.ensures.none } in
    let known : IsKnown c.args.source c.args.limits.now c.args.now c.args.self.now c.known.result =
    known_of c.place_of-own.result c.args.source c.args.limits.now c.args.now c.args.self.now c.known.result
    c.place_of-own.ensures.table own c.known.ensures in
    let why = c.in_err-entry.field-0.0 in
    let is = full_if c.args.source c.args.limits.now c.args.now c.args.self.now c.known.result why known
    (sym c.admitted.ensures ∙ c.in_err-entry.was) in
    let p = err_from_is_err_and c.from_residual.result c.from_residual.ensures.1 in
    rw (p.1, p.2) (err_is (IsSourceFull c.args.source c.args.limits.now c.args.self.now) (Err why) why refusal.Full refl is)

pub returns-in_err-entry-clause-rate : goal.returns-in_err-entry-clause-rate
returns-in_err-entry-clause-rate c =
    let own : IsOwn c.place_of-own.result c.args.source c.args.self.now =
    record { there = c.place_of-own.ensures.there; none = c.place_of-own.ensures.none } in
    let known : IsKnown c.args.source c.args.limits.now c.args.now c.args.self.now c.known.result =
    known_of c.place_of-own.result c.args.source c.args.limits.now c.args.now c.args.self.now c.known.result
    c.place_of-own.ensures.table own c.known.ensures in
    let why = c.in_err-entry.field-0.0 in
    let is = rate_if c.args.source c.args.limits.now c.args.now c.args.self.now c.known.result why known
    (sym c.admitted.ensures ∙ c.in_err-entry.was) in
    let p = err_from_is_err_and c.from_residual.result c.from_residual.ensures.1 in
    rw (p.1, p.2) (err_is (IsOverRate c.args.source c.args.limits.now c.args.now c.args.self.now) (Err why) why refusal.Rate refl is)

pub put-requires : goal.put-requires
put-requires c =
    let own : IsOwn c.place_of-own.result c.args.source c.args.self.now =
    record { there = c.place_of-own.ensures.there; none = c.place_of-own.ensures.none } in
    let known : IsKnown c.args.source c.args.limits.now c.args.now c.args.self.now c.known.result =
    known_of c.place_of-own.result c.args.source c.args.limits.now c.args.now c.args.self.now c.known.result
    c.place_of-own.ensures.table own c.known.ensures in
    let came : IsLetIn c.args.limits.now c.args.now c.known.result c.in_ok-entry.entry =
    is_let_in c.args.limits.now c.args.now c.known.result c.in_ok-entry.entry (sym c.admitted.ensures ∙ c.in_ok-entry.was) in
    record {
      may = may_stand_if c.place_of-own.result c.place_for-place.result c.args.source c.args.limits.now c.args.now c.args.self.now
          c.in_ok-entry.entry c.place_of-own.ensures.table own c.place_for-place.ensures (came.is_source ∙ known.is_source);
    }

pub returns-clause-counted : goal.returns-clause-counted
returns-clause-counted c =
    let own : IsOwn c.place_of-own.result c.args.source c.args.self.now =
    record { there = c.place_of-own.ensures.there; none = c.place_of-own.ensures.none } in
    let known : IsKnown c.args.source c.args.limits.now c.args.now c.args.self.now c.known.result =
    known_of c.place_of-own.result c.args.source c.args.limits.now c.args.now c.args.self.now c.known.result
    c.place_of-own.ensures.table own c.known.ensures in
    let came : IsLetIn c.args.limits.now c.args.now c.known.result c.in_ok-entry.entry =
    is_let_in c.args.limits.now c.args.now c.known.result c.in_ok-entry.entry (sym c.admitted.ensures ∙ c.in_ok-entry.was) in
    counted_if c.place_of-own.result c.place_for-place.result c.args.source c.args.limits.now c.args.now c.args.self.now
    c.put.new.self c.known.result c.in_ok-entry.entry c.place_of-own.ensures.table own c.place_for-place.ensures known came
    c.put.ensures

pub returns-clause-uncounted : goal.returns-clause-uncounted
returns-clause-uncounted c =
    let own : IsOwn c.place_of-own.result c.args.source c.args.self.now =
    record { there = c.place_of-own.ensures.there; none = c.place_of-own.ensures.none } in
    uncounted_if c.place_of-own.result c.place_for-place.result c.args.source c.args.limits.now c.args.now c.args.self.now
    c.put.new.self c.in_ok-entry.entry own c.place_for-place.ensures c.put.ensures

pub returns-clause-full : goal.returns-clause-full
returns-clause-full c =
    let own : IsOwn c.place_of-own.result c.args.source c.args.self.now =
    record { there = c.place_of-own.ensures.there; none = c.place_of-own.ensures.none } in
    let known : IsKnown c.args.source c.args.limits.now c.args.now c.args.self.now c.known.result =
    known_of c.place_of-own.result c.args.source c.args.limits.now c.args.now c.args.self.now c.known.result
    c.place_of-own.ensures.table own c.known.ensures in
    let came : IsLetIn c.args.limits.now c.args.now c.known.result c.in_ok-entry.entry =
    is_let_in c.args.limits.now c.args.now c.known.result c.in_ok-entry.entry (sym c.admitted.ensures ∙ c.in_ok-entry.was) in
    ok_is (IsSourceFull c.args.source c.args.limits.now c.args.self.now) c.place_for-place.result refusal.Full
    (not_full c.args.source c.args.limits.now c.args.now c.args.self.now c.known.result c.in_ok-entry.entry known came)

pub returns-clause-rate : goal.returns-clause-rate
returns-clause-rate c =
    let own : IsOwn c.place_of-own.result c.args.source c.args.self.now =
    record { there = c.place_of-own.ensures.there; none = c.place_of-own.ensures.none } in
    let known : IsKnown c.args.source c.args.limits.now c.args.now c.args.self.now c.known.result =
    known_of c.place_of-own.result c.args.source c.args.limits.now c.args.now c.args.self.now c.known.result
    c.place_of-own.ensures.table own c.known.ensures in
    let came : IsLetIn c.args.limits.now c.args.now c.known.result c.in_ok-entry.entry =
    is_let_in c.args.limits.now c.args.now c.known.result c.in_ok-entry.entry (sym c.admitted.ensures ∙ c.in_ok-entry.was) in
    ok_is (IsOverRate c.args.source c.args.limits.now c.args.now c.args.self.now) c.place_for-place.result refusal.Rate
    (not_over c.args.source c.args.limits.now c.args.now c.args.self.now c.known.result c.in_ok-entry.entry known came)

pub returns-clause-never_more : goal.returns-clause-never_more
returns-clause-never_more c =
    let own : IsOwn c.place_of-own.result c.args.source c.args.self.now =
    record { there = c.place_of-own.ensures.there; none = c.place_of-own.ensures.none } in
    let known : IsKnown c.args.source c.args.limits.now c.args.now c.args.self.now c.known.result =
    known_of c.place_of-own.result c.args.source c.args.limits.now c.args.now c.args.self.now c.known.result
    c.place_of-own.ensures.table own c.known.ensures in
    let came : IsLetIn c.args.limits.now c.args.now c.known.result c.in_ok-entry.entry =
    is_let_in c.args.limits.now c.args.now c.known.result c.in_ok-entry.entry (sym c.admitted.ensures ∙ c.in_ok-entry.was) in
    never_more_if c.place_of-own.result c.place_for-place.result c.args.source c.args.limits.now c.args.now c.args.self.now
    c.put.new.self c.known.result c.in_ok-entry.entry c.place_of-own.ensures.table own c.place_for-place.ensures known came
    c.put.ensures
